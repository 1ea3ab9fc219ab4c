-- What a seat of the heat has counted.
use Rattle.std.specs.Prelude.{◌≡◌, ℕ, ℤ, zero, suc, ◌+◌, ◌<◌, ◌≤◌, Bool, true, false, cond, List, length, All}
use Rattle.std.specs.List.{count_by}
use Rattle.be_base.specs.declared.limits.TheConstants.{FILE_BYTES}
use Rattle.be_base.specs.declared.names.AttrNo.{AttrNo}
use Rattle.be_change.specs.Requests.{Request, publish, Exchange}
use Rattle.be_heat.specs.Seats.{at_word}
use Rattle.be_model.specs.Matching.{Assignments, is_assigned}
use Rattle.be_model.specs.Schemas.{Attributes, numbered}
use Rattle.be_demand.specs.Demand.{is_answered, asks_for, assigns, IsOver}

-- what an exchange counts for: word 0 is for each HIT, and word a + 1 for those whose event assigns attribute a
abbrev pub counts_for : ℕ → Exchange → Bool
counts_for zero p = is_answered p
counts_for (suc a) p = asks_for a p

abbrev pub count_of : ℕ → List Exchange → ℕ
count_of word ps = count_by (counts_for word) ps

-- what a request counts for where it is answered HIT
abbrev pub adds_to : ℕ → Request → Bool
adds_to zero r = true
adds_to (suc a) r = assigns a r

-- what an event counts for, beside the word of each HIT
abbrev pub is_asked : ℕ → Assignments → Bool
is_asked zero e = false
is_asked (suc a) e = is_assigned e (numbered a)

-- one more at each word that passes the test
abbrev pub RaisedWhere : (ℕ → Bool) → ℕ → List ℕ → List ℕ → Type 0
RaisedWhere test words own own' = (word : ℕ) → word < words → at_word own' word ≡ at_word own word + cond (test word) 1 0

-- no word has more than this
abbrev pub AreAtMost : ℕ → ℕ → List ℕ → Type 0
AreAtMost most words own = (word : ℕ) → word < words → at_word own word ≤ most

-- each attribute of the event has a word
abbrev pub HaveWords : ℕ → Assignments → Type 0
HaveWords words e = All (λ (item : AttrNo × List ℤ). 1 + item.0.0 < words) e

abbrev pub HasWords : ℕ → Request → Type 0
HasWords words (publish e) = HaveWords words e
HasWords words _ = Unit {0}

-- each word has what these exchanges count for it
abbrev pub HasCounted : ℕ → List ℕ → List Exchange → Type 0
HasCounted words own ps = (word : ℕ) → word < words → at_word own word ≡ count_of word ps

-- what is counted of some exchanges, of which these are left
abbrev pub StillCounts : ℕ → List ℕ → List Exchange → List Exchange → Type 0
StillCounts words own todo ps = (word : ℕ) → word < words → at_word own word + count_of word todo ≡ count_of word ps

-- a seat that has counted a file and its transcript up to where these lines and replies are left
pub record IsCounting (s : Attributes) (words : ℕ) (file transcript lines replies own : List ℕ) : Type 0 where
  pub long : length own ≡ words
  pub few : (word : ℕ) → word < words → at_word own word + length lines ≤ FILE_BYTES
  pub counts : (ps : List Exchange) → IsOver s file transcript ps → (todo : List Exchange) × IsOver s lines replies todo × StillCounts words own todo ps
