-- The rule of a heat's words, over the words and the views of all seats of their table.
use Rattle.std.specs.Prelude.{◌≡◌, ℕ, ◌+◌, ◌-◌, ◌*◌, ◌<◌, ◌≤◌, List, [], ◌∷◌, length, replicate}
use Rattle.atomic_table.specs.Table.{State, Me, Step}
use Rattle.atomic_table.specs.Seated.{TableId}
use Rattle.be_base.specs.declared.limits.TheConstants.{SEATS}
use Rattle.be_shared_sums.specs.Tallied.{Tallied}
use Rattle.be_heat.specs.declared.limits.TheConstants.{SEAT_ADDS}
use Rattle.be_heat.specs.declared.rule.Size.{Size}
use Rattle.be_heat.specs.Seats.{at_word, one_more}

-- a view: how many of the heat's seats it stands for, and what these have added to each word
pub record HandState : Type 0 where
  pub share : ℕ
  pub counts : List ℕ

abbrev pub hand : ℕ → List ℕ → HandState
hand share counts = record { share = share; counts = counts }

-- the view of a new table, which stands for every seat
abbrev pub first_hand : Size → HandState
first_hand size = hand size.seats (replicate size.words 0)

-- each count of a view is at most SEAT_ADDS for each of its shares
abbrev pub FitsHand : HandState → Type 0
FitsHand v = (word : ℕ) → at_word v.counts word ≤ SEAT_ADDS * v.share

-- the shares of all views are the seats, and each word is the sum of its counts over all views
pub record Counted (size : Size) (s : State (Unit {0}) HandState) : Type 0 where
  pub long : length s.words ≡ size.words
  pub tallied : Tallied (λ (v : HandState). v.share) (λ word v. at_word v.counts word) FitsHand size.seats (at_word s.words) s.views

-- what a fetch_add tells: the seat's own count of that word has one more
abbrev pub HasAdded : Step (Unit {0}) → Me (Unit {0}) HandState → ℕ → Me (Unit {0}) HandState → Type 0
HasAdded st before found after = after ≡ (hand before.0.share (one_more before.0.counts st.word), before.1)

-- the view that hands on one share, and the one that has it
abbrev pub one_less : HandState → HandState
one_less v = hand (v.share - 1) v.counts

abbrev pub one_share : HandState → HandState
one_share v = hand 1 v.counts

-- the sums of two lists, word by word
abbrev pub added : List ℕ → List ℕ → List ℕ
added [] ys = ys
added (x ∷ xs) [] = x ∷ xs
added (x ∷ xs) (y ∷ ys) = (x + y) ∷ added xs ys

-- two views in one
abbrev pub both : HandState → HandState → HandState
both v w = hand (v.share + w.share) (added v.counts w.counts)

-- what the type of a heat keeps
pub record IsHeatOf (table : TableId) (words : ℕ) (size : Size) : Type 0 where
  pub long : table.words ≡ words
  pub no_slot : table.slots ≡ 0
  pub told : size.words ≡ words
  pub some_words : 0 < words
  pub some_seats : 0 < size.seats
  pub few_seats : size.seats ≤ SEATS

-- what the type of a seat keeps: its view has one share, and the counts that the seat has itself
pub record IsSeatOf (table : TableId) (me : Me (Unit {0}) HandState) (own : List ℕ) : Type 0 where
  pub knows : me ≡ (hand 1 own, [])
  pub long : length own ≡ table.words
