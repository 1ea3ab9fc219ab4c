-- Acts as plain data.
use Rattle.std.specs.Prelude.{◌≡◌, ℕ, ◌==◌, Bool, true, false, List, map}
use Rattle.std.specs.List.{list_any}
use Rattle.std.specs.Arc.{arc_value}
use Rattle.be_model.specs.Matching.{Assignments}
use Rattle.be_change.specs.History.{Entry}
use Rattle.be_change.specs.Entries.{entry_of}
use Rattle.be_core.specs.declared.acts.Act.{Act}
use Rattle.be_core.specs.declared.acts.Act.TheVariants.{Ask, Publish, Reshape, Read, Tell, Leave}

-- an act, without what only memory knows of it
pub data Deed : Type 0 where
  -- the session asks for a change
  asks : (session : ℕ) → Entry → Deed
  publishes : Deed
  reshapes : Deed
  -- the session looks, in the first n changes, for what the event satisfies
  reads : (session n : ℕ) → Assignments → Deed
  -- the session is told how much is published
  tells : (session : ℕ) → Deed
  leaves : (session : ℕ) → Deed

abbrev pub deed_of : Act → Deed
deed_of (Ask k c) = asks k.0 (entry_of (arc_value c))
deed_of Publish = publishes
deed_of Reshape = reshapes
deed_of (Read k n e) = reads k.0 n e
deed_of (Tell k) = tells k.0
deed_of (Leave k) = leaves k.0

-- whether the session makes the act
abbrev pub is_by : ℕ → Deed → Bool
is_by k (asks j c) = j == k
is_by k publishes = false
is_by k reshapes = false
is_by k (reads j n e) = j == k
is_by k (tells j) = j == k
is_by k (leaves j) = j == k

abbrev pub deeds_of : List Act → List Deed
deeds_of acts = map deed_of acts

-- session 0 makes none of the acts
abbrev pub AreOfSessions : List Deed → Type 0
AreOfSessions acts = list_any (is_by 0) acts ≡ false

abbrev pub is_reshape : Deed → Bool
is_reshape reshapes = true
is_reshape (asks k c) = false
is_reshape publishes = false
is_reshape (reads k n e) = false
is_reshape (tells k) = false
is_reshape (leaves k) = false
