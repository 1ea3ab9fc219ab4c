-- The letter box of a run with one session, beside its walk.
use Rattle.std.specs.Prelude.{◌≡◌, ℕ, ◌+◌, ◌||◌, Bool, List, [], ◌∷◌, ◌++◌, length, take, drop, nat_le, if◌then◌else◌}
use Rattle.be_base.specs.declared.limits.TheConstants.{BOX_LETTERS}
use Rattle.be_model.specs.declared.changes.Row.{Row}
use Rattle.be_model.specs.Matching.{Assignments}
use Rattle.be_change.specs.History.{Entry, ByIds, is_of, hit_rows}
use Rattle.be_change.specs.Requests.{Note, note, sending, fetching, sent, notes, Exchange}

abbrev pub is_full : List Note → Bool
is_full box = nat_le BOX_LETTERS (length box)

-- the box after a letter to the row's session, which finds no place where the box is full or the row is of session 0
abbrev pub with_letter : ℕ → Assignments → ℕ × Row → List Note → List Note
with_letter n e r box = if is_of 0 r || is_full box then box else box ++ note n r.1.name e ∷ []

-- the box after a letter to the session of each row
abbrev pub with_letters : ℕ → Assignments → ByIds → List Note → List Note
with_letters n e [] box = box
with_letters n e (r ∷ rs) box = with_letters n e rs (with_letter n e r box)

-- the box after the exchange: SEND goes through its hits by rising id, and FETCH takes what it gives
abbrev pub box_after : List Entry → Exchange → List Note → List Note
box_after h (sending e, sent n put dropped) box = with_letters n e (hit_rows (take n h) e) box
box_after h (fetching max, notes letters) box = drop max box
box_after h _ box = box

-- what the box owes the reply: SEND counts the letters that were put, and FETCH gives the first of the box
abbrev pub IsBoxed : List Entry → Exchange → List Note → Type 0
IsBoxed h (sending e, sent n put dropped) box = length box + put ≡ length (with_letters n e (hit_rows (take n h) e) box)
IsBoxed h (fetching max, notes letters) box = letters ≡ take max box
IsBoxed h _ box = Unit {0}

-- the replies are those of a run whose box was the first, and is the second
abbrev pub KeepsBox : List Entry → List Exchange → List Note → List Note → Type 0
KeepsBox h [] box box' = box' ≡ box
KeepsBox h (p ∷ ps) box box' = IsBoxed h p box × KeepsBox h ps (box_after h p box) box'
