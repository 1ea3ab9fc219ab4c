-- A list that is put change by change.
use Rattle.std.proofs.Common.{◌≡◌, ℕ, zero, suc, ◌+◌, ◌<◌, ◌≤◌, ◌⊎◌, inl, inr, length, Some, slice_get, map, List, [], ◌∷◌, ◌++◌, refl, sym, ap, ◌∙◌, subst, append_assoc, arith}
use Rattle.std.specs.List.{All}
use Rattle.std.proofs.lemmas.List.Elements.{All-cons, All-head, All-nil, All-tail}
use Rattle.std.proofs.lemmas.Option.{slice_get_within}
use Rattle.atomic_table.specs.Seated.{TableId}
use Rattle.be_mail.specs.Passes.{Passes, new_passes}
use Rattle.be_desk.specs.Seats.{SeatState, seat_for, first_seat}
use Rattle.be_base.proofs.Beginnings.{BeginsWith-same}
use Rattle.be_model.specs.declared.paths.Step.{Step}
use Rattle.be_published.specs.States.{PressState, settled}
use Rattle.be_desk.specs.Desks.{IsHeld, IsOpened}
use Rattle.be_change.specs.History.{Entry, session_of, IsWellFormed, MayFollow}
use Rattle.be_change.proofs.Forms.{formed_front, formed_last}

-- a change may follow those before it
pub next_follows : (h : List Entry) (before : List Entry) (e : Entry) (after : List Entry) → before ++ e ∷ after ≡ h → IsWellFormed h → IsWellFormed before × MayFollow before e
next_follows h before e after is formed =
    let all : IsWellFormed ((before ++ e ∷ []) ++ after) = subst IsWellFormed (sym (append_assoc before (e ∷ []) after ∙ is)) formed in
    let one : IsWellFormed (before ++ e ∷ []) = formed_front (before ++ e ∷ []) after all in
    (formed_front before (e ∷ []) one, formed_last before e one)

pub map_seats : (h : List Entry) (boxes : List TableId) (ns : List ℕ) → map (seat_for h) (map (new_passes boxes) ns) ≡ map (first_seat h boxes) ns
map_seats h boxes [] = refl
map_seats h boxes (n ∷ ns) = ap (λ (l : List SeatState). first_seat h boxes n ∷ l) (map_seats h boxes ns)

abbrev pub is_new : List TableId → Passes → Type 0
is_new boxes pass = pass ≡ new_passes boxes pass.seat

pub all_new : (boxes : List TableId) (ns : List ℕ) → All (is_new boxes) (map (new_passes boxes) ns)
all_new boxes [] = All-nil (is_new boxes)
all_new boxes (n ∷ ns) = All-cons (is_new boxes) (new_passes boxes n) (map (new_passes boxes) ns) refl (all_new boxes ns)

pub all_here : {X : Type 0} (P : X → Type 0) (xs : List X) (y : X) (ys : List X) → All P (xs ++ y ∷ ys) → P y
all_here P [] y ys all = All-head P y ys all
all_here P (x ∷ xs) y ys all = all_here P xs y ys (All-tail P x (xs ++ y ∷ ys) all)

pub all_front : {X : Type 0} (P : X → Type 0) (xs ys : List X) → All P (xs ++ ys) → All P xs
all_front P [] ys all = All-nil P
all_front P (x ∷ xs) ys all = All-cons P x xs (All-head P x (xs ++ ys) all) (all_front P xs ys (All-tail P x (xs ++ ys) all))

-- nothing is held at a press that is settled
pub held_settled : (p : PressState) (h : List Entry) (steps : List Step) → p ≡ settled h steps → IsHeld p.published p.list
held_settled p h steps is = subst (λ (x : PressState). IsHeld x.published x.list) (sym is) (record { begins = BeginsWith-same h; one = omega arith })

-- a desk's list is opened by all of it
pub opened_same : (h : List Entry) → IsOpened h h
opened_same h = record {
  begins = BeginsWith-same h;
  behind = λ p e le at. absurd (omega (arith, le, slice_get_within h p e at));
}

some_same : {X : Type 0} (a b : X) → Some a ≡ Some b → a ≡ b
some_same a b e = cc

-- at a place of a list with one entry more stands what stood there, or the new one
one_more : (h : List Entry) (e x : Entry) (p : ℕ) → slice_get (h ++ e ∷ []) p ≡ Some x → (slice_get h p ≡ Some x) ⊎ (e ≡ x)
one_more [] e x zero at = inr (some_same e x at)
one_more [] e x (suc p) at = absurd cc
one_more (a ∷ h) e x zero at = inl at
one_more (a ∷ h) e x (suc p) at = one_more h e x p at

-- a change of a session comes behind the opening
pub opened_more : (opening h : List Entry) (e : Entry) → 0 < session_of e → IsOpened opening h → IsOpened opening (h ++ e ∷ [])
opened_more opening h e some opened = record {
  begins = (opened.begins.0 ++ e ∷ [], ap (λ (l : List Entry). l ++ e ∷ []) opened.begins.1 ∙ append_assoc opening opened.begins.0 (e ∷ []));
  behind = λ p x le at. go p x le (one_more h e x p at);
}
  where
    go : (p : ℕ) (x : Entry) → length opening ≤ p → (slice_get h p ≡ Some x) ⊎ (e ≡ x) → 0 < session_of x
    go p x le (inl at) = opened.behind p x le at
    go p x le (inr is) = subst (λ (y : Entry). 0 < session_of y) is some
