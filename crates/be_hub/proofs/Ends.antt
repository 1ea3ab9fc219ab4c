-- Seats in the order of their files.
use Rattle.std.proofs.Common.{◌≡◌, ℕ, zero, suc, ◌<◌, List, [], ◌∷◌, ◌++◌, length, map, Some, slice_get, refl, sym, ap, ◌∙◌, subst, arith}
use Rattle.std.specs.List.{All, range_with_len}
use Rattle.std.proofs.lemmas.List.{length-map, map-append}
use Rattle.std.proofs.lemmas.List.Elements.{All-map}
use Rattle.std.proofs.lemmas.List.FromFn.{length-range_with_len, get_or-range_with_len}
use Rattle.std.proofs.lemmas.Option.{slice_get-get_or, slice_get_within, get_or_from_slice_get}
use Rattle.atomic_table.specs.Seated.{TableId}
use Rattle.be_mail.specs.Passes.{Passes}
use Rattle.be_mail.specs.Settled.{AreAll}
use Rattle.be_mail.proofs.Sums.{all_in_order}
use Rattle.be_desk.specs.Seats.{SeatState, IsKeptSeat}
use Rattle.be_hub.proofs.Pairs.{get_map}

pub there : {X : Type 0} (xs : List X) (i : ℕ) → i < length xs → (x : X) × (slice_get xs i ≡ Some x)
there [] i h = absurd (omega arith)
there (x ∷ xs) zero h = (x, refl)
there (x ∷ xs) (suc i) h = there xs i (omega arith)

-- a list that a map gave grows with what it was given
pub map_push : {E X : Type 0} (f : E → X) (es : List E) (e : E) (xs ys : List X) → xs ≡ map f es → ys ≡ xs ++ f e ∷ [] → ys ≡ map f (es ++ e ∷ [])
map_push f es e xs ys is more = more ∙ (ap (λ l. l ++ f e ∷ []) is ∙ sym (map-append f es (e ∷ [])))

pub at_its_place : (n i x : ℕ) → slice_get (range_with_len 0 n) i ≡ Some x → x ≡ i
at_its_place n i x e =
    let within = slice_get_within (range_with_len 0 n) i x e in
    let is = get_or_from_slice_get (range_with_len 0 n) i x 0 e in
    let at = get_or-range_with_len 0 n i 0 (omega (arith, within, length-range_with_len 0 n)) in
    omega (arith, is, at)

-- seats that come back, each at its place, are all seats
pub all_back : {E : Type 0} (f : E → SeatState) (boxes : List TableId) (ends : List E) (seats : List SeatState) → seats ≡ map f ends → length ends ≡ length boxes → All (IsKeptSeat boxes) seats
    → ((i : ℕ) (end : E) → slice_get ends i ≡ Some end → (f end).passes.seat ≡ i) → AreAll boxes (map (λ (s : SeatState). s.passes) seats)
all_back f boxes ends seats is count kept places =
    let passes = λ (s : SeatState). s.passes in
    all_in_order boxes (map passes seats)
    (length-map seats passes ∙ (ap (λ l. length l) is ∙ (length-map ends f ∙ count)))
    (All-map (λ (q : Passes). q.boxes ≡ boxes) passes seats (λ k d lt. (kept k d lt).boxes_are))
    (λ i d h.
    let s = get_map passes seats i _ (slice_get-get_or (map passes seats) i d h) in
    let end = get_map f ends i s.0 (subst (λ l. slice_get l i ≡ Some s.0) is s.1) in
    ap (λ (q : Passes). q.seat) (sym s.2) ∙ (ap (λ (x : SeatState). x.passes.seat) (sym end.2) ∙ places i end.0 end.1))
