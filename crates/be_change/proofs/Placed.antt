-- The entries of a session with their places.
use Rattle.std.proofs.Common.{◌≡◌, ℕ, ◌+◌, ◌<◌, ◌==◌, Bool, true, false, cond, List, [], ◌∷◌, ◌++◌, length, Some, slice_get, refl, sym, ap, ◌∙◌, subst, arith, zero-add, length-append, append_assoc}
use Rattle.std.specs.Prelude.{All, map}
use Rattle.std.proofs.lemmas.List.{append-nil, get_or_at, length-map, nil_from_length}
use Rattle.std.proofs.lemmas.List.Elements.{All-nil, All-cons}
use Rattle.std.proofs.lemmas.Option.{slice_get-get_or}
use Rattle.be_change.specs.History.{Entry, session_of, entries_of, places_from, places_of, placed_from, placed_of}
use Rattle.be_change.specs.Laws.{IsPlaced}
use Rattle.be_change.proofs.Places.{append_if, places_none}

map_if : {A B : Type 0} (f : A → B) (b : Bool) (x : A) (xs : List A) (ys : List B) → map f xs ≡ ys → map f (cond b (x ∷ xs) xs) ≡ cond b (f x ∷ ys) ys
map_if f true x xs ys e = ap (λ l. f x ∷ l) e
map_if f false x xs ys e = e

pub placed_from-places : (k n : ℕ) (h : List Entry) → map (λ (p : ℕ × Entry). p.0) (placed_from k n h) ≡ places_from k n h
placed_from-places k n [] = refl
placed_from-places k n (e ∷ es) =
    map_if (λ (p : ℕ × Entry). p.0) (session_of e == k) (n, e) (placed_from k (n + 1) es) (places_from k (n + 1) es) (placed_from-places k (n + 1) es)

pub placed_from-entries : (k n : ℕ) (h : List Entry) → map (λ (p : ℕ × Entry). p.1) (placed_from k n h) ≡ entries_of k h
placed_from-entries k n [] = refl
placed_from-entries k n (e ∷ es) =
    map_if (λ (p : ℕ × Entry). p.1) (session_of e == k) (n, e) (placed_from k (n + 1) es) (entries_of k es) (placed_from-entries k (n + 1) es)

abbrev StandIn : List Entry → ℕ × Entry → Type 0
StandIn h p = slice_get h p.0 ≡ Some p.1

all_if : (P : ℕ × Entry → Type 0) (b : Bool) (x : ℕ × Entry) (xs : List (ℕ × Entry)) → P x → All P xs → All P (cond b (x ∷ xs) xs)
all_if P true x xs one all = All-cons P x xs one all
all_if P false x xs one all = all

stand_from : (k n : ℕ) (front h : List Entry) → n ≡ length front → All (StandIn (front ++ h)) (placed_from k n h)
stand_from k n front [] is = All-nil (StandIn (front ++ []))
stand_from k n front (e ∷ es) is =
    let more : n + 1 ≡ length (front ++ e ∷ []) = omega (arith, length-append front (e ∷ [])) in
    let within : n < length (front ++ e ∷ es) = omega (arith, length-append front (e ∷ es)) in
    let here : slice_get (front ++ e ∷ es) n ≡ Some e = slice_get-get_or (front ++ e ∷ es) n e within ∙ ap (λ (x : Entry). Some x) (get_or_at front e es e n (sym is)) in
    let rest : All (StandIn (front ++ e ∷ es)) (placed_from k (n + 1) es) =
    subst (λ (l : List Entry). All (StandIn l) (placed_from k (n + 1) es)) (append_assoc front (e ∷ []) es) (stand_from k (n + 1) (front ++ e ∷ []) es more) in
    all_if (StandIn (front ++ e ∷ es)) (session_of e == k) (n, e) (placed_from k (n + 1) es) here rest

pub entries_placed : (k : ℕ) (h : List Entry) → IsPlaced k h
entries_placed k h = record { places = placed_from-places k 0 h; entries = placed_from-entries k 0 h; stand = stand_from k 0 [] h refl }

placed_from-append : (k n : ℕ) (xs ys : List Entry) → placed_from k n (xs ++ ys) ≡ placed_from k n xs ++ placed_from k (n + length xs) ys
placed_from-append k n [] ys = ap (λ (m : ℕ). placed_from k m ys) (omega arith)
placed_from-append k n (x ∷ xs) ys =
    append_if (session_of x == k) (n, x) (placed_from k (n + 1) (xs ++ ys)) (placed_from k (n + 1) xs) (placed_from k (n + length (x ∷ xs)) ys)
    (placed_from-append k (n + 1) xs ys ∙ ap (λ (m : ℕ). placed_from k (n + 1) xs ++ placed_from k m ys) (omega arith))

-- the entries of a session in a list, and then those in what follows
pub placed_of-append : (k : ℕ) (xs ys : List Entry) → placed_of k (xs ++ ys) ≡ placed_of k xs ++ placed_from k (length xs) ys
placed_of-append k xs ys = placed_from-append k 0 xs ys ∙ ap (λ (m : ℕ). placed_of k xs ++ placed_from k m ys) (zero-add (length xs))

-- where there are no places there are no entries
placed_none : (k n : ℕ) (h : List Entry) → places_from k n h ≡ [] → placed_from k n h ≡ []
placed_none k n h e =
    nil_from_length (placed_from k n h)
    (sym (length-map (placed_from k n h) (λ (p : ℕ × Entry). p.0)) ∙ (ap (λ (l : List ℕ). length l) (placed_from-places k n h) ∙ ap (λ (l : List ℕ). length l) e))

pub placed_kept : (k : ℕ) (h more : List Entry) → places_of k more ≡ [] → placed_of k (h ++ more) ≡ placed_of k h
placed_kept k h more e =
    placed_of-append k h more
    ∙ (ap (λ (l : List (ℕ × Entry)). placed_of k h ++ l) (placed_none k (length h) more (places_none k 0 (length h) more e)) ∙ append-nil (placed_of k h))
