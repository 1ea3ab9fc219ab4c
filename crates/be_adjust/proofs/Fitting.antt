-- Places that rows take, list by list.
use Rattle.std.proofs.Common.{◌≡◌, ◌<◌, ◌≤◌, ◌-◌, ◌+◌, ℕ, zero, suc, Bool, true, false, cond, leb, ◌&&◌, List, [], ◌∷◌, ◌++◌, length, drop, get_or, Option, None, Some, option_and_then, refl, sym, ap, ◌∙◌, arith, length-append}
use Rattle.std.specs.List.{list_all}
use Rattle.std.proofs.lemmas.Bool.{and_from, leb-true, leb-false, le-leb, lt-leb}
use Rattle.std.proofs.lemmas.List.{append_assoc, append-nil, drop_more}
use Rattle.std.proofs.lemmas.List.Folds.{list_all-append}
use Rattle.be_base.specs.declared.names.AttrNo.{AttrNo}
use Rattle.be_model.specs.declared.changes.Row.{Row}
use Rattle.be_shape.specs.declared.nodes.Part.{Part}
use Rattle.be_shape.specs.declared.nodes.Node.TheViews.{out-Part}
use Rattle.be_shape.specs.Plain.{Plain, plain, part_as, parts_of, parts_as, rows_below, rows_in_parts}
use Rattle.be_shape.proofs.Plains.{part_out}
use Rattle.be_adjust.specs.Fits.{fit}

none_of : (b : Bool) (n : ℕ) → b ≡ false → cond b (Some n) None ≡ None
none_of b n e = ap (λ x. cond x (Some n) None) e

some_of : (b : Bool) (n : ℕ) → b ≡ true → cond b (Some n) None ≡ Some n
some_of b n e = ap (λ x. cond x (Some n) None) e

and_false_left : (a b : Bool) → a ≡ false → (a && b) ≡ false
and_false_left a b e = ap (λ x. x && b) e

and_false_right : (a b : Bool) → b ≡ false → (a && b) ≡ false
and_false_right true b e = e
and_false_right false b e = refl

-- where a list doesn't fit, and where it does
pub no_fit : (p : Row → Bool) (most : ℕ) (xs : List Row) → most < length xs → fit p most xs ≡ None
no_fit p most xs l = none_of (list_all p xs && leb (length xs) most) (most - length xs) (and_false_right (list_all p xs) (leb (length xs) most) (lt-leb (length xs) most l))

pub fails : (p : Row → Bool) (most : ℕ) (xs : List Row) → list_all p xs ≡ false → fit p most xs ≡ None
fails p most xs h = none_of (list_all p xs && leb (length xs) most) (most - length xs) (and_false_left (list_all p xs) (leb (length xs) most) h)

pub fits : (p : Row → Bool) (most : ℕ) (xs : List Row) → list_all p xs ≡ true → length xs ≤ most → fit p most xs ≡ Some (most - length xs)
fits p most xs h l = some_of (list_all p xs && leb (length xs) most) (most - length xs) (and_from (list_all p xs) (leb (length xs) most) h (le-leb (length xs) most l))

-- a list by its two parts
pub fit_append : (p : Row → Bool) (most : ℕ) (xs ys : List Row) → fit p most (xs ++ ys) ≡ option_and_then (λ left. fit p left ys) (fit p most xs)
fit_append p most xs ys = by_first (list_all p xs) refl
  where
    all : list_all p (xs ++ ys) ≡ (list_all p xs && list_all p ys)
    all = list_all-append p xs ys

    by_room : list_all p xs ≡ true → list_all p ys ≡ true → (b : Bool) → leb (length xs) most ≡ b → (c : Bool) → leb (length (xs ++ ys)) most ≡ c → fit p most (xs ++ ys) ≡ option_and_then (λ left. fit p left ys) (fit p most xs)
    by_room h k false e c f =
        no_fit p most (xs ++ ys) (let l = leb-false (length xs) most e in omega (arith, length-append xs ys)) ∙ sym (ap (option_and_then (λ left. fit p left ys)) (no_fit p most xs (let l = leb-false (length xs) most e in omega arith)))
    by_room h k true e false f =
        no_fit p most (xs ++ ys) (let l = leb-false (length (xs ++ ys)) most f in omega arith)
        ∙ sym (ap (option_and_then (λ left. fit p left ys)) (fits p most xs h (leb-true (length xs) most e)) ∙ no_fit p (most - length xs) ys (let l = leb-false (length (xs ++ ys)) most f in let g = leb-true (length xs) most e in omega (arith, length-append xs ys)))
    by_room h k true e true f =
        let l = leb-true (length (xs ++ ys)) most f in
        let g = leb-true (length xs) most e in
        let same : most - length (xs ++ ys) ≡ most - length xs - length ys = omega (arith, length-append xs ys) in
        fits p most (xs ++ ys) (all ∙ and_from (list_all p xs) (list_all p ys) h k) l ∙ ap (λ n. Some n) same
        ∙ sym (ap (option_and_then (λ left. fit p left ys)) (fits p most xs h g) ∙ fits p (most - length xs) ys k (omega (arith, length-append xs ys)))

    nothing : (o : Option ℕ) → ((left : ℕ) → fit p left ys ≡ None) → option_and_then (λ left. fit p left ys) o ≡ None
    nothing None f = refl
    nothing (Some n) f = f n

    by_second : list_all p xs ≡ true → (b : Bool) → list_all p ys ≡ b → fit p most (xs ++ ys) ≡ option_and_then (λ left. fit p left ys) (fit p most xs)
    by_second h false k =
        fails p most (xs ++ ys) (all ∙ and_false_right (list_all p xs) (list_all p ys) k) ∙ sym (nothing (fit p most xs) (λ left. fails p left ys k))
    by_second h true k = by_room h k (leb (length xs) most) refl (leb (length (xs ++ ys)) most) refl

    by_first : (b : Bool) → list_all p xs ≡ b → fit p most (xs ++ ys) ≡ option_and_then (λ left. fit p left ys) (fit p most xs)
    by_first false h =
        fails p most (xs ++ ys) (all ∙ and_false_left (list_all p xs) (list_all p ys) h) ∙ sym (ap (option_and_then (λ left. fit p left ys)) (fails p most xs h))
    by_first true h = by_second h (list_all p ys) refl

-- lists put one after another
pub five : {X : Type 0} (l a b c d : List X) → l ++ a ++ b ++ c ++ d ≡ l ++ (a ++ b ++ c ++ d)
five l a b c d =
    ap (λ q. q ++ c ++ d) (append_assoc l a b) ∙ ap (λ q. q ++ d) (append_assoc l (a ++ b) c) ∙ append_assoc l (a ++ b ++ c) d

-- the rows below parts, those of the first one apart
pub rows_next : (ps : List Part) (i : ℕ) (p : Part) → i < length ps → p ≡ get_or ps i p → rows_in_parts (parts_as (drop i ps)) ≡ rows_below (plain (out-Part p).root.value) ++ rows_in_parts (parts_as (drop (i + 1) ps))
rows_next ps i p l is =
    ap (λ xs. rows_in_parts (parts_as xs)) (drop_more ps i p l ∙ ap (λ q. q ∷ drop (i + 1) ps) (sym is)) ∙ ap (λ (q : AttrNo × Plain). rows_below q.1 ++ rows_in_parts (parts_as (drop (i + 1) ps))) (part_out p)

pub none_left : (ps : List Part) (i : ℕ) → length ps ≤ i → rows_in_parts (parts_as (drop i ps)) ≡ []
none_left [] zero l = refl
none_left [] (suc i) l = refl
none_left (p ∷ ps) zero l = absurd (omega arith)
none_left (p ∷ ps) (suc i) l = none_left ps i (omega arith)

-- the rows of the next list take the places that the first left
pub fit_some : (p : Row → Bool) (most left : ℕ) (xs ys : List Row) → fit p most xs ≡ Some left → fit p most (xs ++ ys) ≡ fit p left ys
fit_some p most left xs ys h = fit_append p most xs ys ∙ ap (option_and_then (λ n. fit p n ys)) h

pub fit_none : (p : Row → Bool) (most : ℕ) (xs ys : List Row) → fit p most xs ≡ None → fit p most (xs ++ ys) ≡ None
fit_none p most xs ys h = fit_append p most xs ys ∙ ap (option_and_then (λ n. fit p n ys)) h

-- and so do those of the second, where that is asked after the first
pub fit_both : (p : Row → Bool) (most : ℕ) (xs ys : List Row) {left : ℕ} {a b : Option ℕ} → fit p most xs ≡ a → a ≡ Some left → b ≡ fit p left ys → fit p most (xs ++ ys) ≡ b
fit_both p most xs ys {left = left} h e k = fit_some p most left xs ys (h ∙ e) ∙ sym k

-- the rows below parts, those of the first one apart
pub rows_apart : (ps : List Part) (i : ℕ) (p : Part) → i < length ps → p ≡ get_or ps i p → rows_in_parts (parts_as (drop i ps)) ≡ rows_in_parts (parts_of (part_as p ∷ [])) ++ rows_in_parts (parts_as (drop (i + 1) ps))
rows_apart ps i p l is =
    ap (λ xs. rows_in_parts (parts_as xs)) (drop_more ps i p l ∙ ap (λ q. q ∷ drop (i + 1) ps) (sym is)) ∙ ap (λ x. x ++ rows_in_parts (parts_as (drop (i + 1) ps))) (sym (append-nil (rows_below (part_as p).1)))
