-- The way of a row at a node.
use Rattle.std.proofs.Common.{◌≡◌, ◌+◌, ◌<◌, ℕ, ℤ, pos, Bool, true, false, cond, ◌||◌, List, [], ◌∷◌, ◌++◌, length, slice_get, None, Some, Option, IfSome, refl, sym, ap, ◌∙◌, subst, length-append}
use Rattle.std.specs.Prelude.{int_lt, option_map}
use Rattle.std.specs.List.{list_any}
use Rattle.std.proofs.lemmas.Bool.{or_from, or_parts}
use Rattle.std.proofs.lemmas.List.{append_assoc}
use Rattle.std.proofs.lemmas.List.Folds.{list_any-append}
use Rattle.be_base.specs.declared.names.AttrNo.{AttrNo}
use Rattle.be_model.specs.declared.changes.Row.{Row}
use Rattle.be_model.specs.declared.paths.Hop.{Hop}
use Rattle.be_model.specs.declared.paths.Hop.TheVariants.{Low, High}
use Rattle.be_model.specs.Rows.{has}
use Rattle.be_model.specs.Schemas.{Attributes}
use Rattle.be_score.specs.Scores.{weight}
use Rattle.be_shape.specs.declared.nodes.Part.{Part as PartOf}
use Rattle.be_shape.specs.Plain.{Plain, node, Parts, no_part, part, Half, no_half, half, parts_as}
use Rattle.be_shape.specs.Shape.{NodeRange, known, lower, upper, fits_half, attrs_of}
use Rattle.be_shape.specs.Children.{roots_of, root_of, may_pass}
use Rattle.be_shape.proofs.PartPlaces.{part_within}
use Rattle.be_insert.specs.Ways.{heavier, better_part, best_from, IsWay, NoWay}

pub low_way : (s : Attributes) (r : NodeRange) (rows : List Row) (parts : Parts) (low high : Half) (row : Row) → fits_half s (known (lower r) []) low row ≡ true → IsWay s r (node rows parts low high) row (Low, 0)
low_way s r rows parts no_half high row h = absurd (cc)
low_way s r rows parts (half m) high row h = record { passes = h; there = (m, refl) }

pub high_way : (s : Attributes) (r : NodeRange) (rows : List Row) (parts : Parts) (low high : Half) (row : Row) → fits_half s (known (upper r) []) high row ≡ true → IsWay s r (node rows parts low high) row (High, 0)
high_way s r rows parts low no_half row h = absurd (cc)
high_way s r rows parts low (half m) row h = record { passes = h; there = (m, refl) }

-- the best part is one of those whose attribute the row has
record IsTaken (row : Row) (all : List AttrNo) (i : ℕ) : Type 0 where
  attr : AttrNo
  at : slice_get all i ≡ Some attr
  takes : has attr row ≡ true

abbrev AllTaken : Row → List AttrNo → Option (ℕ × ℤ) → Type 0
AllTaken row all best = IfSome best (λ b. IsTaken row all b.0)

heavier_taken : (row : Row) (all : List AttrNo) (best : Option (ℕ × ℤ)) (next : ℕ × ℤ) → AllTaken row all best → IsTaken row all next.0 → AllTaken row all (heavier best next)
heavier_taken row all None next h k = k
heavier_taken row all (Some b) next h k = by_test (int_lt b.1 next.1)
  where
    by_test : (t : Bool) → AllTaken row all (cond t (Some next) (Some b))
    by_test true = k
    by_test false = h

behind : (front : List AttrNo) (a : AttrNo) (more : List AttrNo) → slice_get (front ++ a ∷ more) (length front) ≡ Some a
behind [] a more = refl
behind (b ∷ front) a more = behind front a more

best_taken : (s : Attributes) (row : Row) (all front attrs : List AttrNo) (best : Option (ℕ × ℤ)) → all ≡ front ++ attrs → AllTaken row all best → AllTaken row all (best_from s row (length front) best attrs)
best_taken s row all front [] best e h = h
best_taken s row all front (a ∷ more) best e h =
    let size : length front + 1 ≡ length (front ++ a ∷ []) = sym (length-append front (a ∷ [])) in
    subst (λ i. AllTaken row all (best_from s row i (better_part s row best (length front) a) more)) (sym size)
    (best_taken s row all (front ++ a ∷ []) more (better_part s row best (length front) a) (e ∙ sym (append_assoc front (a ∷ []) more)) (by_test (has a row) refl))
  where
    by_test : (t : Bool) → has a row ≡ t → AllTaken row all (cond t (heavier best (length front, pos (weight s a row))) best)
    by_test true k =
        heavier_taken row all best (length front, pos (weight s a row)) h (record { attr = a; at = ap (λ l. slice_get l (length front)) e ∙ behind front a more; takes = k })
    by_test false k = h

some_stays : (s : Attributes) (row : Row) (attrs : List AttrNo) (i : ℕ) (b : ℕ × ℤ) → best_from s row i (Some b) attrs ≡ None → ⊥
some_stays s row [] i b h = absurd (cc)
some_stays s row (a ∷ more) i b h = by_test (has a row) h (λ j c. some_stays s row more j c)
  where
    by_heavier : (t : Bool) (next : ℕ × ℤ) → best_from s row (i + 1) (cond t (Some next) (Some b)) more ≡ None → ((j : ℕ) (c : ℕ × ℤ) → best_from s row j (Some c) more ≡ None → ⊥) → ⊥
    by_heavier true next e f = f (i + 1) next e
    by_heavier false next e f = f (i + 1) b e

    by_test : (t : Bool) → best_from s row (i + 1) (cond t (heavier (Some b) (i, pos (weight s a row))) (Some b)) more ≡ None → ((j : ℕ) (c : ℕ × ℤ) → best_from s row j (Some c) more ≡ None → ⊥) → ⊥
    by_test true e f = by_heavier (int_lt b.1 (pos (weight s a row))) (i, pos (weight s a row)) e f
    by_test false e f = f (i + 1) b e

none_taken : (s : Attributes) (row : Row) (attrs : List AttrNo) (i : ℕ) → best_from s row i None attrs ≡ None → list_any (λ a. has a row) attrs ≡ false
none_taken s row [] i h = refl
none_taken s row (a ∷ more) i h = by_test (has a row) h (λ j e. none_taken s row more j e)
  where
    by_test : (t : Bool) → best_from s row (i + 1) (cond t (Some (i, pos (weight s a row))) None) more ≡ None → ((j : ℕ) → best_from s row j None more ≡ None → list_any (λ b. has b row) more ≡ false) → (t || list_any (λ b. has b row) more) ≡ false
    by_test true e f = absurd (some_stays s row more (i + 1) (i, pos (weight s a row)) e)
    by_test false e f = f (i + 1) e

-- what the place of the best part says
pub record PartWay (row : Row) (attrs : List AttrNo) (i : ℕ) : Type 0 where
  pub attr : AttrNo
  pub at : slice_get attrs i ≡ Some attr
  pub takes : has attr row ≡ true

pub part_way : (s : Attributes) (row : Row) (attrs : List AttrNo) (i : ℕ) → option_map (λ (b : ℕ × ℤ). b.0) (best_from s row 0 None attrs) ≡ Some i → PartWay row attrs i
part_way s row attrs i h = by_best (best_from s row 0 None attrs) (best_taken s row attrs [] attrs None refl tt) h
  where
    by_best : (o : Option (ℕ × ℤ)) → AllTaken row attrs o → option_map (λ (b : ℕ × ℤ). b.0) o ≡ Some i → PartWay row attrs i
    by_best None k e = absurd (cc)
    by_best (Some b) k e =
        let same : b.0 ≡ i = cc in
        record { attr = k.attr; at = ap (slice_get attrs) (sym same) ∙ k.at; takes = k.takes }

-- that place is one of the parts
pub best_within : (s : Attributes) (row : Row) (ps : List PartOf) (i : ℕ) → Some i ≡ option_map (λ (b : ℕ × ℤ). b.0) (best_from s row 0 None (attrs_of (parts_as ps))) → i < length ps
best_within s row ps i e = let w = part_way s row (attrs_of (parts_as ps)) i (sym e) in part_within ps i w.attr w.at

no_best : (o : Option (ℕ × ℤ)) → option_map (λ (b : ℕ × ℤ). b.0) o ≡ None → o ≡ None
no_best None h = refl
no_best (Some b) h = absurd (cc)

parts_pass : (s : Attributes) (r : NodeRange) (parts : Parts) (row : Row) → list_any (λ a. has a row) (attrs_of parts) ≡ false → list_any (λ (x : Hop × Plain). may_pass s x.0 r row) (roots_of parts) ≡ false
parts_pass s r no_part row h = refl
parts_pass s r (part a root more) row h =
    let k = or_parts (has a row) (list_any (λ b. has b row) (attrs_of more)) h in or_from (has a row) (list_any (λ (x : Hop × Plain). may_pass s x.0 r row) (roots_of more)) k.0 (parts_pass s r more row k.1)

low_passes : (s : Attributes) (r : NodeRange) (h : Half) (row : Row) → fits_half s (known (lower r) []) h row ≡ false → list_any (λ (x : Hop × Plain). may_pass s x.0 r row) (root_of Low h) ≡ false
low_passes s r no_half row e = refl
low_passes s r (half m) row e = ap (λ b. b || false) e

high_passes : (s : Attributes) (r : NodeRange) (h : Half) (row : Row) → fits_half s (known (upper r) []) h row ≡ false → list_any (λ (x : Hop × Plain). may_pass s x.0 r row) (root_of High h) ≡ false
high_passes s r no_half row e = refl
high_passes s r (half m) row e = ap (λ b. b || false) e

pub no_way : (s : Attributes) (r : NodeRange) (rows : List Row) (parts : Parts) (low high : Half) (row : Row) → fits_half s (known (lower r) []) low row ≡ false → fits_half s (known (upper r) []) high row ≡ false
    → option_map (λ (b : ℕ × ℤ). b.0) (best_from s row 0 None (attrs_of parts)) ≡ None → NoWay s r (node rows parts low high) row
no_way s r rows parts low high row a b c =
    let p = λ (x : Hop × Plain). may_pass s x.0 r row in
    list_any-append p (roots_of parts ++ root_of Low low) (root_of High high)
    ∙ or_from (list_any p (roots_of parts ++ root_of Low low)) (list_any p (root_of High high))
    (list_any-append p (roots_of parts) (root_of Low low) ∙ or_from (list_any p (roots_of parts)) (list_any p (root_of Low low)) (parts_pass s r parts row (none_taken s row (attrs_of parts) 0 (no_best (best_from s row 0 None (attrs_of parts)) c))) (low_passes s r low row a))
    (high_passes s r high row b)
