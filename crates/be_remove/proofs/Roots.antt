-- A tree's root from which a row was taken.
use Rattle.std.proofs.Common.{◌≡◌, ◌↔◌, true, false, not, eqb, ltb, ◌&&◌, List, ◌∷◌, Option, Some, None, OnSome, IfNone, IsSome, refl, sym, ap, ◌∙◌, subst, arith}
use Rattle.std.specs.Prelude.{IsPermutation}
use Rattle.std.specs.List.{list_any, Contains}
use Rattle.std.proofs.lemmas.Bool.{and_parts, false≢true, not-true}
use Rattle.std.proofs.lemmas.List.Sorted.{IsPermutation-sym, Contains-permutation}
use Rattle.be_base.specs.declared.limits.TheConstants.{LOG_CHANGES}
use Rattle.be_model.specs.declared.changes.Row.{Row}
use Rattle.be_model.specs.Forms.{is_conj}
use Rattle.be_model.specs.Lies.{row_lies}
use Rattle.be_model.specs.Rows.{id_of}
use Rattle.be_model.specs.ByIds.{row_at, without_id, ids_differ}
use Rattle.be_model.specs.Schemas.{Attributes}
use Rattle.be_model.proofs.RowsByIds.{row_found, found_row, has_by_ids, without_put}
use Rattle.be_shape.specs.Plain.{Plain, rows_below, contents}
use Rattle.be_shape.specs.Shape.{nothing, everywhere, is_placed_at, may_stand}
use Rattle.be_shape.specs.Right.{IsRight}
use Rattle.be_shape.proofs.Contents.{still_differ, permuted}
use Rattle.be_shape.proofs.RootPut.{IsRoot}
use Rattle.be_shape.proofs.Roots.{right_root}
use Rattle.be_remove.proofs.Lacking.{all_contain}
use Rattle.be_remove.proofs.Groups.{either}

-- a row is taken exactly where it is
pub there_from : {A : Type 0} (o : Option A) (xs ys : List Row) (row : Row) → OnSome o (IsPermutation xs (row ∷ ys)) → IfNone o (Contains xs row → ⊥) → IsSome o ↔ Contains xs row
there_from (Some x) xs ys row p q =
    (λ _. Contains-permutation (row ∷ ys) xs row (IsPermutation-sym xs (row ∷ ys) p) (0, omega arith, refl), λ _. refl)
there_from None xs ys row p q = (λ h. absurd (false≢true h), λ c. absurd (q c))

differ : (s : Attributes) (n : Plain) → IsRoot s n → ids_differ (rows_below n) ≡ true
differ s n r =
    (and_parts (everywhere (is_placed_at s) s nothing n) (ids_differ (rows_below n)) r.placed).1

pub by_id : {P : Type 0} (s : Attributes) (n : Plain) (row : Row) → IsRoot s n → (P ↔ Contains (rows_below n) row) → P ↔ (row_at (id_of row) (contents n) ≡ Some row)
by_id s n row r e =
    (λ p. row_found (rows_below n) row (differ s n r) (e.0 p), λ k. e.1 (found_row (rows_below n) (id_of row) row k).0)

-- a row that doesn't lie in the schema isn't there
pub not_there : (s : Attributes) (n : Plain) (row : Row) → IsRoot s n → row_lies s row ≡ false → row_at (id_of row) (contents n) ≡ Some row → ⊥
not_there s n row r h k =
    let may = all_contain (may_stand s) (rows_below n) row r.lie (found_row (rows_below n) (id_of row) row k).0 in
    false≢true (sym h ∙ (and_parts (row_lies s row) (ltb (id_of row) LOG_CHANGES) (and_parts (is_conj row.conj) (row_lies s row && ltb (id_of row) LOG_CHANGES) may).1).0)

others : (s : Attributes) (n m : Plain) (row : Row) → IsRoot s n → IsPermutation (rows_below n) (row ∷ rows_below m) → (list_any (λ other. eqb (id_of other) (id_of row)) (rows_below m) ≡ false) × (ids_differ (rows_below m) ≡ true)
others s n m row r p =
    let k = and_parts (not (list_any (λ other. eqb (id_of other) (id_of row)) (rows_below m))) (ids_differ (rows_below m)) (still_differ (rows_below n) (row ∷ rows_below m) p (differ s n r)) in
    (not-true (list_any (λ other. eqb (id_of other) (id_of row)) (rows_below m)) k.0, k.1)

-- the contents are without the row
pub without_row : (s : Attributes) (n m : Plain) (row : Row) → IsRoot s n → IsPermutation (rows_below n) (row ∷ rows_below m) → contents m ≡ without_id (id_of row) (contents n)
without_row s n m row r p =
    sym (ap (without_id (id_of row)) (permuted (rows_below n) (row ∷ rows_below m) p (differ s n r)) ∙ without_put row (contents m) (has_by_ids (id_of row) (rows_below m) ∙ (others s n m row r p).0))

-- the root is still as the tree's type keeps it
pub root_stays : {A : Type 0} (s : Attributes) (n m : Plain) (row : Row) (o : Option A) → IsRoot s n → OnSome o (IsPermutation (rows_below n) (row ∷ rows_below m)) → IfNone o (m ≡ n) → IsRight s nothing m → IsRoot s m
root_stays s n m row o r p q right =
    either o p q (λ h. right_root s m right (others s n m row r h).1) (λ e. subst (IsRoot s) (sym e) r)
