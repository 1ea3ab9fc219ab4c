-- A tree's root, and what its type keeps.
use Rattle.std.proofs.Common.{◌≡◌, true, false, eqb, [], ◌∷◌, ◌++◌, Result, Ok, Err, OnOk, OnErr, IfErr, sym, ◌∙◌, subst}
use Rattle.std.specs.Prelude.{IsPermutation}
use Rattle.std.specs.List.{list_any}
use Rattle.std.specs.Arc.{arc_value}
use Rattle.std.specs.declared.sync.Arc.{Arc}
use Rattle.std.proofs.lemmas.Bool.{and_parts}
use Rattle.std.proofs.lemmas.List.{append-nil}
use Rattle.be_base.specs.declared.names.NoMemory.{NoMemory}
use Rattle.be_model.specs.declared.changes.Row.{Row}
use Rattle.be_model.specs.Rows.{id_of}
use Rattle.be_model.specs.ByIds.{put_by_id, has_id, ids_differ}
use Rattle.be_model.specs.Schemas.{Attributes}
use Rattle.be_model.proofs.RowsByIds.{put_last, has_by_ids}
use Rattle.be_shape.specs.Plain.{Plain, rows_below, contents}
use Rattle.be_shape.specs.Shape.{nothing, everywhere, is_placed_at}
use Rattle.be_shape.specs.Right.{IsRight}
use Rattle.be_insert.specs.Refusals.{back}
use Rattle.be_shape.proofs.Contents.{still_differ, permuted, front_differ, less_permuted}
use Rattle.be_shape.proofs.RootPut.{IsRoot, differ_put}
use Rattle.be_shape.proofs.Roots.{right_root}

-- what a placement leaves of the contents
pub record Placement {A Z : Type 0} (s : Attributes) (n m : Plain) (x : Row) (result : Result A (Arc Row Z × NoMemory)) : Type 0 where
  pub root : IsRoot s m
  pub put : OnOk result (contents m ≡ put_by_id x (contents n))
  pub refused : OnErr result (contents m ≡ contents n)

new_rows : (s : Attributes) (n : Plain) (x : Row) → IsRoot s n → has_id (id_of x) (contents n) ≡ false → (list_any (λ other. eqb (id_of other) (id_of x)) (rows_below n) ≡ false) × (ids_differ (rows_below n ++ x ∷ []) ≡ true)
new_rows s n x r h =
    let k = sym (has_by_ids (id_of x) (rows_below n)) ∙ h in
    (k, differ_put (rows_below n) x (and_parts (everywhere (is_placed_at s) s nothing n) (ids_differ (rows_below n)) r.placed).1 k)

pub placement : {A Z : Type 0} (s : Attributes) (n m : Plain) (x : Row) (result : Result A (Arc Row Z × NoMemory)) → IsRoot s n → has_id (id_of x) (contents n) ≡ false → IsRight s nothing m → IsPermutation (rows_below n ++ x ∷ []) (rows_below m ++ back result)
    → IfErr result (λ e. arc_value e.0 ≡ x) → Placement s n m x result
placement s n m x (Ok y) r new right rows same =
    let z = new_rows s n x r new in
    let moved = subst (IsPermutation (rows_below n ++ x ∷ [])) (append-nil (rows_below m)) rows in
    record {
      root = right_root s m right (still_differ (rows_below n ++ x ∷ []) (rows_below m) moved z.1);
      put = sym (permuted (rows_below n ++ x ∷ []) (rows_below m) moved z.1) ∙ put_last (rows_below n) x z.0;
      refused = tt;
    }
placement s n m x (Err e) r new right rows same =
    let z = new_rows s n x r new in
    let moved = subst (λ y. IsPermutation (rows_below n ++ x ∷ []) (rows_below m ++ y ∷ [])) same rows in
    record {
      root = right_root s m right (front_differ (rows_below m) x (still_differ (rows_below n ++ x ∷ []) (rows_below m ++ x ∷ []) moved z.1));
      put = tt;
      refused = sym (less_permuted (rows_below n) (rows_below m) x moved z.1);
    }
