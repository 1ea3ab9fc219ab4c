-- How many rows there are, level by level.
use Rattle.std.proofs.Common.{◌≡◌, ℕ, ◌+◌, ◌<◌, ◌≤◌, refl, true, ltb, ◌&&◌, List, [], ◌∷◌, ◌++◌, length, drop, get_or, sym, ap, ◌∙◌, arith, length-append}
use Rattle.std.specs.List.{list_all}
use Rattle.std.proofs.lemmas.List.{append-nil, drop_more}
use Rattle.be_model.specs.declared.changes.Row.{Row}
use Rattle.be_base.specs.declared.limits.TheConstants.{LOG_CHANGES}
use Rattle.be_model.specs.Forms.{is_conj}
use Rattle.be_model.specs.Schemas.{Attributes}
use Rattle.be_model.specs.Lies.{row_lies}
use Rattle.be_model.specs.Rows.{id_of}
use Rattle.be_model.specs.ByIds.{ids_differ}
use Rattle.be_model.proofs.Attributes.{and_left, and_right, and_both}
use Rattle.be_model.proofs.RowsByIds.{length_by_ids, few_rows as few_ids}
use Rattle.be_shape.specs.declared.nodes.Node.{Node}
use Rattle.be_shape.specs.declared.nodes.Part.{Part}
use Rattle.be_shape.specs.declared.nodes.Node.TheViews.{out-Node}
use Rattle.be_shape.specs.Plain.{Plain, plain, part_as, parts_of, parts_as, half_as, rows_below, rows_in_parts, rows_in_half, contents}
use Rattle.be_shape.specs.Shape.{nothing, everywhere, is_placed_at, is_placed, may_stand, rows_lie}
use Rattle.be_shape.proofs.Plains.{plain_out}

sum : (x p l h : List Row) → length (x ++ p ++ l ++ h) ≡ length x + (length p + (length l + length h))
sum x p l h = omega (arith, length-append (x ++ p ++ l) h, length-append (x ++ p) l, length-append x p)

pub node_rows : (n : Node) → length (rows_below (plain n)) ≡ length (out-Node n).leaf + (length (rows_in_parts (parts_as (out-Node n).parts.items)) + (length (rows_in_half (half_as (out-Node n).low)) + length (rows_in_half (half_as (out-Node n).high))))
node_rows n =
    ap (λ m. length (rows_below m)) (plain_out n) ∙ sum (out-Node n).leaf (rows_in_parts (parts_as (out-Node n).parts.items)) (rows_in_half (half_as (out-Node n).low)) (rows_in_half (half_as (out-Node n).high))

pub rows_from : (ps : List Part) (i : ℕ) (p : Part) → i < length ps → p ≡ get_or ps i p
    → length (rows_in_parts (parts_as (drop i ps))) ≡ length (rows_in_parts (parts_of (part_as p ∷ []))) + length (rows_in_parts (parts_as (drop (i + 1) ps)))
rows_from ps i p l is =
    let a = rows_below (part_as p).1 in
    let b = rows_in_parts (parts_as (drop (i + 1) ps)) in
    ap (λ xs. length (rows_in_parts (parts_as xs))) (drop_more ps i p l ∙ ap (λ q. q ∷ drop (i + 1) ps) (sym is)) ∙ length-append a b ∙ ap (λ m. m + length b) (sym (ap length (append-nil a)))

pub lies_low : (s : Attributes) (rows : List Row) → list_all (may_stand s) rows ≡ true → list_all (λ row. ltb (id_of row) LOG_CHANGES) rows ≡ true
lies_low s [] h = refl
lies_low s (row ∷ rows) h =
    let m = and_left (may_stand s row) (list_all (may_stand s) rows) h in
    let l = and_right (row_lies s row) (ltb (id_of row) LOG_CHANGES) (and_right (is_conj row.conj) (row_lies s row && ltb (id_of row) LOG_CHANGES) m) in
    and_both (ltb (id_of row) LOG_CHANGES) (list_all (λ other. ltb (id_of other) LOG_CHANGES) rows) l (lies_low s rows (and_right (may_stand s row) (list_all (may_stand s) rows) h))

-- a tree has no more rows than ids
pub few_rows : (s : Attributes) (n : Plain) → rows_lie s n ≡ true → is_placed s n ≡ true → length (rows_below n) ≤ LOG_CHANGES
few_rows s n lie placed =
    few_ids LOG_CHANGES (rows_below n) (lies_low s (rows_below n) lie) (and_right (everywhere (is_placed_at s) s nothing n) (ids_differ (rows_below n)) placed)

pub count_of : (n : Plain) → length (contents n) ≡ length (rows_below n)
count_of n = length_by_ids (rows_below n)
