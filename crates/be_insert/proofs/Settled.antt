-- A leaf that has a row too much is split.
use Rattle.std.proofs.Common.{◌≡◌, ◌<◌, ◌+◌, ◌-◌, ℕ, Bool, true, false, not, cond, leb, ltb, ◌&&◌, ◌||◌, List, [], ◌∷◌, ◌++◌, length, take, slice_get, None, Some, Result, Ok, Err, OnErr, IfErr, refl, sym, ap, ◌∙◌, subst, arith, length-append}
use Rattle.std.specs.Prelude.{IsPermutation}
use Rattle.std.specs.List.{list_all, list_any, filter}
use Rattle.std.proofs.lemmas.Bool.{and_parts, and_from, not-false}
use Rattle.std.proofs.lemmas.List.Sorted.{length_permutation, IsPermutation-trans}
use Rattle.std.specs.Arc.{arc_value}
use Rattle.std.specs.declared.sync.Arc.{Arc}
use Rattle.be_base.specs.declared.names.NoMemory.{NoMemory}
use Rattle.be_insert.specs.Refusals.{back}
use Rattle.be_base.specs.declared.limits.TheConstants.{LEAF_ROWS, LOG_CHANGES}
use Rattle.be_model.specs.declared.changes.Row.{Row}
use Rattle.be_model.specs.declared.paths.Hop.{Hop}
use Rattle.be_model.specs.Forms.{is_conj}
use Rattle.be_model.specs.Lies.{row_lies}
use Rattle.be_model.specs.Rows.{id_of}
use Rattle.be_model.specs.Schemas.{Attributes, IsSchema}
use Rattle.be_shape.specs.Plain.{Plain, node, no_part, no_half, rows_below, leaf_of, with_row}
use Rattle.be_shape.specs.Shape.{Known, may_stand}
use Rattle.be_shape.specs.Paths.{child}
use Rattle.be_shape.specs.Children.{known_below, is_open, may_pass, with_child, with_leaf}
use Rattle.be_shape.proofs.Children.{rows_are}
use Rattle.be_shape.specs.Right.{IsRight}
use Rattle.be_insert.specs.Filled.{settles, is_filled, IsFilled}
use Rattle.be_shape.proofs.Lists.{all_front, filter_passes, filter_keeps}
use Rattle.be_insert.proofs.Steps.{Leaves, split}
use Rattle.be_shape.proofs.NodeSteps.{settled_is}
use Rattle.be_insert.proofs.Fills.{has_last, cut, stays, not_there, Passing, passing, leaf_filled, last_put}
use Rattle.be_shape.proofs.LeafSteps.{alone, inside_below, stuck_stay, row_put}
use Rattle.be_insert.proofs.AtPlaces.{front_stuck}
use Rattle.be_insert.proofs.LevelsLeft.{levels_left, falls}

pub row_lie : (s : Attributes) (rows : List Row) → list_all (may_stand s) rows ≡ true → list_all (row_lies s) rows ≡ true
row_lie s [] h = refl
row_lie s (row ∷ rows) h =
    let k = and_parts (may_stand s row) (list_all (may_stand s) rows) h in
    and_from (row_lies s row) (list_all (row_lies s) rows) (and_parts (row_lies s row) (ltb (id_of row) LOG_CHANGES) (and_parts (is_conj row.conj) (row_lies s row && ltb (id_of row) LOG_CHANGES) k.0).1).0 (row_lie s rows k.1)

pub leaf_may : (s : Attributes) (n : Plain) → list_all (may_stand s) (rows_below n) ≡ true → list_all (may_stand s) (leaf_of n) ≡ true
leaf_may s n h = all_front (may_stand s) (leaf_of n) _ (ap (list_all (may_stand s)) (sym (rows_are n)) ∙ h)

-- some row passes, and lies in the schema
one_passes : (s : Attributes) (p : Row → Bool) (rows : List Row) → list_all (row_lies s) rows ≡ true → list_any p rows ≡ true → (row : Row) × (row_lies s row ≡ true) × (p row ≡ true)
one_passes s p [] l h = absurd (cc)
one_passes s p (row ∷ rows) l h =
    let k = and_parts (row_lies s row) (list_all (row_lies s) rows) l in by_test (p row) refl h k.0 (one_passes s p rows k.1)
  where
    by_test : (b : Bool) → p row ≡ b → (b || list_any p rows) ≡ true → row_lies s row ≡ true → (list_any p rows ≡ true → (r : Row) × (row_lies s r ≡ true) × (p r ≡ true)) → (r : Row) × (row_lies s r ≡ true) × (p r ≡ true)
    by_test true e t m more = (row, m, e)
    by_test false e t m more = more t

-- what is known before a split
pub record Ready (s : Attributes) (k : Known) (n : Plain) (hop : Hop) : Type 0 where
  pub lie : list_all (row_lies s) (leaf_of n) ≡ true
  pub passes : Passing s hop k (leaf_of n)
  pub gone : child hop n ≡ None
  pub filled : IsFilled s (known_below s hop k) (node (filter (may_pass s hop k.range) (leaf_of n)) no_part no_half no_half)
  pub fewer : levels_left s (known_below s hop k) < levels_left s k

pub ready : (s : Attributes) (k : Known) (n : Plain) (hop : Hop) → IsSchema s → IsFilled s k n → is_open hop k ≡ true → list_any (may_pass s hop k.range) (leaf_of n) ≡ true → Ready s k n hop
ready s k n hop is f o h =
    let p = may_pass s hop k.range in
    let leaf = leaf_of n in
    let may = leaf_may s n f.may in
    let lie = row_lie s leaf may in
    let z = passing s hop k leaf f.filled o h f.some in
    let kept = filter_keeps (may_stand s) p leaf may in
    let one = one_passes s p leaf lie h in
    record {
      lie = lie;
      passes = z;
      gone = not_there s hop k n f.drawn h;
      filled = leaf_filled s (known_below s hop k) (filter p leaf) (inside_below s hop k (filter p leaf) is kept (filter_passes p leaf)) kept z.some z.few;
      fewer = let less = falls s hop k one.0 o one.1 one.2 in omega arith;
    }

-- and after it
pub after_split : (s : Attributes) (k : Known) (n m : Plain) (hop : Hop) (back : List Row) → IsFilled s k n → is_open hop k ≡ true → Ready s k n hop → IsRight s (known_below s hop k) m
    → IsPermutation (rows_below (node (filter (may_pass s hop k.range) (leaf_of n)) no_part no_half no_half)) (rows_below m ++ back) → (length back ≡ 0) → Leaves s k (rows_below n) (with_child hop m (with_leaf (filter (λ row. not (may_pass s hop k.range row)) (leaf_of n)) n)) back
after_split s k n m hop back f o z r moves none =
    let moved = filter (may_pass s hop k.range) (leaf_of n) in
    let same = subst (λ l. IsPermutation l (rows_below m ++ back)) (alone moved) moves in
    split s k n m hop back f o z.gone r same (omega (arith, length_permutation moved (rows_below m ++ back) same, length-append (rows_below m) back, z.passes.some, none)) z.passes.settled

pub after_refusal : (s : Attributes) (k : Known) (n m : Plain) (hop : Hop) (x : Row) → IsFilled s k n → is_open hop k ≡ true → Ready s k n hop → IsRight s (known_below s hop k) m
    → IsPermutation (rows_below (node (filter (may_pass s hop k.range) (leaf_of n)) no_part no_half no_half)) (rows_below m ++ x ∷ []) → LEAF_ROWS < length (filter (may_pass s hop k.range) (leaf_of n))
    → Leaves s k (rows_below n) (with_child hop m (with_leaf (filter (λ row. not (may_pass s hop k.range row)) (leaf_of n)) n)) (x ∷ [])
after_refusal s k n m hop x f o z r moves many =
    let moved = filter (may_pass s hop k.range) (leaf_of n) in
    let same = subst (λ l. IsPermutation l (rows_below m ++ x ∷ [])) (alone moved) moves in
    split s k n m hop (x ∷ []) f o z.gone r same (omega (arith, length_permutation moved (rows_below m ++ x ∷ []) same, length-append (rows_below m) (x ∷ []), many)) z.passes.settled

-- the rows before the first that may be loose don't pass
pub front_stays : (s : Attributes) (k : Known) (leaf : List Row) (hop : Hop) (first : ℕ) → first ≡ cond (leb (length leaf) (LEAF_ROWS + 1)) 0 (length leaf - 1) → is_filled s k leaf ≡ true → is_open hop k ≡ true
    → list_all (λ row. not (may_pass s hop k.range row)) (take first leaf) ≡ true
front_stays s k leaf hop first e f o = stuck_stay s hop k (take first leaf) (front_stuck s k leaf first e f) o

-- the last row is taken out of a filled leaf
pub without_last : (s : Attributes) (k : Known) (n w : Plain) (x : Row) → IsFilled s k n → w ≡ with_leaf (take (length (leaf_of n) - 1) (leaf_of n)) n → slice_get (leaf_of n) (length (leaf_of n) - 1) ≡ Some x → Leaves s k (rows_below n) w (x ∷ [])
without_last s k n w x f is at =
    let l = has_last (leaf_of n) f.some in
    let same : l.last ≡ x = let e = sym l.at ∙ at in cc in
    subst (λ m. Leaves s k (rows_below n) m (x ∷ [])) (sym (is ∙ ap (λ q. with_leaf q n) l.taken)) (subst (λ y. Leaves s k (rows_below n) (with_leaf l.front n) (y ∷ [])) same (cut s k n l f))

-- what a split leaves, where the rows below it are settled or the last one was handed back
pub finish : {A Z : Type 0} (s : Attributes) (k j : Known) (n o b m w : Plain) (hop : Hop) (result : Result A (Arc Row Z × NoMemory)) → IsFilled s k n → is_open hop k ≡ true → Ready s k n hop → j ≡ known_below s hop k
    → o ≡ with_leaf (filter (λ row. not (may_pass s hop k.range row)) (leaf_of n)) n → b ≡ node (filter (may_pass s hop k.range) (leaf_of n)) no_part no_half no_half → w ≡ with_child hop m o
    → IsRight s j m → IsPermutation (rows_below b) (rows_below m ++ back result) → OnErr result (LEAF_ROWS < length (leaf_of b)) → Leaves s k (rows_below n) w (back result)
finish s k j n o b m w hop (Ok x) f open_step z at is_o is_b is_w r moves many =
    subst (λ q. Leaves s k (rows_below n) q []) (sym (is_w ∙ ap (with_child hop m) is_o)) (after_split s k n m hop [] f open_step z (subst (λ i. IsRight s i m) at r) (subst (λ q. IsPermutation (rows_below q) (rows_below m ++ [])) is_b moves) refl)
finish s k j n o b m w hop (Err e) f open_step z at is_o is_b is_w r moves many =
    subst (λ q. Leaves s k (rows_below n) q (arc_value e.0 ∷ [])) (sym (is_w ∙ ap (with_child hop m) is_o))
    (after_refusal s k n m hop (arc_value e.0) f open_step z (subst (λ i. IsRight s i m) at r) (subst (λ q. IsPermutation (rows_below q) (rows_below m ++ arc_value e.0 ∷ [])) is_b moves) (omega (arith, many, ap (λ q. length (leaf_of q)) is_b)))

pub last_of : {A Z : Type 0} (s : Attributes) (k : Known) (n b : Plain) (hop : Hop) (result : Result A (Arc Row Z × NoMemory)) → Ready s k n hop → b ≡ node (filter (may_pass s hop k.range) (leaf_of n)) no_part no_half no_half
    → OnErr result (LEAF_ROWS < length (leaf_of b)) → IfErr result (λ e. slice_get (leaf_of b) (length (leaf_of b) - 1) ≡ Some (arc_value e.0)) → IfErr result (λ e. slice_get (leaf_of n) (length (leaf_of n) - 1) ≡ Some (arc_value e.0))
last_of s k n b hop (Ok x) z is many last = tt
last_of s k n b hop (Err e) z is many last =
    let same : leaf_of b ≡ leaf_of n = ap leaf_of is ∙ z.passes.whole (omega (arith, many, ap (λ q. length (leaf_of q)) is)) in
    ap (λ l. slice_get l (length l - 1)) (sym same) ∙ last

-- a leaf that is settled after all
pub stays_settled : (s : Attributes) (k : Known) (n : Plain) → IsFilled s k n → false ≡ not (settles s k (leaf_of n)) → Leaves s k (rows_below n) n []
stays_settled s k n f h = stays s k n f (settled_is s k n ∙ not-false (settles s k (leaf_of n)) (sym h))

-- where a row that was put last is handed back, it is the row
pub handed_back : {A Z : Type 0} (n m : Plain) (x : Row) (result : Result A (Arc Row Z × NoMemory)) → m ≡ with_row x n → IfErr result (λ e. slice_get (leaf_of m) (length (leaf_of m) - 1) ≡ Some (arc_value e.0)) → IfErr result (λ e. arc_value e.0 ≡ x)
handed_back n m x (Ok y) is h = tt
handed_back n m x (Err e) is h = last_put n x (arc_value e.0) (ap (λ w. slice_get (leaf_of w) (length (leaf_of w) - 1)) (sym is) ∙ h)

-- the row that was put is below the node, or it is handed back
pub put_or_back : {A Z : Type 0} (n m w : Plain) (x : Row) (result : Result A (Arc Row Z × NoMemory)) → m ≡ with_row x n
    → IsPermutation (rows_below m) (rows_below w ++ back result) → IsPermutation (rows_below n ++ x ∷ []) (rows_below w ++ back result)
put_or_back n m w x result is h =
    IsPermutation-trans (rows_below n ++ x ∷ []) (rows_below (with_row x n)) (rows_below w ++ back result) (row_put n x)
    (subst (λ v. IsPermutation (rows_below v) (rows_below w ++ back result)) is h)
