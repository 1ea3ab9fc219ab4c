-- A node with another leaf, and rows that stay stuck or inside.
use Rattle.std.proofs.Common.{◌≡◌, Bool, true, false, not, ltb, ◌&&◌, ◌||◌, List, [], ◌∷◌, ◌++◌, None, Some, Option, IfSome, option_map, refl, sym, ap, ◌∙◌, subst}
use Rattle.std.specs.Prelude.{IsPermutation}
use Rattle.std.specs.Option.{is_some}
use Rattle.std.specs.Int.Signed.{le_z}
use Rattle.std.specs.List.{list_all, list_any, flat_map}
use Rattle.std.proofs.lemmas.Bool.{and_parts, and_from, not_from_false, not-true, or_from, false≢true}
use Rattle.std.proofs.lemmas.List.{append-nil}
use Rattle.std.proofs.lemmas.List.Sorted.{IsPermutation-append_left, IsPermutation-trans, IsPermutation-sym, IsPermutation-refl}
use Rattle.be_base.specs.declared.limits.TheConstants.{LOG_CHANGES}
use Rattle.be_base.specs.declared.names.AttrNo.{AttrNo}
use Rattle.be_model.specs.declared.preds.Pred.{Pred}
use Rattle.be_model.specs.declared.changes.Row.{Row}
use Rattle.be_model.specs.declared.paths.Hop.{Hop}
use Rattle.be_model.specs.declared.paths.Hop.TheVariants.{Part, Low, High}
use Rattle.be_model.specs.Domains.{Range}
use Rattle.be_model.specs.Forms.{is_conj}
use Rattle.be_model.specs.Hulls.{is_on, span_in}
use Rattle.be_model.specs.Laws.{IsPart}
use Rattle.be_model.specs.Lies.{row_lies}
use Rattle.be_model.specs.Rows.{id_of, has}
use Rattle.be_model.specs.Schemas.{Attributes, IsSchema, range_of}
use Rattle.be_model.proofs.FormTests.{IsConj-from_is_conj}
use Rattle.be_model.proofs.InSchema.{same_attribute}
use Rattle.be_model.proofs.Spans.{spans_lie, spans_are}
use Rattle.be_shape.specs.Plain.{Plain, node, no_part, no_half, rows_below, leaf_of, with_row}
use Rattle.be_shape.specs.Shape.{Known, lower, upper, whole, is_drawn_at, is_pruned_at, is_stuck, is_between, is_used, can_split, is_inside, spans_inside, may_stand}
use Rattle.be_shape.specs.Children.{children, known_below, is_open, may_pass, with_leaf}
use Rattle.be_shape.proofs.Children.{rows_of, rows_are}
use Rattle.be_shape.proofs.Placed.{Placed}
use Rattle.be_shape.proofs.Levels.{passes_one, drawn_is}
use Rattle.be_shape.proofs.WholeRanges.{le_test}
use Rattle.be_shape.proofs.Lists.{swap_last}

-- a node with another leaf
pub leaf_rows : (leaf kept extra : List Row) (n : Plain) → IsPermutation leaf (kept ++ extra) → IsPermutation (rows_below (with_leaf leaf n)) (rows_below (with_leaf kept n) ++ extra)
leaf_rows leaf kept extra (node rows parts low high) h =
    let r = flat_map rows_of (children (node rows parts low high)) in
    subst (λ l. IsPermutation l (rows_below (node kept parts low high) ++ extra)) (sym (rows_are (node leaf parts low high)))
    (subst (λ l. IsPermutation (leaf ++ r) (l ++ extra)) (sym (rows_are (node kept parts low high)))
    (IsPermutation-trans (leaf ++ r) (kept ++ extra ++ r) (kept ++ r ++ extra) (IsPermutation-append_left r leaf (kept ++ extra) h) (swap_last kept extra r)))

pub row_leaf : (x : Row) (n : Plain) → with_row x n ≡ with_leaf (leaf_of n ++ x ∷ []) n
row_leaf x (node rows parts low high) = refl

pub own_leaf : (n : Plain) → with_leaf (leaf_of n) n ≡ n
own_leaf (node rows parts low high) = refl

pub same_placed : (s : Attributes) (k : Known) (leaf : List Row) (n : Plain) → Placed s k n → list_all (spans_inside s k.range) (rows_below (with_leaf leaf n)) ≡ true → Placed s k (with_leaf leaf n)
same_placed s k leaf (node rows parts low high) p inside =
    record { rise = p.rise; inside = inside; open_steps = p.open_steps; pass = p.pass }

pub same_drawn : (s : Attributes) (k : Known) (leaf : List Row) (n : Plain) → list_all (λ row. not (passes_one s k (children n) row)) leaf ≡ true → is_drawn_at s k (with_leaf leaf n) ≡ true
same_drawn s k leaf (node rows parts low high) h = drawn_is s k (node leaf parts low high) ∙ h

pub same_pruned : (k : Known) (leaf : List Row) (n : Plain) → is_pruned_at k (with_leaf leaf n) ≡ is_pruned_at k n
same_pruned k leaf (node rows parts low high) = refl

pub same_children : (leaf : List Row) (n : Plain) → children (with_leaf leaf n) ≡ children n
same_children leaf (node rows parts low high) = refl

pub same_leaf : (leaf : List Row) (n : Plain) → leaf_of (with_leaf leaf n) ≡ leaf
same_leaf leaf (node rows parts low high) = refl

-- the rows with a row more in the leaf
pub row_put : (n : Plain) (x : Row) → IsPermutation (rows_below n ++ x ∷ []) (rows_below (with_row x n))
row_put n x =
    let new = leaf_of n ++ x ∷ [] in
    subst (λ w. IsPermutation (rows_below n ++ x ∷ []) (rows_below w)) (sym (row_leaf x n))
    (IsPermutation-sym (rows_below (with_leaf new n)) (rows_below n ++ x ∷ []) (subst (λ q. IsPermutation (rows_below (with_leaf new n)) (rows_below q ++ x ∷ [])) (own_leaf n) (leaf_rows new (leaf_of n) (x ∷ []) n (IsPermutation-refl new))))

-- a stuck row may pass no step that may be made
pub used_all : (used : List AttrNo) (a : AttrNo) (conj : List Pred) → list_all (λ (p : Pred). is_used used p.attr) conj ≡ true → is_used used a ≡ false → list_any (is_on a) conj ≡ false
used_all used a [] h u = refl
used_all used a (p ∷ ps) h u =
    let k = and_parts (is_used used p.attr) (list_all (λ (q : Pred). is_used used q.attr) ps) h in
    or_from (is_on a p) (list_any (is_on a) ps) (by_test (is_on a p) refl k.0) (used_all used a ps k.1 u)
  where
    by_test : (b : Bool) → is_on a p ≡ b → is_used used p.attr ≡ true → b ≡ false
    by_test true e t = absurd (false≢true (sym u ∙ ap (is_used used) (sym (same_attribute p.attr a e)) ∙ t))
    by_test false e t = refl

pub stuck_stays : (s : Attributes) (hop : Hop) (k : Known) (row : Row) → is_stuck s k row ≡ true → is_open hop k ≡ true → may_pass s hop k.range row ≡ false
stuck_stays s hop k row h o =
    let q = and_parts (list_all (λ (p : Pred). is_used k.used p.attr) row.conj) (is_between s k row) h in by_hop hop q.0 q.1 o
  where
    halves : (c l u : Bool) → not (c && (l || u)) ≡ true → c ≡ true → (l ≡ false) × (u ≡ false)
    halves true true u t e = absurd (cc)
    halves true false true t e = absurd (cc)
    halves true false false t e = (refl, refl)
    halves false l u t e = absurd (cc)

    by_hop : (g : Hop) → list_all (λ (p : Pred). is_used k.used p.attr) row.conj ≡ true → is_between s k row ≡ true → is_open g k ≡ true → may_pass s g k.range row ≡ false
    by_hop (Part a) u b t = used_all k.used a row.conj u (not-true (is_used k.used a) t)
    by_hop Low u b t =
        (halves (can_split k.range) (spans_inside s (lower k.range) row) (spans_inside s (upper k.range) row) b t).0
    by_hop High u b t =
        (halves (can_split k.range) (spans_inside s (lower k.range) row) (spans_inside s (upper k.range) row) b t).1

pub stuck_stay : (s : Attributes) (hop : Hop) (k : Known) (rows : List Row) → list_all (is_stuck s k) rows ≡ true → is_open hop k ≡ true → list_all (λ row. not (may_pass s hop k.range row)) rows ≡ true
stuck_stay s hop k [] h o = refl
stuck_stay s hop k (row ∷ rows) h o =
    let q = and_parts (is_stuck s k row) (list_all (is_stuck s k) rows) h in
    and_from (not (may_pass s hop k.range row)) (list_all (λ r. not (may_pass s hop k.range r)) rows) (not_from_false (may_pass s hop k.range row) (stuck_stays s hop k row q.0 o)) (stuck_stay s hop k rows q.1 o)

-- a node of rows alone
pub alone : (rows : List Row) → rows_below (node rows no_part no_half no_half) ≡ rows
alone rows = rows_are (node rows no_part no_half no_half) ∙ append-nil rows

pub all_true : {X : Type 0} (xs : List X) → list_all (λ _. true) xs ≡ true
all_true [] = refl
all_true (x ∷ xs) = all_true xs

-- a row that has an attribute has its span inside the attribute's domain
pub span_is_inside : (d : Range) (o : Option Range) → IfSome o (IsPart d) → (o ≡ None → ⊥) → is_inside d o ≡ true
span_is_inside d None h k = absurd (k refl)
span_is_inside d (Some r) h k = and_from (le_z d.0 r.0) (le_z r.1 d.1) (le_test d.0 r.0 h.low) (le_test r.1 d.1 h.high)

pub inside_whole : (s : Attributes) (a : AttrNo) (row : Row) → IsSchema s → may_stand s row ≡ true → has a row ≡ true → spans_inside s (whole s a) row ≡ true
inside_whole s a row f may h = by_range (range_of s a) refl
  where
    lies : row_lies s row ≡ true
    lies = (and_parts (row_lies s row) (ltb (id_of row) LOG_CHANGES) (and_parts (is_conj row.conj) (row_lies s row && ltb (id_of row) LOG_CHANGES) may).1).0

    there : span_in s a row.conj ≡ None → ⊥
    there e = false≢true (sym ((spans_are s a row.conj lies).0 (ap is_some e)) ∙ h)

    by_range : (o : Option Range) → range_of s a ≡ o → spans_inside s (option_map (λ r. (a, r)) o) row ≡ true
    by_range None e = refl
    by_range (Some d) e =
        span_is_inside d (span_in s a row.conj) (spans_lie s a row.conj d f (IsConj-from_is_conj row.conj (and_parts (is_conj row.conj) (row_lies s row && ltb (id_of row) LOG_CHANGES) may).0) lies e) there

-- the rows that may pass a step are inside the range below it
pub inside_below : (s : Attributes) (hop : Hop) (k : Known) (rows : List Row) → IsSchema s → list_all (may_stand s) rows ≡ true → list_all (may_pass s hop k.range) rows ≡ true → list_all (spans_inside s (known_below s hop k).range) rows ≡ true
inside_below s (Part a) k [] f may pass = refl
inside_below s (Part a) k (row ∷ rows) f may pass =
    let m = and_parts (may_stand s row) (list_all (may_stand s) rows) may in
    let p = and_parts (has a row) (list_all (has a) rows) pass in
    and_from (spans_inside s (whole s a) row) (list_all (spans_inside s (whole s a)) rows) (inside_whole s a row f m.0 p.0) (inside_below s (Part a) k rows f m.1 p.1)
inside_below s Low k rows f may pass = pass
inside_below s High k rows f may pass = pass
