-- What a search doesn't visit isn't satisfied.
use Rattle.std.proofs.Common.{◌≡◌, ℤ, Bool, true, false, cond, ltb, ◌&&◌, ◌||◌, List, [], ◌∷◌, ◌++◌, Option, Some, None, IsNone, refl, sym, ap, ◌∙◌, subst, arith}
use Rattle.std.specs.Option.{is_some}
use Rattle.std.specs.Int.Signed.{le_z}
use Rattle.be_shape.proofs.Children.{where_known, rows_of, rows_are}
use Rattle.be_shape.proofs.Placed.{placed}
use Rattle.be_shape.proofs.Visited.{enters, visited_of, visited_is}
use Rattle.be_shape.specs.Children.{children, known_below, is_open, may_pass}
use Rattle.be_shape.specs.Paths.{range_below}
use Rattle.be_model.specs.declared.paths.Hop.{Hop}
use Rattle.be_model.specs.declared.paths.Hop.TheVariants.{Part, Low, High}
use Rattle.std.proofs.lemmas.List.Elements.{filter-append}
use Rattle.std.proofs.lemmas.List.Folds.{list_all-append}
use Rattle.std.proofs.lemmas.Bool.{and_parts}
use Rattle.std.specs.List.{list_any, list_all, flat_map, AllByRecursion}
use Rattle.std.proofs.lemmas.Bool.{eqb-true}
use Rattle.std.proofs.lemmas.Int.{ints}
use Rattle.be_base.specs.declared.names.AttrNo.{AttrNo}
use Rattle.be_model.specs.declared.preds.Pred.{Pred}
use Rattle.be_model.specs.declared.changes.Row.{Row}
use Rattle.be_model.specs.Domains.{Range, is_some_within}
use Rattle.be_model.specs.Schemas.{Attributes, numbered}
use Rattle.be_model.specs.Forms.{IsConj, is_conj}
use Rattle.be_model.specs.Matching.{Assignments, values_of, is_met, satisfies, is_assigned, satisfied}
use Rattle.be_model.specs.Lies.{event_lies, conj_lies, row_lies}
use Rattle.be_model.specs.Rows.{id_of, has}
use Rattle.be_model.specs.Hulls.{is_on, span_in}
use Rattle.be_model.proofs.Attributes.{and_left, and_right}
use Rattle.be_model.proofs.Ranges.{is_some_within-wider}
use Rattle.be_model.proofs.Spans.{spans_hold, spans_are}
use Rattle.be_model.proofs.FormTests.{IsConj-from_is_conj}
use Rattle.be_base.specs.declared.limits.TheConstants.{LOG_CHANGES}
use Rattle.be_shape.specs.Plain.{Plain, rows_below, leaf_of}
use Rattle.be_shape.specs.Shape.{NodeRange, lower, upper, Known, everywhere, is_inside, spans_inside, can_split, is_placed_at, may_stand}
use Rattle.be_shape.specs.Search.{values_inside, holds_value, visited, all_of}
use Rattle.be_match.proofs.Sizes.{all_of_append}

satisfied_append : (e : Assignments) (xs ys : List Row) → satisfied e (xs ++ ys) ≡ satisfied e xs ++ satisfied e ys
satisfied_append e xs ys = filter-append (λ (row : Row). satisfies e row.conj) xs ys

-- what is satisfied in two lists of leaves
satisfied_leaves : (e : Assignments) (xs ys : List (List Row)) → satisfied e (all_of (xs ++ ys)) ≡ satisfied e (all_of xs) ++ satisfied e (all_of ys)
satisfied_leaves e xs ys = ap (satisfied e) (all_of_append xs ys) ∙ satisfied_append e (all_of xs) (all_of ys)

false_right : (b : Bool) → (b && false) ≡ false
false_right true = refl
false_right false = refl

clash : {A : Type 0} → true ≡ false → A
clash h = absurd (cc)

-- without a value for an attribute, no predicate on it holds
on_attribute : (e : Assignments) (a : AttrNo) (p : Pred) → values_of e a ≡ None → is_on a p ≡ true → is_met (values_of e p.attr) p.op ≡ false
on_attribute e a p h on =
    let k : values_of e p.attr ≡ None = ap (λ n. values_of e (numbered n)) (eqb-true p.attr.0 a.0 on) ∙ h in ap (λ o. is_met o p.op) k

on_some : (e : Assignments) (a : AttrNo) (p : Pred) (ps : List Pred) (b : Bool) → values_of e a ≡ None → is_on a p ≡ b → (b || list_any (is_on a) ps) ≡ true
    → (list_any (is_on a) ps ≡ true → satisfies e ps ≡ false) → (is_met (values_of e p.attr) p.op && satisfies e ps) ≡ false
on_some e a p ps true h on t more = ap (λ b. b && satisfies e ps) (on_attribute e a p h on)
on_some e a p ps false h on t more = ap (λ b. is_met (values_of e p.attr) p.op && b) (more t) ∙ false_right (is_met (values_of e p.attr) p.op)

unassigned : (e : Assignments) (a : AttrNo) (conj : List Pred) → values_of e a ≡ None → list_any (is_on a) conj ≡ true → satisfies e conj ≡ false
unassigned e a [] h k = absurd (cc)
unassigned e a (p ∷ ps) h k =
    on_some e a p ps (is_on a p) h refl k (λ t. unassigned e a ps h t)

no_value : (o : Option (List ℤ)) → is_some o ≡ false → o ≡ None
no_value None h = refl
no_value (Some v) h = absurd (cc)

dropped : (b : Bool) (x : Row) (xs : List Row) → b ≡ false → xs ≡ [] → cond b (x ∷ xs) xs ≡ []
dropped b x xs h k = ap (λ c. cond c (x ∷ xs) xs) h ∙ k

-- no row below a part whose attribute has no value is satisfied
none_in_part : (e : Assignments) (a : AttrNo) (rows : List Row) → is_assigned e a ≡ false → list_all (has a) rows ≡ true → satisfied e rows ≡ []
none_in_part e a [] h k = refl
none_in_part e a (row ∷ rows) h k =
    dropped (satisfies e row.conj) row (satisfied e rows) (unassigned e a row.conj (no_value (values_of e a) h) (and_left (has a row) (list_all (has a) rows) k))
    (none_in_part e a rows h (and_right (has a row) (list_all (has a) rows) k))

-- what is inside a part of a range is inside the range
inside_wider : (d : Range) (sp : Option Range) (i : Range) (vs : List ℤ) → sp ≡ Some i → is_inside d sp ≡ true → is_some_within i vs ≡ true → is_some_within d vs ≡ true
inside_wider d None i vs e h k = absurd (cc)
inside_wider d (Some j) i vs e h k =
    let t = and_parts (le_z d.0 j.0) (le_z j.1 d.1) h in
    let same : j ≡ i = cc in
    is_some_within-wider d j vs (omega (arith, ints)) (omega (arith, ints)) (subst (λ r. is_some_within r vs ≡ true) (sym same) k)

none_inside : {A : Type 0} (d : Range) (o : Option Range) → IsNone o → is_inside d o ≡ true → A
none_inside d None h k = absurd (cc)
none_inside d (Some r) h k = clash h

-- a condition whose span is inside a range isn't satisfied where all values are outside
outside : (s : Attributes) (e : Assignments) (a : AttrNo) (d : Range) (conj : List Pred) → IsConj conj → conj_lies s conj ≡ true → event_lies s e ≡ true
    → is_inside d (span_in s a conj) ≡ true → values_inside d (values_of e a) ≡ false → satisfies e conj ≡ false
outside s e a d conj f cl el h k = by_test (satisfies e conj) refl
  where
    held : satisfies e conj ≡ true → list_any (is_on a) conj ≡ true → true ≡ false
    held t on =
        let w = spans_hold s e a conj f el t on in
        sym (inside_wider d (span_in s a conj) w.range w.values w.span h w.held) ∙ ap (values_inside d) (sym w.given) ∙ k

    by_any : (b : Bool) → list_any (is_on a) conj ≡ b → satisfies e conj ≡ true → satisfies e conj ≡ false
    by_any true j t = clash (held t j)
    by_any false j t = none_inside d (span_in s a conj) ((spans_are s a conj cl).1 j) h

    by_test : (b : Bool) → satisfies e conj ≡ b → satisfies e conj ≡ false
    by_test true t = by_any (list_any (is_on a) conj) refl t
    by_test false t = t

-- no row in a range that holds none of the values is satisfied
none_in_range : (s : Attributes) (e : Assignments) (r : AttrNo × Range) (rows : List Row) → event_lies s e ≡ true → list_all (may_stand s) rows ≡ true
    → list_all (spans_inside s (Some r)) rows ≡ true → holds_value e (Some r) ≡ false → satisfied e rows ≡ []
none_in_range s e r [] el ms si h = refl
none_in_range s e r (row ∷ rows) el ms si h =
    let m = and_left (may_stand s row) (list_all (may_stand s) rows) ms in
    let f = IsConj-from_is_conj row.conj (and_left (is_conj row.conj) (row_lies s row && ltb (id_of row) LOG_CHANGES) m) in
    let cl = and_left (row_lies s row) (ltb (id_of row) LOG_CHANGES) (and_right (is_conj row.conj) (row_lies s row && ltb (id_of row) LOG_CHANGES) m) in
    dropped (satisfies e row.conj) row (satisfied e rows)
    (outside s e r.0 r.1 row.conj f cl el (and_left (spans_inside s (Some r) row) (list_all (spans_inside s (Some r)) rows) si) h)
    (none_in_range s e r rows el (and_right (may_stand s row) (list_all (may_stand s) rows) ms) (and_right (spans_inside s (Some r) row) (list_all (spans_inside s (Some r)) rows) si) h)

lower_is : (r : NodeRange) → can_split r ≡ true → is_some (lower r) ≡ true
lower_is None h = absurd (cc)
lower_is (Some r) h = refl

upper_is : (r : NodeRange) → can_split r ≡ true → is_some (upper r) ≡ true
upper_is None h = absurd (cc)
upper_is (Some r) h = refl

none_in_half : (s : Attributes) (e : Assignments) (r : NodeRange) (rows : List Row) → event_lies s e ≡ true → list_all (may_stand s) rows ≡ true → list_all (spans_inside s r) rows ≡ true
    → is_some r ≡ true → holds_value e r ≡ false → satisfied e rows ≡ []
none_in_half s e None rows el ms si h k = absurd (cc)
none_in_half s e (Some r) rows el ms si h k = none_in_range s e r rows el ms si k

-- no row below a step that a search doesn't enter is satisfied
none_passed : (s : Attributes) (e : Assignments) (hop : Hop) (k : Known) (rows : List Row) → event_lies s e ≡ true → list_all (may_stand s) rows ≡ true
    → is_open hop k ≡ true → list_all (may_pass s hop k.range) rows ≡ true → enters s e k.range hop ≡ false → satisfied e rows ≡ []
none_passed s e (Part a) k rows el ms may pass out = none_in_part e a rows out pass
none_passed s e Low k rows el ms may pass out =
    none_in_half s e (lower k.range) rows el ms pass (lower_is k.range may) out
none_passed s e High k rows el ms may pass out =
    none_in_half s e (upper k.range) rows el ms pass (upper_is k.range may) out

-- what is known at the end of a step, and its range
pub range_known : (s : Attributes) (hop : Hop) (k : Known) → (known_below s hop k).range ≡ range_below s hop k.range
range_known s (Part a) k = refl
range_known s Low k = refl
range_known s High k = refl

-- all that is satisfied below a node stands in the leaves that a search of it visits
abbrev IsExact : Attributes → Assignments → Known → Plain → Type 0
IsExact s e k n = list_all (may_stand s) (rows_below n) ≡ true → satisfied e (all_of (visited s e k.range n)) ≡ satisfied e (rows_below n)

chosen : (e : Assignments) (b : Bool) (v : List (List Row)) (rows : List Row) → (b ≡ true → satisfied e (all_of v) ≡ satisfied e rows) → (b ≡ false → satisfied e rows ≡ []) → satisfied e (all_of (cond b v [])) ≡ satisfied e rows
chosen e true v rows h k = h refl
chosen e false v rows h k = sym (k refl)

in_child : (s : Attributes) (e : Assignments) (k : Known) (x : Hop × Plain) → event_lies s e ≡ true → is_open x.0 k ≡ true → list_all (may_pass s x.0 k.range) (rows_below x.1) ≡ true
    → IsExact s e (known_below s x.0 k) x.1 → list_all (may_stand s) (rows_below x.1) ≡ true → satisfied e (all_of (visited_of s e k.range x)) ≡ satisfied e (rows_below x.1)
in_child s e k x el may pass claim ms =
    chosen e (enters s e k.range x.0) (visited s e (range_below s x.0 k.range) x.1) (rows_below x.1) (λ _. ap (λ r. satisfied e (all_of (visited s e r x.1))) (sym (range_known s x.0 k)) ∙ claim ms)
    (none_passed s e x.0 k (rows_below x.1) el ms may pass)

in_children : (s : Attributes) (e : Assignments) (k : Known) (xs : List (Hop × Plain)) → event_lies s e ≡ true → AllByRecursion (λ (x : Hop × Plain). is_open x.0 k ≡ true) xs
    → AllByRecursion (λ (x : Hop × Plain). list_all (may_pass s x.0 k.range) (rows_below x.1) ≡ true) xs → AllByRecursion (λ (x : Hop × Plain). IsExact s e (known_below s x.0 k) x.1) xs
    → list_all (may_stand s) (flat_map rows_of xs) ≡ true → satisfied e (all_of (flat_map (visited_of s e k.range) xs)) ≡ satisfied e (flat_map rows_of xs)
in_children s e k [] el may pass claims ms = refl
in_children s e k (x ∷ xs) el may pass claims ms =
    let m = and_parts (list_all (may_stand s) (rows_below x.1)) (list_all (may_stand s) (flat_map rows_of xs)) (sym (list_all-append (may_stand s) (rows_below x.1) (flat_map rows_of xs)) ∙ ms) in
    satisfied_leaves e (visited_of s e k.range x) (flat_map (visited_of s e k.range) xs) ∙ ap (λ q. q ++ satisfied e (all_of (flat_map (visited_of s e k.range) xs))) (in_child s e k x el may.0 pass.0 claims.0 m.0)
    ∙ ap (λ q. satisfied e (rows_below x.1) ++ q) (in_children s e k xs el may.1 pass.1 claims.1 m.1) ∙ sym (satisfied_append e (rows_below x.1) (flat_map rows_of xs))

pub exact : (s : Attributes) (e : Assignments) (k : Known) (n : Plain) → event_lies s e ≡ true → everywhere (is_placed_at s) s k n ≡ true → list_all (may_stand s) (rows_below n) ≡ true
    → satisfied e (all_of (visited s e k.range n)) ≡ satisfied e (rows_below n)
exact s e k n el =
    where_known (is_placed_at s) s (IsExact s e)
    (λ j m l claims ms. let p = placed s j m l in
    let t = and_parts (list_all (may_stand s) (leaf_of m)) (list_all (may_stand s) (flat_map rows_of (children m))) (sym (list_all-append (may_stand s) (leaf_of m) (flat_map rows_of (children m))) ∙ ap (list_all (may_stand s)) (sym (rows_are m)) ∙ ms) in
    ap (λ v. satisfied e (all_of v)) (visited_is s e j.range m) ∙ satisfied_append e (leaf_of m) (all_of (flat_map (visited_of s e j.range) (children m)))
    ∙ ap (λ q. satisfied e (leaf_of m) ++ q) (in_children s e j (children m) el p.open_steps p.pass claims t.1)
    ∙ sym (satisfied_append e (leaf_of m) (flat_map rows_of (children m))) ∙ ap (satisfied e) (sym (rows_are m)))
    k n
