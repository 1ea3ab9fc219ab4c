-- What a place tells of its row's attributes is true of the row.
use Rattle.std.proofs.Common.{◌≡◌, ◌==◌, ◌+◌, leb, Bool, true, false, ◌||◌, List, [], ◌∷◌, ◌++◌, length, is_some, Option, Some, None, cond, refl, sym, ap, subst, ◌∙◌}
use Rattle.std.specs.List.{list_any}
use Rattle.std.proofs.lemmas.List.{append-nil, append_assoc}
use Rattle.std.proofs.lemmas.List.Folds.{list_any-append}
use Rattle.std.proofs.lemmas.Bool.{or_left, or_right}
use Rattle.be_base.specs.declared.names.AttrNo.{AttrNo}
use Rattle.be_model.specs.declared.preds.Pred.{Pred}
use Rattle.be_model.specs.Hulls.{is_on}
use Rattle.be_model.proofs.InSchema.{same_attribute}
use Rattle.be_shape.specs.declared.glances.Bounds.{Bounds}
use Rattle.be_shape.specs.declared.widths.Narrowest.{Narrowest}
use Rattle.be_shape.specs.declared.glances.Extent.{Extent}
use Rattle.be_shape.specs.declared.glances.Extent.TheVariants.{Whole, Few, Part}
use Rattle.be_shape.specs.declared.listings.RowAttrs.TheVariants.{Many}
use Rattle.be_shape.specs.Glances.{Glance, Test, test_on, is_part, glance, with_extent, with_test, with_bounds, narrow_bounds, further_bounds, with_pred, with_preds, narrowest_of, glance_of}
use Rattle.be_shape.specs.Listed.{is_many, any_listed, listed, attrs_told, attrs_of}

-- a test of attributes, of predicates and of tests of values
abbrev pub by_attr : (AttrNo → Bool) → Pred → Bool
by_attr test p = test p.attr

abbrev pub of_test : (AttrNo → Bool) → Test → Bool
of_test test t = test t.0

-- unless there may be others, some predicate's attribute passes a test exactly where one that is told does
abbrev pub Lists : List Pred → Glance → Type 0
Lists conj g = is_part g.extent ≡ false → (test : AttrNo → Bool) → list_any (by_attr test) conj ≡ list_any (of_test test) g.tests

or_false : (b : Bool) → (b || false) ≡ b
or_false true = refl
or_false false = refl

absorb : (u v : Bool) → (v ≡ true → u ≡ true) → (u || v) ≡ u
absorb true v f = refl
absorb false false f = refl
absorb false true f = absurd (let k = f refl in cc)

-- the attribute on which there is a test is among those that are told
on_told : (a : AttrNo) (ts : List Test) (test : AttrNo → Bool) → is_some (test_on a ts) ≡ true → test a ≡ true → list_any (of_test test) ts ≡ true
on_told a [] test s h = absurd (cc)
on_told a (t ∷ ts) test s h = by_test (t.0.0 == a.0) refl s (λ k. on_told a ts test k h)
  where
    by_test : (b : Bool) → (t.0.0 == a.0) ≡ b → is_some (cond b (Some t.1) (test_on a ts)) ≡ true → (is_some (test_on a ts) ≡ true → list_any (of_test test) ts ≡ true) → list_any (of_test test) (t ∷ ts) ≡ true
    by_test true e k on = or_left (test t.0) (list_any (of_test test) ts) (ap test (same_attribute t.0 a e) ∙ h)
    by_test false e k on = or_right (test t.0) (list_any (of_test test) ts) (on k)

pub on_is : (a : AttrNo) (ts : List Test) → list_any (of_test (λ b. b.0 == a.0)) ts ≡ is_some (test_on a ts)
on_is a [] = refl
on_is a (t ∷ ts) = by_test (t.0.0 == a.0) (on_is a ts)
  where
    by_test : (b : Bool) → list_any (of_test (λ c. c.0 == a.0)) ts ≡ is_some (test_on a ts) → (b || list_any (of_test (λ c. c.0 == a.0)) ts) ≡ is_some (cond b (Some t.1) (test_on a ts))
    by_test true on = refl
    by_test false on = on

more : (test : AttrNo → Bool) (xs : List Pred) (p : Pred) → list_any (by_attr test) (xs ++ p ∷ []) ≡ (list_any (by_attr test) xs || test p.attr)
more test xs p = list_any-append (by_attr test) xs (p ∷ []) ∙ ap (λ b. list_any (by_attr test) xs || b) (or_false (test p.attr))

more_told : (test : AttrNo → Bool) (ts : List Test) (t : Test) → list_any (of_test test) (ts ++ t ∷ []) ≡ (list_any (of_test test) ts || test t.0)
more_told test ts t = list_any-append (of_test test) ts (t ∷ []) ∙ ap (λ b. list_any (of_test test) ts || b) (or_false (test t.0))

lists_part : (conj : List Pred) (ts : List Test) → Lists conj (glance ts Part)
lists_part conj ts = λ m test. absurd (cc)

lists_again : (xs : List Pred) (p : Pred) (g : Glance) (x : Extent) → is_part g.extent ≡ false → is_some (test_on p.attr g.tests) ≡ true → Lists xs g → Lists (xs ++ p ∷ []) (glance g.tests x)
lists_again xs p g x n s l = λ m test.
    more test xs p ∙ ap (λ b. b || test p.attr) (l n test) ∙ absorb (list_any (of_test test) g.tests) (test p.attr) (on_told p.attr g.tests test s)

-- with the same tests
lists_extent : (x : Extent) (xs : List Pred) (p : Pred) (g : Glance) → (is_part g.extent ≡ false → Lists (xs ++ p ∷ []) (glance g.tests x)) → Lists (xs ++ p ∷ []) (with_extent x g)
lists_extent x xs p g r = by_part (is_part g.extent) refl
  where
    by_part : (c : Bool) → is_part g.extent ≡ c → Lists (xs ++ p ∷ []) (cond c g (glance g.tests x))
    by_part true e = λ m test. absurd (cc)
    by_part false e = r e

not_part : (exact : Bool) (x : Extent) → is_part (cond (exact || is_part x) x Few) ≡ false → is_part x ≡ false
not_part exact Whole h = refl
not_part exact Few h = refl
not_part true Part h = h
not_part false Part h = h

lists_test : (x : Extent) (xs : List Pred) (p : Pred) (b : Bounds) (g : Glance) → (is_part g.extent ≡ false → Lists (xs ++ p ∷ []) (glance g.tests x)) → Lists xs g → Lists (xs ++ p ∷ []) (with_test x p.attr b g)
lists_test full xs p b g r l = by_room (leb 256 p.attr.0 || leb 3 (length g.tests))
  where
    t : Test
    t = (p.attr, b.ends)

    by_room : (c : Bool) → Lists (xs ++ p ∷ []) (cond c (with_extent full g) (glance (g.tests ++ t ∷ []) (cond (b.exact || is_part g.extent) g.extent Few)))
    by_room true = lists_extent full xs p g r
    by_room false = λ m test. more test xs p ∙ ap (λ c. c || test p.attr) (l (not_part b.exact g.extent m) test) ∙ sym (more_told test g.tests t)

lists_bounds : (x : Extent) (xs : List Pred) (p : Pred) (o : Option Bounds) (g : Glance) → (is_part g.extent ≡ false → Lists (xs ++ p ∷ []) (glance g.tests x)) → Lists xs g → Lists (xs ++ p ∷ []) (with_bounds x p.attr o g)
lists_bounds x xs p None g r l = lists_extent x xs p g r
lists_bounds x xs p (Some b) g r l = lists_test x xs p b g r l

lists_pred : (chosen : Narrowest) (few : Bool) (xs : List Pred) (p : Pred) (g : Glance) → Lists xs g → Lists (xs ++ p ∷ []) (with_pred chosen few xs p g)
lists_pred chosen few xs p g l = by_test (is_some (test_on p.attr g.tests)) refl
  where
    by_test : (c : Bool) → is_some (test_on p.attr g.tests) ≡ c
        → Lists (xs ++ p ∷ []) (cond c (with_bounds Few p.attr (further_bounds few p) g) (with_bounds Part p.attr (narrow_bounds chosen xs p) g))
    by_test true d = lists_bounds Few xs p (further_bounds few p) g (λ e. lists_again xs p g Few e d l) l
    by_test false d = lists_bounds Part xs p (narrow_bounds chosen xs p) g (λ e. lists_part (xs ++ p ∷ []) g.tests) l

lists_preds : (chosen : Narrowest) (xs ps : List Pred) (g : Glance) → Lists xs g → Lists (xs ++ ps) (with_preds chosen xs ps g)
lists_preds chosen xs [] g l = subst (λ c. Lists c g) (sym (append-nil xs)) l
lists_preds chosen xs (p ∷ ps) g l =
    let few = leb (length g.tests + length (p ∷ ps)) 3 in
    let next = with_pred chosen few xs p g in
    subst (λ c. Lists c (with_preds chosen (xs ++ p ∷ []) ps next)) (append_assoc xs (p ∷ []) ps) (lists_preds chosen (xs ++ p ∷ []) ps next (lists_pred chosen few xs p g l))

pub lists : (conj : List Pred) → Lists conj (glance_of conj)
lists conj = lists_preds (narrowest_of conj) [] conj (glance [] Whole) (λ _ _. refl)

-- as many tests as can be listed are
listed_is : (ts : List Test) (test : AttrNo → Bool) → is_many (listed ts) ≡ false → list_any (of_test test) ts ≡ any_listed test (listed ts)
listed_is [] test m = refl
listed_is (x ∷ []) test m = or_false (test x.0)
listed_is (x ∷ y ∷ []) test m = ap (λ b. test x.0 || b) (or_false (test y.0))
listed_is (x ∷ y ∷ z ∷ []) test m = right (test x.0) (test y.0) (test z.0)
  where
    right : (u v w : Bool) → (u || (v || (w || false))) ≡ ((u || v) || w)
    right true v w = refl
    right false true w = refl
    right false false w = or_false w
listed_is (x ∷ y ∷ z ∷ w ∷ ts) test m = absurd (cc)

told_is_listed : (conj : List Pred) (g : Glance) (test : AttrNo → Bool) → Lists conj g → is_many (attrs_told g) ≡ false → list_any (by_attr test) conj ≡ any_listed test (attrs_told g)
told_is_listed conj g test l = by_part (is_part g.extent) refl
  where
    by_part : (b : Bool) → is_part g.extent ≡ b → is_many (cond b Many (listed g.tests)) ≡ false → list_any (by_attr test) conj ≡ any_listed test (cond b Many (listed g.tests))
    by_part true e m = absurd (cc)
    by_part false e m = l e test ∙ listed_is g.tests test m

-- what holds of some attribute of a row holds of one that is listed, and the other way round
pub any_is_listed : (conj : List Pred) (test : AttrNo → Bool) → is_many (attrs_of conj) ≡ false → list_any (λ (p : Pred). test p.attr) conj ≡ any_listed test (attrs_of conj)
any_is_listed conj test m = told_is_listed conj (glance_of conj) test (lists conj) m

pub has_is_listed : (conj : List Pred) (a : AttrNo) → is_many (attrs_of conj) ≡ false → list_any (is_on a) conj ≡ any_listed (λ b. b.0 == a.0) (attrs_of conj)
has_is_listed conj a m = any_is_listed conj (λ b. b.0 == a.0) m

-- unless there may be attributes with no test, a row has those on which there is one
pub has_is_told : (conj : List Pred) (tests : List Test) (extent : Extent) (a : AttrNo) → glance tests extent ≡ glance_of conj → is_part extent ≡ false → list_any (is_on a) conj ≡ is_some (test_on a tests)
has_is_told conj tests extent a e n = l n (λ b. b.0 == a.0) ∙ on_is a tests
  where
    l : Lists conj (glance tests extent)
    l = subst (Lists conj) (sym e) (lists conj)
