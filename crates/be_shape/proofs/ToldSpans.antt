-- What a place tells of spans and attributes is true of its row.
use Rattle.std.proofs.Common.{◌≡◌, ℤ, pos, ◌+ℤ◌, ◌-ℤ◌, ◌≤ℤ◌, ◌<ℤ◌, ◌<◌, ◌==◌, ◌+◌, leb, Bool, true, false, ◌&&◌, ◌||◌, List, [], ◌∷◌, ◌++◌, length, find, is_some, Option, Some, None, option_map, option_and_then, cond, refl, sym, ap, ap₂, subst, ◌∙◌, arith}
use Rattle.std.specs.Int.{int_max, int_min}
use Rattle.std.specs.Int.Signed.{le_z}
use Rattle.std.specs.Ordering.{int_eq}
use Rattle.std.specs.List.{list_any}
use Rattle.std.specs.Option.{option_or}
use Rattle.std.proofs.lemmas.Int.{ints, clamps}
use Rattle.std.proofs.lemmas.List.{append-nil, append_assoc}
use Rattle.std.proofs.lemmas.List.Folds.{find-append}
use Rattle.std.proofs.lemmas.Bool.{and_parts, eq-eqb}
use Rattle.std.proofs.lemmas.Bool.Decides.{Decides-int_eq}
use Rattle.be_base.specs.declared.names.AttrNo.{AttrNo}
use Rattle.be_model.specs.declared.ops.Op.{Op}
use Rattle.be_model.specs.declared.ops.Op.TheVariants.{Lt, Le, Eq, Ne, Ge, Gt, Between, OneOf, NoneOf}
use Rattle.be_model.specs.declared.preds.Pred.{Pred}
use Rattle.be_model.specs.Domains.{Range, is_within}
use Rattle.be_model.specs.Forms.{OpForm, IsConj}
use Rattle.be_model.specs.Hulls.{first_of_values, last_of_values, is_on, hull, span, span_in}
use Rattle.be_model.specs.Lies.{values_in, lies_within, lies_in, conj_lies}
use Rattle.be_model.specs.Schemas.{Attributes, range_of}
use Rattle.be_model.proofs.Lists.{is_some-find, found_passes, found_has}
use Rattle.be_model.proofs.InSchema.{same_attribute}
use Rattle.be_model.proofs.Ranges.{within_parts, hulls_lie}
use Rattle.be_model.proofs.Spans.{pred_found}
use Rattle.be_shape.specs.declared.glances.Bounds.{Bounds}
use Rattle.be_shape.specs.declared.widths.Narrowest.{Narrowest}
use Rattle.be_shape.specs.declared.glances.Extent.{Extent}
use Rattle.be_shape.specs.declared.glances.Extent.TheVariants.{Whole, Few, Part}
use Rattle.be_shape.specs.Glances.{Glance, least, greatest, small, bounds, bounds_of, Test, test_on, is_part, glance, with_extent, with_bounds, narrow_bounds, further_bounds, with_pred, with_preds, narrowest_of, glance_of, hull_low, hull_high, hull_in}
use Rattle.be_shape.proofs.FewAttrs.{has_is_told}
use Rattle.be_shape.proofs.FirstBounds.{narrow_is}
use Rattle.be_shape.proofs.ToldTests.{by_small}

-- the ends are those of the first predicate on the attribute
record IsFirst (conj : List Pred) (a : AttrNo) (ends : ℤ × ℤ) : Type 0 where
  pred : Pred
  bounds : Bounds
  found : find (is_on a) conj ≡ Some pred
  told : bounds_of pred.op ≡ Some bounds
  same : bounds.ends ≡ ends

-- each test is of the first predicate on its attribute
abbrev AreFirst : List Pred → List Test → Type 0
AreFirst conj ts = (a : AttrNo) (ends : ℤ × ℤ) → test_on a ts ≡ Some ends → IsFirst conj a ends

first_more : (xs ys : List Pred) (a : AttrNo) (ends : ℤ × ℤ) → IsFirst xs a ends → IsFirst (xs ++ ys) a ends
first_more xs ys a ends f =
    record { pred = f.pred; bounds = f.bounds; found = find-append (is_on a) xs ys ∙ ap (λ o. option_or o (find (is_on a) ys)) f.found; told = f.told; same = f.same }

none_of : (o : Option Pred) → is_some o ≡ false → o ≡ None
none_of None h = refl
none_of (Some p) h = absurd (cc)

found_self : (p : Pred) (b : Bool) → (p.attr.0 == p.attr.0) ≡ b → cond b (Some p) None ≡ Some p
found_self p true e = refl
found_self p false e = absurd (let t = eq-eqb p.attr.0 p.attr.0 refl in cc)

first_new : (xs : List Pred) (p : Pred) (b : Bounds) → list_any (is_on p.attr) xs ≡ false → bounds_of p.op ≡ Some b → IsFirst (xs ++ p ∷ []) p.attr b.ends
first_new xs p b h e =
    record {
      pred = p;
      bounds = b;
      found = find-append (is_on p.attr) xs (p ∷ []) ∙ ap (λ o. option_or o (find (is_on p.attr) (p ∷ []))) (none_of (find (is_on p.attr) xs) (is_some-find (is_on p.attr) xs ∙ h)) ∙ found_self p (p.attr.0 == p.attr.0) refl;
      told = e;
      same = refl;
    }

on_more : (a : AttrNo) (ts : List Test) (t : Test) → test_on a (ts ++ t ∷ []) ≡ option_or (test_on a ts) (test_on a (t ∷ []))
on_more a [] t = refl
on_more a (x ∷ xs) t = by_test (x.0.0 == a.0) (on_more a xs t)
  where
    by_test : (b : Bool) → test_on a (xs ++ t ∷ []) ≡ option_or (test_on a xs) (test_on a (t ∷ [])) → cond b (Some x.1) (test_on a (xs ++ t ∷ [])) ≡ option_or (cond b (Some x.1) (test_on a xs)) (test_on a (t ∷ []))
    by_test true on = refl
    by_test false on = on

moved : (conj : List Pred) (a b : AttrNo) (x y : ℤ × ℤ) → a ≡ b → x ≡ y → IsFirst conj a x → IsFirst conj b y
moved conj a b x y e f i = subst (λ c. IsFirst conj c y) e (subst (λ z. IsFirst conj a z) f i)

some_same : (x y : ℤ × ℤ) → Some x ≡ Some y → x ≡ y
some_same x y h = cc

kept : (xs : List Pred) (p : Pred) (ts : List Test) → AreFirst xs ts → AreFirst (xs ++ p ∷ []) ts
kept xs p ts f = λ a ends h. first_more xs (p ∷ []) a ends (f a ends h)

-- with a test more
joined : (xs : List Pred) (p : Pred) (x : ℤ × ℤ) (ts : List Test) → AreFirst xs ts → IsFirst (xs ++ p ∷ []) p.attr x → AreFirst (xs ++ p ∷ []) (ts ++ (p.attr, x) ∷ [])
joined xs p x ts f n = λ a ends h. by_old a ends (test_on a ts) refl (sym (on_more a ts (p.attr, x)) ∙ h)
  where
    by_attr : (a : AttrNo) (ends : ℤ × ℤ) (c : Bool) → (p.attr.0 == a.0) ≡ c → cond c (Some x) None ≡ Some ends → IsFirst (xs ++ p ∷ []) a ends
    by_attr a ends true e h = moved (xs ++ p ∷ []) p.attr a x ends (same_attribute p.attr a e) (some_same x ends h) n
    by_attr a ends false e h = absurd (cc)

    by_old : (a : AttrNo) (ends : ℤ × ℤ) (o : Option (ℤ × ℤ)) → test_on a ts ≡ o → option_or o (test_on a ((p.attr, x) ∷ [])) ≡ Some ends → IsFirst (xs ++ p ∷ []) a ends
    by_old a ends (Some y) e h = first_more xs (p ∷ []) a ends (f a ends (e ∙ h))
    by_old a ends None e h = by_attr a ends (p.attr.0 == a.0) refl h

-- with a test more on an attribute that has one
joined_again : (xs : List Pred) (p : Pred) (x : ℤ × ℤ) (ts : List Test) → AreFirst xs ts → is_some (test_on p.attr ts) ≡ true → AreFirst (xs ++ p ∷ []) (ts ++ (p.attr, x) ∷ [])
joined_again xs p x ts f s = λ a ends h. by_old a ends (test_on a ts) refl (sym (on_more a ts (p.attr, x)) ∙ h)
  where
    by_attr : (a : AttrNo) (ends : ℤ × ℤ) (c : Bool) → (p.attr.0 == a.0) ≡ c → test_on a ts ≡ None → cond c (Some x) None ≡ Some ends → IsFirst (xs ++ p ∷ []) a ends
    by_attr a ends true e n h = absurd (let k : is_some (test_on a ts) ≡ true = subst (λ b. is_some (test_on b ts) ≡ true) (same_attribute p.attr a e) s in cc)
    by_attr a ends false e n h = absurd (cc)

    by_old : (a : AttrNo) (ends : ℤ × ℤ) (o : Option (ℤ × ℤ)) → test_on a ts ≡ o → option_or o (test_on a ((p.attr, x) ∷ [])) ≡ Some ends → IsFirst (xs ++ p ∷ []) a ends
    by_old a ends (Some y) e h = first_more xs (p ∷ []) a ends (f a ends (e ∙ h))
    by_old a ends None e h = by_attr a ends (p.attr.0 == a.0) refl e h

first_bounds : (x : Extent) (xs : List Pred) (p : Pred) (o : Option Bounds) (g : Glance) → AreFirst xs g.tests → ((b : Bounds) → o ≡ Some b → AreFirst (xs ++ p ∷ []) (g.tests ++ (p.attr, b.ends) ∷ []))
    → AreFirst (xs ++ p ∷ []) (with_bounds x p.attr o g).tests
first_bounds full xs p o g f j = by_bounds o j
  where
    by_part : (c : Bool) → AreFirst (xs ++ p ∷ []) (cond c g (glance g.tests full)).tests
    by_part true = kept xs p g.tests f
    by_part false = kept xs p g.tests f

    by_room : (b : Bounds) (c : Bool) → AreFirst (xs ++ p ∷ []) (g.tests ++ (p.attr, b.ends) ∷ [])
        → AreFirst (xs ++ p ∷ []) (cond c (with_extent full g) (glance (g.tests ++ (p.attr, b.ends) ∷ []) (cond (b.exact || is_part g.extent) g.extent Few))).tests
    by_room b true k = by_part (is_part g.extent)
    by_room b false k = k

    by_bounds : (o : Option Bounds) → ((b : Bounds) → o ≡ Some b → AreFirst (xs ++ p ∷ []) (g.tests ++ (p.attr, b.ends) ∷ [])) → AreFirst (xs ++ p ∷ []) (with_bounds full p.attr o g).tests
    by_bounds None j = by_part (is_part g.extent)
    by_bounds (Some b) j = by_room b (leb 256 p.attr.0 || leb 3 (length g.tests)) (j b refl)

first_pred : (chosen : Narrowest) (few : Bool) (xs : List Pred) (p : Pred) (g : Glance) → AreFirst xs g.tests → AreFirst (xs ++ p ∷ []) (with_pred chosen few xs p g).tests
first_pred chosen few xs p g f = by_test (is_some (test_on p.attr g.tests)) refl
  where
    by_test : (c : Bool) → is_some (test_on p.attr g.tests) ≡ c
        → AreFirst (xs ++ p ∷ []) (cond c (with_bounds Few p.attr (further_bounds few p) g) (with_bounds Part p.attr (narrow_bounds chosen xs p) g)).tests
    by_test true d = first_bounds Few xs p (further_bounds few p) g f (λ b e. joined_again xs p b.ends g.tests f d)
    by_test false d =
        first_bounds Part xs p (narrow_bounds chosen xs p) g f (λ b e. let n = narrow_is chosen xs p b e in joined xs p b.ends g.tests f (first_new xs p b n.first n.told))

first_preds : (chosen : Narrowest) (xs ps : List Pred) (g : Glance) → AreFirst xs g.tests → AreFirst (xs ++ ps) (with_preds chosen xs ps g).tests
first_preds chosen xs [] g f = subst (λ c. AreFirst c g.tests) (sym (append-nil xs)) f
first_preds chosen xs (p ∷ ps) g f =
    let few = leb (length g.tests + length (p ∷ ps)) 3 in
    let next = with_pred chosen few xs p g in
    subst (λ c. AreFirst c (with_preds chosen (xs ++ p ∷ []) ps next).tests) (append_assoc xs (p ∷ []) ps) (first_preds chosen (xs ++ p ∷ []) ps next (first_pred chosen few xs p g f))

firsts : (conj : List Pred) → AreFirst conj (glance_of conj).tests
firsts conj = first_preds (narrowest_of conj) [] conj (glance [] Whole) (λ a ends h. absurd (cc))

not_equal : (x y : ℤ) → x <ℤ y → int_eq x y ≡ false
not_equal x y h = by_test (int_eq x y) refl
  where
    by_test : (b : Bool) → int_eq x y ≡ b → b ≡ false
    by_test true e = absurd (let k : x ≡ y = (Decides-int_eq x y).0 e in omega (arith, ints))
    by_test false e = refl

not_equal_above : (x y : ℤ) → y <ℤ x → int_eq x y ≡ false
not_equal_above x y h = by_test (int_eq x y) refl
  where
    by_test : (b : Bool) → int_eq x y ≡ b → b ≡ false
    by_test true e = absurd (let k : x ≡ y = (Decides-int_eq x y).0 e in omega (arith, ints))
    by_test false e = refl

min_is : (x y : ℤ) → y ≤ℤ x → int_min x y ≡ y
min_is x y h = omega (arith, ints, clamps)

max_is : (x y : ℤ) → x ≤ℤ y → y ≡ int_max x y
max_is x y h = omega (arith, ints, clamps)

min_below : (x y : ℤ) → int_min x y ≤ℤ x
min_below x y = omega (arith, ints, clamps)

le_refl : (x : ℤ) → x ≤ℤ x
le_refl x = omega (arith, ints)

low_is : (d : Range) (x : ℤ) → least <ℤ x → hull_low d x ≡ int_min d.1 x
low_is d x h = ap (λ b. cond b d.0 (int_min d.1 x)) (not_equal_above x least h)

low_at : (d : Range) (x : ℤ) → least <ℤ x → x ≤ℤ d.1 → hull_low d x ≡ x
low_at d x h k = low_is d x h ∙ min_is d.1 x k

high_is : (d : Range) (x : ℤ) → x <ℤ greatest → hull_high d x ≡ x
high_is d x h = ap (λ b. cond b d.1 x) (not_equal x greatest h)

less_one : (x : ℤ) → x <ℤ greatest → (x -ℤ pos 1) <ℤ greatest
less_one x h = omega (arith, ints)

one_more : (x : ℤ) → least <ℤ x → least <ℤ (x +ℤ pos 1)
one_more x h = omega (arith, ints)

hull_from : (d : Range) (l h : ℤ) (low high top : ℤ) → hull_low d l ≡ low → hull_high d h ≡ high → top ≡ int_max low high → (low, top) ≡ hull_in d (l, h)
hull_from d l h low high top e f k = ap (λ t. (low, t)) k ∙ ap₂ (λ u v. (u, int_max u v)) (sym e) (sym f)

abbrev HullTold : Range → Op → Option Bounds → Type 0
HullTold d op None = Unit {0}
HullTold d op (Some b) = hull d op ≡ hull_in d b.ends

one_within : (d : Range) (x : ℤ) → lies_within d (x ∷ []) ≡ true → (d.0 ≤ℤ x) × (x ≤ℤ d.1)
one_within d x h = within_parts d x (and_parts (is_within d x) true h).0

first_within : (d : Range) (z : ℤ) (zs : List ℤ) → lies_within d (z ∷ zs) ≡ true → (d.0 ≤ℤ z) × (z ≤ℤ d.1)
first_within d z zs h = within_parts d z (and_parts (is_within d z) (lies_within d zs) h).0

between : (d : Range) (v : ℤ) → (d.0 ≤ℤ v) × (v ≤ℤ d.1) → d.0 ≤ℤ d.1
between d v k = let a = k.0 in let b = k.1 in omega (arith, ints)

-- the widest ends tell the domain where it has a value
whole_told : (d : Range) (v : ℤ) → (d.0 ≤ℤ v) × (v ≤ℤ d.1) → d ≡ hull_in d (least, greatest)
whole_told d v k = hull_from d least greatest d.0 d.1 d.1 refl refl (max_is d.0 d.1 (between d v k))

-- the ends tell the hull
hull_told : (d : Range) (op : Op) → OpForm op → lies_within d (values_in op) ≡ true → HullTold d op (bounds_of op)
hull_told d (Lt x) f h =
    by_small x (λ o. HullTold d (Lt x) (option_map (λ v. bounds least (v -ℤ pos 1) true) o))
    (λ l g. hull_from d least (x -ℤ pos 1) d.0 (x -ℤ pos 1) (int_max d.0 (x -ℤ pos 1)) refl (high_is d (x -ℤ pos 1) (less_one x g)) refl) tt
hull_told d (Le x) f h =
    by_small x (λ o. HullTold d (Le x) (option_map (λ v. bounds least v true) o))
    (λ l g. hull_from d least x d.0 x x refl (high_is d x g) (max_is d.0 x (one_within d x h).0)) tt
hull_told d (Eq x) f h =
    by_small x (λ o. HullTold d (Eq x) (option_map (λ v. bounds v v true) o))
    (λ l g. hull_from d x x x x x (low_at d x l (one_within d x h).1) (high_is d x g) (max_is x x (le_refl x))) tt
hull_told d (Ne x) f h = whole_told d x (one_within d x h)
hull_told d (Ge x) f h =
    by_small x (λ o. HullTold d (Ge x) (option_map (λ v. bounds v greatest true) o))
    (λ l g. hull_from d x greatest x d.1 d.1 (low_at d x l (one_within d x h).1) refl (max_is x d.1 (one_within d x h).1)) tt
hull_told d (Gt x) f h =
    by_small x (λ o. HullTold d (Gt x) (option_map (λ v. bounds (v +ℤ pos 1) greatest true) o))
    (λ l g. hull_from d (x +ℤ pos 1) greatest (int_min d.1 (x +ℤ pos 1)) d.1 d.1 (low_is d (x +ℤ pos 1) (one_more x l)) refl (max_is (int_min d.1 (x +ℤ pos 1)) d.1 (min_below d.1 (x +ℤ pos 1)))) tt
hull_told d (Between x y) f h =
    let k = within_parts d x (and_parts (is_within d x) (lies_within d (y ∷ [])) h).0 in
    by_small x (λ o. HullTold d (Between x y) (option_and_then (λ v. option_map (λ w. bounds v w (le_z v w)) (small y)) o))
    (λ l g. by_small y (λ o. HullTold d (Between x y) (option_map (λ w. bounds x w (le_z x w)) o))
    (λ m n. hull_from d x y x y (int_max x y) (low_at d x l k.1) (high_is d y n) refl) tt) tt
hull_told d (OneOf []) f h = absurd (let k : 0 < 0 = f.some in omega arith)
hull_told d (OneOf (z ∷ zs)) f h =
    let x = first_of_values (z ∷ zs) in
    let y = last_of_values (z ∷ zs) in
    let k = first_within d z zs h in
    let part = hulls_lie d (OneOf (z ∷ zs)) f (between d z k) h in
    by_small x (λ o. HullTold d (OneOf (z ∷ zs)) (option_and_then (λ v. option_map (λ w. bounds v w false) (small y)) o))
    (λ l g. by_small y (λ o. HullTold d (OneOf (z ∷ zs)) (option_map (λ w. bounds x w false) o))
    (λ m n. hull_from d x y x y y (low_at d x l k.1) (high_is d y n) (max_is x y part.rising)) tt) tt
hull_told d (NoneOf []) f h = absurd (let k : 0 < 0 = f.some in omega arith)
hull_told d (NoneOf (z ∷ zs)) f h = whole_told d z (first_within d z zs h)

hull_of_first : (d : Range) (op : Op) (b : Bounds) (ends : ℤ × ℤ) → OpForm op → lies_within d (values_in op) ≡ true → bounds_of op ≡ Some b → b.ends ≡ ends → hull d op ≡ hull_in d ends
hull_of_first d op b ends f h e s =
    let k : HullTold d op (Some b) = subst (HullTold d op) e (hull_told d op f h) in
    k ∙ ap (hull_in d) s

-- the span that a test tells
pub told_span : (s : Attributes) (a : AttrNo) (conj : List Pred) (tests : List Test) (extent : Extent) (ends : ℤ × ℤ) → glance tests extent ≡ glance_of conj → IsConj conj → conj_lies s conj ≡ true
    → test_on a tests ≡ Some ends → span_in s a conj ≡ option_map (λ d. hull_in d ends) (range_of s a)
told_span s a conj tests extent ends same f lies e = by_range (range_of s a) refl
  where
    i : IsFirst conj a ends
    i = subst (λ (g : Glance). AreFirst conj g.tests) (sym same) (firsts conj) a ends e

    by_range : (o : Option Range) → range_of s a ≡ o → option_and_then (λ d. span d a conj) o ≡ option_map (λ d. hull_in d ends) o
    by_range None k = refl
    by_range (Some d) k =
        let on : i.pred.attr ≡ a = same_attribute i.pred.attr a (found_passes (is_on a) conj i.pred i.found) in
        let lie : lies_within d (values_in i.pred.op) ≡ true = sym (ap (λ o. lies_in o (values_in i.pred.op)) (ap (range_of s) on ∙ k)) ∙ pred_found s a conj i.pred lies i.found in
        let form : OpForm i.pred.op = found_has (λ (q : Pred). OpForm q.op) (is_on a) conj i.pred f.forms i.found in
        ap (option_map (λ (q : Pred). hull d q.op)) i.found ∙ ap Some (hull_of_first d i.pred.op i.bounds ends form lie i.told i.same)

-- there is no span where there is no test, unless there may be attributes with none
pub told_no_span : (s : Attributes) (a : AttrNo) (conj : List Pred) (tests : List Test) (extent : Extent) → glance tests extent ≡ glance_of conj → is_part extent ≡ false → test_on a tests ≡ None → span_in s a conj ≡ None
told_no_span s a conj tests extent same n e = by_range (range_of s a)
  where
    none : find (is_on a) conj ≡ None
    none = none_of (find (is_on a) conj) (is_some-find (is_on a) conj ∙ has_is_told conj tests extent a same n ∙ ap is_some e)

    by_range : (o : Option Range) → option_and_then (λ d. span d a conj) o ≡ None
    by_range None = refl
    by_range (Some d) = ap (option_map (λ (q : Pred). hull d q.op)) none

-- a row has the attributes on which there are tests, and others only where there may be some
pub has_told : (conj : List Pred) (tests : List Test) (extent : Extent) (a : AttrNo) → glance tests extent ≡ glance_of conj → list_any (is_on a) conj ≡ (is_some (test_on a tests) || (is_part extent && list_any (is_on a) conj))
has_told conj tests extent a same = by_part (is_part extent) refl
  where
    is_found : (ends : ℤ × ℤ) → test_on a tests ≡ Some ends → list_any (is_on a) conj ≡ true
    is_found ends e =
        let i : IsFirst conj a ends = subst (λ (g : Glance). AreFirst conj g.tests) (sym same) (firsts conj) a ends e in
        sym (is_some-find (is_on a) conj) ∙ ap is_some i.found

    by_test : (o : Option (ℤ × ℤ)) → test_on a tests ≡ o → list_any (is_on a) conj ≡ (is_some o || list_any (is_on a) conj)
    by_test (Some ends) e = is_found ends e
    by_test None e = refl

    or_false : (b : Bool) → b ≡ (b || false)
    or_false true = refl
    or_false false = refl

    by_part : (b : Bool) → is_part extent ≡ b → list_any (is_on a) conj ≡ (is_some (test_on a tests) || (b && list_any (is_on a) conj))
    by_part true e = by_test (test_on a tests) refl
    by_part false e = has_is_told conj tests extent a same e ∙ or_false (is_some (test_on a tests))
