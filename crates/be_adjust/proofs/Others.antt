-- Children of a node but one, and whether a row may pass to one of them.
use Rattle.std.proofs.Common.{◌≡◌, Bool, true, false, not, cond, eqb, ltb, ◌&&◌, ◌||◌, List, [], ◌∷◌, refl, sym, ap, ◌∙◌, arith}
use Rattle.std.specs.List.{list_any}
use Rattle.std.proofs.lemmas.Bool.{and_parts, and_from, eqb-true, ne_eqb, ltb-true, lt-ltb}
use Rattle.be_base.specs.declared.names.AttrNo.{AttrNo}
use Rattle.be_model.specs.declared.changes.Row.{Row}
use Rattle.be_model.specs.declared.paths.Hop.{Hop}
use Rattle.be_model.specs.declared.paths.Hop.TheVariants.{Part, Low, High}
use Rattle.be_model.specs.Forms.{attrs_rise}
use Rattle.be_model.specs.Rows.{has}
use Rattle.be_model.specs.Schemas.{Attributes}
use Rattle.be_shape.specs.Plain.{Plain, node, Parts, no_part, part, no_half, parts_under}
use Rattle.be_shape.specs.Shape.{NodeRange, known, lower, upper, fits_half, attrs_of}
use Rattle.be_shape.specs.Steps.{without_part}
use Rattle.be_shape.proofs.Levels.{passes_is}
use Rattle.be_adjust.specs.Fits.{stays, passes_others}

-- attributes rise without one of them
pub rise_tail : (b : AttrNo) (bs : List AttrNo) → attrs_rise (b ∷ bs) ≡ true → attrs_rise bs ≡ true
rise_tail b [] h = refl
rise_tail b (c ∷ bs) h = (and_parts (ltb b.0 c.0) (attrs_rise (c ∷ bs)) h).1

rise_skip : (b c : AttrNo) (bs : List AttrNo) → attrs_rise (b ∷ c ∷ bs) ≡ true → attrs_rise (b ∷ bs) ≡ true
rise_skip b c [] h = refl
rise_skip b c (d ∷ bs) h =
    let k = and_parts (ltb b.0 c.0) (attrs_rise (c ∷ d ∷ bs)) h in
    let l = and_parts (ltb c.0 d.0) (attrs_rise (d ∷ bs)) k.1 in
    let less = ltb-true b.0 c.0 k.0 in
    let more = ltb-true c.0 d.0 l.0 in
    and_from (ltb b.0 d.0) (attrs_rise (d ∷ bs)) (lt-ltb b.0 d.0 (omega arith)) l.1

rise_under : (b a : AttrNo) (parts : Parts) → attrs_rise (b ∷ attrs_of parts) ≡ true → attrs_rise (b ∷ attrs_of (without_part a parts)) ≡ true
rise_under b a no_part h = refl
rise_under b a (part c root more) h = by_test (eqb c.0 a.0) (λ k. rise_under c a more k)
  where
    by_test : (t : Bool) → (attrs_rise (c ∷ attrs_of more) ≡ true → attrs_rise (c ∷ attrs_of (without_part a more)) ≡ true) → attrs_rise (b ∷ attrs_of (cond t more (part c root (without_part a more)))) ≡ true
    by_test true f = rise_skip b c (attrs_of more) h
    by_test false f =
        let k = and_parts (ltb b.0 c.0) (attrs_rise (c ∷ attrs_of more)) h in and_from (ltb b.0 c.0) (attrs_rise (c ∷ attrs_of (without_part a more))) k.0 (f k.1)

pub rise_without : (a : AttrNo) (parts : Parts) → attrs_rise (attrs_of parts) ≡ true → attrs_rise (attrs_of (without_part a parts)) ≡ true
rise_without a no_part h = refl
rise_without a (part c root more) h = by_test (eqb c.0 a.0)
  where
    by_test : (t : Bool) → attrs_rise (attrs_of (cond t more (part c root (without_part a more)))) ≡ true
    by_test true = rise_tail c (attrs_of more) h
    by_test false = rise_under c a more h

-- those behind it are others
behind_others : (p : AttrNo → Bool) (b a : AttrNo) (bs : List AttrNo) → attrs_rise (b ∷ bs) ≡ true → b.0 ≡ a.0 → list_any p bs ≡ list_any (λ c. not (eqb c.0 a.0) && p c) bs
behind_others p b a [] h e = refl
behind_others p b a (c ∷ bs) h e =
    let less = ltb-true b.0 c.0 (and_parts (ltb b.0 c.0) (attrs_rise (c ∷ bs)) h).0 in
    let other : eqb c.0 a.0 ≡ false = ne_eqb c.0 a.0 (λ k. omega (arith, e, k, less)) in
    ap (λ z. p c || z) (behind_others p b a bs (rise_skip b c bs h) e) ∙ sym (ap (λ z. (not z && p c) || list_any (λ d. not (eqb d.0 a.0) && p d) bs) other)

pub without_others : (p : AttrNo → Bool) (a : AttrNo) (parts : Parts) → attrs_rise (attrs_of parts) ≡ true → list_any p (attrs_of (without_part a parts)) ≡ list_any (λ c. not (eqb c.0 a.0) && p c) (attrs_of parts)
without_others p a no_part h = refl
without_others p a (part c root more) h = by_test (eqb c.0 a.0) refl (without_others p a more (rise_tail c (attrs_of more) h))
  where
    by_test : (t : Bool) → eqb c.0 a.0 ≡ t → list_any p (attrs_of (without_part a more)) ≡ list_any (λ c. not (eqb c.0 a.0) && p c) (attrs_of more) → list_any p (attrs_of (cond t more (part c root (without_part a more)))) ≡ ((not t && p c) || list_any (λ d. not (eqb d.0 a.0) && p d) (attrs_of more))
    by_test true e f = behind_others p c a (attrs_of more) h (eqb-true c.0 a.0 e)
    by_test false e f = ap (λ z. p c || z) f

-- whether a row stays, child by child
pub stays_is : (s : Attributes) (hop : Hop) (r : NodeRange) (n : Plain) (row : Row) → attrs_rise (attrs_of (parts_under n)) ≡ true → stays s hop r n row ≡ not (passes_others s hop r n row)
stays_is s (Part a) r (node rows parts low high) row h =
    ap not (sym (passes_is s (known r []) rows (without_part a parts) low high row) ∙ ap (λ z. z || fits_half s (known (lower r) []) low row || fits_half s (known (upper r) []) high row) (without_others (λ b. has b row) a parts h))
stays_is s Low r (node rows parts low high) row h = ap not (sym (passes_is s (known r []) rows parts no_half high row))
stays_is s High r (node rows parts low high) row h = ap not (sym (passes_is s (known r []) rows parts low no_half row))
