-- Rows that may pass to another child.
use Rattle.std.proofs.Common.{◌≡◌, ◌≢◌, ℕ, ◌+◌, ◌≤◌, eqb, Bool, true, false, not, cond, ◌&&◌, ◌||◌, List, [], ◌∷◌, ◌++◌, refl, sym, ap, ◌∙◌, arith}
use Rattle.std.specs.List.{list_any}
use Rattle.std.proofs.lemmas.Bool.{eqb-true, ne_eqb}
use Rattle.std.proofs.lemmas.List.Folds.{list_all-append, list_any-append}
use Rattle.be_base.specs.declared.names.AttrNo.{AttrNo}
use Rattle.be_model.specs.declared.changes.Row.{Row}
use Rattle.be_model.specs.declared.paths.Hop.{Hop}
use Rattle.be_model.specs.declared.paths.Hop.TheVariants.{Part, Low, High}
use Rattle.be_model.specs.Schemas.{Attributes}
use Rattle.be_model.specs.Rows.{has}
use Rattle.be_model.specs.Forms.{attrs_rise}
use Rattle.be_shape.specs.Plain.{Plain, node, Parts, no_part, part, Half, no_half, half}
use Rattle.be_shape.specs.Shape.{NodeRange, attrs_of, is_here}
use Rattle.be_shape.specs.Children.{roots_of, root_of, may_pass}
use Rattle.be_shape.specs.Steps.{without_part}
use Rattle.be_shape.proofs.NodeList.{RisesFrom, rises_from}
use Rattle.be_plan.specs.Merges.{passes_elsewhere, all_stay, is_to, is_same}

pub stay_append : (s : Attributes) (hop : Hop) (r : NodeRange) (n : Plain) (xs ys : List Row) → all_stay s hop r n (xs ++ ys) ≡ (all_stay s hop r n xs && all_stay s hop r n ys)
stay_append s hop r n xs ys = list_all-append (λ row. not (passes_elsewhere s hop r n row)) xs ys

pub stay_four : (s : Attributes) (hop : Hop) (r : NodeRange) (n : Plain) (a b c d : List Row)
    → all_stay s hop r n (a ++ b ++ c ++ d) ≡ (all_stay s hop r n a && all_stay s hop r n b && all_stay s hop r n c && all_stay s hop r n d)
stay_four s hop r n a b c d =
    stay_append s hop r n (a ++ b ++ c) d ∙ ap (λ t. t && all_stay s hop r n d) (stay_append s hop r n (a ++ b) c ∙ ap (λ t. t && all_stay s hop r n c) (stay_append s hop r n a b))

or_false : (b : Bool) → (b || false) ≡ b
or_false true = refl
or_false false = refl

rises_lower : (n m : ℕ) (xs : List AttrNo) → n ≤ m → RisesFrom m xs → RisesFrom n xs
rises_lower n m [] l h = tt
rises_lower n m (a ∷ xs) l h = let k = h.0 in (omega arith, h.1)

module _ (s : Attributes) (r : NodeRange) (row : Row) where
  abbrev passes : Hop × Plain → Bool
  passes x = may_pass s x.0 r row

  all_parts : (parts : Parts) → list_any passes (roots_of parts) ≡ list_any (λ a. has a row) (attrs_of parts)
  all_parts no_part = refl
  all_parts (part a root more) = ap (λ t. has a row || t) (all_parts more)

  -- the attributes after it are others
  later : (a : AttrNo) (parts : Parts) → RisesFrom (a.0 + 1) (attrs_of parts) → list_any passes (roots_of parts) ≡ list_any (λ b. not (eqb b.0 a.0) && has b row) (attrs_of parts)
  later a no_part h = refl
  later a (part b root more) h =
      let differ : b.0 ≢ a.0 = λ e. let k = h.0 in omega arith in
      let rest : RisesFrom (a.0 + 1) (attrs_of more) = let k = h.0 in rises_lower (a.0 + 1) (b.0 + 1) (attrs_of more) (omega arith) h.1 in
      ap (λ t. has b row || t) (later a more rest) ∙ ap (λ t. (not t && has b row) || list_any (λ c. not (eqb c.0 a.0) && has c row) (attrs_of more)) (sym (ne_eqb b.0 a.0 differ))

  others : (a : AttrNo) (n : ℕ) (parts : Parts) → RisesFrom n (attrs_of parts) → list_any passes (roots_of (without_part a parts)) ≡ list_any (λ b. not (eqb b.0 a.0) && has b row) (attrs_of parts)
  others a n no_part h = refl
  others a n (part b root more) h = by_test (eqb b.0 a.0) refl (others a (b.0 + 1) more h.1)
    where
      by_test : (t : Bool) → eqb b.0 a.0 ≡ t → list_any passes (roots_of (without_part a more)) ≡ list_any (λ c. not (eqb c.0 a.0) && has c row) (attrs_of more)
          → list_any passes (roots_of (cond t more (part b root (without_part a more)))) ≡ ((not t && has b row) || list_any (λ c. not (eqb c.0 a.0) && has c row) (attrs_of more))
      by_test true e k = let same = eqb-true b.0 a.0 e in let up : RisesFrom (a.0 + 1) (attrs_of more) = rises_lower (a.0 + 1) (b.0 + 1) (attrs_of more) (omega arith) h.1 in later a more up
      by_test false e k = ap (λ t. has b row || t) k

  here : (hop : Hop) (h : Half) → list_any passes (root_of hop h) ≡ (is_here h && true && may_pass s hop r row)
  here hop no_half = refl
  here hop (half n) = or_false (may_pass s hop r row)

  gone : (b p : Bool) → false ≡ (b && false && p)
  gone true p = refl
  gone false p = refl

  three : (a b c : List (Hop × Plain)) (x y z : Bool) → list_any passes a ≡ x → list_any passes b ≡ y → list_any passes c ≡ z → list_any passes (a ++ b ++ c) ≡ (x || y || z)
  three a b c x y z e f g =
      list_any-append passes (a ++ b) c ∙ ap (λ t. t || list_any passes c) (list_any-append passes a b ∙ ap (λ t. t || list_any passes b) e ∙ ap (λ t. x || t) f) ∙ ap (λ t. (x || y) || t) g

  -- a row may pass to another child where it has the attribute of another part, or another half that is there takes it
  pub elsewhere : (hop : Hop) (rows : List Row) (parts : Parts) (low high : Half) → attrs_rise (attrs_of parts) ≡ true
      → passes_elsewhere s hop r (node rows parts low high) row ≡ (list_any (λ a. not (is_to a hop) && has a row) (attrs_of parts) || (is_here low && not (is_same Low hop) && may_pass s Low r row) || (is_here high && not (is_same High hop) && may_pass s High r row))
  elsewhere (Part a) rows parts low high h =
      three (roots_of (without_part a parts)) (root_of Low low) (root_of High high) _ _ _ (others a 0 parts (rises_from (attrs_of parts) h)) (here Low low) (here High high)
  elsewhere Low rows parts low high h =
      three (roots_of parts) [] (root_of High high) _ _ _ (all_parts parts) (gone (is_here low) (may_pass s Low r row)) (here High high)
  elsewhere High rows parts low high h =
      three (roots_of parts) (root_of Low low) [] _ _ _ (all_parts parts) (here Low low) (gone (is_here high) (may_pass s High r row))

pub or_parts : (a b c x y z : Bool) → a ≡ x → b ≡ y → c ≡ z → (a || b || c) ≡ (x || y || z)
or_parts a b c x y z e f g = ap (λ t. t || b || c) e ∙ ap (λ t. x || t || c) f ∙ ap (λ t. x || y || t) g

pub and_four : (a b c d x y z w : Bool) → a ≡ x → b ≡ y → c ≡ z → d ≡ w → (a && b && c && d) ≡ (x && y && z && w)
and_four a b c d x y z w e f g h = ap (λ t. t && b && c && d) e ∙ ap (λ t. x && t && c && d) f ∙ ap (λ t. x && y && t && d) g ∙ ap (λ t. x && y && z && t) h
