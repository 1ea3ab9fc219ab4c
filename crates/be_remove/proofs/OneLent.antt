-- A part of a list in memory whose root is lent, and changed.
use Rattle.std.proofs.Common.{◌≡◌, ◌<◌, ℕ, true, List, ◌∷◌, length, get_or, sym, ap, ◌∙◌, subst}
use Rattle.std.specs.Prelude.{IsPermutation}
use Rattle.std.specs.List.{slice_set, AllByRecursion}
use Rattle.std.specs.Box.{with_value}
use Rattle.be_base.specs.declared.names.AttrNo.{AttrNo}
use Rattle.be_model.specs.declared.changes.Row.{Row}
use Rattle.be_model.specs.declared.paths.Hop.{Hop}
use Rattle.be_model.specs.declared.paths.Hop.TheVariants.{Part}
use Rattle.be_model.specs.Schemas.{Attributes}
use Rattle.be_shape.specs.declared.nodes.Node.{Node}
use Rattle.be_shape.specs.declared.nodes.Node.TheFolds.{fold-roll-Part}
use Rattle.be_shape.specs.declared.nodes.Node.TheViews.{out-Part}
use Rattle.be_shape.specs.declared.nodes.Part.{Part as PartOf, roll-Part}
use Rattle.be_shape.specs.Plain.{Plain, plain, plain_node, plain_part, part_as, parts_as, rows_below}
use Rattle.be_shape.specs.Shape.{NodeRange}
use Rattle.be_shape.specs.Children.{roots_of}
use Rattle.be_shape.specs.Less.{IsLess}
use Rattle.be_shape.specs.Steps.{rows_of_node}
use Rattle.be_shape.proofs.Plains.{part_out}
use Rattle.be_remove.specs.Taken.{is_first, kept_part, rows_on}
use Rattle.be_remove.proofs.FirstParts.{first_attr, first_on}
use Rattle.be_remove.proofs.Groups.{StaysRight, part_less, at_part, same_place, same_parts}

-- the part with another root
abbrev pub with_root : PartOf → Node → PartOf
with_root q o = roll-Part (record { attr = (out-Part q).attr; root = with_value (out-Part q).root o })

-- the part at a place, as it is read and as it is lent, and its root
pub record Lent (ps : List PartOf) (i : ℕ) (p q : PartOf) (n : Node) : Type 0 where
  pub within : i < length ps
  pub read : p ≡ get_or ps i p
  pub lent : q ≡ get_or ps i q
  pub root : n ≡ (out-Part q).root.value

module _ {ps : List PartOf} {i : ℕ} {p q : PartOf} {n : Node} (z : Lent ps i p q n) where
  -- what it is, before and after its root has changed
  pub lent_is : part_as q ≡ ((out-Part p).attr, plain n)
  lent_is =
      part_out q ∙ ap (λ x. ((out-Part q).attr, plain x)) (sym z.root) ∙ ap (λ x. ((out-Part x).attr, plain n)) (sym (same_place ps i p q z.within z.read z.lent))

  pub lent_changed : (o : Node) → part_as (with_root q o) ≡ ((out-Part p).attr, plain o)
  lent_changed o =
      fold-roll-Part Plain (AttrNo × Plain) plain_node plain_part (record { attr = (out-Part q).attr; root = with_value (out-Part q).root o }) ∙ ap (λ x. ((out-Part x).attr, plain o)) (sym (same_place ps i p q z.within z.read z.lent))

  -- what holds of each root holds of it
  pub lent_right : (P : Hop × Plain → Type 0) → AllByRecursion P (roots_of (parts_as ps)) → P (Part (out-Part p).attr, plain n)
  lent_right P h =
      let Q : AttrNo × Plain → Type 0 = λ x. P (Part x.0, x.1) in subst Q lent_is (at_part P ps i q z.within z.lent h)

  -- with a row less below it the parts have a row less, and where it is as before they are
  pub lent_less : (s : Attributes) (r : NodeRange) (row : Row) (o : Node) → IsPermutation (rows_below (plain n)) (row ∷ rows_below (plain o)) → StaysRight s r (Part (out-Part p).attr) (plain n) (plain o)
      → IsLess s r row (roots_of (parts_as ps)) (roots_of (kept_part i (parts_as (slice_set ps i (with_root q o)))))
  lent_less s r row o gone right =
      part_less s r row ps i (with_root q o) q (out-Part p).attr (plain n) (plain o) z.within z.lent lent_is (lent_changed o) gone right

  pub lent_same : (o : Node) → plain o ≡ plain n → parts_as (slice_set ps i (with_root q o)) ≡ parts_as ps
  lent_same o e =
      same_parts ps i (with_root q o) q z.within z.lent (lent_changed o ∙ ap (λ x. ((out-Part p).attr, x)) e ∙ sym lent_is)

  -- where it is the first of an attribute
  pub first_rows : (a : AttrNo) → is_first a i (parts_as ps) ≡ true → rows_on a (parts_as ps) ≡ rows_below (plain n)
  first_rows a first = ap rows_of_node (first_on a ps i q first z.lent) ∙ ap (λ x. rows_below x.1) lent_is

  pub first_changed : (a : AttrNo) → is_first a i (parts_as ps) ≡ true → (o : Node) → part_as (with_root q o) ≡ (a, plain o)
  first_changed a first o =
      lent_changed o ∙ ap (λ x. (x, plain o)) (ap (λ x. x.0) (sym lent_is) ∙ first_attr a ps i q first z.lent)
