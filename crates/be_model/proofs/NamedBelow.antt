-- An attribute that is found by its name is one of the schema.
use Rattle.std.proofs.Common.{◌≡◌, ℕ, ◌<◌, [], length, Option, Some, None, option_map, refl, subst}
use Rattle.std.proofs.lemmas.List.{length-map}
use Rattle.std.proofs.lemmas.List.Quantifiers.{position-Some}
use Rattle.be_base.specs.Text.{Text, same_text}
use Rattle.be_base.specs.declared.names.AttrNo.{AttrNo}
use Rattle.be_model.specs.declared.schemas.Attribute.{Attribute}
use Rattle.be_model.specs.Domains.{place_of}
use Rattle.be_model.specs.Schemas.{Attributes, attribute_named, names_of_attributes, numbered}

pub named_below : (s : Attributes) (name : Text) (a : AttrNo) → attribute_named s name ≡ Some a → a.0 < length s
named_below s name a e = by_place (place_of name (names_of_attributes s)) refl e
  where
    by_place : (place : Option ℕ) → place_of name (names_of_attributes s) ≡ place → option_map numbered place ≡ Some a → a.0 < length s
    by_place None at e = absurd cc
    by_place (Some i) at e =
        let is : numbered i ≡ a = cc in
        let found = position-Some (λ (other : Text). same_text other name) (names_of_attributes s) i [] at in
        let count : length (names_of_attributes s) ≡ length s = length-map s (λ (x : Attribute). x.name) in
        subst (λ (x : AttrNo). x.0 < length s) is (subst (λ (n : ℕ). i < n) count found.0)
