-- The text of an item with a set, in the pieces in which it is sent.
use Rattle.std.proofs.Common.{◌≡◌, ℤ, List, [], ◌∷◌, ◌++◌, length, Some, refl, sym, ap, ◌∙◌, append_assoc, codes}
use Rattle.std.specs.Option.{option_map_or}
use Rattle.be_base.specs.Sets.{set_text}
use Rattle.be_base.specs.Text.{Text}
use Rattle.be_base.specs.declared.names.AttrNo.{AttrNo}
use Rattle.be_model.specs.Schemas.{Attributes, attribute_at}
use Rattle.be_model.specs.Texts.{value_text}
use Rattle.be_model.specs.declared.schemas.Attribute.{Attribute}
use Rattle.be_event.specs.Writing.{given_text, item_text}

given_many : (value : ℤ → Text) (vs : List ℤ) → (length vs ≡ 1 → ⊥) → set_text value vs ≡ given_text value vs
given_many value [] many = refl
given_many value (v ∷ []) many = absurd (many refl)
given_many value (v ∷ w ∷ vs) many = refl

pub item_sent : (s : Attributes) (item : AttrNo × List ℤ) (attribute : Attribute) (mark : Text) → attribute_at s item.0 ≡ Some attribute → (length item.1 ≡ 1 → ⊥)
    → ((mark ++ attribute.name) ++ codes "=") ++ set_text (value_text attribute.domain) item.1 ≡ mark ++ item_text s item
item_sent s item attribute mark there many =
    ap (λ t. ((mark ++ attribute.name) ++ codes "=") ++ t) (given_many (value_text attribute.domain) item.1 many)
    ∙ ap (λ t. t ++ given_text (value_text attribute.domain) item.1) (append_assoc mark attribute.name (codes "="))
    ∙ append_assoc mark (attribute.name ++ codes "=") (given_text (value_text attribute.domain) item.1)
    ∙ ap (λ found. mark ++ ((option_map_or (λ (x : Attribute). x.name) found [] ++ codes "=") ++ given_text (λ v. option_map_or (λ (x : Attribute). value_text x.domain v) found []) item.1)) (sym there)
