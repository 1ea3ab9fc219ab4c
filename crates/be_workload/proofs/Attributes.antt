-- The attributes of a workload's schema, and their values.
use Rattle.std.proofs.Common.{◌≡◌, ℕ, zero, suc, pos, ◌<◌, Bool, true, false, cond, ltb, List, [], ◌∷◌, ◌++◌, map, Some, None, option_and_then, ◌+◌, refl, sym, ap, ◌∙◌, subst, arith, codes, decimal}
use Rattle.std.specs.List.{list_all}
use Rattle.std.proofs.lemmas.Bool.{and_parts, ltb-true}
use Rattle.std.proofs.lemmas.Bool.Decides.{nat_tests}
use Rattle.std.proofs.lemmas.Fmt.{decimal_digit}
use Rattle.std.proofs.lemmas.List.Elements.{All-from_recursion}
use Rattle.be_base.specs.Text.{Text, IsName, IsWord, is_word_byte}
use Rattle.be_base.proofs.Decimals.{int_of-signed_decimal}
use Rattle.be_model.specs.declared.schemas.Attribute.{Attribute}
use Rattle.be_model.specs.declared.schemas.Domain.TheVariants.{Int}
use Rattle.be_model.specs.Domains.{within, is_within, value_of_word}
use Rattle.be_model.specs.Schemas.{IsSchema, numbered, attribute_at, attribute_named, value_at, is_attr}
use Rattle.be_model.specs.SetTexts.{has_outside}
use Rattle.be_model.specs.Texts.{NamesAreNames, WordsAreNames}
use Rattle.be_workload.specs.Asked.{attribute, schema}
use Rattle.be_workload.proofs.Plain.{IsPlain}

-- what holds of the first ten numbers
pub below_ten : (P : ℕ → Type 0) → P 0 → P 1 → P 2 → P 3 → P 4 → P 5 → P 6 → P 7 → P 8 → P 9 → (k : ℕ) → k < 10 → P k
below_ten P a b c d e f g h i j zero l = a
below_ten P a b c d e f g h i j (suc zero) l = b
below_ten P a b c d e f g h i j (suc (suc zero)) l = c
below_ten P a b c d e f g h i j (suc (suc (suc zero))) l = d
below_ten P a b c d e f g h i j (suc (suc (suc (suc zero)))) l = e
below_ten P a b c d e f g h i j (suc (suc (suc (suc (suc zero))))) l = f
below_ten P a b c d e f g h i j (suc (suc (suc (suc (suc (suc zero)))))) l = g
below_ten P a b c d e f g h i j (suc (suc (suc (suc (suc (suc (suc zero))))))) l = h
below_ten P a b c d e f g h i j (suc (suc (suc (suc (suc (suc (suc (suc zero)))))))) l = i
below_ten P a b c d e f g h i j (suc (suc (suc (suc (suc (suc (suc (suc (suc zero))))))))) l = j
below_ten P a b c d e f g h i j (suc (suc (suc (suc (suc (suc (suc (suc (suc (suc k)))))))))) l = absurd (omega arith)

abbrev pub attribute_text : ℕ → Text
attribute_text k = codes "a" ++ decimal k

-- what the schema has at this number, under this name
pub record IsAttribute (k : ℕ) (name : Text) : Type 0 where
  pub stands : attribute_at schema (numbered k) ≡ Some (attribute name)
  pub named : attribute_named schema name ≡ Some (numbered k)
  pub is_attribute : is_attr name ≡ true
  pub word : IsWord name
  pub plain : IsPlain 2 name

abbrev IsAttributeAt : ℕ → Type 0
IsAttributeAt k = IsAttribute k (97 ∷ (48 + k) ∷ [])

attributes_at : (k : ℕ) → k < 10 → IsAttributeAt k
unfolding is_word_byte
attributes_at = below_ten IsAttributeAt
    (record { stands = refl; named = refl; is_attribute = refl; word = record { some = omega arith; bytes = refl }; plain = record { bytes = refl; short = omega arith } })
    (record { stands = refl; named = refl; is_attribute = refl; word = record { some = omega arith; bytes = refl }; plain = record { bytes = refl; short = omega arith } })
    (record { stands = refl; named = refl; is_attribute = refl; word = record { some = omega arith; bytes = refl }; plain = record { bytes = refl; short = omega arith } })
    (record { stands = refl; named = refl; is_attribute = refl; word = record { some = omega arith; bytes = refl }; plain = record { bytes = refl; short = omega arith } })
    (record { stands = refl; named = refl; is_attribute = refl; word = record { some = omega arith; bytes = refl }; plain = record { bytes = refl; short = omega arith } })
    (record { stands = refl; named = refl; is_attribute = refl; word = record { some = omega arith; bytes = refl }; plain = record { bytes = refl; short = omega arith } })
    (record { stands = refl; named = refl; is_attribute = refl; word = record { some = omega arith; bytes = refl }; plain = record { bytes = refl; short = omega arith } })
    (record { stands = refl; named = refl; is_attribute = refl; word = record { some = omega arith; bytes = refl }; plain = record { bytes = refl; short = omega arith } })
    (record { stands = refl; named = refl; is_attribute = refl; word = record { some = omega arith; bytes = refl }; plain = record { bytes = refl; short = omega arith } })
    (record { stands = refl; named = refl; is_attribute = refl; word = record { some = omega arith; bytes = refl }; plain = record { bytes = refl; short = omega arith } })

pub attributes : (k : ℕ) → k < 10 → IsAttribute k (attribute_text k)
attributes k at = subst (IsAttribute k) (ap (λ (t : Text). 97 ∷ t) (sym (decimal_digit k at))) (attributes_at k at)

-- a value of their domain
pub value_is_within : (v : ℕ) → v < 1000 → is_within (pos 0, pos 999) (pos v) ≡ true
value_is_within v h = grind (arith, nat_tests)

value_of_text : (v : ℕ) → v < 1000 → value_of_word (Int (pos 0) (pos 999)) (decimal v) ≡ Some (pos v)
value_of_text v h =
    ap (within (pos 0, pos 999)) (int_of-signed_decimal (pos v) (omega arith))
    ∙ ap (λ b. cond b (Some (pos v)) None) (value_is_within v h)

-- is read from its text
pub value_read : (k v : ℕ) → k < 10 → v < 1000 → value_at schema (numbered k) (decimal v) ≡ Some (pos v)
value_read k v at small =
    ap (option_and_then (λ (x : Attribute). value_of_word x.domain (decimal v))) (attributes k at).stands ∙ value_of_text v small

abbrev pub are_small : List ℕ → Bool
are_small vs = list_all (λ v. ltb v 1000) vs

-- none of these values is outside the domain
pub values_inside : (k : ℕ) (vs : List ℕ) → k < 10 → are_small vs ≡ true → has_outside schema (numbered k) (map decimal vs) ≡ false
values_inside k [] at h = refl
values_inside k (v ∷ vs) at h =
    let parts = and_parts (ltb v 1000) (are_small vs) h in
    rw (value_read k v at (ltb-true v 1000 parts.0)) (values_inside k vs at parts.1)

-- the schema has the form of one
pub schema_is_schema : IsSchema schema
schema_is_schema = record { few = omega arith; differ = refl; unreserved = refl; domains = refl }

abbrev NameHas : Attribute → Type 0
NameHas x = IsName x.name × WordsAreNames x.domain

name_of_two : (b c : ℕ) → is_word_byte b ≡ true → is_word_byte c ≡ true → NameHas (attribute (b ∷ c ∷ []))
name_of_two b c h k = (record { some = omega arith; short = omega arith; bytes = rw (h, k) refl }, tt)

pub schema_names : NamesAreNames schema
unfolding is_word_byte
schema_names =
    All-from_recursion NameHas schema (
      name_of_two 97 48 refl refl,
      (
        name_of_two 97 49 refl refl,
        (
          name_of_two 97 50 refl refl,
          (
            name_of_two 97 51 refl refl,
            (
              name_of_two 97 52 refl refl,
              (
                name_of_two 97 53 refl refl,
                (
                  name_of_two 97 54 refl refl,
                  (
                    name_of_two 97 55 refl refl,
                    (name_of_two 97 56 refl refl, (name_of_two 97 57 refl refl, tt)),
                  ),
                ),
              ),
            ),
          ),
        ),
      ),
    )
