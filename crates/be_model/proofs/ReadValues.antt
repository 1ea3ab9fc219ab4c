-- The value of a word lies in the domain in which it was read.
use Rattle.std.proofs.Common.{◌≡◌, ℕ, ℤ, pos, ◌-◌, ◌<◌, Bool, true, false, cond, List, [], length, Option, Some, None, option_map, refl, ap, ◌∙◌, arith}
use Rattle.std.proofs.lemmas.Bool.Decides.{nat_tests}
use Rattle.std.proofs.lemmas.Int.{ints}
use Rattle.std.proofs.lemmas.List.Quantifiers.{position-Some}
use Rattle.be_base.specs.Text.{Text, same_text}
use Rattle.be_base.specs.Numbers.{int_of}
use Rattle.be_model.specs.declared.schemas.Domain.{Domain}
use Rattle.be_model.specs.declared.schemas.Domain.TheVariants.{Int, Sym}
use Rattle.be_model.specs.Domains.{Range, bounds_of, is_within, within, value_of_word, place_of}

kept : (r : Range) (b : Bool) (w v : ℤ) → is_within r w ≡ b → cond b (Some w) None ≡ Some v → is_within r v ≡ true
kept r true w v e h = let k : v ≡ w = cc in ap (is_within r) k ∙ e
kept r false w v e h = absurd (cc)

in_range : (r : Range) (n : Option ℤ) (v : ℤ) → within r n ≡ Some v → is_within r v ≡ true
in_range r None v h = absurd (cc)
in_range r (Some w) v h = kept r (is_within r w) w v refl h

place_within : (n place : ℕ) → place < n → is_within (pos 0, pos (n - 1)) (pos place) ≡ true
place_within n place h = grind (arith, nat_tests, ints)

in_listing : (text : Text) (words : List Text) (o : Option ℕ) (v : ℤ) → place_of text words ≡ o → option_map (λ place. pos place) o ≡ Some v
    → is_within (pos 0, pos (length words - 1)) v ≡ true
in_listing text words None v e h = absurd (cc)
in_listing text words (Some place) v e h =
    let k = position-Some (λ other. same_text other text) words place [] e in
    let is : v ≡ pos place = cc in
    ap (is_within (pos 0, pos (length words - 1))) is ∙ place_within (length words) place k.0

-- the value of a word is within the bounds
pub value_within : (d : Domain) (text : Text) (v : ℤ) → value_of_word d text ≡ Some v → is_within (bounds_of d) v ≡ true
value_within (Int lo hi) text v h = in_range (lo, hi) (int_of text) v h
value_within (Sym words) text v h = in_listing text words (place_of text words) v refl h
