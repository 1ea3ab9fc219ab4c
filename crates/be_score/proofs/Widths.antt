-- The span of a row that lies in the schema is a part of the domain.
use Rattle.std.proofs.Common.{◌≡◌, ◌≤ℤ◌, ◌*◌, ◌/◌, ◌<◌, ◌≤◌, List, length, true, refl, sym, ◌∙◌, subst, arith}
use Rattle.std.specs.Prelude.{Option, Some, None}
use Rattle.std.specs.List.{list_any}
use Rattle.std.proofs.Math.Nat.{div-le_of_le-mul, mul-le-mul_left}
use Rattle.std.proofs.lemmas.Int.{ints}
use Rattle.be_base.specs.declared.names.AttrNo.{AttrNo}
use Rattle.be_model.specs.Schemas.{Attributes, range_of}
use Rattle.be_model.specs.Domains.{Range, width}
use Rattle.std.proofs.Common.{true≢false}
use Rattle.be_model.specs.Laws.{IsPart}
use Rattle.be_model.specs.declared.preds.Pred.{Pred}
use Rattle.be_model.specs.Hulls.{is_on}
use Rattle.be_model.specs.Lies.{conj_lies}
use Rattle.be_model.proofs.Spans.{none_outside}
use Rattle.be_model.proofs.InSchema.{range_below}

pub width-part : (d r : Range) → d.0 ≤ℤ r.0 → r.0 ≤ℤ r.1 → r.1 ≤ℤ d.1 → width r ≤ width d
width-part d r low rising high = omega (arith, ints)

pub share-bound : (d r : Range) → IsPart d r → 1000 * width r / width d ≤ 1000
share-bound d r part = let h = width-part d r part.low part.rising part.high in div-le_of_le-mul (width d) (let e : 1000 * width d ≡ width d * 1000 = omega arith in subst (λ n. 1000 * width r ≤ n) e (mul-le-mul_left 1000 h))

-- an attribute on which a condition of the schema has a predicate is one of the schema's
pub attr-below : (s : Attributes) (a : AttrNo) (conj : List Pred) → conj_lies s conj ≡ true → list_any (is_on a) conj ≡ true → a.0 < length s
attr-below s a conj lies on = by_range (range_of s a) refl
  where
    by_range : (o : Option Range) → range_of s a ≡ o → a.0 < length s
    by_range None e = absurd (true≢false (sym on ∙ none_outside s a conj lies e))
    by_range (Some r) e = range_below s a r e
