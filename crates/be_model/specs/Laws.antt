-- What hulls, spans, halves and numbers of halvings are good for.
use Rattle.std.specs.Prelude.{◌≡◌, ◌↔◌, ℕ, ℤ, ◌+◌, ◌/◌, ◌≤◌, ◌<ℤ◌, ◌≤ℤ◌, ◌||◌, ◌&&◌, true, false, List, Some, IfSome, IsNone}
use Rattle.std.specs.List.{list_any}
use Rattle.be_base.specs.declared.names.AttrNo.{AttrNo}
use Rattle.be_model.specs.declared.ops.Op.{Op}
use Rattle.be_model.specs.declared.preds.Pred.{Pred}
use Rattle.be_model.specs.Domains.{Range, is_within, is_some_within, width, low_half, high_half, bits}
use Rattle.be_model.specs.Schemas.{Attributes, IsSchema, range_of}
use Rattle.be_model.specs.Forms.{OpForm, IsConj}
use Rattle.be_model.specs.Matching.{Assignments, holds, values_of, satisfies}
use Rattle.be_model.specs.Lies.{conj_lies, event_lies}
use Rattle.be_model.specs.Hulls.{hull, is_on, span_in}

-- a range that isn't empty, inside another
pub record IsPart (whole part : Range) : Type 0 where
  pub low : whole.0 ≤ℤ part.0
  pub rising : part.0 ≤ℤ part.1
  pub high : part.1 ≤ℤ whole.1

-- the hull of a comparison holds every value of the range of which it holds
abbrev pub HullsHold : Type 0
HullsHold =
    (range : Range) (op : Op) (v : ℤ) → OpForm op → is_within range v ≡ true → holds op v ≡ true → is_within (hull range op) v ≡ true

-- the span on the attribute is there, and holds at least one of the values that the event gives the attribute
pub record SpanHolds (s : Attributes) (e : Assignments) (a : AttrNo) (conj : List Pred) : Type 0 where
  pub range : Range
  pub span : span_in s a conj ≡ Some range
  pub values : List ℤ
  pub given : values_of e a ≡ Some values
  pub held : is_some_within range values ≡ true

-- on each attribute of a condition, the span holds a value of each event that satisfies the condition
abbrev pub SpansHold : Type 0
SpansHold =
    (s : Attributes) (e : Assignments) (a : AttrNo) (conj : List Pred) → IsConj conj → event_lies s e ≡ true → satisfies e conj ≡ true → list_any (is_on a) conj ≡ true → SpanHolds s e a conj

-- spans are parts of domains
abbrev pub SpansLie : Type 0
SpansLie =
    (s : Attributes) (a : AttrNo) (conj : List Pred) (domain : Range) → IsSchema s → IsConj conj → conj_lies s conj ≡ true → range_of s a ≡ Some domain → IfSome (span_in s a conj) (IsPart domain)

-- there is no span exactly where no predicate is on the attribute
abbrev pub SpansAre : Type 0
SpansAre =
    (s : Attributes) (a : AttrNo) (conj : List Pred) → conj_lies s conj ≡ true → (IsNone (span_in s a conj) ↔ (list_any (is_on a) conj ≡ false))

-- one value isn't halved; more values are halved, and then the greater half is
abbrev pub HalvingsCount : Type 0
HalvingsCount = (bits 1 ≡ 0) × ((n : ℕ) → 2 ≤ n → bits n ≡ 1 + bits ((n + 1) / 2))

-- the halves of a range of more than one value
pub record AreHalves (range low high : Range) : Type 0 where
  -- neither is empty
  pub low_some : low.0 ≤ℤ low.1
  pub high_some : high.0 ≤ℤ high.1
  -- each value of the range is in one of them, and no other value
  pub cover : (v : ℤ) → is_within range v ≡ (is_within low v || is_within high v)
  -- no value is in both
  pub apart : (v : ℤ) → (is_within low v && is_within high v) ≡ false
  -- the low half has one value more where they differ
  pub low_width : width low ≡ (width range + 1) / 2
  pub high_width : width high ≡ width range / 2

abbrev pub HalvesSplit : Type 0
HalvesSplit = (range : Range) → range.0 <ℤ range.1 → AreHalves range (low_half range) (high_half range)
