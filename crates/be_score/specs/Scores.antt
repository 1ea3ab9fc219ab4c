-- How well an attribute divides rows, and which attribute is chosen.
use Rattle.std.specs.Prelude.{◌≡◌, ℕ, ℤ, pos, ◌-◌, ◌*◌, ◌/◌, ◌-ℤ◌, ◌*ℤ◌, ◌≤◌, ◌≤ℤ◌, ◌==◌, Bool, true, false, not, List, length, filter, sum_by, Option, Some, None}
use Rattle.std.specs.List.{list_any}
use Rattle.be_base.specs.declared.names.AttrNo.{AttrNo}
use Rattle.be_model.specs.declared.changes.Row.{Row}
use Rattle.be_model.specs.Domains.{Range, width}
use Rattle.be_model.specs.Schemas.{Attributes, range_of}
use Rattle.be_model.specs.Hulls.{span_in}
use Rattle.be_model.specs.Rows.{has}
use Rattle.be_score.specs.declared.units.TheConstants.{FULL_WEIGHT, FULL_ALPHA}

-- the full weight, less the span's share of the domain. A span lies in its domain, so that the share is at most the full weight
abbrev pub weight_in : Option Range → Option Range → ℕ
weight_in None span = 0
weight_in (Some domain) None = 0
weight_in (Some domain) (Some span) = FULL_WEIGHT - FULL_WEIGHT * width span / width domain

-- how much a row is narrowed by its predicates on the attribute
abbrev pub weight : Attributes → AttrNo → Row → ℕ
weight s a row = weight_in (range_of s a) (span_in s a row.conj)

-- the rows with a predicate on the attribute
abbrev pub with_attr : AttrNo → List Row → List Row
with_attr a rows = filter (has a) rows

abbrev pub without_attr : AttrNo → List Row → List Row
without_attr a rows = filter (λ (row : Row). not (has a row)) rows

-- the weights of the rows that have it
abbrev pub gain : Attributes → List Row → AttrNo → ℕ
gain s rows a = sum_by (weight s a) (with_attr a rows)

-- the full weight for each row that has it not
abbrev pub loss : List Row → AttrNo → ℕ
loss rows a = FULL_WEIGHT * length (without_attr a rows)

abbrev pub score : Attributes → List Row → ℕ → AttrNo → ℤ
score s rows alpha a = (pos FULL_ALPHA -ℤ pos alpha) *ℤ pos (gain s rows a) -ℤ pos alpha *ℤ pos (loss rows a)

abbrev pub is_used : List AttrNo → AttrNo → Bool
is_used used a = list_any (λ (u : AttrNo). u.0 == a.0) used

-- some row has the attribute, and it isn't used
pub record IsCandidate (rows : List Row) (used : List AttrNo) (a : AttrNo) : Type 0 where
  pub some : list_any (has a) rows ≡ true
  pub unused : is_used used a ≡ false

-- the candidate of the highest score, the lower number on a tie
pub record IsPick (s : Attributes) (rows : List Row) (used : List AttrNo) (alpha : ℕ) (a : AttrNo) : Type 0 where
  pub candidate : IsCandidate rows used a
  pub highest : (b : AttrNo) → IsCandidate rows used b → score s rows alpha b ≤ℤ score s rows alpha a
  pub lowest : (b : AttrNo) → IsCandidate rows used b → score s rows alpha b ≡ score s rows alpha a → a.0 ≤ b.0
