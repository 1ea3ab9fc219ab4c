-- Wanted rows of a list that is gone through, and of a node.
use Rattle.std.proofs.Common.{◌≡◌, ℕ, ◌+◌, ◌<◌, List, [], ◌∷◌, ◌++◌, length, drop, get_or, slice_get, Option, Some, sym, ap, ◌∙◌, arith, length-append}
use Rattle.std.proofs.lemmas.List.{append_assoc, drop_more}
use Rattle.std.proofs.lemmas.List.Elements.{filter-append}
use Rattle.std.proofs.lemmas.Option.{slice_get_within, get_or_from_slice_get}
use Rattle.be_base.specs.declared.names.SessionNo.{SessionNo}
use Rattle.be_model.specs.declared.changes.Row.{Row}
use Rattle.be_shape.specs.declared.nodes.Part.{Part}
use Rattle.be_shape.specs.Plain.{part_as, parts_as, rows_below, rows_in_parts}
use Rattle.be_base.specs.Lists.{BeginsWith}
use Rattle.be_base.proofs.Beginnings.{BeginsWith-length}
use Rattle.be_tree.specs.Gathered.{is_wanted, wanted}

-- rows put one list after another are put together
put_on : (r0 r1 r2 a b : List Row) → r1 ≡ r0 ++ a → r2 ≡ r1 ++ b → r2 ≡ r0 ++ (a ++ b)
put_on r0 r1 r2 a b h k = k ∙ ap (λ r. r ++ b) h ∙ append_assoc r0 a b

pub some_first : (all first rest : List Row) → all ≡ first ++ rest → 0 < length first → 0 < length all
some_first all first rest h l = omega (arith, ap length h, length-append first rest)

-- where something is found from a place on, it is found in all
pub some_from : (was found all rest : List Row) → found ++ rest ≡ was ++ all → BeginsWith found was → 0 < length rest → 0 < length all
some_from was found all rest h front l =
    omega (arith, ap length h, length-append found rest, length-append was all, BeginsWith-length found was front)

-- what was put, and what is still to be put, one step on
pub put_step : (found put a b c all : List Row) → found ++ a ≡ all → a ≡ b ++ c → put ≡ found ++ b → put ++ c ≡ all
put_step found put a b c all h k l = ap (λ r. r ++ c) l ∙ append_assoc found b c ∙ ap (λ q. found ++ q) (sym k) ∙ h

pub wanted_both : (k : Option SessionNo) (xs ys : List Row) → wanted k (xs ++ ys) ≡ wanted k xs ++ wanted k ys
wanted_both k xs ys = filter-append (is_wanted k) xs ys

-- from the place of a row on
pub wanted_at : (k : Option SessionNo) (xs : List Row) (i : ℕ) (x : Row) → slice_get xs i ≡ Some x → wanted k (drop i xs) ≡ wanted k (x ∷ []) ++ wanted k (drop (i + 1) xs)
wanted_at k xs i x h =
    let is : x ≡ get_or xs i x = sym (get_or_from_slice_get xs i x x h) in
    ap (wanted k) (drop_more xs i x (slice_get_within xs i x h) ∙ ap (λ q. q ∷ drop (i + 1) xs) (sym is)) ∙ wanted_both k (x ∷ []) (drop (i + 1) xs)

-- the rows of a node are put level by level
pub put_levels : (k : Option SessionNo) (r0 r1 r2 r3 r4 leaf p l h : List Row) → r1 ≡ r0 ++ wanted k leaf → r2 ≡ r1 ++ wanted k p → r3 ≡ r2 ++ wanted k l → r4 ≡ r3 ++ wanted k h
    → r4 ≡ r0 ++ wanted k (leaf ++ p ++ l ++ h)
put_levels k r0 r1 r2 r3 r4 leaf p l h a b c d =
    put_on r0 r3 r4 (wanted k (leaf ++ p ++ l)) (wanted k h) (put_on r0 r2 r3 (wanted k (leaf ++ p)) (wanted k l) (put_on r0 r1 r2 (wanted k leaf) (wanted k p) a b ∙ ap (λ q. r0 ++ q) (sym (wanted_both k leaf p))) c ∙ ap (λ q. r0 ++ q) (sym (wanted_both k (leaf ++ p) l))) d
    ∙ ap (λ q. r0 ++ q) (sym (wanted_both k (leaf ++ p ++ l) h))

-- where something is wanted in a piece, it is in the node
pub record SomeInNode (k : Option SessionNo) (leaf p l h : List Row) : Type 0 where
  pub here : 0 < length (wanted k leaf) → 0 < length (wanted k (leaf ++ p ++ l ++ h))
  pub in_parts : 0 < length (wanted k p) → 0 < length (wanted k (leaf ++ p ++ l ++ h))
  pub in_low : 0 < length (wanted k l) → 0 < length (wanted k (leaf ++ p ++ l ++ h))
  pub in_high : 0 < length (wanted k h) → 0 < length (wanted k (leaf ++ p ++ l ++ h))

pub some_in_node : (k : Option SessionNo) (leaf p l h : List Row) → SomeInNode k leaf p l h
some_in_node k leaf p l h =
    let all : length (wanted k (leaf ++ p ++ l ++ h)) ≡ length (wanted k leaf) + length (wanted k p) + length (wanted k l) + length (wanted k h) =
    omega (
      arith,
      ap length (wanted_both k (leaf ++ p ++ l) h),
      length-append (wanted k (leaf ++ p ++ l)) (wanted k h),
      ap length (wanted_both k (leaf ++ p) l),
      length-append (wanted k (leaf ++ p)) (wanted k l),
      ap length (wanted_both k leaf p),
      length-append (wanted k leaf) (wanted k p),
    ) in
    record { here = λ t. omega arith; in_parts = λ t. omega arith; in_low = λ t. omega arith; in_high = λ t. omega arith }
