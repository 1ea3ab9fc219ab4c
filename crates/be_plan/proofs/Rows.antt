-- The rows below a node, one level at a time, and the rows of a list, one at a time.
use Rattle.std.proofs.Common.{◌≡◌, ℕ, zero, suc, ◌+◌, ◌<◌, Bool, true, List, [], ◌∷◌, ◌++◌, length, drop, get_or, slice_get, Some, sym, ap, ◌∙◌, arith}
use Rattle.std.specs.List.{list_all}
use Rattle.std.proofs.lemmas.List.{append-nil, drop_more}
use Rattle.std.proofs.lemmas.Option.{slice_get_within, get_or_from_slice_get}
use Rattle.be_model.specs.declared.changes.Row.{Row}
use Rattle.be_shape.specs.declared.nodes.Node.{Node}
use Rattle.be_shape.specs.declared.nodes.Part.{Part}
use Rattle.be_shape.specs.declared.nodes.Node.TheViews.{out-Node}
use Rattle.be_shape.specs.Plain.{plain, part, part_as, parts_of, parts_as, half_as, rows_below, rows_in_parts, rows_in_half}
use Rattle.be_shape.proofs.Plains.{plain_out}
use Rattle.be_shape.proofs.Lists.{all_front, all_back}

pub rows_out : (n : Node) → rows_below (plain n) ≡ (out-Node n).leaf ++ rows_in_parts (parts_as (out-Node n).parts.items) ++ rows_in_half (half_as (out-Node n).low) ++ rows_in_half (half_as (out-Node n).high)
rows_out n = ap rows_below (plain_out n)

pub parts_left : (ps : List Part) (i : ℕ) (p : Part) → i < length ps → p ≡ get_or ps i p → parts_as (drop i ps) ≡ part (part_as p).0 (part_as p).1 (parts_as (drop (i + 1) ps))
parts_left ps i p l is = ap parts_as (drop_more ps i p l ∙ ap (λ q. q ∷ drop (i + 1) ps) (sym is))

pub rows_left : (ps : List Part) (i : ℕ) (p : Part) → i < length ps → p ≡ get_or ps i p
    → rows_in_parts (parts_as (drop i ps)) ≡ rows_in_parts (parts_of (part_as p ∷ [])) ++ rows_in_parts (parts_as (drop (i + 1) ps))
rows_left ps i p l is =
    ap rows_in_parts (parts_left ps i p l is) ∙ ap (λ r. r ++ rows_in_parts (parts_as (drop (i + 1) ps))) (sym (append-nil (rows_below (part_as p).1)))

pub at_place : {X : Type 0} (xs : List X) (i : ℕ) (x : X) → slice_get xs i ≡ Some x → drop i xs ≡ x ∷ drop (i + 1) xs
at_place xs i x h =
    drop_more xs i x (slice_get_within xs i x h) ∙ ap (λ y. y ∷ drop (i + 1) xs) (get_or_from_slice_get xs i x x h)

pub all_four : {X : Type 0} (p : X → Bool) (a b c d : List X) → list_all p (a ++ b ++ c ++ d) ≡ true → (list_all p a ≡ true) × (list_all p b ≡ true) × (list_all p c ≡ true) × (list_all p d ≡ true)
all_four p a b c d h =
    let abc = all_front p (a ++ b ++ c) d h in
    let ab = all_front p (a ++ b) c abc in (all_front p a b ab, all_back p a b ab, all_back p (a ++ b) c abc, all_back p (a ++ b ++ c) d h)

pub all_in_part : (q : Row → Bool) (ps : List Part) (i : ℕ) (p : Part) → i < length ps → p ≡ get_or ps i p
    → list_all q (rows_in_parts (parts_as ps)) ≡ true → list_all q (rows_in_parts (parts_of (part_as p ∷ []))) ≡ true
all_in_part q [] i p l is h = absurd (omega arith)
all_in_part q (r ∷ ps) zero p l is h =
    let a = all_front q (rows_below (part_as r).1) (rows_in_parts (parts_as ps)) h in
    ap (λ (z : Part). list_all q (rows_in_parts (parts_of (part_as z ∷ [])))) is ∙ ap (list_all q) (append-nil (rows_below (part_as r).1)) ∙ a
all_in_part q (r ∷ ps) (suc i) p l is h =
    all_in_part q ps i p (omega arith) is (all_back q (rows_below (part_as r).1) (rows_in_parts (parts_as ps)) h)
