-- What a search visits in the halves of a node: both, one or neither.
use Rattle.std.proofs.Common.{◌≡◌, Bool, true, false, cond, List, [], ◌∷◌, ◌++◌, Option, refl, sym, ap, ap₂, ◌∙◌}
use Rattle.std.specs.Bool.{beq}
use Rattle.std.specs.Global.{Box}
use Rattle.std.proofs.lemmas.List.{append_assoc, append-nil}
use Rattle.be_model.specs.declared.changes.Row.{Row}
use Rattle.be_model.specs.Schemas.{Attributes}
use Rattle.be_model.specs.Matching.{Assignments}
use Rattle.be_shape.specs.declared.nodes.Node.{Node}
use Rattle.be_shape.specs.declared.nodes.Node.TheViews.{out-Node}
use Rattle.be_shape.specs.Plain.{Half, no_half, half, plain, parts_as, half_as}
use Rattle.be_shape.specs.Shape.{NodeRange, lower, upper}
use Rattle.be_shape.specs.Search.{visited, visited_in_parts, visited_in_half, holds_value}
use Rattle.be_match.proofs.Sizes.{node_visited}

-- what a search of a node visits in its halves
abbrev pub visited_in_halves : Attributes → Assignments → NodeRange → Node → List (List Row)
visited_in_halves s e r n = visited_in_half s e (lower r) (half_as (out-Node n).low) ++ visited_in_half s e (upper r) (half_as (out-Node n).high)

-- what it visits: the leaf, in the parts and in the halves
pub leaf_and_below : (s : Attributes) (e : Assignments) (r : NodeRange) (n : Node)
    → visited s e r (plain n) ≡ (out-Node n).leaf ∷ visited_in_parts s e (parts_as (out-Node n).parts.items) ++ visited_in_halves s e r n
leaf_and_below s e r n =
    node_visited s e r n ∙ ap (λ q. (out-Node n).leaf ∷ q) (append_assoc (visited_in_parts s e (parts_as (out-Node n).parts.items)) (visited_in_half s e (lower r) (half_as (out-Node n).low)) (visited_in_half s e (upper r) (half_as (out-Node n).high)))

-- a half without a value of the event isn't visited
not_visited : (s : Attributes) (e : Assignments) (r : NodeRange) (h : Half) → holds_value e r ≡ false → visited_in_half s e r h ≡ []
not_visited s e r no_half k = refl
not_visited s e r (half n) k = ap (λ b. cond b (visited s e r n) []) k

-- what holds of the first and of the second holds of the chosen one
pub of_either : {A : Type 0} (P : A → Type 0) (b : Bool) (x y : A) → P x → P y → P (cond b x y)
of_either P true x y h k = h
of_either P false x y h k = k

-- of two that differ in a test, the one that passes is chosen
pub one_passes : {A : Type 0} (P : A → Type 0) (b c : Bool) (x y : A) → beq b c ≡ false → (b ≡ true → P x) → (c ≡ true → P y) → P (cond b x y)
one_passes P true c x y d h k = h refl
one_passes P false true x y d h k = k refl
one_passes P false false x y d h k = absurd (cc)

-- two that don't differ
pub same : (b c : Bool) → beq b c ≡ true → c ≡ b
same true true d = refl
same false false d = refl
same true false d = absurd (cc)
same false true d = absurd (cc)

-- where just one half holds a value
one_half : (s : Attributes) (e : Assignments) (r : NodeRange) (n : Node) (b c : Bool) → b ≡ holds_value e (lower r) → c ≡ holds_value e (upper r) → beq b c ≡ false
    → visited_in_halves s e r n ≡ visited_in_half s e (cond b (lower r) (upper r)) (half_as (cond b (out-Node n).low (out-Node n).high))
one_half s e r n true true bl ch d = absurd (cc)
one_half s e r n false false bl ch d = absurd (cc)
one_half s e r n true false bl ch d =
    let low = visited_in_half s e (lower r) (half_as (out-Node n).low) in
    ap (λ q. low ++ q) (not_visited s e (upper r) (half_as (out-Node n).high) (sym ch)) ∙ append-nil low
one_half s e r n false true bl ch d =
    let high = visited_in_half s e (upper r) (half_as (out-Node n).high) in
    ap (λ q. q ++ high) (not_visited s e (lower r) (half_as (out-Node n).low) (sym bl))

-- where neither does
neither : (s : Attributes) (e : Assignments) (r : NodeRange) (n : Node) → holds_value e (lower r) ≡ false → holds_value e (upper r) ≡ false → visited_in_halves s e r n ≡ []
neither s e r n l h =
    ap (λ q. q ++ visited_in_half s e (upper r) (half_as (out-Node n).high)) (not_visited s e (lower r) (half_as (out-Node n).low) l) ∙ not_visited s e (upper r) (half_as (out-Node n).high) h

-- a search of the chosen half is one of the halves
pub in_chosen : (s : Attributes) (e : Assignments) (r : NodeRange) (n : Node) (b c : Bool) (lo hi q : NodeRange) (h : Option (Box Node)) → lo ≡ lower r → hi ≡ upper r → b ≡ holds_value e lo → c ≡ holds_value e hi
    → beq b c ≡ false → q ≡ cond b lo hi → h ≡ cond b (out-Node n).low (out-Node n).high → visited_in_half s e q (half_as h) ≡ visited_in_halves s e r n
in_chosen s e r n b c lo hi q h el eh bl ch d eq er =
    ap₂ (λ x y. visited_in_half s e x (half_as y)) (eq ∙ ap₂ (cond b) el eh) er ∙ sym (one_half s e r n b c (bl ∙ ap (holds_value e) el) (ch ∙ ap (holds_value e) eh) d)

-- where neither half of these ranges holds a value
pub in_neither : (s : Attributes) (e : Assignments) (r : NodeRange) (n : Node) (b c : Bool) (lo hi : NodeRange) → lo ≡ lower r → hi ≡ upper r → b ≡ holds_value e lo → c ≡ holds_value e hi
    → beq b c ≡ true → b ≡ false → visited_in_halves s e r n ≡ []
in_neither s e r n b c lo hi el eh bl ch d f =
    neither s e r n (sym (bl ∙ ap (holds_value e) el) ∙ f) (sym (ch ∙ ap (holds_value e) eh) ∙ same b c d ∙ f)
