-- Items that are put level by level, and leaf by leaf.
use Rattle.std.proofs.Common.{◌≡◌, ◌+◌, ◌<◌, List, ◌∷◌, ◌++◌, length, sym, ap, ◌∙◌, subst, arith, length-append}
use Rattle.be_model.specs.declared.changes.Row.{Row}
use Rattle.be_model.specs.Matching.{Assignments}
use Rattle.be_shape.specs.Search.{all_of}
use Rattle.be_index.specs.Puts.{Held, Adds, hits_of}
use Rattle.be_index.proofs.Adding.{hits_append}
use Rattle.be_match.proofs.Sizes.{all_of_append}

-- what is put of two lists of leaves
pub hits_leaves : {X : Type 0} (of : Row → X) (e : Assignments) (xs ys : List (List Row)) → hits_of of e (all_of (xs ++ ys)) ≡ hits_of of e (all_of xs) ++ hits_of of e (all_of ys)
hits_leaves of e xs ys = ap (hits_of of e) (all_of_append xs ys) ∙ hits_append of e (all_of xs) (all_of ys)

-- of a leaf, of the parts and of the halves
pub hits_levels : {X : Type 0} (of : Row → X) (e : Assignments) (leaf : List Row) (p h : List (List Row)) → hits_of of e (all_of (leaf ∷ p ++ h)) ≡ hits_of of e leaf ++ (hits_of of e (all_of p) ++ hits_of of e (all_of h))
hits_levels of e leaf p h = hits_append of e leaf (all_of (p ++ h)) ∙ ap (λ q. hits_of of e leaf ++ q) (hits_leaves of e p h)

-- where there is surely no room for what is put of the first of two lists of leaves, there is none for both
pub no_room_in_first : {X : Type 0} (of : Row → X) (e : Assignments) (a : Held X) (xs ys : List (List Row)) → a.sure < length (hits_of of e (all_of xs)) → a.sure < length (hits_of of e (all_of (xs ++ ys)))
no_room_in_first of e a xs ys l = omega (arith, l, ap length (hits_leaves of e xs ys), length-append (hits_of of e (all_of xs)) (hits_of of e (all_of ys)))

-- where there is none for the leaf or for the parts, there is none for the node
pub record NoRoomInNode {X : Type 0} (of : Row → X) (e : Assignments) (a b : Held X) (leaf : List Row) (p h : List (List Row)) : Type 0 where
  pub here : a.sure < length (hits_of of e leaf) → a.sure < length (hits_of of e (all_of (leaf ∷ p ++ h)))
  pub in_parts : Adds a b (hits_of of e leaf) → b.sure < length (hits_of of e (all_of p)) → a.sure < length (hits_of of e (all_of (leaf ∷ p ++ h)))

pub no_room_in_node : {X : Type 0} (of : Row → X) (e : Assignments) (a b : Held X) (leaf : List Row) (p h : List (List Row)) → NoRoomInNode of e a b leaf p h
no_room_in_node of e a b leaf p h =
    let x = hits_of of e leaf in
    let y = hits_of of e (all_of p) in
    let z = hits_of of e (all_of h) in
    let all : length (hits_of of e (all_of (leaf ∷ p ++ h))) ≡ length x + (length y + length z) =
    omega (arith, ap length (hits_levels of e leaf p h), length-append x (y ++ z), length-append y z) in
    record { here = λ l. omega (arith, l, all); in_parts = λ k l. omega (arith, l, all, k.kept) }
