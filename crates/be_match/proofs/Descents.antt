-- A search that goes from node to node, or from part to part: what it put and counted so far, and what it is still to visit.
use Rattle.std.proofs.Common.{◌≡◌, ◌+◌, ◌<◌, Bool, true, false, cond, List, ◌∷◌, ◌++◌, [], Option, length, length-append, refl, sym, ap, ap₂, ◌∙◌, subst, arith}
use Rattle.std.specs.Bool.{beq}
use Rattle.std.proofs.lemmas.List.{append_assoc, append-nil}
use Rattle.std.specs.Global.{Box}
use Rattle.be_model.specs.declared.changes.Row.{Row}
use Rattle.be_model.specs.declared.costs.Cost.{Cost}
use Rattle.be_model.specs.Schemas.{Attributes}
use Rattle.be_model.specs.Matching.{Assignments}
use Rattle.be_shape.specs.declared.nodes.Node.{Node}
use Rattle.be_shape.specs.declared.nodes.Part.{Part}
use Rattle.be_shape.specs.declared.nodes.Node.TheViews.{out-Node}
use Rattle.be_shape.specs.Plain.{Half, no_half, half, leaf_of, plain, parts_as, half_as}
use Rattle.be_shape.specs.Shape.{NodeRange, lower, upper}
use Rattle.be_shape.specs.Search.{visited, visited_in_parts, visited_in_half, all_of}
use Rattle.be_index.specs.Puts.{Held, Adds, Grows, hits_of}
use Rattle.be_index.proofs.Adding.{IsUnderway, adds_none, underway_next}
use Rattle.be_match.specs.Ahead.{ahead_below, ahead_in_parts, ahead_in_half, CountsOthers, AreOthersCountable}
use Rattle.be_match.specs.Leaves.{cost_with}
use Rattle.be_match.proofs.Blocks.{underway}
use Rattle.be_match.proofs.Fronts.{hits_leaves, hits_levels}
use Rattle.be_match.proofs.AheadSizes.{AreNoMore, leaf_rows, ahead_of_node}
use Rattle.be_match.proofs.Halves.{visited_in_halves, leaf_and_below}
use Rattle.be_match.proofs.Sizes.{rows_append}

-- all these leaves are to be visited, and the rest still is. At the start `before` were counted ahead, now `ahead` are
pub record IsDescending {X : Type 0} (of : Row → X) (e : Assignments) (from now : Held X) (was is : Cost) (before all ahead rest : List (List Row)) : Type 0 where
  pub visits : is.visits + length rest + length before ≡ was.visits + length all + length ahead
  pub tested : is.tested + length (all_of rest) + length (all_of before) ≡ was.tested + length (all_of all) + length (all_of ahead)
  pub put : IsUnderway from now (hits_of of e (all_of rest)) (hits_of of e (all_of all))

-- nothing was visited yet
pub descent_begins : {X : Type 0} (of : Row → X) (e : Assignments) (a : Held X) (c : Cost) (before all : List (List Row)) → IsDescending of e a a c c before all before all
descent_begins of e a c before all = record { visits = refl; tested = refl; put = underway a (hits_of of e (all_of all)) }

-- 64 bits count the rest too
pub rest_countable : {X : Type 0} (of : Row → X) (e : Assignments) (a b : Held X) (c d : Cost) (before all ahead rest : List (List Row)) → IsDescending of e a b c d before all ahead rest → AreOthersCountable c before all
    → AreOthersCountable d ahead rest
rest_countable of e a b c d before all ahead rest h k = record { few = omega (arith, h.visits, k.few); few_rows = omega (arith, h.tested, k.few_rows) }

-- the rest was put and counted: all was
pub rest_put : {X : Type 0} (of : Row → X) (e : Assignments) (a b b1 : Held X) (c d : Cost) (before all ahead rest : List (List Row)) → IsDescending of e a b c d before all ahead rest → Adds b b1 (hits_of of e (all_of rest))
    → Adds a b1 (hits_of of e (all_of all))
rest_put of e a b b1 c d before all ahead rest h x = record { put = x.put ∙ h.put.put; kept = omega (arith, h.put.kept, x.kept) }

pub rest_counted : {X : Type 0} (of : Row → X) (e : Assignments) (a b : Held X) (c d d1 : Cost) (before all ahead rest : List (List Row)) → IsDescending of e a b c d before all ahead rest → CountsOthers d d1 ahead rest
    → CountsOthers c d1 before all
rest_counted of e a b c d d1 before all ahead rest h k = record { visits = omega (arith, h.visits, k.visits); tested = omega (arith, h.tested, k.tested) }

-- nothing is left to visit: all was put and counted
pub nothing_put : {X : Type 0} (of : Row → X) (e : Assignments) (a b : Held X) (c d : Cost) (before all ahead rest : List (List Row)) → IsDescending of e a b c d before all ahead rest → rest ≡ []
    → Adds a b (hits_of of e (all_of all))
nothing_put of e a b c d before all ahead rest h none = rest_put of e a b b c d before all ahead rest h (subst (λ v. Adds b b (hits_of of e (all_of v))) (sym none) (adds_none b))

pub nothing_counted : {X : Type 0} (of : Row → X) (e : Assignments) (a b : Held X) (c d : Cost) (before all ahead rest : List (List Row)) → IsDescending of e a b c d before all ahead rest → ahead ≡ [] → rest ≡ []
    → CountsOthers c d before all
nothing_counted of e a b c d before all ahead rest h none_ahead none =
    record {
      visits = omega (arith, h.visits, ap length none_ahead, ap length none);
      tested = omega (arith, h.tested, ap (λ v. length (all_of v)) none_ahead, ap (λ v. length (all_of v)) none);
    }

-- where there is surely no room for the rest, there was none for all
pub rest_refused : {X : Type 0} (of : Row → X) (e : Assignments) (a b : Held X) (c d : Cost) (before all ahead rest : List (List Row)) → IsDescending of e a b c d before all ahead rest
    → b.sure < length (hits_of of e (all_of rest)) → a.sure < length (hits_of of e (all_of all))
rest_refused of e a b c d before all ahead rest h l = omega (arith, h.put.kept, l)

-- the first of the rest were visited: the others are still to be visited
pub first_done : {X : Type 0} (of : Row → X) (e : Assignments) (a b b1 : Held X) (c d d1 : Cost) (before all ahead rest f g v w : List (List Row)) → IsDescending of e a b c d before all ahead rest
    → ahead ≡ f ++ g → rest ≡ v ++ w → CountsOthers d d1 f v → Adds b b1 (hits_of of e (all_of v)) → Grows b b1 → IsDescending of e a b1 c d1 before all g w
first_done of e a b b1 c d d1 before all ahead rest f g v w h front is k x grown =
    let two = ap (λ leaves. hits_of of e (all_of leaves)) is ∙ hits_leaves of e v w in
    record {
      visits = omega (arith, h.visits, k.visits, ap length front, ap length is, length-append f g, length-append v w);
      tested = omega (arith, h.tested, k.tested, ap (λ q. length (all_of q)) front, ap (λ q. length (all_of q)) is, rows_append f g, rows_append v w);
      put = underway_next a b b1 (hits_of of e (all_of rest)) (hits_of of e (all_of v)) (hits_of of e (all_of w)) (hits_of of e (all_of all)) two h.put x grown;
    }

-- 64 bits count the first of the rest
pub first_countable : (c : Cost) (ahead rest f g v w : List (List Row)) → AreOthersCountable c ahead rest → ahead ≡ f ++ g → rest ≡ v ++ w → AreNoMore g w → AreOthersCountable c f v
first_countable c ahead rest f g v w k front is few =
    record {
      few = omega (arith, k.few, few.few, ap length front, ap length is, length-append f g, length-append v w);
      few_rows = omega (arith, k.few_rows, few.few_rows, ap (λ q. length (all_of q)) front, ap (λ q. length (all_of q)) is, rows_append f g, rows_append v w);
    }

-- ahead in the halves of a node, where these are entered
abbrev pub ahead_in_halves : Bool → Bool → Node → List (List Row)
ahead_in_halves in_low in_high n = ahead_in_half in_low (half_as (out-Node n).low) ++ ahead_in_half in_high (half_as (out-Node n).high)

-- what a search of a node visits: its leaf, its parts and its halves
node_levels : (s : Attributes) (e : Assignments) (r : NodeRange) (n : Node) (ps : List Part) → ps ≡ (out-Node n).parts.items
    → visited s e r (plain n) ≡ (out-Node n).leaf ∷ visited_in_parts s e (parts_as ps) ++ visited_in_halves s e r n
node_levels s e r n ps are = leaf_and_below s e r n ∙ ap (λ i. (out-Node n).leaf ∷ visited_in_parts s e (parts_as i) ++ visited_in_halves s e r n) (sym are)

-- the leaf and the parts of a node were visited: its halves are still to be visited
halves_put : {X : Type 0} (of : Row → X) (e : Assignments) (s : Attributes) (r : NodeRange) (n : Node) (a b b1 b2 : Held X) (ps : List Part) (all : List (List Row))
    → IsUnderway a b (hits_of of e (all_of (visited s e r (plain n)))) (hits_of of e (all_of all)) → ps ≡ (out-Node n).parts.items → Adds b b1 (hits_of of e (out-Node n).leaf) → Grows b b1
    → Adds b1 b2 (hits_of of e (all_of (visited_in_parts s e (parts_as ps)))) → Grows b1 b2 → IsUnderway a b2 (hits_of of e (all_of (visited_in_halves s e r n))) (hits_of of e (all_of all))
halves_put of e s r n a b b1 b2 ps all h are x1 g1 x2 g2 =
    let p = visited_in_parts s e (parts_as ps) in
    let q = visited_in_halves s e r n in
    let y = hits_of of e (out-Node n).leaf in
    let z = hits_of of e (all_of p) in
    let w = hits_of of e (all_of q) in
    let levels = ap (λ v. hits_of of e (all_of v)) (node_levels s e r n ps are) ∙ hits_levels of e (out-Node n).leaf p q in
    underway_next a b1 b2 (z ++ w) z w (hits_of of e (all_of all)) refl (underway_next a b b1 (hits_of of e (all_of (visited s e r (plain n)))) y (z ++ w) (hits_of of e (all_of all)) levels h x1 g1) x2 g2

pub halves_left : {X : Type 0} (of : Row → X) (e : Assignments) (s : Attributes) (r : NodeRange) (n : Node) (in_low in_high w : Bool) (a b b1 b2 : Held X) (c d d1 d2 : Cost) (ps : List Part) (before all : List (List Row))
    → IsDescending of e a b c d before all (leaf_of (plain n) ∷ []) (visited s e r (plain n)) → ps ≡ (out-Node n).parts.items → d1 ≡ cost_with d (cond w (ahead_below e in_low in_high (plain n)) [])
    → CountsOthers d1 d2 (cond w (ahead_in_parts e (parts_as ps)) []) (visited_in_parts s e (parts_as ps)) → Adds b b1 (hits_of of e (out-Node n).leaf) → Grows b b1
    → Adds b1 b2 (hits_of of e (all_of (visited_in_parts s e (parts_as ps)))) → Grows b1 b2 → IsDescending of e a b2 c d2 before all (cond w (ahead_in_halves in_low in_high n) []) (visited_in_halves s e r n)
halves_left of e s r n in_low in_high true a b b1 b2 c d d1 d2 ps before all h are k1 k2 x1 g1 x2 g2 =
    let leaf = (out-Node n).leaf in
    let p = visited_in_parts s e (parts_as ps) in
    let q = visited_in_halves s e r n in
    let fp = ahead_in_parts e (parts_as ps) in
    let fq = ahead_in_halves in_low in_high n in
    let is = node_levels s e r n ps are in
    let fl = ahead_in_half in_low (half_as (out-Node n).low) in
    let fh = ahead_in_half in_high (half_as (out-Node n).high) in
    let front : ahead_below e in_low in_high (plain n) ≡ fp ++ fq = ahead_of_node e n in_low in_high ps are ∙ append_assoc fp fl fh in
    record {
      visits = omega (arith, h.visits, ap length is, length-append p q, ap length front, length-append fp fq, ap (λ i. i.visits) k1, k2.visits);
      tested = omega (arith, h.tested, leaf_rows n, ap (λ v. length (all_of v)) is, length-append leaf (all_of (p ++ q)), rows_append p q, ap (λ v. length (all_of v)) front, rows_append fp fq, ap (λ i. i.tested) k1, k2.tested);
      put = halves_put of e s r n a b b1 b2 ps all h.put are x1 g1 x2 g2;
    }
halves_left of e s r n in_low in_high false a b b1 b2 c d d1 d2 ps before all h are k1 k2 x1 g1 x2 g2 =
    let leaf = (out-Node n).leaf in
    let p = visited_in_parts s e (parts_as ps) in
    let q = visited_in_halves s e r n in
    let is = node_levels s e r n ps are in
    record {
      visits = omega (arith, h.visits, ap length is, length-append p q, ap (λ i. i.visits) k1, k2.visits);
      tested = omega (arith, h.tested, leaf_rows n, ap (λ v. length (all_of v)) is, length-append leaf (all_of (p ++ q)), rows_append p q, ap (λ i. i.tested) k1, k2.tested);
      put = halves_put of e s r n a b b1 b2 ps all h.put are x1 g1 x2 g2;
    }

-- nothing is ahead in a half that isn't entered
none_entered : (h : Half) → ahead_in_half false h ≡ []
none_entered no_half = refl
none_entered (half n) = refl

-- where both are entered
both_ahead : (n : Node) (x y : Bool) → beq x y ≡ true → x ≡ true → ahead_in_halves x y n ≡ ahead_in_halves true true n
both_ahead n true true alike entered = refl
both_ahead n true false alike entered = absurd (cc)
both_ahead n false y alike entered = absurd (cc)

-- those of two, where they are said to be counted ahead
pub where_both : (w : Bool) (f g : List (List Row)) → cond w (f ++ g) [] ≡ cond w f [] ++ cond w g []
where_both true f g = refl
where_both false f g = refl

-- those of the halves, where both are entered
pub halves_front : (n : Node) (x y w : Bool) → beq x y ≡ true → x ≡ true
    → cond w (ahead_in_halves x y n) [] ≡ cond w (ahead_in_half true (half_as (out-Node n).low)) [] ++ cond w (ahead_in_half true (half_as (out-Node n).high)) []
halves_front n x y w alike entered = ap (λ f. cond w f []) (both_ahead n x y alike entered) ∙ where_both w (ahead_in_half true (half_as (out-Node n).low)) (ahead_in_half true (half_as (out-Node n).high))

-- the low half was visited too: the high one is still to be visited
pub high_left : {X : Type 0} (of : Row → X) (e : Assignments) (s : Attributes) (r lo : NodeRange) (n : Node) (x y w : Bool) (a b b1 : Held X) (c d d1 : Cost) (before all : List (List Row))
    → IsDescending of e a b c d before all (cond w (ahead_in_halves x y n) []) (visited_in_halves s e r n) → beq x y ≡ true → x ≡ true → lo ≡ lower r
    → CountsOthers d d1 (cond w (ahead_in_half true (half_as (out-Node n).low)) []) (visited_in_half s e lo (half_as (out-Node n).low)) → Adds b b1 (hits_of of e (all_of (visited_in_half s e lo (half_as (out-Node n).low))))
    → Grows b b1 → IsDescending of e a b1 c d1 before all (cond w (ahead_in_half true (half_as (out-Node n).high)) []) (visited_in_half s e (upper r) (half_as (out-Node n).high))
high_left of e s r lo n x y w a b b1 c d d1 before all h alike entered is k put grown =
    let fl = cond w (ahead_in_half true (half_as (out-Node n).low)) [] in
    let fh = cond w (ahead_in_half true (half_as (out-Node n).high)) [] in
    let l = visited_in_half s e (lower r) (half_as (out-Node n).low) in
    let u = visited_in_half s e (upper r) (half_as (out-Node n).high) in
    let low_cost : CountsOthers d d1 fl l = subst (λ q. CountsOthers d d1 fl (visited_in_half s e q (half_as (out-Node n).low))) is k in
    let low_put : Adds b b1 (hits_of of e (all_of l)) = subst (λ q. Adds b b1 (hits_of of e (all_of (visited_in_half s e q (half_as (out-Node n).low))))) is put in
    first_done of e a b b1 c d d1 before all (cond w (ahead_in_halves x y n) []) (visited_in_halves s e r n) fl fh l u h (halves_front n x y w alike entered) refl low_cost low_put grown

-- where there are none, none is counted ahead
pub where_none : (w : Bool) (f : List (List Row)) → f ≡ [] → cond w f [] ≡ []
where_none true f is = is
where_none false f is = refl

-- where neither half is entered
pub neither_ahead : (n : Node) (b d : Bool) → beq b d ≡ true → b ≡ false → ahead_in_halves b d n ≡ []
neither_ahead n false false alike left = ap₂ (λ x y. x ++ y) (none_entered (half_as (out-Node n).low)) (none_entered (half_as (out-Node n).high))
neither_ahead n false true alike left = absurd (cc)
neither_ahead n true d alike left = absurd (cc)

-- where just one is
pub chosen_ahead : (n : Node) (b d : Bool) (h : Option (Box Node)) → beq b d ≡ false → h ≡ cond b (out-Node n).low (out-Node n).high → ahead_in_halves b d n ≡ ahead_in_half true (half_as h)
chosen_ahead n true true h differ is = absurd (cc)
chosen_ahead n false false h differ is = absurd (cc)
chosen_ahead n true false h differ is =
    let low = ahead_in_half true (half_as (out-Node n).low) in
    ap (λ q. low ++ q) (none_entered (half_as (out-Node n).high)) ∙ append-nil low ∙ ap (λ i. ahead_in_half true (half_as i)) (sym is)
chosen_ahead n false true h differ is =
    let high = ahead_in_half true (half_as (out-Node n).high) in
    ap (λ q. q ++ high) (none_entered (half_as (out-Node n).low)) ∙ ap (λ i. ahead_in_half true (half_as i)) (sym is)
