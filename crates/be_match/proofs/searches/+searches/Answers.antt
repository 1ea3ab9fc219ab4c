use Rattle.std.specs.Prelude.{nat_le}
use Rattle.std.proofs.Common.{Bool, rules, drop, length, ◌≡◌, ℕ, List, true, ◌∷◌, ◌++◌, [], ◌+◌, ◌*◌, ◌<◌, cond, sym, ap, ap₂, ◌∙◌, subst, arith, refl}
use Rattle.be_shape.specs.declared.nodes.Node.TheViews.{out-Node, out-Part, the_lemmas}
use Rattle.be_shape.specs.Plain.{plain, parts_as, half_as, part_as, parts_of, leaf_of}
use Rattle.be_shape.specs.Shape.{NodeRange, whole, lower, upper}
use Rattle.be_shape.specs.Ranges.{is_bounded, is_rising}
use Rattle.be_shape.specs.Search.{visited, visited_in_parts, visited_in_half, all_of, holds_value}
use Rattle.be_model.specs.declared.costs.Cost.{Cost}
use Rattle.be_model.specs.Matching.{is_assigned}
use Rattle.be_match.specs.Ahead.{AreOthersCountable, CountsOthers, ahead_in_parts, ahead_in_half}
use Rattle.be_match.specs.Leaves.{AreCountableWith, cost_with}
use Rattle.be_index.specs.Puts.{Adds, hits_of}
use Rattle.be_index.proofs.Adding.{on_refusal, grows_both, underway_refused}
use Rattle.be_match.proofs.Fronts.{hits_leaves, no_room_in_first, no_room_in_node}
use Rattle.be_match.proofs.Halves.{visited_in_halves, leaf_and_below, of_either, one_passes, same, in_chosen, in_neither}
use Rattle.be_match.proofs.Sizes.{visited_from}
use Rattle.be_match.proofs.Descents.{IsDescending, descent_begins, rest_countable, rest_put, rest_counted, rest_refused, first_done, first_countable, ahead_in_halves, halves_left, halves_front, high_left, where_both, where_none, neither_ahead, chosen_ahead, nothing_put, nothing_counted}
use Rattle.be_match.proofs.AheadSizes.{leaf_no_more, where_no_more, ahead_countable, ahead_from, half_no_more, parts_no_more}
use Rattle.be_match.proofs.Counted.{parts_others_countable, part_others_countable}
use Rattle.be_match.proofs.Entered.{entered_countable, entered_others, entered_descent}
use denote.Param.Weighed.{most}
use Rattle.be_shape.specs.declared.nodes.Part.{Part}
use Rattle.be_shape.proofs.nodes.Part.TheLaws.{the_size as part_size}
use Rattle.be_shape.proofs.nodes.Node.TheLaws.{the_size}
use Rattle.be_match.proofs.searches.+searches.Goals as goal

-- whether a search that has cost so much counts ahead
abbrev counts_ahead : Cost → Bool
counts_ahead c = nat_le 256 c.visits

-- the measure of the deepest of some parts
abbrev parts_size : List Part → ℕ
parts_size ps = most (λ p. part_size p) ps

pub search_node-loop-found-init : goal.search_node-loop-found-init
search_node-loop-found-init g t c =
    let s = c.args.s.now in
    let e = c.args.e.now in
    let all = visited s e c.args.range (plain c.args.n.now) in (
      omega arith,
      c.requires.bounded,
      c.requires.rising,
      descent_begins g.C.Hits.item_of e (g.C.Hits.held c.args.found.now) c.args.cost.now (leaf_of (plain c.args.n.now) ∷ []) all,
    )

pub search_node-count_ahead-requires : goal.search_node-count_ahead-requires
search_node-count_ahead-requires g t c =
    let s = c.args.s.now in
    let e = c.args.e.now in
    let k = rest_countable _ _ _ _ _ _ _ _ _ _ c.loop-found.invariant.3 c.requires.countable in
    let counted = ahead_countable s e c.loop-found.within c.lower_range-lower.result c.upper_range-upper.result (plain c.loop-found.here.now) c.loop-found.cost c.holds_value-in_low.result c.holds_value-in_high.result (counts_ahead c.loop-found.cost) c.lower_range-lower.ensures.range c.upper_range-upper.ensures.range
    c.holds_value-in_low.ensures.value c.holds_value-in_high.ensures.value k in
    record { countable = counted }

pub search_node-returns-in_err-search_leaf-clause-refused : goal.search_node-returns-in_err-search_leaf-clause-refused
search_node-returns-in_err-search_leaf-clause-refused g t c =
    let s = c.args.s.now in
    let e = c.args.e.now in
    let r = c.loop-found.within in
    let n = c.loop-found.here.now in
    let of = g.C.Hits.item_of in
    let r1 = g.C.Hits.held c.loop-found.found in
    let z = no_room_in_node of e r1 r1 (out-Node n).leaf (visited_in_parts s e (parts_as (out-Node n).parts.items)) (visited_in_halves s e r n) in
    on_refusal c.from_residual.result _
    (rest_refused _ _ _ _ _ _ _ _ _ _ c.loop-found.invariant.3 (subst (λ v. r1.sure < length (hits_of of e (all_of v))) (sym (leaf_and_below s e r n)) (z.here c.in_err-search_leaf.ensures.refused)))

pub search_node-returns-in_err-search_leaf-clause-grown : goal.search_node-returns-in_err-search_leaf-clause-grown
search_node-returns-in_err-search_leaf-clause-grown g t c = grows_both _ _ _ c.loop-found.invariant.3.put.grown c.search_leaf.ensures.grown

pub search_node-search_parts-requires : goal.search_node-search_parts-requires
search_node-search_parts-requires g t c =
    let s = c.args.s.now in
    let e = c.args.e.now in
    let r = c.loop-found.within in
    let n = c.loop-found.here.now in
    let now = c.loop-found.cost in
    let k = rest_countable _ _ _ _ _ _ _ _ _ _ c.loop-found.invariant.3 c.requires.countable in
    let w = counts_ahead now in
    let countable : AreOthersCountable c.count_ahead.new.cost (cond w (ahead_in_parts e (parts_as c.as_slice.result.now)) []) (visited_in_parts s e (parts_as c.as_slice.result.now)) =
    parts_others_countable s e r c.lower_range-lower.result c.upper_range-upper.result n now c.count_ahead.new.cost c.holds_value-in_low.result c.holds_value-in_high.result w c.as_slice.result.now c.lower_range-lower.ensures.range c.upper_range-upper.ensures.range
    c.holds_value-in_low.ensures.value c.holds_value-in_high.ensures.value k c.as_slice.ensures.value c.count_ahead.ensures in
    let below : parts_size c.as_slice.result.now < the_size n = search (rules, the_lemmas) in
    let falls : 2 * parts_size c.as_slice.result.now + 1 < t = omega (arith, below, c.loop-found.invariant.0, c.decreases) in
    search (rules, the_lemmas)

pub search_node-returns-in_err-search_parts-clause-refused : goal.search_node-returns-in_err-search_parts-clause-refused
search_node-returns-in_err-search_parts-clause-refused g t c =
    let s = c.args.s.now in
    let e = c.args.e.now in
    let r = c.loop-found.within in
    let n = c.loop-found.here.now in
    let of = g.C.Hits.item_of in
    let r1 = g.C.Hits.held c.loop-found.found in
    let r2 = g.C.Hits.held c.search_leaf.new.found in
    let z = no_room_in_node of e r1 r2 (out-Node n).leaf (visited_in_parts s e (parts_as (out-Node n).parts.items)) (visited_in_halves s e r n) in
    let at = subst (λ ps. r2.sure < length (hits_of of e (all_of (visited_in_parts s e (parts_as ps))))) c.as_slice.ensures.value c.in_err-search_parts.ensures.refused in
    on_refusal c.from_residual-in_err-search_parts.result _
    (rest_refused _ _ _ _ _ _ _ _ _ _ c.loop-found.invariant.3 (subst (λ v. r1.sure < length (hits_of of e (all_of v))) (sym (leaf_and_below s e r n)) (z.in_parts c.in_ok-search_leaf.ensures.put at)))

pub search_node-returns-in_err-search_parts-clause-grown : goal.search_node-returns-in_err-search_parts-clause-grown
search_node-returns-in_err-search_parts-clause-grown g t c = grows_both _ _ _ (grows_both _ _ _ c.loop-found.invariant.3.put.grown c.search_leaf.ensures.grown) c.search_parts.ensures.grown

pub search_node-search_half-requires : goal.search_node-search_half-requires
search_node-search_half-requires g t c =
    let s = c.args.s.now in
    let e = c.args.e.now in
    let r = c.loop-found.within in
    let n = c.loop-found.here.now in
    let now = c.loop-found.cost in
    let is = c.search_parts.new.cost in
    let below = halves_left _ _ _ _ _ _ _ _ _ _ _ _ _ _ _ _ _ _ _ c.loop-found.invariant.3 c.as_slice.ensures.value c.count_ahead.ensures c.in_ok-search_parts.ensures.cost c.in_ok-search_leaf.ensures.put c.in_ok-search_leaf.ensures.grown c.in_ok-search_parts.ensures.put c.in_ok-search_parts.ensures.grown in
    let lo = c.lower_range-lower in
    let b = c.holds_value-in_low in
    let l = visited_in_half s e (lower r) (half_as (out-Node n).low) in
    let h = visited_in_half s e (upper r) (half_as (out-Node n).high) in
    let held : holds_value e lo.result ≡ true = sym b.ensures.value ∙ c.if-in_low.true in
    let hi = c.upper_range-upper in
    let d = c.holds_value-in_high in
    let w = counts_ahead now in
    let fl = ahead_in_half true (half_as (out-Node n).low) in
    let fh = ahead_in_half true (half_as (out-Node n).high) in
    let front = halves_front n b.result d.result w c.if-in_low-in_high.true c.if-in_low.true in
    let few = where_no_more w fh h (half_no_more s e (upper r) (half_as (out-Node n).high) true (sym (same b.result d.result c.if-in_low-in_high.true ∙ c.if-in_low.true) ∙ d.ensures.value ∙ ap (holds_value e) hi.ensures.range)) in
    let counted : AreOthersCountable is (cond w fl []) (visited_in_half s e lo.result (half_as (out-Node n).low)) =
    subst (λ q. AreOthersCountable is (cond w fl []) (visited_in_half s e q (half_as (out-Node n).low))) (sym lo.ensures.range)
    (first_countable is (cond w (ahead_in_halves b.result d.result n) []) (l ++ h) (cond w fl []) (cond w fh []) l h (rest_countable _ _ _ _ _ _ _ _ _ _ below c.requires.countable) front refl few) in
    let deep = c.loop-found.invariant.0 in
    search (rules, the_lemmas)

pub search_node-returns-in_err-search_half-clause-refused : goal.search_node-returns-in_err-search_half-clause-refused
search_node-returns-in_err-search_half-clause-refused g t c =
    let s = c.args.s.now in
    let e = c.args.e.now in
    let r = c.loop-found.within in
    let n = c.loop-found.here.now in
    let of = g.C.Hits.item_of in
    let r3 = g.C.Hits.held c.search_parts.new.found in
    let below = halves_left _ _ _ _ _ _ _ _ _ _ _ _ _ _ _ _ _ _ _ c.loop-found.invariant.3 c.as_slice.ensures.value c.count_ahead.ensures c.in_ok-search_parts.ensures.cost c.in_ok-search_leaf.ensures.put c.in_ok-search_leaf.ensures.grown c.in_ok-search_parts.ensures.put c.in_ok-search_parts.ensures.grown in
    let lo = c.lower_range-lower in
    let l = visited_in_half s e (lower r) (half_as (out-Node n).low) in
    let h = visited_in_half s e (upper r) (half_as (out-Node n).high) in
    let at = subst (λ q. r3.sure < length (hits_of of e (all_of (visited_in_half s e q (half_as (out-Node n).low))))) lo.ensures.range c.in_err-search_half.ensures.refused in
    on_refusal c.from_residual-in_err-search_half.result _ (rest_refused _ _ _ _ _ _ _ _ _ _ below (no_room_in_first of e r3 l h at))

pub search_node-returns-in_err-search_half-clause-grown : goal.search_node-returns-in_err-search_half-clause-grown
search_node-returns-in_err-search_half-clause-grown g t c = grows_both _ _ _ (grows_both _ _ _ (grows_both _ _ _ c.loop-found.invariant.3.put.grown c.search_leaf.ensures.grown) c.search_parts.ensures.grown) c.search_half.ensures.grown

pub search_node-search_half-requires-then-in_low : goal.search_node-search_half-requires-then-in_low
search_node-search_half-requires-then-in_low g t c =
    let s = c.args.s.now in
    let e = c.args.e.now in
    let r = c.loop-found.within in
    let n = c.loop-found.here.now in
    let below = halves_left _ _ _ _ _ _ _ _ _ _ _ _ _ _ _ _ _ _ _ c.loop-found.invariant.3 c.as_slice.ensures.value c.count_ahead.ensures c.in_ok-search_parts.ensures.cost c.in_ok-search_leaf.ensures.put c.in_ok-search_leaf.ensures.grown c.in_ok-search_parts.ensures.put c.in_ok-search_parts.ensures.grown in
    let left = high_left g.C.Hits.item_of e s r c.lower_range-lower.result n _ _ (counts_ahead c.loop-found.cost) _ _ _ _ _ _ _ _ below c.if-in_low-in_high.true c.if-in_low.true c.lower_range-lower.ensures.range c.in_ok-search_half.ensures.cost c.in_ok-search_half.ensures.put c.in_ok-search_half.ensures.grown in
    let hi = c.upper_range-upper in
    let d = c.holds_value-in_high in
    let w = counts_ahead c.loop-found.cost in
    let fh = ahead_in_half true (half_as (out-Node n).high) in
    let low = c.search_half.new.cost in
    let holds : d.result ≡ true = same c.holds_value-in_low.result d.result c.if-in_low-in_high.true ∙ c.if-in_low.true in
    let rising : is_rising hi.result ≡ true = d.ensures.rising holds in
    let held : holds_value e hi.result ≡ true = sym d.ensures.value ∙ holds in
    let counted : AreOthersCountable low (cond w fh []) (visited_in_half s e hi.result (half_as (out-Node n).high)) =
    subst (λ q. AreOthersCountable low (cond w fh []) (visited_in_half s e q (half_as (out-Node n).high))) (sym hi.ensures.range) (rest_countable _ _ _ _ _ _ _ _ _ _ left c.requires.countable) in
    let deep = c.loop-found.invariant.0 in
    search (rules, the_lemmas)

pub search_node-returns-in_err-search_half-2-clause-refused : goal.search_node-returns-in_err-search_half-2-clause-refused
search_node-returns-in_err-search_half-2-clause-refused g t c =
    let s = c.args.s.now in
    let e = c.args.e.now in
    let r = c.loop-found.within in
    let n = c.loop-found.here.now in
    let below = halves_left _ _ _ _ _ _ _ _ _ _ _ _ _ _ _ _ _ _ _ c.loop-found.invariant.3 c.as_slice.ensures.value c.count_ahead.ensures c.in_ok-search_parts.ensures.cost c.in_ok-search_leaf.ensures.put c.in_ok-search_leaf.ensures.grown c.in_ok-search_parts.ensures.put c.in_ok-search_parts.ensures.grown in
    let left = high_left g.C.Hits.item_of e s r c.lower_range-lower.result n _ _ (counts_ahead c.loop-found.cost) _ _ _ _ _ _ _ _ below c.if-in_low-in_high.true c.if-in_low.true c.lower_range-lower.ensures.range c.in_ok-search_half.ensures.cost c.in_ok-search_half.ensures.put c.in_ok-search_half.ensures.grown in
    let r4 = g.C.Hits.held c.search_half.new.found in
    let at = subst (λ q. r4.sure < length (hits_of g.C.Hits.item_of e (all_of (visited_in_half s e q (half_as (out-Node n).high))))) c.upper_range-upper.ensures.range c.in_err-search_half-2.ensures.refused in
    on_refusal c.from_residual-in_err-search_half-2.result _ (rest_refused _ _ _ _ _ _ _ _ _ _ left at)

pub search_node-returns-in_err-search_half-2-clause-grown : goal.search_node-returns-in_err-search_half-2-clause-grown
search_node-returns-in_err-search_half-2-clause-grown g t c =
    grows_both _ _ _ (grows_both _ _ _ (grows_both _ _ _ (grows_both _ _ _ c.loop-found.invariant.3.put.grown c.search_leaf.ensures.grown) c.search_parts.ensures.grown) c.search_half.ensures.grown) c.search_half-then-in_low.ensures.grown

pub search_node-returns-in_ok-search_half-2-clause-put : goal.search_node-returns-in_ok-search_half-2-clause-put
search_node-returns-in_ok-search_half-2-clause-put g t c =
    let s = c.args.s.now in
    let e = c.args.e.now in
    let r = c.loop-found.within in
    let n = c.loop-found.here.now in
    let below = halves_left _ _ _ _ _ _ _ _ _ _ _ _ _ _ _ _ _ _ _ c.loop-found.invariant.3 c.as_slice.ensures.value c.count_ahead.ensures c.in_ok-search_parts.ensures.cost c.in_ok-search_leaf.ensures.put c.in_ok-search_leaf.ensures.grown c.in_ok-search_parts.ensures.put c.in_ok-search_parts.ensures.grown in
    let left = high_left g.C.Hits.item_of e s r c.lower_range-lower.result n _ _ (counts_ahead c.loop-found.cost) _ _ _ _ _ _ _ _ below c.if-in_low-in_high.true c.if-in_low.true c.lower_range-lower.ensures.range c.in_ok-search_half.ensures.cost c.in_ok-search_half.ensures.put c.in_ok-search_half.ensures.grown in
    let r4 = g.C.Hits.held c.search_half.new.found in
    let r5 = g.C.Hits.held c.search_half-then-in_low.new.found in
    let high = subst (λ q. Adds r4 r5 (hits_of g.C.Hits.item_of e (all_of (visited_in_half s e q (half_as (out-Node n).high))))) c.upper_range-upper.ensures.range c.in_ok-search_half-2.ensures.put in
    rest_put _ _ _ _ _ _ _ _ _ _ _ left high

pub search_node-returns-in_ok-search_half-2-clause-cost : goal.search_node-returns-in_ok-search_half-2-clause-cost
search_node-returns-in_ok-search_half-2-clause-cost g t c =
    let s = c.args.s.now in
    let e = c.args.e.now in
    let r = c.loop-found.within in
    let n = c.loop-found.here.now in
    let below = halves_left _ _ _ _ _ _ _ _ _ _ _ _ _ _ _ _ _ _ _ c.loop-found.invariant.3 c.as_slice.ensures.value c.count_ahead.ensures c.in_ok-search_parts.ensures.cost c.in_ok-search_leaf.ensures.put c.in_ok-search_leaf.ensures.grown c.in_ok-search_parts.ensures.put c.in_ok-search_parts.ensures.grown in
    let left = high_left g.C.Hits.item_of e s r c.lower_range-lower.result n _ _ (counts_ahead c.loop-found.cost) _ _ _ _ _ _ _ _ below c.if-in_low-in_high.true c.if-in_low.true c.lower_range-lower.ensures.range c.in_ok-search_half.ensures.cost c.in_ok-search_half.ensures.put c.in_ok-search_half.ensures.grown in
    let fh = cond (counts_ahead c.loop-found.cost) (ahead_in_half true (half_as (out-Node n).high)) [] in
    let high = subst (λ q. CountsOthers c.search_half.new.cost c.search_half-then-in_low.new.cost fh (visited_in_half s e q (half_as (out-Node n).high))) c.upper_range-upper.ensures.range c.in_ok-search_half-2.ensures.cost in
    rest_counted _ _ _ _ _ _ _ _ _ _ _ left high

pub search_node-returns-in_ok-search_half-2-clause-grown : goal.search_node-returns-in_ok-search_half-2-clause-grown
search_node-returns-in_ok-search_half-2-clause-grown g t c =
    grows_both _ _ _ (grows_both _ _ _ (grows_both _ _ _ (grows_both _ _ _ c.loop-found.invariant.3.put.grown c.search_leaf.ensures.grown) c.search_parts.ensures.grown) c.search_half.ensures.grown) c.search_half-then-in_low.ensures.grown

pub search_node-returns-else-in_low-clause-put : goal.search_node-returns-else-in_low-clause-put
search_node-returns-else-in_low-clause-put g t c =
    let below = halves_left _ _ _ _ _ _ _ _ _ _ _ _ _ _ _ _ _ _ _ c.loop-found.invariant.3 c.as_slice.ensures.value c.count_ahead.ensures c.in_ok-search_parts.ensures.cost c.in_ok-search_leaf.ensures.put c.in_ok-search_leaf.ensures.grown c.in_ok-search_parts.ensures.put c.in_ok-search_parts.ensures.grown in
    let none = in_neither _ _ _ _ _ _ _ _ c.lower_range-lower.ensures.range c.upper_range-upper.ensures.range c.holds_value-in_low.ensures.value c.holds_value-in_high.ensures.value c.if-in_low-in_high.true c.if-in_low.false in
    nothing_put _ _ _ _ _ _ _ _ _ _ below none

pub search_node-returns-else-in_low-clause-cost : goal.search_node-returns-else-in_low-clause-cost
search_node-returns-else-in_low-clause-cost g t c =
    let below = halves_left _ _ _ _ _ _ _ _ _ _ _ _ _ _ _ _ _ _ _ c.loop-found.invariant.3 c.as_slice.ensures.value c.count_ahead.ensures c.in_ok-search_parts.ensures.cost c.in_ok-search_leaf.ensures.put c.in_ok-search_leaf.ensures.grown c.in_ok-search_parts.ensures.put c.in_ok-search_parts.ensures.grown in
    let none = in_neither _ _ _ _ _ _ _ _ c.lower_range-lower.ensures.range c.upper_range-upper.ensures.range c.holds_value-in_low.ensures.value c.holds_value-in_high.ensures.value c.if-in_low-in_high.true c.if-in_low.false in
    let front = where_none (counts_ahead c.loop-found.cost) _ (neither_ahead c.loop-found.here.now c.holds_value-in_low.result c.holds_value-in_high.result c.if-in_low-in_high.true c.if-in_low.false) in
    nothing_counted _ _ _ _ _ _ _ _ _ _ below front none

pub search_node-returns-else-in_low-clause-grown : goal.search_node-returns-else-in_low-clause-grown
search_node-returns-else-in_low-clause-grown g t c = grows_both _ _ _ (grows_both _ _ _ c.loop-found.invariant.3.put.grown c.search_leaf.ensures.grown) c.search_parts.ensures.grown

pub search_node-returns-in-None-clause-put : goal.search_node-returns-in-None-clause-put
search_node-returns-in-None-clause-put g t c =
    let s = c.args.s.now in
    let e = c.args.e.now in
    let below = halves_left _ _ _ _ _ _ _ _ _ _ _ _ _ _ _ _ _ _ _ c.loop-found.invariant.3 c.as_slice.ensures.value c.count_ahead.ensures c.in_ok-search_parts.ensures.cost c.in_ok-search_leaf.ensures.put c.in_ok-search_leaf.ensures.grown c.in_ok-search_parts.ensures.put c.in_ok-search_parts.ensures.grown in
    let lo = c.lower_range-lower in
    let hi = c.upper_range-upper in
    let b = c.holds_value-in_low in
    let d = c.holds_value-in_high in
    let q = cond b.result lo.result hi.result in
    let in_half = in_chosen _ _ _ _ _ _ _ _ _ _ lo.ensures.range hi.ensures.range b.ensures.value d.ensures.value c.if-in_low-in_high.false refl c.chosen.ensures in
    let none = sym in_half ∙ ap (λ i. visited_in_half s e q (half_as i)) c.in-None.is in
    nothing_put _ _ _ _ _ _ _ _ _ _ below none

pub search_node-returns-in-None-clause-cost : goal.search_node-returns-in-None-clause-cost
search_node-returns-in-None-clause-cost g t c =
    let s = c.args.s.now in
    let e = c.args.e.now in
    let now = c.loop-found.cost in
    let below = halves_left _ _ _ _ _ _ _ _ _ _ _ _ _ _ _ _ _ _ _ c.loop-found.invariant.3 c.as_slice.ensures.value c.count_ahead.ensures c.in_ok-search_parts.ensures.cost c.in_ok-search_leaf.ensures.put c.in_ok-search_leaf.ensures.grown c.in_ok-search_parts.ensures.put c.in_ok-search_parts.ensures.grown in
    let lo = c.lower_range-lower in
    let hi = c.upper_range-upper in
    let b = c.holds_value-in_low in
    let d = c.holds_value-in_high in
    let q = cond b.result lo.result hi.result in
    let in_half = in_chosen _ _ _ _ _ _ _ _ _ _ lo.ensures.range hi.ensures.range b.ensures.value d.ensures.value c.if-in_low-in_high.false refl c.chosen.ensures in
    let none = sym in_half ∙ ap (λ i. visited_in_half s e q (half_as i)) c.in-None.is in
    let front = where_none (counts_ahead now) _ (chosen_ahead c.loop-found.here.now b.result d.result c.chosen.result.now c.if-in_low-in_high.false c.chosen.ensures ∙ ap (λ i. ahead_in_half true (half_as i)) c.in-None.is) in
    nothing_counted _ _ _ _ _ _ _ _ _ _ below front none

pub search_node-returns-in-None-clause-grown : goal.search_node-returns-in-None-clause-grown
search_node-returns-in-None-clause-grown g t c = grows_both _ _ _ (grows_both _ _ _ c.loop-found.invariant.3.put.grown c.search_leaf.ensures.grown) c.search_parts.ensures.grown

pub search_node-count_entered-requires : goal.search_node-count_entered-requires
search_node-count_entered-requires g t c =
    let s = c.args.s.now in
    let e = c.args.e.now in
    let r = c.loop-found.within in
    let n = c.loop-found.here.now in
    let w = counts_ahead c.loop-found.cost in
    let is = c.search_parts.new.cost in
    let below = halves_left _ _ _ _ _ _ _ _ _ _ _ _ _ _ _ _ _ _ _ c.loop-found.invariant.3 c.as_slice.ensures.value c.count_ahead.ensures c.in_ok-search_parts.ensures.cost c.in_ok-search_leaf.ensures.put c.in_ok-search_leaf.ensures.grown c.in_ok-search_parts.ensures.put c.in_ok-search_parts.ensures.grown in
    let lo = c.lower_range-lower in
    let hi = c.upper_range-upper in
    let b = c.holds_value-in_low in
    let d = c.holds_value-in_high in
    let q = cond b.result lo.result hi.result in
    let in_half = in_chosen s e r n b.result d.result lo.result hi.result q c.chosen.result.now lo.ensures.range hi.ensures.range b.ensures.value d.ensures.value c.if-in_low-in_high.false refl c.chosen.ensures in
    let holds : holds_value e q ≡ true = one_passes (λ i. holds_value e i ≡ true) b.result d.result lo.result hi.result c.if-in_low-in_high.false (λ k. sym b.ensures.value ∙ k) (λ k. sym d.ensures.value ∙ k) in
    let half = plain c.in-Some.half.value in
    let next : visited_in_halves s e r n ≡ visited s e q half = sym in_half ∙ ap (λ i. visited_in_half s e q (half_as i)) c.in-Some.is ∙ ap (λ b. cond b (visited s e q half) []) holds in
    let front : ahead_in_halves b.result d.result n ≡ leaf_of half ∷ [] = chosen_ahead n b.result d.result c.chosen.result.now c.if-in_low-in_high.false c.chosen.ensures ∙ ap (λ i. ahead_in_half true (half_as i)) c.in-Some.is in
    let others : AreOthersCountable is (cond w (leaf_of half ∷ []) []) (visited s e q half) =
    subst (AreOthersCountable is (cond w (leaf_of half ∷ []) [])) next (subst (λ f. AreOthersCountable is (cond w f []) (visited_in_halves s e r n)) front (rest_countable _ _ _ _ _ _ _ _ _ _ below c.requires.countable)) in
    record {
      countable = subst (λ i. AreCountableWith is (cond w [] (leaf_of (plain i) ∷ []))) (sym c.deref.ensures) (entered_countable w is (leaf_of half) (visited s e q half) (leaf_no_more s e q half) others);
    }

pub search_node-loop-found-preserved : goal.search_node-loop-found-preserved
search_node-loop-found-preserved g t c =
    let s = c.args.s.now in
    let e = c.args.e.now in
    let r = c.loop-found.within in
    let n = c.loop-found.here.now in
    let of = g.C.Hits.item_of in
    let r0 = g.C.Hits.held c.args.found.now in
    let all = visited s e c.args.range (plain c.args.n.now) in
    let now = c.loop-found.cost in
    let r3 = g.C.Hits.held c.search_parts.new.found in
    let was = c.args.cost.now in
    let is = c.search_parts.new.cost in
    let below = halves_left of e s r n _ _ _ _ _ _ _ _ _ _ _ _ _ _ c.loop-found.invariant.3 c.as_slice.ensures.value c.count_ahead.ensures c.in_ok-search_parts.ensures.cost c.in_ok-search_leaf.ensures.put c.in_ok-search_leaf.ensures.grown c.in_ok-search_parts.ensures.put c.in_ok-search_parts.ensures.grown in
    let lo = c.lower_range-lower in
    let hi = c.upper_range-upper in
    let b = c.holds_value-in_low in
    let d = c.holds_value-in_high in
    let q = c.chosen_range-within.result in
    let at : q ≡ cond b.result lo.result hi.result = c.chosen_range-within.ensures ∙ ap₂ (cond b.result) (sym lo.ensures.range) (sym hi.ensures.range) in
    let in_half = in_chosen s e r n b.result d.result lo.result hi.result q c.chosen.result.now lo.ensures.range hi.ensures.range b.ensures.value d.ensures.value c.if-in_low-in_high.false at c.chosen.ensures in
    let w = counts_ahead now in
    let P : NodeRange → Type 0 = λ q. (is_rising q ≡ true) × (holds_value e q ≡ true) in
    let holds = subst P (sym at) (one_passes P b.result d.result lo.result hi.result c.if-in_low-in_high.false (λ k. (b.ensures.rising k, sym b.ensures.value ∙ k)) (λ k. (d.ensures.rising k, sym d.ensures.value ∙ k))) in
    let bounded : is_bounded q ≡ true = subst (λ q. is_bounded q ≡ true) (sym at) (of_either (λ q. is_bounded q ≡ true) b.result lo.result hi.result lo.ensures.bounded hi.ensures.bounded) in
    let falls : the_size c.deref-here.result.now < the_size n = search (rules, the_lemmas) in
    let next : visited_in_halves s e r n ≡ visited s e q (plain c.deref-here.result.now) =
    sym in_half ∙ ap (λ i. visited_in_half s e q (half_as i)) c.in-Some.is ∙ ap (λ b. cond b (visited s e q (plain c.in-Some.half.value)) []) holds.1 ∙ ap (λ i. visited s e q (plain i)) (sym c.deref-here.ensures) in
    let front : ahead_in_halves b.result d.result n ≡ leaf_of (plain c.deref-here.result.now) ∷ [] =
    chosen_ahead n b.result d.result c.chosen.result.now c.if-in_low-in_high.false c.chosen.ensures ∙ ap (λ i. ahead_in_half true (half_as i)) c.in-Some.is ∙ ap (λ i. leaf_of (plain i) ∷ []) (sym c.deref-here.ensures) in (
      omega (arith, falls, c.loop-found.invariant.0),
      bounded,
      holds.0,
      entered_descent of e r0 r3 was is c.count_entered.new.cost (leaf_of (plain c.args.n.now) ∷ []) all w (leaf_of (plain c.deref-here.result.now)) _
          (subst (IsDescending of e r0 r3 was is (leaf_of (plain c.args.n.now) ∷ []) all (cond w (leaf_of (plain c.deref-here.result.now) ∷ []) [])) next
          (subst (λ f. IsDescending of e r0 r3 was is (leaf_of (plain c.args.n.now) ∷ []) all (cond w f []) (visited_in_halves s e r n)) front below))
          (subst (λ i. c.count_entered.new.cost ≡ cost_with is (cond w [] (leaf_of (plain i) ∷ []))) (c.deref.ensures ∙ sym c.deref-here.ensures) c.count_entered.ensures),
    )

pub search_part-count_entered-requires : goal.search_part-count_entered-requires
search_part-count_entered-requires g t c =
    let s = c.args.s.now in
    let e = c.args.e.now in
    let p = c.args.part.now in
    let h : is_assigned e (out-Part p).attr ≡ true = sym c.assigns.ensures ∙ c.if-assigns.true in
    let root = plain (out-Part p).root.value in
    let r = whole s (out-Part p).attr in
    let counted = entered_countable c.args.ahead c.args.cost.now (leaf_of root) (visited s e r root) (leaf_no_more s e r root) (part_others_countable s e p c.args.cost.now c.args.ahead h c.requires.countable) in
    record { countable = subst (λ i. AreCountableWith c.args.cost.now (cond c.args.ahead [] (leaf_of (plain i) ∷ []))) (sym c.deref.ensures) counted }

pub search_part-search_node-requires : goal.search_part-search_node-requires
search_part-search_node-requires g t c =
    let s = c.args.s.now in
    let e = c.args.e.now in
    let p = c.args.part.now in
    let h : is_assigned e (out-Part p).attr ≡ true = sym c.assigns.ensures ∙ c.if-assigns.true in
    let root = plain (out-Part p).root.value in
    let r = whole s (out-Part p).attr in
    let w = c.args.ahead in
    let was = c.args.cost.now in
    let is = c.count_entered.new.cost in
    let by : is ≡ cost_with was (cond w [] (leaf_of root ∷ [])) = subst (λ i. is ≡ cost_with was (cond w [] (leaf_of (plain i) ∷ []))) c.deref.ensures c.count_entered.ensures in
    let entered : AreOthersCountable is (leaf_of root ∷ []) (visited s e r root) = entered_others w was is (leaf_of root) (visited s e r root) (part_others_countable s e p was w h c.requires.countable) by in
    let counted : AreOthersCountable is (leaf_of (plain c.deref-then-assigns.result.now) ∷ []) (visited s e c.whole_range.result (plain c.deref-then-assigns.result.now)) =
    subst (λ r. AreOthersCountable is (leaf_of (plain c.deref-then-assigns.result.now) ∷ []) (visited s e r (plain c.deref-then-assigns.result.now))) (sym c.whole_range.ensures.range)
    (subst (λ n. AreOthersCountable is (leaf_of (plain n) ∷ []) (visited s e r (plain n))) (sym c.deref-then-assigns.ensures) entered) in
    search (rules, the_lemmas)

pub search_parts-search_part-requires : goal.search_parts-search_part-requires
search_parts-search_part-requires g t c =
    let s = c.args.s.now in
    let e = c.args.e.now in
    let ps = c.args.parts.now in
    let n = c.loop-part.part-index in
    let p = c.part-item.result in
    let within : n < length ps = omega (arith, c.loop-part-test.true) in
    let w = c.args.ahead in
    let front = ap (λ f. cond w f []) (ahead_from e ps n p within c.part-item.is) ∙ where_both w (ahead_in_parts e (parts_of (part_as p ∷ []))) (ahead_in_parts e (parts_as (drop (n + 1) ps))) in
    let counted : AreOthersCountable c.loop-part.cost (cond w (ahead_in_parts e (parts_of (part_as p ∷ []))) []) (visited_in_parts s e (parts_of (part_as p ∷ []))) =
    first_countable _ _ _ _ _ _ _ (rest_countable _ _ _ _ _ _ _ _ _ _ c.loop-part.invariant c.requires.countable) front (visited_from s e ps n p within c.part-item.is) (where_no_more w _ _ (parts_no_more s e (parts_as (drop (n + 1) ps)))) in
    search (rules, the_lemmas)

pub search_parts-loop-part-preserved : goal.search_parts-loop-part-preserved
search_parts-loop-part-preserved g t c =
    let s = c.args.s.now in
    let e = c.args.e.now in
    let ps = c.args.parts.now in
    let n = c.loop-part.part-index in
    let p = c.part-item.result in
    let within : n < length ps = omega (arith, c.loop-part-test.true) in
    let w = c.args.ahead in
    let front = ap (λ f. cond w f []) (ahead_from e ps n p within c.part-item.is) ∙ where_both w (ahead_in_parts e (parts_of (part_as p ∷ []))) (ahead_in_parts e (parts_as (drop (n + 1) ps))) in
    first_done _ _ _ _ _ _ _ _ _ _ _ _ _ _ _ _ c.loop-part.invariant front (visited_from s e ps n p within c.part-item.is) c.in_ok-search_part.ensures.cost c.in_ok-search_part.ensures.put c.in_ok-search_part.ensures.grown

pub search_parts-returns-in_err-search_part-clause-refused : goal.search_parts-returns-in_err-search_part-clause-refused
search_parts-returns-in_err-search_part-clause-refused g t c =
    let s = c.args.s.now in
    let e = c.args.e.now in
    let ps = c.args.parts.now in
    let n = c.loop-part.part-index in
    let p = c.part-item.result in
    let all = visited_in_parts s e (parts_as ps) in
    let first = visited_in_parts s e (parts_of (part_as p ∷ [])) in
    let rest = visited_in_parts s e (parts_as (drop (n + 1) ps)) in
    let of = g.C.Hits.item_of in
    let two = ap (λ v. hits_of of e (all_of v)) (visited_from s e ps n p (omega (arith, c.loop-part-test.true)) c.part-item.is) ∙ hits_leaves of e first rest in
    let i = c.loop-part.invariant in
    on_refusal c.from_residual.result ((g.C.Hits.held c.args.found.now).sure < length (hits_of of e (all_of all)))
    (underway_refused _ _ (hits_of of e (all_of (visited_in_parts s e (parts_as (drop n ps))))) (hits_of of e (all_of first)) (hits_of of e (all_of rest)) (hits_of of e (all_of all)) two i.put c.in_err-search_part.ensures.refused)
