use Rattle.std.proofs.Common.{◌≡◌, ◌∷◌, ◌++◌, [], true, refl, sym, ◌∙◌}
use Rattle.std.proofs.lemmas.Bool.{false≢true}
use Rattle.std.specs.Arc.{arc_value}
use Rattle.be_shape.specs.Plain.{plain}
use Rattle.be_shape.specs.Steps.{at_end, can_merge}
use Rattle.be_shape.proofs.Reshaping.{SameRows}
use Rattle.be_adjust.proofs.Merged.{stands_last, merged_last, may_merge_at, merge_rows}
use Rattle.be_adjust.proofs.merges.merge.Goals as goal
use Rattle.be_adjust.proofs.merges.merge.Goals.{In-Some, Else-not-can_merge_at, After-merge_at}

-- the path by its last step and those before it
path_is : (c : In-Some) → c.args.path.now ≡ c.in-Some.hops.now ++ c.in-Some.last.now ∷ []
path_is c = sym c.hops.ensures ∙ c.in-Some.ensures.cases.0

-- the merge stands there
stands : (c : Else-not-can_merge_at) → at_end (can_merge (arc_value c.args.t.now.schema) c.in-Some.last.now) (arc_value c.args.t.now.schema) c.in-Some.hops.now (plain c.args.t.now.root) ≡ true
stands c = sym c.can_merge_at.ensures ∙ c.if-not-can_merge_at.false

-- after it the tree is one with the same rows
merged : (c : After-merge_at) → at_end (can_merge (arc_value c.args.t.now.schema) c.in-Some.last.now) (arc_value c.args.t.now.schema) c.in-Some.hops.now (plain c.args.t.now.root) ≡ true
    → SameRows (arc_value c.args.t.now.schema) (plain c.args.t.now.root) (plain c.merge_at.new.root)
merged c h = merge_rows c.args.t.now c.in-Some.hops.now c.in-Some.last.now (plain c.merge_at.new.root) h (c.merge_at.ensures (arc_value c.args.t.now.schema))

pub merge_at-requires : goal.merge_at-requires
merge_at-requires c =
    let t = c.args.t.now in
    may_merge_at (arc_value t.schema) c.in-Some.hops.now c.in-Some.last.now (plain t.root) (stands (goal.at.merge_at-requires c).Else-not-can_merge_at)

pub returns-then-not-can_merge_at-clause-not_here : goal.returns-then-not-can_merge_at-clause-not_here
returns-then-not-can_merge_at-clause-not_here c =
    let t = c.args.t.now in
    let is = path_is (goal.at.returns-then-not-can_merge_at-clause-not_here c).In-Some in
    (λ _. stands_last (arc_value t.schema) c.args.path.now c.in-Some.hops.now c.in-Some.last.now (plain t.root) is ∙ sym c.can_merge_at.ensures ∙ c.if-not-can_merge_at.true, λ _. refl)

pub invariant_of-t : goal.invariant_of-t
invariant_of-t c =
    let at = goal.at.invariant_of-t c in
    let root = (merged at.After-merge_at (stands at.Else-not-can_merge_at)).root in
    record { alpha_is_share = c.args.t.now.alpha_is_share; lie = root.lie; placed = root.placed; drawn = root.drawn; pruned = root.pruned; settled = root.settled }

pub returns-clause-not_here : goal.returns-clause-not_here
returns-clause-not_here c =
    let at = goal.at.returns-clause-not_here c in
    let t = c.args.t.now in
    (λ e. absurd (cc), λ e. absurd (false≢true (sym e ∙ stands_last (arc_value t.schema) c.args.path.now c.in-Some.hops.now c.in-Some.last.now (plain t.root) (path_is at.In-Some) ∙ stands at.Else-not-can_merge_at)))

pub returns-clause-done : goal.returns-clause-done
returns-clause-done c =
    let s = arc_value c.args.t.now.schema in
    λ _. c.merge_at.ensures s ∙ sym (merged_last s c.args.path.now c.in-Some.hops.now c.in-Some.last.now (plain c.args.t.now.root) (path_is (goal.at.returns-clause-done c).In-Some))

pub returns-clause-contents : goal.returns-clause-contents
returns-clause-contents c =
    let at = goal.at.returns-clause-contents c in
    (merged at.After-merge_at (stands at.Else-not-can_merge_at)).contents
