use Rattle.std.proofs.Common.{◌++◌, ◌∷◌, [], cond, Some, None, sym, ap, ◌∙◌}
use Rattle.std.specs.List.{list_all}
use Rattle.std.specs.Arc.{arc_value}
use Rattle.be_model.specs.Lies.{row_lies}
use Rattle.be_model.specs.declared.paths.Step.TheVariants.{Merge}
use Rattle.be_shape.specs.Plain.{plain, rows_below}
use Rattle.be_shape.specs.Shape.{known}
use Rattle.be_shape.specs.Spots.{known_of}
use Rattle.be_shape.specs.Children.{known_below}
use Rattle.be_shape.specs.Steps.{can_merge}
use Rattle.be_plan.specs.Best.{better}
use Rattle.be_plan.proofs.FullNodes.{full_stays}
use Rattle.be_plan.proofs.Places.{rows_lie, at_below}
use Rattle.be_plan.proofs.Firsts.{first_merge}
use Rattle.be_plan.proofs.Seeking.{closed, merge_range}
use Rattle.be_plan.proofs.seeks.look_at_merge.Goals as goal

pub returns-then-best-le-MERGES : goal.returns-then-best-le-MERGES
returns-then-best-le-MERGES c = closed 0 _ c.args.best.now c.if-best-le-MERGES.true

pub returns-then-full : goal.returns-then-full
returns-then-full c =
    let s = arc_value c.args.t.now.schema in
    let k = known_of c.args.k.now in
    let n = plain c.args.n.now in
    let step = Merge (c.args.path.now ++ c.args.hop ∷ []) in
    let whole = first_merge s (plain c.args.t.now.root) c.args.path.now k n c.args.hop c.requires.at in
    let test = full_stays s c.args.hop k n (plain c.args.m.now) c.requires.there (sym c.requires.full ∙ c.if-full.true) in
    sym (ap (λ o. better 0 o c.args.best.now) (whole ∙ ap (λ b. cond b (Some step) None) test))

pub may_merge-requires-clause-lie : goal.may_merge-requires-clause-lie
may_merge-requires-clause-lie c =
    let s = arc_value c.args.t.now.schema in
    let k = known_of c.args.k.now in
    let m = plain c.args.m.now in
    ap (λ q. list_all (row_lies q) (rows_below m)) c.deref.ensures ∙ rows_lie s (known_below s c.args.hop k) m (at_below s (plain c.args.t.now.root) c.args.path.now k (plain c.args.n.now) m c.args.hop c.requires.at c.requires.there).right

pub returns-then-not-may_merge : goal.returns-then-not-may_merge
returns-then-not-may_merge c =
    let s = arc_value c.args.t.now.schema in
    let k = known_of c.args.k.now in
    let n = plain c.args.n.now in
    let step = Merge (c.args.path.now ++ c.args.hop ∷ []) in
    let whole = first_merge s (plain c.args.t.now.root) c.args.path.now k n c.args.hop c.requires.at in
    let test = sym (merge_range s c.args.hop k n (plain c.args.m.now) c.requires.there) ∙ ap (λ q. can_merge q c.args.hop (known k.range []) n) (sym c.deref.ensures) ∙ sym c.may_merge.ensures ∙ c.if-not-may_merge.true in
    sym (ap (λ o. better 0 o c.args.best.now) (whole ∙ ap (λ b. cond b (Some step) None) test))

pub returns : goal.returns
returns c =
    let s = arc_value c.args.t.now.schema in
    let k = known_of c.args.k.now in
    let n = plain c.args.n.now in
    let best = c.args.best.now in
    let step = Merge (c.args.path.now ++ c.args.hop ∷ []) in
    let whole = first_merge s (plain c.args.t.now.root) c.args.path.now k n c.args.hop c.requires.at in
    let test = sym (merge_range s c.args.hop k n (plain c.args.m.now) c.requires.there) ∙ ap (λ q. can_merge q c.args.hop (known k.range []) n) (sym c.deref.ensures) ∙ sym c.may_merge.ensures ∙ c.if-not-may_merge.false in
    let path = c.in_ok-push.ensures.put ∙ ap (λ p. p ++ c.args.hop ∷ []) c.in_ok-path.ensures in
    c.put.ensures ∙ ap (λ p. better 0 (Some (Merge p)) best) path ∙ sym (ap (λ o. better 0 o best) (whole ∙ ap (λ b. cond b (Some step) None) test))
