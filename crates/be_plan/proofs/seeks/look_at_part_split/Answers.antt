use Rattle.std.proofs.Common.{◌||◌, leb, length, Some, option_map, sym, ap, ◌∙◌}
use Rattle.std.specs.List.{list_all}
use Rattle.std.specs.Arc.{arc_value}
use Rattle.be_base.specs.declared.names.AttrNo.{AttrNo}
use Rattle.be_base.specs.declared.limits.TheConstants.{LEAF_ROWS}
use Rattle.be_model.specs.declared.paths.Step.TheVariants.{SplitPart}
use Rattle.be_model.specs.Lies.{row_lies}
use Rattle.be_shape.specs.declared.nodes.Node.TheViews.{out-Node}
use Rattle.be_shape.specs.Plain.{plain, leaf_of}
use Rattle.be_shape.specs.Shape.{is_stuck}
use Rattle.be_shape.specs.Spots.{known_of}
use Rattle.be_shape.proofs.Plains.{plain_out}
use Rattle.be_plan.specs.Best.{better}
use Rattle.be_plan.specs.Splits.{early_part}
use Rattle.be_plan.proofs.Places.{leaf_lies, settles_here}
use Rattle.be_plan.proofs.Firsts.{first_part_split}
use Rattle.be_plan.proofs.Seeking.{closed}
use Rattle.be_plan.proofs.seeks.look_at_part_split.Goals as goal

pub returns-then-best-le-PART_SPLITS : goal.returns-then-best-le-PART_SPLITS
returns-then-best-le-PART_SPLITS c = closed 2 _ c.args.best.now c.if-best-le-PART_SPLITS.true

pub part_split_at-requires-clause-lie : goal.part_split_at-requires-clause-lie
part_split_at-requires-clause-lie c =
    let s = arc_value c.args.t.now.schema in
    let n = plain c.args.n.now in
    ap (λ q. list_all (row_lies q) (out-Node c.args.n.now).leaf) c.deref.ensures ∙ ap (λ m. list_all (row_lies s) (leaf_of m)) (sym (plain_out c.args.n.now)) ∙ leaf_lies s (known_of c.args.k.now) n c.requires.right

pub part_split_at-requires-clause-settled : goal.part_split_at-requires-clause-settled
part_split_at-requires-clause-settled c =
    let s = arc_value c.args.t.now.schema in
    let k = known_of c.args.k.now in
    let n = plain c.args.n.now in
    let leaf = (out-Node c.args.n.now).leaf in
    ap (λ q. leb (length leaf) LEAF_ROWS || list_all (is_stuck q k) leaf) c.deref.ensures ∙ ap (λ m. leb (length (leaf_of m)) LEAF_ROWS || list_all (is_stuck s k) (leaf_of m)) (sym (plain_out c.args.n.now)) ∙ settles_here s k n c.requires.right

pub returns-in_default : goal.returns-in_default
returns-in_default c =
    let s = arc_value c.args.t.now.schema in
    let k = known_of c.args.k.now in
    let n = plain c.args.n.now in
    let is_leaf = ap leaf_of (sym (plain_out c.args.n.now)) in
    let none = ap (λ q. early_part q c.args.t.now.alpha k (leaf_of n)) (sym c.deref.ensures) ∙ sym (c.part_split_at.ensures ∙ ap (λ rows. early_part c.deref.result.now c.args.t.now.alpha k rows) is_leaf) ∙ c.in_default.is in
    sym (ap (λ o. better 2 o c.args.best.now) (first_part_split s (plain c.args.t.now.root) c.args.path.now k n c.requires c.args.t.now.alpha ∙ ap (option_map (λ (x : AttrNo). SplitPart c.args.path.now x)) none))

pub returns : goal.returns
returns c =
    let s = arc_value c.args.t.now.schema in
    let k = known_of c.args.k.now in
    let n = plain c.args.n.now in
    let best = c.args.best.now in
    let is_leaf = ap leaf_of (sym (plain_out c.args.n.now)) in
    let some = ap (λ q. early_part q c.args.t.now.alpha k (leaf_of n)) (sym c.deref.ensures) ∙ sym (c.in-Some.ensures ∙ ap (λ rows. early_part c.deref.result.now c.args.t.now.alpha k rows) is_leaf) in
    c.put.ensures ∙ ap (λ p. better 2 (Some (SplitPart p c.in-Some.attr)) best) c.in_ok-path.ensures
    ∙ sym (ap (λ o. better 2 o best) (first_part_split s (plain c.args.t.now.root) c.args.path.now k n c.requires c.args.t.now.alpha ∙ ap (option_map (λ (x : AttrNo). SplitPart c.args.path.now x)) some))
