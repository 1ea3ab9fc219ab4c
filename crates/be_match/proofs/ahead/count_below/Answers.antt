use Rattle.std.proofs.Common.{◌≡◌, ◌+◌, length, ap, ap₂, ◌∙◌, arith}
use Rattle.be_model.specs.Costs.{cost}
use Rattle.be_shape.specs.declared.nodes.Node.TheViews.{out-Node}
use Rattle.be_shape.specs.Plain.{plain, half_as}
use Rattle.be_shape.specs.Search.{all_of}
use Rattle.be_match.specs.Ahead.{ahead_below, ahead_in_half}
use Rattle.be_match.proofs.AheadSizes.{sizes_of_node}
use Rattle.be_match.proofs.ahead.count_below.Goals as goal

pub count_parts-requires : goal.count_parts-requires
count_parts-requires c =
    let k = c.requires.countable in
    let is = sizes_of_node c.args.e.now c.args.n.now c.args.in_low c.args.in_high c.as_slice.result.now c.as_slice.ensures.value in
    record { countable = record { few = omega (arith, k.few, is.many); few_rows = omega (arith, k.few_rows, is.rows) } }

pub count_half-requires : goal.count_half-requires
count_half-requires c =
    let k = c.requires.countable in
    let is = sizes_of_node c.args.e.now c.args.n.now c.args.in_low c.args.in_high c.as_slice.result.now c.as_slice.ensures.value in
    record { countable = record { few = omega (arith, k.few, is.many, ap (λ q. q.visits) c.count_parts.ensures); few_rows = omega (arith, k.few_rows, is.rows, ap (λ q. q.tested) c.count_parts.ensures) } }

pub count_half-requires-2 : goal.count_half-requires-2
count_half-requires-2 c =
    let k = c.requires.countable in
    let is = sizes_of_node c.args.e.now c.args.n.now c.args.in_low c.args.in_high c.as_slice.result.now c.as_slice.ensures.value in
    record {
      countable = record {
        few = omega (arith, k.few, is.many, ap (λ q. q.visits) c.count_parts.ensures, ap (λ q. q.visits) c.count_half.ensures);
        few_rows = omega (arith, k.few_rows, is.rows, ap (λ q. q.tested) c.count_parts.ensures, ap (λ q. q.tested) c.count_half.ensures);
      };
    }

pub returns : goal.returns
returns c =
    let is = sizes_of_node c.args.e.now c.args.n.now c.args.in_low c.args.in_high c.as_slice.result.now c.as_slice.ensures.value in
    let z = ahead_in_half c.args.in_high (half_as (out-Node c.args.n.now).high) in
    let all = ahead_below c.args.e.now c.args.in_low c.args.in_high (plain c.args.n.now) in
    let visits : c.count_half.new.cost.visits + length z ≡ c.args.cost.now.visits + length all = omega (arith, is.many, ap (λ q. q.visits) c.count_parts.ensures, ap (λ q. q.visits) c.count_half.ensures) in
    let tested : c.count_half.new.cost.tested + length (all_of z) ≡ c.args.cost.now.tested + length (all_of all) = omega (arith, is.rows, ap (λ q. q.tested) c.count_parts.ensures, ap (λ q. q.tested) c.count_half.ensures) in
    c.count_half-2.ensures ∙ ap₂ cost visits tested
