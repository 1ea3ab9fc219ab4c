use Rattle.std.proofs.Common.{◌+◌, drop, get_or, sym, ap, ◌∙◌}
use Rattle.std.proofs.lemmas.List.{drop_more}
use Rattle.std.proofs.lemmas.Bool.{and_parts}
use Rattle.be_model.specs.declared.paths.Hop.TheVariants.{Part}
use Rattle.be_model.specs.Schemas.{numbered}
use Rattle.be_shape.specs.Children.{is_open, known_below}
use Rattle.be_shape.specs.NodeList.{known_along, are_open}
use Rattle.be_shape.specs.Spots.{known_of}
use Rattle.be_shape.proofs.spots.Spot.along.Goals as goal

pub loop-hop-preserved : goal.loop-hop-preserved
loop-hop-preserved c =
    let s = c.args.s.now in
    let hops = c.args.hops.now in
    let i = c.loop-hop.hop-index in
    let d = Part (numbered 0) in
    let h = get_or hops i d in
    let rest = drop (i + 1) hops in
    let k = known_of c.loop-hop.spot in
    let is = drop_more hops i d c.loop-hop-test.true in
    let e = c.in_ok-enter.ensures.entered in
    let tests = and_parts (is_open h k) (are_open s rest (known_below s h k)) (sym (ap (λ hs. are_open s hs k) is) ∙ c.loop-hop.invariant.1) in
    (ap (known_along s rest) e ∙ sym (ap (λ hs. known_along s hs k) is) ∙ c.loop-hop.invariant.0, ap (are_open s rest) e ∙ tests.1)
