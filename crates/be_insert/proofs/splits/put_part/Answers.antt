use Rattle.std.proofs.Common.{◌≡◌, ap, ◌∙◌}
use Rattle.std.specs.List.{insert}
use Rattle.be_shape.specs.declared.nodes.Part.{Part, roll-Part}
use Rattle.be_base.specs.declared.names.AttrNo.{AttrNo}
use Rattle.be_shape.specs.declared.nodes.Node.TheFolds.{fold-roll-Part}
use Rattle.be_shape.specs.Plain.{Plain, plain, plain_node, plain_part, part_as, parts_as}
use Rattle.be_insert.specs.Rooms.{part_place}
use Rattle.be_insert.proofs.PartPlaces.{parts_put}
use Rattle.be_insert.proofs.splits.put_part.Goals as goal

pub returns : goal.returns
returns c =
    let items = c.args.parts.now.items in
    let a = c.args.attr in
    let p : Part = roll-Part (record { attr = a; root = c.args.root }) in
    let seen : part_as p ≡ (a, plain c.args.root.value) = fold-roll-Part Plain (AttrNo × Plain) plain_node plain_part (record { attr = a; root = c.args.root }) in
    let place : c.place_for-place.result ≡ part_place a (parts_as items) = c.place_for-place.ensures.place ∙ ap (λ l. part_place a (parts_as l)) c.as_slice.ensures.value in
    ap parts_as c.in-Ok.ensures.items ∙ ap (λ i. parts_as (insert items i p)) place ∙ parts_put items p a (plain c.args.root.value) seen
