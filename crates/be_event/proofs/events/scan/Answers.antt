use Rattle.be_event.proofs.Scans.{passed_none, passed_more}
use Rattle.be_event.proofs.events.scan.Goals as goal

pub items-init : goal.items-init
items-init c = passed_none c.args.schema.now c.args.text.now c.args.found.now c.requires

pub items-preserved : goal.items-preserved
items-preserved c =
    let s = c.args.schema.now in
    passed_more s c.args.text.now c.items.left.now c.in-Item.rest.now c.in-Some.after.now c.in-Item.name c.find-attr.result c.in-Some.given c.items.found c.note.new.self
    c.in-Item.ensures.1 c.in-Item.ensures.0 c.in-Some.ensures.given
    (λ items values g f. c.note.ensures s items values c.find-attr.ensures.exact g f) c.items.invariant
