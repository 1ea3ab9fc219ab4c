use Rattle.be_event.proofs.SchemaForms.{put_next, next_may_be_put}
use Rattle.be_model.specs.Schemas.{attribute_of}
use Rattle.be_event.proofs.schema_texts.schema_with.Goals as goal

pub push-requires : goal.push-requires
push-requires c =
    next_may_be_put c.args.text.now c.loop-rest.rest.now c.first_line.result.0.now c.first_line.result.1.now c.loop-rest.schema c.requires.0 (attribute_of c.in-Some.attribute.0 c.in-Some.attribute.1)
    c.first_line.ensures.lines c.requires.1 (rw c.in-Some.is at c.in_ok-attribute.ensures) c.loop-rest.invariant

pub loop-rest-preserved-in_ok-push : goal.loop-rest-preserved-in_ok-push
loop-rest-preserved-in_ok-push c =
    put_next c.args.text.now c.loop-rest.rest.now c.first_line.result.0.now c.first_line.result.1.now c.loop-rest.schema c.requires.0 c.push.new.self (attribute_of c.in-Some.attribute.0 c.in-Some.attribute.1)
    c.first_line.ensures.lines c.requires.1 (rw c.in-Some.is at c.in_ok-attribute.ensures) c.in_ok-push.ensures.put c.loop-rest.invariant
