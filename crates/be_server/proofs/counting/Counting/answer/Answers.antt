-- The cost is within its bound, and so are the sums.
use Rattle.std.proofs.Common.{ap, subst, ◌∙◌}
use Rattle.be_io.specs.Lines as line
use Rattle.be_model.specs.Bounds.{IsWithinBound}
use Rattle.be_model.specs.Schemas.{Attributes}
use Rattle.be_change.specs.Walk.{live_rows}
use Rattle.be_protocol.specs.Readings.{reading}
use Rattle.be_protocol.specs.Requests.{plain_request}
use Rattle.be_server.proofs.CountedReplies.{cost_fits}
use Rattle.be_server.proofs.counting.Counting.answer.Goals as goal

pub plus-self-requires : goal.plus-self-requires
plus-self-requires g c =
    let list = c.args.self.now.board.board.list in
    let event = c.in-Costing.event in
    let within = subst (λ (s : Attributes). IsWithinBound s event (live_rows list) c.cost.result) c.requires.schema c.cost.ensures.cost in
    let fits = cost_fits c.args.schema.now list c.args.self.now.sums (reading c.args.schema.now (line.text c.args.text.now)) event c.cost.result
    (c.in_ok-subscription.ensures.read ∙ ap plain_request c.in-Costing.is) c.requires.may within in
    record { visits = fits.0; tested = fits.1 }
