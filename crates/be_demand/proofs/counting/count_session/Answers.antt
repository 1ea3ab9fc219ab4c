use Rattle.std.proofs.Common.{rules}
use Rattle.be_protocol.specs.Requests.{plain_request}
use Rattle.be_demand.proofs.GoingOn.{counting_on, counting_done, counting_answered, Went, went_hit, went_none, some_left}
use Rattle.be_demand.proofs.counting.count_session.Goals as goal
use Rattle.be_demand.proofs.counting.count_session.Goals.{then-told, else-told}

pub loop-lines-preserved : goal.loop-lines-preserved
loop-lines-preserved c =
    let heat = c.args.heat.now in
    let was = c.loop-lines.invariant in
    let told = c.tell_reply-told in
    let cut = c.cut_line-cut in
    let request = c.in_ok-request.request in
    let went : Went heat.of heat.words (plain_request request) told.result.is_hit c.loop-lines.seat c.if-told.seat = elim c.if-told.branch [
      | then-told w ↦ went_hit heat.of heat.words (plain_request request) told.result.is_hit c.loop-lines.seat c.if-told.seat w.add_hit.new.seat w.if-told.true w.seat-is w.add_hit.ensures.of w.add_hit.ensures.long w.add_hit.ensures.added
      | else-told w ↦ went_none heat.of heat.words (plain_request request) told.result.is_hit c.loop-lines.seat c.if-told.seat w.if-told.false w.seat-is was.of was.counting.long
    ] in
    record {
      of = went.belongs;
      counting =
          counting_on c.args.schema.now heat.words c.args.file.now c.args.transcript.now c.loop-lines.lines.now cut.result.rest.now cut.result.line.now c.loop-lines.replies.now told.result.rest.now c.loop-lines.seat.own c.if-told.seat.own
          cut.result.ended told.result.is_hit (plain_request request) was.counting cut.ensures.line cut.ensures.shorter c.in_ok-request.ensures.read c.in_ok-request.ensures.named (some_left _ _ c.is_empty-in-loop-lines.ensures (search (rules, c.if-not-is_empty.true))) told.ensures.told went.long went.raised;
    }

pub returns-else-not-is_empty-clause-counted : goal.returns-else-not-is_empty-clause-counted
returns-else-not-is_empty-clause-counted c = λ ps over.
    counting_answered c.args.schema.now c.args.heat.now.words c.args.file.now c.args.transcript.now c.loop-lines.lines.now c.loop-lines.replies.now c.loop-lines.seat.own c.loop-lines.invariant.counting (search rules) ps over

pub returns-after-loop-lines-clause-counted : goal.returns-after-loop-lines-clause-counted
returns-after-loop-lines-clause-counted c = λ ps over.
    counting_done c.args.schema.now c.args.heat.now.words c.args.file.now c.args.transcript.now c.loop-lines.lines.now c.loop-lines.replies.now c.loop-lines.seat.own c.loop-lines.invariant.counting (search rules) ps over
