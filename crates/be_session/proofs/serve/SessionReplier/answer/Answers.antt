-- The session goes on unless the reply ended it.
use Rattle.be_io.specs.Lines as line
use Rattle.be_io.specs.Outside.{sink_state}
use Rattle.be_protocol.specs.Readings.{reading}
use Rattle.be_session.proofs.Said.{ready_then}
use Rattle.be_session.proofs.serve.SessionReplier.answer.Goals as goal

pub returns-clause-ready : goal.returns-clause-ready
returns-clause-ready g c = λ on.
    let s = c.args.self.now.schema.now in
    ready_then s (reading s (line.text c.args.text.now)) _ _ (sink_state g.K.Sink c.args.out.now) (sink_state g.K.Sink c.answer_text.new.out) c.answer_text.result.by c.answer_text.result.written c.answer_text.ensures.gives c.requires.ready.0 c.requires.ready.1 on
