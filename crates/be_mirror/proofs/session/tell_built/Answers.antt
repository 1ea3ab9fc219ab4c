-- A read that was refused has a reply of one line.
use Rattle.std.proofs.Common.{None, Result, sym, subst}
use Rattle.std.specs.Prelude.{IfErr}
use Rattle.be_base.specs.declared.names.NoRead.{NoRead}
use Rattle.be_io.specs.Outside.{sink_state}
use Rattle.be_protocol.specs.Short.{plain_reply, short_of}
use Rattle.be_protocol.specs.declared.short.Short.{Short}
use Rattle.be_session.specs.Saying.{Says}
use Rattle.be_mirror.proofs.session.tell_built.Goals as goal

pub returns-in-Err-clause-refused : goal.returns-in-Err-clause-refused
returns-in-Err-clause-refused g c =
    subst (λ (b : Result (Unit {0}) NoRead). IfErr b (λ (why : NoRead). Says None (plain_reply (short_of why)) (sink_state g.K.Sink c.args.out.now) (sink_state g.K.Sink c.tell.new.out) c.tell.result)) (sym c.in-Err.is)
    (subst (λ (t : Short). Says None (plain_reply t) (sink_state g.K.Sink c.args.out.now) (sink_state g.K.Sink c.tell.new.out) c.tell.result) c.from.ensures c.tell.ensures.says)
