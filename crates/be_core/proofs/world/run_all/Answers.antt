use Rattle.std.proofs.Common.{arith}
use Rattle.be_core.specs.Memory.{state_of}
use Rattle.be_core.proofs.InMemory.{run_next}
use Rattle.be_core.proofs.world.run_all.Goals as goal

pub loop-act-preserved : goal.loop-act-preserved
loop-act-preserved c =
    run_next (state_of c.args.core.now) (state_of c.loop-act.core) (state_of c.step.new.self) c.loop-act.replies.items c.add_reply.new.replies.items c.in_ok-reply.reply c.args.acts.now
    c.loop-act.act-index c.act-item.result (omega arith) c.act-item.is c.loop-act.invariant c.in_ok-reply.ensures c.in_ok-add_reply.ensures
