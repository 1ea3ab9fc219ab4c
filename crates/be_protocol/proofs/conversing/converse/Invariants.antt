-- The lines so far were answered. What is left to read falls with each line.
use Rattle.std.proofs.Common.{◌≡◌, ◌-◌, ◌+◌, ◌≤◌, length}
use Rattle.be_base.specs.declared.limits.TheConstants.{SOURCE_BYTES}
use Rattle.be_io.specs.Outside.{link_state}
use Rattle.be_protocol.specs.Conversation.{KeepsBeside}
use Rattle.be_protocol.proofs.Going.{IsAnswered}
use Rattle.be_protocol.proofs.conversing.converse.Given as goal

abbrev pub invariant-lines : goal.invariant-lines
invariant-lines g l = record {
  answered : IsAnswered (g.A.Replier.conduct (g.A.Replier.kept l.fn.replier).schema) (link_state g.L.Source g.L.Sink l.fn.link) (g.A.Replier.state l.fn.replier)
      (record { reader = l.reader; link = link_state g.L.Source g.L.Sink l.link; state = g.A.Replier.state l.replier }) l.lines;
  ready : g.A.Replier.IsReady l.replier;
  kept : g.A.Replier.kept l.replier ≡ g.A.Replier.kept l.fn.replier;
  bound : l.reader.taken ≤ SOURCE_BYTES;
  counted : l.lines + length l.reader.unread ≤ l.reader.taken;
  beside : KeepsBeside (g.L.Source.kept_by_read l.fn.link) (g.L.Source.kept_by_read l.link);
}

abbrev pub decreases-lines : goal.decreases-lines
decreases-lines g l = (SOURCE_BYTES - l.reader.taken) + length l.reader.unread
