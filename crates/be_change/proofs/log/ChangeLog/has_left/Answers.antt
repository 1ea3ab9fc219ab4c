use Rattle.std.proofs.Common.{ap, sym, ◌∙◌}
use Rattle.be_change.specs.History.{has_left}
use Rattle.be_change.specs.Entries.{Log, entries_in}
use Rattle.be_change.proofs.Places.{left_in}
use Rattle.be_change.proofs.log.ChangeLog.has_left.Goals as goal

pub returns : goal.returns
returns c =
    c.has_left_in.ensures ∙ (sym (left_in c.args.session.0 c.as_slice.result.now) ∙ (ap (λ xs. has_left c.args.session.0 (entries_in xs)) c.as_slice.ensures.value
    ∙ ap (λ (l : Log). has_left c.args.session.0 l.list) c.self.view_is))
