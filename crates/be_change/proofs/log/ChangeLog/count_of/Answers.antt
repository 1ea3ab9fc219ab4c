use Rattle.std.proofs.Common.{length, ap, sym, ◌∙◌}
use Rattle.be_change.specs.History.{entries_of}
use Rattle.be_change.specs.Entries.{Log, entries_in}
use Rattle.be_change.proofs.Places.{count_in}
use Rattle.be_change.proofs.log.ChangeLog.count_of.Goals as goal

pub returns : goal.returns
returns c =
    c.count_in.ensures ∙ (sym (count_in c.args.session.0 c.as_slice.result.now) ∙ (ap (λ xs. length (entries_of c.args.session.0 (entries_in xs))) c.as_slice.ensures.value
    ∙ ap (λ (l : Log). length (entries_of c.args.session.0 l.list)) c.self.view_is))
