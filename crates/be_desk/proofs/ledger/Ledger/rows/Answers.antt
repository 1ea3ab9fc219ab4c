use Rattle.std.proofs.Common.{List, length, ap, ◌∙◌}
use Rattle.be_change.specs.History.{Entry, live}
use Rattle.be_desk.proofs.ledger.Ledger.rows.Goals as goal

pub returns : goal.returns
returns c = c.len.ensures (live c.self.inside.list.list) c.self.invariant.names ∙ ap (λ (l : List Entry). length (live l)) c.self.view_is
