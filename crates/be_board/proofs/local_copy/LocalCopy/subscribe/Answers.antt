use Rattle.std.proofs.Common.{rules, ◌+◌, ℕ, refl, ap}
use Rattle.be_board.proofs.LocalWords.{answered_sub, answered_dup}
use Rattle.be_board.proofs.local_copy.LocalCopy.subscribe.Goals as goal

pub returns-in-Some-clause-answered : goal.returns-in-Some-clause-answered
returns-in-Some-clause-answered g c =
    answered_dup c.args.self.now.list c.args.self.now.list c.args.name c.args.conj c.len-m.result c.deref.result.now.id.0 c.len-m.ensures.len refl (search rules)

pub returns-in-Ok-clause-answered : goal.returns-in-Ok-clause-answered
returns-in-Ok-clause-answered g c =
    answered_sub c.args.self.now.list c.add.new.self.list c.args.name c.args.conj (c.len-m.result + 1) (ap (λ (n : ℕ). n + 1) c.len-m.ensures.len) c.in-Ok.ensures.added
