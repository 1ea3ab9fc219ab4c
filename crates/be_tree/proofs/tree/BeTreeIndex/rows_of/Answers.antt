use Rattle.std.proofs.Common.{subst}
use Rattle.std.specs.Prelude.{length, ◌<◌, OnOk, OnErr}
use Rattle.be_model.specs.ByIds.{PutsEach}
use Rattle.be_shape.specs.Plain.{plain, contents}
use Rattle.be_tree.proofs.Mapped.{wanted_of}
use Rattle.be_tree.proofs.tree.BeTreeIndex.rows_of.Goals as goal

pub returns-clause-found : goal.returns-clause-found
returns-clause-found c =
    subst (λ rows. OnOk c.gather.result (PutsEach rows c.args.found.now.rows c.gather.new.found.rows)) (wanted_of c.args.session (contents (plain c.args.self.now.tree.root))) c.gather.ensures.found

pub returns-clause-some : goal.returns-clause-some
returns-clause-some c =
    subst (λ rows. OnErr c.gather.result (0 < length rows)) (wanted_of c.args.session (contents (plain c.args.self.now.tree.root))) c.gather.ensures.some
