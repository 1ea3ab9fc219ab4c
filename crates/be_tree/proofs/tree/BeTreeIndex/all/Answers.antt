use Rattle.std.proofs.Common.{ap, subst, ◌∙◌}
use Rattle.std.specs.Prelude.{length, ◌<◌, OnOk, OnErr}
use Rattle.std.proofs.lemmas.List.{length-map}
use Rattle.be_model.specs.ByIds.{PutsEach, rows_of}
use Rattle.std.specs.Prelude.{ℕ}
use Rattle.be_model.specs.declared.changes.Row.{Row}
use Rattle.be_shape.specs.Plain.{plain, contents}
use Rattle.be_tree.proofs.Mapped.{wanted_all}
use Rattle.be_tree.proofs.tree.BeTreeIndex.all.Goals as goal

pub returns-clause-found : goal.returns-clause-found
returns-clause-found c =
    subst (λ rows. OnOk c.gather.result (PutsEach rows c.args.found.now.rows c.gather.new.found.rows)) (wanted_all (rows_of (contents (plain c.args.self.now.tree.root)))) c.gather.ensures.found

pub returns-clause-some : goal.returns-clause-some
returns-clause-some c =
    let m = contents (plain c.args.self.now.tree.root) in
    subst (λ n. OnErr c.gather.result (0 < n)) (ap length (wanted_all (rows_of m)) ∙ length-map m (λ (r : ℕ × Row). r.1)) c.gather.ensures.some
