use Rattle.be_tree.proofs.Mapped.{is_map}
use Rattle.be_tree.proofs.tree.BeTreeIndex.len.Goals as goal

-- the length comes with what a map is
pub returns-clause-map : goal.returns-clause-map
returns-clause-map c = is_map c.args.self.now.tree
