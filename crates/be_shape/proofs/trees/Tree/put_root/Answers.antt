use Rattle.std.proofs.Common.{ap, subst, ◌∙◌}
use Rattle.std.specs.Arc.{arc_value}
use Rattle.be_model.specs.Forms.{IsConj}
use Rattle.be_shape.specs.Plain.{plain, contents, parts_under, leaf_of}
use Rattle.be_shape.proofs.RootPut.{IsRoot, put_fits, put_contents, with_row_parts, with_row_leaf, may_stand_from, root_facts}
use Rattle.be_shape.proofs.trees.Tree.put_root.Goals as goal

pub invariant_of-self : goal.invariant_of-self
invariant_of-self c =
    let t = c.args.self.now in
    let s = arc_value t.schema in
    let x = arc_value c.args.row in
    let k : IsRoot s (plain c.put.new.self) =
    root_facts s (plain t.root) x (plain c.put.new.self) c.put.ensures (put_fits s (plain t.root) x t.lie t.placed c.requires.no_part c.requires.few c.requires.new (may_stand_from s x (subst (λ r. IsConj r.conj) c.deref.ensures c.preds.ensures.form) c.requires.lies c.requires.low)) in
    record { alpha_is_share = t.alpha_is_share; lie = k.lie; placed = k.placed; drawn = k.drawn; pruned = k.pruned; settled = k.settled }

pub returns-clause-contents : goal.returns-clause-contents
returns-clause-contents c =
    let t = c.args.self.now in
    ap contents c.put.ensures ∙ put_contents (arc_value t.schema) (plain t.root) (arc_value c.args.row) t.placed c.requires.no_part c.requires.new

pub returns-clause-no_part : goal.returns-clause-no_part
returns-clause-no_part c =
    ap parts_under c.put.ensures ∙ with_row_parts (plain c.args.self.now.root) (arc_value c.args.row) ∙ c.requires.no_part

pub returns-clause-leaf : goal.returns-clause-leaf
returns-clause-leaf c = ap leaf_of c.put.ensures ∙ with_row_leaf (plain c.args.self.now.root) (arc_value c.args.row)
