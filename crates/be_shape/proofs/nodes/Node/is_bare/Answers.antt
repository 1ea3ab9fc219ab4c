use Rattle.std.proofs.Common.{◌≡◌, eqb, [], length, List, ◌∷◌, None, Some, Option, refl, sym, ap, ◌∙◌, arith}
use Rattle.std.specs.Global.{Box}
use Rattle.std.proofs.lemmas.Bool.{ne_eqb}
use Rattle.be_model.specs.declared.changes.Row.{Row}
use Rattle.be_shape.specs.declared.nodes.Node.{Node}
use Rattle.be_shape.specs.declared.nodes.Part.{Part}
use Rattle.be_shape.specs.declared.nodes.Node.TheViews.{out-Node}
use Rattle.be_shape.specs.Plain.{node, half_as, parts_as}
use Rattle.be_shape.specs.Less.{is_bare}
use Rattle.be_shape.proofs.Plains.{plain_out}
use Rattle.be_shape.proofs.nodes.Node.is_bare.Goals as goal

-- without rows and halves, a node is bare where it has no parts
no_parts : (leaf : List Row) (ps : List Part) (low high : Option (Box Node)) → length leaf ≡ 0 → low ≡ None → high ≡ None → eqb (length ps) 0 ≡ is_bare (node leaf (parts_as ps) (half_as low) (half_as high))
no_parts [] [] None None h l u = refl
no_parts [] (p ∷ ps) None None h l u = ne_eqb (length (p ∷ ps)) 0 (λ e. omega arith)
no_parts leaf ps (Some b) high h l u = absurd (cc)
no_parts leaf ps low (Some b) h l u = absurd (cc)
no_parts (row ∷ rows) ps None None h l u = absurd (omega arith)

pub returns-then-len-eq0 : goal.returns-then-len-eq0
returns-then-len-eq0 c =
    let n = out-Node c.args.self.now in
    let x : c.is_empty.result ≡ eqb (length n.parts.items) 0 = c.is_empty.ensures ∙ ap (λ z. eqb z 0) n.parts.ok.0 in
    let y : length n.leaf ≡ 0 = sym c.len.ensures ∙ c.if-len-eq0.true in
    x ∙ no_parts n.leaf n.parts.items n.low n.high y (c.in-None-None.is-0) (c.in-None-None.is-1) ∙ ap is_bare (sym (plain_out c.args.self.now))
