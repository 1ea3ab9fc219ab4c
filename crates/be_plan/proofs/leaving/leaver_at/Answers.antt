use Rattle.std.proofs.Common.{◌∷◌, sym, ap, ◌∙◌, subst}
use Rattle.be_model.specs.declared.paths.Hop.{Hop}
use Rattle.be_shape.specs.Plain.{plain, parts_as, parts_under}
use Rattle.be_shape.specs.Shape.{attrs_of}
use Rattle.be_shape.proofs.Plains.{plain_out}
use Rattle.be_plan.specs.Looks.{LeadsTo}
use Rattle.be_plan.specs.Shifts.{least_gain}
use Rattle.be_plan.proofs.Looking.{leaver_can}
use Rattle.be_plan.proofs.leaving.leaver_at.Goals as goal

pub returns : goal.returns
returns c =
    let s = c.args.s.now in
    let n = plain c.args.n.now in
    let a = c.in-Part.attr in
    let under = ap parts_under (plain_out c.args.n.now) ∙ sym (ap parts_as c.as_slice-parts.ensures.value) in
    let leads = subst (λ (h : Hop). LeadsTo (h ∷ c.args.below.now) n c.args.leaf.now) c.in-Part.is c.requires.leads in
    leaver_can s n a c.in_ok-id.to c.in_ok-id.id c.args.below.now c.args.leaf.now leads (ap (λ ps. least_gain s (attrs_of ps) a c.args.leaf.now) under ∙ sym c.in_ok-id.ensures)
