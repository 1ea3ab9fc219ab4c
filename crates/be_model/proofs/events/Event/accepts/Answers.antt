use Rattle.std.proofs.Common.{ℤ, List, ltb, [], ◌∷◌, ◌++◌, ◌∙◌, ap, sym, arith}
use Rattle.be_base.specs.declared.names.AttrNo.{AttrNo}
use Rattle.be_model.specs.Forms.{attrs_rise}
use Rattle.be_model.specs.Matching.{attrs_of}
use Rattle.be_model.proofs.Forms.{attrs_rise-last}
use Rattle.be_model.proofs.events.Event.accepts.Goals as goal

pub returns-in-len1-up : goal.returns-in-len1-up
returns-in-len1-up c =
    let same = c.as_slice.ensures.value in
    ap (λ (item : AttrNo × List ℤ). ltb item.0.0 c.args.a.0) c.last-item.is
    ∙ sym (attrs_rise-last c.as_slice.result.now c.args.a c.last-item.result (ap (λ e. attrs_rise (attrs_of e)) same ∙ c.self.invariant.form.rising) (omega arith))
    ∙ ap (λ e. attrs_rise (attrs_of e ++ c.args.a ∷ [])) (same ∙ c.self.view_is)
