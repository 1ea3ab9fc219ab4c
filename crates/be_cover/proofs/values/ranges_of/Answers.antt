use Rattle.std.proofs.Common.{◌≡◌, ◌∷◌, [], ◌++◌, List, All, refl, subst, sym, ap, ◌∙◌}
use Rattle.std.proofs.lemmas.List.{at_drop_all}
use Rattle.be_model.specs.declared.preds.Pred.{Pred}
use Rattle.be_model.specs.Domains.{Range}
use Rattle.be_model.specs.Forms.{OpForm}
use Rattle.be_model.specs.Lies.{conj_lies}
use Rattle.std.specs.List.{list_all, flat_map}
use Rattle.be_cover.specs.Ranges.{rise_apart}
use Rattle.be_cover.specs.Pieces.{is_near, pieces}
use Rattle.be_cover.proofs.Allowing.{near_domain, one_apart, near_at, turned_on, turned_off, left_is_allowed}
use Rattle.be_cover.proofs.Holding.{narrowed}
use Rattle.be_cover.proofs.values.ranges_of.Goals as goal

pub kept-requires-clause-near : goal.kept-requires-clause-near
kept-requires-clause-near c =
    let same : c.preds-preds.result.now ≡ c.args.c.now = c.preds-preds.ensures.preds in
    near_at c.args.s.now c.preds-preds.result.now c.args.a c.loop-pred.pred-index c.pred-item.result c.bounds.result
    (ap (conj_lies c.args.s.now) same ∙ c.requires.lies) c.loop-pred-test.true c.pred-item.is c.if-pred-a.false c.bounds.ensures.bounds c.bounds.ensures.low c.bounds.ensures.high

pub loop-pred-init : goal.loop-pred-init
loop-pred-init c =
    let d = c.bounds.result in
    let first : c.push.new.self.items ≡ d ∷ [] = c.in_ok-push.ensures.items ∙ ap (λ (rs : List Range). rs ++ d ∷ []) c.new-ranges.ensures.items in
    record {
      rest = refl;
      apart = ap rise_apart first ∙ one_apart d c.bounds.ensures.rising;
      near = ap (list_all is_near) first ∙ near_domain d c.bounds.ensures.low c.bounds.ensures.high;
    }

pub loop-pred-preserved-then-pred-a : goal.loop-pred-preserved-then-pred-a
loop-pred-preserved-then-pred-a c =
    turned_off c.args.a c.preds-preds.result.now c.loop-pred.pred-index c.pred-item.result _ c.loop-pred.ranges.items c.loop-pred-test.true c.pred-item.is c.if-pred-a.true c.loop-pred.invariant

pub loop-pred-preserved : goal.loop-pred-preserved
loop-pred-preserved c =
    let same : c.preds-preds.result.now ≡ c.args.c.now = c.preds-preds.ensures.preds in
    let forms = subst (λ (ps : List Pred). All (λ (p : Pred). OpForm p.op) ps) (sym same) c.preds-preds.ensures.form.forms in
    turned_on c.args.a c.preds-preds.result.now c.loop-pred.pred-index c.pred-item.result _ c.loop-pred.ranges.items c.in_ok-ranges.ranges.items forms c.loop-pred-test.true c.pred-item.is c.if-pred-a.false
    (c.in_ok-ranges.ensures ∙ ap (flat_map (pieces c.pred-item.result.op)) c.as_slice.ensures.value) c.loop-pred.invariant

pub returns-clause-exact : goal.returns-clause-exact
returns-clause-exact c =
    let a = c.args.a in
    let ps = c.preds-preds.result.now in
    let d = c.bounds.result in
    let ranges = c.loop-pred.ranges.items in
    let same : ps ≡ c.args.c.now = c.preds-preds.ensures.preds in
    let first : c.push.new.self.items ≡ d ∷ [] = c.in_ok-push.ensures.items ∙ ap (λ (rs : List Range). rs ++ d ∷ []) c.new-ranges.ensures.items in
    let left : ranges ≡ narrowed a c.args.c.now (d ∷ []) =
    sym (at_drop_all (λ (qs : List Pred). narrowed a qs ranges) ps c.loop-pred.pred-index c.loop-pred-test.false)
    ∙ c.loop-pred.invariant.rest ∙ ap (narrowed a ps) first ∙ ap (λ (qs : List Pred). narrowed a qs (d ∷ [])) same in
    λ v. left_is_allowed c.args.s.now a c.args.c.now d ranges v c.preds-preds.ensures.form.forms c.bounds.ensures.bounds left
