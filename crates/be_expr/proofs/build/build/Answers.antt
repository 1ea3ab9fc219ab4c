use Rattle.std.proofs.Common.{◌≤◌, List, [], ◌∷◌, ◌++◌, Some, length, length-append, option_map, option_and_then, subst, refl, sym, ◌∙◌, ap, arith}
use Rattle.std.proofs.lemmas.Bool.{false≢true}
use Rattle.be_base.specs.Tokens.{tokens}
use Rattle.be_base.specs.Readers.{following}
use Rattle.be_model.specs.declared.preds.Pred.{Pred}
use Rattle.be_expr.specs.Faults.{preds_in}
use Rattle.be_expr.proofs.Joining.{preds_left}
use Rattle.be_expr.proofs.BuiltPreds.{joined, begun, full_is_unbuilt, first_is_unbuilt, end_is_unbuilt, one_more_built, all_built}
use Rattle.be_expr.proofs.build.build.Goals as goal

pub loop-left-init : goal.loop-left-init
loop-left-init c =
    let o = option_and_then preds_in (tokens c.args.text.now) in
    record {
      whole = begun c.args.schema.now o ∙ ap (λ (conj : List Pred). joined c.args.schema.now conj o) (sym c.make-conj.ensures);
      few = subst (λ (conj : List Pred). length conj ≤ 32) (sym c.make-conj.ensures) (omega arith);
    }

pub returns-then-is_full : goal.returns-then-is_full
returns-then-is_full c =
    let s = c.args.schema.now in
    let conj = c.loop-left.conj in
    sym (c.loop-left.invariant.whole ∙ ap (λ left. joined s conj (preds_left left)) c.in-Some.is
    ∙ ap (option_map (λ ys. conj ++ ys)) (full_is_unbuilt s (length conj) (tokens c.in-Some.text.now) (c.if-is_full.ensures.0 refl)))

pub returns-in_default-2 : goal.returns-in_default-2
returns-in_default-2 c =
    let s = c.args.schema.now in
    let conj = c.loop-left.conj in
    let none = sym (ap (following (λ (pred : Pred). pred)) c.in_default-2.is) ∙ c.in_ok-pred.ensures.pred in
    sym (c.loop-left.invariant.whole ∙ ap (λ left. joined s conj (preds_left left)) c.in-Some.is
    ∙ ap (option_map (λ ys. conj ++ ys)) (first_is_unbuilt s (length conj) (tokens c.in-Some.text.now) none))

pub returns-in_default-read_end : goal.returns-in_default-read_end
returns-in_default-read_end c =
    let s = c.args.schema.now in
    let conj = c.loop-left.conj in
    let read = sym (ap (following (λ (pred : Pred). pred)) c.in-Some-2.is) ∙ c.in_ok-pred.ensures.pred in
    sym (c.loop-left.invariant.whole ∙ ap (λ left. joined s conj (preds_left left)) c.in-Some.is
    ∙ ap (option_map (λ ys. conj ++ ys)) (end_is_unbuilt s (length conj) c.in-Some-2.pred (tokens c.in-Some.text.now) (tokens c.in-Some-2.rest.now) read c.in_default-read_end.ensures.end))

pub loop-left-preserved : goal.loop-left-preserved
loop-left-preserved c =
    let s = c.args.schema.now in
    let conj = c.loop-left.conj in
    let pred = c.in-Some-2.pred in
    let read = sym (ap (following (λ (p : Pred). p)) c.in-Some-2.is) ∙ c.in_ok-pred.ensures.pred in
    let put = c.in_ok-push.ensures.put in
    let room : ¬ (32 ≤ length conj) = λ full. false≢true (c.if-is_full.ensures.1 full) in
    record {
      whole = c.loop-left.invariant.whole ∙ ap (λ left. joined s conj (preds_left left)) c.in-Some.is
          ∙ one_more_built s conj c.push.new.self pred (tokens c.in-Some.text.now) (tokens c.in-Some-2.rest.now) c.in-Some-read_end.next put read c.in-Some-read_end.ensures.end;
      few = subst (λ (more : List Pred). length more ≤ 32) (sym put)
          (omega (arith, length-append conj (pred ∷ []), room));
    }

pub returns : goal.returns
returns c =
    let s = c.args.schema.now in
    let conj = c.loop-left.conj in
    sym (c.loop-left.invariant.whole ∙ ap (λ left. joined s conj (preds_left left)) c.in_default.is
    ∙ all_built s conj c.loop-left.invariant.few ∙ ap (λ (x : List Pred). Some x) (sym c.fit.ensures))
