use Rattle.std.proofs.Common.{◌≡◌, ◌++◌, ◌∷◌, [], map, Ok, sym, ap, ◌∙◌, append_assoc, arith, rules}
use Rattle.std.proofs.lemmas.List.{map-append}
use Rattle.be_hub.proofs.Pairs.{gone_through}
use Rattle.be_mirror.proofs.workers.all_done.Goals as goal

pub loop-result-init : goal.loop-result-init
loop-result-init g c = (tt, tt, sym c.into_iter-result-iterator.ensures.into_iter_gives.0, ap (map (λ end. Ok end)) c.new-ends.ensures.items)

pub loop-result-preserved : goal.loop-result-preserved
loop-result-preserved g c =
    let i = c.loop-result.invariant in
    let done : Ok c.in_ok-result.field-0 ≡ c.in-Some.result = search rules in (
      tt,
      tt,
      i.2 ∙ (ap (λ l. c.loop-result.yielded ++ l) c.in-Some.ensures.steps.0 ∙ sym (append_assoc c.loop-result.yielded (c.in-Some.result ∷ []) c.next.new.self.rest.items)),
      ap (map (λ end. Ok end)) c.in_ok-push.ensures.items ∙ (map-append (λ end. Ok end) c.loop-result.ends.items (c.in_ok-result.field-0 ∷ []) ∙ (ap (λ l. l ++ Ok c.in_ok-result.field-0 ∷ []) i.3 ∙ ap (λ r. c.loop-result.yielded ++ r ∷ []) done)),
    )

pub returns : goal.returns
returns g c =
    let i = c.loop-result.invariant in
    i.3 ∙ gone_through c.args.results.items c.loop-result.yielded c.loop-result.result-iterator.rest.items i.2 (omega (arith, c.loop-result.result-iterator.rest.ok.0, c.in-None.ensures.steps.0))
