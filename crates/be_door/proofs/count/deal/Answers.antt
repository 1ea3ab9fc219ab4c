-- One more count is new.
use Rattle.std.proofs.Common.{rules, ◌≡◌, ◌++◌, ◌∷◌, [], All, sym, ap, subst, ◌∙◌}
use Rattle.std.proofs.lemmas.List.Elements.{All-push}
use Rattle.be_door.specs.Counts.{CountState, new_count}
use Rattle.be_door.proofs.count.deal.Goals as goal

pub loop-worker-preserved : goal.loop-worker-preserved
loop-worker-preserved g c =
    let numbers = c.in_ok-numbers.numbers in
    let links : numbers.links ≡ c.args.links = ap (λ n. n.links) c.in_ok-numbers.ensures.numbers in
    let of : c.in_ok-numbers.home.of ≡ numbers.of = ap (λ h. h.of) c.in_ok-numbers.ensures.home in
    let made : c.make.result ≡ new_count c.in_ok-numbers.home.of c.args.links c.args.keeps =
    c.make.ensures
    ∙ ap (λ t. new_count t.of t.links c.args.keeps) c.split.ensures.turn
    ∙ ap (λ n. new_count numbers.of n c.args.keeps) links
    ∙ ap (λ o. new_count o c.args.links c.args.keeps) (sym of) in
    let IsNew : CountState g.row.L.Denot → Type 0 = λ count. count ≡ new_count c.in_ok-numbers.home.of c.args.links c.args.keeps in (
      search rules,
      search rules,
      subst (All IsNew) {x = c.loop-worker.counts.items ++ c.make.result ∷ []} (sym c.in_ok-push.ensures.items) (All-push IsNew _ _ c.loop-worker.invariant.2 made),
    )
