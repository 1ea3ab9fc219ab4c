-- The first count, and then each other one, adds what it has.
use Rattle.std.proofs.Common.{rules, ◌≡◌, ◌∷◌, ◌++◌, length, true, sym, ap, ◌∙◌, arith}
use Rattle.std.proofs.lemmas.List.{nil_from_length}
use Rattle.be_door.specs.Numbers.{ends}
use Rattle.be_door.specs.Counts.{sums_of, with_counts, all_kept}
use Rattle.be_door.proofs.Gathered.{with_none, sums_on, kept_on, room_on, first_is, rest_is}
use Rattle.be_door.proofs.count.gather.Goals as goal

pub loop-count-init : goal.loop-count-init
loop-count-init g c =
    let rest = c.into_iter-count-iterator.result.rest.items in
    let first = c.in-Some.first in
    let is : c.args.counts.items ≡ first ∷ rest =
    sym c.into_iter-counts.ensures.rest ∙ c.in-Some.ensures.items ∙ ap (λ it. first ∷ it.rest.items) (sym c.into_iter-count-iterator.ensures.into_iter_gives) in
    let own = ap sums_of c.first.view_is in
    let kept = ap (λ c. c.kept) c.first.view_is in
    let numbers = c.args.numbers in
    let so = first_is _ _ _ _ is (λ c. (c.of ≡ numbers.of) × (c.ended ≡ true)) c.requires.each in
    let home = c.into_home-home.ensures in
    let ended : c.into_home-home.result.ended ≡ 1 = ap (λ h. h.ended) home ∙ ap ends (ap (λ c. c.ended) c.first.view_is ∙ so.1) in (
      tt,
      tt,
      ap (λ s. with_counts s rest) c.add.ensures ∙ sums_on _ _ _ _ is _ _ own,
      ap (λ ls. ls ++ all_kept rest) c.take_over.ensures.links ∙ kept_on _ _ _ _ is _ _ kept,
      search rules,
      room_on _ _ _ _ is _ _ _ kept c.requires.room c.take_over.ensures.spare,
      rest_is _ _ _ _ is (λ c. (c.of ≡ numbers.of) × (c.ended ≡ true)) c.requires.each,
      ap (λ h. h.of) home ∙ ap (λ c. c.of) c.first.view_is ∙ so.0,
      search rules,
      search rules,
      omega (arith, ended, ap length is, c.requires.all.0),
      search rules,
      search rules,
      search rules,
      search rules,
      search rules,
    )

pub join-requires-clause-of : goal.join-requires-clause-of
join-requires-clause-of g c =
    let i = c.loop-count.invariant in
    let numbers = c.args.numbers in
    let so = first_is _ _ _ _ c.in-Some-count.ensures.steps.0 (λ c. (c.of ≡ numbers.of) × (c.ended ≡ true)) i.6 in
    (i.7, ap (λ c. c.of) c.count.view_is ∙ so.0)

pub loop-count-preserved : goal.loop-count-preserved
loop-count-preserved g c =
    let i = c.loop-count.invariant in
    let rest = c.next-in-loop-count.new.self.rest.items in
    let is = c.in-Some-count.ensures.steps.0 in
    let own = ap sums_of c.count.view_is in
    let kept = ap (λ c. c.kept) c.count.view_is in
    let numbers = c.args.numbers in
    let so = first_is _ _ _ _ is (λ c. (c.of ≡ numbers.of) × (c.ended ≡ true)) i.6 in (
      tt,
      tt,
      ap (λ s. with_counts s rest) c.add-in-loop-count.ensures ∙ sums_on _ _ _ _ is _ _ own ∙ i.2,
      ap (λ ls. ls ++ all_kept rest) c.take_over-in-loop-count.ensures.links ∙ kept_on _ _ _ _ is _ _ kept ∙ i.3,
      c.take_over-in-loop-count.ensures.same ∙ i.4,
      room_on _ _ _ _ is _ _ _ kept i.5 c.take_over-in-loop-count.ensures.spare,
      rest_is _ _ _ _ is (λ c. (c.of ≡ numbers.of) × (c.ended ≡ true)) i.6,
      search rules,
      search rules,
      search rules,
      search rules,
      search rules,
      search rules,
      search rules,
      search rules,
      search rules,
    )

pub returns-clause-sums : goal.returns-clause-sums
returns-clause-sums g c =
    let i = c.loop-count.invariant in
    let rest = c.loop-count.count-iterator.rest in
    let none = nil_from_length rest.items (omega (arith, c.in-None.ensures.steps.0, rest.ok.0)) in
    sym (with_none g.row.L.Denot c.loop-count.sums i.14 i.15) ∙ ap (with_counts c.loop-count.sums) (sym none) ∙ i.2
