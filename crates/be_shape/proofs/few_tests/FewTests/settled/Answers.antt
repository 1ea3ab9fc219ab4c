use Rattle.std.proofs.Common.{◌≡◌, true, sym, ap, subst, ◌∙◌}
use Rattle.be_shape.specs.FewTests.{few_of, few_told}
use Rattle.be_shape.specs.Glances.{glance}
use Rattle.be_shape.specs.Told.{extent_of}
use Rattle.be_shape.specs.Gaps.{IsOnlySet}
use Rattle.be_shape.specs.Lanes.{Few, Slot, Lane, AreFree, HoldLanes}
use Rattle.be_shape.proofs.ToldLanes.{AreSlots, held}
use Rattle.be_shape.proofs.GapSets.{gaps_held}
use Rattle.be_shape.proofs.TestCounts.{are_below, tests_below, not_set, counted, one_counted}
use Rattle.be_shape.proofs.few_tests.FewTests.settled.Goals as goal

pub returns-in-None-clause-lanes : goal.returns-in-None-clause-lanes
returns-in-None-clause-lanes c =
    let t = c.self.inside in
    let slots : AreSlots (t.first_attr, t.first) (t.second_attr, t.second) (t.third_attr, t.third) =
    record {
      first = record { low = c.slot_fits.ensures.low; more = c.slot_fits.ensures.more };
      second = record { low = c.slot_fits-2.ensures.low; more = c.slot_fits-2.ensures.more };
      third = record { low = c.slot_fits-3.ensures.low; more = c.slot_fits-3.ensures.more };
    } in
    subst (λ few. HoldLanes c.args.conj.now c.args.told few) c.self.view_is
    (held t.count (t.first_attr, t.first) (t.second_attr, t.second) (t.third_attr, t.third) slots c.args.conj.now c.args.told c.requires.plain (subst AreFree (sym c.self.view_is) c.requires.free)
    c.args.self.tests (ap (λ (few : Few). few.tests) c.self.view_is) c.requires.told c.requires.form)

pub returns-in-Some-clause-lanes : goal.returns-in-Some-clause-lanes
returns-in-Some-clause-lanes c =
    let t = c.self.inside in
    let gaps : Slot × Slot = (c.in-Some.second, c.in-Some.third) in
    let view : Few = few_of t.count (t.first_attr, t.first) (t.second_attr, t.second) (t.third_attr, t.third) in
    let only : IsOnlySet c.args.conj.now c.args.told view gaps = subst (λ (few : Few). IsOnlySet c.args.conj.now c.args.told few gaps) (sym c.self.view_is) c.in-Some.ensures in
    gaps_held c.args.conj.now c.args.told view gaps only (few_of t.count (t.first_attr, t.first) (t.first_attr, c.in-Some.second) (t.first_attr, c.in-Some.third)).tests

pub returns-in-None-clause-counted : goal.returns-in-None-clause-counted
returns-in-None-clause-counted c =
    let t = c.self.inside in
    let told = c.args.told in
    let x : Lane = (t.first_attr, t.first) in
    let y : Lane = (t.second_attr, t.second) in
    let z : Lane = (t.third_attr, t.third) in
    let below : are_below (few_of t.count x y z).tests ≡ true = tests_below c.args.conj.now (few_of t.count x y z).tests (extent_of told) (ap (λ (few : Few). glance few.tests (extent_of told)) c.self.view_is ∙ c.requires.told) in
    subst (λ (few : Few). few ≡ few_told told few.first few.second few.third) c.self.view_is (counted told t.count x y z (not_set told c.requires.plain) (subst AreFree (sym c.self.view_is) c.requires.free) below)

pub returns-in-Some-clause-counted : goal.returns-in-Some-clause-counted
returns-in-Some-clause-counted c =
    let t = c.self.inside in
    let gaps : Slot × Slot = (c.in-Some.second, c.in-Some.third) in
    let view : Few = few_of t.count (t.first_attr, t.first) (t.second_attr, t.second) (t.third_attr, t.third) in
    let only : IsOnlySet c.args.conj.now c.args.told view gaps = subst (λ (few : Few). IsOnlySet c.args.conj.now c.args.told few gaps) (sym c.self.view_is) c.in-Some.ensures in
    ap (λ n. few_of n (t.first_attr, t.first) (t.first_attr, c.in-Some.second) (t.first_attr, c.in-Some.third)) (one_counted t.count (t.first_attr, t.first) (t.second_attr, t.second) (t.third_attr, t.third) only.one)
