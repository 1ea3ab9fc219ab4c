use Rattle.std.proofs.Common.{◌+◌, ◌<◌, sym, ap, ◌∙◌, subst}
use Rattle.std.specs.Prelude.{option_map}
use Rattle.be_base.specs.declared.names.AttrNo.{AttrNo}
use Rattle.be_shape.specs.Plain.{parts_as}
use Rattle.be_shape.specs.Shape.{attrs_of}
use Rattle.be_plan.specs.Shifts.{least_share}
use Rattle.be_plan.proofs.Gains.{heavy, nowhere, may_lies}
use Rattle.be_plan.proofs.Narrow.{light_weighs}
use Rattle.be_plan.proofs.shifts.gain_at.Goals as goal

pub returns-then-is_light : goal.returns-then-is_light
returns-then-is_light c =
    let s = c.args.from.now.s.now in
    let from = c.args.from.now in
    let row = c.args.row.now in
    let own = c.share_at-own.result in
    let much = subst (λ n. 1000 < n + least_share from.small) (sym c.share_at-own.ensures.weighs) (light_weighs from.small own.values own.domain (sym c.is_light.ensures ∙ c.if-is_light.true)) in
    sym (ap (option_map (λ (to : AttrNo). (row.id, to))) (heavy s from.attr row (attrs_of (parts_as from.parts.now)) from.small from.is c.share_at-own.ensures.form c.requires.may much))

pub returns-then-not-gains_somewhere : goal.returns-then-not-gains_somewhere
returns-then-not-gains_somewhere c =
    let s = c.args.from.now.s.now in
    let from = c.args.from.now in
    let row = c.args.row.now in
    let attrs = attrs_of (parts_as from.parts.now) in
    sym (ap (option_map (λ (to : AttrNo). (row.id, to))) (nowhere s attrs from.attr row (sym c.gains_somewhere.ensures ∙ c.if-not-gains_somewhere.true)))

pub first_gain-requires-clause-lies : goal.first_gain-requires-clause-lies
first_gain-requires-clause-lies c = may_lies c.args.from.now.s.now c.args.row.now c.requires.may
