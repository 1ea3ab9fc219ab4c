-- The next id is that of a row, which is the first that is wanted, or is passed.
use Rattle.std.proofs.Common.{◌≡◌, ℕ, true, false, option_map, slice_get, sym, ap, ◌∙◌, arith}
use Rattle.std.specs.Arc.{arc_value}
use Rattle.be_model.specs.declared.changes.Row.{Row}
use Rattle.be_model.specs.Rows.{id_of}
use Rattle.be_change.specs.Entries.{row_in}
use Rattle.be_copy.specs.Wanted.{wants}
use Rattle.be_copy.proofs.Firsts.{looked_up, lent_is, taken_row, passed_row, none_at_all}
use Rattle.be_copy.proofs.live.first.Goals as goal

pub returns-then-takes-clause-first : goal.returns-then-takes-clause-first
returns-then-takes-clause-first g c =
    let rows = g.I.Index.rows c.args.index.now in
    let h = c.args.log.now.list in
    let next = c.in-Some.ensures in
    let at = looked_up c.args.register.now h rows c.args.wanted c.in-Some.id c.requires.filed c.requires.listed c.requires.map next.1 in
    let lent : arc_value c.in-Some-row.row.now ≡ at.row = lent_is (λ x. arc_value x.now) c.row.result (row_in (slice_get h c.in-Some.id)) c.in-Some-row.row at.row c.in-Some-row.is c.row.ensures at.listed in
    let wanted : wants c.args.wanted (id_of (arc_value c.in-Some-row.row.now), arc_value c.in-Some-row.row.now) ≡ true =
    ap (λ (r : Row). wants c.args.wanted (id_of r, r)) (sym c.deref.ensures) ∙ sym c.takes.ensures ∙ c.if-takes.true in
    (taken_row c.args.register.now h rows c.args.wanted c.loop-id.from c.in-Some.id (arc_value c.in-Some-row.row.now) c.requires.filed c.requires.map c.loop-id.invariant next.2 at lent wanted).0

pub returns-then-takes-clause-there : goal.returns-then-takes-clause-there
returns-then-takes-clause-there g c =
    let rows = g.I.Index.rows c.args.index.now in
    let h = c.args.log.now.list in
    let next = c.in-Some.ensures in
    let at = looked_up c.args.register.now h rows c.args.wanted c.in-Some.id c.requires.filed c.requires.listed c.requires.map next.1 in
    let lent : arc_value c.in-Some-row.row.now ≡ at.row = lent_is (λ x. arc_value x.now) c.row.result (row_in (slice_get h c.in-Some.id)) c.in-Some-row.row at.row c.in-Some-row.is c.row.ensures at.listed in
    let wanted : wants c.args.wanted (id_of (arc_value c.in-Some-row.row.now), arc_value c.in-Some-row.row.now) ≡ true =
    ap (λ (r : Row). wants c.args.wanted (id_of r, r)) (sym c.deref.ensures) ∙ sym c.takes.ensures ∙ c.if-takes.true in
    (taken_row c.args.register.now h rows c.args.wanted c.loop-id.from c.in-Some.id (arc_value c.in-Some-row.row.now) c.requires.filed c.requires.map c.loop-id.invariant next.2 at lent wanted).1

pub overflow_add-from : goal.overflow_add-from
overflow_add-from g c =
    let at = looked_up c.args.register.now c.args.log.now.list (g.I.Index.rows c.args.index.now) c.args.wanted c.in-Some.id c.requires.filed c.requires.listed c.requires.map c.in-Some.ensures.1 in
    omega (arith, at.low)

pub loop-id-smaller : goal.loop-id-smaller
loop-id-smaller g c =
    let at = looked_up c.args.register.now c.args.log.now.list (g.I.Index.rows c.args.index.now) c.args.wanted c.in-Some.id c.requires.filed c.requires.listed c.requires.map c.in-Some.ensures.1 in
    omega (arith, at.low, c.in-Some.ensures.0)

pub loop-id-preserved : goal.loop-id-preserved
loop-id-preserved g c =
    let rows = g.I.Index.rows c.args.index.now in
    let h = c.args.log.now.list in
    let next = c.in-Some.ensures in
    let at = looked_up c.args.register.now h rows c.args.wanted c.in-Some.id c.requires.filed c.requires.listed c.requires.map next.1 in
    let lent : arc_value c.in-Some-row.row.now ≡ at.row = lent_is (λ x. arc_value x.now) c.row.result (row_in (slice_get h c.in-Some.id)) c.in-Some-row.row at.row c.in-Some-row.is c.row.ensures at.listed in
    let passed : wants c.args.wanted (id_of (arc_value c.in-Some-row.row.now), arc_value c.in-Some-row.row.now) ≡ false =
    ap (λ (r : Row). wants c.args.wanted (id_of r, r)) (sym c.deref.ensures) ∙ sym c.takes.ensures ∙ c.if-takes.false in
    passed_row c.args.register.now h rows c.args.wanted c.loop-id.from c.in-Some.id (arc_value c.in-Some-row.row.now) c.requires.filed c.loop-id.invariant next.2 at lent passed

pub returns-clause-first : goal.returns-clause-first
returns-clause-first g c =
    let rows = g.I.Index.rows c.args.index.now in
    ap (option_map (λ (x : ℕ × Row). x.1)) (sym (none_at_all c.args.register.now rows c.args.wanted c.loop-id.from c.requires.filed c.requires.map c.loop-id.invariant c.in_default.ensures))
