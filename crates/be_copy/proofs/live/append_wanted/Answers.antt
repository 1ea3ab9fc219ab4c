-- The next id is that of a row, which joins those so far where it is wanted.
use Rattle.std.proofs.Common.{rules, ◌≡◌, true, ◌++◌, slice_get, sym, ap, ◌∙◌, append-nil, arith}
use Rattle.std.specs.Arc.{arc_value}
use Rattle.be_base.proofs.Beginnings.{BeginsWith-same, BeginsWith-along}
use Rattle.be_model.specs.declared.changes.Row.{Row}
use Rattle.be_model.specs.Rows.{id_of}
use Rattle.be_model.specs.ByIds.{rows_of}
use Rattle.be_change.specs.Entries.{row_in}
use Rattle.be_copy.specs.Wanted.{wants}
use Rattle.be_copy.proofs.Firsts.{looked_up, lent_is, wants_anywhere}
use Rattle.be_copy.proofs.SoFar.{none_yet, none_left, lent_joins, some_passes}
use Rattle.be_copy.proofs.live.append_wanted.Goals as goal

pub loop-id-init : goal.loop-id-init
loop-id-init g c =
    let before = c.args.found.now.rows in
    record {
      put = sym (ap (λ m. before ++ rows_of m) (none_yet (wants c.args.wanted) (g.I.Index.rows c.args.index.now)) ∙ append-nil before);
      front = BeginsWith-same before;
      room = omega arith;
    }

pub overflow_add-from : goal.overflow_add-from
overflow_add-from g c =
    let at = looked_up c.args.register.now c.args.log.now.list (g.I.Index.rows c.args.index.now) c.args.wanted c.in-Some.id c.requires.filed c.requires.listed c.requires.map c.in-Some.ensures.1 in
    omega (arith, at.low)

pub loop-id-smaller : goal.loop-id-smaller
loop-id-smaller g c =
    let at = looked_up c.args.register.now c.args.log.now.list (g.I.Index.rows c.args.index.now) c.args.wanted c.in-Some.id c.requires.filed c.requires.listed c.requires.map c.in-Some.ensures.1 in
    omega (arith, at.low, c.in-Some.ensures.0)

pub loop-id-preserved : goal.loop-id-preserved
loop-id-preserved g c =
    let rows = g.I.Index.rows c.args.index.now in
    let h = c.args.log.now.list in
    let next = c.in-Some.ensures in
    let at = looked_up c.args.register.now h rows c.args.wanted c.in-Some.id c.requires.filed c.requires.listed c.requires.map next.1 in
    let lent : arc_value c.in-Some-row.row.now ≡ at.row = lent_is (λ x. arc_value x.now) c.row.result (row_in (slice_get h c.in-Some.id)) c.in-Some-row.row at.row c.in-Some-row.is c.row.ensures at.listed in
    record {
      put = lent_joins c.args.register.now h rows c.args.wanted c.loop-id.from c.in-Some.id (arc_value c.in-Some-row.row.now) c.args.found.now.rows c.loop-id.found.rows c.push_wanted.new.found.rows c.requires.filed c.requires.map next.0 next.2 at lent
          c.loop-id.invariant.put c.in_ok-push_wanted.ensures.put;
      front = BeginsWith-along c.push_wanted.new.found.rows c.loop-id.found.rows c.args.found.now.rows c.push_wanted.ensures.front c.loop-id.invariant.front;
      room = omega (arith, c.push_wanted.ensures.room, c.loop-id.invariant.room);
    }

pub returns-clause-put : goal.returns-clause-put
returns-clause-put g c =
    c.loop-id.invariant.put ∙ ap (λ m. c.args.found.now.rows ++ rows_of m) (none_left c.args.register.now (g.I.Index.rows c.args.index.now) c.args.wanted c.loop-id.from c.requires.filed c.requires.map c.in_default.ensures)

pub returns-in_err-push_wanted-clause-some : goal.returns-in_err-push_wanted-clause-some
returns-in_err-push_wanted-clause-some g c =
    let rows = g.I.Index.rows c.args.index.now in
    let h = c.args.log.now.list in
    let w = c.args.wanted in
    let at = looked_up c.args.register.now h rows w c.in-Some.id c.requires.filed c.requires.listed c.requires.map c.in-Some.ensures.1 in
    let lent : arc_value c.in-Some-row.row.now ≡ at.row = lent_is (λ x. arc_value x.now) c.row.result (row_in (slice_get h c.in-Some.id)) c.in-Some-row.row at.row c.in-Some-row.is c.row.ensures at.listed in
    let own : wants w (c.in-Some.id, at.row) ≡ true = wants_anywhere w c.in-Some.id (id_of at.row) at.row ∙ ap (λ (r : Row). wants w (id_of r, r)) (sym lent) ∙ c.in_err-push_wanted.ensures.some in
    let some = some_passes (wants w) rows c.in-Some.id at.row at.there own in search (rules, some)
