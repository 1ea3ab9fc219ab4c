-- Each turn takes out one row that is wanted.
use Rattle.std.proofs.Common.{◌≡◌, ℕ, ◌==◌, not, filter, find, length, sym, ap, ◌∙◌, subst, arith}
use Rattle.std.specs.Arc.{arc_value}
use Rattle.be_model.specs.declared.changes.Row.{Row}
use Rattle.be_model.specs.Rows.{id_of}
use Rattle.be_model.specs.ByIds.{without_id}
use Rattle.be_index.specs.Promise.{IsMap}
use Rattle.be_index.proofs.Maps.{filtered_map}
use Rattle.be_copy.specs.Registers.{AreOfList}
use Rattle.be_copy.specs.Wanted.{wants}
use Rattle.be_copy.proofs.Firsts.{fewer, listed_without, left_without, only_at, none_goes, all_go, unmapped}
use Rattle.be_copy.proofs.live.remove_wanted.Goals as goal

pub loop-row-smaller : goal.loop-row-smaller
loop-row-smaller g c =
    let rows = g.I.Index.rows c.loop-row.index in
    let row = arc_value c.in-Some.row.now in
    let gone : g.I.Index.rows c.drop_row.new.index ≡ without_id (id_of row) rows = c.drop_row.ensures.rows ∙ ap (λ (r : Row). without_id (id_of r) rows) c.deref.ensures in
    omega (arith, ap length gone, fewer rows (id_of row) row c.in-Some.ensures.there.there)

pub loop-row-preserved : goal.loop-row-preserved
loop-row-preserved g c =
    let rows = g.I.Index.rows c.loop-row.index in
    let row = arc_value c.in-Some.row.now in
    let w = c.args.wanted in
    let is = c.loop-row.invariant in
    let gone : g.I.Index.rows c.drop_row.new.index ≡ without_id (id_of row) rows = c.drop_row.ensures.rows ∙ ap (λ (r : Row). without_id (id_of r) rows) c.deref.ensures in
    let there = c.in-Some.ensures.there in record {
      filed = c.drop_row.ensures.filed;
      listed = subst (AreOfList c.args.log.now.list) (sym gone) (listed_without c.args.log.now.list rows (id_of row) is.listed);
      map = subst IsMap (sym gone) (filtered_map (λ r. not (r.0 == id_of row)) rows is.map);
      left = ap (filter (λ (r : ℕ × Row). not (wants w r))) gone ∙ left_without (wants w) rows (id_of row) is.map.rising (only_at (wants w) rows (id_of row) row there.there there.wanted) ∙ is.left;
      schema = c.drop_row.ensures.schema ∙ is.schema;
      bounded = c.drop_row.ensures.bounded ∙ is.bounded;
    }

pub returns-clause-rows : goal.returns-clause-rows
returns-clause-rows g c =
    let rows = g.I.Index.rows c.loop-row.index in
    let w = c.args.wanted in
    sym (none_goes (wants w) rows (unmapped (find (wants w) rows) c.in_default.ensures.first)) ∙ c.loop-row.invariant.left

pub returns-then-has_only-clause-rows : goal.returns-then-has_only-clause-rows
returns-then-has_only-clause-rows g c =
    let rows = g.I.Index.rows c.args.index.now in
    c.clear.ensures.rows ∙ all_go (wants c.args.wanted) rows c.requires.map.rising (c.if-has_only.ensures rows c.requires.filed)
