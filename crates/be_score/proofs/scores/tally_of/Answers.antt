use Rattle.std.proofs.Common.{◌<◌, ◌≤◌, ◌^◌, length, ap, ◌∙◌, subst, arith}
use Rattle.be_model.specs.Lies.{row_lies}
use Rattle.std.proofs.lemmas.List.{take_all}
use Rattle.be_model.proofs.Attributes.{all_at}
use Rattle.be_score.specs.Tallies.{Adds, IsTally}
use Rattle.be_score.proofs.Tallying.{no_rows, one_more, room, more}
use Rattle.be_score.proofs.scores.tally_of.Goals as goal

pub add-requires-clause-lies : goal.add-requires-clause-lies
add-requires-clause-lies g c =
    let s = c.args.s.now in
    ap (row_lies s) c.deref.ensures ∙ all_at (row_lies s) (g.R.RowList.rows c.args.rows.now) c.loop-place.place _ c.requires c.row.ensures

pub add-requires-clause-room : goal.add-requires-clause-room
add-requires-clause-room g c =
    let rows = g.R.RowList.rows c.args.rows.now in
    let few : length rows < 2 ^ 64 = let e = c.len-place-end.ensures in let t = c.len-place-end.type_inv in omega arith in
    room c.args.s.now rows c.loop-place.place c.loop-place.tally.gains c.loop-place.tally.counts c.loop-place.invariant few

pub add-requires-clause-more : goal.add-requires-clause-more
add-requires-clause-more g c =
    let rows = g.R.RowList.rows c.args.rows.now in
    let less : c.loop-place.place < length rows = let e = c.len-place-end.ensures in let t = c.loop-place-test.true in omega arith in
    let few : length rows < 2 ^ 64 = let e = c.len-place-end.ensures in let t = c.len-place-end.type_inv in omega arith in
    more c.args.s.now rows c.loop-place.place c.loop-place.tally.gains c.loop-place.tally.counts c.loop-place.invariant less few

pub loop-place-preserved : goal.loop-place-preserved
loop-place-preserved g c =
    let rows = g.R.RowList.rows c.args.rows.now in
    let less : c.loop-place.place < length rows = let e = c.len-place-end.ensures in let t = c.loop-place-test.true in omega arith in
    let adds = subst (λ row. Adds c.args.s.now row c.loop-place.tally.gains c.loop-place.tally.counts c.add.new.self.gains c.add.new.self.counts) c.deref.ensures c.add.ensures in
    one_more c.args.s.now rows c.loop-place.place _ _ _ _ _ c.loop-place.invariant less c.row.ensures adds

pub loop-place-init : goal.loop-place-init
loop-place-init g c = no_rows c.args.s.now c.new-tally.result.gains c.new-tally.result.counts c.new-tally.ensures

pub returns : goal.returns
returns g c =
    let rows = g.R.RowList.rows c.args.rows.now in
    let all : length rows ≤ c.loop-place.place = let e = c.len-place-end.ensures in let t = c.loop-place-test.false in omega arith in
    subst (λ rs. IsTally c.args.s.now rs c.loop-place.tally.gains c.loop-place.tally.counts) (take_all c.loop-place.place rows all) c.loop-place.invariant
