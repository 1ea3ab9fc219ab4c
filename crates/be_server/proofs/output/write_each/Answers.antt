use Rattle.std.proofs.Common.{◌≡◌, ◌<◌, [], length, Err, subst, rules}
use Rattle.std.specs.List.{flat_map}
use Rattle.be_base.specs.Readers.{now_of}
use Rattle.be_io.specs.Outside.{sink_state}
use Rattle.be_io.specs.Sink.{Wrote}
use Rattle.be_io.proofs.WroteLemmas.{Wrote-next, Wrote-stopped}
use Rattle.be_server.proofs.output.write_each.Goals as goal

pub loop-piece-preserved : goal.loop-piece-preserved
loop-piece-preserved g c =
    let lt : c.loop-piece.piece-index < length c.args.pieces.now = search rules in
    Wrote-next now_of c.args.pieces.now c.loop-piece.piece-index _ [] (sink_state g.K.Sink c.args.out.now) (sink_state g.K.Sink c.loop-piece.out) (sink_state g.K.Sink c.write_all.new.sink) lt c.loop-piece.invariant c.in_ok-write_all.ensures.wrote

pub returns-in_err-write_all : goal.returns-in_err-write_all
returns-in_err-write_all g c =
    let lt : c.loop-piece.piece-index < length c.args.pieces.now = search rules in
    let is : Err c.in_err-write_all.field-0.0 ≡ c.from_residual.result = search rules in
    subst (Wrote (sink_state g.K.Sink c.args.out.now) (sink_state g.K.Sink c.write_all.new.sink) (flat_map now_of c.args.pieces.now)) is
    (Wrote-stopped now_of c.args.pieces.now c.loop-piece.piece-index _ [] (sink_state g.K.Sink c.args.out.now) (sink_state g.K.Sink c.loop-piece.out) (sink_state g.K.Sink c.write_all.new.sink) c.in_err-write_all.field-0.0 lt c.loop-piece.invariant c.in_err-write_all.ensures.wrote)
