-- Each letter taken so far was written. With each there may be one less.
use Rattle.std.proofs.Common.{◌≡◌, ◌-◌}
use Rattle.be_io.specs.Outside.{sink_state}
use Rattle.be_session.specs.Fetching.{FetchesSo}
use Rattle.be_session.proofs.letters.fetch.Given as goal

abbrev pub invariant-letters : goal.invariant-letters
invariant-letters g l = record {
  so : FetchesSo l.schema l.max l.count (g.B.Board.state l.fn.board) (g.B.Board.state l.board) (sink_state g.K.Sink l.fn.out) (sink_state g.K.Sink l.out);
  schema : (g.B.Board.state l.board).schema ≡ l.schema;
  beside : g.K.Sink.kept_by_write l.out ≡ g.K.Sink.kept_by_write l.fn.out;
}

abbrev pub decreases-letters : goal.decreases-letters
decreases-letters g l = l.max - l.count
