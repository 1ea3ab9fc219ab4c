-- A link in memory.
use Rattle.std.specs.Prelude.{◌≡◌, []}
use Rattle.be_io.specs.Memory.{MemSourceState, MemSinkState}

-- nobody has read from it or written to it
pub record IsFresh (source : MemSourceState) (sink : MemSinkState) : Type 0 where
  pub all_left : source.left ≡ source.whole
  pub none_taken : source.taken ≡ 0
  pub no_read_failed : source.calls.faults ≡ 0
  pub none_held : sink.held ≡ []
  pub no_write_failed : sink.calls.faults ≡ 0
  pub none_refused : sink.refusals ≡ 0
