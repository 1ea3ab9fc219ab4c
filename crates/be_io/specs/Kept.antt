-- What a read leaves as it was in the object that is read, and a write in the one that is written to.
use Rattle.std.specs.Prelude.{ℕ, List, [], Option, None}
use Rattle.be_io.specs.Source.{SourceState, no_source}
use Rattle.be_io.specs.Sink.{SinkState, no_sink}

pub record KeptByRead : Type 0 where
  -- all bytes that the source gives from first to last, where it tells them
  pub whole : Option (List ℕ)
  -- the sink that is one object with it, where it is a link
  pub sink : SinkState
  -- the borrowed objects that stand behind it
  pub references : List ℕ

pub record KeptByWrite : Type 0 where
  -- the source that is one object with the sink, where it is a link
  pub source : SourceState
  -- the borrowed objects that stand behind it
  pub references : List ℕ

-- of a source that is no link, stands alone and doesn't tell its bytes
abbrev pub alone_in_reading : KeptByRead
alone_in_reading = record { whole = None; sink = no_sink; references = [] }

-- of a sink that is no link and stands alone
abbrev pub alone_in_writing : KeptByWrite
alone_in_writing = record { source = no_source; references = [] }
