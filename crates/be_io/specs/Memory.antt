-- The objects in memory, as contracts see them.
use Rattle.std.specs.Prelude.{ℕ, List, [], ◌++◌, length, drop, min}
use Rattle.be_io.specs.Counts.{raised}
use Rattle.be_io.specs.Calls.{CallState, no_calls, after_call, after_fault}

pub record MemSourceState : Type 0 where
  -- all bytes that it gives from first to last
  pub whole : List ℕ
  -- the bytes that it has left
  pub left : List ℕ
  -- how many bytes it gives at most in one call
  pub piece : ℕ
  -- how many bytes it has given
  pub taken : ℕ
  pub calls : CallState

-- how many bytes the next call gives into a buffer of this length
abbrev pub next_count : MemSourceState → ℕ → ℕ
next_count source len = min (min (length source.left) len) source.piece

-- after a call that gave k bytes
abbrev pub after_read : MemSourceState → ℕ → MemSourceState
after_read source k =
    record source { left = drop k source.left; taken = raised k source.taken; calls = after_call source.calls }

abbrev pub after_failed_read : MemSourceState → MemSourceState
after_failed_read source = record source { calls = after_fault source.calls }

pub record MemSinkState : Type 0 where
  -- the bytes that it holds
  pub held : List ℕ
  pub calls : CallState
  -- how many calls were refused for want of memory
  pub refusals : ℕ

-- an empty sink, of which the calls of these numbers are to fail
abbrev pub empty_sink : List ℕ → MemSinkState
empty_sink fails = record { held = []; calls = no_calls fails; refusals = 0 }

-- after a call that took these bytes
abbrev pub after_write : MemSinkState → List ℕ → MemSinkState
after_write sink bytes = record sink { held = sink.held ++ bytes; calls = after_call sink.calls }

abbrev pub after_failed_write : MemSinkState → MemSinkState
after_failed_write sink = record sink { calls = after_fault sink.calls }

-- after a call for which memory was wanting
abbrev pub after_refused_write : MemSinkState → MemSinkState
after_refused_write sink = record sink { refusals = raised 1 sink.refusals }
