-- The calls on an object in memory, of which some are to fail.
use Rattle.std.specs.Prelude.{ℕ, ◌==◌, Bool, List}
use Rattle.std.specs.List.{list_any}
use Rattle.be_io.specs.Counts.{raised}

pub record CallState : Type 0 where
  -- the numbers of the calls that are to fail, from 1
  pub fails : List ℕ
  -- how many calls were made
  pub made : ℕ
  -- how many calls failed
  pub faults : ℕ

-- no call was made yet
abbrev pub no_calls : List ℕ → CallState
no_calls fails = record { fails = fails; made = 0; faults = 0 }

-- the next call's number is one of those that are to fail
abbrev pub is_to_fail : CallState → Bool
is_to_fail calls = list_any (λ number. number == raised 1 calls.made) calls.fails

-- after a call that didn't fail
abbrev pub after_call : CallState → CallState
after_call calls = record calls { made = raised 1 calls.made }

-- after a call that failed
abbrev pub after_fault : CallState → CallState
after_fault calls = record calls { made = raised 1 calls.made; faults = raised 1 calls.faults }
