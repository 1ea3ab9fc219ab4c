use Rattle.std.proofs.Common.{◌≡◌, ◌+◌, ◌-◌, length, vec_len}
use Rattle.be_base.specs.declared.limits.TheConstants.{FILE_BYTES}
use Rattle.be_base.specs.declared.limits.TheConstants.{READ_BYTES}
use Rattle.be_io.proofs.standard.read_within_limit.Given as goal

abbrev pub invariant-loop-chunk : goal.invariant-loop-chunk
invariant-loop-chunk g l = length l.chunk ≡ READ_BYTES

abbrev pub decreases-loop-chunk : goal.decreases-loop-chunk
decreases-loop-chunk g l = FILE_BYTES + 2 - vec_len l.bytes
