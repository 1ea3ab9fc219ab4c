use Rattle.std.proofs.Common.{arith}
use Rattle.be_model.proofs.Halvings.{bits_small, bits_large}
use Rattle.be_model.proofs.laws.halvings_count.Goals as goal

pub returns : goal.returns
returns c = (bits_small 1 (omega arith), bits_large)
