use Rattle.std.proofs.Common.{ℕ, ap₂, rules}
use Rattle.be_shape.specs.Gaps.{AreThree}
use Rattle.be_shape.proofs.gaps.gaps_of_three.Goals as goal

pub returns : goal.returns
returns c =
    let three : AreThree c.args.x c.args.y c.args.z c.args.ends = record { low = search rules; rise = search rules; again = search rules; high = search rules; small = search rules } in
    (three, ap₂ (λ (u v : ℕ × ℕ). (u, v)) (search rules) (search rules))
