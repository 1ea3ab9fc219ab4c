-- What a search costs.
use Rattle.std.specs.Prelude.{ℕ}
use Rattle.be_model.specs.declared.costs.Cost.{Cost}

abbrev pub cost : (visits tested : ℕ) → Cost
cost visits tested = record { visits = visits; tested = tested }
