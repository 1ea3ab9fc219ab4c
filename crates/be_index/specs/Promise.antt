-- What contracts say of every index.
use Rattle.be_base.specs.declared.limits.TheConstants.{LOG_CHANGES}
use Rattle.be_model.specs.ByIds.{ByIds, AllBelow, Rising, SayIds}

-- a finite map: ids rise, and so they differ, each row says its id, and they are the ids of changes
pub record IsMap (m : ByIds) : Type 0 where
  pub rising : Rising m
  pub say : SayIds m
  pub low : AllBelow LOG_CHANGES m
