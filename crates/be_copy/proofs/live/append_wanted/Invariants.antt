-- The wanted rows whose ids are below `from` are put.
use Rattle.std.proofs.Common.{◌≡◌, ◌++◌, ◌-◌}
use Rattle.be_base.specs.Lists.{BeginsWith}
use Rattle.be_base.specs.declared.limits.TheConstants.{LOG_CHANGES}
use Rattle.be_model.specs.ByIds.{rows_of}
use Rattle.be_model.specs.Rows.{KeepsRoom}
use Rattle.be_copy.specs.Wanted.{wants}
use Rattle.be_copy.proofs.SoFar.{those_below}
use Rattle.be_copy.proofs.live.append_wanted.Given as goal

abbrev pub invariant-loop-id : goal.invariant-loop-id
invariant-loop-id g l = record {
  put : l.found.rows ≡ l.initial.found.rows ++ rows_of (those_below (wants l.wanted) l.from (g.I.Index.rows l.index));
  front : BeginsWith l.found.rows l.initial.found.rows;
  room : KeepsRoom l.initial.found l.found;
}

abbrev pub decreases-loop-id : goal.decreases-loop-id
decreases-loop-id g l = LOG_CHANGES - l.from
