-- The rows that aren't wanted are all still there.
use Rattle.std.proofs.Common.{◌≡◌, not, filter, length}
use Rattle.be_index.specs.Promise.{IsMap}
use Rattle.be_copy.specs.Registers.{IsRegister, AreOfList}
use Rattle.be_copy.specs.Wanted.{wants}
use Rattle.be_copy.proofs.live.remove_wanted.Given as goal

abbrev pub invariant-loop-row : goal.invariant-loop-row
invariant-loop-row g l = record {
  filed : IsRegister l.register (g.I.Index.rows l.index);
  listed : AreOfList l.log.list (g.I.Index.rows l.index);
  map : IsMap (g.I.Index.rows l.index);
  left : filter (λ r. not (wants l.wanted r)) (g.I.Index.rows l.index) ≡ filter (λ r. not (wants l.wanted r)) (g.I.Index.rows l.initial.index);
  schema : g.I.Index.schema l.index ≡ g.I.Index.schema l.initial.index;
  bounded : g.I.Index.is_bounded l.index ≡ g.I.Index.is_bounded l.initial.index;
}

abbrev pub decreases-loop-row : goal.decreases-loop-row
decreases-loop-row g l = length (g.I.Index.rows l.index)
