use Rattle.std.specs.Arc.{arc_value}
use Rattle.be_change.specs.Entries.{entry_of}
use Rattle.be_core.proofs.InMemory.{id_next, copied_next}
use Rattle.be_core.proofs.world.copy_log.Goals as goal

pub add_change-requires : goal.add_change-requires
add_change-requires c = id_next c.args.log.now.list c.loop-place.copy.list c.loop-place.place (entry_of (arc_value c.at.result.now)) c.len-place-end.ensures.ids c.at.ensures c.loop-place.invariant

pub loop-place-preserved : goal.loop-place-preserved
loop-place-preserved c =
    copied_next c.args.log.now.list c.loop-place.copy.list c.add_change.new.log.list c.loop-place.place (entry_of (arc_value c.at.result.now)) c.at.ensures c.loop-place.invariant c.in_ok-add_change.ensures
