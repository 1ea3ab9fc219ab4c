use Rattle.std.proofs.Common.{◌≡◌, Some, slice_get, rules}
use Rattle.be_model.specs.Entries.{entry_of}
use Rattle.be_model.specs.Lies.{entry_lies}
use Rattle.be_server.proofs.DrillEnds.{stands_in, log_more}
use Rattle.be_server.proofs.output.text_of_log.Goals as goal

pub append_change-requires : goal.append_change-requires
append_change-requires c =
    let at : slice_get c.args.log.now.list c.loop-place.place ≡ Some (entry_of c.deref.result.now) = search rules in
    stands_in (entry_lies c.args.schema.now) c.args.log.now.list c.loop-place.place (entry_of c.deref.result.now) c.requires at

pub loop-place-preserved : goal.loop-place-preserved
loop-place-preserved c =
    let at : slice_get c.args.log.now.list c.loop-place.place ≡ Some (entry_of c.deref.result.now) = search rules in
    log_more c.args.schema.now c.args.log.now.list c.loop-place.place (entry_of c.deref.result.now) c.loop-place.text.items c.extend_from_slice-in-loop-place.new.self.items _ at c.loop-place.invariant (search rules)
