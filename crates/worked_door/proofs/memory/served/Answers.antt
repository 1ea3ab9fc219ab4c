-- A peer that nobody has used is a link that nobody has used.
use Rattle.std.proofs.Common.{Some, ap, refl}
use Rattle.worked_door.proofs.memory.served.Goals as goal

pub make-requires-clause-unused : goal.make-requires-clause-unused
make-requires-clause-unused g c k d less =
    let fresh = c.in_ok-peers.ensures k d less in
    record {
      no_read_failed = fresh.no_read_failed;
      none_taken = fresh.none_taken;
      all_left = ap Some fresh.all_left;
      no_write_failed = fresh.no_write_failed;
      none_refused = fresh.none_refused;
      none_held = fresh.none_held;
      none_kept_back = refl;
    }
