use Rattle.std.proofs.Common.{rules}
use Rattle.be_door.proofs.Keeps.{join}
use Rattle.be_door.proofs.numbers.Numbers.join.Goals as goal

pub join_seat-requires : goal.join_seat-requires
join_seat-requires c = (search rules, search rules, search rules, search rules, join c.self.inside.table.shared.key.0 c.self.inside.table.shared.key.1 c.home.inside.seat.id c.home.inside.seat.me.0 c.turn.inside.seat.id c.turn.inside.seat.me.0 (search rules))
