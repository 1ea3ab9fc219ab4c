use Rattle.std.proofs.Common.{rules}
use Rattle.be_door.proofs.Keeps.{split}
use Rattle.be_door.proofs.numbers.Numbers.split.Goals as goal

pub split_seat-seat-requires : goal.split_seat-seat-requires
split_seat-seat-requires c = (search rules, search rules, split c.self.inside.table.shared.key.0 c.self.inside.table.shared.key.1 c.home.inside.seat.id c.home.inside.seat.me.0 (search rules) (search rules) (search rules))
