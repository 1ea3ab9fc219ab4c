use Rattle.std.proofs.Common.{ap, ◌∙◌, rules, ◌≡◌, ◌+◌, ◌<◌, ◌≤◌, ◌++◌, [], true, length, map, All, OnOk, IfOk, ℕ, ◌-◌, ◌*◌, ◌/◌, ◌%◌, Bool, false, nat_eq, nat_lt, List, ◌∷◌, slice_index_or, slice_set, bit_and, bit_or, Fits, w8, w32, w64, Bor, MutBor}
use Rattle.std.specs.List.{list_all, range_with_len}
use Rattle.be_base.specs.declared.limits.TheConstants.{SEATS}
use Rattle.be_model.specs.Lies.{row_lies}
use Rattle.be_change.specs.Entries.{entries_in}
use Rattle.be_change.specs.History.{IsWellFormed, IsWellFormedAfter}
use Rattle.be_change.specs.Opening.{IsTable, opening_of}
use Rattle.be_mail.specs.Passes.{new_passes}
use Rattle.be_published.specs.States.{settled, new_glass}
use Rattle.be_desk.specs.Desks.{new_desk}
use Rattle.be_desk.specs.Seats.{first_seat, seat_for}
use Rattle.be_desk.proofs.Openings.{map_seats}
use Rattle.be_desk.proofs.opening.furnish.Goals as goal

pub returns-clause-seats : goal.returns-clause-seats
returns-clause-seats g c =
    c.in_ok-seats.ensures
    ∙ (ap (λ l. map (seat_for c.args.press.now.list) l) c.requires.passes ∙ map_seats c.args.press.now.list g.J.BoxNames.boxes (range_with_len 0 (length g.J.BoxNames.boxes)))
