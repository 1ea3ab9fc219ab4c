use Rattle.std.proofs.Common.{sym, ap, subst, rules, ◌≡◌, ◌+◌, ◌<◌, ◌≤◌, ◌++◌, [], true, length, map, All, OnOk, IfOk, ℕ, ◌-◌, ◌*◌, ◌/◌, ◌%◌, Bool, false, nat_eq, nat_lt, List, ◌∷◌, slice_index_or, slice_set, bit_and, bit_or, Fits, w8, w32, w64, Bor, MutBor}
use Rattle.std.specs.List.{list_all, range_with_len}
use Rattle.be_base.specs.declared.limits.TheConstants.{SEATS}
use Rattle.be_model.specs.Lies.{row_lies}
use Rattle.be_change.specs.Entries.{entries_in}
use Rattle.be_change.specs.History.{IsWellFormed, IsWellFormedAfter}
use Rattle.be_change.specs.Opening.{IsTable, opening_of}
use Rattle.be_mail.specs.Passes.{new_passes}
use Rattle.be_published.specs.States.{settled, new_glass}
use Rattle.be_desk.specs.Desks.{new_desk, IsOpened}
use Rattle.be_desk.specs.Seats.{first_seat, seat_for}
use Rattle.be_desk.proofs.Openings.{held_settled, opened_same}
use Rattle.be_desk.proofs.opening.open_desk.Goals as goal

pub furnish-requires-clause-glasses : goal.furnish-requires-clause-glasses
furnish-requires-clause-glasses g c =
    subst (λ h. All (λ glass. glass ≡ new_glass h) c.in_ok-press.glasses.items) (sym (ap (λ p. p.list) c.in_ok-press.ensures.press)) c.in_ok-press.ensures.glasses

pub invariant_of-desk : goal.invariant_of-desk
invariant_of-desk g c = (
  c.in-Ok.ensures.ledger,
  held_settled c.in_ok-press.press _ [] c.in_ok-press.ensures.press,
  sym c.requires.seats.2,
  c.requires.seats.0,
  subst (λ h. IsOpened h c.in_ok-press.press.list) (sym c.requires.named.1) (subst (IsOpened _) (sym (ap (λ p. p.list) c.in_ok-press.ensures.press)) (opened_same _)),
)
