use Rattle.std.proofs.Common.{arith, sym, ap, refl, subst, ◌∙◌, rules, ◌≡◌, [], length, map, slice_get, Some, All, ℕ, ◌+◌, ◌-◌, ◌*◌, ◌<◌, ◌≤◌, ◌/◌, ◌%◌, Bool, true, false, nat_eq, nat_lt, List, ◌∷◌, ◌++◌, slice_index_or, slice_set, bit_and, bit_or, Fits, w8, w32, w64, Bor, MutBor}
use Rattle.std.specs.Arc.{arc_value}
use Rattle.std.specs.List.{range_with_len}
use Rattle.std.proofs.lemmas.List.Elements.{All-map}
use Rattle.std.proofs.lemmas.List.FromFn.{length-map-range_with_len, length-range_with_len, get_or-range_with_len}
use Rattle.be_board.specs.Word.{own_in}
use Rattle.be_desk.specs.Seats.{word_of, first_seat}
use Rattle.be_mail.specs.Mailbox.{ForEachState}
use Rattle.be_mail.specs.Passes.{new_passes}
use Rattle.be_hub.specs.Links.{MayStart}
use Rattle.be_hub.proofs.Ends.{at_its_place}
use Rattle.be_hub.proofs.Pairs.{get_map}
use Rattle.worked_hub.proofs.hubs.begun.Goals as goal

pub served_by-requires-clause-count : goal.served_by-requires-clause-count
served_by-requires-clause-count g c κs within =
    ap (λ l. length l) c.in-Ok.ensures.seats ∙ (length-map-range_with_len (first_seat [] g.J.BoxNames.boxes) 0 c.len-seats.result ∙ (c.len-seats.ensures ∙ c.args.script.files.ok.0))

pub served_by-requires-clause-first : goal.served_by-requires-clause-first
served_by-requires-clause-first g c κs within =
    subst (All (λ seat. own_in (word_of seat) ≡ [])) (sym c.in-Ok.ensures.seats) (All-map (λ seat. own_in (word_of seat) ≡ []) (first_seat [] g.J.BoxNames.boxes) (range_with_len 0 c.len-seats.result) (λ k d lt. refl))

pub served_by-requires-clause-places : goal.served_by-requires-clause-places
served_by-requires-clause-places g c κs within i seat e =
    let first = first_seat [] g.J.BoxNames.boxes in
    let x = get_map first (range_with_len 0 c.len-seats.result) i seat (subst (λ l. slice_get l i ≡ Some seat) c.in-Ok.ensures.seats e) in
    ap (λ s. s.passes.seat) (sym x.2) ∙ at_its_place c.len-seats.result i x.0 x.1

pub tended-requires-clause-count : goal.tended-requires-clause-count
tended-requires-clause-count g c κs within =
    let is = ap (λ l. length l) c.in-Ok.ensures.seats ∙ (length-map-range_with_len (first_seat [] g.J.BoxNames.boxes) 0 c.len-seats.result ∙ (c.len-seats.ensures ∙ c.args.script.files.ok.0)) in
    (omega (arith, is, c.args.script.some.0), omega (arith, is, c.args.script.some.1))

pub tended-requires-clause-start : goal.tended-requires-clause-start
tended-requires-clause-start g c κs within =
    let n = c.len-seats.result in
    let few = c.len-seats.ensures ∙ c.args.script.files.ok.0 in
    subst (All MayStart) (sym c.in-Ok.ensures.seats) (All-map MayStart (first_seat [] g.J.BoxNames.boxes) (range_with_len 0 n) (λ k d lt.
    (refl, omega (arith, lt, length-range_with_len 0 n, get_or-range_with_len 0 n k d (omega (arith, lt, length-range_with_len 0 n)), few, c.args.script.some.1))))
