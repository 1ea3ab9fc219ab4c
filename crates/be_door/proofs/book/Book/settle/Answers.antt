-- A door whose counts are settled has numbers, and the room was made.
use Rattle.std.proofs.Common.{◌≡◌, ◌≤◌, ◌∙◌, zero, false, [], length, sum_by, sym, ap, subst, arith}
use Rattle.std.specs.Prelude.{None}
use Rattle.std.proofs.lemmas.List.Concat.{length-flat_map}
use Rattle.be_door.specs.Counts.{new_count}
use Rattle.be_door.specs.Door.{table_of}
use Rattle.be_door.proofs.book.Book.settle.Goals as goal

pub unreachable-requires : goal.unreachable-requires
unreachable-requires g c =
    let none : c.self.inside.numbers ≡ None = sym c.take.ensures.value ∙ c.in_default.is in
    let shut : c.args.self.now.«open» ≡ None = sym (ap (λ d. d.«open») c.self.view_is) ∙ ap table_of none in
    let first = c.requires.each_is_of zero (new_count (record { words = 0; slots = 0; views_name = 0; atom = 0; block = 0; offset = 0; slot_names = [] }) 0 false) (omega (arith, c.requires.some, c.requires.as_many)) in
    absurd (cc)

pub gather-requires-clause-room : goal.gather-requires-clause-room
gather-requires-clause-room g c =
    let counted = c.count_kept.ensures ∙ ap (λ cs. sum_by (λ c. length c.kept) cs) c.deref.ensures.value ∙ sym (length-flat_map (λ c. c.kept) c.args.counts.items) in
    subst (λ n. n ≤ c.reserve.new.self.spare) counted c.in_ok-reserve.ensures.room
