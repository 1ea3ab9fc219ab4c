-- What the list keeps of all seats, once they agree with it.
use Rattle.std.proofs.Common.{◌≡◌, Bool, true, List, map, get_or, subst, arith}
use Rattle.std.specs.Prelude.{if◌then◌else◌, Any, Option, None, MatchOption}
use Rattle.std.specs.List.{All}
use Rattle.std.proofs.lemmas.List.{get_or-map, length-map}
use Rattle.std.proofs.lemmas.List.Elements.{All-map, All-weaker}
use Rattle.atomic_table.specs.Seated.{TableId}
use Rattle.be_base.specs.Lists.{BeginsWith}
use Rattle.be_base.proofs.Beginnings.{BeginsWith-along}
use Rattle.be_model.specs.Letters.{PlainLetter}
use Rattle.be_change.specs.History.{Entry, IsWellFormed}
use Rattle.be_mail.specs.Letters.{Posting, letter_in}
use Rattle.be_mail.specs.Passes.{Passes, AllPut}
use Rattle.be_mail.specs.Settled.{TakenWerePut}
use Rattle.be_mail.proofs.AllPut.{taken_are_such}
use Rattle.be_board.specs.Word.{IsDelivered}
use Rattle.be_board.proofs.Delivered.{delivered_along}
use Rattle.be_desk.specs.Seats.{SeatState, IsKeptSeat}
use Rattle.be_desk.specs.Closing.{AreKept}
use Rattle.be_hub.specs.Closing.{KeepsAll, IsShown}

pub was_pushed : {X : Type 0} (b : Bool) (now more less : List X) → b ≡ true → now ≡ if b then more else less → now ≡ more
was_pushed {X} b now more less ok is = subst (λ (c : Bool). now ≡ if c then more else less) ok is

abbrev passes_in : SeatState → Passes
passes_in s = s.passes

-- each letter that a seat put tells of a row that is live in each list that begins with what the seat knows
pub letters_stand : (boxes : List TableId) (h : List Entry) (s : SeatState) → BeginsWith h s.glass.known → IsKeptSeat boxes s → AllPut (IsDelivered h) s.passes
letters_stand boxes h s more kept =
    All-weaker (λ (letters : List PlainLetter). All (IsDelivered s.glass.known) letters) (λ (letters : List PlainLetter). All (IsDelivered h) letters)
    (λ letters each. All-weaker (IsDelivered s.glass.known) (IsDelivered h) (λ l d. delivered_along s.glass.known h l more d) letters each) s.passes.puts kept.delivered

pub keeps_all : (boxes : List TableId) (h published : List Entry) (seats : List SeatState) → IsWellFormed h → BeginsWith h published → All (IsShown boxes published) seats → AreKept boxes h seats
    → TakenWerePut (map (λ (s : SeatState). s.passes) seats) → All (KeepsAll boxes h) seats
keeps_all boxes h published seats formed begins shown kept were_put i d within k some of =
    let s : SeatState = get_or seats i d in
    let qs : List Passes = map passes_in seats in
    let Told : Posting → Type 0 = λ x. Any (λ (p : Passes). (p.seat ≡ x.from) × IsDelivered h x.letter) qs in
    let puts : All (λ (q : Passes). AllPut (IsDelivered h) q) qs =
    All-map (λ (q : Passes). AllPut (IsDelivered h) q) passes_in seats (λ j e less. letters_stand boxes h (get_or seats j e) (BeginsWith-along h published (get_or seats j e).glass.known begins (shown j e less).known) (shown j e less).kept) in
    let taken : All Told s.passes.taken =
    subst (λ (q : Passes). All Told q.taken) (get_or-map passes_in seats i d d.passes within)
    (taken_are_such (λ (q : Passes) (l : PlainLetter). IsDelivered h l) qs puts were_put i d.passes (omega (arith, within, length-map seats passes_in))) in
    record {
      formed = formed;
      known = BeginsWith-along h published s.glass.known begins (shown i d within).known;
      own = kept.records i d within k some of;
      notes = All-map (IsDelivered h) letter_in s.passes.taken (All-weaker Told (λ (x : Posting). IsDelivered h x.letter) (λ x any. any.4.1) s.passes.taken taken);
    }

pub none_said : {X : Type 0} (o : Option X) (A : Type 0) (B : X → Type 0) → o ≡ None → MatchOption o A B → A
none_said {X} o A B is said = subst (λ (p : Option X). MatchOption p A B) is said
