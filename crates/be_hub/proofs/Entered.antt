-- What stays of a seat between two of its sessions.
use Rattle.std.proofs.Common.{◌≡◌, ℕ, ◌+◌, ◌≤◌, inl, inr, List, ◌++◌, map, ap, ◌∙◌, arith}
use Rattle.std.proofs.lemmas.List.{map-append}
use Rattle.be_base.specs.Lists.{BeginsWith}
use Rattle.be_model.specs.Schemas.{Attributes}
use Rattle.be_mail.specs.Letters.{Posting, letter_in}
use Rattle.be_mail.specs.Passes.{Passes}
use Rattle.be_desk.specs.Boards.{put_count}
use Rattle.be_desk.specs.Emptied.{TakesAll}
use Rattle.be_desk.specs.Seats.{SeatState}
use Rattle.be_hub.specs.Links.{EntersNext}

-- what an emptying leaves of the passes
record LeavesPasses (q : Passes) (letters : List Posting) (q' : Passes) : Type 0 where
  pub seat : q'.seat ≡ q.seat
  pub taken : q'.taken ≡ q.taken ++ letters
  pub fulls : q'.fulls ≡ q.fulls
  pub puts : q'.puts ≡ q.puts

leaves_passes : (q : Passes) (letters : List Posting) (q' : Passes) → TakesAll q letters q' → LeavesPasses q letters q'
leaves_passes q letters q' (inl t) = record {
  seat = ap (λ (p : Passes). p.seat) t.1;
  taken = ap (λ (p : Passes). p.taken) t.1;
  fulls = ap (λ (p : Passes). p.fulls) t.1;
  puts = ap (λ (p : Passes). p.puts) t.1;
}
leaves_passes q letters q' (inr t) = record {
  seat = ap (λ (p : Passes). p.seat) t.1;
  taken = ap (λ (p : Passes). p.taken) t.1;
  fulls = ap (λ (p : Passes). p.fulls) t.1;
  puts = ap (λ (p : Passes). p.puts) t.1;
}

module _ (s : Attributes) (seats : ℕ) (left entered : SeatState) (n : EntersNext s seats left entered) where
  leaves : LeavesPasses left.passes n.box.letters n.emptied.passes
  leaves = leaves_passes left.passes n.box.letters n.emptied.passes n.box.takes

  passes_are : entered.passes ≡ n.emptied.passes
  passes_are = ap (λ (x : SeatState). x.passes) n.next

  pub number_is : entered.session ≡ left.session + seats
  number_is = ap (λ (x : SeatState). x.session) n.next ∙ ap (λ (x : SeatState). x.session + seats) n.box.seat

  pub own_same : entered.own ≡ left.own
  own_same = ap (λ (x : SeatState). x.own) n.next ∙ ap (λ (x : SeatState). x.own) n.box.seat

  pub glass_same : entered.glass ≡ left.glass
  glass_same = ap (λ (x : SeatState). x.glass) n.next ∙ ap (λ (x : SeatState). x.glass) n.box.seat

  pub splits_same : entered.splits ≡ left.splits
  splits_same = ap (λ (x : SeatState). x.splits) n.next ∙ ap (λ (x : SeatState). x.splits) n.box.seat

  pub place_same : entered.passes.seat ≡ left.passes.seat
  place_same = ap (λ (q : Passes). q.seat) passes_are ∙ leaves.seat

  pub fulls_same : entered.passes.fulls ≡ left.passes.fulls
  fulls_same = ap (λ (q : Passes). q.fulls) passes_are ∙ leaves.fulls

  pub puts_same : put_count entered.passes ≡ put_count left.passes
  puts_same = ap (λ (q : Passes). put_count q) passes_are ∙ ap (λ ps. put_count (record left.passes { puts = ps })) leaves.puts

  pub empties_grow : left.passes.empties ≤ entered.passes.empties
  empties_grow = omega (arith, ap (λ (q : Passes). q.empties) passes_are, n.box.empties)

  pub notes_grow : BeginsWith (map letter_in entered.passes.taken) (map letter_in left.passes.taken)
  notes_grow = (
    map letter_in n.box.letters,
    ap (λ (q : Passes). map letter_in q.taken) passes_are ∙ (ap (map letter_in) leaves.taken ∙ map-append letter_in left.passes.taken n.box.letters),
  )
