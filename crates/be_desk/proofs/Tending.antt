-- Tends at which nothing is due earn, and what is earned is below the cost of a look.
use Rattle.std.proofs.Common.{◌≡◌, ℕ, zero, suc, ◌+◌, ◌*◌, ◌<◌, ◌≤◌, ◌⊎◌, inl, inr, List, length, min, refl, sym, ap, ◌∙◌, arith}
use Rattle.be_base.specs.Counts.{raised}
use Rattle.be_change.specs.History.{Entry, live}
use Rattle.be_desk.specs.Desks.{DeskState}
use Rattle.be_desk.specs.Tends.{AreNotDue, TendsComeDue}
use Rattle.be_desk.specs.declared.patience.TheConstants.{LOOK_ROWS, ROWS_RESHAPED}

earned_more : (n p p' : ℕ) → n * 4 ≤ p → p' ≡ raised 4 p → p' < LOOK_ROWS → (suc n * 4 ≤ p') × (suc n * 4 ≤ LOOK_ROWS)
earned_more n p p' enough is below = (omega (arith, enough, is, below), omega (arith, enough, is, below))

-- where enough rows are live, a look is put off for want of what was earned
not_earned : (p rows : ℕ) → ROWS_RESHAPED ≤ rows → (rows < ROWS_RESHAPED) ⊎ (p < LOOK_ROWS) → p < LOOK_ROWS
not_earned p rows many (inl few) = omega (arith, many, few)
not_earned p rows many (inr below) = below

earned : (n : ℕ) (d d' : DeskState) → ROWS_RESHAPED ≤ length (live d.list) → AreNotDue n d d' → (d'.list ≡ d.list) × (n * 4 ≤ d'.patience) × (n * 4 ≤ LOOK_ROWS)
earned zero d d' many is = (ap (λ x. x.list) is, omega arith, omega arith)
earned (suc n) d d' many (m, before, tended) =
    let so_far = earned n d m many before in
    let same : d'.list ≡ d.list = ap (λ x. x.list) tended.1 ∙ so_far.0 in
    let rows : length (live d'.list) ≡ length (live d.list) = ap (λ (h : List Entry). length (live h)) same in
    let below = not_earned d'.patience (length (live d'.list)) (omega (arith, rows, many)) tended.2 in
    let more = earned_more n m.patience d'.patience so_far.1 (ap (λ x. x.patience) tended.1) below in
    (same, more.0, more.1)

pub tends_come_due : TendsComeDue
tends_come_due n d d' many are = (earned n d d' many are).2
