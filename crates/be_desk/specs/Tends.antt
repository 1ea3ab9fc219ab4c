-- How long the next look for a step is put off.
use Rattle.std.specs.Prelude.{◌≡◌, ℕ, zero, suc, ◌*◌, ◌≤◌, length, None}
use Rattle.be_change.specs.History.{live}
use Rattle.be_desk.specs.Desks.{DeskState}
use Rattle.be_desk.specs.Maintained.{IsTended}
use Rattle.be_desk.specs.declared.patience.TheConstants.{LOOK_ROWS, ROWS_RESHAPED, WORK_A_TEND}

-- so many tends came one after another, and nothing was due at any of them
abbrev pub AreNotDue : ℕ → DeskState → DeskState → Type 0
AreNotDue zero d d' = d' ≡ d
AreNotDue (suc n) d d' = (between : DeskState) × AreNotDue n d between × IsTended between d' None

-- where enough rows are live for a look, there are no more of them than it takes to earn one
abbrev pub TendsComeDue : Type 0
TendsComeDue =
    (n : ℕ) (d d' : DeskState) → ROWS_RESHAPED ≤ length (live d.list) → AreNotDue n d d' → n * WORK_A_TEND ≤ LOOK_ROWS
