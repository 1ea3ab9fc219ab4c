use Rattle.std.proofs.Common.{◌≡◌, ◌≤◌, ◌-◌, ◌++◌, true, not, length, take}
use Rattle.std.specs.List.{filter, list_all}
use Rattle.be_model.specs.Lies.{row_lies}
use Rattle.be_shape.specs.Children.{may_pass}
use Rattle.be_insert.proofs.leaves.move_rows.Given as goal

-- the rows before the place stay, and what was moved and may pass still is all that may pass
abbrev pub invariant-loop-place : goal.invariant-loop-place
invariant-loop-place l =
    record {
      within : l.place ≤ length l.from;
      lie : list_all (row_lies l.s) l.from ≡ true;
      before : list_all (λ row. not (may_pass l.s l.hop l.range row)) (take l.place l.from) ≡ true;
      moved : l.to ++ filter (may_pass l.s l.hop l.range) l.from ≡ filter (may_pass l.s l.hop l.range) l.initial.from;
      left : filter (λ row. not (may_pass l.s l.hop l.range row)) l.from ≡ filter (λ row. not (may_pass l.s l.hop l.range row)) l.initial.from;
    }

abbrev pub decreases-loop-place : goal.decreases-loop-place
decreases-loop-place l = length l.from - l.place
