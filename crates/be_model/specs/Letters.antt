-- Delivered events, as contracts see them.
use Rattle.std.specs.Prelude.{ℕ}
use Rattle.std.specs.Arc.{arc_value}
use Rattle.be_model.specs.declared.changes.Row.{Row}
use Rattle.be_model.specs.declared.letters.Letter.{Letter}
use Rattle.be_model.specs.Matching.{Assignments}

-- whom a letter is for, after how many changes the event was matched, the row that it satisfied, and the event
pub record PlainLetter : Type 0 where
  pub session : ℕ
  pub n : ℕ
  pub row : Row
  pub event : Assignments

abbrev pub plain_letter : Letter → PlainLetter
plain_letter l =
    record { session = l.session.0; n = l.n; row = arc_value l.row; event = (arc_value l.text).event }
