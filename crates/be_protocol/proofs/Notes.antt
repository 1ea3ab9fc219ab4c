-- The line of a letter, in the pieces in which it is sent.
use Rattle.std.proofs.Common.{◌≡◌, ℕ, [], ◌∷◌, ◌++◌, Result, Ok, Err, ap, append_assoc, subst, codes}
use Rattle.be_base.specs.Text.{Text}
use Rattle.be_change.specs.Requests.{note}
use Rattle.be_event.specs.Writing.{event_text}
use Rattle.be_io.specs.Sink.{SinkState, Wrote}
use Rattle.be_io.specs.declared.faults.SinkFault.{SinkFault}
use Rattle.be_io.proofs.WroteLemmas.{Wrote-append, Wrote-cut, Wrote-cut_behind}
use Rattle.be_model.specs.Matching.{Assignments}
use Rattle.be_model.specs.Schemas.{Attributes}
use Rattle.be_protocol.specs.Replies.{part, number, note_line, with_lf}

-- what stands before the event
abbrev pub head : ℕ → Text → Text
head n name = ((codes "NOTE" ++ number n) ++ part name) ++ 32 ∷ []

note_pieces : (s : Attributes) (n : ℕ) (name : Text) (e : Assignments) → (head n name ++ event_text s e) ++ 10 ∷ [] ≡ with_lf (note_line s (note n name e))
note_pieces s n name e = ap with_lf (append_assoc ((codes "NOTE" ++ number n) ++ part name) (32 ∷ []) (event_text s e))

pub head_refused : (s : Attributes) (n : ℕ) (name : Text) (e : Assignments) (before after : SinkState) (fault : SinkFault)
    → Wrote before after (head n name) (Err fault) → Wrote before after (with_lf (note_line s (note n name e))) (Err fault)
head_refused s n name e before after fault w =
    subst (λ (t : Text). Wrote before after t (Err fault)) (note_pieces s n name e)
    (Wrote-cut before after (head n name ++ event_text s e) (10 ∷ []) fault (Wrote-cut before after (head n name) (event_text s e) fault w))

pub event_refused : (s : Attributes) (n : ℕ) (name : Text) (e : Assignments) (before middle after : SinkState) (fault : SinkFault)
    → Wrote before middle (head n name) (Ok tt) → Wrote middle after (event_text s e) (Err fault) → Wrote before after (with_lf (note_line s (note n name e))) (Err fault)
event_refused s n name e before middle after fault first second =
    subst (λ (t : Text). Wrote before after t (Err fault)) (note_pieces s n name e)
    (Wrote-cut_behind before middle after (head n name) (event_text s e) (10 ∷ []) fault first second)

pub note_wrote : (s : Attributes) (n : ℕ) (name : Text) (e : Assignments) (before middle last after : SinkState) (result : Result (Unit {0}) SinkFault)
    → Wrote before middle (head n name) (Ok tt) → Wrote middle last (event_text s e) (Ok tt) → Wrote last after (10 ∷ []) result
    → Wrote before after (with_lf (note_line s (note n name e))) result
note_wrote s n name e before middle last after result first second third =
    subst (λ (t : Text). Wrote before after t result) (note_pieces s n name e)
    (Wrote-append before last after (head n name ++ event_text s e) (10 ∷ []) result
    (Wrote-append before middle last (head n name) (event_text s e) (Ok tt) first second) third)
