-- The letters that a session was given, and where they came from.
use Rattle.std.specs.Prelude.{◌≡◌, ℕ, ◌-◌, ◌==◌, List, [], ◌∷◌, ◌++◌, length, map, filter, take, Option, Some, None}
use Rattle.std.specs.List.{flat_map}
use Rattle.be_base.specs.Lists.{BeginsWith}
use Rattle.be_model.specs.Letters.{PlainLetter}
use Rattle.be_model.specs.Schemas.{Attributes}
use Rattle.be_change.specs.Box.{KeepsBox}
use Rattle.be_change.specs.History.{Entry}
use Rattle.be_change.specs.Requests.{Note, Reply, notes, Exchange}
use Rattle.be_protocol.specs.Replies.{note_line, with_lf}
use Rattle.be_protocol.specs.Transcript.{texts}
use Rattle.be_board.specs.Letters.{note_of}
use Rattle.be_board.specs.State.{BoardState}
use Rattle.be_board.specs.Word.{Word}
use Rattle.be_session.specs.Bearing.{Bears}

abbrev pub letters_of : Reply → List Note
letters_of (notes letters) = letters
letters_of _ = []

-- the letters that the replies give, in order
abbrev pub letters_given : List Exchange → List Note
letters_given ps = flat_map (λ (p : Exchange). letters_of p.1) ps

-- of the letters that were taken out of a shared mailbox, those for the session, in order, are the letters that it was given
abbrev pub GivesNoted : Word → Word → List Exchange → Type 0
GivesNoted w w' ps =
    (taken : List PlainLetter) × (w'.notes ≡ w.notes ++ taken)
    × (letters_given ps ≡ map note_of (filter (λ (l : PlainLetter). l.session == w.session) taken))

-- the replies keep the box of a board that tells it, over each list that bears its word out
abbrev pub KeepsTold : List Note → BoardState → List Exchange → List Note → Type 0
KeepsTold box b' ps box' = (h : List Entry) → Bears h b'.word → KeepsBox h ps box box'

-- where the letters came from: a mailbox that isn't told, or this box
abbrev pub GivesLetters : Option (List Note) → List Exchange → BoardState → BoardState → Type 0
GivesLetters None ps b b' = (b'.box ≡ None) × GivesNoted b.word b'.word ps
GivesLetters (Some box) ps b b' =
    (b'.word.notes ≡ b.word.notes) × (box' : List Note) × (b'.box ≡ Some box') × KeepsTold box b' ps box'

-- of the letters of a last reply at which the output broke off these were taken, and all of them but one were written whole
pub record TakenInPart (s : Attributes) (ps : List Exchange) (last : Reply) (out : List ℕ) (left : List Note) : Type 0 where
  pub taken : List Note
  pub letters : letters_of last ≡ taken ++ left
  pub given : BeginsWith out (texts s ps ++ flat_map (λ (l : Note). with_lf (note_line s l)) (take (length taken - 1) taken))

-- where the letters came from, where the output broke off at the last reply. Letters that it would have given still lie in the box
abbrev pub GivesInPart : Option (List Note) → Attributes → List Exchange → Exchange → List ℕ → BoardState → BoardState → Type 0
GivesInPart None s ps last out b b' =
    (b'.box ≡ None) × GivesNoted b.word b'.word (ps ++ last ∷ []) × TakenInPart s ps last.1 out []
GivesInPart (Some box) s ps last out b b' =
    (b'.word.notes ≡ b.word.notes) × (left rest : List Note) × (b'.box ≡ Some (left ++ rest))
    × KeepsTold box b' (ps ++ last ∷ []) rest × TakenInPart s ps last.1 out left
