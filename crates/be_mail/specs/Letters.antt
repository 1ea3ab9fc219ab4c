-- Which letters may lie in a mailbox.
use Rattle.std.specs.Prelude.{◌≡◌, ℕ, ◌-◌, ◌%◌, ◌<◌, ◌==◌, true, List, map, filter}
use Rattle.be_model.specs.Schemas.{Attributes}
use Rattle.be_model.specs.Matching.{satisfies}
use Rattle.be_model.specs.Lies.{event_lies}
use Rattle.be_model.specs.Letters.{PlainLetter}

-- a letter, with the seat that put it
pub record Posting : Type 0 where
  pub from : ℕ
  pub letter : PlainLetter

abbrev pub posting : ℕ → PlainLetter → Posting
posting from letter = record { from = from; letter = letter }

-- the letter is for a session (0 is nobody's), its row is of that session, and its event lies in the schema and satisfies the row
pub record IsFit (schema : Attributes) (letter : PlainLetter) : Type 0 where
  pub somebody : 0 < letter.session
  pub session : letter.row.session.0 ≡ letter.session
  pub lies : event_lies schema letter.event ≡ true
  pub satisfies : satisfies letter.event letter.row.conj ≡ true

-- the seat that a session has, and so its mailbox
abbrev pub seat_of : ℕ → ℕ → ℕ
seat_of seats session = (session - 1) % seats

-- one of the seats put the letter, it is fit, and the mailbox is that of its session
pub record IsFor (schema : Attributes) (seats mailbox : ℕ) (x : Posting) : Type 0 where
  pub from : x.from < seats
  pub fit : IsFit schema x.letter
  pub here : seat_of seats x.letter.session ≡ mailbox

abbrev pub letter_in : Posting → PlainLetter
letter_in x = x.letter

-- the letters from a seat, in order
abbrev pub letters_from : ℕ → List Posting → List PlainLetter
letters_from seat xs = map letter_in (filter (λ (x : Posting). x.from == seat) xs)
