-- A link that was served, read over a list that keeps the words of all sessions of its seat.
use Rattle.std.proofs.Common.{◌≡◌, ℕ, ◌+◌, ◌==◌, ◌≤◌, filter, false, sum_by, List, [], ◌∷◌, ◌++◌, length, map, Option, Some, None, slice_get, refl, sym, ap, ◌∙◌, subst, arith}
use Rattle.std.specs.List.{All}
use Rattle.atomic_table.specs.Seated.{TableId}
use Rattle.be_base.specs.Lists.{BeginsWith}
use Rattle.be_base.proofs.Beginnings.{BeginsWith-along}
use Rattle.be_io.specs.Lines.{TextLine}
use Rattle.be_io.specs.Outside.{LinkState}
use Rattle.be_model.specs.Letters.{PlainLetter}
use Rattle.be_model.specs.Schemas.{Attributes}
use Rattle.be_change.specs.History.{Entry, placed_of}
use Rattle.be_change.specs.Requests.{Exchange}
use Rattle.be_mail.specs.Letters.{letter_in}
use Rattle.be_board.specs.Letters.{note_of}
use Rattle.be_board.specs.State.{BoardState, CountsPuts}
use Rattle.be_board.specs.Word.{Keeps, own_of, IsDelivered}
use Rattle.be_desk.specs.Boards.{board_of}
use Rattle.be_desk.specs.Seats.{SeatState, word_of}
use Rattle.be_protocol.specs.declared.ends.SessionEnd.{SessionEnd}
use Rattle.be_protocol.specs.declared.ends.SessionEnd.TheVariants.{Eof, Quit, ReadFault, WriteFault, Spent, Split, NoMemory}
use Rattle.be_protocol.specs.Conversation.{Replied}
use Rattle.be_session.specs.Given.{GivesNoted}
use Rattle.be_session.specs.Tied.{letters_put}
use Rattle.be_session.specs.Served.{SeesWhatIsKnown, SessionEnds, session_terms}
use Rattle.be_hub.specs.Closing.{KeepsAll}
use Rattle.be_hub.specs.Links.{WentOn, SeatVisit, LinkServed}
use Rattle.be_hub.specs.Serving.{Told, told_in, AreTold, legal_terms, LinkEnds}
use Rattle.be_hub.specs.Settling.{IsUnbroken}
use Rattle.be_hub.proofs.Places.{in_front, all_from_places, at_of_all}
use Rattle.be_hub.proofs.Shuts.{Agrees, agrees}

-- what holds of a list holds of its front
all_front : {X : Type 0} (P : X → Type 0) (xs ys : List X) → BeginsWith xs ys → All P xs → All P ys
all_front P xs ys b all = all_from_places P ys (λ i x at. at_of_all P xs i x all (subst (λ l. slice_get l i ≡ Some x) (sym b.1) (in_front ys b.0 i x at)))

-- a list that keeps what a seat says of session k, now that it went on, keeps what it said when that session left
pub keeps_left : (h : List Entry) (k : ℕ) (s s' : SeatState) → s.session ≡ k → WentOn k s s' → Keeps h (record (word_of s') { session = k }) → Keeps h (word_of s)
keeps_left h k s s' is w keeps = record {
  formed = keeps.formed;
  known = BeginsWith-along h s'.glass.known s.glass.known keeps.known w.known;
  own = ap (λ m. placed_of m h) is ∙ (keeps.own ∙ (w.own ∙ ap (λ m. own_of m s.own) (sym is)));
  notes = all_front (IsDelivered h) (map letter_in s'.passes.taken) (map letter_in s.passes.taken) w.notes keeps.notes;
}

-- what the replies of a session tell
abbrev pub telling : (P : Type 0) (s : Attributes) (before after : LinkState) (b b' : BoardState) (end : SessionEnd) → SessionEnds P s before after b b' end → Told
telling P s before after b b' Eof e = told_in e.replied.exchanges
telling P s before after b b' Quit e = told_in e.replied.exchanges
telling P s before after b b' ReadFault e = told_in e.1.replied.exchanges
telling P s before after b b' Spent e = told_in e.2.replied.exchanges
telling P s before after b b' WriteFault e = told_in (e.1.replied.exchanges ++ e.1.replied.last ∷ [])
telling P s before after b b' (Split i j) e = told_in []
telling P s before after b b' NoMemory e = told_in []

-- whether one says that a reader was refused agrees with the board's count
agrees_by : (P : Type 0) (s : Attributes) (before after : LinkState) (b b' : BoardState) (end : SessionEnd) (e : SessionEnds P s before after b b' end) → IsUnbroken end
    → Agrees (telling P s before after b b' end e).shut b.counts.shuts b'.counts.shuts
agrees_by P s before after b b' Eof e u = agrees e.replied.exchanges b.counts.shuts b'.counts.shuts e.replied.legal.tied.shuts
agrees_by P s before after b b' Quit e u = agrees e.replied.exchanges b.counts.shuts b'.counts.shuts e.replied.legal.tied.shuts
agrees_by P s before after b b' ReadFault e u = agrees e.1.replied.exchanges b.counts.shuts b'.counts.shuts e.1.replied.legal.tied.shuts
agrees_by P s before after b b' Spent e u = agrees e.2.replied.exchanges b.counts.shuts b'.counts.shuts e.2.replied.legal.tied.shuts
agrees_by P s before after b b' WriteFault e u = agrees (e.1.replied.exchanges ++ e.1.replied.last ∷ []) b.counts.shuts b'.counts.shuts e.1.replied.legal.tied.shuts
agrees_by P s before after b b' (Split i j) e u = absurd u
agrees_by P s before after b b' NoMemory e u = absurd u

-- what was told of letters is what a board that tells no box has taken and counted
pub record TellsLetters (t : Told) (b b' : BoardState) : Type 0 where
  pub taken : List PlainLetter
  pub notes : b'.word.notes ≡ b.word.notes ++ taken
  pub given : t.given ≡ map note_of (filter (λ (l : PlainLetter). l.session == b.word.session) taken)
  pub put : b'.counts.puts ≡ b.counts.puts + t.put

tells_by : (ps : List Exchange) (b b' : BoardState) → GivesNoted b.word b'.word ps → CountsPuts None (sum_by letters_put ps) b.counts b'.counts → TellsLetters (told_in ps) b b'
tells_by ps b b' g put = record { taken = g.0; notes = g.1; given = g.2; put = put }

module _ (P : Type 0) (s : Attributes) (before after : LinkState) (asked asked' : ℕ) (entered left : SeatState) where
  tells_letters : (end : SessionEnd) (e : SessionEnds P s before after (board_of 1 s asked entered) (board_of 1 s asked' left) end) → IsUnbroken end
      → TellsLetters (telling P s before after (board_of 1 s asked entered) (board_of 1 s asked' left) end e) (board_of 1 s asked entered) (board_of 1 s asked' left)
  tells_letters Eof e u = tells_by e.replied.exchanges (board_of 1 s asked entered) (board_of 1 s asked' left) e.replied.legal.letters.1 e.replied.legal.puts
  tells_letters Quit e u = tells_by e.replied.exchanges (board_of 1 s asked entered) (board_of 1 s asked' left) e.replied.legal.letters.1 e.replied.legal.puts
  tells_letters ReadFault e u = tells_by e.1.replied.exchanges (board_of 1 s asked entered) (board_of 1 s asked' left) e.1.replied.legal.letters.1 e.1.replied.legal.puts
  tells_letters Spent e u = tells_by e.2.replied.exchanges (board_of 1 s asked entered) (board_of 1 s asked' left) e.2.replied.legal.letters.1 e.2.replied.legal.puts
  tells_letters WriteFault e u = tells_by (e.1.replied.exchanges ++ e.1.replied.last ∷ []) (board_of 1 s asked entered) (board_of 1 s asked' left) e.1.replied.legal.letters.1 e.1.replied.legal.puts
  tells_letters (Split i j) e u = absurd u
  tells_letters NoMemory e u = absurd u

-- a session whose word the list keeps ended so over it
module _ (P : Type 0) (s : Attributes) (h : List Entry) (before after : LinkState) (b b' : BoardState) (keeps : Keeps h b'.word) where
  -- what such exchanges mean over it, told of all that the board knew
  are_told : (lines : List TextLine) (ps : List Exchange) → SeesWhatIsKnown s lines ps b b' → AreTold s b.word.session (length b.word.known) (length b'.word.known) h (told_in ps) lines ps
  are_told lines ps seen = let e = seen h keeps in (e.0, e.1, refl)

  replied : (lines : List TextLine) (end : Option SessionEnd) → (r : Replied (session_terms s b b') lines end before.sink after.sink)
      → Replied (legal_terms s b.word.session (length b.word.known) (length b'.word.known) h (told_in r.exchanges)) lines end before.sink after.sink
  replied lines end r = record {
    exchanges = r.exchanges;
    asked = r.asked;
    written = r.written;
    ends = r.ends;
    legal = are_told lines r.exchanges r.legal.seen;
  }

  legal_by : (end : SessionEnd) (e : SessionEnds P s before after b b' end) → IsUnbroken end
      → LinkEnds (legal_terms s b.word.session (length b.word.known) (length b'.word.known) h (telling P s before after b b' end e)) before after end
  legal_by Eof e u = record { lines = e.lines; read = e.read; reads = e.reads; writes = e.writes; replied = replied e.lines None e.replied }
  legal_by Quit e u = record { lines = e.lines; read = e.read; reads = e.reads; writes = e.writes; replied = replied e.lines (Some Quit) e.replied }
  legal_by ReadFault e u = (e.0, record { lines = e.1.lines; read = e.1.read; writes = e.1.writes; replied = replied e.1.lines None e.1.replied })
  legal_by Spent e u = (e.0, e.1, record { lines = e.2.lines; read = e.2.read; writes = e.2.writes; replied = replied e.2.lines None e.2.replied })
  legal_by WriteFault e u =
      let r = e.1.replied in (
        e.0,
        record {
          lines = e.1.lines;
          read = e.1.read;
          reads = e.1.reads;
          once = e.1.once;
          replied = record { exchanges = r.exchanges; last = r.last; asked = r.asked; out = r.out; written = r.written; broke = r.broke; ends = r.ends; legal = are_told e.1.lines (r.exchanges ++ r.last ∷ []) r.legal.seen };
        },
      )
  legal_by (Split i j) e u = absurd u
  legal_by NoMemory e u = absurd u

module _ (s : Attributes) (boxes : List TableId) (k : ℕ) (first last : SeatState) (visit : SeatVisit) (o : LinkServed s boxes k first last visit) where
  -- what the replies to the link tell
  abbrev pub told_at : Told
  told_at =
      telling ((visit.link ≡ o.unused) × (visit.left ≡ visit.entered) × (visit.asked_after ≡ visit.asked_before)) s o.unused visit.link (board_of 1 s visit.asked_before visit.entered) (board_of 1 s visit.asked_after visit.left) visit.end o.served.session

  pub shut_agrees : IsUnbroken visit.end → Agrees told_at.shut visit.entered.glass.shuts visit.left.glass.shuts
  shut_agrees unbroken =
      agrees_by ((visit.link ≡ o.unused) × (visit.left ≡ visit.entered) × (visit.asked_after ≡ visit.asked_before)) s o.unused visit.link (board_of 1 s visit.asked_before visit.entered) (board_of 1 s visit.asked_after visit.left) visit.end o.served.session unbroken

  pub tells_at : IsUnbroken visit.end → TellsLetters told_at (board_of 1 s visit.asked_before visit.entered) (board_of 1 s visit.asked_after visit.left)
  tells_at unbroken =
      tells_letters ((visit.link ≡ o.unused) × (visit.left ≡ visit.entered) × (visit.asked_after ≡ visit.asked_before)) s o.unused visit.link visit.asked_before visit.asked_after visit.entered visit.left visit.end o.served.session unbroken

  -- none of them says that a reader was refused where the seat counted none to its end
  pub none_shut : IsUnbroken visit.end → last.glass.shuts ≡ 0 → told_at.shut ≡ false
  none_shut unbroken is = (shut_agrees unbroken).quiet (omega (arith, is, o.went_on.shuts))

module _ (s : Attributes) (boxes : List TableId) (h : List Entry) (k : ℕ) (first last : SeatState) (visit : SeatVisit) (o : LinkServed s boxes k first last visit) (keeps : KeepsAll boxes h last) where
  left_is : visit.left.session ≡ k
  left_is = o.served.board.goes.session ∙ o.session_is

  kept : Keeps h (word_of visit.left)
  kept = keeps_left h k visit.left last left_is o.went_on (keeps k o.somebody o.seat_is)

  pub legal_link : IsUnbroken visit.end → LinkEnds (legal_terms s visit.entered.session (length visit.entered.glass.known) (length visit.left.glass.known) h (told_at s boxes k first last visit o)) o.unused visit.link visit.end
  legal_link unbroken =
      legal_by ((visit.link ≡ o.unused) × (visit.left ≡ visit.entered) × (visit.asked_after ≡ visit.asked_before)) s h o.unused visit.link (board_of 1 s visit.asked_before visit.entered) (board_of 1 s visit.asked_after visit.left) kept visit.end o.served.session unbroken
