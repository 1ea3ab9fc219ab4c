-- What the workers leave, read over the list that the close gives.
use Rattle.std.proofs.Common.{◌≡◌, ℕ, ◌<◌, ◌≤◌, inl, inr, Bool, true, false, not, List, [], ◌∷◌, ◌++◌, length, map, Option, Some, None, option_map, ◌==◌, refl, sym, ap, ◌∙◌, subst, arith}
use Rattle.std.specs.Prelude.{if◌then◌else◌}
use Rattle.std.specs.List.{All, Contains, list_all, filter}
use Rattle.std.proofs.lemmas.Bool.{and_parts, and_from, eqb-true}
use Rattle.std.proofs.lemmas.List.Elements.{All-contains, filter_passes}
use Rattle.be_base.specs.Counts.{RisesBy}
use Rattle.be_base.specs.Lists.{BeginsWith}
use Rattle.be_base.specs.declared.limits.TheConstants.{LINE_BYTES}
use Rattle.be_io.specs.Lines.{TextLine, lines}
use Rattle.be_io.specs.Sink.{SinkState}
use Rattle.be_model.specs.Schemas.{Attributes}
use Rattle.be_change.specs.History.{Entry, session_of}
use Rattle.be_change.specs.Requests.{Request, Reply, refusal, ok, held, bye, dup, none, other, hit, cost, listed, sent, notes, dumped, tailed, split, no_memory, shut, Exchange}
use Rattle.be_protocol.specs.LinesRead.{ReadToEnd, ReadFirstLines}
use Rattle.be_protocol.specs.Readings.{reading}
use Rattle.be_protocol.specs.Transcript.{requests, texts}
use Rattle.be_board.specs.State.{BoardState}
use Rattle.be_board.specs.Word.{Keeps}
use Rattle.be_desk.specs.Boards.{board_of}
use Rattle.be_desk.specs.Seats.{SeatState, word_of}
use Rattle.be_protocol.specs.declared.ends.SessionEnd.{SessionEnd}
use Rattle.be_protocol.specs.declared.ends.SessionEnd.TheVariants.{Eof, Quit, ReadFault, WriteFault, Spent, Split, NoMemory}
use Rattle.be_protocol.specs.Ends.{end_after, has_not_ended, goes_on}
use Rattle.be_protocol.specs.Conversation.{Replied}
use Rattle.be_session.specs.Given.{GivesLetters}
use Rattle.be_session.specs.Served.{SessionEnds, session_terms}
use Rattle.be_session.specs.Tied.{is_split, TiedPuts}
use Rattle.be_session.proofs.Quits.{Ended, by_split, by_quit, by_none, ended_of, has_no_quit, quits_at}
use Rattle.be_hub.specs.Files.{file_link, FileServed, IsRead, is_split_end, IsEndOf}
use Rattle.be_hub.specs.Transcripts.{AreServedLines, says_shut, IsTranscript}
use Rattle.be_hub.proofs.Shuts.{shuts_only, agrees}

-- a reply that doesn't end its session by two numbers isn't a SPLIT
not_split : (r : Request) (t : Reply) → ((i j : ℕ) → end_after r t ≡ Some (Split i j) → ⊥) → not (is_split (r, t)) ≡ true
not_split r (split i j) never = absurd (never i j refl)
not_split r (refusal u) never = refl
not_split r (ok u) never = refl
not_split r (held u) never = refl
not_split r (bye u) never = refl
not_split r (dup u v) never = refl
not_split r (none u) never = refl
not_split r (other u v) never = refl
not_split r (hit u v) never = refl
not_split r (cost u v) never = refl
not_split r (listed u v) never = refl
not_split r (sent u v w) never = refl
not_split r (notes u) never = refl
not_split r (dumped u v) never = refl
not_split r (tailed u v w) never = refl
not_split r no_memory never = refl
not_split r shut never = refl

on_by_none : (end : Option SessionEnd) (i j : ℕ) → has_not_ended end ≡ true → end ≡ Some (Split i j) → ⊥
on_by_none None i j on is = absurd cc
on_by_none (Some e) i j on is = absurd cc

abbrev plain : Exchange → Bool
plain p = not (is_split p)

on_is_plain : (p : Exchange) → goes_on p ≡ true → plain p ≡ true
on_is_plain p on = not_split p.0 p.1 (λ i j is. on_by_none (end_after p.0 p.1) i j on is)

quit_is_plain : (p : Exchange) → end_after p.0 p.1 ≡ Some Quit → plain p ≡ true
quit_is_plain p by = not_split p.0 p.1 (λ i j is. absurd cc)

-- where no reply ended the session, or the last one to a QUIT, none is a SPLIT
all_plain : (ps : List Exchange) → list_all goes_on ps ≡ true → list_all plain ps ≡ true
all_plain [] on = refl
all_plain (p ∷ ps) on =
    let parts = and_parts (goes_on p) (list_all goes_on ps) on in
    and_from (plain p) (list_all plain ps) (on_is_plain p parts.0) (all_plain ps parts.1)

all_plain_last : (ps : List Exchange) (p : Exchange) → list_all goes_on ps ≡ true → end_after p.0 p.1 ≡ Some Quit → list_all plain (ps ++ p ∷ []) ≡ true
all_plain_last [] p on by = and_from (plain p) true (quit_is_plain p by) refl
all_plain_last (q ∷ ps) p on by =
    let parts = and_parts (goes_on q) (list_all goes_on ps) on in
    and_from (plain q) (list_all plain (ps ++ p ∷ [])) (on_is_plain q parts.0) (all_plain_last ps p parts.1 by)

-- what exchanges say of the board that they leave. Its count of refused reads stays 0 where no reply says that one was
pub record Leave (ps : List Exchange) (b b' : BoardState) : Type 0 where
  pub shuts : says_shut ps ≡ false → b'.counts.shuts ≡ 0
  pub letters : GivesLetters b.box ps b b'
  pub puts : TiedPuts ps b b'

-- a legal transcript
abbrev pub Told : Attributes → (k z : ℕ) → List Entry → (shuts : Bool) → (file out : List ℕ) → BoardState → BoardState → Type 0
Told s k z h shuts file out b b' = (t : IsTranscript s k z h shuts file out) × Leave t.exchanges b b'

out_is : (out text : List ℕ) → Some out ≡ Some text → out ≡ text
out_is out text e = cc

transcript_from : (s : Attributes) (z : ℕ) (h : List Entry) (shuts : Bool) (file out : List ℕ) (served : List TextLine) (end : Option SessionEnd) (before after : SinkState) (b b' : BoardState)
    → AreServedLines s file served → (r : Replied (session_terms s b b') served end before after) → list_all plain r.exchanges ≡ true → before.held ≡ Some [] → after.held ≡ Some out
    → Keeps h b'.word → z ≤ length b.word.known → (shuts ≡ false → b'.counts.shuts ≡ 0) → b.counts.shuts ≡ 0 → Told s b.word.session z h shuts file out b b'
transcript_from s z h shuts file out served end before after b b' read r whole empty wrote keeps within quiet first = (
  record {
    served = served;
    read = read;
    exchanges = r.exchanges;
    legal = (r.legal.borne h z keeps within).0;
    text = out_is out (texts s r.exchanges) (sym wrote ∙ subst (λ (o : Option (List ℕ)). after.held ≡ option_map (λ (held : List ℕ). held ++ texts s r.exchanges) o) empty r.written);
    whole = whole;
    refused = shuts_only shuts r.exchanges b.counts.shuts b'.counts.shuts r.legal.tied.shuts quiet;
  },
  record {
    shuts = λ few. (agrees r.exchanges b.counts.shuts b'.counts.shuts r.legal.tied.shuts).stays few first;
    letters = r.legal.letters;
    puts = r.legal.puts;
  },
)

told_end : (file : List ℕ) (o : Option (List ℕ)) (ls : List TextLine) → ReadToEnd (Some file) o ls → ls ≡ lines LINE_BYTES true file
told_end file None ls w = absurd w
told_end file (Some a) ls w = w.1

told_first : (file : List ℕ) (o : Option (List ℕ)) (ls : List TextLine) → ReadFirstLines (Some file) o ls → BeginsWith (lines LINE_BYTES true file) ls
told_first file None ls w = absurd w
told_first file (Some a) ls w = w.first

-- a file that was read to its end or to a QUIT
pub transcript_of : (s : Attributes) (z : ℕ) (h : List Entry) (shuts : Bool) (file out : List ℕ) (seat seat' : SeatState) (end : SessionEnd) → FileServed s file seat seat' out end → IsRead end → Keeps h (word_of seat')
    → z ≤ length seat.glass.known → (shuts ≡ false → seat'.glass.shuts ≡ 0) → seat.glass.shuts ≡ 0 → Told s seat.session z h shuts file out (board_of 0 s 0 seat) (board_of 0 s 0 seat')
transcript_of s z h shuts file out seat seat' end f read keeps within quiet first = by_end end f.session read
  where
    by_end : (x : SessionEnd) → SessionEnds ((seat' ≡ seat) × (out ≡ [])) s (file_link file) f.after (board_of 0 s 0 seat) (board_of 0 s 0 seat') x → IsRead x → Told s seat.session z h shuts file out (board_of 0 s 0 seat) (board_of 0 s 0 seat')
    by_end Eof e is =
        transcript_from s z h shuts file out e.lines None (file_link file).sink f.after.sink (board_of 0 s 0 seat) (board_of 0 s 0 seat')
        (inl (told_end file f.after.source.left e.lines e.read, has_no_quit s e.lines e.replied.exchanges e.replied.asked e.replied.ends))
        e.replied (all_plain e.replied.exchanges e.replied.ends) refl f.wrote keeps within quiet first
    by_end Quit e is =
        let r = e.replied in
        let asked = subst (λ (ps : List Exchange). requests ps ≡ map (reading s) e.lines) r.ends.2 r.asked in
        transcript_from s z h shuts file out e.lines (Some Quit) (file_link file).sink f.after.sink (board_of 0 s 0 seat) (board_of 0 s 0 seat')
        (inr (told_first file f.after.source.left e.lines e.read, quits_at s e.lines r.ends.0 r.ends.1 asked r.ends.3 r.ends.4))
        r (subst (λ (ps : List Exchange). list_all plain ps ≡ true) (sym r.ends.2) (all_plain_last r.ends.0 r.ends.1 r.ends.3 r.ends.4)) refl f.wrote keeps within quiet first
    by_end (Split i j) e is = absurd is
    by_end ReadFault e is = absurd is
    by_end WriteFault e is = absurd is
    by_end Spent e is = absurd is
    by_end NoMemory e is = absurd is

-- a seat that had no accepted change has those of its session alone
pub own_session : (s : Attributes) (file out : List ℕ) (seat seat' : SeatState) (end : SessionEnd) (p : ℕ) (e : Entry) → FileServed s file seat seat' out end → seat.own ≡ [] → Contains seat'.own (p, e) → session_of e ≡ seat.session
own_session s file out seat seat' end p e f empty there =
    let new = f.board.own.0 in
    let is : seat'.own ≡ new = f.board.own.1 ∙ ap (λ (l : List (ℕ × Entry)). l ++ new) empty in
    let pass = subst (λ (l : List (ℕ × Entry)). All (λ (q : ℕ × Entry). (session_of q.1 == seat.session) ≡ true) l) f.board.own.2 (filter_passes (λ (q : ℕ × Entry). session_of q.1 == seat.session) new) in
    eqb-true (session_of e) seat.session
    (All-contains (λ (q : ℕ × Entry). (session_of q.1 == seat.session) ≡ true) new (p, e) pass (subst (λ (l : List (ℕ × Entry)). Contains l (p, e)) is there))

-- what ends a session by two numbers is a SPLIT
pub is_split_of : (p : Exchange) (i j : ℕ) → end_after p.0 p.1 ≡ Some (Split i j) → is_split p ≡ true
is_split_of p i j by = go (ended_of p.0 p.1)
  where
    go : Ended p.0 p.1 → is_split p ≡ true
    go (by_split a b t e) = ap (λ (x : Reply). is_split (p.0, x)) t
    go (by_quit q e) = absurd cc
    go (by_none q e) = absurd cc

pub some_counted : (ps : List Exchange) (p : Exchange) → is_split p ≡ true → 0 < length (filter is_split (ps ++ p ∷ []))
some_counted [] p is = go (is_split p) is
  where
    go : (b : Bool) → b ≡ true → 0 < length (if b then p ∷ [] else [])
    go true e = omega arith
    go false e = absurd cc
some_counted (q ∷ ps) p is = go (is_split q) (some_counted ps p is)
  where
    go : (b : Bool) → 0 < length (filter is_split (ps ++ p ∷ [])) → 0 < length (if b then q ∷ filter is_split (ps ++ p ∷ []) else filter is_split (ps ++ p ∷ []))
    go true some = omega arith
    go false some = some

some_rise : (n before after : ℕ) → RisesBy n before after → 0 < n → 0 < after
some_rise n before after rise some = omega (arith, rise, some)

-- how a file's session ends at its seat
pub end_of_file : (s : Attributes) (file out : List ℕ) (seat seat' : SeatState) (end : SessionEnd) → FileServed s file seat seat' out end → IsEndOf seat' end
end_of_file s file out seat seat' end f = record { quiet = f.quiet; counted = by_end end f.session }
  where
    by_end : (x : SessionEnd) → SessionEnds ((seat' ≡ seat) × (out ≡ [])) s (file_link file) f.after (board_of 0 s 0 seat) (board_of 0 s 0 seat') x → is_split_end x ≡ true → 0 < seat'.splits
    by_end Eof e is = absurd cc
    by_end Quit e is = absurd cc
    by_end (Split i j) e is =
        let r = e.replied in
        some_rise (length (filter is_split r.exchanges)) seat.splits seat'.splits r.legal.tied.splits
        (subst (λ (ps : List Exchange). 0 < length (filter is_split ps)) (sym r.ends.2) (some_counted r.ends.0 r.ends.1 (is_split_of r.ends.1 i j r.ends.4)))
    by_end ReadFault e is = absurd cc
    by_end WriteFault e is = absurd cc
    by_end Spent e is = absurd cc
    by_end NoMemory e is = absurd cc
