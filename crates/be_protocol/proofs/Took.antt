-- What a call of the reader of lines means for a turn.
use Rattle.std.proofs.Common.{◌≡◌, ℕ, ◌+◌, ◌<◌, ◌≤◌, Bool, true, false, List, ◌++◌, length, Option, Some, None, Result, Ok, refl, sym, ap, ◌∙◌, subst, arith, nat_lt}
use Rattle.std.proofs.lemmas.Bool.Decides.{nat_tests}
use Rattle.be_base.specs.declared.limits.TheConstants.{LINE_BYTES}
use Rattle.be_io.specs.Told.{WhereTold}
use Rattle.be_io.specs.Lines.{TextLine, text, long, read_line, has_lf}
use Rattle.be_io.specs.Outside.{LinkState}
use Rattle.be_io.specs.Reader.{ReaderState, GivesLine, FitsLine, text_of}
use Rattle.be_io.specs.Sink.{SinkState}
use Rattle.be_io.specs.Source.{SourceState}
use Rattle.be_io.specs.declared.lines.Line.{Line}
use Rattle.be_io.specs.declared.lines.Line.TheVariants.{Text, Long, End}
use Rattle.be_protocol.specs.Conduct.{Conduct, GivesReply}
use Rattle.be_protocol.specs.Turns.{TurnState, IsReading, IsFirstLine, TookLine, Turned, Given, GivenOn, AnswersOn, HandsOver, is_due}
use Rattle.be_protocol.specs.declared.ends.SessionEnd.{SessionEnd}
use Rattle.be_protocol.proofs.Written.{answers_on}
use Rattle.be_protocol.specs.declared.replier.Turn.{Turn}

told_along : (before after : Option (List ℕ)) (P Q : List ℕ → List ℕ → Type 0) → ((b a : List ℕ) → P b a → Q b a) → WhereTold before after P → WhereTold before after Q
told_along None None P Q f t = tt
told_along (Some b) (Some a) P Q f t = f b a t
told_along None (Some a) P Q f t = t
told_along (Some b) None P Q f t = t

short_line : (ended : Bool) (bytes : List ℕ) → length bytes ≤ 65536 → text (text_of ended bytes) ≡ read_line LINE_BYTES ended bytes
short_line true bytes few = let no : nat_lt 65536 (length bytes) ≡ false = grind (arith, nat_tests) in rw no refl
short_line false bytes few = let no : nat_lt 65536 (length bytes) ≡ false = grind (arith, nat_tests) in rw no refl

long_line : (ended : Bool) (bytes : List ℕ) (len : ℕ) → length bytes ≡ len → 65536 < len → long len ≡ read_line LINE_BYTES ended bytes
long_line true bytes len same many =
    let yes : nat_lt 65536 (length bytes) ≡ true = grind (arith, nat_tests) in rw (yes, same) refl
long_line false bytes len same many =
    let yes : nat_lt 65536 (length bytes) ≡ true = grind (arith, nat_tests) in rw (yes, same) refl

-- a line within the limit was read
pub took_text : {S : Type 0} (before after : TurnState S) → before.reader.ended ≡ false
    → WhereTold before.link.source.left after.link.source.left (λ b a. GivesLine after.reader Text (before.reader.unread ++ b) (after.reader.unread ++ a))
    → IsReading after.reader → length after.reader.unread ≤ after.reader.limit + 65536
    → after.link.source.faults ≡ before.link.source.faults → TookLine before after (text after.reader.text)
took_text before after going gives reads kept faults = record {
  going = going;
  next = told_along before.link.source.left after.link.source.left
      (λ b a. GivesLine after.reader Text (before.reader.unread ++ b) (after.reader.unread ++ a))
      (λ b a. IsFirstLine (text after.reader.text) after.reader.ended (before.reader.unread ++ b) (after.reader.unread ++ a))
      (λ b a g. (
        g.0,
        ap (λ (x : List ℕ). text x) g.2 ∙ short_line after.reader.ended g.0 (subst (λ (n : ℕ). length g.0 ≤ n) reads.limit g.1),
        g.3,
      )) gives;
  faults = faults;
  reads = reads;
  buffered = subst (λ (n : ℕ). length after.reader.unread ≤ n + 65536) reads.limit kept;
}

-- a line over the limit was passed over
pub took_long : {S : Type 0} (before after : TurnState S) (len : ℕ) → before.reader.ended ≡ false
    → WhereTold before.link.source.left after.link.source.left (λ b a. GivesLine after.reader (Long len) (before.reader.unread ++ b) (after.reader.unread ++ a))
    → FitsLine after.reader (Long len) → IsReading after.reader → length after.reader.unread ≤ after.reader.limit + 65536
    → after.link.source.faults ≡ before.link.source.faults → TookLine before after (long len)
took_long before after len going gives fits reads kept faults =
    let many : 65536 < len = subst (λ (n : ℕ). n < len) reads.limit fits.0 in
    record {
      going = going;
      next = told_along before.link.source.left after.link.source.left
          (λ b a. GivesLine after.reader (Long len) (before.reader.unread ++ b) (after.reader.unread ++ a))
          (λ b a. IsFirstLine (long len) after.reader.ended (before.reader.unread ++ b) (after.reader.unread ++ a))
          (λ b a g. (g.0, long_line after.reader.ended g.0 len g.1 many, g.3)) gives;
      faults = faults;
      reads = reads;
      buffered = subst (λ (n : ℕ). length after.reader.unread ≤ n + 65536) reads.limit kept;
    }

-- a reader that answered a line wasn't at its end before
pub was_going : (ended : Bool) (line : Line) → (line ≡ End → ⊥) → (ended ≡ true → line ≡ End) → ended ≡ false
was_going false line other at_end = refl
was_going true line other at_end = absurd (other (at_end refl))

-- a line was read over a link, and answered over it
pub answered_so : {S : Type 0} (m : Conduct S) (before : TurnState S) (reader : ReaderState) (read written : LinkState) (b : S) (line : TextLine) (turn : Turn) → TookLine before (record { reader = reader; link = read; state = before.state }) line
    → read.sink ≡ before.link.sink → written.source ≡ read.source → GivesReply m (m.asks line) before.state b read.sink written.sink turn.by turn.written
    → Turned (Given m before (record { reader = reader; link = written; state = b })) before (record { reader = reader; link = written; state = b }) (Ok turn)
answered_so m before reader read written b line turn took quiet still_read gives = (
  line,
  record {
    going = took.going;
    next = subst (λ (x : SourceState). WhereTold before.link.source.left x.left (λ b a. IsFirstLine line reader.ended (before.reader.unread ++ b) (reader.unread ++ a))) (sym still_read) took.next;
    faults = ap (λ (x : SourceState). x.faults) still_read ∙ took.faults;
    reads = took.reads;
    buffered = took.buffered;
  },
  subst (λ (x : SinkState). GivesReply m (m.asks line) before.state b x written.sink turn.by turn.written) quiet gives,
)

-- what was written in a turn was handed on where that was due
pub handed_so : {S : Type 0} (m : Conduct S) (before : TurnState S) (reader : ReaderState) (written after : LinkState) (b : S) (turn handed : Turn)
    → Turned (Given m before (record { reader = reader; link = written; state = b })) before (record { reader = reader; link = written; state = b }) (Ok turn)
    → after.source ≡ written.source → handed.by ≡ turn.by → HandsOver (is_due (has_lf reader.unread) turn.by) written.sink after.sink turn.written handed.written
    → Turned (GivenOn m before (record { reader = reader; link = after; state = b })) before (record { reader = reader; link = after; state = b }) (Ok handed)
handed_so m before reader written after b turn handed (line, took, gives) still by h = (
  line,
  record {
    going = took.going;
    next = subst (λ (x : SourceState). WhereTold before.link.source.left x.left (λ b a. IsFirstLine line reader.ended (before.reader.unread ++ b) (reader.unread ++ a))) (sym still) took.next;
    faults = ap (λ (x : SourceState). x.faults) still ∙ took.faults;
    reads = took.reads;
    buffered = took.buffered;
  },
  subst (λ (o : Option SessionEnd). AnswersOn m (m.asks line) (is_due (has_lf reader.unread) o) before.state b before.link.sink after.sink o handed.written) (sym by)
      (answers_on m (m.asks line) (is_due (has_lf reader.unread) turn.by) before.state b before.link.sink written.sink after.sink turn.by turn.written handed.written gives h),
)
