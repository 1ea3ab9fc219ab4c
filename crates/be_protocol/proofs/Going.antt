-- The turns of a conversation, one after another.
use Rattle.std.proofs.Common.{◌≡◌, ℕ, ◌+◌, ◌≤◌, ◌&&◌, Bool, true, false, not, List, [], ◌∷◌, ◌++◌, length, length-append, map, Option, Some, None, Result, Ok, refl, sym, ap, ◌∙◌, subst, arith}
use Rattle.std.specs.List.{list_all}
use Rattle.std.proofs.lemmas.List.{map_push, append-nil, length-map}
use Rattle.std.proofs.lemmas.List.Concat.{flat_map-append}
use Rattle.std.proofs.lemmas.List.Folds.{list_all-append}
use Rattle.be_base.specs.Counts.{RisesBy}
use Rattle.be_io.specs.Told.{WhereTold, HoldsMore}
use Rattle.be_io.specs.Lines.{TextLine, has_lf}
use Rattle.be_io.specs.Outside.{LinkState}
use Rattle.be_io.specs.Reader.{ReaderState}
use Rattle.be_io.specs.declared.faults.SinkFault.{SinkFault}
use Rattle.be_io.proofs.ToldLemmas.{HoldsMore-append, HoldsMore-nil}
use Rattle.be_model.specs.Schemas.{Attributes}
use Rattle.be_change.specs.Requests.{Request, Reply, Exchange}
use Rattle.be_protocol.specs.Conduct.{Conduct, is_sixteenth, TendsIf, Trace, RepliedTo}
use Rattle.be_protocol.specs.Conversation.{TakesWithin}
use Rattle.be_protocol.specs.Ends.{has_not_ended, goes_on}
use Rattle.be_protocol.specs.Replies.{reply_text}
use Rattle.be_protocol.specs.Transcript.{requests, texts}
use Rattle.be_protocol.specs.Turns.{TurnState, IsReading, TakesAlike, TookLine, Turned, GivenOn, new_reader, LinesGoOn, IsGoingOn}
use Rattle.be_protocol.specs.declared.ends.SessionEnd.{SessionEnd}
use Rattle.be_protocol.specs.declared.replier.Turn.{Turn}
use Rattle.be_protocol.proofs.LinesGoing.{lines_on_told, within, rises-along, at_first}
use Rattle.be_base.specs.declared.limits.TheConstants.{SOURCE_BYTES}

-- one more exchange, the k-th behind the first n
trace_push : {S : Type 0} (m : Conduct S) (n k : ℕ) (ps : List Exchange) (p : Exchange) (a b c d : S) → k ≡ n + length ps → Trace m n ps a b → m.Replies p b c → TendsIf m (goes_on p && is_sixteenth (k + 1)) c d
    → Trace m n (ps ++ p ∷ []) a d
trace_push m n k [] p a b c d e t s r =
    let same : k ≡ n = omega (arith, e) in
    (c, d, subst (λ x. m.Replies p x c) t s, subst (λ (x : ℕ). TendsIf m (goes_on p && is_sixteenth (x + 1)) c d) same r, refl)
trace_push m n k (q ∷ ps) p a b c d e t s r =
    let next : k ≡ (n + 1) + length ps = omega (arith, e) in
    (t.0, t.1, t.2, t.3, trace_push m (n + 1) k ps p t.1 b c d next t.4 s r)

-- one more exchange, behind which it was tended where that was due
pub trace_tended : {S : Type 0} (m : Conduct S) (ps : List Exchange) (p : Exchange) (a b c d : S) → Trace m 0 ps a b → m.Replies p b c → TendsIf m (goes_on p && is_sixteenth (length ps + 1)) c d → Trace m 0 (ps ++ p ∷ []) a d
trace_tended m ps p a b c d t s r = trace_push m 0 (length ps) ps p a b c d (omega arith) t s r

-- one more exchange, which ended the conversation
pub trace_ended : {S : Type 0} (m : Conduct S) (ps : List Exchange) (p : Exchange) (a b c : S) → goes_on p ≡ false → Trace m 0 ps a b → m.Replies p b c → Trace m 0 (ps ++ p ∷ []) a c
trace_ended m ps p a b c off t s = trace_tended m ps p a b c c t s (subst (λ (on : Bool). TendsIf m (on && is_sixteenth (length ps + 1)) c c) (sym off) refl)

pub texts-push : (s : Attributes) (ps : List Exchange) (p : Exchange) → texts s (ps ++ p ∷ []) ≡ texts s ps ++ reply_text s p.1
texts-push s ps p =
    flat_map-append (λ (q : Exchange). reply_text s q.1) ps (p ∷ []) ∙ ap (λ (x : List ℕ). texts s ps ++ x) (append-nil (reply_text s p.1))

-- one more line, and its exchange
pub record OneMore {S : Type 0} (m : Conduct S) (link : LinkState) (a : S) (before after : TurnState S) (g : IsGoingOn m link a before) (line : TextLine) (reply : Reply) : Type 0 where
  pub asked : requests (g.ps ++ (m.asks line, reply) ∷ []) ≡ map m.asks (g.done ++ line ∷ [])
  pub lines_read : WhereTold link.source.left after.link.source.left (λ b a. LinesGoOn after.reader.ended b after.reader.unread a (g.done ++ line ∷ []))

pub one_more : {S : Type 0} (m : Conduct S) (link : LinkState) (a : S) (before after : TurnState S) (g : IsGoingOn m link a before) (line : TextLine) (reply : Reply) → TookLine before after line → OneMore m link a before after g line reply
one_more m link a before after g line reply took = record {
  asked = map_push (λ (p : Exchange). p.0) g.ps (m.asks line, reply) ∙ ap (λ (rs : List Request). rs ++ m.asks line ∷ []) g.asked ∙ sym (map_push m.asks g.done line);
  lines_read = lines_on_told link.source.left before.link.source.left after.link.source.left before.reader.unread after.reader.unread line after.reader.ended g.done
      (subst (λ (e : Bool). WhereTold link.source.left before.link.source.left (λ b a. LinesGoOn e b before.reader.unread a g.done)) took.going g.lines_read) took.next;
}

-- what was written with one more whole reply
pub written_with : {S : Type 0} (m : Conduct S) (link : LinkState) (a : S) (before after : TurnState S) (g : IsGoingOn m link a before) (r : Request) (by : Option SessionEnd) (w : RepliedTo m r by before.state after.state before.link.sink after.link.sink)
    → HoldsMore link.sink.held after.link.sink.held (texts m.schema (g.ps ++ (r, w.reply) ∷ []))
written_with m link a before after g r by w =
    subst (λ (x : List ℕ). HoldsMore link.sink.held after.link.sink.held x) (sym (texts-push m.schema g.ps (r, w.reply)))
    (HoldsMore-append link.sink.held before.link.sink.held after.link.sink.held (texts m.schema g.ps) (reply_text m.schema w.reply) g.written w.written)

pub turn_is : (turn : Turn) (by : Option SessionEnd) (written : Result (Unit {0}) SinkFault) → turn.by ≡ by → turn.written ≡ written → turn ≡ record { by = by; written = written }
turn_is turn by written e f = ap (λ (o : Option SessionEnd). record turn { by = o }) e ∙ ap (λ (w : Result (Unit {0}) SinkFault). record turn { by = by; written = w }) f

-- so many lines of the source were answered, and the conversation goes on
pub record IsAnswered {S : Type 0} (m : Conduct S) (link : LinkState) (a : S) (now : TurnState S) (many : ℕ) : Type 0 where
  pub going : IsGoingOn m link a now
  pub lines : length going.done ≡ many

-- as many lines as replies
as_many : {S : Type 0} (m : Conduct S) (link : LinkState) (a : S) (now : TurnState S) (g : IsGoingOn m link a now) → length g.done ≡ length g.ps
as_many m link a now g = sym (length-map g.done m.asks) ∙ (ap (λ (rs : List Request). length rs) (sym g.asked) ∙ length-map g.ps (λ (p : Exchange). p.0))

-- one more turn, behind which it was tended where that was due
pub going_on : {S : Type 0} (m : Conduct S) (link : LinkState) (a : S) (before after : TurnState S) (d : S) (n : ℕ) (turn : Turn) → IsAnswered m link a before n → Turned (GivenOn m before after) before after (Ok turn) → turn.by ≡ None → turn.written ≡ Ok tt
    → TakesAlike before.reader.taken after.reader.taken before.link.source.taken after.link.source.taken → TendsIf m (is_sixteenth (n + 1)) after.state d → IsAnswered m link a (record after { state = d }) (n + 1)
going_on m link a before after d n turn i (line, took, given) goes wrote t tends =
    let g = i.going in
    let x : GivenOn m before after line (record { by = None; written = Ok tt }) = subst (GivenOn m before after line) (turn_is turn None (Ok tt) goes wrote) given in
    let w = x.0 in
    let p : Exchange = (m.asks line, w.reply) in
    let one = one_more m link a before after g line w.reply took in
    let more : IsGoingOn m link a (record after { state = d }) = record {
      ps = g.ps ++ p ∷ [];
      done = g.done ++ line ∷ [];
      trace = trace_tended m g.ps p a before.state after.state d g.trace w.replies (due_so p (length g.ps) (ap has_not_ended w.ends) (sym i.lines ∙ as_many m link a before g));
      asked = one.asked;
      on = list_all-append goes_on g.ps (p ∷ []) ∙ rw (g.on, ap has_not_ended w.ends) refl;
      written = written_with m link a before after g (m.asks line) None w;
      quiet = w.faults ∙ g.quiet;
      unrefused = w.refusals ∙ g.unrefused;
      handed = λ e. none_left after.link.sink.kept_back link.sink.kept_back (x.1 (ap not e));
      sound = took.faults ∙ g.sound;
      taken = rises-along link.source.taken before.link.source.taken after.link.source.taken before.reader.taken t.0 after.reader.taken g.taken t.2 t.1;
      reads = took.reads;
      lines_read = one.lines_read;
    } in
    record { going = more; lines = length-append g.done (line ∷ []) ∙ ap (λ (x : ℕ). x + 1) i.lines }
  where
    none_left : (n m : ℕ) → n ≡ 0 → n ≤ m
    none_left n m e = omega (arith, e)

    due_so : (p : Exchange) (k : ℕ) → goes_on p ≡ true → n ≡ k → TendsIf m (goes_on p && is_sixteenth (k + 1)) after.state d
    due_so p k on same =
        subst (λ (o : Bool). TendsIf m (o && is_sixteenth (k + 1)) after.state d) (sym on) (subst (λ (x : ℕ). TendsIf m (is_sixteenth (x + 1)) after.state d) same tends)

-- no line was answered yet
pub going_first : {S : Type 0} (m : Conduct S) (link : LinkState) (a : S) (r : ReaderState) → r ≡ new_reader → IsAnswered m link a (record { reader = r; link = link; state = a }) 0
going_first m link a r new = record { going = none; lines = refl }
  where
    as_before : (n : ℕ) → n ≤ n
    as_before n = omega arith

    rises_none : (t n : ℕ) → t ≡ 0 → RisesBy t n n
    rises_none t n e = omega arith

    none : IsGoingOn m link a (record { reader = r; link = link; state = a })
    none = record {
      ps = [];
      done = [];
      trace = refl;
      asked = refl;
      on = refl;
      written = HoldsMore-nil link.sink.held;
      quiet = refl;
      unrefused = refl;
      handed = λ e. as_before link.sink.kept_back;
      sound = refl;
      taken = rises_none r.taken link.source.taken (ap (λ (x : ReaderState). x.taken) new);
      reads = subst IsReading (sym new) (record { limit = refl; sound = refl });
      lines_read =
          subst (λ (e : Bool). WhereTold link.source.left link.source.left (λ b a. LinesGoOn e b r.unread a [])) (sym (ap (λ (x : ReaderState). x.ended) new))
          (at_first link.source.left r.unread (ap (λ (x : ReaderState). x.unread) new));
    }

-- the source gave what the reader took
pub taken_within : {S : Type 0} (m : Conduct S) (link : LinkState) (a : S) (before after : TurnState S) → IsGoingOn m link a before
    → TakesAlike before.reader.taken after.reader.taken before.link.source.taken after.link.source.taken → after.reader.taken ≤ SOURCE_BYTES → TakesWithin link.source.taken after.link.source.taken
taken_within m link a before after g k bound = within before.reader.taken after.reader.taken link.source.taken before.link.source.taken after.link.source.taken g.taken k bound

-- the last exchange of a trace, the k-th behind the first n
trace_split : {S : Type 0} (m : Conduct S) (n k : ℕ) (ps : List Exchange) (p : Exchange) (a d : S) → k ≡ n + length ps → Trace m n (ps ++ p ∷ []) a d
    → (b c : S) × Trace m n ps a b × m.Replies p b c × TendsIf m (goes_on p && is_sixteenth (k + 1)) c d
trace_split m n k [] p a d e t =
    let same : n ≡ k = omega (arith, e) in
    (a, t.0, refl, t.2, subst (λ (x : ℕ). TendsIf m (goes_on p && is_sixteenth (x + 1)) t.0 d) same (subst (λ x. TendsIf m (goes_on p && is_sixteenth (n + 1)) t.0 x) (sym t.4) t.3))
trace_split m n k (q ∷ ps) p a d e t =
    let next : k ≡ (n + 1) + length ps = omega (arith, e) in
    let pop = trace_split m (n + 1) k ps p t.1 d next t.4 in
    (pop.0, pop.1, (t.0, t.1, t.2, t.3, pop.2), pop.3, pop.4)

-- the last exchange of a trace, which ended the conversation
pub trace_pop : {S : Type 0} (m : Conduct S) (ps : List Exchange) (p : Exchange) (a d : S) → goes_on p ≡ false → Trace m 0 (ps ++ p ∷ []) a d → (b : S) × Trace m 0 ps a b × m.Replies p b d
trace_pop m ps p a d off t =
    let pop = trace_split m 0 (length ps) ps p a d (omega arith) t in
    let same : d ≡ pop.1 = subst (λ (on : Bool). TendsIf m (on && is_sixteenth (length ps + 1)) pop.1 d) off pop.4 in
    (pop.0, pop.2, subst (λ x. m.Replies p pop.0 x) (sym same) pop.3)
