-- How a conversation ends, by the turn that ended it.
use Rattle.std.proofs.Common.{◌≡◌, inl, inr, ◌⊎◌, ℕ, ◌<◌, ◌≤◌, Bool, true, false, List, [], ◌∷◌, ◌++◌, length, Option, Some, None, Ok, Err, refl, sym, ap, ◌∙◌, subst, arith, append_assoc}
use Rattle.std.proofs.lemmas.List.{append-nil}
use Rattle.be_base.specs.Counts.{HasRisen}
use Rattle.be_io.specs.Kept.{KeptByRead}
use Rattle.be_io.specs.Told.{WhereTold, HoldsMore}
use Rattle.be_io.specs.Lines.{TextLine, has_lf}
use Rattle.be_io.specs.Outside.{LinkState}
use Rattle.be_io.specs.Sink.{SinkState}
use Rattle.be_io.specs.declared.faults.SinkFault.{SinkFault}
use Rattle.be_io.specs.declared.faults.SinkFault.TheVariants.{Failed, NoMemory}
use Rattle.be_io.proofs.ToldLemmas.{HoldsMore-append}
use Rattle.be_model.specs.Schemas.{Attributes}
use Rattle.be_change.specs.Requests.{Request, quit, Reply, split, Exchange}
use Rattle.be_protocol.specs.Conduct.{Conduct, LeavesIf, leading, Refused}
use Rattle.be_protocol.specs.Conversation.{Replied, NoWriteFailed, RefusedOnce, EndedByReply, BrokeOff, CutShort, ConversationEnds, KeepsBeside}
use Rattle.be_protocol.specs.Ends.{end_after, has_not_ended, end_of}
use Rattle.be_protocol.specs.Replies.{reply_text}
use Rattle.be_protocol.specs.Transcript.{texts, OutputBroke}
use Rattle.be_protocol.specs.Turns.{TurnState, TakesAlike, TookLine, TookBreak, IsSilent, Turned, StopsAt, BrokeOffAt, GivenOn, LinesGoOn, IsGoingOn}
use Rattle.be_protocol.specs.declared.ends.SessionEnd.{SessionEnd}
use Rattle.be_protocol.specs.declared.ends.SessionEnd.TheVariants as ends
use Rattle.be_protocol.specs.declared.replier.Turn.{Turn}
use Rattle.be_protocol.proofs.LinesGoing.{read_to_end, read_in_part, first_lines, spent, rises-along}
use Rattle.be_protocol.proofs.Going.{trace_ended, turn_is, texts-push, one_more, written_with}

-- the output broke off at a reply behind these
broke_off_at : (s : Attributes) (ps : List Exchange) (p : Exchange) (fault : SinkFault) (out : List ℕ) (before after : SinkState) → StopsAt (reply_text s p.1) fault out before after
    → OutputBroke s ps p (texts s ps ++ out) after.kept_back
broke_off_at s ps p fault out before after w = by w.some
  where
    by : (0 < length w.missing) ⊎ ((w.missing ≡ []) × (0 < after.kept_back)) → OutputBroke s ps p (texts s ps ++ out) after.kept_back
    by (inl some) = inl (record {
      missing = w.missing;
      some = some;
      is_text = texts-push s ps p ∙ (ap (λ (x : List ℕ). texts s ps ++ x) w.is_text ∙ sym (append_assoc (texts s ps) out w.missing));
      whole = (out, refl);
    })
    by (inr (none, kept)) = inr (
      sym (texts-push s ps p ∙ ap (λ (x : List ℕ). texts s ps ++ x) (w.is_text ∙ (ap (λ (x : List ℕ). out ++ x) none ∙ append-nil out))),
      kept,
    )

-- a conversation ends by a reply so
abbrev is_by_reply : SessionEnd → Bool
is_by_reply ends.Quit = true
is_by_reply (ends.Split a b) = true
is_by_reply end = false

-- a reply that ended the conversation is a QUIT's or tells two numbers that differ
abbrev gives_end : Option SessionEnd → Bool
gives_end None = true
gives_end (Some end) = is_by_reply end

by_its_reply : (r : Request) (reply : Reply) → gives_end (end_after r reply) ≡ true
by_its_reply r (split i j) = refl
by_its_reply quit _ = refl
by_its_reply _ _ = refl

module _ {S : Type 0} (U : Type 0) (m : Conduct S) (link : LinkState) (a : S) (before after : TurnState S) (d : S) (g : IsGoingOn m link a before) where
  -- the lines that were answered, after which it left without a reply
  replied_left : (sink : SinkState) → sink ≡ before.link.sink → m.Leaves before.state d → Replied (leading m a d) g.done None link.sink sink
  replied_left sink same leaves = record {
    exchanges = g.ps;
    asked = g.asked;
    written = subst (λ (x : SinkState). HoldsMore link.sink.held x.held (texts m.schema g.ps)) (sym same) g.written;
    ends = g.on;
    legal = record { last = before.state; trace = g.trace; left = leaves };
  }

  -- a reply ended the conversation
  ended_by_reply : (end : SessionEnd) (line : TextLine) → TookLine before after line → d ≡ after.state → GivenOn m before after line (record { by = Some end; written = Ok tt }) → EndedByReply (leading m a d) end link after.link
  ended_by_reply end line took still (w, none) =
      let p : Exchange = (m.asks line, w.reply) in
      let one = one_more m link a before after g line w.reply took in
      let left : ℕ = after.link.sink.kept_back in
      let nothing : left ≡ 0 = none refl in
      record {
        lines = g.done ++ line ∷ [];
        read = first_lines link.source.left after.link.source.left after.reader.ended after.reader.unread (g.done ++ line ∷ []) took.buffered one.lines_read;
        reads = took.faults ∙ g.sound;
        writes = record { faults = w.faults ∙ g.quiet; refusals = w.refusals ∙ g.unrefused; handed = omega (arith, nothing) };
        replied = record {
          exchanges = g.ps ++ p ∷ [];
          asked = one.asked;
          written = written_with m link a before after g (m.asks line) (Some end) w;
          ends = (g.ps, p, refl, g.on, w.ends);
          legal = record { last = after.state; trace = trace_ended m g.ps p a before.state after.state (ap has_not_ended w.ends) g.trace w.replies; left = still };
        };
      }

  refused_since : RefusedOnce before.link.sink after.link.sink → RefusedOnce link.sink after.link.sink
  refused_since (inl e) = inl (e ∙ g.quiet)
  refused_since (inr e) = inr (e ∙ g.unrefused)

  -- the output broke off at a reply
  cut_short : (fault : SinkFault) (by : Option SessionEnd) (line : TextLine) → TookLine before after line → BrokeOffAt m (m.asks line) by fault before.state after.state before.link.sink after.link.sink → LeavesIf m (has_not_ended by) after.state d
      → CutShort (leading m a d) link after.link
  cut_short fault by line took c leaves =
      let p : Exchange = (m.asks line, c.reply) in
      let one = one_more m link a before after g line c.reply took in
      record {
        lines = g.done ++ line ∷ [];
        read = first_lines link.source.left after.link.source.left after.reader.ended after.reader.unread (g.done ++ line ∷ []) took.buffered one.lines_read;
        reads = took.faults ∙ g.sound;
        once = refused_since c.wrote.once;
        replied = record {
          exchanges = g.ps;
          last = p;
          asked = one.asked;
          out = texts m.schema g.ps ++ c.out;
          written = HoldsMore-append link.sink.held before.link.sink.held after.link.sink.held (texts m.schema g.ps) c.out g.written c.wrote.written;
          broke = broke_off_at m.schema g.ps p fault c.out before.link.sink after.link.sink c.wrote;
          ends = g.on;
          legal = record {
            before = before.state;
            trace = g.trace;
            part = c.out;
            is_out = refl;
            last = after.state;
            replies = c.replies;
            left = subst (λ (o : Option SessionEnd). LeavesIf m (has_not_ended o) after.state d) (sym c.ends) leaves;
          };
        };
      }

  -- no write failed before, and none was made since
  unwritten : has_lf before.reader.unread ≡ false → IsSilent before after → NoWriteFailed link after.link
  unwritten none_ahead silent = record {
    faults = ap (λ (x : SinkState). x.faults) silent.sink ∙ g.quiet;
    refusals = ap (λ (x : SinkState). x.refusals) silent.sink ∙ g.unrefused;
    handed = subst (λ (x : SinkState). x.kept_back ≤ link.sink.kept_back) (sym silent.sink) (g.handed none_ahead);
  }

  left_before : IsSilent before after → m.Leaves after.state d → m.Leaves before.state d
  left_before silent leaves = subst (λ (x : S). m.Leaves x d) silent.state leaves

  broke_off : TookBreak before after → IsSilent before after → m.Leaves after.state d → BrokeOff (leading m a d) link after.link
  broke_off t silent leaves = record {
    lines = g.done;
    read = read_in_part link.source.left before.link.source.left after.link.source.left before.reader.unread g.done
        (subst (λ (e : Bool). WhereTold link.source.left before.link.source.left (λ b a. LinesGoOn e b before.reader.unread a g.done)) t.going g.lines_read) t.next;
    writes = unwritten t.none_ahead silent;
    replied = replied_left after.link.sink silent.sink (left_before silent leaves);
  }

  -- no line was read, and the replier left
  pub ended_unread : (Given : TextLine → Turn → Type 0) (end : SessionEnd) → Turned Given before after (Err end) → TakesAlike before.reader.taken after.reader.taken before.link.source.taken after.link.source.taken → m.Leaves after.state d
      → ConversationEnds U (leading m a d) link after.link end
  ended_unread Given ends.Eof t k leaves = record {
    lines = g.done;
    read = read_to_end link.source.left before.link.source.left after.link.source.left before.reader.ended before.reader.unread g.done g.lines_read t.0.next;
    reads = t.0.faults ∙ g.sound;
    writes = unwritten t.0.none_ahead t.1;
    replied = replied_left after.link.sink t.1.sink (left_before t.1 leaves);
  }
  ended_unread Given ends.ReadFault t k leaves = (subst (λ (n : ℕ). HasRisen n after.link.source.faults) g.sound t.2, broke_off t.0 t.1 leaves)
  ended_unread Given ends.Spent t k leaves = (
    spent link.source.taken after.link.source.taken after.reader.taken
        (rises-along link.source.taken before.link.source.taken after.link.source.taken before.reader.taken k.0 after.reader.taken g.taken k.2 k.1) t.2,
    t.3 ∙ g.sound,
    broke_off t.0 t.1 leaves,
  )
  ended_unread Given ends.WriteFault t k leaves = absurd t
  ended_unread Given ends.NoMemory t k leaves = absurd t
  ended_unread Given ends.Quit t k leaves = absurd t
  ended_unread Given (ends.Split i j) t k leaves = absurd t

  -- which count rose
  risen : (fault : SinkFault) → Refused fault before.link.sink after.link.sink → Refused fault link.sink after.link.sink
  risen Failed r = subst (λ (n : ℕ). HasRisen n after.link.sink.faults) g.quiet r
  risen NoMemory r = subst (λ (n : ℕ). HasRisen n after.link.sink.refusals) g.unrefused r

  by_fault : (fault : SinkFault) → Refused fault link.sink after.link.sink → CutShort (leading m a d) link after.link → ConversationEnds U (leading m a d) link after.link (end_of fault)
  by_fault Failed r c = (r, c)
  by_fault NoMemory r c = inr (r, c)

  -- the output broke off, and the replier left where the reply didn't end the conversation
  pub ended_cut : (turn : Turn) (fault : SinkFault) (end : SessionEnd) → Turned (GivenOn m before after) before after (Ok turn) → turn.written ≡ Err fault → LeavesIf m (has_not_ended turn.by) after.state d → end ≡ end_of fault
      → ConversationEnds U (leading m a d) link after.link end
  ended_cut turn fault end (line, took, given) wrote leaves is =
      let c : GivenOn m before after line (record { by = turn.by; written = Err fault }) = subst (GivenOn m before after line) (turn_is turn turn.by (Err fault) refl wrote) given in
      subst (ConversationEnds U (leading m a d) link after.link) (sym is) (by_fault fault (risen fault c.wrote.refused) (cut_short fault turn.by line took c leaves))

  -- a reply ended the conversation
  pub ended_so : (turn : Turn) (end : SessionEnd) → Turned (GivenOn m before after) before after (Ok turn) → turn.by ≡ Some end → turn.written ≡ Ok tt → d ≡ after.state → ConversationEnds U (leading m a d) link after.link end
  ended_so turn end (line, took, given) by wrote still =
      let c : GivenOn m before after line (record { by = Some end; written = Ok tt }) = subst (GivenOn m before after line) (turn_is turn (Some end) (Ok tt) by wrote) given in
      by_end end (by_its_reply (m.asks line) c.0.reply) c.0.ends (ended_by_reply end line took still c)
    where
      other : (o : Option SessionEnd) (end : SessionEnd) → gives_end o ≡ true → o ≡ Some end → is_by_reply end ≡ false → ⊥
      other o end by is off = let f : true ≡ false = sym by ∙ (ap gives_end is ∙ off) in absurd cc

      by_end : (end : SessionEnd) {o : Option SessionEnd} → gives_end o ≡ true → o ≡ Some end → EndedByReply (leading m a d) end link after.link → ConversationEnds U (leading m a d) link after.link end
      by_end ends.Quit by is e = e
      by_end (ends.Split i j) by is e = e
      by_end ends.Eof {o} by is e = absurd (other o ends.Eof by is refl)
      by_end ends.ReadFault {o} by is e = absurd (other o ends.ReadFault by is refl)
      by_end ends.WriteFault {o} by is e = absurd (other o ends.WriteFault by is refl)
      by_end ends.Spent {o} by is e = absurd (other o ends.Spent by is refl)
      by_end ends.NoMemory {o} by is e = absurd (other o ends.NoMemory by is refl)

-- what stands beside reads and writes, from turn to turn
pub kept_along : (a b c : KeptByRead) → KeepsBeside a b → KeepsBeside b c → KeepsBeside a c
kept_along a b c p q = record { whole = q.whole ∙ p.whole; references = q.references ∙ p.references }
