-- What a reply that was written says of a request.
use Rattle.std.proofs.Common.{◌≡◌, ℕ, ◌≤◌, Bool, true, false, List, [], ◌∷◌, Option, Some, None, Result, Ok, Err, OnOk, IfErr, refl, sym, ap, ◌∙◌}
use Rattle.be_io.specs.Sink.{SinkState}
use Rattle.be_io.specs.declared.faults.SinkFault.{SinkFault}
use Rattle.be_model.specs.Schemas.{Attributes}
use Rattle.be_change.specs.Requests.{Refusal, Request, refused, subscribe, publish, costing, sending, quit, Reply, no_memory, refusal, Note, Exchange}
use Rattle.be_protocol.specs.Conduct.{GivesReply}
use Rattle.be_protocol.specs.Ends.{end_after, has_not_ended}
use Rattle.be_protocol.specs.Replies.{reply_text}
use Rattle.be_protocol.specs.Requests.{TakesMemory}
use Rattle.be_protocol.specs.Runs.{is_quit}
use Rattle.be_protocol.specs.Short.{plain_reply}
use Rattle.be_protocol.specs.declared.ends.SessionEnd.{SessionEnd}
use Rattle.be_protocol.specs.declared.replier.Turn.{Turn}
use Rattle.be_protocol.specs.declared.short.Short.{Short}
use Rattle.be_protocol.specs.declared.short.Short.TheVariants.{Split}
use Rattle.be_protocol.proofs.Written.{gives_reply}
use Rattle.be_board.specs.State.{BoardState, is_gone}
use Rattle.be_board.proofs.Going.{NoneFalls-same}
use Rattle.be_session.specs.Given.{letters_of, GivesLetters, GivesInPart}
use Rattle.be_session.specs.Reads.{IsTold}
use Rattle.be_session.specs.Saying.{short_end, SaysText, Says}
use Rattle.be_session.specs.Steps.{Replies, RepliesInPart, session_conduct}
use Rattle.be_session.specs.Tied.{Tied}
use Rattle.be_session.proofs.Looking.{is_reading, refused_memory, tied_one}
use Rattle.be_session.proofs.Quiet.{still, letters_still, letters_by}
use Rattle.be_session.proofs.Tying.{risen_none, puts_unread}

-- a reply that gives no letters, in part
letters_in_part : (o : Option (List Note)) (s : Attributes) (p : Exchange) (out : List ℕ) (b b' : BoardState) → letters_of p.1 ≡ [] → GivesLetters o (p ∷ []) b b' → GivesInPart o s [] p out b b'
letters_in_part None s p out b b' without g = (g.0, g.1, record { taken = []; letters = without; given = (out, refl) })
letters_in_part (Some box) s p out b b' without g = (g.0, [], g.1, g.2, g.3, record { taken = []; letters = without; given = (out, refl) })

pub tied_in_part : (p : Exchange) (b b' : BoardState) → b.counts.empties ≤ b'.counts.empties → Tied false (p ∷ []) (p ∷ []) b.counts b'.counts → Tied false (p ∷ []) [] b.counts b'.counts
tied_in_part p b b' falls t = record { reads = t.reads; shuts = t.shuts; splits = t.splits; empties = risen_none b.counts.empties b'.counts.empties falls }

-- a reply without letters, of which a part was written
pub replies_in_part : (s : Attributes) (p : Exchange) (out : List ℕ) (b b' : BoardState) → letters_of p.1 ≡ [] → Replies s p b b' → RepliesInPart s p out b b'
replies_in_part s p out b b' without q = record {
  steps = q.steps;
  tied = tied_in_part p b b' q.steps.goes.counts.empties q.tied;
  puts = q.puts;
  letters = letters_in_part b.box s p out b b' without q.letters;
}

-- a reply of the board, as its text was written
pub says_text : (s : Attributes) (r : Request) (t : Reply) (b b' : BoardState) (before after : SinkState) (by : Option SessionEnd) (bytes : List ℕ) (turn : Turn) → end_after r t ≡ by → letters_of t ≡ [] → Replies s (r, t) b b'
    → bytes ≡ reply_text s t → SaysText by bytes before after turn → GivesReply (session_conduct s) r b b' before after turn.by turn.written
says_text s r t b b' before after by bytes turn is without q same said =
    gives_reply (session_conduct s) r t turn.by b b' before after bytes turn.written q (λ out. replies_in_part s (r, t) out b b' without q) (is ∙ sym said.0) same said.1

-- a refused line is answered by its refusal
pub replies_refused : (s : Attributes) (r : Refusal) (b : BoardState) → Replies s (refused r, refusal r) b b
replies_refused s r b = record {
  steps = still s (refused r, refusal r) b (λ h w. (refl, refl)) (λ h. refl) refl refl refl tt refl;
  tied = tied_one (refused r, refusal r) b.counts b.counts (NoneFalls-same b.counts)
      (λ e. absurd cc) refl refl (λ e. absurd cc);
  puts = puts_unread b.box (refused r, refusal r) b.counts b.counts refl refl;
  letters = letters_by b.box (refused r, refusal r) b b refl refl (letters_still b) (λ h box. (tt, refl));
}

pub unread_event : (s : Attributes) (r : Request) (b : BoardState) → is_reading r ≡ true → Replies s (r, no_memory) b b
unread_event s r b is =
    let f = refused_memory r is in
    record {
      steps = still s (r, no_memory) b (f.answers s b.word.session) f.zero f.on refl refl (f.removal b.word.session b.word.known) refl;
      tied = tied_one (r, no_memory) b.counts b.counts (NoneFalls-same b.counts)
          (λ e. let x = sym f.read ∙ e in absurd cc) refl refl (λ e. let x = sym f.short ∙ e in absurd cc);
      puts = puts_unread b.box (r, no_memory) b.counts b.counts f.read refl;
      letters = letters_by b.box (r, no_memory) b b refl refl (letters_still b) f.boxed;
    }

-- memory was wanting to read the line
pub replies_unread : (s : Attributes) (r : Request) (b : BoardState) → TakesMemory r → Replies s (r, no_memory) b b
replies_unread s (subscribe name conj) b takes = record {
  steps = still s (subscribe name conj, no_memory) b (λ h w. refl) (λ h. refl) refl refl refl tt refl;
  tied = tied_one (subscribe name conj, no_memory) b.counts b.counts (NoneFalls-same b.counts)
      (λ e. absurd cc) refl refl (λ e. absurd cc);
  puts = puts_unread b.box (subscribe name conj, no_memory) b.counts b.counts refl refl;
  letters = letters_by b.box (subscribe name conj, no_memory) b b refl refl (letters_still b) (λ h box. (tt, refl));
}
replies_unread s (publish e) b takes = unread_event s (publish e) b refl
replies_unread s (costing e) b takes = unread_event s (costing e) b refl
replies_unread s (sending e) b takes = unread_event s (sending e) b refl
replies_unread s _ b takes = absurd takes

-- a short reply gives no letters, and ends the session so
no_letters : (short : Short) → letters_of (plain_reply short) ≡ []
no_letters (Split i j) = refl
no_letters _ = refl

end_short : (r : Request) (short : Short) → is_quit r ≡ false → end_after r (plain_reply short) ≡ short_end false short
end_short quit short e = absurd cc
end_short _ (Split i j) e = refl
end_short _ _ e = refl

end_quit : (short : Short) → end_after quit (plain_reply short) ≡ short_end true short
end_quit (Split i j) = refl
end_quit _ = refl

-- a short reply to a request other than QUIT
pub says_short : (s : Attributes) (r : Request) (short : Short) (b b' : BoardState) (before after : SinkState) (turn : Turn) → is_quit r ≡ false → Replies s (r, plain_reply short) b b'
    → Says (short_end false short) (plain_reply short) before after turn → GivesReply (session_conduct s) r b b' before after turn.by turn.written
says_short s r short b b' before after turn on q said =
    says_text s r (plain_reply short) b b' before after (short_end false short) (reply_text s (plain_reply short)) turn (end_short r short on) (no_letters short) q refl (said s)

-- and to a QUIT
pub says_bye : (s : Attributes) (short : Short) (b b' : BoardState) (before after : SinkState) (turn : Turn) → Replies s (quit, plain_reply short) b b'
    → Says (short_end true short) (plain_reply short) before after turn → GivesReply (session_conduct s) quit b b' before after turn.by turn.written
says_bye s short b b' before after turn q said =
    says_text s quit (plain_reply short) b b' before after (short_end true short) (reply_text s (plain_reply short)) turn (end_quit short) (no_letters short) q refl (said s)

-- a reply that was built in the room, or a short one in its place
pub says_built : (s : Attributes) (r : Request) (built : Result (Unit {0}) Short) (bytes : List ℕ) (b b' : BoardState) (before after : SinkState) (turn : Turn) → is_quit r ≡ false
    → OnOk built (IsTold s r bytes b b') → IfErr built (λ short. Replies s (r, plain_reply short) b b')
    → OnOk built (SaysText None bytes before after turn) → IfErr built (λ short. Says (short_end false short) (plain_reply short) before after turn) → GivesReply (session_conduct s) r b b' before after turn.by turn.written
says_built s r (Ok u) bytes b b' before after turn on told denied said short =
    says_text s r told.0 b b' before after None bytes turn told.3 told.4 told.1 told.2 said
says_built s r (Err x) bytes b b' before after turn on told denied said short = says_short s r x b b' before after turn on denied short

-- memory was wanting to read the line, and the reply says so
pub says_unread : (s : Attributes) (r : Request) (b : BoardState) (before after : SinkState) (turn : Turn) → TakesMemory r → Says None no_memory before after turn → GivesReply (session_conduct s) r b b before after turn.by turn.written
says_unread s r b before after turn takes said =
    says_text s r no_memory b b before after None (reply_text s no_memory) turn (on r takes) refl (replies_unread s r b takes) refl (said s)
  where
    on : (r : Request) → TakesMemory r → end_after r no_memory ≡ None
    on (subscribe name conj) t = refl
    on (publish e) t = refl
    on (costing e) t = refl
    on (sending e) t = refl
    on _ t = absurd t

-- the session goes on unless the reply ended it
pub ready_then : (s : Attributes) (r : Request) (b b' : BoardState) (before after : SinkState) (by : Option SessionEnd) (written : Result (Unit {0}) SinkFault) → GivesReply (session_conduct s) r b b' before after by written → is_gone b ≡ false → b.schema ≡ s → by ≡ None
    → (is_gone b' ≡ false) × (b'.schema ≡ s)
ready_then s r b b' before after by (Ok u) w present schema on = (w.replies.steps.present present (ap has_not_ended (w.ends ∙ on)), w.replies.steps.goes.schema ∙ schema)
ready_then s r b b' before after by (Err fault) c present schema on = (c.replies.steps.present present (ap has_not_ended (c.ends ∙ on)), c.replies.steps.goes.schema ∙ schema)
