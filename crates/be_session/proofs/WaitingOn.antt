-- What was handed on before a wait changes nothing of the reply behind it.
use Rattle.std.proofs.Common.{◌≡◌, inl, inr, ◌<◌, List, [], length, Option, None, Result, Ok, Err, refl, sym, ap, ◌∙◌, subst, arith}
use Rattle.std.proofs.lemmas.List.{append-nil}
use Rattle.std.proofs.lemmas.List.Elements.{All-nil}
use Rattle.be_base.specs.Counts.{HasRisen}
use Rattle.be_io.specs.Told.{HoldsMore}
use Rattle.be_io.specs.Sink.{SinkState, Flushed}
use Rattle.be_io.specs.declared.faults.SinkFault.{SinkFault}
use Rattle.be_io.specs.declared.faults.SinkFault.TheVariants.{Failed, NoMemory}
use Rattle.be_io.proofs.ToldLemmas.{HoldsMore-nil}
use Rattle.be_model.specs.Schemas.{Attributes}
use Rattle.be_change.specs.Requests.{Request, fetching, tailing, notes, no_memory}
use Rattle.be_protocol.specs.Conduct.{Refused, GivesReply, RepliedInPartTo, WroteInPart}
use Rattle.be_protocol.specs.Conversation.{RefusedOnce}
use Rattle.be_protocol.specs.Replies.{reply_text}
use Rattle.be_protocol.specs.declared.ends.SessionEnd.{SessionEnd}
use Rattle.be_board.specs.State.{BoardState}
use Rattle.be_board.proofs.Going.{GoesOn-same}
use Rattle.be_session.specs.Fetching.{Draws}
use Rattle.be_session.specs.Given.{GivesInPart}
use Rattle.be_session.specs.Steps.{session_conduct}
use Rattle.be_session.specs.Waiting.{HandsOn}
use Rattle.be_session.proofs.FetchingEnds.{fetch_steps, part_tied}
use Rattle.be_session.proofs.Said.{replies_in_part, unread_event}
use Rattle.be_session.proofs.Tying.{puts_one}

pub handed : (before after : SinkState) (result : Result (Unit {0}) SinkFault) → Flushed before after result → HandsOn before after result
handed before after (Ok u) f = (ap (λ (s : SinkState). s.held) f, ap (λ (s : SinkState). s.faults) f, ap (λ (s : SinkState). s.refusals) f)
handed before after (Err Failed) f = (ap (λ (s : SinkState). s.held) f.0, f.1, inr (ap (λ (s : SinkState). s.refusals) f.0))
handed before after (Err NoMemory) f = (ap (λ (s : SinkState). s.held) f.0, f.1, inl (ap (λ (s : SinkState). s.faults) f.0))

-- a sink that was handed on before the reply
refused_behind : (fault : SinkFault) (before mid after : SinkState) → mid.faults ≡ before.faults → mid.refusals ≡ before.refusals → Refused fault mid after → Refused fault before after
refused_behind Failed before mid after e f r = subst (λ n. HasRisen n after.faults) e r
refused_behind NoMemory before mid after e f r = subst (λ n. HasRisen n after.refusals) f r

once_behind : (before mid after : SinkState) → mid.faults ≡ before.faults → mid.refusals ≡ before.refusals → RefusedOnce mid after → RefusedOnce before after
once_behind before mid after e f (inl same) = inl (same ∙ e)
once_behind before mid after e f (inr same) = inr (same ∙ f)

pub gives_behind : (s : Attributes) (r : Request) (b b' : BoardState) (before mid after : SinkState) (by : Option SessionEnd) (result : Result (Unit {0}) SinkFault)
    → HandsOn before mid (Ok tt) → GivesReply (session_conduct s) r b b' mid after by result → GivesReply (session_conduct s) r b b' before after by result
gives_behind s r b b' before mid after by (Ok u) h g = record {
  reply = g.reply;
  replies = g.replies;
  ends = g.ends;
  written = subst (λ (o : Option (List _)). HoldsMore o after.held (reply_text s g.reply)) h.0 g.written;
  faults = g.faults ∙ h.1;
  refusals = g.refusals ∙ h.2;
}
gives_behind s r b b' before mid after by (Err fault) h g = record {
  reply = g.reply;
  out = g.out;
  replies = g.replies;
  ends = g.ends;
  wrote = record {
    written = subst (λ (o : Option (List _)). HoldsMore o after.held g.out) h.0 g.wrote.written;
    missing = g.wrote.missing;
    some = g.wrote.some;
    is_text = g.wrote.is_text;
    refused = refused_behind fault before mid after h.1 h.2 g.wrote.refused;
    once = once_behind before mid after h.1 h.2 g.wrote.once;
  };
}

-- the sink refused to hand on, so nothing was written of the reply
none_written : (before after : SinkState) (fault : SinkFault) (text : List _) → 0 < length text → HandsOn before after (Err fault) → WroteInPart text fault [] before after
none_written before after fault text some h = record {
  written = subst (λ (o : Option (List _)). HoldsMore before.held o []) (sym h.0) (HoldsMore-nil before.held);
  missing = text;
  some = some;
  is_text = refl;
  refused = h.1;
  once = h.2;
}

-- then no letter was taken
pub none_fetched : (s : Attributes) (max : _) (b : BoardState) (before after : SinkState) (fault : SinkFault) → b.box ≡ None → HandsOn before after (Err fault)
    → RepliedInPartTo (session_conduct s) (fetching max) None fault b b before after
none_fetched s max b before after fault untold h = record {
  reply = notes [];
  out = [];
  ends = refl;
  replies = record {
    steps = fetch_steps s max [] [] b b (GoesOn-same b) refl refl (subst (λ o. Draws o [] b b) (sym untold) (untold, [], sym (append-nil b.word.notes), refl)) (omega arith) (λ h bears. All-nil _);
    tied = part_tied max [] b b (GoesOn-same b) refl refl;
    puts = puts_one b.box (fetching max, notes []) b.counts b.counts refl refl;
    letters = subst (λ o. GivesInPart o s [] (fetching max, notes []) [] b b) (sym untold)
        (untold, ([], sym (append-nil b.word.notes), refl), record { taken = []; letters = refl; given = ([], refl) });
  };
  wrote = none_written before after fault (reply_text s (notes [])) (omega arith) h;
}

-- and no change was told
pub none_tailed : (s : Attributes) (place max : _) (b : BoardState) (before after : SinkState) (fault : SinkFault) → HandsOn before after (Err fault)
    → RepliedInPartTo (session_conduct s) (tailing place max) None fault b b before after
none_tailed s place max b before after fault h = record {
  reply = no_memory;
  out = [];
  ends = refl;
  replies = replies_in_part s (tailing place max, no_memory) [] b b refl (unread_event s (tailing place max) b refl);
  wrote = none_written before after fault (reply_text s no_memory) (omega arith) h;
}
