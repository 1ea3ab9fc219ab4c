-- A reply was written, and handed on where that was due, or the output broke off at it.
use Rattle.std.proofs.Common.{◌≡◌, inl, inr, ◌⊎◌, ℕ, ◌<◌, Bool, true, false, List, [], ◌++◌, length, take, drop, Option, Result, Ok, Err, refl, sym, ap, ◌∙◌, subst, arith, length-drop}
use Rattle.std.proofs.lemmas.List.{append-nil, take-append-drop}
use Rattle.be_base.specs.Counts.{HasRisen}
use Rattle.be_io.specs.Told.{HoldsMore}
use Rattle.be_io.specs.Sink.{SinkState, Wrote}
use Rattle.be_io.specs.declared.faults.SinkFault.{SinkFault}
use Rattle.be_io.specs.declared.faults.SinkFault.TheVariants.{Failed, NoMemory}
use Rattle.be_change.specs.Requests.{Request, Reply}
use Rattle.be_protocol.specs.Conduct.{Conduct, WroteInPart, RepliedTo, GivesReply}
use Rattle.be_protocol.specs.Ends.{end_after}
use Rattle.be_protocol.specs.Replies.{reply_text}
use Rattle.be_protocol.specs.Turns.{HandsOn, HandsOver, StopsAt, AnswersOn}
use Rattle.be_protocol.specs.declared.ends.SessionEnd.{SessionEnd}

pub cut_text : (bytes : List ℕ) (fault : SinkFault) (before after : SinkState) → Wrote before after bytes (Err fault) → (k : ℕ) × WroteInPart bytes fault (take k bytes) before after
cut_text bytes Failed before after w =
    (w.0.0, record { once = inr w.2; written = w.0.2; missing = drop w.0.0 bytes; some = omega (arith, length-drop w.0.0 bytes, w.0.1); is_text = sym (take-append-drop w.0.0 bytes); refused = w.1 })
cut_text bytes NoMemory before after w =
    (w.0.0, record { once = inl w.2; written = w.0.2; missing = drop w.0.0 bytes; some = omega (arith, length-drop w.0.0 bytes, w.0.1); is_text = sym (take-append-drop w.0.0 bytes); refused = w.1 })

-- the text of a reply was written, as far as the sink took it
pub gives_reply : {S : Type 0} (m : Conduct S) (r : Request) (reply : Reply) (by : Option SessionEnd) (a b : S) (before after : SinkState) (bytes : List ℕ) (written : Result (Unit {0}) SinkFault)
    → m.Replies (r, reply) a b → ((out : List ℕ) → m.RepliesInPart (r, reply) out a b) → end_after r reply ≡ by → bytes ≡ reply_text m.schema reply → Wrote before after bytes written → GivesReply m r a b before after by written
gives_reply m r reply by a b before after bytes (Ok u) whole part ends is w =
    record { reply = reply; replies = whole; ends = ends; written = subst (λ (x : List ℕ). HoldsMore before.held after.held x) is w.0; faults = w.1; refusals = w.2 }
gives_reply m r reply by a b before after bytes (Err fault) whole part ends is w =
    let c = cut_text (reply_text m.schema reply) fault before after (subst (λ (x : List ℕ). Wrote before after x (Err fault)) is w) in
    let out : List ℕ = take c.0 (reply_text m.schema reply) in
    record { reply = reply; out = out; replies = part out; ends = ends; wrote = c.1 }

-- nothing but the count of faults and what is kept back changed
record HandedOn (before after : SinkState) : Type 0 where
  pub held : after.held ≡ before.held
  pub faults : after.faults ≡ before.faults
  pub refusals : after.refusals ≡ before.refusals

handed_on : (due : Bool) (before after : SinkState) → HandsOn due before after (Ok tt) → HandedOn before after
handed_on true before after h =
    record { held = ap (λ (x : SinkState). x.held) h; faults = ap (λ (x : SinkState). x.faults) h; refusals = ap (λ (x : SinkState). x.refusals) h }
handed_on false before after h =
    record { held = ap (λ (x : SinkState). x.held) h.0; faults = ap (λ (x : SinkState). x.faults) h.0; refusals = ap (λ (x : SinkState). x.refusals) h.0 }

none_kept : (due : Bool) (before after : SinkState) → HandsOn due before after (Ok tt) → due ≡ true → after.kept_back ≡ 0
none_kept true before after h e = ap (λ (x : SinkState). x.kept_back) h
none_kept false before after h e = absurd cc

-- the text was taken whole before, and handing it on was refused
broke_behind : (due : Bool) (text : List ℕ) (fault : SinkFault) (before mid after : SinkState) → HoldsMore before.held mid.held text → mid.faults ≡ before.faults → mid.refusals ≡ before.refusals
    → HandsOn due mid after (Err fault) → StopsAt text fault text before after
broke_behind true text Failed before mid after w f r h = record {
  written = subst (λ (o : Option (List ℕ)). HoldsMore before.held o text) (sym (ap (λ (x : SinkState). x.held) h.0)) w;
  missing = [];
  some = inr (refl, h.2.0);
  is_text = sym (append-nil text);
  refused = subst (λ (n : ℕ). HasRisen n after.faults) f h.1;
  once = inr (ap (λ (x : SinkState). x.refusals) h.0 ∙ r);
}
broke_behind true text NoMemory before mid after w f r h = record {
  written = subst (λ (o : Option (List ℕ)). HoldsMore before.held o text) (sym (ap (λ (x : SinkState). x.held) h.0)) w;
  missing = [];
  some = inr (refl, h.2.0);
  is_text = sym (append-nil text);
  refused = subst (λ (n : ℕ). HasRisen n after.refusals) r h.1;
  once = inl (ap (λ (x : SinkState). x.faults) h.0 ∙ f);
}
broke_behind false text fault before mid after w f r h = let no : Err fault ≡ Ok tt = h.1 in absurd cc

broke_within : (text : List ℕ) (fault : SinkFault) (out : List ℕ) (before after : SinkState) → WroteInPart text fault out before after → StopsAt text fault out before after
broke_within text fault out before after w = record { written = w.written; missing = w.missing; some = inl w.some; is_text = w.is_text; refused = w.refused; once = w.once }

-- an answer, and the handing on behind it
pub answers_on : {S : Type 0} (m : Conduct S) (r : Request) (due : Bool) (a b : S) (before mid after : SinkState) (by : Option SessionEnd) (written handed : Result (Unit {0}) SinkFault)
    → GivesReply m r a b before mid by written → HandsOver due mid after written handed → AnswersOn m r due a b before after by handed
answers_on m r due a b before mid after by (Ok u) (Ok v) w h =
    let k = handed_on due mid after h in (
      record {
        reply = w.reply;
        replies = w.replies;
        ends = w.ends;
        written = subst (λ (o : Option (List ℕ)). HoldsMore before.held o (reply_text m.schema w.reply)) (sym k.held) w.written;
        faults = k.faults ∙ w.faults;
        refusals = k.refusals ∙ w.refusals;
      },
      none_kept due mid after h,
    )
answers_on m r due a b before mid after by (Ok u) (Err fault) w h = record {
  reply = w.reply;
  out = reply_text m.schema w.reply;
  replies = inl (w.replies, refl);
  ends = w.ends;
  wrote = broke_behind due (reply_text m.schema w.reply) fault before mid after w.written w.faults w.refusals h;
}
answers_on m r due a b before mid after by (Err fault) handed c h =
    subst (λ (x : Result (Unit {0}) SinkFault). AnswersOn m r due a b before after by x) (sym h.1)
    (record {
      reply = c.reply;
      out = c.out;
      replies = inr c.replies;
      ends = c.ends;
      wrote = broke_within (reply_text m.schema c.reply) fault c.out before after (subst (λ (x : SinkState). WroteInPart (reply_text m.schema c.reply) fault c.out before x) (sym h.0) c.wrote);
    })
