-- What the exchanges of a conversation made of the glass, from exchange to exchange, and how the conversation ended by that.
use Rattle.std.proofs.Common.{◌≡◌, inl, inr, ℕ, ◌+◌, ◌≤◌, ◌&&◌, Bool, true, false, List, [], ◌∷◌, ◌++◌, length, map, Option, Some, None, refl, sym, ap, ◌∙◌, subst, append_assoc}
use Rattle.std.specs.List.{list_all}
use Rattle.std.proofs.lemmas.List.{append-nil}
use Rattle.be_base.specs.Lists.{BeginsWith}
use Rattle.be_base.proofs.Beginnings.{BeginsWith-same, BeginsWith-along}
use Rattle.be_io.specs.Lines.{TextLine}
use Rattle.be_io.specs.Outside.{LinkState}
use Rattle.be_model.specs.Schemas.{Attributes}
use Rattle.be_model.proofs.Attributes.{and_left, and_right}
use Rattle.be_change.specs.History.{Entry}
use Rattle.be_change.specs.Requests.{Request, quit, split, Exchange}
use Rattle.be_change.specs.Walk.{Walk, beginning_at}
use Rattle.be_published.specs.States.{GlassState}
use Rattle.be_protocol.specs.Conduct.{is_sixteenth, TendsIf, Trace, RepliesSoFar, LeavesIf, Led, LedInPart, leading}
use Rattle.be_protocol.specs.Conversation.{EndedByReply, ConversationEnds}
use Rattle.be_protocol.specs.Ends.{end_after, goes_on, has_not_ended, EndsBy}
use Rattle.be_protocol.specs.Runs.{is_quit}
use Rattle.be_protocol.specs.Transcript.{AnswersEach, requests}
use Rattle.be_protocol.specs.declared.ends.SessionEnd.{SessionEnd}
use Rattle.be_protocol.specs.declared.ends.SessionEnd.TheVariants as ends
use Rattle.be_protocol.proofs.Going.{trace_pop}
use Rattle.be_protocol.proofs.Under.{ends_under, ends_give}
use Rattle.be_mirror.specs.Asked.{mirror_reading}
use Rattle.be_mirror.specs.Legal.{MirrorAnswers}
use Rattle.be_mirror.specs.Reading.{AreAnswered, AreTied, Showed, mirror_terms, MirrorSessionEnds}
use Rattle.be_mirror.specs.Sessions.{ReadReplies, mirror_conduct}
use Rattle.be_mirror.proofs.Said.{no_split}
use Rattle.be_mirror.proofs.Tying.{tied_none, tied_on}

-- a walk over the list, led on by these exchanges, has seen no more than is known then
record IsLedBy (s : Attributes) (h : List Entry) (ended : Bool) (ps : List Exchange) (w : Walk) (known : List Entry) : Type 0 where
  end : Walk
  answered : AreAnswered s h ps w end
  seen : end.seen ≤ length known
  has_ended : end.ended ≡ ended

-- what these exchanges made of the glass, and whether they ended the session
record Shows (s : Attributes) (ended : Bool) (ps : List Exchange) (g g' : GlassState) : Type 0 where
  grows : BeginsWith g'.known g.known
  borne : (h : List Entry) (w : Walk) → BeginsWith h g'.known → w.seen ≤ length g.known → w.ended ≡ false → IsLedBy s h ended ps w g'.known
  tied : AreTied ps g g'

nothing_shown : (s : Attributes) (g : GlassState) → Shows s false [] g g
nothing_shown s g = record {
  grows = BeginsWith-same g.known;
  borne = λ h w begins seen going. record { end = w; answered = refl; seen = seen; has_ended = going };
  tied = tied_none g;
}

answered_on : (s : Attributes) (h : List Entry) (ps : List Exchange) (p : Exchange) (w m e : Walk) → AreAnswered s h ps w m → m.ended ≡ false → MirrorAnswers s h p.0 p.1 m e → AreAnswered s h (ps ++ p ∷ []) w e
answered_on s h [] p w m e still on one = (ap (λ (x : Walk). x.ended) (sym still) ∙ on, e, subst (λ (x : Walk). MirrorAnswers s h p.0 p.1 x e) still one, refl)
answered_on s h (q ∷ qs) p w m e (going, next, first, rest) on one = (going, next, first, answered_on s h qs p next m e rest on one)

-- one more exchange
shows_on : (s : Attributes) (ps : List Exchange) (p : Exchange) (a b c : GlassState) → Shows s false ps a b → ReadReplies s p b c → Shows s (is_quit p.0) (ps ++ p ∷ []) a c
shows_on s ps p a b c f q = record {
  grows = BeginsWith-along c.known b.known a.known q.steps.grows f.grows;
  borne = λ h w begins seen going.
      let before = f.borne h w (BeginsWith-along h c.known b.known begins q.steps.grows) seen going in
      let led = q.steps.borne h before.end begins before.seen before.has_ended in
      record {
        end = led.next;
        answered = answered_on s h ps p w before.end led.next before.answered before.has_ended led.answers;
        seen = led.seen;
        has_ended = led.ended;
      };
  tied = tied_on ps p a b c f.tied q.counts;
}

no_quit : (p : Exchange) → goes_on p ≡ true → is_quit p.0 ≡ false
no_quit (quit, split i j) on = absurd cc
no_quit (quit, _) on = absurd cc
no_quit (_, _) on = refl

-- a glass stays as it is between two lines
rested : (s : Attributes) (due : Bool) (a b : GlassState) → TendsIf (mirror_conduct s) due a b → b ≡ a
rested s true a b same = same
rested s false a b same = same

-- exchanges none of which ended the session
shows_all : (s : Attributes) (n : ℕ) (qs ps : List Exchange) (a b c : GlassState) → Shows s false ps a b → list_all goes_on qs ≡ true → Trace (mirror_conduct s) n qs b c → Shows s false (ps ++ qs) a c
shows_all s n [] ps a b c f on t = subst (λ (x : GlassState). Shows s false (ps ++ []) a x) (sym t) (subst (λ (xs : List Exchange). Shows s false xs a b) (sym (append-nil ps)) f)
shows_all s n (q ∷ qs) ps a b c f on (d, e, replies, tends, t) =
    let goes : is_quit q.0 ≡ false = no_quit q (and_left (goes_on q) (list_all goes_on qs) on) in
    let one : Shows s false (ps ++ q ∷ []) a d = subst (λ (x : Bool). Shows s x (ps ++ q ∷ []) a d) goes (shows_on s ps q a b d f replies) in
    let later : Shows s false (ps ++ q ∷ []) a e = subst (λ (x : GlassState). Shows s false (ps ++ q ∷ []) a x) (sym (rested s (goes_on q && is_sixteenth (n + 1)) d e tends)) one in
    subst (λ (xs : List Exchange). Shows s false xs a c) (append_assoc ps (q ∷ []) qs)
    (shows_all s (n + 1) qs (ps ++ q ∷ []) a e c later (and_right (goes_on q) (list_all goes_on qs) on) t)

shows_going : (s : Attributes) (ps : List Exchange) (g g' : GlassState) → list_all goes_on ps ≡ true → Trace (mirror_conduct s) 0 ps g g' → Shows s false ps g g'
shows_going s ps g g' on t = shows_all s 0 ps [] g g g' (nothing_shown s g) on t

each_is : (ended : Bool) (asked answered : List Request) → answered ≡ asked → AnswersEach ended asked answered
each_is true asked answered same = ([], sym same ∙ sym (append-nil answered))
each_is false asked answered same = same

showed_by : (s : Attributes) (ended : Bool) (lines : List TextLine) (ps : List Exchange) (g g' : GlassState) → requests ps ≡ map (mirror_reading s) lines → Shows s ended ps g g' → Showed s lines ps g g'
showed_by s ended lines ps g g' same f = record {
  grows = f.grows;
  borne = λ h z begins within.
      let led = f.borne h (beginning_at z) begins within refl in
      record { end = led.end; answered = led.answered; each = each_is led.end.ended (map (mirror_reading s) lines) (requests ps) same };
  tied = f.tied;
}

-- at its end nothing happens
left_so : (s : Attributes) (on : Bool) (g g' : GlassState) → LeavesIf (mirror_conduct s) on g g' → g' ≡ g
left_so s true g g' same = same
left_so s false g g' same = same

-- the exchanges of a conversation, the last of which ended it or none did
showed : (s : Attributes) (end : Option SessionEnd) (lines : List TextLine) (ps : List Exchange) (g g' : GlassState) → requests ps ≡ map (mirror_reading s) lines → EndsBy end ps → Trace (mirror_conduct s) 0 ps g g' → Showed s lines ps g g'
showed s None lines ps g g' same on t = showed_by s false lines ps g g' same (shows_going s ps g g' on t)
showed s (Some end) lines ps g g' same (front, last, is, on, by) t =
    let pop = trace_pop (mirror_conduct s) front last g g' (ap has_not_ended by) (subst (λ (xs : List Exchange). Trace (mirror_conduct s) 0 xs g g') is t) in
    let all : Shows s (is_quit last.0) (front ++ last ∷ []) g g' = shows_on s front last g pop.0 g' (shows_going s front g pop.0 on pop.1) pop.2 in
    showed_by s (is_quit last.0) lines ps g g' same (subst (λ (xs : List Exchange). Shows s (is_quit last.0) xs g g') (sym is) all)

led_showed : (s : Attributes) (end : Option SessionEnd) (lines : List TextLine) (ps : List Exchange) (g g' : GlassState) → requests ps ≡ map (mirror_reading s) lines → EndsBy end ps → Led (mirror_conduct s) (has_not_ended end) ps g g' → Showed s lines ps g g'
led_showed s end lines ps g g' same ends l =
    subst (λ (x : GlassState). Showed s lines ps g x) (sym (left_so s (has_not_ended end) l.last g' l.left)) (showed s end lines ps g l.last same ends l.trace)

-- a reply is whole as a value, however much of it was written
so_far : (s : Attributes) (p : Exchange) (out : List ℕ) (g g' : GlassState) → RepliesSoFar (mirror_conduct s) p out g g' → ReadReplies s p g g'
so_far s p out g g' (inl whole) = whole.0
so_far s p out g g' (inr part) = part

cut_showed : (s : Attributes) (lines : List TextLine) (ps : List Exchange) (p : Exchange) (out : List ℕ) (g g' : GlassState) → requests (ps ++ p ∷ []) ≡ map (mirror_reading s) lines → EndsBy None ps → LedInPart (mirror_conduct s) ps p out g g' → Showed s lines (ps ++ p ∷ []) g g'
cut_showed s lines ps p out g g' same on l =
    let last : ReadReplies s p l.before l.last = so_far s p l.part l.before l.last l.replies in
    subst (λ (x : GlassState). Showed s lines (ps ++ p ∷ []) g x) (sym (left_so s (has_not_ended (end_after p.0 p.1)) l.last g' l.left))
    (showed_by s (is_quit p.0) lines (ps ++ p ∷ []) g l.last same (shows_on s ps p g l.before l.last (shows_going s ps g l.before on l.trace) last))

-- no reply that ended the conversation tells two numbers that differ
ends_unsplit : (s : Attributes) (g g' : GlassState) (i j : ℕ) (before after : LinkState) → EndedByReply (leading (mirror_conduct s) g g') (ends.Split i j) before after → ⊥
ends_unsplit s g g' i j before after e = by e.replied.ends
  where
    not_so : (p : Exchange) (a b : GlassState) → ReadReplies s p a b → end_after p.0 p.1 ≡ Some (ends.Split i j) → ⊥
    not_so (r, split k l) a b q is = no_split s r k l a.known b.known q.steps
    not_so (quit, _) a b q is = absurd cc
    not_so (_, _) a b q is = absurd cc

    by : EndsBy (Some (ends.Split i j)) e.replied.exchanges → ⊥
    by (front, last, is, on, split_so) =
        let l = e.replied.legal in
        let pop = trace_pop (mirror_conduct s) front last g l.last (ap has_not_ended split_so) (subst (λ (xs : List Exchange). Trace (mirror_conduct s) 0 xs g l.last) is l.trace) in
        not_so last pop.0 l.last pop.2 split_so

-- what its exchanges made of the glass, however it ended
ended_under : (U V : Type 0) (s : Attributes) (g g' : GlassState) (before after : LinkState) (end : SessionEnd) → (U → V) → ConversationEnds U (leading (mirror_conduct s) g g') before after end
    → ConversationEnds V (mirror_terms s g g') before after end
ended_under U V s g g' before after end untouched e =
    ends_under U V (leading (mirror_conduct s) g g') (λ end lines ps. Showed s lines ps g g') (λ lines ps p out. Showed s lines (ps ++ p ∷ []) g g') untouched
    (λ end lines ps same ends l. led_showed s end lines ps g g' same ends l) (λ lines ps p out same ends l. cut_showed s lines ps p out g g' same ends l) before after end e

-- how the session ended
pub session_ended : (U V : Type 0) (s : Attributes) (g g' : GlassState) (before after : LinkState) (end : SessionEnd) → (U → V) → ConversationEnds U (leading (mirror_conduct s) g g') before after end → MirrorSessionEnds V s before after g g' end
session_ended U V s g g' before after ends.Eof untouched e = ended_under U V s g g' before after ends.Eof untouched e
session_ended U V s g g' before after ends.Quit untouched e = ended_under U V s g g' before after ends.Quit untouched e
session_ended U V s g g' before after ends.ReadFault untouched e = ended_under U V s g g' before after ends.ReadFault untouched e
session_ended U V s g g' before after ends.WriteFault untouched e = ended_under U V s g g' before after ends.WriteFault untouched e
session_ended U V s g g' before after ends.Spent untouched e = ended_under U V s g g' before after ends.Spent untouched e
session_ended U V s g g' before after ends.NoMemory untouched e = ended_under U V s g g' before after ends.NoMemory untouched e
session_ended U V s g g' before after (ends.Split i j) untouched e = absurd (ends_unsplit s g g' i j before after e)

-- what is known only grew
pub session_grew : (U : Type 0) (s : Attributes) (g g' : GlassState) (before after : LinkState) (end : SessionEnd) → (U → g' ≡ g) → ConversationEnds U (leading (mirror_conduct s) g g') before after end → BeginsWith g'.known g.known
session_grew U s g g' before after end untouched e =
    ends_give U (mirror_terms s g g') (BeginsWith g'.known g.known) before after end (λ u. subst (λ (x : GlassState). BeginsWith x.known g.known) (sym (untouched u)) (BeginsWith-same g.known))
    (λ by lines ps ends l. l.grows) (λ lines ps p out ends l. l.grows) (ended_under U U s g g' before after end (λ u. u) e)
