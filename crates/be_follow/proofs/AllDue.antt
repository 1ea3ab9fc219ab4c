-- The replies of a conversation with a follower are all due over its list.
use Rattle.std.proofs.Common.{◌≡◌, inl, inr, ℕ, ◌+◌, ◌&&◌, Bool, true, false, List, [], ◌∷◌, ◌++◌, All, Some, None, sym, ap, ◌∙◌, subst}
use Rattle.std.proofs.lemmas.List.Elements.{All-push, All-pop, All-cons, All-nil}
use Rattle.be_model.specs.Schemas.{Attributes}
use Rattle.be_change.specs.History.{Entry}
use Rattle.be_change.specs.Requests.{Exchange, Request, Reply, publish, quit, refused, split}
use Rattle.be_io.specs.Lines.{TextLine}
use Rattle.be_io.specs.Outside.{LinkState}
use Rattle.be_protocol.specs.Conduct.{is_sixteenth, TendsIf, Trace, RepliesSoFar, LedInPart, leading}
use Rattle.be_protocol.specs.Conversation.{ConversationEnds}
use Rattle.be_protocol.specs.Ends.{end_after, goes_on}
use Rattle.be_protocol.specs.declared.ends.SessionEnd.{SessionEnd}
use Rattle.be_protocol.specs.declared.ends.SessionEnd.TheVariants as ends
use Rattle.be_protocol.proofs.Under.{ends_under}
use Rattle.be_follow.specs.Asked.{IsDue}
use Rattle.be_follow.specs.Reads.{AreDue, reads_conduct, reads_terms, ReadsEnd}

-- the list is the same after all
all_due : (s : Attributes) (n : ℕ) (ps : List Exchange) (h h' : List Entry) → Trace (reads_conduct s) n ps h h' → AreDue h ps × (h' ≡ h)
all_due s n [] h h' t = (All-nil (λ (p : Exchange). IsDue h p.0 p.1), t)
all_due s n (p ∷ ps) h h' (b, c, (due, same), tends, t) =
    let rest = all_due s (n + 1) ps c h' t in
    let still : c ≡ h = rested (goes_on p && is_sixteenth (n + 1)) tends ∙ same in
    (All-cons (λ (q : Exchange). IsDue h q.0 q.1) p ps due (subst (λ (x : List Entry). AreDue x ps) still rest.0), rest.1 ∙ still)
  where
    rested : (is : Bool) → TendsIf (reads_conduct s) is b c → c ≡ b
    rested true e = e
    rested false e = e

so_far : (s : Attributes) (p : Exchange) (out : List ℕ) (h h' : List Entry) → RepliesSoFar (reads_conduct s) p out h h' → IsDue h p.0 p.1
so_far s p out h h' (inl r) = r.0.0
so_far s p out h h' (inr r) = r.0

in_part : (s : Attributes) (ps : List Exchange) (p : Exchange) (out : List ℕ) (h h' : List Entry) → LedInPart (reads_conduct s) ps p out h h' → AreDue h (ps ++ p ∷ [])
in_part s ps p out h h' l =
    let first = all_due s 0 ps h l.before l.trace in
    All-push (λ (q : Exchange). IsDue h q.0 q.1) ps p first.0 (subst (λ (x : List Entry). IsDue x p.0 p.1) first.1 (so_far s p l.part l.before l.last l.replies))

pub reads_end : (U V : Type 0) (s : Attributes) (h h' : List Entry) (before after : LinkState) (end : SessionEnd) → (U → V) → ConversationEnds U (leading (reads_conduct s) h h') before after end → ReadsEnd V s h before after end
reads_end U V s h h' before after end untouched e =
    by_end end (ends_under U V (leading (reads_conduct s) h h') (λ end lines ps. AreDue h ps) (λ lines ps p out. AreDue h (ps ++ p ∷ [])) untouched
    (λ end lines ps asked ends l. (all_due s 0 ps h l.last l.trace).0) (λ lines ps p out asked ends l. in_part s ps p out h h' l) before after end e)
  where
    no_split : (r : Request) (reply : Reply) (i j : ℕ) → IsDue h r reply → end_after r reply ≡ Some (ends.Split i j) → ⊥
    no_split (publish e) reply i j (inl due) is = let f : None ≡ Some (ends.Split i j) = sym (ap (end_after (publish e)) due) ∙ is in absurd cc
    no_split (publish e) reply i j (inr due) is = let f : None ≡ Some (ends.Split i j) = sym (ap (end_after (publish e)) due) ∙ is in absurd cc
    no_split quit reply i j due is = let f : Some ends.Quit ≡ Some (ends.Split i j) = sym (ap (end_after quit) due) ∙ is in absurd cc
    no_split (refused r) reply i j due is = let f : None ≡ Some (ends.Split i j) = sym (ap (end_after (refused r)) due) ∙ is in absurd cc
    no_split _ reply i j due is = absurd due

    by_end : (end : SessionEnd) → ConversationEnds V (reads_terms s h) before after end → ReadsEnd V s h before after end
    by_end ends.Eof e = e
    by_end ends.Quit e = e
    by_end ends.ReadFault e = e
    by_end ends.WriteFault e = e
    by_end ends.Spent e = e
    by_end ends.NoMemory e = e
    by_end (ends.Split i j) e =
        let last = e.replied.ends in
        let due = (All-pop (λ (p : Exchange). IsDue h p.0 p.1) e.replied.exchanges last.0 (Some last.1) last.2 e.replied.legal).1 in
        absurd (no_split last.1.0 last.1.1 i j due last.4)
