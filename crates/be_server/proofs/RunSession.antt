-- A session over a board that was opened with a table, and is nobody else's, is the session of a run.
use Rattle.std.proofs.Common.{◌≡◌, ℕ, ◌+◌, Bool, true, false, List, [], ◌∷◌, ◌++◌, map, Option, Some, None, refl, sym, ap, ◌∙◌, subst}
use Rattle.std.specs.List.{list_all}
use Rattle.be_io.specs.Lines.{TextLine}
use Rattle.be_io.specs.Outside.{LinkState}
use Rattle.be_model.specs.declared.changes.Row.{Row}
use Rattle.be_model.specs.Schemas.{Attributes}
use Rattle.be_change.specs.History.{is_opening}
use Rattle.be_change.specs.Opening.{opening_of, subs_of}
use Rattle.be_change.specs.Requests.{Exchange}
use Rattle.be_protocol.specs.Conversation.{ConversationEnds}
use Rattle.be_protocol.specs.Ends.{end_after, has_not_ended, goes_on, EndsBy}
use Rattle.be_protocol.specs.Readings.{reading}
use Rattle.be_protocol.specs.Runs.{AreRun, is_opened, comes_in_run}
use Rattle.be_protocol.specs.Transcript.{requests}
use Rattle.be_protocol.specs.declared.ends.SessionEnd.{SessionEnd}
use Rattle.be_protocol.specs.declared.ends.SessionEnd.TheVariants.{Eof, Quit, ReadFault, WriteFault, Spent, Split, NoMemory}
use Rattle.be_protocol.proofs.Under.{ends_under}
use Rattle.be_board.specs.Local.{opened_state}
use Rattle.be_board.specs.State.{BoardState}
use Rattle.be_board.specs.Word.{Keeps}
use Rattle.be_session.specs.Served.{BeginsAlone, RanOver, Upheld, UpheldInPart, session_terms, SessionEnds}
use Rattle.be_session.proofs.Quits.{Last, quits, stays, last_of, last_comes, never_splits, has_no_quit, ends_with_quit, still_no_quit}
use Rattle.be_server.specs.Run.{QuitsAtEnd, run_terms, SessionRuns}

-- an opening is entries of session 0
subs_open : (n : ℕ) (rows : List Row) → list_all is_opening (subs_of 0 n rows) ≡ true
subs_open n [] = refl
subs_open n (row ∷ rows) = subs_open (n + 1) rows

pub begins_alone : (s : Attributes) (rows : List Row) → Keeps (opening_of rows) (opened_state s rows).word → BeginsAlone (opened_state s rows)
begins_alone s rows keeps = record { alone = refl; told = refl; opening = subs_open 0 rows; keeps = keeps }

-- what ran over the opened board is a run
are_run : (s : Attributes) (rows : List Row) (on : Bool) (ls : List TextLine) (ps : List Exchange) (b' : BoardState) → RanOver s on ls ps (opened_state s rows) b' → AreRun s (opening_of rows) ls ps
are_run s rows on ls ps b' r = record {
  exchanges = r.exchanges;
  formed = r.formed;
  alone = r.replies;
  box = r.boxed.0;
  boxed = r.boxed.1;
}

-- where a last reply ended the session the last line alone is a QUIT, and else none is
quits_by_last : (s : Attributes) (ls : List TextLine) (ps : List Exchange) (p : Exchange) → requests (ps ++ p ∷ []) ≡ map (reading s) ls → list_all goes_on ps ≡ true → Last p → QuitsAtEnd (has_not_ended (end_after p.0 p.1)) s ls
quits_by_last s ls ps p asked on (quits is off) = subst (λ (o : Bool). QuitsAtEnd o s ls) (sym off) (ends_with_quit s ls ps p asked on is)
quits_by_last s ls ps p asked on (stays is still) = subst (λ (o : Bool). QuitsAtEnd o s ls) (sym still) (still_no_quit s ls ps p asked on is)

module _ (s : Attributes) (rows : List Row) (b' : BoardState) (alone : BeginsAlone (opened_state s rows)) where
  abbrev opened : Bool
  opened = is_opened (opening_of rows)

  -- no reply of a run is a SPLIT
  last_so : (on : Bool) (ls : List TextLine) (ps : List Exchange) (p : Exchange) → RanOver s on ls (ps ++ p ∷ []) (opened_state s rows) b' → Last p
  last_so on ls ps p ran = last_of opened p (last_comes opened ps p ran.replies.plain)

  quits_whole : (end : Option SessionEnd) (ls : List TextLine) (ps : List Exchange) → requests ps ≡ map (reading s) ls → EndsBy end ps → RanOver s (has_not_ended end) ls ps (opened_state s rows) b' → QuitsAtEnd (has_not_ended end) s ls
  quits_whole None ls ps asked on ran = has_no_quit s ls ps asked on
  quits_whole (Some end) ls ps asked (front, last, is, on, by) ran =
      let ran' = subst (λ (xs : List Exchange). RanOver s false ls xs (opened_state s rows) b') is ran in
      let asked' = subst (λ (xs : List Exchange). requests xs ≡ map (reading s) ls) is asked in
      subst (λ (o : Option SessionEnd). QuitsAtEnd (has_not_ended o) s ls) by (quits_by_last s ls front last asked' on (last_so false ls front last ran'))

  whole : (end : Option SessionEnd) (ls : List TextLine) (ps : List Exchange) → requests ps ≡ map (reading s) ls → EndsBy end ps → Upheld s (has_not_ended end) ls ps (opened_state s rows) b'
      → (run_terms s (opening_of rows)).Whole end ls ps
  whole end ls ps asked ends u = (are_run s rows (has_not_ended end) ls ps b' (u.alone alone), quits_whole end ls ps asked ends (u.alone alone))

  in_part : (ls : List TextLine) (ps : List Exchange) (p : Exchange) (out : List ℕ) → requests (ps ++ p ∷ []) ≡ map (reading s) ls → EndsBy None ps → UpheldInPart s ls ps p out (opened_state s rows) b'
      → (run_terms s (opening_of rows)).InPart ls ps p out
  in_part ls ps p out asked on u =
      let ran = u.alone alone in
      (are_run s rows (has_not_ended (end_after p.0 p.1)) ls (ps ++ p ∷ []) b' ran, quits_by_last s ls ps p asked on (last_so (has_not_ended (end_after p.0 p.1)) ls ps p ran))

  -- the session of a run
  pub session_runs : (Kept Untouched : Type 0) (before after : LinkState) (end : SessionEnd) → (Kept → Untouched) → SessionEnds Kept s before after (opened_state s rows) b' end
      → SessionRuns Untouched s (opening_of rows) before after end
  session_runs K U before after end kept e =
      by_end end e (ends_under K U (session_terms s (opened_state s rows) b') (run_terms s (opening_of rows)).Whole (run_terms s (opening_of rows)).InPart kept whole in_part before after end e)
    where
      by_end : (end : SessionEnd) → SessionEnds K s before after (opened_state s rows) b' end → ConversationEnds U (run_terms s (opening_of rows)) before after end → SessionRuns U s (opening_of rows) before after end
      by_end Eof e r = r
      by_end Quit e r = r
      by_end ReadFault e r = r
      by_end WriteFault e r = r
      by_end Spent e r = r
      by_end NoMemory e r = r
      by_end (Split i j) e r =
          let last = e.replied.ends in
          let ran = e.replied.legal.alone alone in
          let plain = subst (λ (xs : List Exchange). list_all (λ (q : Exchange). comes_in_run opened q.1) xs ≡ true) last.2 ran.replies.plain in
          absurd (never_splits opened last.0 last.1 i j plain last.4)

-- whatever it kept
pub kept_so : (U V : Type 0) (s : Attributes) (before after : LinkState) (b b' : BoardState) (end : SessionEnd) → (U → V) → SessionEnds U s before after b b' end → SessionEnds V s before after b b' end
kept_so U V s before after b b' end f e =
    ends_under U V (session_terms s b b') (session_terms s b b').Whole (session_terms s b b').InPart f (λ end ls ps asked ends u. u) (λ ls ps p out asked ends u. u) before after end e

-- a session over a board that was opened with the rows
pub ran_over : (U V : Type 0) (s s' s0 : Attributes) (rows : List Row) (before after : LinkState) (b b' : BoardState) (end : SessionEnd) → (U → V)
    → b ≡ opened_state s0 rows → Keeps b.word.known b.word → s0 ≡ s → s' ≡ s → SessionEnds U s' before after b b' end → SessionRuns V s (opening_of rows) before after end
ran_over U V s s' s0 rows before after b b' end f opened_so keeps same0 same e =
    let opened : b ≡ opened_state s rows = opened_so ∙ ap (λ (x : Attributes). opened_state x rows) same0 in
    let begins = begins_alone s rows (subst (λ (x : BoardState). Keeps x.word.known x.word) opened keeps) in
    let ends = subst (λ (x : BoardState). SessionEnds U s' before after x b' end) opened e in
    session_runs s rows b' begins U V before after end f (subst (λ (x : Attributes). SessionEnds U x before after (opened_state s rows) b' end) same ends)
