-- The exchanges of a session's conversation, as its board's word and counts bear them out.
use Rattle.std.proofs.Common.{◌≡◌, ◌≢◌, ◌+◌, ◌&&◌, Bool, true, false, List, [], ◌∷◌, ◌++◌, map, Option, Some, None, refl, sym, ap, ◌∙◌, subst, append_assoc, ℕ}
use Rattle.std.specs.List.{list_all, sum_by}
use Rattle.std.proofs.lemmas.List.{append-nil}
use Rattle.be_base.specs.Lists.{BeginsWith}
use Rattle.be_base.proofs.Beginnings.{BeginsWith-same}
use Rattle.be_io.specs.Lines.{TextLine}
use Rattle.be_model.specs.Letters.{PlainLetter}
use Rattle.be_model.specs.Schemas.{Attributes}
use Rattle.be_model.proofs.Attributes.{and_left, and_right}
use Rattle.be_change.specs.Requests.{quit, Exchange}
use Rattle.be_io.specs.Outside.{LinkState}
use Rattle.be_protocol.specs.Conduct.{is_sixteenth, TendsIf, Trace, LeavesIf, Led, LedInPart, leading}
use Rattle.be_protocol.specs.Conversation.{ConversationEnds}
use Rattle.be_protocol.specs.Ends.{end_after, has_not_ended, goes_on, EndsBy}
use Rattle.be_protocol.specs.Readings.{reading}
use Rattle.be_protocol.specs.Transcript.{requests, texts}
use Rattle.be_protocol.specs.declared.ends.SessionEnd.{SessionEnd}
use Rattle.be_protocol.proofs.Going.{trace_pop}
use Rattle.be_protocol.proofs.Under.{ends_under, ends_give}
use Rattle.be_board.specs.declared.answers.Answer.{Answer}
use Rattle.be_board.specs.Changes.{Asked}
use Rattle.be_board.specs.State.{BoardState}
use Rattle.be_board.specs.Word.{own_in}
use Rattle.be_board.proofs.Going.{GoesOn-same, gone_on, HasGoneOn-along}
use Rattle.be_session.specs.Given.{GivesInPart}
use Rattle.be_session.specs.Served.{RanOver, Upheld, UpheldInPart, SessionEnds, BoardLeft}
use Rattle.be_session.specs.SoFar.{BoardServes, Serves}
use Rattle.be_session.specs.Steps.{Replies, RepliesInPart, session_conduct}
use Rattle.be_session.specs.Tied.{letters_put, Tied, TiedPuts, TiedTends}
use Rattle.be_session.proofs.BearsOut.{adds_none, adds_along}
use Rattle.be_session.proofs.BoardWalks.{serves_first, serves_step, bears_step}
use Rattle.be_session.proofs.BorneOut.{adds_left, seen_out, borne_out, seen_left, borne_left, bears_left, left_still, left_so, ran_over, box_whole, box_cut}
use Rattle.be_session.proofs.GivingOn.{letters_none, letters_on, letters_then, letters_cut, letters_cut_then}
use Rattle.be_session.proofs.InPart.{in_part}
use Rattle.be_session.proofs.Tending.{serves_tended, tends_going, tends_ended, tends_then}
use Rattle.be_session.proofs.Tying.{tied_none, tied_on, tied_left, puts_none, puts_on, puts_then}

nothing_served : (s : Attributes) (b : BoardState) → own_in b.word ≡ [] → Serves s true [] b b
nothing_served s b first = record { board = serves_first s b first; tied = tied_none b.counts; puts = puts_none b.box b.counts; letters = letters_none b.box b refl }

-- one more exchange
serves_on : (s : Attributes) (ps : List Exchange) (p : Exchange) (b c d : BoardState) → Serves s true ps b c → Replies s p c d → Serves s (goes_on p) (ps ++ p ∷ []) b d
serves_on s ps p b c d g q = record {
  board = serves_step s ps p b c d g.board q.steps;
  tied = tied_on ps (p ∷ []) ps (p ∷ []) b.counts c.counts d.counts g.tied q.tied;
  puts = puts_on b.box ps (p ∷ []) b c d g.letters g.puts q.puts;
  letters = letters_on b.box ps (p ∷ []) b c d g.board.goes.session (λ h bears. bears_step s h p c d q.steps bears) g.letters q.letters;
}

serves_then : (s : Attributes) (on due : Bool) (ps : List Exchange) (b c d : BoardState) → Serves s on ps b c → TendsIf (session_conduct s) due c d → Serves s on ps b d
serves_then s on true ps b c d g tends = serves_tended s on ps b c d g tends
serves_then s on false ps b c d g same = subst (λ (x : BoardState). Serves s on ps b x) (sym same) g

-- exchanges none of which ended the session
serves_all : (s : Attributes) (n : ℕ) (qs ps : List Exchange) (b c d : BoardState) → Serves s true ps b c → list_all goes_on qs ≡ true → Trace (session_conduct s) n qs c d → Serves s true (ps ++ qs) b d
serves_all s n [] ps b c d g on t = subst (λ (x : BoardState). Serves s true (ps ++ []) b x) (sym t) (subst (λ (xs : List Exchange). Serves s true xs b c) (sym (append-nil ps)) g)
serves_all s n (q ∷ qs) ps b c d g on (e, f, replies, tends, t) =
    let one : Serves s true (ps ++ q ∷ []) b e = subst (λ (o : Bool). Serves s o (ps ++ q ∷ []) b e) (and_left (goes_on q) (list_all goes_on qs) on) (serves_on s ps q b c e g replies) in
    subst (λ (xs : List Exchange). Serves s true xs b d) (append_assoc ps (q ∷ []) qs)
    (serves_all s (n + 1) qs (ps ++ q ∷ []) b f d (serves_then s true (goes_on q && is_sixteenth (n + 1)) (ps ++ q ∷ []) b e f one tends) (and_right (goes_on q) (list_all goes_on qs) on) t)

-- the exchanges of a conversation, the last of which ended it or none did
serves_by : (s : Attributes) (end : Option SessionEnd) (ps : List Exchange) (b c : BoardState) → own_in b.word ≡ [] → EndsBy end ps → Trace (session_conduct s) 0 ps b c → Serves s (has_not_ended end) ps b c × TiedTends ps b c
serves_by s None ps b c first on t = (serves_all s 0 ps [] b b c (nothing_served s b first) on t, tends_going s ps b c on t)
serves_by s (Some end) ps b c first (front, last, is, on, by) t =
    let pop = trace_pop (session_conduct s) front last b c (ap has_not_ended by) (subst (λ (xs : List Exchange). Trace (session_conduct s) 0 xs b c) is t) in
    let begun : Serves s true front b pop.0 = serves_all s 0 front [] b b pop.0 (nothing_served s b first) on pop.1 in
    subst (λ (xs : List Exchange). Serves s false xs b c × TiedTends xs b c) (sym is) (
      subst (λ (o : Bool). Serves s o (front ++ last ∷ []) b c) (ap has_not_ended by) (serves_on s front last b pop.0 c begun pop.2),
      tends_ended front last b pop.0 c (ap has_not_ended by) (tends_going s front b pop.0 on pop.1) pop.2.steps.goes,
    )

-- with the end of the session
uphold : (s : Attributes) (on : Bool) (lines : List TextLine) (ps : List Exchange) (b c d : BoardState) → b.word.session ≢ 0 → requests ps ≡ map (reading s) lines → Serves s on ps b c → TiedTends ps b c → LeavesIf (session_conduct s) on c d → Upheld s on lines ps b d
uphold s true lines ps b c d somebody asked g tends (answer, q) = record {
  borne = borne_left s ps lines b c d answer somebody g.board q asked;
  seen = seen_left s ps lines b c d answer somebody g.board q asked;
  tied = tied_left ps ps answer b.counts c.counts d.counts g.tied q.goes.counts q.reads.shuts q.split;
  puts = puts_then b.box (sum_by letters_put ps) b.counts c.counts d.counts g.puts q.letters.puts;
  tends = tends_then ps b c d tends q.goes;
  letters = letters_then b.box ps b c d (λ h bears. bears_left h c d answer q bears) q.letters g.letters;
  alone = λ a. ran_over s true ps lines b c d somebody g.board asked (box_whole ps b c g.letters) (λ x. left_so c d answer (g.board.alone x).keeps (g.board.alone x).alone q) a;
}
uphold s false lines ps b c d somebody asked g tends still = subst (λ (x : BoardState). Upheld s false lines ps b x) (sym still) (record {
  borne = borne_out s false ps lines b c somebody g.board asked;
  seen = seen_out s false ps lines b c somebody g.board asked;
  tied = g.tied;
  puts = g.puts;
  tends = tends;
  letters = g.letters;
  alone = λ a. ran_over s false ps lines b c c somebody g.board asked (box_whole ps b c g.letters) (λ x. left_still false c) a;
})

-- what a session's conversation made of its board
pub upheld : (s : Attributes) (end : Option SessionEnd) (lines : List TextLine) (ps : List Exchange) (b d : BoardState) → b.word.session ≢ 0 → own_in b.word ≡ [] → requests ps ≡ map (reading s) lines → EndsBy end ps
    → Led (session_conduct s) (has_not_ended end) ps b d → Upheld s (has_not_ended end) lines ps b d
upheld s end lines ps b d somebody first asked ends l =
    let g = serves_by s end ps b l.last first ends l.trace in
    uphold s (has_not_ended end) lines ps b l.last d somebody asked g.0 g.1 l.left

cut_upheld : (s : Attributes) (o : Bool) (lines : List TextLine) (ps : List Exchange) (p : Exchange) (out : List ℕ) (b c d : BoardState) → b.word.session ≢ 0 → requests (ps ++ p ∷ []) ≡ map (reading s) lines → goes_on p ≡ o
    → BoardServes s o (ps ++ p ∷ []) b c → Tied false (ps ++ p ∷ []) ps b.counts c.counts → TiedPuts (ps ++ p ∷ []) b c → TiedTends ps b c → GivesInPart b.box s ps p out b c → LeavesIf (session_conduct s) o c d → UpheldInPart s lines ps p out b d
cut_upheld s true lines ps p out b c d somebody asked is board tied puts tends cut (answer, q) = record {
  borne = borne_left s (ps ++ p ∷ []) lines b c d answer somebody board q asked;
  seen = seen_left s (ps ++ p ∷ []) lines b c d answer somebody board q asked;
  tied = subst (λ (x : Bool). Tied x (ps ++ p ∷ []) ps b.counts d.counts) (sym is) (tied_left (ps ++ p ∷ []) ps answer b.counts c.counts d.counts tied q.goes.counts q.reads.shuts q.split);
  puts = puts_then b.box (sum_by letters_put (ps ++ p ∷ [])) b.counts c.counts d.counts puts q.letters.puts;
  tends = tends_then ps b c d tends q.goes;
  letters = letters_cut_then b.box s ps p out b c d (λ h bears. bears_left h c d answer q bears) q.letters cut;
  alone = λ a. subst (λ (x : Bool). RanOver s x lines (ps ++ p ∷ []) b d) (sym is)
      (ran_over s true (ps ++ p ∷ []) lines b c d somebody board asked (box_cut s ps p out b c cut) (λ x. left_so c d answer (board.alone x).keeps (board.alone x).alone q) a);
}
cut_upheld s false lines ps p out b c d somebody asked is board tied puts tends cut still = subst (λ (x : BoardState). UpheldInPart s lines ps p out b x) (sym still) (record {
  borne = borne_out s false (ps ++ p ∷ []) lines b c somebody board asked;
  seen = seen_out s false (ps ++ p ∷ []) lines b c somebody board asked;
  tied = subst (λ (x : Bool). Tied x (ps ++ p ∷ []) ps b.counts c.counts) (sym is) tied;
  puts = puts;
  tends = tends;
  letters = cut;
  alone = λ a. subst (λ (x : Bool). RanOver s x lines (ps ++ p ∷ []) b c) (sym is)
      (ran_over s false (ps ++ p ∷ []) lines b c c somebody board asked (box_cut s ps p out b c cut) (λ x. left_still false c) a);
})

-- and where the output broke off
pub upheld_in_part : (s : Attributes) (lines : List TextLine) (ps : List Exchange) (p : Exchange) (out : List ℕ) (b d : BoardState) → b.word.session ≢ 0 → own_in b.word ≡ [] → requests (ps ++ p ∷ []) ≡ map (reading s) lines → EndsBy None ps
    → LedInPart (session_conduct s) ps p out b d → UpheldInPart s lines ps p out b d
upheld_in_part s lines ps p out b d somebody first asked on l =
    let c : BoardState = l.last in
    let e : BoardState = l.before in
    let by = serves_by s None ps b e first on l.trace in
    let g : Serves s true ps b e = by.0 in
    let r : RepliesInPart s p l.part e c = in_part s p l.part e c l.replies in
    cut_upheld s (goes_on p) lines ps p out b c d somebody asked refl (serves_step s ps p b e c g.board r.steps)
    (subst (λ (ws : List Exchange). Tied false (ps ++ p ∷ []) ws b.counts c.counts) (append-nil ps) (tied_on ps (p ∷ []) ps [] b.counts e.counts c.counts g.tied r.tied))
    (puts_on b.box ps (p ∷ []) b e c g.letters g.puts r.puts)
    (tends_then ps b e c by.1 r.steps.goes)
    (subst (λ (x : List ℕ). GivesInPart b.box s ps p x b c) (sym l.is_out) (letters_cut b.box s ps p l.part b e c g.board.goes.session (λ h bears. bears_step s h p e c r.steps bears) g.letters r.letters))
    l.left

-- the board that was left
left_along : (s : Attributes) (on : Bool) (b c d : BoardState) → BoardLeft b c → LeavesIf (session_conduct s) on c d → BoardLeft b d
left_along s false b c d l still = subst (BoardLeft b) (sym still) l
left_along s true b c d l (answer, q) = record {
  goes = HasGoneOn-along b c d l.goes (gone_on c d q.goes);
  own = adds_along b.word c.word d.word l.goes.session l.own (adds_left c d answer q);
  notes = subst (λ (ns : List PlainLetter). BeginsWith ns b.word.notes) (sym q.letters.notes) l.notes;
}

board_left : (s : Attributes) (on : Bool) (ps : List Exchange) (b c : BoardState) → BoardServes s on ps b c → BoardLeft b c
board_left s on ps b c g = record { goes = g.goes; own = g.own; notes = g.notes }

pub led_left : (s : Attributes) (end : Option SessionEnd) (ps : List Exchange) (b d : BoardState) → own_in b.word ≡ [] → EndsBy end ps → Led (session_conduct s) (has_not_ended end) ps b d → BoardLeft b d
led_left s end ps b d first ends l = left_along s (has_not_ended end) b l.last d (board_left s (has_not_ended end) ps b l.last (serves_by s end ps b l.last first ends l.trace).0.board) l.left

pub led_left_in_part : (s : Attributes) (ps : List Exchange) (p : Exchange) (out : List ℕ) (b d : BoardState) → own_in b.word ≡ [] → EndsBy None ps → LedInPart (session_conduct s) ps p out b d → BoardLeft b d
led_left_in_part s ps p out b d first on l =
    let g = (serves_by s None ps b l.before first on l.trace).0 in
    left_along s (has_not_ended (end_after p.0 p.1)) b l.last d
    (board_left s (goes_on p) (ps ++ p ∷ []) b l.last (serves_step s ps p b l.before l.last g.board (in_part s p l.part l.before l.last l.replies).steps)) l.left

pub same_left : (b : BoardState) → BoardLeft b b
same_left b = record { goes = gone_on b b (GoesOn-same b); own = adds_none b.word b.word refl; notes = BeginsWith-same b.word.notes }

-- how the session ended, over its board
pub session_ended : (U V : Type 0) (s : Attributes) (b d : BoardState) (before after : LinkState) (end : SessionEnd) → (U → V) → b.word.session ≢ 0 → own_in b.word ≡ [] → ConversationEnds U (leading (session_conduct s) b d) before after end
    → SessionEnds V s before after b d end
session_ended U V s b d before after end untouched somebody first e =
    ends_under U V (leading (session_conduct s) b d) (λ end lines ps. Upheld s (has_not_ended end) lines ps b d) (λ lines ps p out. UpheldInPart s lines ps p out b d) untouched
    (λ end lines ps asked ends l. upheld s end lines ps b d somebody first asked ends l) (λ lines ps p out asked ends l. upheld_in_part s lines ps p out b d somebody first asked ends l) before after end e

pub session_left : (U : Type 0) (s : Attributes) (b d : BoardState) (before after : LinkState) (end : SessionEnd) → (U → d ≡ b) → own_in b.word ≡ [] → ConversationEnds U (leading (session_conduct s) b d) before after end → BoardLeft b d
session_left U s b d before after end untouched first e =
    ends_give U (leading (session_conduct s) b d) (BoardLeft b d) before after end (λ u. subst (BoardLeft b) (sym (untouched u)) (same_left b))
    (λ by lines ps ends l. led_left s by ps b d first ends l) (λ lines ps p out ends l. led_left_in_part s ps p out b d first ends l) e

pub one_reference : (x y : ℕ) → x ∷ [] ≡ y ∷ [] → x ≡ y
one_reference x y e = cc
