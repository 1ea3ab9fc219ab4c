-- What every list that keeps the word at return says of a session's exchanges.
use Rattle.std.proofs.Common.{◌≡◌, ◌≢◌, inl, inr, ℕ, ◌-◌, Bool, true, false, List, [], ◌∷◌, ◌++◌, length, map, Option, Some, None, IfSome, refl, sym, ap, ◌∙◌, subst, arith}
use Rattle.std.proofs.lemmas.List.{append-nil, length-map}
use Rattle.be_base.specs.Lists.{BeginsWith}
use Rattle.be_base.proofs.Beginnings.{BeginsWith-same, BeginsWith-length}
use Rattle.be_io.specs.Lines.{TextLine}
use Rattle.be_model.specs.Letters.{PlainLetter}
use Rattle.be_model.specs.Schemas.{Attributes}
use Rattle.be_change.specs.Box.{KeepsBox}
use Rattle.be_change.specs.History.{Entry, subscribed, unsubscribed, left, entries_of, placed_of, places_of, IsWellFormed}
use Rattle.be_change.specs.Made.{made}
use Rattle.be_change.specs.Requests.{Request, quit, Note, Exchange}
use Rattle.be_change.specs.Walk.{Walk, IsChangeOf, HasOnly, accepted}
use Rattle.be_change.proofs.Below.{session_below}
use Rattle.be_change.proofs.Placed.{entries_placed}
use Rattle.be_protocol.specs.Readings.{reading}
use Rattle.be_protocol.specs.Transcript.{AnswersEach, requests, AreExchanges}
use Rattle.be_board.specs.declared.answers.Answer.{Answer}
use Rattle.be_board.specs.declared.answers.Answer.TheVariants.{Done, Held, Dup, NoName, Other, Split, NoMemory}
use Rattle.be_board.specs.Changes.{Accepts, Asked}
use Rattle.be_board.specs.State.{BoardState}
use Rattle.be_board.specs.Word.{own_in, Keeps}
use Rattle.be_session.specs.Bearing.{Bears, Stands, AddsOwn}
use Rattle.be_session.specs.Given.{GivesLetters, GivesInPart}
use Rattle.be_session.specs.Served.{AreBorneOut, SeesWhatIsKnown, BeginsAlone, Leaves, RanOver}
use Rattle.be_session.specs.Steps.{places_in}
use Rattle.be_session.specs.SoFar.{IsLegalSoFar, RunsOver, BoardServes}
use Rattle.be_session.proofs.Accepting.{adds_accepted, places_accepted, stands_accepted}
use Rattle.be_session.proofs.BearsOut.{bears_kept, bears_before, own_same, places_kept_by, own_begins, adds_none}
use Rattle.be_session.proofs.Tying.{full_then}

each_is : (e : Bool) (asked answered : List Request) → answered ≡ asked → AnswersEach e asked answered
each_is true asked answered same = ([], sym same ∙ sym (append-nil answered))
each_is false asked answered same = same

-- the board is left as it stood after the last reply
pub seen_out : (s : Attributes) (on : Bool) (ps : List Exchange) (lines : List TextLine) (b d : BoardState) → b.word.session ≢ 0 → BoardServes s on ps b d → requests ps ≡ map (reading s) lines → SeesWhatIsKnown s lines ps b d
seen_out s on ps lines b d somebody g asked = λ h keeps.
    let l : IsLegalSoFar s h on ps b d = g.borne h (bears_kept h d.word keeps) in
    let places : places_of b.word.session h ≡ accepted ps = ap (λ (k : ℕ). places_of k h) (sym g.goes.session) ∙ (places_kept_by h d.word keeps ∙ g.places) in (
      record {
        somebody = somebody;
        session = record { end = l.walk; legal = l.legal; only = inl places };
        each = each_is l.walk.ended (map (reading s) lines) (requests ps) asked;
      },
      l.stands.seen,
    )

pub borne_out : (s : Attributes) (on : Bool) (ps : List Exchange) (lines : List TextLine) (b d : BoardState) → b.word.session ≢ 0 → BoardServes s on ps b d → requests ps ≡ map (reading s) lines → AreBorneOut s lines ps b d
borne_out s on ps lines b d somebody g asked = λ h z keeps within.
    let l : IsLegalSoFar s h on ps b d = g.borne h (bears_kept h d.word keeps) in
    let session = session_below s b.word.session z (length b.word.known) h ps within (seen_out s on ps lines b d somebody g asked h keeps).0.session in
    (record { somebody = somebody; session = session; each = each_is session.end.ended (map (reading s) lines) (requests ps) asked }, l.full)

bye_is : (k n m : ℕ) (e : Entry) → IsChangeOf k n m quit e → e ≡ left k n
bye_is k n m (left j i) is = ap (λ (x : ℕ). left x i) is.0 ∙ ap (λ (x : ℕ). left k x) is.1
bye_is k n m (subscribed j i row) is = absurd is
bye_is k n m (unsubscribed j i name) is = absurd is

-- what stood before a silent leave was accepted or not
pub adds_left : (c d : BoardState) (answer : Answer) → Asked c d quit answer → AddsOwn c.word d.word
adds_left c d (Done n) q = adds_accepted c.word d.word quit n q.answers.0
adds_left c d (Held n) q = adds_accepted c.word d.word quit n q.answers.0
adds_left c d (Dup m id) q = absurd q.answers
adds_left c d (NoName m) q = absurd q.answers
adds_left c d (Other m id) q = absurd q.answers
adds_left c d (Split i j) q = adds_none c.word d.word q.answers.0
adds_left c d NoMemory q = adds_none c.word d.word q.answers

pub bears_left : (h : List Entry) (c d : BoardState) (answer : Answer) → Asked c d quit answer → Bears h d.word → Bears h c.word
bears_left h c d answer q bears =
    bears_before h c.word d.word q.goes.session q.goes.known (own_begins c.word d.word (adds_left c d answer q))
    (subst (λ (l : List PlainLetter). BeginsWith l c.word.notes) (sym q.letters.notes) (BeginsWith-same c.word.notes)) bears

-- the Bye of a silent leave stands in each list that keeps the word
left_at : (h : List Entry) (w : Walk) (b c d : BoardState) (ps : List Exchange) (n : ℕ) → c.word.session ≡ b.word.session → d.word.session ≡ c.word.session → (a : Accepts c.word d.word quit n) → Keeps h d.word → Stands w c.word → w.ended ≡ false
    → places_in (own_in c.word) ≡ accepted ps → HasOnly b.word.session h ps w
left_at h w b c d ps n same session a keeps st on places =
    let k : ℕ = b.word.session in
    let entry : a.entry ≡ left k w.serial =
    bye_is c.word.session (length (own_in c.word)) (n - 1) a.entry a.is_it
    ∙ (ap (λ (j : ℕ). left j (length (own_in c.word))) same ∙ ap (left k) (sym st.serial)) in
    inr (
      n - 1,
      record {
        present = on;
        stands = stands_accepted h c.word d.word quit n session a (bears_kept h d.word keeps) ∙ ap (λ (e : Entry). Some e) entry;
        later = omega (arith, st.seen, a.later);
        later_own = omega (arith, st.own, a.later_own);
      },
      ap (λ (j : ℕ). places_of j h) (sym (session ∙ same))
          ∙ (places_kept_by h d.word keeps
          ∙ (places_accepted c.word d.word quit n session a ∙ ap (λ (l : List ℕ). l ++ (n - 1) ∷ []) places)),
    )

left_none : (h : List Entry) (w : Walk) (b c d : BoardState) (ps : List Exchange) → c.word.session ≡ b.word.session → d.word.session ≡ c.word.session → d.word.own ≡ c.word.own → Keeps h d.word → places_in (own_in c.word) ≡ accepted ps → HasOnly b.word.session h ps w
left_none h w b c d ps same session own keeps places =
    inl (ap (λ (j : ℕ). places_of j h) (sym (session ∙ same)) ∙ (places_kept_by h d.word keeps ∙ (ap places_in (own_same c.word d.word session own) ∙ places)))

has_only : (h : List Entry) (w : Walk) (b c d : BoardState) (ps : List Exchange) (answer : Answer) → c.word.session ≡ b.word.session → Asked c d quit answer → Keeps h d.word → Stands w c.word → w.ended ≡ false
    → places_in (own_in c.word) ≡ accepted ps → HasOnly b.word.session h ps w
has_only h w b c d ps (Done n) same q keeps st on places = left_at h w b c d ps n same q.goes.session q.answers.0 keeps st on places
has_only h w b c d ps (Held n) same q keeps st on places = left_at h w b c d ps n same q.goes.session q.answers.0 keeps st on places
has_only h w b c d ps (Dup m id) same q keeps st on places = absurd q.answers
has_only h w b c d ps (NoName m) same q keeps st on places = absurd q.answers
has_only h w b c d ps (Other m id) same q keeps st on places = absurd q.answers
has_only h w b c d ps (Split i j) same q keeps st on places = left_none h w b c d ps same q.goes.session q.answers.0 keeps places
has_only h w b c d ps NoMemory same q keeps st on places = left_none h w b c d ps same q.goes.session q.answers keeps places

-- the session left silently, or memory was wanting to it
pub seen_left : (s : Attributes) (ps : List Exchange) (lines : List TextLine) (b c d : BoardState) (answer : Answer) → b.word.session ≢ 0 → BoardServes s true ps b c → Asked c d quit answer → requests ps ≡ map (reading s) lines
    → SeesWhatIsKnown s lines ps b d
seen_left s ps lines b c d answer somebody g q asked = λ h keeps.
    let l : IsLegalSoFar s h true ps b c = g.borne h (bears_left h c d answer q (bears_kept h d.word keeps)) in
    let only : HasOnly b.word.session h ps l.walk = has_only h l.walk b c d ps answer g.goes.session q keeps l.stands l.ended g.places in (
      record {
        somebody = somebody;
        session = record { end = l.walk; legal = l.legal; only = only };
        each = each_is l.walk.ended (map (reading s) lines) (requests ps) asked;
      },
      omega (arith, l.stands.seen, BeginsWith-length d.word.known c.word.known q.goes.known),
    )

pub borne_left : (s : Attributes) (ps : List Exchange) (lines : List TextLine) (b c d : BoardState) (answer : Answer) → b.word.session ≢ 0 → BoardServes s true ps b c → Asked c d quit answer → requests ps ≡ map (reading s) lines → AreBorneOut s lines ps b d
borne_left s ps lines b c d answer somebody g q asked = λ h z keeps within.
    let l : IsLegalSoFar s h true ps b c = g.borne h (bears_left h c d answer q (bears_kept h d.word keeps)) in
    let session = session_below s b.word.session z (length b.word.known) h ps within (seen_left s ps lines b c d answer somebody g q asked h keeps).0.session in
    (record { somebody = somebody; session = session; each = each_is session.end.ended (map (reading s) lines) (requests ps) asked }, full_then h ps b.counts c.counts d.counts l.full q.goes.counts)

-- the box of a board that tells it
box_given : (o : Option (List Note)) (ps : List Exchange) (b d : BoardState) (h : List Entry) → GivesLetters o ps b d → Bears h d.word → IfSome o (λ box. (box' : List Note) × KeepsBox h ps box box')
box_given None ps b d h g bears = tt
box_given (Some box) ps b d h g bears = (g.1, g.3 h bears)

box_in_part : (o : Option (List Note)) (s : Attributes) (ps : List Exchange) (p : Exchange) (out : List ℕ) (b d : BoardState) (h : List Entry) → GivesInPart o s ps p out b d → Bears h d.word
    → IfSome o (λ box. (box' : List Note) × KeepsBox h (ps ++ p ∷ []) box box')
box_in_part None s ps p out b d h g bears = tt
box_in_part (Some box) s ps p out b d h g bears = (g.2, g.4 h bears)

-- how the session left its list
abbrev pub LeavesSo : Bool → BoardState → BoardState → Type 0
LeavesSo on c d = Leaves on c.word.session c.word.known d.word.known

pub left_still : (on : Bool) (c : BoardState) → LeavesSo on c c
left_still true c = inl refl
left_still false c = refl

bye_serial : (c : BoardState) → Keeps c.word.known c.word → length (own_in c.word) ≡ length (entries_of c.word.session c.word.known)
bye_serial c k =
    ap (λ (l : List (ℕ × Entry)). length l) (sym k.own)
    ∙ (sym (length-map (placed_of c.word.session c.word.known) (λ (p : ℕ × Entry). p.1)) ∙ ap (λ (l : List Entry). length l) (entries_placed c.word.session c.word.known).entries)

pub left_so : (c d : BoardState) (answer : Answer) → Keeps c.word.known c.word → c.alone ≡ true → Asked c d quit answer → LeavesSo true c d
left_so c d (Done n) k alone q =
    inr (q.alone alone ∙ ap (λ (m : ℕ). c.word.known ++ left c.word.session m ∷ []) (bye_serial c k))
left_so c d (Held n) k alone q = absurd (q.alone alone)
left_so c d (Dup m id) k alone q = absurd q.answers
left_so c d (NoName m) k alone q = absurd q.answers
left_so c d (Other m id) k alone q = absurd q.answers
left_so c d (Split i j) k alone q = absurd (q.alone alone)
left_so c d NoMemory k alone q = inl (q.alone alone)

-- where nobody else changes the list
pub ran_over : (s : Attributes) (on : Bool) (ps : List Exchange) (lines : List TextLine) (b c d : BoardState) → b.word.session ≢ 0 → BoardServes s on ps b c → requests ps ≡ map (reading s) lines
    → ((h : List Entry) → Bears h c.word → IfSome b.box (λ box. (box' : List Note) × KeepsBox h ps box box')) → (BeginsAlone b → LeavesSo on c d) → BeginsAlone b → RanOver s on lines ps b d
ran_over s on ps lines b c d somebody g asked box leaves a =
    let r : RunsOver s ps b c = g.alone a in
    let known : c.word.known ≡ made b.word.known b.word.session ps = sym r.made in
    record {
      formed = subst (λ (h : List Entry). IsWellFormed h) known r.keeps.formed;
      exchanges = subst (λ (h : List Entry). AreExchanges s b.word.session (length b.word.known) h lines ps) known
          (borne_out s on ps lines b c somebody g asked c.word.known (length b.word.known) r.keeps (omega arith)).0;
      replies = r.replies;
      boxed = subst (λ (h : List Entry). IfSome b.box (λ box. (box' : List Note) × KeepsBox h ps box box')) known (box c.word.known (bears_kept c.word.known c.word r.keeps));
      leaves = subst (λ (h : List Entry). Leaves on b.word.session h d.word.known) known (subst (λ (k : ℕ). Leaves on k c.word.known d.word.known) g.goes.session (leaves a));
    }

pub box_whole : (ps : List Exchange) (b c : BoardState) → GivesLetters b.box ps b c → (h : List Entry) → Bears h c.word → IfSome b.box (λ box. (box' : List Note) × KeepsBox h ps box box')
box_whole ps b c g = λ h bears. box_given b.box ps b c h g bears

pub box_cut : (s : Attributes) (ps : List Exchange) (p : Exchange) (out : List ℕ) (b c : BoardState) → GivesInPart b.box s ps p out b c → (h : List Entry) → Bears h c.word → IfSome b.box (λ box. (box' : List Note) × KeepsBox h (ps ++ p ∷ []) box box')
box_cut s ps p out b c g = λ h bears. box_in_part b.box s ps p out b c h g bears
