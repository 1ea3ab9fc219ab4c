-- Letters that are taken and written one after another are the reply to a FETCH.
use Rattle.std.proofs.Common.{◌≡◌, ◌≢◌, ℕ, ◌+◌, ◌<◌, ◌==◌, Bool, true, false, cond, List, [], ◌∷◌, ◌++◌, map, filter, Option, Some, None, is_some, Ok, refl, sym, ap, ◌∙◌, subst, arith, length-append, append_assoc}
use Rattle.std.specs.Prelude.{All}
use Rattle.std.proofs.lemmas.Bool.{eq-eqb, eqb-true}
use Rattle.std.proofs.lemmas.List.{append-nil, map-append}
use Rattle.std.proofs.lemmas.List.Elements.{filter-append, All-nil, All-cons, All-head, All-tail, All-append}
use Rattle.std.proofs.lemmas.Grind.{flat_map-append}
use Rattle.be_base.specs.Lists.{BeginsWith}
use Rattle.be_base.proofs.Beginnings.{BeginsWith-same, BeginsWith-along}
use Rattle.be_io.specs.Told.{HoldsMore}
use Rattle.be_io.specs.Sink.{SinkState, Wrote}
use Rattle.be_io.proofs.ToldLemmas.{HoldsMore-append, HoldsMore-nil}
use Rattle.be_model.specs.Letters.{PlainLetter}
use Rattle.be_model.specs.Rows.{id_of}
use Rattle.be_model.specs.Schemas.{Attributes}
use Rattle.be_change.specs.History.{Entry}
use Rattle.be_change.specs.Requests.{Note}
use Rattle.be_change.specs.Walk.{IsNoteFor}
use Rattle.be_protocol.specs.Replies.{note_line, with_lf}
use Rattle.be_board.specs.Letters.{note_of, given, IsLetterFor, ComesFrom, Fetches}
use Rattle.be_board.specs.State.{BoardState}
use Rattle.be_board.specs.Word.{IsDelivered}
use Rattle.be_board.proofs.Going.{GoesOn-same, GoesOn-along}
use Rattle.be_session.specs.Bearing.{Bears}
use Rattle.be_session.specs.Fetching.{note_lines, Draws, FetchesSo}
use Rattle.be_board.proofs.Delivered.{delivered_along}
use Rattle.be_session.proofs.Accepting.{all_last}
use Rattle.be_session.proofs.BearsOut.{bears_before}

pub fetch_first : (s : Attributes) (max : ℕ) (b : BoardState) (sink : SinkState) → FetchesSo s max 0 b b sink sink
fetch_first s max b sink = record {
  given = [];
  many = refl;
  few = omega arith;
  written = HoldsMore-nil sink.held;
  faults = refl;
  refusals = refl;
  goes = GoesOn-same b;
  known = refl;
  own = refl;
  puts = refl;
  reads = record { reads = refl; shuts = refl };
  splits = refl;
  noted = λ h bears. All-nil _;
  from = first b.box refl;
}
  where
    first : (o : Option (List Note)) → b.box ≡ o → Draws o [] b b
    first None e = (e, [], sym (append-nil b.word.notes), refl)
    first (Some box) e = (refl, box, e, refl)

-- none of the letters that were passed over is for the session
none_for : (k : ℕ) (passed : List PlainLetter) → All (λ (l : PlainLetter). l.session ≢ k) passed → filter (λ (l : PlainLetter). l.session == k) passed ≡ []
none_for k [] others = refl
none_for k (l ∷ ls) others =
    let ne : (l.session == k) ≡ false = not_equal (All-head (λ (x : PlainLetter). x.session ≢ k) l ls others) in
    rw ne (none_for k ls (All-tail (λ (x : PlainLetter). x.session ≢ k) l ls others))
  where
    not_equal : (l.session ≡ k → ⊥) → (l.session == k) ≡ false
    not_equal other = by_value (l.session == k) refl
      where
        by_value : (b : Bool) → (l.session == k) ≡ b → (l.session == k) ≡ false
        by_value true is = absurd (other (eqb-true l.session k is))
        by_value false is = is

-- what a fetch gave, beside the letters before it
pub draws_on : (o : Option (List Note)) (letters : List Note) (b now next : BoardState) (l : PlainLetter) → now.word.session ≡ b.word.session → l.session ≡ now.word.session
    → Draws o letters b now → ComesFrom now next now.box (Some l) → Draws o (letters ++ note_of l ∷ []) b next
draws_on None letters b now next l same mine d c =
    let t = subst (λ (o : Option (List Note)). ComesFrom now next o (Some l)) d.0 c in
    let k : ℕ = b.word.session in
    let one : filter (λ (x : PlainLetter). x.session == k) (t.1.passed ++ l ∷ []) ≡ l ∷ [] =
    filter-append (λ (x : PlainLetter). x.session == k) t.1.passed (l ∷ [])
    ∙ (ap (λ (ls : List PlainLetter). ls ++ filter (λ (x : PlainLetter). x.session == k) (l ∷ []))
    (none_for k t.1.passed (subst (λ (j : ℕ). All (λ (x : PlainLetter). x.session ≢ j) t.1.passed) same t.1.others))
    ∙ ap (λ (b : Bool). cond b (l ∷ []) []) (eq-eqb l.session k (mine ∙ same))) in (
      t.0,
      d.1 ++ (t.1.passed ++ l ∷ []),
      t.1.taken ∙ (ap (λ (ls : List PlainLetter). ls ++ (t.1.passed ++ l ∷ [])) d.2 ∙ append_assoc b.word.notes d.1 (t.1.passed ++ l ∷ [])),
      ap (λ (ls : List Note). ls ++ note_of l ∷ []) d.3
          ∙ (sym (map-append note_of (filter (λ (x : PlainLetter). x.session == k) d.1) (l ∷ []))
          ∙ ap (map note_of) (ap (λ (ls : List PlainLetter). filter (λ (x : PlainLetter). x.session == k) d.1 ++ ls) (sym one) ∙ sym (filter-append (λ (x : PlainLetter). x.session == k) d.1 (t.1.passed ++ l ∷ [])))),
    )
draws_on (Some box) letters b now next l same mine d c =
    let t = subst (λ (o : Option (List Note)). ComesFrom now next o (Some l)) d.2 c in (
      t.0 ∙ d.0,
      t.1,
      t.2,
      d.3 ∙ (ap (λ (ls : List Note). letters ++ ls) t.3.0 ∙ sym (append_assoc letters (note_of l ∷ []) t.1)),
    )

-- a letter for the session of which its board knows is a note for it
note_for : (s : Attributes) (k : ℕ) (h : List Entry) (l : PlainLetter) → IsLetterFor s k l → IsDelivered h l → IsNoteFor k h (note_of l)
note_for s k h l fit d = record {
  within = d.within;
  id = id_of l.row;
  row = l.row;
  stands = d.stands;
  owner = fit.owner;
  named = refl;
  satisfied = fit.satisfied;
}

-- the letter was delivered in each list that bears the word out
delivered_in : (o : Option (List Note)) (now next : BoardState) (l : PlainLetter) (h : List Entry) → ComesFrom now next o (Some l) → BeginsWith next.word.known now.word.known → Bears h next.word → IsDelivered h l
delivered_in None now next l h c known bears =
    all_last (IsDelivered h) (now.word.notes ++ c.1.passed) l
    (subst (All (IsDelivered h)) (c.1.taken ∙ sym (append_assoc now.word.notes c.1.passed (l ∷ []))) bears.notes)
delivered_in (Some box) now next l h c known bears =
    delivered_along now.word.known h l (BeginsWith-along h next.word.known now.word.known bears.known known) c.3.1

-- what was taken out stays taken
notes_since : (o : Option (List Note)) (now next : BoardState) (l : Option PlainLetter) → ComesFrom now next o l → BeginsWith next.word.notes now.word.notes
notes_since None now next l c = (c.1.passed ++ given l, c.1.taken)
notes_since (Some box) now next l c = subst (λ (ls : List PlainLetter). BeginsWith ls now.word.notes) (sym c.0) (BeginsWith-same now.word.notes)

pub bears_fetched : (h : List Entry) (now next : BoardState) (l : Option PlainLetter) → Fetches now next l → Bears h next.word → Bears h now.word
bears_fetched h now next l f bears =
    bears_before h now.word next.word f.goes.session f.goes.known (subst (λ (ls : List (ℕ × Entry)). BeginsWith ls now.word.own) (sym f.own) (BeginsWith-same now.word.own)) (notes_since now.box now next l f.from) bears

pub lines_snoc : (s : Attributes) (letters : List Note) (l : Note) → note_lines s (letters ++ l ∷ []) ≡ note_lines s letters ++ with_lf (note_line s l)
lines_snoc s letters l =
    flat_map-append (λ (x : Note). with_lf (note_line s x)) letters (l ∷ []) ∙ ap (λ (t : List ℕ). note_lines s letters ++ t) (append-nil (with_lf (note_line s l)))

-- the letters with one more are letters for the session
pub noted_on : (s : Attributes) (sch : Attributes) (max count : ℕ) (b now next : BoardState) (l : PlainLetter) (before mid : SinkState) → (f : FetchesSo s max count b now before mid) → Fetches now next (Some l)
    → IsLetterFor sch now.word.session l → (h : List Entry) → Bears h next.word → All (IsNoteFor b.word.session h) (f.given ++ note_of l ∷ [])
noted_on s sch max count b now next l before mid f q fit h bears =
    All-append (IsNoteFor b.word.session h) f.given (note_of l ∷ []) (f.noted h (bears_fetched h now next (Some l) q bears))
    (All-cons (IsNoteFor b.word.session h) (note_of l) [] (subst (λ (k : ℕ). IsNoteFor k h (note_of l)) f.goes.session
    (note_for sch now.word.session h l fit (delivered_in now.box now next l h q.from q.goes.known bears))) (All-nil _))

-- one more letter was written whole
pub fetch_next : (s : Attributes) (sch : Attributes) (max count : ℕ) (b now next : BoardState) (l : PlainLetter) (before mid after : SinkState) → FetchesSo s max count b now before mid → count < max → Fetches now next (Some l)
    → IsLetterFor sch now.word.session l → Wrote mid after (with_lf (note_line s (note_of l))) (Ok tt) → FetchesSo s max (count + 1) b next before after
fetch_next s sch max count b now next l before mid after f more q fit w = record {
  given = f.given ++ note_of l ∷ [];
  many = length-append f.given (note_of l ∷ []) ∙ ap (λ (n : ℕ). n + 1) f.many;
  few = omega (arith, more);
  written = subst (λ (t : List ℕ). HoldsMore before.held after.held t) (sym (lines_snoc s f.given (note_of l)))
      (HoldsMore-append before.held mid.held after.held (note_lines s f.given) (with_lf (note_line s (note_of l))) f.written w.0);
  faults = w.1 ∙ f.faults;
  refusals = w.2 ∙ f.refusals;
  goes = GoesOn-along b now next f.goes q.goes;
  known = q.known ∙ f.known;
  own = q.own ∙ f.own;
  puts = q.puts ∙ f.puts;
  reads = record { reads = q.reads.reads ∙ f.reads.reads; shuts = q.reads.shuts ∙ f.reads.shuts };
  splits = q.splits ∙ f.splits;
  noted = noted_on s sch max count b now next l before mid f q fit;
  from = draws_on b.box f.given b now next l f.goes.session (fit.session) f.from q.from;
}

draws_none : (o : Option (List Note)) (letters : List Note) (b now next : BoardState) → now.word.session ≡ b.word.session → Draws o letters b now → ComesFrom now next now.box None → Draws o letters b next
draws_none None letters b now next same d c =
    let t = subst (λ (o : Option (List Note)). ComesFrom now next o None) d.0 c in
    let k : ℕ = b.word.session in
    let all : t.1.passed ++ [] ≡ t.1.passed = append-nil t.1.passed in (
      t.0,
      d.1 ++ t.1.passed,
      t.1.taken ∙ (ap (λ (ls : List PlainLetter). now.word.notes ++ ls) all ∙ (ap (λ (ls : List PlainLetter). ls ++ t.1.passed) d.2 ∙ append_assoc b.word.notes d.1 t.1.passed)),
      d.3 ∙ ap (map note_of)
          (sym (append-nil (filter (λ (x : PlainLetter). x.session == k) d.1))
          ∙ (ap (λ (ls : List PlainLetter). filter (λ (x : PlainLetter). x.session == k) d.1 ++ ls) (sym (none_for k t.1.passed (subst (λ (j : ℕ). All (λ (x : PlainLetter). x.session ≢ j) t.1.passed) same t.1.others)))
          ∙ sym (filter-append (λ (x : PlainLetter). x.session == k) d.1 t.1.passed))),
    )
draws_none (Some box) letters b now next same d c =
    let t = subst (λ (o : Option (List Note)). ComesFrom now next o None) d.2 c in
    (t.0 ∙ d.0, t.1, t.2, d.3 ∙ ap (λ (ls : List Note). letters ++ ls) (t.3.0 ∙ sym t.3.1))

-- there was no letter
pub fetch_none : (s : Attributes) (max count : ℕ) (b now next : BoardState) (before after : SinkState) → (f : FetchesSo s max count b now before after) → Fetches now next None → FetchesSo s max count b next before after
fetch_none s max count b now next before after f q = record {
  given = f.given;
  many = f.many;
  few = f.few;
  written = f.written;
  faults = f.faults;
  refusals = f.refusals;
  goes = GoesOn-along b now next f.goes q.goes;
  known = q.known ∙ f.known;
  own = q.own ∙ f.own;
  puts = q.puts ∙ f.puts;
  reads = record { reads = q.reads.reads ∙ f.reads.reads; shuts = q.reads.shuts ∙ f.reads.shuts };
  splits = q.splits ∙ f.splits;
  noted = λ h bears. f.noted h (bears_fetched h now next None q bears);
  from = draws_none b.box f.given b now next f.goes.session f.from q.from;
}

-- where a box was told that was empty, nothing is left in it
pub nothing_left : (o : Option (List Note)) (letters : List Note) (b now next : BoardState) → Draws o letters b now → ComesFrom now next now.box None → is_some o ≡ true → next.box ≡ Some []
nothing_left None letters b now next d c told = absurd cc
nothing_left (Some box) letters b now next d c told =
    let t = subst (λ (o : Option (List Note)). ComesFrom now next o None) d.2 c in t.2 ∙ ap (λ (ls : List Note). Some ls) t.3.1
