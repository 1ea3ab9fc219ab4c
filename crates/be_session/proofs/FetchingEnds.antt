-- How the reply to a FETCH ends.
use Rattle.std.proofs.Common.{◌≡◌, inl, inr, ◌⊎◌, ℕ, ◌+◌, ◌-◌, ◌<◌, ◌≤◌, true, false, List, [], ◌∷◌, ◌++◌, length, take, drop, map, codes, Option, Some, None, is_some, Result, Ok, Err, IfSome, refl, sym, ap, ◌∙◌, subst, arith, length-append, append_assoc}
use Rattle.std.specs.Prelude.{All}
use Rattle.std.specs.List.{flat_map}
use Rattle.std.proofs.lemmas.Bool.{ltb-true}
use Rattle.std.proofs.lemmas.List.{append-nil, length-drop, take-append-drop, take_all, drop_all, length-take}
use Rattle.std.proofs.lemmas.List.Elements.{All-append, All-take, All-tail}
use Rattle.std.proofs.lemmas.List.Folds.{flat_map-map}
use Rattle.std.proofs.lemmas.Grind.{flat_map-append}
use Rattle.std.proofs.Math.Seq.{take-append_seam, drop-append_seam, take-append-add, drop-append-add}
use Rattle.be_base.specs.Counts.{HasRisen}
use Rattle.be_base.specs.Lists.{BeginsWith}
use Rattle.be_base.proofs.Beginnings.{BeginsWith-same}
use Rattle.be_io.specs.Told.{HoldsMore}
use Rattle.be_io.specs.Sink.{SinkState, Wrote, TookPart}
use Rattle.be_io.specs.declared.faults.SinkFault.{SinkFault}
use Rattle.be_io.specs.declared.faults.SinkFault.TheVariants.{Failed, NoMemory}
use Rattle.be_io.proofs.ToldLemmas.{HoldsMore-append}
use Rattle.be_model.specs.Letters.{PlainLetter}
use Rattle.be_model.specs.Schemas.{Attributes}
use Rattle.be_change.specs.History.{Entry}
use Rattle.be_change.specs.Requests.{fetching, notes, Note}
use Rattle.be_change.specs.Walk.{IsNoteFor}
use Rattle.be_change.proofs.Extends.{notes-append}
use Rattle.be_protocol.specs.Replies.{note_line, with_lf, number, reply_text}
use Rattle.be_board.specs.Letters.{note_of, IsLetterFor, ComesFrom, Fetches}
use Rattle.be_board.specs.State.{BoardState, GoesOn}
use Rattle.be_board.proofs.Going.{GoesOn-along, HasRisen-later}
use Rattle.be_session.specs.Bearing.{Bears}
use Rattle.be_session.specs.Fetching.{note_lines, Draws, FetchesSo}
use Rattle.be_session.specs.Given.{GivesLetters, GivesInPart, TakenInPart}
use Rattle.be_protocol.specs.Conduct.{RepliedTo, RepliedInPartTo, GivesReply, WroteInPart, Refused}
use Rattle.be_protocol.specs.Conversation.{RefusedOnce}
use Rattle.be_session.specs.Steps.{Steps, session_conduct}
use Rattle.be_session.specs.Tied.{Tied}
use Rattle.be_session.proofs.FetchingOn.{nothing_left, bears_fetched, lines_snoc, noted_on, draws_on}
use Rattle.be_session.proofs.Looking.{tied_one}
use Rattle.be_session.proofs.Quiet.{quiet, quiet_alone, led_same}
use Rattle.be_session.proofs.Tying.{risen_none, rises_none, puts_one}

abbrev pub end_line : ℕ → List ℕ
end_line n = with_lf (codes "END" ++ number n)

-- the text of the reply: a line for each letter, and the last line
pub notes_text : (s : Attributes) (letters : List Note) → reply_text s (notes letters) ≡ note_lines s letters ++ end_line (length letters)
notes_text s letters =
    flat_map-append with_lf (map (note_line s) letters) ((codes "END" ++ number (length letters)) ∷ [])
    ∙ (ap (λ (t : List ℕ). t ++ flat_map with_lf ((codes "END" ++ number (length letters)) ∷ [])) (flat_map-map with_lf (note_line s) letters)
    ∙ ap (λ (t : List ℕ). note_lines s letters ++ t) (append-nil (end_line (length letters))))

lines-append : (s : Attributes) (xs ys : List Note) → note_lines s (xs ++ ys) ≡ note_lines s xs ++ note_lines s ys
lines-append s xs ys = flat_map-append (λ (l : Note). with_lf (note_line s l)) xs ys

-- of a box of which these letters are the first, the reply gives them all, and leaves the others
gives_first : (max : ℕ) (box letters left : List Note) → box ≡ letters ++ left → (length letters ≡ max) ⊎ ((left ≡ []) × (length letters ≤ max)) → (letters ≡ take max box) × (left ≡ drop max box)
gives_first max box letters left is (inl whole) = (
  sym (ap (λ (l : List Note). take max l) is ∙ (ap (λ (n : ℕ). take n (letters ++ left)) (sym whole) ∙ take-append_seam letters left)),
  sym (ap (λ (l : List Note). drop max l) is ∙ (ap (λ (n : ℕ). drop n (letters ++ left)) (sym whole) ∙ drop-append_seam letters left)),
)
gives_first max box letters left is (inr (none, few)) =
    let all : box ≡ letters = is ∙ (ap (λ (l : List Note). letters ++ l) none ∙ append-nil letters) in
    let short : length box ≤ max = omega (arith, ap (λ (l : List Note). length l) all, few) in
    (sym (take_all max box short ∙ all), none ∙ sym (drop_all max box short))

-- the letters that one whole FETCH gave
gives_all : (o : Option (List Note)) (max : ℕ) (letters : List Note) (b now : BoardState) → Draws o letters b now → (length letters ≡ max) ⊎ ((is_some o ≡ true → now.box ≡ Some []) × (length letters ≤ max))
    → GivesLetters o ((fetching max, notes letters) ∷ []) b now
gives_all None max letters b now d all = (d.0, (d.1, d.2, append-nil letters ∙ d.3))
gives_all (Some box) max letters b now d all =
    let first : (letters ≡ take max box) × (d.1 ≡ drop max box) = gives_first max box letters d.1 d.3 (so all) in
    (d.0, d.1, d.2, λ h bears. (first.0, first.1))
  where
    same_left : (x y : List Note) → Some x ≡ Some y → x ≡ y
    same_left x y e = cc

    so : (length letters ≡ max) ⊎ ((is_some (Some box) ≡ true → now.box ≡ Some []) × (length letters ≤ max)) → (length letters ≡ max) ⊎ ((d.1 ≡ []) × (length letters ≤ max))
    so (inl whole) = inl whole
    so (inr (none, few)) = inr (same_left d.1 [] (sym d.2 ∙ none refl), few)

-- a box that is told leaves the notes
notes_told : (o : Option (List Note)) (letters : List Note) (b now : BoardState) → Draws o letters b now → is_some o ≡ true → (is_some now.box ≡ true) × (now.word.notes ≡ b.word.notes)
notes_told None letters b now d told = absurd cc
notes_told (Some box) letters b now d told = (ap (λ (o : Option (List Note)). is_some o) d.2, d.0)

notes_drawn : (o : Option (List Note)) (letters : List Note) (b now : BoardState) → Draws o letters b now → BeginsWith now.word.notes b.word.notes
notes_drawn None letters b now d = (d.1, d.2)
notes_drawn (Some box) letters b now d = subst (λ (ls : List PlainLetter). BeginsWith ls b.word.notes) (sym d.0) (BeginsWith-same b.word.notes)

-- the letters are legal
pub fetch_steps : (s : Attributes) (max : ℕ) (drawn letters : List Note) (b now : BoardState) → GoesOn b now → now.word.known ≡ b.word.known → now.word.own ≡ b.word.own → Draws b.box drawn b now → length letters ≤ max
    → ((h : List Entry) → Bears h now.word → All (IsNoteFor b.word.session h) letters) → Steps s (fetching max, notes letters) b now
fetch_steps s max drawn letters b now goes known own d few noted =
    quiet s (fetching max, notes letters) b now goes own (notes_drawn b.box drawn b now d) refl
    (λ h w bears st going. led_same s h w (fetching max, notes letters) b now (few, noted h bears, refl) goes own st going refl refl)
    (λ alone told.
    let same = notes_told b.box drawn b now d told in
    quiet_alone (fetching max, notes letters) b now same.0 refl tt tt refl goes.session known own same.1)

fetch_tied : (max : ℕ) (letters : List Note) (b now : BoardState) → GoesOn b now → now.counts.shuts ≡ b.counts.shuts → now.counts.splits ≡ b.counts.splits → (length letters ≡ max) ⊎ HasRisen b.counts.empties now.counts.empties → Tied false ((fetching max, notes letters) ∷ []) ((fetching max, notes letters) ∷ []) b.counts now.counts
fetch_tied max letters b now goes shuts splits all =
    tied_one (fetching max, notes letters) b.counts now.counts goes.counts (λ e. absurd cc) shuts splits (λ e. short all (ltb-true (length letters) max e))
  where
    short : (length letters ≡ max) ⊎ HasRisen b.counts.empties now.counts.empties → length letters < max → HasRisen b.counts.empties now.counts.empties
    short (inl whole) less = absurd (omega (arith, whole, less))
    short (inr risen) less = risen

-- of a reply that is written in part no count of short ones is owed
pub part_tied : (max : ℕ) (letters : List Note) (b now : BoardState) → GoesOn b now → now.counts.shuts ≡ b.counts.shuts → now.counts.splits ≡ b.counts.splits → Tied false ((fetching max, notes letters) ∷ []) [] b.counts now.counts
part_tied max letters b now goes shuts splits = record {
  reads = risen_none b.counts.reads now.counts.reads goes.counts.reads;
  shuts = rises_none b.counts.shuts now.counts.shuts shuts;
  splits = rises_none b.counts.splits now.counts.splits splits;
  empties = risen_none b.counts.empties now.counts.empties goes.counts.empties;
}

-- why the letters are all: so many were asked for, or there were no more
abbrev pub AreAll : ℕ → ℕ → BoardState → BoardState → Type 0
AreAll max count b now = (count ≡ max) ⊎ (HasRisen b.counts.empties now.counts.empties × (is_some b.box ≡ true → now.box ≡ Some []))

all_first : (max : ℕ) (letters : List Note) (b now : BoardState) (count : ℕ) → length letters ≡ count → count ≤ max → AreAll max count b now → (length letters ≡ max) ⊎ ((is_some b.box ≡ true → now.box ≡ Some []) × (length letters ≤ max))
all_first max letters b now count many few (inl e) = inl (many ∙ e)
all_first max letters b now count many few (inr e) = inr (e.1, omega (arith, many, few))

all_second : (max : ℕ) (letters : List Note) (b now : BoardState) (count : ℕ) → length letters ≡ count → AreAll max count b now → (length letters ≡ max) ⊎ HasRisen b.counts.empties now.counts.empties
all_second max letters b now count many (inl e) = inl (many ∙ e)
all_second max letters b now count many (inr e) = inr e.0

-- the last line was written
pub fetch_whole : (s : Attributes) (max count : ℕ) (b now : BoardState) (before mid after : SinkState) → (f : FetchesSo s max count b now before mid) → AreAll max count b now
    → Wrote mid after (end_line count) (Ok tt) → RepliedTo (session_conduct s) (fetching max) None b now before after
fetch_whole s max count b now before mid after f all w = record {
  reply = notes f.given;
  ends = refl;
  replies = record {
    steps = fetch_steps s max f.given f.given b now f.goes f.known f.own f.from (omega (arith, f.many, f.few)) f.noted;
    tied = fetch_tied max f.given b now f.goes f.reads.shuts f.splits (all_second max f.given b now count f.many all);
    puts = puts_one b.box (fetching max, notes f.given) b.counts now.counts refl f.puts;
    letters = gives_all b.box max f.given b now f.from (all_first max f.given b now count f.many f.few all);
  };
  written = subst (λ (t : List ℕ). HoldsMore before.held after.held t)
      (ap (λ (n : ℕ). note_lines s f.given ++ end_line n) (sym f.many) ∙ sym (notes_text s f.given))
      (HoldsMore-append before.held mid.held after.held (note_lines s f.given) (end_line count) f.written w.0);
  faults = w.1 ∙ f.faults;
  refusals = w.2 ∙ f.refusals;
}

refused_once : (before mid after : SinkState) (text : List ℕ) (fault : SinkFault) → mid.faults ≡ before.faults → mid.refusals ≡ before.refusals → Wrote mid after text (Err fault) → RefusedOnce before after
refused_once before mid after text Failed e f w = inr (w.2 ∙ f)
refused_once before mid after text NoMemory e f w = inl (w.2 ∙ e)

refused_part : (before mid after : SinkState) (text : List ℕ) (fault : SinkFault) → mid.faults ≡ before.faults → mid.refusals ≡ before.refusals → Wrote mid after text (Err fault) → TookPart mid after text × Refused fault before after
refused_part before mid after text Failed e f w = (w.0, subst (λ (n : ℕ). HasRisen n after.faults) e w.1)
refused_part before mid after text NoMemory e f w = (w.0, subst (λ (n : ℕ). HasRisen n after.refusals) f w.1)

-- a part of the text behind what was written
wrote_behind : (front text more : List ℕ) (before mid after : SinkState) (fault : SinkFault) → HoldsMore before.held mid.held front → mid.faults ≡ before.faults → mid.refusals ≡ before.refusals
    → Wrote mid after text (Err fault) → (k : ℕ) × WroteInPart ((front ++ text) ++ more) fault (front ++ take k text) before after
wrote_behind front text more before mid after fault held e f w =
    let c = refused_part before mid after text fault e f w in
    let k : ℕ = c.0.0 in (
      k,
      record {
        written = HoldsMore-append before.held mid.held after.held front (take k text) held c.0.2;
        missing = drop k text ++ more;
        some = omega (arith, length-append (drop k text) more, length-drop k text, c.0.1);
        is_text = ap (λ (t : List ℕ). (front ++ t) ++ more) (sym (take-append-drop k text))
            ∙ (ap (λ (t : List ℕ). t ++ more) (sym (append_assoc front (take k text) (drop k text))) ∙ append_assoc (front ++ take k text) (drop k text) more);
        refused = c.1;
        once = refused_once before mid after text fault e f w;
      },
    )

pub begins_lines : (s : Attributes) (n : ℕ) (letters : List Note) (more : List ℕ) → BeginsWith (note_lines s letters ++ more) (note_lines s (take n letters))
begins_lines s n letters more = (
  note_lines s (drop n letters) ++ more,
  ap (λ (t : List ℕ). t ++ more) (ap (note_lines s) (sym (take-append-drop n letters)) ∙ lines-append s (take n letters) (drop n letters))
      ∙ append_assoc (note_lines s (take n letters)) (note_lines s (drop n letters)) more,
)

-- the letters were given, but the last line was cut
cut_at_end : (o : Option (List Note)) (s : Attributes) (max : ℕ) (letters : List Note) (out : List ℕ) (b now : BoardState) → GivesLetters o ((fetching max, notes letters) ∷ []) b now
    → TakenInPart s [] (notes letters) out [] → GivesInPart o s [] (fetching max, notes letters) out b now
cut_at_end None s max letters out b now g t = (g.0, g.1, t)
cut_at_end (Some box) s max letters out b now g t = (g.0, [], g.1, g.2, g.3, t)

pub fetch_cut_at_end : (s : Attributes) (max count : ℕ) (b now : BoardState) (before mid after : SinkState) (fault : SinkFault) → (f : FetchesSo s max count b now before mid) → AreAll max count b now
    → Wrote mid after (end_line count) (Err fault) → RepliedInPartTo (session_conduct s) (fetching max) None fault b now before after
fetch_cut_at_end s max count b now before mid after fault f all w =
    let part = wrote_behind (note_lines s f.given) (end_line count) [] before mid after fault f.written f.faults f.refusals w in
    let out : List ℕ = note_lines s f.given ++ take part.0 (end_line count) in
    let text : (note_lines s f.given ++ end_line count) ++ [] ≡ reply_text s (notes f.given) =
    append-nil (note_lines s f.given ++ end_line count) ∙ (ap (λ (n : ℕ). note_lines s f.given ++ end_line n) (sym f.many) ∙ sym (notes_text s f.given)) in
    record {
      reply = notes f.given;
      ends = refl;
      out = out;
      replies = record {
        steps = fetch_steps s max f.given f.given b now f.goes f.known f.own f.from (omega (arith, f.many, f.few)) f.noted;
        tied = part_tied max f.given b now f.goes f.reads.shuts f.splits;
        puts = puts_one b.box (fetching max, notes f.given) b.counts now.counts refl f.puts;
        letters = cut_at_end b.box s max f.given out b now (gives_all b.box max f.given b now f.from (all_first max f.given b now count f.many f.few all))
            (record { taken = f.given; letters = sym (append-nil f.given); given = begins_lines s (length f.given - 1) f.given (take part.0 (end_line count)) });
      };
      wrote = subst (λ (t : List ℕ). WroteInPart t fault out before after) text part.1;
    }

-- all letters of a reply that was cut at a letter: those taken, and those that would have followed
record CutLetters (s : Attributes) (max : ℕ) (taken : List Note) (b next : BoardState) : Type 0 where
  pub more : List Note
  pub few : length (taken ++ more) ≤ max
  pub noted : (h : List Entry) → Bears h next.word → All (IsNoteFor b.word.session h) (taken ++ more)
  pub given : (out : List ℕ) → TakenInPart s [] (notes (taken ++ more)) out more → GivesInPart b.box s [] (fetching max, notes (taken ++ more)) out b next

cut_letters : (o : Option (List Note)) (s sch : Attributes) (max count : ℕ) (b now next : BoardState) (l : PlainLetter) (before mid : SinkState) → b.box ≡ o → (f : FetchesSo s max count b now before mid) → count < max
    → Fetches now next (Some l) → IsLetterFor sch now.word.session l → IfSome now.box (All (IsNoteFor now.word.session now.word.known)) → CutLetters s max (f.given ++ note_of l ∷ []) b next
cut_letters None s sch max count b now next l before mid is f more q fit holds =
    let taken : List Note = f.given ++ note_of l ∷ [] in
    let d = draws_on None f.given b now next l f.goes.session fit.session (subst (λ (o : Option (List Note)). Draws o f.given b now) is f.from) q.from in
    record {
      more = [];
      few = omega (arith, ap (λ (x : List Note). length x) (append-nil taken), length-append f.given (note_of l ∷ []), f.many, more);
      noted = λ h bears. subst (All (IsNoteFor b.word.session h)) (sym (append-nil taken)) (noted_on s sch max count b now next l before mid f q fit h bears);
      given = λ out t. subst (λ (o : Option (List Note)). GivesInPart o s [] (fetching max, notes (taken ++ [])) out b next) (sym is)
          (d.0, (d.1, d.2, append-nil (taken ++ []) ∙ (append-nil taken ∙ d.3)), t);
    }
cut_letters (Some box) s sch max count b now next l before mid is f more q fit holds =
    let taken : List Note = f.given ++ note_of l ∷ [] in
    let many : length taken ≡ count + 1 = length-append f.given (note_of l ∷ []) ∙ ap (λ (n : ℕ). n + 1) f.many in
    let had : Draws (Some box) f.given b now = subst (λ (o : Option (List Note)). Draws o f.given b now) is f.from in
    let d : Draws (Some box) taken b next = draws_on (Some box) f.given b now next l f.goes.session fit.session had q.from in
    let rest : ℕ = max - length taken in
    let would : List Note = take rest d.1 in
    let far : length taken + rest ≡ max = omega (arith, many, more) in
    let next_is = subst (λ (o : Option (List Note)). ComesFrom now next o (Some l)) had.2 q.from in
    let front : had.1 ≡ note_of l ∷ d.1 = next_is.3.0 ∙ ap (λ (x : List Note). note_of l ∷ x) (same_box next_is.1 d.1 (sym next_is.2 ∙ d.2)) in
    let known : All (IsNoteFor now.word.session now.word.known) d.1 =
    All-tail (IsNoteFor now.word.session now.word.known) (note_of l) d.1
    (subst (All (IsNoteFor now.word.session now.word.known)) front (subst (λ (o : Option (List Note)). IfSome o (All (IsNoteFor now.word.session now.word.known))) had.2 holds)) in
    record {
      more = would;
      few = omega (arith, length-append taken would, length-take rest d.1, far);
      noted = λ h bears.
          let longer : BeginsWith h now.word.known = (bears_fetched h now next (Some l) q bears).known in
          All-append (IsNoteFor b.word.session h) taken would (noted_on s sch max count b now next l before mid f q fit h bears)
          (All-take (IsNoteFor b.word.session h) rest d.1
          (subst (λ (k : ℕ). All (IsNoteFor k h) d.1) f.goes.session
          (subst (λ (x : List Entry). All (IsNoteFor now.word.session x) d.1) (sym longer.1) (notes-append now.word.session now.word.known longer.0 d.1 known))));
      given = λ out t. subst (λ (o : Option (List Note)). GivesInPart o s [] (fetching max, notes (taken ++ would)) out b next) (sym is) (
        d.0,
        would,
        drop rest d.1,
        d.2 ∙ ap (λ (x : List Note). Some x) (sym (take-append-drop rest d.1)),
        λ h bears. (
          sym (ap (λ (x : List Note). take max x) d.3 ∙ (ap (λ (n : ℕ). take n (taken ++ d.1)) (sym far) ∙ take-append-add taken d.1 rest)),
          sym (ap (λ (x : List Note). drop max x) d.3 ∙ (ap (λ (n : ℕ). drop n (taken ++ d.1)) (sym far) ∙ drop-append-add taken d.1 rest)),
        ),
        t,
      );
    }
  where
    same_box : (x y : List Note) → Some x ≡ Some y → x ≡ y
    same_box x y e = cc

-- a letter's line was cut
pub fetch_cut : (s sch : Attributes) (max count : ℕ) (b now next : BoardState) (l : PlainLetter) (before mid after : SinkState) (fault : SinkFault) → (f : FetchesSo s max count b now before mid) → count < max
    → Fetches now next (Some l) → IsLetterFor sch now.word.session l → IfSome now.box (All (IsNoteFor now.word.session now.word.known)) → Wrote mid after (with_lf (note_line s (note_of l))) (Err fault)
    → RepliedInPartTo (session_conduct s) (fetching max) None fault b next before after
fetch_cut s sch max count b now next l before mid after fault f more q fit holds w =
    let line : List ℕ = with_lf (note_line s (note_of l)) in
    let taken : List Note = f.given ++ note_of l ∷ [] in
    let c : CutLetters s max taken b next = cut_letters b.box s sch max count b now next l before mid refl f more q fit holds in
    let rest : List ℕ = note_lines s c.more ++ end_line (length (taken ++ c.more)) in
    let part = wrote_behind (note_lines s f.given) line rest before mid after fault f.written f.faults f.refusals w in
    let out : List ℕ = note_lines s f.given ++ take part.0 line in
    let text : (note_lines s f.given ++ line) ++ rest ≡ reply_text s (notes (taken ++ c.more)) =
    ap (λ (t : List ℕ). t ++ rest) (sym (lines_snoc s f.given (note_of l)))
    ∙ (sym (append_assoc (note_lines s taken) (note_lines s c.more) (end_line (length (taken ++ c.more))))
    ∙ (ap (λ (t : List ℕ). t ++ end_line (length (taken ++ c.more))) (sym (lines-append s taken c.more)) ∙ sym (notes_text s (taken ++ c.more)))) in
    let many : length taken ≡ length f.given + 1 = length-append f.given (note_of l ∷ []) in
    let whole : take (length taken - 1) taken ≡ f.given =
    ap (λ (n : ℕ). take n taken) (omega (arith, many)) ∙ take-append_seam f.given (note_of l ∷ []) in
    record {
      reply = notes (taken ++ c.more);
      ends = refl;
      out = out;
      replies = record {
        steps = fetch_steps s max taken (taken ++ c.more) b next (GoesOn-along b now next f.goes q.goes) (q.known ∙ f.known) (q.own ∙ f.own)
            (draws_on b.box f.given b now next l f.goes.session fit.session f.from q.from) c.few c.noted;
        tied = part_tied max (taken ++ c.more) b next (GoesOn-along b now next f.goes q.goes) (q.reads.shuts ∙ f.reads.shuts) (q.splits ∙ f.splits);
        puts = puts_one b.box (fetching max, notes (taken ++ c.more)) b.counts next.counts refl (q.puts ∙ f.puts);
        letters = c.given out (record {
          taken = taken;
          letters = refl;
          given = (take part.0 line, ap (λ (x : List Note). note_lines s x ++ take part.0 line) (sym whole));
        });
      };
      wrote = subst (λ (t : List ℕ). WroteInPart t fault out before after) text part.1;
    }

pub none_given : {X : Type 0} (o : Option X) → ((x : X) → o ≡ Some x → ⊥) → o ≡ None
none_given None other = refl
none_given (Some x) other = absurd (other x refl)

-- no letter was given, and that was counted
pub none_counted : (s : Attributes) (max count : ℕ) (b now next : BoardState) (before mid : SinkState) → (f : FetchesSo s max count b now before mid) → Fetches now next None → HasRisen now.counts.empties next.counts.empties
    → HasRisen b.counts.empties next.counts.empties × (is_some b.box ≡ true → next.box ≡ Some [])
none_counted s max count b now next before mid f q risen =
    (HasRisen-later b.counts.empties now.counts.empties next.counts.empties f.goes.counts.empties risen, λ told. nothing_left b.box f.given b now next f.from q.from told)

-- the reply to a FETCH, as its last line was written
pub fetch_ended : (s : Attributes) (max count : ℕ) (b now : BoardState) (before mid after : SinkState) (result : Result (Unit {0}) SinkFault) → (f : FetchesSo s max count b now before mid) → AreAll max count b now
    → Wrote mid after (end_line count) result → GivesReply (session_conduct s) (fetching max) b now before after None result
fetch_ended s max count b now before mid after (Ok u) f all w = fetch_whole s max count b now before mid after f all w
fetch_ended s max count b now before mid after (Err fault) f all w = fetch_cut_at_end s max count b now before mid after fault f all w
