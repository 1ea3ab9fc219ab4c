-- A change that a board was asked for, and its reply.
use Rattle.std.proofs.Common.{◌≡◌, inl, inr, ℕ, ◌+◌, ◌-◌, ◌≤◌, Bool, true, false, not, List, [], ◌∷◌, ◌++◌, length, take, Some, is_some, refl, sym, ap, ◌∙◌, subst, arith}
use Rattle.be_base.specs.Text.{Text}
use Rattle.be_base.specs.Lists.{BeginsWith}
use Rattle.be_base.proofs.Beginnings.{BeginsWith-same, BeginsWith-take, BeginsWith-length}
use Rattle.be_model.specs.declared.preds.Pred.{Pred}
use Rattle.be_model.specs.Letters.{PlainLetter}
use Rattle.be_model.specs.Schemas.{Attributes}
use Rattle.be_change.specs.Box.{KeepsBox}
use Rattle.be_change.specs.History.{Entry, live, is_live_name}
use Rattle.be_change.specs.Made.{change_made, change_named}
use Rattle.be_change.specs.Requests.{Request, subscribe, unsubscribe, quit, Reply, ok, held, bye, dup, none, other, split, no_memory, Note}
use Rattle.be_change.specs.Walk.{Walk, having_seen, having_changed, having_left, having_ended, Answers, IsChangeOf, IsRefusedAt, IsSplit, HasNameAt, HasNameOfAnotherAt, place_accepted}
use Rattle.be_protocol.specs.Runs.{comes_in_run, length_told, IsTold, RemovalMayWant}
use Rattle.be_board.specs.declared.answers.Answer.{Answer}
use Rattle.be_board.specs.declared.answers.Answer.TheVariants.{Done, Held, Dup, NoName, Other, Split, NoMemory}
use Rattle.be_board.specs.Changes as board
use Rattle.be_board.specs.Changes.{Accepts, RefusedAt, Differ, AnswersAlone, Asked}
use Rattle.be_board.specs.State.{BoardState, GoesOn, LeavesLetters}
use Rattle.be_board.specs.Word.{own_in, top}
use Rattle.be_session.specs.Bearing.{Bears, Stands}
use Rattle.be_protocol.specs.Ends.{goes_on}
use Rattle.be_session.specs.Given.{letters_of}
use Rattle.be_session.specs.Steps.{places_in, IsBorne, StepsAlone, Steps, Replies}
use Rattle.be_session.specs.Tied.{full_letters, is_read, is_shut, is_split, is_short}
use Rattle.be_session.proofs.Looking.{CountsIf, tied_one}
use Rattle.be_session.specs.Changes.{reply_of, quit_reply}
use Rattle.be_session.proofs.Accepting.{adds_accepted, asks_to_leave, places_accepted, count_accepted, present_accepted, top_accepted, accepted_at, keeps_accepted}
use Rattle.be_session.proofs.Quiet.{quiet, quiet_alone, stands_on, full_by, led_same, told_same, letters_by}
use Rattle.be_session.proofs.Tying.{puts_unread}

-- where an accepted change leaves the walk
stands_accepted_seen : (w : Walk) (b b' : BoardState) (r : Request) (n : ℕ) → GoesOn b b' → Accepts b.word b'.word r n → n ≡ length b'.word.known → Stands w b.word → Stands (having_seen n (having_changed n w)) b'.word
stands_accepted_seen w b b' r n goes a whole st =
    let tops = top_accepted b.word b'.word r n a in
    let many = count_accepted b.word b'.word r n goes.session a in
    record { seen = omega (arith, whole); own = tops.0; serial = omega (arith, many, st.serial) }

stands_accepted_held : (w : Walk) (b b' : BoardState) (r : Request) (n : ℕ) → GoesOn b b' → Accepts b.word b'.word r n → Stands w b.word → Stands (having_changed n w) b'.word
stands_accepted_held w b b' r n goes a st =
    let tops = top_accepted b.word b'.word r n a in
    let many = count_accepted b.word b'.word r n goes.session a in
    let longer : length b.word.known ≤ length b'.word.known = BeginsWith-length b'.word.known b.word.known goes.known in
    record { seen = omega (arith, st.seen, longer); own = tops.0; serial = omega (arith, many, st.serial) }

stands_left : (w : Walk) (b b' : BoardState) (r : Request) (n : ℕ) → GoesOn b b' → Accepts b.word b'.word r n → Stands w b.word → Stands (having_left w) b'.word
stands_left w b b' r n goes a st =
    let tops = top_accepted b.word b'.word r n a in
    let many = count_accepted b.word b'.word r n goes.session a in
    let longer : length b.word.known ≤ length b'.word.known = BeginsWith-length b'.word.known b.word.known goes.known in
    record { seen = omega (arith, st.seen, longer); own = omega (arith, st.own, tops.1); serial = omega (arith, many, st.serial) }

-- an accepted change, whatever reply tells it
accepts : (s : Attributes) (b b' : BoardState) (r : Request) (t : Reply) (n : ℕ) → GoesOn b b' → LeavesLetters b b' → Accepts b.word b'.word r n → place_accepted t ≡ (n - 1) ∷ []
    → (goes_on (r, t) ≡ true → asks_to_leave r ≡ false) → IsBorne s (r, t) b b' → (b.alone ≡ true → is_some b.box ≡ true → StepsAlone (r, t) b b') → Steps s (r, t) b b'
accepts s b b' r t n goes letters a places stays borne alone = record {
  goes = goes;
  own = adds_accepted b.word b'.word r n a;
  notes = subst (λ (l : List PlainLetter). BeginsWith l b.word.notes) (sym letters.notes) (BeginsWith-same b.word.notes);
  places = places_accepted b.word b'.word r n goes.session a ∙ ap (λ (l : List ℕ). places_in (own_in b.word) ++ l) (sym places);
  present = λ gone on. present_accepted b.word b'.word r n goes.session a (stays on) gone;
  borne = borne;
  alone = alone;
}

length_one : (k n place : ℕ) (r : Request) (e : Entry) (m : ℕ) → IsChangeOf k n m r e → length (change_named k n place r) ≡ 1
length_one k n place (subscribe name conj) e m is = refl
length_one k n place (unsubscribe name) e m is = refl
length_one k n place quit e m is = refl
length_one k n place _ e m is = absurd is

-- where nobody else changes the list
accepts_alone : (b b' : BoardState) (r : Request) (t : Reply) (n : ℕ) → Asked b b' r (Done n) → Accepts b.word b'.word r n → b.alone ≡ true → is_some b.box ≡ true → comes_in_run true t ≡ true → length_told t ≡ Some n
    → change_made b.word.session (length (own_in b.word)) (length b.word.known) (r, t) ≡ change_named b.word.session (length (own_in b.word)) (length b.word.known) r
    → RemovalMayWant b.word.session b.word.known (r, t) → (d : board.Answers b.word b'.word r (Done n)) → StepsAlone (r, t) b b'
accepts_alone b b' r t n q a0 alone told plain tells made removal d =
    let a : Accepts b.word b'.word r n = d.0 in
    record {
      told = told_same b b' q.letters.box told;
      plain = plain;
      tells = subst (IsTold (length b'.word.known)) (sym tells) d.1;
      removal = removal;
      grows = q.alone alone ∙ ap (λ (e : List Entry). b.word.known ++ e) (sym made);
      counted = count_accepted b.word b'.word r n q.goes.session a
          ∙ ap (λ (m : ℕ). length (own_in b.word) + m)
          (sym (length_one b.word.session (length (own_in b.word)) (length b.word.known) r a.entry (n - 1) a.is_it) ∙ ap (λ (e : List Entry). length e) (sym made));
      keeps = λ k. keeps_accepted b.word b'.word r n q.goes.session a d.1 d.2 (q.alone alone) q.formed q.letters.notes k;
    }

-- a change that is refused over the whole known list
refused_at : (h : List Entry) (w : Walk) (b b' : BoardState) (m : ℕ) → GoesOn b b' → RefusedAt b.word b'.word m → Bears h b'.word → Stands w b.word → IsRefusedAt h w m × (take m h ≡ b'.word.known)
refused_at h w b b' m goes r bears st =
    let longer : length b.word.known ≤ length b'.word.known = BeginsWith-length b'.word.known b.word.known goes.known in
    let inside : length b'.word.known ≤ length h = BeginsWith-length h b'.word.known bears.known in (
      record {
        covers = omega (arith, st.seen, longer, r.length);
        covers_own = omega (arith, st.own, r.covers_own, ap top r.own);
        within = omega (arith, inside, r.length);
      },
      ap (λ (n : ℕ). take n h) r.length ∙ BeginsWith-take h b'.word.known bears.known,
    )

-- so many are told, and nothing was accepted
stands_refused : (w : Walk) (b b' : BoardState) (m : ℕ) → GoesOn b b' → RefusedAt b.word b'.word m → Stands w b.word → Stands (having_seen m w) b'.word
stands_refused w b b' m goes r st =
    let same : Stands w b'.word = stands_on w b.word b'.word goes.session r.own goes.known st in
    record { seen = omega (arith, r.length); own = same.own; serial = same.serial }

notes_stay : (b b' : BoardState) → LeavesLetters b b' → BeginsWith b'.word.notes b.word.notes
notes_stay b b' letters = subst (λ (l : List PlainLetter). BeginsWith l b.word.notes) (sym letters.notes) (BeginsWith-same b.word.notes)

refuses : (s : Attributes) (b b' : BoardState) (r : Request) (t : Reply) (m : ℕ) (answer : Answer) → Asked b b' r answer → RefusedAt b.word b'.word m → place_accepted t ≡ [] → goes_on (r, t) ≡ true
    → ((h : List Entry) (w : Walk) → IsRefusedAt h w m → take m h ≡ b'.word.known → Answers s b.word.session h r t w (having_seen m w)) → ((h : List Entry) → full_letters h (r, t) ≡ 0)
    → comes_in_run true t ≡ true → length_told t ≡ Some m → RemovalMayWant b.word.session b.word.known (r, t) → (b.alone ≡ true → b'.word.known ≡ b.word.known) → Steps s (r, t) b b'
refuses s b b' r t m answer q at nothing on answers zero plain tells removal same =
    quiet s (r, t) b b' q.goes at.own (notes_stay b b' q.letters) nothing
    (λ h w bears st going.
    let refused = refused_at h w b b' m q.goes at bears st in
    record {
      next = having_seen m w;
      answers = answers h w refused.0 refused.1;
      stands = stands_refused w b b' m q.goes at st;
      ended = going ∙ ap not (sym on);
      full = full_by h (r, t) b b' (zero h) q.goes.counts;
    })
    (λ alone told. quiet_alone (r, t) b b' (told_same b b' q.letters.box told) plain (subst (IsTold (length b'.word.known)) (sym tells) at.length) removal nothing q.goes.session (same alone) at.own q.letters.notes)

-- two numbers that differ
differ_is : (w : Walk) (b b' : BoardState) (i j : ℕ) → GoesOn b b' → b'.word.own ≡ b.word.own → Differ b'.word i j → Stands w b.word → IsSplit w i j
differ_is w b b' i j goes own (inl d) st =
    let same : Stands w b'.word = stands_on w b.word b'.word goes.session own goes.known st in
    inl (omega (arith, same.seen, d.0), d.1)
differ_is w b b' i j goes own (inr (inl d)) st =
    let same : Stands w b'.word = stands_on w b.word b'.word goes.session own goes.known st in
    inl (omega (arith, same.seen, d.1), d.2)
differ_is w b b' i j goes own (inr (inr d)) st =
    let same : Stands w b'.word = stands_on w b.word b'.word goes.session own goes.known st in
    inr (d.0 ∙ sym same.serial, λ e. d.1 (sym e))

splits : (s : Attributes) (b b' : BoardState) (r : Request) (i j : ℕ) → Asked b b' r (Split i j) → b'.word.own ≡ b.word.own → goes_on (r, split i j) ≡ false
    → ((h : List Entry) (w : Walk) → IsSplit w i j → Answers s b.word.session h r (split i j) w (having_ended w)) → Differ b'.word i j → ((h : List Entry) → full_letters h (r, split i j) ≡ 0) → (b.alone ≡ true → ⊥)
    → Steps s (r, split i j) b b'
splits s b b' r i j q own off answers differ zero never =
    quiet s (r, split i j) b b' q.goes own (notes_stay b b' q.letters) refl
    (λ h w bears st going.
    let same : Stands w b'.word = stands_on w b.word b'.word q.goes.session own q.goes.known st in
    record {
      next = having_ended w;
      answers = answers h w (differ_is w b b' i j q.goes own differ st);
      stands = record { seen = same.seen; own = same.own; serial = same.serial };
      ended = sym (ap not off);
      full = full_by h (r, split i j) b b' (zero h) q.goes.counts;
    })
    (λ alone told. absurd (never alone))

pub subscribe_steps : (s : Attributes) (b b' : BoardState) (name : Text) (conj : List Pred) (answer : Answer) → Asked b b' (subscribe name conj) answer → Steps s ((subscribe name conj), reply_of answer) b b'
subscribe_steps s b b' name conj (Done n) q =
    accepts s b b' (subscribe name conj) (ok n) n q.goes q.letters q.answers.0 refl (λ on. refl)
    (λ h w bears st going. record {
      next = having_seen n (having_changed n w);
      answers = (accepted_at h w b.word b'.word (subscribe name conj) n q.goes.session q.answers.0 bears st, refl);
      stands = stands_accepted_seen w b b' (subscribe name conj) n q.goes q.answers.0 q.answers.1 st;
      ended = going;
      full = full_by h ((subscribe name conj), (ok n)) b b' refl q.goes.counts;
    })
    (λ alone told. accepts_alone b b' (subscribe name conj) (ok n) n q q.answers.0 alone told refl refl refl tt q.answers)
subscribe_steps s b b' name conj (Held n) q =
    accepts s b b' (subscribe name conj) (held n) n q.goes q.letters q.answers.0 refl (λ on. refl)
    (λ h w bears st going. record {
      next = having_changed n w;
      answers = (accepted_at h w b.word b'.word (subscribe name conj) n q.goes.session q.answers.0 bears st, refl);
      stands = stands_accepted_held w b b' (subscribe name conj) n q.goes q.answers.0 st;
      ended = going;
      full = full_by h ((subscribe name conj), (held n)) b b' refl q.goes.counts;
    })
    (λ alone told. absurd (q.alone alone))
subscribe_steps s b b' name conj (Dup m id) q =
    refuses s b b' (subscribe name conj) (dup m id) m (Dup m id) q q.answers.0 refl refl
    (λ h w at whole. (at, subst (λ (l : List Entry). HasNameAt (live l) id name) (sym whole) q.answers.1, refl)) (λ h. refl) refl refl tt q.alone
subscribe_steps s b b' name conj (NoName m) q = absurd q.answers
subscribe_steps s b b' name conj (Other m id) q = absurd q.answers
subscribe_steps s b b' name conj (Split i j) q =
    splits s b b' (subscribe name conj) i j q q.answers.0 refl (λ h w is. (is, refl)) q.answers.1 (λ h. refl) (λ alone. q.alone alone)
subscribe_steps s b b' name conj NoMemory q =
    quiet s ((subscribe name conj), no_memory) b b' q.goes q.answers (notes_stay b b' q.letters) refl
    (λ h w bears st going. led_same s h w ((subscribe name conj), no_memory) b b' refl q.goes q.answers st going refl refl)
    (λ alone told. quiet_alone ((subscribe name conj), no_memory) b b' (told_same b b' q.letters.box told) refl tt tt refl q.goes.session (q.alone alone) q.answers q.letters.notes)

pub unsubscribe_steps : (s : Attributes) (b b' : BoardState) (name : Text) (answer : Answer) → Asked b b' (unsubscribe name) answer → Steps s ((unsubscribe name), reply_of answer) b b'
unsubscribe_steps s b b' name (Done n) q =
    accepts s b b' (unsubscribe name) (ok n) n q.goes q.letters q.answers.0 refl (λ on. refl)
    (λ h w bears st going. record {
      next = having_seen n (having_changed n w);
      answers = (accepted_at h w b.word b'.word (unsubscribe name) n q.goes.session q.answers.0 bears st, refl);
      stands = stands_accepted_seen w b b' (unsubscribe name) n q.goes q.answers.0 q.answers.1 st;
      ended = going;
      full = full_by h ((unsubscribe name), (ok n)) b b' refl q.goes.counts;
    })
    (λ alone told. accepts_alone b b' (unsubscribe name) (ok n) n q q.answers.0 alone told refl refl refl tt q.answers)
unsubscribe_steps s b b' name (Held n) q =
    accepts s b b' (unsubscribe name) (held n) n q.goes q.letters q.answers.0 refl (λ on. refl)
    (λ h w bears st going. record {
      next = having_changed n w;
      answers = (accepted_at h w b.word b'.word (unsubscribe name) n q.goes.session q.answers.0 bears st, refl);
      stands = stands_accepted_held w b b' (unsubscribe name) n q.goes q.answers.0 st;
      ended = going;
      full = full_by h ((unsubscribe name), (held n)) b b' refl q.goes.counts;
    })
    (λ alone told. absurd (q.alone alone))
unsubscribe_steps s b b' name (Dup m id) q = absurd q.answers
unsubscribe_steps s b b' name (NoName m) q =
    refuses s b b' (unsubscribe name) (none m) m (NoName m) q q.answers.0 refl refl
    (λ h w at whole. (at, ap (λ (l : List Entry). is_live_name name (live l)) whole ∙ q.answers.1, refl)) (λ h. refl) refl refl tt q.alone
unsubscribe_steps s b b' name (Other m id) q =
    refuses s b b' (unsubscribe name) (other m id) m (Other m id) q q.answers.0 refl refl
    (λ h w at whole. (
      at,
      subst (λ (l : List Entry). HasNameOfAnotherAt b.word.session (live l) id name) (sym whole)
          (subst (λ (k : ℕ). HasNameOfAnotherAt k (live b'.word.known) id name) refl q.answers.1),
      refl,
    )) (λ h. refl) refl refl tt q.alone
unsubscribe_steps s b b' name (Split i j) q =
    splits s b b' (unsubscribe name) i j q q.answers.0 refl (λ h w is. (is, refl)) q.answers.1 (λ h. refl) (λ alone. q.alone alone)
unsubscribe_steps s b b' name NoMemory q =
    quiet s ((unsubscribe name), no_memory) b b' q.goes q.answers (notes_stay b b' q.letters) refl
    (λ h w bears st going. led_same s h w ((unsubscribe name), no_memory) b b' refl q.goes q.answers st going refl refl)
    (λ alone told. quiet_alone ((unsubscribe name), no_memory) b b' (told_same b b' q.letters.box told) refl tt (q.alone alone).1 refl q.goes.session (q.alone alone).0 q.answers q.letters.notes)

stands_held_ended : (w : Walk) (b b' : BoardState) (r : Request) (n : ℕ) → GoesOn b b' → Accepts b.word b'.word r n → Stands w b.word → Stands (having_ended (having_changed n w)) b'.word
stands_held_ended w b b' r n goes a st =
    let same : Stands (having_changed n w) b'.word = stands_accepted_held w b b' r n goes a st in
    record { seen = same.seen; own = same.own; serial = same.serial }

pub quit_steps : (s : Attributes) (b b' : BoardState) (answer : Answer) → Asked b b' quit answer → Steps s (quit, quit_reply answer) b b'
quit_steps s b b' (Done n) q =
    accepts s b b' quit (bye n) n q.goes q.letters q.answers.0 refl (λ on. absurd cc)
    (λ h w bears st going. record {
      next = having_left w;
      answers = (accepted_at h w b.word b'.word quit n q.goes.session q.answers.0 bears st, refl);
      stands = stands_left w b b' quit n q.goes q.answers.0 st;
      ended = refl;
      full = full_by h (quit, (bye n)) b b' refl q.goes.counts;
    })
    (λ alone told. accepts_alone b b' quit (bye n) n q q.answers.0 alone told refl refl refl tt q.answers)
quit_steps s b b' (Held n) q =
    accepts s b b' quit (held n) n q.goes q.letters q.answers.0 refl (λ on. absurd cc)
    (λ h w bears st going. record {
      next = having_ended (having_changed n w);
      answers = (accepted_at h w b.word b'.word quit n q.goes.session q.answers.0 bears st, refl);
      stands = stands_held_ended w b b' quit n q.goes q.answers.0 st;
      ended = refl;
      full = full_by h (quit, (held n)) b b' refl q.goes.counts;
    })
    (λ alone told. absurd (q.alone alone))
quit_steps s b b' (Dup m id) q = absurd q.answers
quit_steps s b b' (NoName m) q = absurd q.answers
quit_steps s b b' (Other m id) q = absurd q.answers
quit_steps s b b' (Split i j) q =
    splits s b b' quit i j q q.answers.0 refl (λ h w is. (is, refl)) q.answers.1 (λ h. refl) (λ alone. q.alone alone)
quit_steps s b b' NoMemory q =
    quiet s (quit, no_memory) b b' q.goes q.answers (notes_stay b b' q.letters) refl
    (λ h w bears st going.
    let same : Stands w b'.word = stands_on w b.word b'.word q.goes.session q.answers q.goes.known st in
    record {
      next = having_ended w;
      answers = refl;
      stands = record { seen = same.seen; own = same.own; serial = same.serial };
      ended = refl;
      full = full_by h (quit, no_memory) b b' refl q.goes.counts;
    })
    (λ alone told. quiet_alone (quit, no_memory) b b' (told_same b b' q.letters.box told) refl tt tt refl q.goes.session (q.alone alone) q.answers q.letters.notes)

-- a change that was asked for moves no letters, and only two numbers that differ are counted
changed : (s : Attributes) (r : Request) (t : Reply) (answer : Answer) (b b' : BoardState) → Asked b b' r answer → Steps s (r, t) b b' → is_read (r, t) ≡ false → is_shut (r, t) ≡ false → is_short (r, t) ≡ false
    → CountsIf (is_split (r, t)) b.counts.splits b'.counts.splits → letters_of t ≡ [] → ((h : List Entry) (box : List Note) → KeepsBox h ((r, t) ∷ []) box box) → Replies s (r, t) b b'
changed s r t answer b b' q st read shut short splits without boxed = record {
  steps = st;
  tied = tied_one (r, t) b.counts b'.counts q.goes.counts (λ e. let x = sym read ∙ e in absurd cc) (subst (λ (x : Bool). CountsIf x b.counts.shuts b'.counts.shuts) (sym shut) q.reads.shuts) splits (λ e. let x = sym short ∙ e in absurd cc);
  puts = puts_unread b.box (r, t) b.counts b'.counts read q.letters.puts;
  letters = letters_by b.box (r, t) b b' refl without q.letters boxed;
}

pub subscribe_replies : (s : Attributes) (b b' : BoardState) (name : Text) (conj : List Pred) (answer : Answer) → Asked b b' (subscribe name conj) answer → Replies s (subscribe name conj, reply_of answer) b b'
subscribe_replies s b b' name conj answer q = by answer q
  where
    by : (x : Answer) → Asked b b' (subscribe name conj) x → Replies s (subscribe name conj, reply_of x) b b'
    by (Done n) p = changed s (subscribe name conj) (ok n) (Done n) b b' p (subscribe_steps s b b' name conj (Done n) p) refl refl refl p.split refl (λ h box. (tt, refl))
    by (Held n) p = changed s (subscribe name conj) (held n) (Held n) b b' p (subscribe_steps s b b' name conj (Held n) p) refl refl refl p.split refl (λ h box. (tt, refl))
    by (Dup m id) p = changed s (subscribe name conj) (dup m id) (Dup m id) b b' p (subscribe_steps s b b' name conj (Dup m id) p) refl refl refl p.split refl (λ h box. (tt, refl))
    by (NoName m) p = absurd p.answers
    by (Other m id) p = absurd p.answers
    by (Split i j) p = changed s (subscribe name conj) (split i j) (Split i j) b b' p (subscribe_steps s b b' name conj (Split i j) p) refl refl refl p.split refl (λ h box. (tt, refl))
    by NoMemory p = changed s (subscribe name conj) no_memory NoMemory b b' p (subscribe_steps s b b' name conj NoMemory p) refl refl refl p.split refl (λ h box. (tt, refl))

pub unsubscribe_replies : (s : Attributes) (b b' : BoardState) (name : Text) (answer : Answer) → Asked b b' (unsubscribe name) answer → Replies s (unsubscribe name, reply_of answer) b b'
unsubscribe_replies s b b' name answer q = by answer q
  where
    by : (x : Answer) → Asked b b' (unsubscribe name) x → Replies s (unsubscribe name, reply_of x) b b'
    by (Done n) p = changed s (unsubscribe name) (ok n) (Done n) b b' p (unsubscribe_steps s b b' name (Done n) p) refl refl refl p.split refl (λ h box. (tt, refl))
    by (Held n) p = changed s (unsubscribe name) (held n) (Held n) b b' p (unsubscribe_steps s b b' name (Held n) p) refl refl refl p.split refl (λ h box. (tt, refl))
    by (Dup m id) p = absurd p.answers
    by (NoName m) p = changed s (unsubscribe name) (none m) (NoName m) b b' p (unsubscribe_steps s b b' name (NoName m) p) refl refl refl p.split refl (λ h box. (tt, refl))
    by (Other m id) p = changed s (unsubscribe name) (other m id) (Other m id) b b' p (unsubscribe_steps s b b' name (Other m id) p) refl refl refl p.split refl (λ h box. (tt, refl))
    by (Split i j) p = changed s (unsubscribe name) (split i j) (Split i j) b b' p (unsubscribe_steps s b b' name (Split i j) p) refl refl refl p.split refl (λ h box. (tt, refl))
    by NoMemory p = changed s (unsubscribe name) no_memory NoMemory b b' p (unsubscribe_steps s b b' name NoMemory p) refl refl refl p.split refl (λ h box. (tt, refl))

pub quit_replies : (s : Attributes) (b b' : BoardState) (answer : Answer) → Asked b b' quit answer → Replies s (quit, quit_reply answer) b b'
quit_replies s b b' answer q = by answer q
  where
    by : (x : Answer) → Asked b b' quit x → Replies s (quit, quit_reply x) b b'
    by (Done n) p = changed s quit (bye n) (Done n) b b' p (quit_steps s b b' (Done n) p) refl refl refl p.split refl (λ h box. (tt, refl))
    by (Held n) p = changed s quit (held n) (Held n) b b' p (quit_steps s b b' (Held n) p) refl refl refl p.split refl (λ h box. (tt, refl))
    by (Dup m id) p = absurd p.answers
    by (NoName m) p = absurd p.answers
    by (Other m id) p = absurd p.answers
    by (Split i j) p = changed s quit (split i j) (Split i j) b b' p (quit_steps s b b' (Split i j) p) refl refl refl p.split refl (λ h box. (tt, refl))
    by NoMemory p = changed s quit no_memory NoMemory b b' p (quit_steps s b b' NoMemory p) refl refl refl p.split refl (λ h box. (tt, refl))
