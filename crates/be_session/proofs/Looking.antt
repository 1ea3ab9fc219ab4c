-- What a read of the board found, and its reply.
use Rattle.std.proofs.Common.{◌≡◌, ℕ, ◌≤◌, Bool, true, false, cond, List, [], ◌∷◌, length, take, filter, Some, None, is_some, refl, sym, ap, ◌∙◌, subst, arith}
use Rattle.be_base.specs.Counts.{raised, HasRisen, HasRisenBy, RisesBy}
use Rattle.be_base.specs.Lists.{BeginsWith}
use Rattle.be_base.proofs.Beginnings.{BeginsWith-same, BeginsWith-take, BeginsWith-length}
use Rattle.be_base.specs.declared.names.NoRead.{NoRead}
use Rattle.be_base.specs.declared.names.NoRead.TheVariants as unread
use Rattle.be_model.specs.Letters.{PlainLetter}
use Rattle.be_model.specs.Schemas.{Attributes}
use Rattle.be_change.specs.Box.{KeepsBox}
use Rattle.be_change.specs.History.{Entry}
use Rattle.be_change.specs.Requests.{Request, refused, subscribe, unsubscribe, publish, costing, listing, sending, fetching, dumping, tailing, quit, Reply, no_memory, shut, Note, Exchange}
use Rattle.be_change.specs.Walk.{Walk, having_seen, Answers, IsReadAt, place_accepted}
use Rattle.be_protocol.specs.Runs.{comes_in_run, length_told, IsTold, RemovalMayWant}
use Rattle.be_board.specs.Reads as board
use Rattle.be_board.specs.Reads.{Looks, Refuses}
use Rattle.be_board.specs.State.{BoardState, BoardCounts, NoneFalls, GoesOn, LeavesLetters}
use Rattle.be_board.specs.Word.{Word}
use Rattle.be_protocol.specs.Ends.{goes_on}
use Rattle.be_session.specs.Given.{letters_of}
use Rattle.be_protocol.specs.Short.{plain_reply, short_of}
use Rattle.be_session.specs.Steps.{Steps, Replies}
use Rattle.be_session.specs.Tied.{is_read, is_shut, is_split, is_short, full_letters, letters_put, Tied, TiedFull}
use Rattle.be_session.proofs.Quiet.{quiet, quiet_alone, full_by, led_same, led_told, letters_by, told_same}
use Rattle.be_session.proofs.Tying.{puts_one, puts_unread}

one : (b : Bool) (test : Exchange → Bool) (p : Exchange) (x y : ℕ) → test p ≡ b → x ≤ y → (test p ≡ true → HasRisen x y) → HasRisenBy (length (filter test (p ∷ []))) x y
one true test p x y is falls so = subst (λ (c : Bool). HasRisenBy (length (cond c (p ∷ []) [])) x y) (sym is) (so is)
one false test p x y is falls so = subst (λ (c : Bool). HasRisenBy (length (cond c (p ∷ []) [])) x y) (sym is) (omega (arith, falls))

-- it was counted once, or not
abbrev pub CountsIf : Bool → ℕ → ℕ → Type 0
CountsIf true x y = y ≡ raised 1 x
CountsIf false x y = y ≡ x

exactly : (b : Bool) (test : Exchange → Bool) (p : Exchange) (x y : ℕ) → test p ≡ b → CountsIf b x y → RisesBy (length (filter test (p ∷ []))) x y
exactly true test p x y is so = subst (λ (c : Bool). RisesBy (length (cond c (p ∷ []) [])) x y) (sym is) (omega (arith, so))
exactly false test p x y is so = subst (λ (c : Bool). RisesBy (length (cond c (p ∷ []) [])) x y) (sym is) (omega (arith, so))

-- one reply, and what it owes the counts
pub tied_one : (p : Exchange) (c c' : BoardCounts) → NoneFalls c c' → (is_read p ≡ true → HasRisen c.reads c'.reads) → CountsIf (is_shut p) c.shuts c'.shuts → CountsIf (is_split p) c.splits c'.splits
    → (is_short p ≡ true → HasRisen c.empties c'.empties) → Tied false (p ∷ []) (p ∷ []) c c'
tied_one p c c' falls reads shuts splits empties = record {
  reads = one (is_read p) is_read p c.reads c'.reads refl falls.reads reads;
  shuts = exactly (is_shut p) is_shut p c.shuts c'.shuts refl shuts;
  splits = exactly (is_split p) is_split p c.splits c'.splits refl splits;
  empties = one (is_short p) is_short p c.empties c'.empties refl falls.empties empties;
}

-- a read was answered
pub looks : (s : Attributes) (p : Exchange) (n : ℕ) (b b' : BoardState) → GoesOn b b' → b'.word.own ≡ b.word.own → b'.word.notes ≡ b.word.notes → (b.alone ≡ true → b'.word.known ≡ b.word.known)
    → (is_some b.box ≡ true → is_some b'.box ≡ true) → n ≡ length b'.word.known → place_accepted p.1 ≡ [] → goes_on p ≡ true → comes_in_run true p.1 ≡ true → length_told p.1 ≡ Some n → RemovalMayWant b.word.session b.word.known p
    → ((h : List Entry) (w : Walk) → IsReadAt h w n → take n h ≡ b'.word.known → Answers s b.word.session h p.0 p.1 w (having_seen n w))
    → ((h : List Entry) → take n h ≡ b'.word.known → TiedFull h (p ∷ []) b.counts b'.counts) → Steps s p b b'
looks s p n b b' goes own noted alone told whole nothing on plain tells removal answers full =
    quiet s p b b' goes own (subst (λ (l : List PlainLetter). BeginsWith l b.word.notes) (sym noted) (BeginsWith-same b.word.notes)) nothing
    (λ h w bears st going.
    let longer : length b.word.known ≤ length b'.word.known = BeginsWith-length b'.word.known b.word.known goes.known in
    let inside : length b'.word.known ≤ length h = BeginsWith-length h b'.word.known bears.known in
    let front : take n h ≡ b'.word.known = ap (λ (m : ℕ). take m h) whole ∙ BeginsWith-take h b'.word.known bears.known in
    led_told s h w p n b b' whole (answers h w (record { covers = omega (arith, st.seen, longer, whole); within = omega (arith, inside, whole) }) front) goes own st going on (full h front))
    (λ is box. quiet_alone p b b' (told box) plain (subst (IsTold (length b'.word.known)) (sym tells) whole) removal nothing goes.session (alone is) own noted)

-- a request that a read answers
abbrev pub is_reading : Request → Bool
is_reading (publish e) = true
is_reading (costing e) = true
is_reading listing = true
is_reading (sending e) = true
is_reading dumping = true
is_reading (tailing place max) = true
is_reading _ = false

-- the facts of a read that was refused
pub record IsRefusal (r : Request) (t : Reply) : Type 0 where
  pub answers : (s : Attributes) (k : ℕ) (h : List Entry) (w : Walk) → Answers s k h r t w w
  pub zero : (h : List Entry) → full_letters h (r, t) ≡ 0
  pub on : goes_on (r, t) ≡ true
  pub removal : (k : ℕ) (h : List Entry) → RemovalMayWant k h (r, t)
  pub boxed : (h : List Entry) (box : List Note) → KeepsBox h ((r, t) ∷ []) box box
  pub read : is_read (r, t) ≡ false
  pub split : is_split (r, t) ≡ false
  pub short : is_short (r, t) ≡ false

pub refused_memory : (r : Request) → is_reading r ≡ true → IsRefusal r no_memory
refused_memory (publish e) is = record { answers = λ s k h w. refl; zero = λ h. refl; on = refl; removal = λ k h. tt; boxed = λ h box. (tt, refl); read = refl; split = refl; short = refl }
refused_memory (costing e) is = record { answers = λ s k h w. refl; zero = λ h. refl; on = refl; removal = λ k h. tt; boxed = λ h box. (tt, refl); read = refl; split = refl; short = refl }
refused_memory listing is = record { answers = λ s k h w. refl; zero = λ h. refl; on = refl; removal = λ k h. tt; boxed = λ h box. (tt, refl); read = refl; split = refl; short = refl }
refused_memory (sending e) is = record { answers = λ s k h w. refl; zero = λ h. refl; on = refl; removal = λ k h. tt; boxed = λ h box. (tt, refl); read = refl; split = refl; short = refl }
refused_memory dumping is = record { answers = λ s k h w. refl; zero = λ h. refl; on = refl; removal = λ k h. tt; boxed = λ h box. (tt, refl); read = refl; split = refl; short = refl }
refused_memory (tailing place max) is = record { answers = λ s k h w. refl; zero = λ h. refl; on = refl; removal = λ k h. tt; boxed = λ h box. (tt, refl); read = refl; split = refl; short = refl }
refused_memory (refused x) is = absurd cc
refused_memory (subscribe name conj) is = absurd cc
refused_memory (unsubscribe name) is = absurd cc
refused_memory (fetching max) is = absurd cc
refused_memory quit is = absurd cc

pub refused_entry : (r : Request) → is_reading r ≡ true → IsRefusal r shut
refused_entry (publish e) is = record { answers = λ s k h w. refl; zero = λ h. refl; on = refl; removal = λ k h. tt; boxed = λ h box. (tt, refl); read = refl; split = refl; short = refl }
refused_entry (costing e) is = record { answers = λ s k h w. refl; zero = λ h. refl; on = refl; removal = λ k h. tt; boxed = λ h box. (tt, refl); read = refl; split = refl; short = refl }
refused_entry listing is = record { answers = λ s k h w. refl; zero = λ h. refl; on = refl; removal = λ k h. tt; boxed = λ h box. (tt, refl); read = refl; split = refl; short = refl }
refused_entry (sending e) is = record { answers = λ s k h w. refl; zero = λ h. refl; on = refl; removal = λ k h. tt; boxed = λ h box. (tt, refl); read = refl; split = refl; short = refl }
refused_entry dumping is = record { answers = λ s k h w. refl; zero = λ h. refl; on = refl; removal = λ k h. tt; boxed = λ h box. (tt, refl); read = refl; split = refl; short = refl }
refused_entry (tailing place max) is = record { answers = λ s k h w. refl; zero = λ h. refl; on = refl; removal = λ k h. tt; boxed = λ h box. (tt, refl); read = refl; split = refl; short = refl }
refused_entry (refused x) is = absurd cc
refused_entry (subscribe name conj) is = absurd cc
refused_entry (unsubscribe name) is = absurd cc
refused_entry (fetching max) is = absurd cc
refused_entry quit is = absurd cc

refuses_read : (s : Attributes) (r : Request) (t : Reply) (b b' : BoardState) → IsRefusal r t → place_accepted t ≡ [] → letters_of t ≡ [] → GoesOn b b' → LeavesLetters b b' → b'.word ≡ b.word
    → CountsIf (is_shut (r, t)) b.counts.shuts b'.counts.shuts → b'.counts.splits ≡ b.counts.splits → (b.alone ≡ true → comes_in_run true t ≡ true) → length_told t ≡ None → Replies s (r, t) b b'
refuses_read s r t b b' f nothing without goes letters same shuts splits plain tells =
    let own : b'.word.own ≡ b.word.own = ap (λ (w : Word). w.own) same in
    let since : BeginsWith b'.word.notes b.word.notes = subst (λ (l : List PlainLetter). BeginsWith l b.word.notes) (sym letters.notes) (BeginsWith-same b.word.notes) in
    record {
      steps = quiet s (r, t) b b' goes own since nothing
          (λ h w bears st going. led_same s h w (r, t) b b' (f.answers s b.word.session h w) goes own st going f.on (f.zero h))
          (λ alone told. quiet_alone (r, t) b b' (told_same b b' letters.box told) (plain alone) (subst (IsTold (length b'.word.known)) (sym tells) tt) (f.removal b.word.session b.word.known) nothing
          goes.session (ap (λ (w : Word). w.known) same) own letters.notes);
      tied = tied_one (r, t) b.counts b'.counts goes.counts (λ e. let x = sym f.read ∙ e in absurd cc) shuts (subst (λ (x : Bool). CountsIf x b.counts.splits b'.counts.splits) (sym f.split) splits) (λ e. let x = sym f.short ∙ e in absurd cc);
      puts = puts_unread b.box (r, t) b.counts b'.counts f.read letters.puts;
      letters = letters_by b.box (r, t) b b' refl without letters f.boxed;
    }

-- a read was refused an entry, or memory was wanting
pub refused_read : (s : Attributes) (r : Request) (b b' : BoardState) (no : NoRead) → is_reading r ≡ true → GoesOn b b' → LeavesLetters b b' → b'.counts.splits ≡ b.counts.splits → Refuses b b' no → Replies s (r, plain_reply (short_of no)) b b'
refused_read s r b b' unread.Shut is goes letters splits f =
    refuses_read s r shut b b' (refused_entry r is) refl refl goes letters f.0 f.1.shuts splits (λ alone. let x = sym alone ∙ f.2 in absurd cc) refl
refused_read s r b b' unread.NoMemory is goes letters splits f =
    refuses_read s r no_memory b b' (refused_memory r is) refl refl goes letters f.0 f.1.shuts splits (λ alone. refl) refl

-- memory was wanting after the read, or before it
pub wanted_memory : (s : Attributes) (r : Request) (b b' : BoardState) → is_reading r ≡ true → Looks b b' → b'.counts.shuts ≡ b.counts.shuts → Replies s (r, no_memory) b b'
wanted_memory s r b b' is l shuts =
    let f : IsRefusal r no_memory = refused_memory r is in
    record {
      steps = quiet s (r, no_memory) b b' l.goes l.own (subst (λ (n : List PlainLetter). BeginsWith n b.word.notes) (sym l.letters.notes) (BeginsWith-same b.word.notes)) refl
          (λ h w bears st going. led_same s h w (r, no_memory) b b' (f.answers s b.word.session h w) l.goes l.own st going f.on (f.zero h))
          (λ alone told. quiet_alone (r, no_memory) b b' (told_same b b' l.letters.box told) refl tt (f.removal b.word.session b.word.known) refl l.goes.session (l.alone alone) l.own l.letters.notes);
      tied = tied_one (r, no_memory) b.counts b'.counts l.goes.counts (λ e. let x = sym f.read ∙ e in absurd cc) shuts l.splits (λ e. let x = sym f.short ∙ e in absurd cc);
      puts = puts_unread b.box (r, no_memory) b.counts b'.counts f.read l.letters.puts;
      letters = letters_by b.box (r, no_memory) b b' refl refl l.letters f.boxed;
    }

-- a read was answered, and its reply tells what it found
pub found : (s : Attributes) (p : Exchange) (n : ℕ) (b b' : BoardState) → Looks b b' → board.IsReadAt b b' n → place_accepted p.1 ≡ [] → goes_on p ≡ true → comes_in_run true p.1 ≡ true → length_told p.1 ≡ Some n
    → RemovalMayWant b.word.session b.word.known p → is_shut p ≡ false → is_split p ≡ false → is_short p ≡ false → letters_of p.1 ≡ [] → letters_put p ≡ 0 → ((h : List Entry) → full_letters h p ≡ 0) → ((h : List Entry) (box : List Note) → KeepsBox h (p ∷ []) box box)
    → ((h : List Entry) (w : Walk) → IsReadAt h w n → take n h ≡ b'.word.known → Answers s b.word.session h p.0 p.1 w (having_seen n w)) → Replies s p b b'
found s p n b b' l at nothing on plain tells removal shuts splits shorts without unsent zero boxed answers = record {
  steps = looks s p n b b' l.goes l.own l.letters.notes l.alone (told_same b b' l.letters.box) at.length nothing on plain tells removal answers (λ h front. full_by h p b b' (zero h) l.goes.counts);
  tied = tied_one p b.counts b'.counts l.goes.counts (λ e. omega (arith, at.counted)) (subst (λ (x : Bool). CountsIf x b.counts.shuts b'.counts.shuts) (sym shuts) at.shuts) (subst (λ (x : Bool). CountsIf x b.counts.splits b'.counts.splits) (sym splits) l.splits) (λ e. let x = sym shorts ∙ e in absurd cc);
  puts = puts_one b.box p b.counts b'.counts unsent l.letters.puts;
  letters = letters_by b.box p b b' refl without l.letters boxed;
}
