-- Letters that were offered: what they make of the passes, and for whom they are.
use Rattle.std.proofs.Common.{◌≡◌, inl, inr, ℕ, ◌+◌, ◌-◌, ◌<◌, ◌≤◌, ◌==◌, Bool, true, false, not, cond, zero, suc, List, [], ◌∷◌, ◌++◌, length, take, map, filter, Some, get_or, refl, sym, ap, ◌∙◌, subst, arith, length-append, take_all}
use Rattle.std.specs.Prelude.{All, Result, Ok, Err, OnOk, OnErr, IfErr}
use Rattle.std.proofs.lemmas.List.{length-map, length-set}
use Rattle.std.proofs.lemmas.List.Elements.{All-nil, All-cons, All-head, All-tail, All-filter, filter_passes}
use Rattle.std.proofs.lemmas.List.Filters.{length-filter_both}
use Rattle.std.proofs.lemmas.List.Sums.{sum_by-set}
use Rattle.std.proofs.Math.Nat.{mod-lt}
use Rattle.be_base.specs.Counts.{raised, last_count}
use Rattle.be_model.specs.declared.changes.Row.{Row}
use Rattle.be_model.specs.ByIds.{ByIds, Rising, SayIds, is_of, row_at, rows_of}
use Rattle.be_model.specs.Letters.{PlainLetter}
use Rattle.be_model.specs.Lies.{event_lies}
use Rattle.be_model.specs.Matching.{Assignments, satisfies}
use Rattle.be_model.specs.Rows.{id_of}
use Rattle.be_model.specs.Schemas.{Attributes}
use Rattle.be_model.proofs.RowsByIds.{rows_of-filter}
use Rattle.be_model.proofs.RisingIds.{row_at-first, row_at-later}
use Rattle.be_change.specs.History.{Entry, live, hit_rows, hits, IsWellFormed}
use Rattle.be_change.specs.Opening.{is_of_nobody}
use Rattle.be_change.proofs.Grows.{rising_live}
use Rattle.be_change.proofs.Names.{live_say}
use Rattle.be_mail.specs.Letters.{IsFit, seat_of}
use Rattle.be_mail.specs.Letters.{Posting, letter_in}
use Rattle.be_mail.specs.Passes.{Passes, TableId, AllPut, AreOfSeat, put_into, after_put, after_full}
use Rattle.be_mail.proofs.AllPut.{AllPut-after_put}
use Rattle.be_board.specs.Word.{IsDelivered}
use Rattle.be_base.specs.declared.names.NoRead.{NoRead}
use Rattle.be_base.specs.declared.names.NoRead.TheVariants.{Shut, NoMemory}
use Rattle.be_board.specs.Reads.{Looks, IsReadAt, Refuses}
use Rattle.be_board.specs.Letters.{Sends, RefusesSend, Posts}
use Rattle.be_board.specs.Local.{letter_for, letters_for, addressed}
use Rattle.be_desk.specs.Seats.{SeatState, IsOfSeat, IsSeat}
use Rattle.be_desk.specs.Boards.{board_of, put_count, OnBoards, Offers}

-- what the passes show once so many letters were put and so many came back
pub record Shown (q q' : Passes) (put full : ℕ) : Type 0 where
  pub seat : q'.seat ≡ q.seat
  pub taken : q'.taken ≡ q.taken
  pub empties : q'.empties ≡ q.empties
  pub fulls : q'.fulls ≡ raised full q.fulls
  pub puts : put_count q' ≡ put_count q + put

module _ (F : Passes → ℕ → Type 0) (seats : ℕ) where
  -- one letter more was put, or came back

  pub offers_put : (ls : List PlainLetter) (l : PlainLetter) (n : ℕ) (q q1 q2 : Passes) → Offers F seats ls n q q1 → q2 ≡ after_put q1 (seat_of seats l.session) l → Offers F seats (ls ++ l ∷ []) (n + 1) q q2
  offers_put [] l n q q1 q2 (none, same) is = inl (n, refl, (none, is ∙ ap (λ (x : Passes). after_put x (seat_of seats l.session) l) same))
  offers_put (x ∷ xs) l n q q1 q2 (inl (more, at, rest)) is = inl (more + 1, ap (λ (k : ℕ). k + 1) at, offers_put xs l more (after_put q (seat_of seats x.session) x) q1 q2 rest is)
  offers_put (x ∷ xs) l n q q1 q2 (inr (full, rest)) is = inr (full, offers_put xs l n (after_full q) q1 q2 rest is)

  pub offers_full : (ls : List PlainLetter) (l : PlainLetter) (n : ℕ) (q q1 q2 : Passes) → Offers F seats ls n q q1 → F q1 (seat_of seats l.session) → q2 ≡ after_full q1 → Offers F seats (ls ++ l ∷ []) n q q2
  offers_full [] l n q q1 q2 (none, same) f is = inr (subst (λ (x : Passes). F x (seat_of seats l.session)) same f, (none, is ∙ ap after_full same))
  offers_full (x ∷ xs) l n q q1 q2 (inl (more, at, rest)) f is = inl (more, at, offers_full xs l more (after_put q (seat_of seats x.session) x) q1 q2 rest f is)
  offers_full (x ∷ xs) l n q q1 q2 (inr (full, rest)) f is = inr (full, offers_full xs l n (after_full q) q1 q2 rest f is)

  pub offers_few : (ls : List PlainLetter) (n : ℕ) (q q' : Passes) → Offers F seats ls n q q' → n ≤ length ls
  offers_few [] n q q' (none, same) = omega (arith, none)
  offers_few (x ∷ xs) n q q' (inl (more, at, rest)) = omega (arith, at, offers_few xs more (after_put q (seat_of seats x.session) x) q' rest)
  offers_few (x ∷ xs) n q q' (inr (full, rest)) = omega (arith, offers_few xs n (after_full q) q' rest)

  count_put : (l : PlainLetter) (q : Passes) → 0 < seats → seats ≤ length q.puts → put_count (after_put q (seat_of seats l.session) l) ≡ put_count q + 1
  count_put l q some few =
      let box : ℕ = seat_of seats l.session in
      let here : box < length q.puts = omega (arith, few, mod-lt (l.session - 1) some) in
      let more = sum_by-set (λ (letters : List PlainLetter). length letters) q.puts box (put_into box q ++ l ∷ []) [] here in
      omega (arith, more, length-append (put_into box q) (l ∷ []))

  shown : (ls : List PlainLetter) (n : ℕ) (q q' : Passes) → 0 < seats → seats ≤ length q.puts → q.fulls ≤ last_count → Offers F seats ls n q q' → Shown q q' n (length ls - n)
  shown [] n q q' some few most (none, same) = record {
    seat = ap (λ (x : Passes). x.seat) same;
    taken = ap (λ (x : Passes). x.taken) same;
    empties = ap (λ (x : Passes). x.empties) same;
    fulls = omega (arith, ap (λ (x : Passes). x.fulls) same, most);
    puts = omega (arith, ap put_count same, none);
  }
  shown (x ∷ xs) n q q' some few most (inl (more, at, rest)) =
      let box : ℕ = seat_of seats x.session in
      let later = shown xs more (after_put q box x) q' some (subst (λ (k : ℕ). seats ≤ k) (sym (length-set q.puts box (put_into box q ++ x ∷ []))) few) most rest in
      record {
        seat = later.seat;
        taken = later.taken;
        empties = later.empties;
        fulls = later.fulls ∙ omega (arith, at);
        puts = omega (arith, later.puts, count_put x q some few, at);
      }
  shown (x ∷ xs) n q q' some few most (inr (full, rest)) =
      let later = shown xs n (after_full q) q' some few (omega arith) rest in
      let less : n ≤ length xs = offers_few xs n (after_full q) q' rest in
      record { seat = later.seat; taken = later.taken; empties = later.empties; fulls = omega (arith, later.fulls, less); puts = later.puts }

-- a row that stands in the list, and is hit
record IsHitRow (h : List Entry) (e : Assignments) (r : ℕ × Row) : Type 0 where
  pub stands : row_at (id_of r.1) (live h) ≡ Some r.1
  pub hit : satisfies e r.1.conj ≡ true

stand_all : (m : ByIds) → Rising m → SayIds m → All (λ (r : ℕ × Row). row_at (id_of r.1) m ≡ Some r.1) m
stand_all [] rising say = All-nil (λ (r : ℕ × Row). row_at (id_of r.1) [] ≡ Some r.1)
stand_all (r ∷ rs) rising say =
    All-cons (λ (x : ℕ × Row). row_at (id_of x.1) (r ∷ rs) ≡ Some x.1) r rs (row_at-first r rs (id_of r.1) (sym say.0))
    (λ i x inside. row_at-later r rs (id_of (get_or rs i x).1) (get_or rs i x).1 rising (stand_all rs rising.1 say.1 i x inside))

hit_all : (h : List Entry) (e : Assignments) → IsWellFormed h → All (IsHitRow h e) (hit_rows h e)
hit_all h e formed =
    let m : ByIds = live h in
    let test : ℕ × Row → Bool = λ r. satisfies e r.1.conj in
    let stand = All-filter test (λ (r : ℕ × Row). row_at (id_of r.1) m ≡ Some r.1) m (stand_all m (rising_live h) (live_say h formed)) in
    let hit = filter_passes test m in
    λ i r inside. record { stands = stand i r inside; hit = hit i r inside }

-- a letter for a hit is fit, and tells of a row that is live
pub record IsSound (s : Attributes) (h : List Entry) (l : PlainLetter) : Type 0 where
  pub fit : IsFit s l
  pub delivered : IsDelivered h l

letter_if : (s : Attributes) (h : List Entry) (n : ℕ) (e : Assignments) (r : ℕ × Row) (b : Bool) → (r.1.session.0 == 0) ≡ b → n ≡ length h → event_lies s e ≡ true → IsHitRow h e r
    → (rows : List Row) → All (IsSound s h) (map (letter_for n e) rows) → All (IsSound s h) (map (letter_for n e) (cond (not b) (r.1 ∷ rows) rows))
letter_if s h n e r true is at lies a rows rest = rest
letter_if s h n e r false is at lies a rows rest =
    let whole : take n h ≡ h = take_all n h (omega (arith, at)) in
    let one : IsSound s h (letter_for n e r.1) = record {
      fit = record { somebody = somebody r.1.session.0 is; session = refl; lies = lies; satisfies = a.hit };
      delivered = record { within = omega (arith, at); stands = ap (λ (l : List Entry). row_at (id_of r.1) (live l)) whole ∙ a.stands };
    } in
    All-cons (IsSound s h) (letter_for n e r.1) (map (letter_for n e) rows) one rest
  where
    somebody : (k : ℕ) → (k == 0) ≡ false → 0 < k
    somebody zero is = absurd cc
    somebody (suc k) is = omega arith

letters_each : (s : Attributes) (h : List Entry) (n : ℕ) (e : Assignments) (rs : ByIds) → n ≡ length h → event_lies s e ≡ true → All (IsHitRow h e) rs → All (IsSound s h) (letters_for n e (rows_of rs))
letters_each s h n e [] at lies all = All-nil (IsSound s h)
letters_each s h n e (r ∷ rs) at lies all =
    letter_if s h n e r (r.1.session.0 == 0) refl at lies (All-head (IsHitRow h e) r rs all) (addressed (rows_of rs)) (letters_each s h n e rs at lies (All-tail (IsHitRow h e) r rs all))

letters_sound : (s : Attributes) (h : List Entry) (n : ℕ) (e : Assignments) → IsWellFormed h → n ≡ length h → event_lies s e ≡ true → All (IsSound s h) (letters_for n e (rows_of (hit_rows h e)))
letters_sound s h n e formed at lies = letters_each s h n e (hit_rows h e) at lies (hit_all h e formed)

-- the seat's passes went on
pub seat_passing : (boxes : List TableId) (serial : ℕ) (gone : Bool) (s : SeatState) (q : Passes) → (q.boxes ≡ s.passes.boxes) × (q.seat ≡ s.passes.seat) → AllPut (IsDelivered s.glass.known) q
    → IsSeat boxes serial gone s → IsSeat boxes serial gone (record s { passes = q })
seat_passing boxes serial gone s q same all k = record {
  kept = record {
    boxes_are = same.0 ∙ k.kept.boxes_are;
    somebody = k.kept.somebody;
    seat_is = k.kept.seat_is ∙ sym same.1;
    own_all = subst (λ (seat : ℕ). All (IsOfSeat (length boxes) seat s.session) s.own) (sym same.1) k.kept.own_all;
    delivered = all;
  };
  serial_is = k.serial_is;
  gone_is = k.gone_is;
}

pub put_delivered : {X Y : Type 0} (h : List Entry) (q q' : Passes) (to : ℕ) (l : PlainLetter) (r : Result X Y) → OnOk r (q' ≡ after_put q to l) → OnErr r (q' ≡ after_full q) → AllPut (IsDelivered h) q → IsDelivered h l → AllPut (IsDelivered h) q'
put_delivered h q q' to l (Ok x) is other all one = subst (AllPut (IsDelivered h)) (sym is) (AllPut-after_put (IsDelivered h) q to l all one)
put_delivered h q q' to l (Err y) other is all one = subst (AllPut (IsDelivered h)) (sym is) all

-- the seat read, and then offered letters for the hits
pub record Posted (F : Passes → ℕ → Type 0) (schema : Attributes) (s s1 s2 : SeatState) (e : Assignments) (boxes : List TableId) (n put : ℕ) : Type 0 where
  pub looks : OnBoards schema Looks s s1
  pub read : OnBoards schema (λ b b'. IsReadAt b b' n) s s1
  pub posted : s2 ≡ record s1 { passes = s2.passes }
  pub form : AreOfSeat s1.passes
  pub boxes_are : s1.passes.boxes ≡ boxes
  pub fulls : s1.passes.fulls ≤ last_count
  pub offers : Offers F (length boxes) (letters_for n e (rows_of (hit_rows s1.glass.known e))) put s1.passes s2.passes

pub shown_after : (F : Passes → ℕ → Type 0) (schema : Attributes) (s s1 s2 : SeatState) (e : Assignments) (boxes : List TableId) (n put : ℕ) → Posted F schema s s1 s2 e boxes n put
    → Shown s1.passes s2.passes put (length (letters_for n e (rows_of (hit_rows s1.glass.known e))) - put)
shown_after F schema s s1 s2 e boxes n put p =
    let is = ap (λ (l : List TableId). length l) p.boxes_are in
    shown F (length boxes) (letters_for n e (rows_of (hit_rows s1.glass.known e))) put s1.passes s2.passes (omega (arith, p.form.own, is)) (omega (arith, p.form.each, is)) p.fulls p.offers

pub sends_on : (F : Passes → ℕ → Type 0) (schema : Attributes) (s s1 s2 : SeatState) (e : Assignments) (boxes : List TableId) (n put : ℕ) → Posted F schema s s1 s2 e boxes n put → OnBoards schema Sends s s2
sends_on F schema s s1 s2 e boxes n put p per_tend tends =
    let l = p.looks per_tend tends in
    let q = shown_after F schema s s1 s2 e boxes n put p in
    subst (λ (x : SeatState). Sends (board_of per_tend schema tends s) (board_of per_tend schema tends x)) (sym p.posted) (record {
      goes = record {
        seat = q.seat ∙ l.goes.seat;
        schema = refl;
        session = l.goes.session;
        alone = refl;
        per_tend = refl;
        known = l.goes.known;
        counts = record {
          reads = l.goes.counts.reads;
          shuts = l.goes.counts.shuts;
          splits = l.goes.counts.splits;
          fulls = omega (arith, l.goes.counts.fulls, q.fulls, p.fulls);
          empties = omega (arith, l.goes.counts.empties, q.empties);
          puts = omega (arith, l.goes.counts.puts, q.puts);
          tends = omega arith;
        };
        tends = refl;
      };
      own = l.own;
      notes = ap (λ (xs : List Posting). map letter_in xs) q.taken ∙ l.letters.notes;
      splits = l.splits;
      alone = λ is. absurd cc;
    })

-- of the hits, those of nobody and those that get a letter are all
parts : (n : ℕ) (e : Assignments) (h : List Entry)
    → (length (filter (is_of 0) (hit_rows h e)) + length (letters_for n e (rows_of (hit_rows h e))) ≡ length (rows_of (hit_rows h e))) × (length (hits h e) ≡ length (rows_of (hit_rows h e)))
parts n e h =
    let rows : List Row = rows_of (hit_rows h e) in
    let both = length-filter_both is_of_nobody (λ (row : Row). not (is_of_nobody row)) (λ row. refl) rows in
    let many : length (letters_for n e rows) ≡ length (addressed rows) = length-map (addressed rows) (letter_for n e) in
    let nobodys : length (filter (is_of 0) (hit_rows h e)) ≡ length (filter is_of_nobody rows) =
    sym (length-map (filter (is_of 0) (hit_rows h e)) (λ (r : ℕ × Row). r.1)) ∙ ap (λ (l : List Row). length l) (rows_of-filter is_of_nobody (hit_rows h e)) in
    let named : length (hits h e) ≡ length (hit_rows h e) = length-map (hit_rows h e) (λ (r : ℕ × Row). r.1.name) in
    let each : length rows ≡ length (hit_rows h e) = length-map (hit_rows h e) (λ (r : ℕ × Row). r.1) in
    (omega (arith, both, many, nobodys), omega (arith, named, each))

pub posts_on : (F : Passes → ℕ → Type 0) (schema : Attributes) (s s1 s2 : SeatState) (e : Assignments) (boxes : List TableId) (n put dropped : ℕ) → Posted F schema s s1 s2 e boxes n put → dropped ≡ length (rows_of (hit_rows s1.glass.known e)) - put
    → OnBoards schema (λ b b'. Posts b b' e (record { n = n; put = put; dropped = dropped })) s s2
posts_on F schema s s1 s2 e boxes n put dropped p left per_tend tends =
    let h : List Entry = s1.glass.known in
    let ls : List PlainLetter = letters_for n e (rows_of (hit_rows h e)) in
    let l = p.looks per_tend tends in
    let r = p.read per_tend tends in
    let q = shown_after F schema s s1 s2 e boxes n put p in
    let all = parts n e h in
    let few : put ≤ length ls = offers_few F (length boxes) ls put s1.passes s2.passes p.offers in
    subst (λ (x : SeatState). Posts (board_of per_tend schema tends s) (board_of per_tend schema tends x) e (record { n = n; put = put; dropped = dropped })) (sym p.posted) (record {
      read = record { length = r.length; counted = r.counted; shuts = r.shuts };
      all = omega (arith, left, few, all.0, all.1);
      drops = (length ls - put, omega (arith, left, few, all.0), omega (arith, q.fulls, l.letters.fulls));
      puts = omega (arith, q.puts, l.letters.puts);
      box = tt;
    })

-- as many were put as the found rows at most
pub put_few : (F : Passes → ℕ → Type 0) (schema : Attributes) (s s1 s2 : SeatState) (e : Assignments) (boxes : List TableId) (n put : ℕ) → Posted F schema s s1 s2 e boxes n put → put ≤ length (rows_of (hit_rows s1.glass.known e))
put_few F schema s s1 s2 e boxes n put p =
    omega (arith, (parts n e s1.glass.known).0, offers_few F (length boxes) (letters_for n e (rows_of (hit_rows s1.glass.known e))) put s1.passes s2.passes p.offers)

-- letters that were made, with room for all, are those for all rows
pub made_all : (n : ℕ) (e : Assignments) (rows found : List Row) (room : ℕ) (made : List PlainLetter) → made ≡ take room (letters_for n e found) → found ≡ rows → room ≡ length rows → made ≡ letters_for n e rows
made_all n e rows found room made is same fits =
    let both = length-filter_both is_of_nobody (λ (row : Row). not (is_of_nobody row)) (λ row. refl) rows in
    is ∙ (ap (λ (l : List Row). take room (letters_for n e l)) same ∙ take_all room (letters_for n e rows) (omega (arith, fits, both, length-map (addressed rows) (letter_for n e))))

-- they are fit, and each tells of a row that is live
pub made_sound : (schema : Attributes) (h : List Entry) (n : ℕ) (e : Assignments) (found : List Row) (room : ℕ) (made : List PlainLetter) → IsWellFormed h → n ≡ length h → event_lies schema e ≡ true
    → made ≡ take room (letters_for n e found) → found ≡ rows_of (hit_rows h e) → room ≡ length (rows_of (hit_rows h e)) → All (IsSound schema h) made
made_sound schema h n e found room made formed at lies is same fits =
    subst (All (IsSound schema h)) (sym (made_all n e (rows_of (hit_rows h e)) found room made is same fits)) (letters_sound schema h n e formed at lies)

-- of letters of which one comes next, what holds of each holds of it, and of the others
pub next_of : (P : PlainLetter → Type 0) (ls : List PlainLetter) (l : PlainLetter) (rest : List PlainLetter) → ls ≡ l ∷ rest → All P ls → P l × All P rest
next_of P ls l rest is all =
    let these : All P (l ∷ rest) = subst (All P) is all in
    (All-head P l rest these, All-tail P l rest these)

-- a read that was refused, and no letter put
pub sends_refused : (schema : Attributes) (s s1 : SeatState) → OnBoards schema Looks s s1 → OnBoards schema Sends s s1
sends_refused schema s s1 looks per_tend tends = let l = looks per_tend tends in record { goes = l.goes; own = l.own; notes = l.letters.notes; splits = l.splits; alone = l.alone }

pub refused_send : (schema : Attributes) (s s1 : SeatState) (why : NoRead) → OnBoards schema (λ b b'. Refuses b b' why) s s1 → OnBoards schema (λ b b'. RefusesSend b b' why) s s1
refused_send schema s s1 Shut refused per_tend tends = refused per_tend tends
refused_send schema s s1 NoMemory refused per_tend tends = (refused per_tend tends).1.shuts

pub refused_send_in : {X Y : Type 0} (schema : Attributes) (s s1 : SeatState) (r : Result X NoRead) (r' : Result Y NoRead) (why : NoRead) → r ≡ Err why → r' ≡ Err why → IfErr r (λ why. OnBoards schema (λ b b'. Refuses b b' why) s s1)
    → IfErr r' (λ why. OnBoards schema (λ b b'. RefusesSend b b' why) s s1)
refused_send_in schema s s1 r r' why is is' refused =
    subst (λ r. IfErr r (λ why. OnBoards schema (λ b b'. RefusesSend b b' why) s s1)) (sym is')
    (refused_send schema s s1 why (subst (λ r. IfErr r (λ why. OnBoards schema (λ b b'. Refuses b b' why) s s1)) is refused))
