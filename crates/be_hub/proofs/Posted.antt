-- Where the letters of all seats came to, once the mail is settled.
use Rattle.std.proofs.Common.{◌≡◌, ℕ, ◌+◌, ◌-◌, ◌%◌, ◌<◌, ◌≤◌, ◌==◌, Bool, true, false, List, [], ◌∷◌, length, map, sum_by, take, drop, filter, Option, Some, None, slice_get, refl, sym, ap, ◌∙◌, subst, eq-eqb, ne_eqb, arith}
use Rattle.std.specs.Prelude.{if◌then◌else◌}
use Rattle.std.specs.List.{All, Contains}
use Rattle.std.proofs.Math.Nat.{mod-eq_of_lt}
use Rattle.std.proofs.lemmas.List.{length-map, map-append, take-append-drop}
use Rattle.std.proofs.lemmas.List.Elements.{All-map, All-weaker, All-head, All-tail, All-contains, All-contains_itself}
use Rattle.std.proofs.lemmas.Option.{slice_get_within}
use Rattle.atomic_table.specs.Seated.{TableId}
use Rattle.be_base.specs.Lists.{BeginsWith}
use Rattle.be_model.specs.ByIds.{row_at}
use Rattle.be_model.specs.Letters.{PlainLetter}
use Rattle.be_model.specs.Rows.{id_of}
use Rattle.be_model.specs.Schemas.{Attributes}
use Rattle.be_model.specs.declared.changes.Row.{Row}
use Rattle.be_change.specs.Entries.{row_in}
use Rattle.be_change.specs.History.{Entry, subscribed, unsubscribed, left, session_of, live, IsWellFormed}
use Rattle.be_change.specs.Requests.{Note, Exchange}
use Rattle.be_change.specs.Walk.{IsNoteFor}
use Rattle.be_change.proofs.Forms.{formed_take, formed_each}
use Rattle.be_change.proofs.Listed.{live_listed}
use Rattle.be_mail.specs.Letters.{Posting, IsFor, seat_of, letter_in, letters_from}
use Rattle.be_mail.specs.Mailbox.{BoxId, Mailbox, all_of}
use Rattle.be_mail.specs.Passes.{AreOfSeat, put_into, Agrees}
use Rattle.be_mail.specs.Settled.{IsKept}
use Rattle.be_mail.proofs.AllPut.{AllPut-contains}
use Rattle.be_mail.proofs.Senders.{among}
use Rattle.be_board.specs.Letters.{note_of}
use Rattle.be_board.specs.Word.{IsDelivered}
use Rattle.be_session.specs.Given.{letters_given}
use Rattle.be_session.specs.Tied.{letters_put}
use Rattle.be_desk.specs.Boards.{put_count}
use Rattle.be_desk.specs.Seats.{SeatState, IsKeptSeat}
use Rattle.be_hub.specs.Closing.{AreInOrder}
use Rattle.be_hub.specs.Posted.{Mailed, note_in, LetterBox, all_in, count_from, IsLetterBox, IsBoxOf, mailed, box_in}
use Rattle.be_hub.proofs.Choices.{AreChosen, choose, sums_alike}
use Rattle.be_hub.proofs.Closing.{letters_stand}
use Rattle.be_hub.proofs.Ends.{there}
use Rattle.be_hub.proofs.Pairs.{at_place, map_at}
use Rattle.be_hub.proofs.Places.{one_some, in_front, all_from_places, at_of_all}
use Rattle.be_hub.proofs.Shuts.{same_test}

-- a filter that each element passes keeps all
filter_whole : {X : Type 0} (p : X → Bool) (xs : List X) → All (λ x. p x ≡ true) xs → filter p xs ≡ xs
filter_whole p [] all = refl
filter_whole {X} p (x ∷ xs) all = go (p x) (All-head (λ y. p y ≡ true) x xs all) (filter_whole p xs (All-tail (λ y. p y ≡ true) x xs all))
  where
    go : (b : Bool) → b ≡ true → filter p xs ≡ xs → (if b then x ∷ filter p xs else filter p xs) ≡ x ∷ xs
    go true is rest = ap (λ (l : List X). x ∷ l) rest
    go false is rest = absurd cc

-- a live row is its session's
owner_of : (g : List Entry) (id : ℕ) (row : Row) → IsWellFormed g → row_at id (live g) ≡ Some row → (e : Entry) × (slice_get g id ≡ Some e) × (session_of e ≡ row.session.0)
owner_of g id row formed at = go (slice_get g id) refl (live_listed g id row at)
  where
    go : (o : Option Entry) → slice_get g id ≡ o → row_in o ≡ Some row → (e : Entry) × (slice_get g id ≡ Some e) × (session_of e ≡ row.session.0)
    go None is none = absurd cc
    go (Some (subscribed k n r)) is same = (subscribed k n r, is, sym (formed_each g formed id (subscribed k n r) is).allowed.2 ∙ ap (λ (x : Row). x.session.0) (one_some r row same))
    go (Some (unsubscribed k n name)) is none = absurd cc
    go (Some (left k n)) is none = absurd cc

all_mailed : (m : Mailbox) → all_in (box_in m) ≡ map mailed (all_of m)
all_mailed m = sym (map-append mailed m.taken m.queued)

-- the notes for a session
pub noted : (k : ℕ) (xs : List Posting) → map note_in (filter (λ (x : Mailed). x.reader == k) (map mailed xs)) ≡ map note_of (filter (λ (l : PlainLetter). l.session == k) (map letter_in xs))
noted k [] = refl
noted k (x ∷ xs) = go (x.letter.session == k) (noted k xs)
  where
    go : (b : Bool) → map note_in (filter (λ (y : Mailed). y.reader == k) (map mailed xs)) ≡ map note_of (filter (λ (l : PlainLetter). l.session == k) (map letter_in xs))
        → map note_in (if b then mailed x ∷ filter (λ (y : Mailed). y.reader == k) (map mailed xs) else filter (λ (y : Mailed). y.reader == k) (map mailed xs))
        ≡ map note_of (if b then x.letter ∷ filter (λ (l : PlainLetter). l.session == k) (map letter_in xs) else filter (λ (l : PlainLetter). l.session == k) (map letter_in xs))
    go true rest = ap (λ (ns : List Note). note_of x.letter ∷ ns) rest
    go false rest = rest

next_same : (m n : ℕ) → (m + 1 == n + 1) ≡ (m == n)
next_same m n =
    same_test (m + 1 == n + 1) (m == n) (λ no. ne_eqb m n (λ is. let yes = eq-eqb (m + 1) (n + 1) (ap (λ k. k + 1) is) in absurd cc))
    (λ no. ne_eqb (m + 1) (n + 1) (λ is. let yes = eq-eqb m n (omega (arith, is)) in absurd cc))

-- a seat's letters are those from its session
count_mailed : (seat : ℕ) (xs : List Posting) → length (filter (λ (x : Mailed). x.sender == seat + 1) (map mailed xs)) ≡ length (letters_from seat xs)
count_mailed seat [] = refl
count_mailed seat (x ∷ xs) = go (x.from + 1 == seat + 1) (x.from == seat) (next_same x.from seat) (count_mailed seat xs)
  where
    go : (b c : Bool) → b ≡ c → length (filter (λ (y : Mailed). y.sender == seat + 1) (map mailed xs)) ≡ length (letters_from seat xs)
        → length (if b then mailed x ∷ filter (λ (y : Mailed). y.sender == seat + 1) (map mailed xs) else filter (λ (y : Mailed). y.sender == seat + 1) (map mailed xs))
        ≡ length (map letter_in (if c then x ∷ filter (λ (y : Posting). y.from == seat) xs else filter (λ (y : Posting). y.from == seat) xs))
    go true true is rest = omega (arith, rest)
    go false false is rest = rest
    go true false is rest = absurd cc
    go false true is rest = absurd cc

-- a session among so many that has this seat is the seat's first
first_of_seat : (n seat k : ℕ) → 0 < k → k ≤ n → (k - 1) % n ≡ seat → k ≡ seat + 1
first_of_seat n seat k some few is =
    let small : (k - 1) % n ≡ k - 1 = mod-eq_of_lt (omega (arith, some, few)) in
    omega (arith, sym small ∙ is, some)

module _ (schema : Attributes) (found : BoxId → Mailbox → Type 0) (boxes : List TableId) (h : List Entry) (seats : List SeatState) (order : AreInOrder schema found boxes seats) (many : length seats ≡ length boxes)
    (places : (i : ℕ) (s : SeatState) → slice_get seats i ≡ Some s → s.passes.seat ≡ i) (kept : All (IsKeptSeat boxes) seats) (known : All (λ (s : SeatState). BeginsWith h s.glass.known) seats)
  where
    abbrev pub IsFound : ℕ → Type 0
    IsFound j = IsKept schema (length boxes) found boxes (map (λ (s : SeatState). s.passes) seats) j

    -- all boxes, in the order of their seats
    abbrev pub IsOfFound : ℕ → TableId → LetterBox → Type 0
    IsOfFound j queue box = (k : IsFound j) × (box ≡ box_in k.state)

    pub all_boxes : (bs : List LetterBox) × (length bs ≡ length boxes) × AreChosen IsOfFound boxes bs
    all_boxes = choose IsOfFound boxes (λ j queue at. let k = order.kept j (slice_get_within boxes j queue at) in (box_in k.state, (k, refl)))

    agrees : (j : ℕ) (k : IsFound j) (i : ℕ) (s : SeatState) → slice_get seats i ≡ Some s → Agrees j k.state s.passes
    agrees j k i s at = at_of_all (Agrees j k.state) (map (λ (t : SeatState). t.passes) seats) i s.passes k.agree (map_at (λ (t : SeatState). t.passes) seats i s at)

    put_is : (j : ℕ) (k : IsFound j) (i : ℕ) (s : SeatState) → slice_get seats i ≡ Some s → letters_from i (all_of k.state) ≡ put_into j s.passes
    put_is j k i s at = ap (λ (n : ℕ). letters_from n (all_of k.state)) (sym (places i s at)) ∙ (agrees j k i s at).put

    -- what is known of each letter that was put into the mailbox
    pub record IsGood (j : ℕ) (x : Posting) : Type 0 where
      pub fit : IsFor schema (length boxes) j x
      pub delivered : IsDelivered h x.letter

    good : (j : ℕ) (k : IsFound j) (x : Posting) → Contains (all_of k.state) x → IsGood j x
    good j k x here =
        let fit : IsFor schema (length boxes) j x = All-contains (IsFor schema (length boxes) j) (all_of k.state) x k.sound.only here in
        let s = there seats x.from (omega (arith, fit.from, many)) in
        let stands = letters_stand boxes h s.0 (at_of_all (λ (t : SeatState). BeginsWith h t.glass.known) seats x.from s.0 known s.1) (at_of_all (IsKeptSeat boxes) seats x.from s.0 kept s.1) in
        let delivered : IsDelivered h x.letter =
        AllPut-contains (IsDelivered h) s.0.passes j x.letter stands (subst (λ (l : List PlainLetter). Contains l x.letter) (put_is j k x.from s.0 s.1) (among (all_of k.state) x here)) in
        record { fit = fit; delivered = delivered }

    all_good : (j : ℕ) (k : IsFound j) → All (IsGood j) (all_of k.state)
    all_good j k = All-weaker (Contains (all_of k.state)) (IsGood j) (good j k) (all_of k.state) (All-contains_itself (all_of k.state))

    note_good : (j : ℕ) (x : Posting) → IsGood j x → IsNoteFor x.letter.session h (note_of x.letter)
    note_good j x g = record {
      within = g.delivered.within;
      id = id_of x.letter.row;
      row = x.letter.row;
      stands = g.delivered.stands;
      owner = g.fit.fit.session;
      named = refl;
      satisfied = g.fit.fit.satisfies;
    }

    -- what holds of each of the mailbox's letters holds in the box
    in_box : (j : ℕ) (k : IsFound j) (P : Mailed → Type 0) → ((x : Posting) → IsGood j x → P (mailed x)) → All P (all_in (box_in k.state))
    in_box j k P each =
        subst (All P) (sym (all_mailed k.state)) (All-map P mailed (all_of k.state) (All-weaker (IsGood j) (λ (x : Posting). P (mailed x)) each (all_of k.state) (all_good j k)))

    -- the box is that of this seat
    pub record IsSeatBox (j : ℕ) (s : SeatState) (box : LetterBox) : Type 0 where
      pub taken : box.taken ≡ map mailed s.passes.taken
      pub sent : put_count s.passes ≡ sum_by (count_from (j + 1)) all_boxes.0
      pub readers : All (λ (x : Mailed). seat_of (length all_boxes.0) x.reader + 1 ≡ j + 1) (all_in box)
      pub box_is : IsLetterBox h all_boxes.0 box

    pub seat_box : (j : ℕ) (s : SeatState) (box : LetterBox) → slice_get seats j ≡ Some s → slice_get all_boxes.0 j ≡ Some box → IsSeatBox j s box
    seat_box j s box at at_box = subst (IsSeatBox j s) (sym (all_boxes.2 j box at_box).2.1) is
      where
        k : IsFound j
        k = (all_boxes.2 j box at_box).2.0

        m : Mailbox
        m = k.state

        form : AreOfSeat s.passes
        form = at_of_all AreOfSeat (map (λ (t : SeatState). t.passes) seats) j s.passes order.form (map_at (λ (t : SeatState). t.passes) seats j s at)

        lists : length s.passes.puts ≡ length boxes
        lists = form.each ∙ ap (λ (l : List TableId). length l) (at_of_all (IsKeptSeat boxes) seats j s kept at).boxes_are

        -- what one box has of this seat
        from_one : (i : ℕ) (b : LetterBox) (letters : List PlainLetter) → slice_get all_boxes.0 i ≡ Some b → slice_get s.passes.puts i ≡ Some letters → count_from (j + 1) b ≡ length letters
        from_one i b letters at_b at_letters =
            let c = (all_boxes.2 i b at_b).2 in
            ap (count_from (j + 1)) c.1
            ∙ (ap (λ (l : List Mailed). length (filter (λ (x : Mailed). x.sender == j + 1) l)) (all_mailed c.0.state)
            ∙ (count_mailed j (all_of c.0.state)
            ∙ ap (λ (l : List PlainLetter). length l) (put_is i c.0 j s at ∙ (at_place s.passes.puts i [] letters at_letters).1)))

        is : IsSeatBox j s (box_in m)
        is = record {
          taken = ap (map mailed) ((agrees j k j s at).taken (places j s at));
          sent = sym (sums_alike (count_from (j + 1)) (λ (l : List PlainLetter). length l) all_boxes.0 s.passes.puts (all_boxes.1 ∙ sym lists) from_one);
          readers = in_box j k (λ (x : Mailed). seat_of (length all_boxes.0) x.reader + 1 ≡ j + 1) (λ x g. ap (λ (n : ℕ). n + 1) (ap (λ (n : ℕ). seat_of n x.letter.session) all_boxes.1 ∙ g.fit.here));
          box_is = record {
            senders = in_box j k (λ (x : Mailed). (0 < x.sender) × (x.sender ≤ length all_boxes.0)) (λ x g. (omega arith, omega (arith, g.fit.from, all_boxes.1)));
            notes = in_box j k (λ (x : Mailed). (0 < x.reader) × IsNoteFor x.reader h x.note) (λ x g. (g.fit.fit.somebody, note_good j x g));
            room = omega (arith, length-map m.queued mailed, k.sound.room);
          };
        }

    -- where each seat had one session
    module _ (formed : IsWellFormed h) (within : (p : ℕ) (e : Entry) → slice_get h p ≡ Some e → session_of e ≤ length boxes) where
      mine : (j : ℕ) (x : Posting) → IsGood j x → x.letter.session ≡ j + 1
      mine j x g =
          let row = x.letter.row in
          let owner = owner_of (take x.letter.n h) (id_of row) row (formed_take x.letter.n h formed) g.delivered.stands in
          let at = subst (λ (l : List Entry). slice_get l (id_of row) ≡ Some owner.0) (take-append-drop x.letter.n h) (in_front (take x.letter.n h) (drop x.letter.n h) (id_of row) owner.0 owner.1) in
          let few = within (id_of row) owner.0 at in
          first_of_seat (length boxes) j x.letter.session g.fit.fit.somebody (omega (arith, few, owner.2, g.fit.fit.session)) g.fit.here

      all_mine : (j : ℕ) (box : LetterBox) → slice_get all_boxes.0 j ≡ Some box → All (λ (x : Mailed). x.reader ≡ j + 1) (all_in box)
      all_mine j box at_box =
          let c = (all_boxes.2 j box at_box).2 in
          subst (λ (b : LetterBox). All (λ (x : Mailed). x.reader ≡ j + 1) (all_in b)) (sym c.1) (in_box j c.0 (λ (x : Mailed). x.reader ≡ j + 1) (mine j))

      -- the box of a seat that served one session, which had these exchanges
      pub box_is : (j : ℕ) (s : SeatState) (ps : List Exchange) (box : LetterBox) → slice_get seats j ≡ Some s → letters_given ps ≡ map note_of (filter (λ (l : PlainLetter). l.session == j + 1) (map letter_in s.passes.taken))
          → put_count s.passes ≡ sum_by letters_put ps → slice_get all_boxes.0 j ≡ Some box → IsBoxOf h all_boxes.0 (j + 1) ps box
      box_is j s ps box at given put at_box = record {
        fetched = given
            ∙ (sym (noted (j + 1) s.passes.taken)
            ∙ (ap (λ (l : List Mailed). map note_in (filter (λ (x : Mailed). x.reader == j + 1) l)) (sym b.taken) ∙ ap (map note_in) (filter_whole (λ (x : Mailed). x.reader == j + 1) box.taken taken_mine)));
        sent = sym put ∙ b.sent;
        mine = all_mine j box at_box;
        box_is = b.box_is;
      }
        where
          b : IsSeatBox j s box
          b = seat_box j s box at at_box

          taken_mine : All (λ (x : Mailed). (x.reader == j + 1) ≡ true) box.taken
          taken_mine = all_from_places (λ (x : Mailed). (x.reader == j + 1) ≡ true) box.taken
              (λ i x at_x. eq-eqb x.reader (j + 1) (at_of_all (λ (y : Mailed). y.reader ≡ j + 1) (all_in box) i x (all_mine j box at_box) (in_front box.taken box.left i x at_x)))
