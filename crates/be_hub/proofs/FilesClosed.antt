-- All files, served and closed.
use Rattle.std.proofs.Common.{◌≡◌, ℕ, zero, suc, ◌+◌, ◌<◌, ◌≤◌, ◌==◌, filter, Bool, true, false, List, [], ◌∷◌, length, map, sum_by, Option, Some, None, slice_get, get_or, refl, sym, ap, ◌∙◌, subst, arith}
use Rattle.std.specs.Option.{is_some, IsSomeAnd}
use Rattle.std.specs.Prelude.{find, if◌then◌else◌, ◌||◌, MatchOption}
use Rattle.std.specs.List.{All, Contains, list_any, range_with_len}
use Rattle.std.proofs.lemmas.Bool.{true_from_ne_false}
use Rattle.std.proofs.lemmas.List.{length-map}
use Rattle.std.proofs.lemmas.List.Folds.{sum_by-replicate}
use Rattle.std.proofs.lemmas.List.Elements.{All-cons, All-head, All-nil, All-tail}
use Rattle.std.proofs.lemmas.List.FromFn.{length-range_with_len}
use Rattle.std.proofs.lemmas.Option.{slice_get-get_or, slice_get_within}
use Rattle.atomic_table.specs.Seated.{TableId}
use Rattle.be_base.specs.Lists.{BeginsWith}
use Rattle.be_model.specs.Letters.{PlainLetter}
use Rattle.be_model.specs.Schemas.{Attributes}
use Rattle.be_change.specs.History.{Entry, session_of, IsWellFormed}
use Rattle.be_mail.specs.Mailbox.{BoxId, Mailbox}
use Rattle.be_mail.specs.Passes.{Passes, new_passes}
use Rattle.be_mail.specs.Settled.{AreAll}
use Rattle.be_board.specs.Letters.{note_of}
use Rattle.be_session.specs.Tied.{letters_put}
use Rattle.be_desk.specs.Boards.{board_of, put_count}
use Rattle.be_desk.specs.Closing.{AreRecorded}
use Rattle.be_desk.specs.Desks.{IsOpened}
use Rattle.be_desk.specs.Seats.{SeatState, first_seat, IsKeptSeat}
use Rattle.be_protocol.specs.declared.ends.SessionEnd.{SessionEnd}
use Rattle.be_protocol.specs.declared.ends.SessionEnd.TheVariants.{Eof, Quit, ReadFault, WriteFault, Spent, Split, NoMemory}
use Rattle.be_hub.specs.Closing.{KeepsAll, AreInOrder}
use Rattle.be_hub.specs.Files.{FileServed, IsFileEnd, IsRead, lacks_memory, is_split_end, IsEndOf}
use Rattle.be_hub.specs.Posted.{LetterBox, WasBox}
use Rattle.be_hub.specs.Transcripts.{says_shut, IsTranscript, AreServed}
use Rattle.be_hub.proofs.Choices.{AreChosen}
use Rattle.be_hub.proofs.Ends.{there, at_its_place}
use Rattle.be_hub.proofs.Pairs.{get_map, map_at, one_at}
use Rattle.be_hub.proofs.Places.{at_of_all}
use Rattle.be_hub.proofs.Shuts.{one_risen}
use Rattle.be_hub.proofs.Posted.{all_boxes, IsOfFound, box_is}
use Rattle.be_hub.proofs.Transcripts.{Leave, transcript_of, own_session, end_of_file}

read_else : (end : SessionEnd) → lacks_memory end ≡ false → is_split_end end ≡ false → IsFileEnd end → IsRead end
read_else Eof m s q = tt
read_else Quit m s q = tt
read_else (Split i j) m s q = absurd cc
read_else NoMemory m s q = absurd cc
read_else ReadFault m s q = absurd q
read_else WriteFault m s q = absurd q
read_else Spent m s q = absurd q

module _ {E : Type 0} (seat_in : E → SeatState) (end_in : E → SessionEnd) where
  -- where no session lacked memory and none was split, each file was read
  pub all_read : (ends : List E) → list_any (λ e. lacks_memory (end_in e)) ends ≡ false → find (λ e. is_split_end (end_in e)) ends ≡ None → All (λ e. IsEndOf (seat_in e) (end_in e)) ends → All (λ e. IsRead (end_in e)) ends
  all_read [] none first all = All-nil (λ e. IsRead (end_in e))
  all_read (e ∷ es) none first all = go (lacks_memory (end_in e)) refl (is_split_end (end_in e)) refl none first (all_read es)
    where
      go : (m : Bool) → lacks_memory (end_in e) ≡ m → (s : Bool) → is_split_end (end_in e) ≡ s → (m || list_any (λ x. lacks_memory (end_in x)) es) ≡ false
          → (if s then Some e else find (λ x. is_split_end (end_in x)) es) ≡ None
          → (list_any (λ x. lacks_memory (end_in x)) es ≡ false → find (λ x. is_split_end (end_in x)) es ≡ None → All (λ x. IsEndOf (seat_in x) (end_in x)) es → All (λ x. IsRead (end_in x)) es)
          → All (λ x. IsRead (end_in x)) (e ∷ es)
      go true m s is none first rest = absurd cc
      go false m true is none first rest = absurd cc
      go false m false is none first rest =
          All-cons (λ x. IsRead (end_in x)) e es (read_else (end_in e) m is (All-head (λ x. IsEndOf (seat_in x) (end_in x)) e es all).quiet)
          (rest none first (All-tail (λ x. IsEndOf (seat_in x) (end_in x)) e es all))

-- what was mapped to none was none
pub none_mapped : {X Y : Type 0} (Q : X → Y → Type 0) (o : Option X) (r : Option Y) → r ≡ None → MatchOption o (r ≡ None) (λ x. IsSomeAnd r (Q x)) → o ≡ None
none_mapped Q None r is m = refl
none_mapped {X} {Y} Q (Some x) r is m = absurd (subst (λ (y : Option Y). IsSomeAnd y (Q x)) is m)

pub none_is : {X : Type 0} (o : Option X) → is_some o ≡ false → o ≡ None
none_is None e = refl
none_is (Some x) e = absurd cc

one_same : {X : Type 0} (x y : X) → Some x ≡ Some y → x ≡ y
one_same x y e = cc

-- of what is found the test holds, and what holds of all
pub found_holds : {X : Type 0} (P : X → Type 0) (p : X → Bool) (xs : List X) (x : X) → All P xs → find p xs ≡ Some x → P x × (p x ≡ true)
found_holds P p [] x all e = absurd cc
found_holds {X} P p (y ∷ ys) x all e = go (p y) refl e (found_holds P p ys x (All-tail P y ys all))
  where
    go : (b : Bool) → p y ≡ b → (if b then Some y else find p ys) ≡ Some x → (find p ys ≡ Some x → P x × (p x ≡ true)) → P x × (p x ≡ true)
    go true is f rest = let same : y ≡ x = one_same y x f in (subst P same (All-head P y ys all), subst (λ (z : X). p z ≡ true) same is)
    go false is f rest = rest f

-- the seat of the first split has counted one
pub split_counted : {E : Type 0} (seat_in : E → SeatState) (end_in : E → SessionEnd) (ends : List E) (end : E) → All (λ e. IsEndOf (seat_in e) (end_in e)) ends → find (λ e. is_split_end (end_in e)) ends ≡ Some end → 0 < (seat_in end).splits
split_counted seat_in end_in ends end all first =
    let f = found_holds (λ e. IsEndOf (seat_in e) (end_in e)) (λ e. is_split_end (end_in e)) ends end all first in
    f.0.counted f.1

-- the seats at the beginning, one for each file
pub seat_at : (opening : List Entry) (boxes : List TableId) (n i : ℕ) (seats : List SeatState) → seats ≡ map (first_seat opening boxes) (range_with_len 0 n) → i < n → slice_get seats i ≡ Some (first_seat opening boxes i)
seat_at opening boxes n i seats is lt =
    let f = first_seat opening boxes in
    let there_is = there seats i (omega (arith, lt, ap (λ (l : List SeatState). length l) is, length-map (range_with_len 0 n) f, length-range_with_len 0 n)) in
    let k = get_map f (range_with_len 0 n) i there_is.0 (subst (λ (l : List SeatState). slice_get l i ≡ Some there_is.0) is there_is.1) in
    there_is.1 ∙ ap (λ (s : SeatState). Some s) (sym k.2 ∙ ap f (at_its_place n i k.0 k.1))

-- what a map gave stands where what it was given stands
pub there_mapped : {E : Type 0} (seat_in : E → SeatState) (ends : List E) (back : List SeatState) → back ≡ map seat_in ends → (i : ℕ) (end : E) → slice_get ends i ≡ Some end → slice_get back i ≡ Some (seat_in end)
there_mapped seat_in ends back is i end at =
    let there_is = there back i (omega (arith, slice_get_within ends i end at, ap (λ (l : List SeatState). length l) is, length-map ends seat_in)) in
    let k = get_map seat_in ends i there_is.0 (subst (λ (l : List SeatState). slice_get l i ≡ Some there_is.0) is there_is.1) in
    there_is.1 ∙ ap (λ (x : SeatState). Some x) (sym k.2 ∙ ap seat_in (one_at ends i k.0 end k.1 at))

module _ {E F : Type 0} (seat_in : E → SeatState) (text_in : E → List ℕ) (end_in : E → SessionEnd) (bytes_in : F → List ℕ) (s : Attributes) (boxes : List TableId) (opening : List Entry) (files : List F) (ends : List E) (seats : List SeatState)
    (first : seats ≡ map (first_seat opening boxes) (range_with_len 0 (length files))) (count : length ends ≡ length files)
    (served : (i : ℕ) (seat : SeatState) (file : F) (end : E) → slice_get seats i ≡ Some seat → slice_get files i ≡ Some file → slice_get ends i ≡ Some end → FileServed s (bytes_in file) seat (seat_in end) (text_in end) (end_in end))
  where
    -- what was left at a place is of the file there
    served_at : (i : ℕ) (end : E) → slice_get ends i ≡ Some end → (file : F) × (slice_get files i ≡ Some file) × FileServed s (bytes_in file) (first_seat opening boxes i) (seat_in end) (text_in end) (end_in end)
    served_at i end at =
        let lt : i < length files = omega (arith, slice_get_within ends i end at, count) in
        let file = there files i lt in
        (file.0, file.1, served i (first_seat opening boxes i) file.0 end (seat_at opening boxes (length files) i seats first lt) file.1 at)

    -- each seat comes back at its place
    pub places : (i : ℕ) (end : E) → slice_get ends i ≡ Some end → (seat_in end).passes.seat ≡ i
    places i end at = (served_at i end at).2.board.goes.seat

    -- each session ended as a file's
    pub ends_are : All (λ e. IsEndOf (seat_in e) (end_in e)) ends
    ends_are k d lt =
        let e : E = get_or ends k d in
        let one = served_at k e (slice_get-get_or ends k d lt) in
        end_of_file s (bytes_in one.0) (text_in e) (first_seat opening boxes k) (seat_in e) (end_in e) one.2

    module _ (schema : Attributes) (found : BoxId → Mailbox → Type 0) (h : List Entry) (back : List SeatState) (shuts : Bool) (texts : List (List ℕ)) (read : All (λ e. IsRead (end_in e)) ends) (kept : All (IsKeptSeat boxes) back) (is : back ≡ map seat_in ends) (texts_are : texts ≡ map text_in ends)
        (quiet : shuts ≡ false → All (λ e. (seat_in e).glass.shuts ≡ 0) ends) (loud : All (λ e. (seat_in e).glass.shuts ≡ 0) ends → shuts ≡ false)
        (formed : IsWellFormed h) (keeps : All (KeepsAll boxes h) back) (recorded : AreRecorded (length h) h back) (opened : IsOpened opening h)
        (order : AreInOrder schema found boxes back) (one_each : length files ≡ length boxes)
      where
        -- the transcript of a file, and what its exchanges say of the file's seat
        abbrev IsOfPlace : ℕ → (file text : List ℕ) → Type 0
        IsOfPlace i file text =
            (t : IsTranscript s (i + 1) (length opening) h shuts file text) × ((e : E) → slice_get ends i ≡ Some e → Leave t.exchanges (board_of 0 s 0 (first_seat opening boxes i)) (board_of 0 s 0 (seat_in e)))

        transcript_at : (i : ℕ) (file text : List ℕ) → slice_get (map bytes_in files) i ≡ Some file → slice_get texts i ≡ Some text → IsOfPlace i file text
        transcript_at i file text at_file at_text =
            let end = get_map text_in ends i text (subst (λ (l : List (List ℕ)). slice_get l i ≡ Some text) texts_are at_text) in
            let mine = get_map bytes_in files i file at_file in
            let one = served_at i end.0 end.1 in
            let same : one.0 ≡ mine.0 = one_at files i one.0 mine.0 one.1 mine.1 in
            let seat = seat_in end.0 in
            let at_back : slice_get back i ≡ Some seat = there_mapped seat_in ends back is i end.0 end.1 in
            let kept_seat : IsKeptSeat boxes seat = at_of_all (IsKeptSeat boxes) back i seat kept at_back in
            let keeps_seat = at_of_all (KeepsAll boxes h) back i seat keeps at_back in
            let told = transcript_of s (length opening) h shuts (bytes_in one.0) (text_in end.0) (first_seat opening boxes i) seat (end_in end.0) one.2 (at_of_all (λ e. IsRead (end_in e)) ends i end.0 read end.1)
            (keeps_seat seat.session kept_seat.somebody kept_seat.seat_is) (omega arith) (λ e. at_of_all (λ x. (seat_in x).glass.shuts ≡ 0) ends i end.0 (quiet e) end.1) refl in
            subst (λ (x : List ℕ). IsOfPlace i x text) (ap bytes_in same ∙ mine.2)
            (subst (λ (x : List ℕ). IsOfPlace i (bytes_in one.0) x) end.2
            (told.0, λ e at. subst (λ (x : E). Leave told.0.exchanges (board_of 0 s 0 (first_seat opening boxes i)) (board_of 0 s 0 (seat_in x))) (one_at ends i end.0 e end.1 at) told.1))

        -- an entry of a session is of the file with its number
        session_in : (p : ℕ) (e : Entry) → slice_get h p ≡ Some e → 0 < session_of e → session_of e ≤ length files
        session_in p e at some =
            let found = recorded p e (slice_get_within h p e at) at some in
            let stands : slice_get back found.0 ≡ Some found.1 = slice_get-get_or back found.0 found.1 found.2 ∙ ap (λ (x : SeatState). Some x) found.3 in
            let end = get_map seat_in ends found.0 found.1 (subst (λ (l : List SeatState). slice_get l found.0 ≡ Some found.1) is stands) in
            let one = served_at found.0 end.0 end.1 in
            let session = own_session s (bytes_in one.0) (text_in end.0) (first_seat opening boxes found.0) (seat_in end.0) (end_in end.0) p e one.2 refl (subst (λ (x : SeatState). Contains x.own (p, e)) (sym end.2) found.4) in
            omega (arith, session, slice_get_within files found.0 one.0 one.1)

        session_few : (p : ℕ) (e : Entry) → slice_get h p ≡ Some e → session_of e ≤ length boxes
        session_few p e at = go (session_of e) (λ some. session_in p e at some)
          where
            go : (k : ℕ) → (0 < k → k ≤ length files) → k ≤ length boxes
            go zero few = omega arith
            go (suc k) few = omega (arith, few (omega arith), one_each)

        back_is : length back ≡ length boxes
        back_is = ap (λ (l : List SeatState). length l) is ∙ (length-map ends seat_in ∙ (count ∙ one_each))

        back_at : (i : ℕ) (x : SeatState) → slice_get back i ≡ Some x → x.passes.seat ≡ i
        back_at i x at =
            let end = get_map seat_in ends i x (subst (λ (l : List SeatState). slice_get l i ≡ Some x) is at) in
            ap (λ (y : SeatState). y.passes.seat) (sym end.2) ∙ places i end.0 end.1

        known : All (λ (x : SeatState). BeginsWith h x.glass.known) back
        known k d lt = let some = kept k d lt in (keeps k d lt (get_or back k d).session some.somebody some.seat_is).known

        abbrev posted : (bs : List LetterBox) × (length bs ≡ length boxes) × AreChosen (IsOfFound schema found boxes h back order back_is back_at kept known) boxes bs
        posted = all_boxes schema found boxes h back order back_is back_at kept known

        -- all files were served, and each box was a mailbox
        pub are_served : AreAll boxes (map (λ (x : SeatState). x.passes) back)
            → (served : AreServed s opening h shuts (map bytes_in files) texts) × (passes : List Passes) × AreAll boxes passes × ((j : ℕ) (box : LetterBox) → slice_get served.boxes j ≡ Some box → WasBox schema found boxes passes j box)
        are_served all = (
          record {
            formed = formed;
            begins = opened.begins;
            sessions = λ p e le at. let some = opened.behind p e le at in (some, omega (arith, session_in p e at some, length-map files bytes_in));
            count = ap (λ (l : List (List ℕ)). length l) texts_are ∙ (length-map ends text_in ∙ (count ∙ sym (length-map files bytes_in)));
            each = λ i file text at_file at_text. (transcript_at i file text at_file at_text).0;
            some_shut = λ refused.
                let risen = one_risen (λ e. (seat_in e).glass.shuts) ends (λ all. let no = loud all in absurd cc) in
                let one = served_at risen.0 risen.1 risen.2 in
                let here = map_at bytes_in files risen.0 one.0 one.1 in
                let there = subst (λ (l : List (List ℕ)). slice_get l risen.0 ≡ Some (text_in risen.1)) (sym texts_are) (map_at text_in ends risen.0 risen.1 risen.2) in
                let t = transcript_at risen.0 (bytes_in one.0) (text_in risen.1) here there in
                (risen.0, bytes_in one.0, text_in risen.1, here, there, true_from_ne_false (says_shut t.0.exchanges) (λ few. risen.3 ((t.1 risen.1 risen.2).shuts few)));
            boxes = posted.0;
            box_count = posted.1 ∙ (sym one_each ∙ sym (length-map files bytes_in));
            letters = λ i file text box at_file at_text at_box.
                let t = transcript_at i file text at_file at_text in
                let end = get_map text_in ends i text (subst (λ (l : List (List ℕ)). slice_get l i ≡ Some text) texts_are at_text) in
                let leave = t.1 end.0 end.1 in
                let given = leave.letters.1 in
                let put : put_count (seat_in end.0).passes ≡ put_count (new_passes boxes i) + sum_by letters_put t.0.exchanges = leave.puts in
                box_is schema found boxes h back order back_is back_at kept known formed session_few i (seat_in end.0) t.0.exchanges box (there_mapped seat_in ends back is i end.0 end.1)
                (given.2 ∙ ap (λ (ls : List PlainLetter). map note_of (filter (λ (l : PlainLetter). l.session == i + 1) ls)) (sym given.1))
                (omega (arith, put, sum_by-replicate (λ (ls : List PlainLetter). length ls) (length boxes) []))
                at_box;
          },
          map (λ (x : SeatState). x.passes) back,
          all,
          λ j box at. (posted.2 j box at).2,
        )
