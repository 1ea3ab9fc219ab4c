-- All links of a door, served and closed.
use Rattle.std.proofs.Common.{◌≡◌, ℕ, suc, ◌+◌, ◌-◌, ◌<◌, ◌≤◌, Bool, true, false, List, [], ◌∷◌, ◌++◌, length, map, sum_by, get_or, Some, slice_get, refl, sym, ap, ◌∙◌, subst, arith}
use Rattle.std.specs.Prelude.{if◌then◌else◌}
use Rattle.std.specs.List.{All, Any, Contains, list_any, flat_map, range_with_len}
use Rattle.std.proofs.lemmas.List.{length-map, nil_from_length}
use Rattle.std.proofs.lemmas.List.Concat.{length-flat_map, flat_map-cons}
use Rattle.std.proofs.lemmas.List.Elements.{All-contains, All-map}
use Rattle.std.proofs.lemmas.List.Folds.{list_any_none, sum_by-replicate}
use Rattle.std.proofs.lemmas.List.Sums.{sum_by-cons}
use Rattle.std.proofs.lemmas.Option.{slice_get-get_or, slice_get_within}
use Rattle.atomic_table.specs.Seated.{TableId}
use Rattle.be_base.specs.Counts.{raised, HasRisen}
use Rattle.be_base.specs.Lists.{BeginsWith}
use Rattle.be_io.specs.Outside.{LinkState}
use Rattle.be_model.specs.Letters.{PlainLetter}
use Rattle.be_model.specs.Schemas.{Attributes}
use Rattle.be_change.specs.History.{Entry, session_of, IsWellFormed}
use Rattle.be_mail.specs.Letters.{seat_of, letter_in}
use Rattle.be_mail.specs.Mailbox.{BoxId, Mailbox}
use Rattle.be_mail.specs.Passes.{new_passes}
use Rattle.be_mail.specs.Settled.{AreAll}
use Rattle.be_desk.specs.Boards.{put_count}
use Rattle.be_desk.specs.Closing.{AreRecorded}
use Rattle.be_desk.specs.Desks.{IsOpened}
use Rattle.be_desk.specs.Seats.{SeatState, first_seat, IsKeptSeat}
use Rattle.be_door.specs.Counts.{CountState, sums_of, with_counts, all_kept}
use Rattle.be_door.specs.Door.{DoorState, IsOf, AreAllCounts}
use Rattle.be_door.specs.Sums.{no_sums}
use Rattle.be_protocol.specs.declared.ends.SessionEnd.{SessionEnd}
use Rattle.be_hub.specs.Closing.{KeepsAll, AreInOrder}
use Rattle.be_hub.specs.Files.{is_split_end}
use Rattle.be_hub.specs.Links.{session_at, IsCounted, IsOfLink, SeatVisit, WorkerServed}
use Rattle.be_hub.specs.Posted.{LetterBox, taken_for, StandAmong, WasBox}
use Rattle.be_hub.specs.Serving.{Told, ServedLink, IsServedLink, AreApart, Worker, TakeTurns, HasLetters, session_and_link, told_of, AreKept}
use Rattle.be_hub.specs.Settling.{IsUnbroken, CountsSplits}
use Rattle.be_hub.proofs.Ends.{there}
use Rattle.be_hub.proofs.Pairs.{get_map, one_at, map_at}
use Rattle.be_hub.proofs.Choices.{AreChosen, choose, maps_same, flat_maps_same, sums_alike}
use Rattle.be_hub.proofs.DoorCounted.{same_number, sums_same, some_of, any_holds, counted_in}
use Rattle.be_hub.proofs.LinksLegal.{told_at, shut_agrees, none_shut, legal_link}
use Rattle.be_hub.proofs.LinksPosted.{ServedWithBoxes, notes_for, taken_is, given_among, put_by, workers_of, boxes_are, links_are, worker_at}
use Rattle.be_hub.proofs.Places.{all_from_places, any_at, at_of_all, flat_differs, flat_has, in_flat, EachDiffers}
use Rattle.be_hub.proofs.Posted.{IsOfFound, all_boxes, seat_box}
use Rattle.be_hub.proofs.FilesClosed.{seat_at, there_mapped}
use Rattle.be_hub.proofs.Turns.{served_link, of_visit, take_turns}
use Rattle.be_hub.proofs.Shuts.{Stays, same_test, none_at, stays_on}

abbrev pair : ℕ → LinkState → ℕ × LinkState
pair a x = (a, x)

module _ {L : Type 0} (told : L → LinkState) {E : Type 0} (seat_in : E → SeatState) (count_in : E → CountState L) (ends_in : E → List SessionEnd) (calls_in asked_in between_in : E → ℕ) (s : Attributes) (boxes : List TableId) (opening : List Entry) (door : DoorState L)
    (ends : List E) (seats : List SeatState) (first : seats ≡ map (first_seat opening boxes) (range_with_len 0 (length boxes))) (count : length ends ≡ length boxes)
    (served : (i : ℕ) (seat : SeatState) (end : E) → slice_get seats i ≡ Some seat → slice_get ends i ≡ Some end → WorkerServed told s boxes door seat (seat_in end) (count_in end) (ends_in end) (calls_in end) (asked_in end) (between_in end))
  where
    -- what was left at a place is of the seat there
    served_at : (i : ℕ) (end : E) → slice_get ends i ≡ Some end → WorkerServed told s boxes door (first_seat opening boxes i) (seat_in end) (count_in end) (ends_in end) (calls_in end) (asked_in end) (between_in end)
    served_at i end at =
        let lt : i < length boxes = omega (arith, slice_get_within ends i end at, count) in
        served i (first_seat opening boxes i) end (seat_at opening boxes (length boxes) i seats first lt) at

    abbrev pub counts : List (CountState L)
    counts = map count_in ends

    -- each seat comes back at its place
    pub seats_at : (i : ℕ) (end : E) → slice_get ends i ≡ Some end → (seat_in end).passes.seat ≡ i
    seats_at i end at = (served_at i end at).links.seat

    pub splits_are : All (λ e. CountsSplits (seat_in e) (ends_in e)) ends
    splits_are = all_from_places (λ e. CountsSplits (seat_in e) (ends_in e)) ends (λ i e at some.
        any_holds is_split_end (0 < (seat_in e).splits) (ends_in e) (λ k d lt is. risen (seat_in e).splits ((served_at i e at).links.split k d lt is)) some)
      where
        risen : (n : ℕ) → HasRisen 0 n → 0 < n
        risen n h = omega (arith, h)

    pub counts_are : door.workers ≡ length boxes → 0 < length boxes → AreAllCounts door counts
    counts_are many some = record {
      some = omega (arith, many, some);
      as_many = length-map ends count_in ∙ (count ∙ sym many);
      each_is_of = All-map (IsOf door) count_in ends (all_from_places (λ e. IsOf door (count_in e)) ends (λ i e at. (served_at i e at).is_of));
      ended = All-map (λ (c : CountState L). c.ended ≡ true) count_in ends (all_from_places (λ e. (count_in e).ended ≡ true) ends (λ i e at. (served_at i e at).ended));
    }

    -- each link that was given out came back
    pub all_came_back : (with_counts no_sums counts).back ≡ (with_counts no_sums counts).given
    all_came_back = ap (λ n. 0 + n) (sums_same (λ (c : CountState L). c.back) (λ (c : CountState L). c.given) counts
        (All-map (λ (c : CountState L). c.back ≡ c.given) count_in ends (all_from_places (λ e. (count_in e).back ≡ (count_in e).given) ends (λ i e at. sym (served_at i e at).all_back))))

    -- the links that were served at a place
    abbrev visits_at : (j : ℕ) (e : E) → slice_get ends j ≡ Some e → List SeatVisit
    visits_at j e at = (served_at j e at).links.visits

    abbrev tells_at_place : (j : ℕ) (e : E) (at : slice_get ends j ≡ Some e) (k : ℕ) (v : SeatVisit) → slice_get (visits_at j e at) k ≡ Some v → Told
    tells_at_place j e at k v there = told_at s boxes (session_at (length boxes) (first_seat opening boxes j).session k) (first_seat opening boxes j) (seat_in e) v ((served_at j e at).links.served k v there)

    abbrev IsLinkOf : (j : ℕ) (e : E) → slice_get ends j ≡ Some e → ℕ → SeatVisit → ServedLink → Type 0
    IsLinkOf j e at k v x = (there : slice_get (visits_at j e at) k ≡ Some v) × (served_link (tells_at_place j e at k v there) v ≡ x)

    abbrev IsListOf : ℕ → E → List ServedLink → Type 0
    IsListOf j e ls = (at : slice_get ends j ≡ Some e) × (length ls ≡ length (visits_at j e at)) × AreChosen (IsLinkOf j e at) (visits_at j e at) ls

    list_of : (j : ℕ) (e : E) → slice_get ends j ≡ Some e → (ls : List ServedLink) × IsListOf j e ls
    list_of j e at =
        let c = choose (IsLinkOf j e at) (visits_at j e at) (λ k v there. (served_link (tells_at_place j e at k v there) v, (there, refl))) in
        (c.0, (at, c.1, c.2))

    lists : (lss : List (List ServedLink)) × (length lss ≡ length ends) × AreChosen IsListOf ends lss
    lists = choose IsListOf ends list_of

    -- all links that were served, by workers and then in their order
    abbrev all_served : List ServedLink
    all_served = flat_map (λ (ls : List ServedLink). ls) lists.0

    list_at : (j : ℕ) (e : E) → slice_get ends j ≡ Some e → (ls : List ServedLink) × (slice_get lists.0 j ≡ Some ls) × IsListOf j e ls
    list_at j e at =
        let found = there lists.0 j (omega (arith, slice_get_within ends j e at, lists.1)) in
        let of = lists.2 j found.0 found.1 in
        (found.0, found.1, subst (λ (x : E). IsListOf j x found.0) (one_at ends j of.0 e of.1 at) of.2)

    -- the visit of a link in the list of a place
    visit_in : (j : ℕ) (e : E) (ls : List ServedLink) (k : ℕ) (x : ServedLink) → (is : IsListOf j e ls) → slice_get ls k ≡ Some x
        → (v : SeatVisit) × (there : slice_get (visits_at j e is.0) k ≡ Some v) × (served_link (tells_at_place j e is.0 k v there) v ≡ x)
    visit_in j e ls k x is at = let c = is.2 k x at in (c.0, c.2.0, c.2.1)

    session_in : (j : ℕ) (e : E) (ls : List ServedLink) (k : ℕ) (x : ServedLink) → IsListOf j e ls → slice_get ls k ≡ Some x → x.session ≡ session_at (length boxes) (first_seat opening boxes j).session k
    session_in j e ls k x is at =
        let v = visit_in j e ls k x is at in
        ap (λ (l : ServedLink). l.session) (sym v.2) ∙ ((served_at j e is.0).links.served k v.0 v.1).session_is

    seat_in_list : (j : ℕ) (e : E) (ls : List ServedLink) (k : ℕ) (x : ServedLink) → IsListOf j e ls → slice_get ls k ≡ Some x → seat_of (length boxes) x.session ≡ j
    seat_in_list j e ls k x is at =
        let v = visit_in j e ls k x is at in
        ap (seat_of (length boxes)) (session_in j e ls k x is at) ∙ (((served_at j e is.0).links.served k v.0 v.1).seat_is ∙ seats_at j e is.0)

    are_apart : 0 < length boxes → AreApart all_served
    are_apart some = flat_differs (λ (ls : List ServedLink). ls) (λ (x : ServedLink). x.session) (seat_of (length boxes)) lists.0 0 each
      where
        from_zero : (j : ℕ) → j ≡ 0 + j
        from_zero j = omega arith

        each : EachDiffers (λ (ls : List ServedLink). ls) (λ (x : ServedLink). x.session) (seat_of (length boxes)) 0 lists.0
        each j ls at =
            let of = lists.2 j ls at in (
              (λ i k x y at_x at_y same.
                  same_number (length boxes) i k (first_seat opening boxes j).session some (sym (session_in j of.0 ls i x of.2 at_x) ∙ (same ∙ session_in j of.0 ls k y of.2 at_y))),
              (λ k x at_x. seat_in_list j of.0 ls k x of.2 at_x ∙ from_zero j),
            )

    many_in : (j : ℕ) (e : E) (ls : List ServedLink) → IsListOf j e ls → length ls ≡ (count_in e).given
    many_in j e ls is =
        let w = served_at j e is.0 in
        let v = visits_at j e is.0 in
        is.1 ∙ (sym (length-map v (λ (x : SeatVisit). x.end)) ∙ (ap (λ l. length l) (sym w.links.ends_are) ∙ (sym w.links.back ∙ sym w.all_back)))

    -- as many were served as were given out
    many_served : length all_served ≡ (with_counts no_sums counts).given
    many_served =
        from_none (length-flat_map (λ (ls : List ServedLink). ls) lists.0
        ∙ (sums_alike (λ (ls : List ServedLink). length ls) (λ (e : E). (count_in e).given) lists.0 ends lists.1 (λ j ls e at_ls at. many_in j e ls (list_is j e ls at_ls at))
        ∙ sums_mapped ends))
      where
        from_none : {a b : ℕ} → a ≡ b → a ≡ 0 + b
        from_none {a} {b} is = omega (arith, is)

        sums_mapped : (es : List E) → sum_by (λ (e : E). (count_in e).given) es ≡ sum_by (λ (c : CountState L). c.given) (map count_in es)
        sums_mapped [] = refl
        sums_mapped (e ∷ es) = let r = sums_mapped es in omega (arith, r, sum_by-cons (λ (d : E). (count_in d).given) e es, sum_by-cons (λ (c : CountState L). c.given) (count_in e) (map count_in es))

        list_is : (j : ℕ) (e : E) (ls : List ServedLink) → slice_get lists.0 j ≡ Some ls → slice_get ends j ≡ Some e → IsListOf j e ls
        list_is j e ls at_ls at = let of = lists.2 j ls at_ls in subst (λ (x : E). IsListOf j x ls) (one_at ends j of.0 e of.1 at) of.2

    module _ (h : List Entry) (back : List SeatState) (shuts : Bool) (links : ℕ) (keeps : Bool) (some : 0 < length boxes) (kept_seats : All (IsKeptSeat boxes) back) (is : back ≡ map seat_in ends)
        (quiet : shuts ≡ false → All (λ e. (seat_in e).glass.shuts ≡ 0) ends) (loud : All (λ e. (seat_in e).glass.shuts ≡ 0) ends → shuts ≡ false) (unbroken : All (λ e. All IsUnbroken (ends_in e)) ends)
        (formed : IsWellFormed h) (keeps_all : All (KeepsAll boxes h) back) (recorded : AreRecorded (length h) h back) (opened : IsOpened opening h) (door_keeps : keeps ≡ door.keeps)
        (none_refused : (with_counts no_sums counts).refused ≡ 0) (all_links : (with_counts no_sums counts).given + (with_counts no_sums counts).failed ≡ links)
        (schema : Attributes) (found : BoxId → Mailbox → Type 0) (order : AreInOrder schema found boxes back)
      where
        in_sessions : (place : ℕ) (e : Entry) → length opening ≤ place → slice_get h place ≡ Some e → Any (λ (x : ServedLink). x.session ≡ session_of e) all_served
        in_sessions p e le at =
            let found = recorded p e (slice_get_within h p e at) at (opened.behind p e le at) in
            let stands : slice_get back found.0 ≡ Some found.1 = slice_get-get_or back found.0 found.1 found.2 ∙ ap (λ (x : SeatState). Some x) found.3 in
            let end = get_map seat_in ends found.0 found.1 (subst (λ (l : List SeatState). slice_get l found.0 ≡ Some found.1) is stands) in
            let w = served_at found.0 end.0 end.1 in
            let own = w.links.own in
            let of : IsOfLink (length boxes) (first_seat opening boxes found.0).session (length (ends_in end.0)) (p, e) =
            All-contains (IsOfLink (length boxes) (first_seat opening boxes found.0).session (length (ends_in end.0))) own.0 (p, e) own.2
            (subst (λ (l : List (ℕ × Entry)). Contains l (p, e)) own.1 (subst (λ (x : SeatState). Contains x.own (p, e)) (sym end.2) found.4)) in
            let list = list_at found.0 end.0 end.1 in
            let x = there list.0 of.0 (omega (arith, of.1, many_in found.0 end.0 list.0 list.2, w.links.back, w.all_back)) in
            let placed = flat_has (λ (ls : List ServedLink). ls) lists.0 found.0 list.0 of.0 x.0 list.1 x.1 in
            any_at (λ (y : ServedLink). y.session ≡ session_of e) all_served placed.0 x.0 placed.1 (session_in found.0 end.0 list.0 of.0 x.0 list.2 x.1 ∙ sym of.2)

        ended_at : (j : ℕ) (e : E) (at : slice_get ends j ≡ Some e) (k : ℕ) (v : SeatVisit) → slice_get (visits_at j e at) k ≡ Some v → slice_get (ends_in e) k ≡ Some v.end
        ended_at j e at k v there =
            let w = served_at j e at in
            subst (λ es. slice_get es k ≡ Some v.end) (sym w.links.ends_are) (map_at (λ (v : SeatVisit). v.end) w.links.visits k v there)

        unbroken_at : (j : ℕ) (e : E) (at : slice_get ends j ≡ Some e) (k : ℕ) (v : SeatVisit) → slice_get (visits_at j e at) k ≡ Some v → IsUnbroken v.end
        unbroken_at j e at k v there = at_of_all IsUnbroken (ends_in e) k v.end (at_of_all (λ e. All IsUnbroken (ends_in e)) ends j e unbroken at) (ended_at j e at k v there)

        is_served_link : (i : ℕ) (x : ServedLink) → slice_get all_served i ≡ Some x → IsServedLink s h (with_counts no_sums counts) x
        is_served_link i x at =
            let f = in_flat (λ (ls : List ServedLink). ls) lists.0 i x at in
            let of = lists.2 f.0 f.1 f.3 in
            let w = served_at f.0 of.0 of.2.0 in
            let v = visit_in f.0 of.0 f.1 f.2 x of.2 f.4 in
            let k = session_at (length boxes) (first_seat opening boxes f.0).session f.2 in
            let l = w.links.served f.2 v.0 v.1 in
            let end_at = ended_at f.0 of.0 of.2.0 f.2 v.0 v.1 in
            let seat_back : slice_get back f.0 ≡ Some (seat_in of.0) = there_mapped seat_in ends back is f.0 of.0 of.1 in
            let how = legal_link s boxes h k (first_seat opening boxes f.0) (seat_in of.0) v.0 l (at_of_all (KeepsAll boxes h) back f.0 (seat_in of.0) keeps_all seat_back)
            (unbroken_at f.0 of.0 of.2.0 f.2 v.0 v.1) in
            let count_at = map_at count_in ends f.0 of.0 of.1 in
            subst (IsServedLink s h (with_counts no_sums counts)) v.2 (record {
              somebody = subst (λ n. 0 < n) (sym l.session_is) l.somebody;
              legal = record {
                unused = l.unused;
                is_unused = l.is_unused;
                whole = l.served.whole;
                ends = how;
                counted = counted_in counts f.0 (count_in of.0) v.0.end count_at (at_of_all (IsCounted (sums_of (count_in of.0))) (ends_in of.0) f.2 v.0.end w.links.counted end_at);
              };
            })

        -- no reply says that a reader was refused where no seat counted one
        quiet_link : shuts ≡ false → (i : ℕ) (x : ServedLink) → slice_get all_served i ≡ Some x → x.told.shut ≡ false
        quiet_link off i x at =
            let f = in_flat (λ (ls : List ServedLink). ls) lists.0 i x at in
            let of = lists.2 f.0 f.1 f.3 in
            let v = visit_in f.0 of.0 f.1 f.2 x of.2 f.4 in
            ap (λ (l : ServedLink). l.told.shut) (sym v.2)
            ∙ none_shut s boxes (session_at (length boxes) (first_seat opening boxes f.0).session f.2) (first_seat opening boxes f.0) (seat_in of.0) v.0 ((served_at f.0 of.0 of.2.0).links.served f.2 v.0 v.1)
            (unbroken_at f.0 of.0 of.2.0 f.2 v.0 v.1) (at_of_all (λ e. (seat_in e).glass.shuts ≡ 0) ends f.0 of.0 (quiet off) of.1)

        -- no seat counted one where no reply says it
        quiet_seat : list_any (λ (l : ServedLink). l.told.shut) all_served ≡ false → (j : ℕ) (e : E) → slice_get ends j ≡ Some e → (seat_in e).glass.shuts ≡ 0
        quiet_seat off j e at =
            let list = list_at j e at in
            let w = served_at j e list.2.0 in
            stays_on s (length boxes) (first_seat opening boxes j) (seat_in e) w.links.visits w.links.chain (all_from_places Stays w.links.visits (stays list.0 list.1 list.2)) refl
          where
            stays : (ls : List ServedLink) → slice_get lists.0 j ≡ Some ls → (is : IsListOf j e ls) → (k : ℕ) (v : SeatVisit) → slice_get (visits_at j e is.0) k ≡ Some v → Stays v
            stays ls at_ls is k v here =
                let x = there ls k (omega (arith, slice_get_within (visits_at j e is.0) k v here, is.1)) in
                let u = visit_in j e ls k x.0 is x.1 in
                let placed = flat_has (λ (ls : List ServedLink). ls) lists.0 j ls k x.0 at_ls x.1 in
                let none_says = none_at (λ (l : ServedLink). l.told.shut) all_served placed.0 x.0 off placed.1 in
                let told = shut_agrees s boxes (session_at (length boxes) (first_seat opening boxes j).session k) (first_seat opening boxes j) (seat_in e) u.0 ((served_at j e is.0).links.served k u.0 u.1) (unbroken_at j e is.0 k u.0 u.1) in
                subst Stays (one_at (visits_at j e is.0) k u.0 v u.1 here) (told.stays (ap (λ (l : ServedLink). l.told.shut) u.2 ∙ none_says))

        -- what a worker kept are the links that it served
        kept_same : (j : ℕ) (e : E) (ls : List ServedLink) → keeps ≡ true → IsListOf j e ls → map (told_of told) (count_in e).kept ≡ map session_and_link ls
        kept_same j e ls keeping of =
            let w = served_at j e of.0 in
            let all : length (count_in e).kept ≡ (count_in e).back = w.sound.kept ∙ ap (λ b. if b then (count_in e).back else 0) (w.is_of.1 ∙ (sym door_keeps ∙ keeping)) in
            maps_same (told_of told) session_and_link (count_in e).kept ls (all ∙ (sym w.all_back ∙ sym (many_in j e ls of)))
            (λ k x y at_x at_y.
            let v = visit_in j e ls k y of at_y in
            let kept = w.links.kept k x at_x in
            let same = one_at w.links.visits k kept.visit v.0 kept.there v.1 in
            pair_same (sym kept.session ∙ (ap (λ (z : SeatVisit). z.entered.session) same ∙ ap (λ (l : ServedLink). l.session) v.2))
            (sym kept.link ∙ (ap (λ (z : SeatVisit). z.link) same ∙ ap (λ (l : ServedLink). l.link) v.2)))
          where
            pair_same : {a b : ℕ} {x y : LinkState} → a ≡ b → x ≡ y → pair a x ≡ pair b y
            pair_same {a} {b} {x} {y} p q = ap (λ n. pair n x) p ∙ ap (pair b) q

        none_kept : keeps ≡ false → (es : List E) → ((j : ℕ) (e : E) → slice_get es j ≡ Some e → length (count_in e).kept ≡ 0) → all_kept (map count_in es) ≡ []
        none_kept off [] each = refl
        none_kept off (e ∷ es) each =
            flat_map-cons (λ (c : CountState L). c.kept) (count_in e) (map count_in es)
            ∙ (ap (λ l. l ++ all_kept (map count_in es)) (nil_from_length (count_in e).kept (each 0 e refl)) ∙ none_kept off es (λ j d at. each (suc j) d at))

        are_kept : (b : Bool) → keeps ≡ b → AreKept told b (all_kept counts) all_served
        are_kept true on = kept_mapped ∙ flat_maps_same (λ (e : E). (count_in e).kept) (λ (ls : List ServedLink). ls) (told_of told) session_and_link ends lists.0 (sym lists.1)
            (λ j e ls at at_ls. let of = lists.2 j ls at_ls in kept_same j e ls on (subst (λ (x : E). IsListOf j x ls) (one_at ends j of.0 e of.1 at) of.2))
          where
            kept_mapped : map (told_of told) (all_kept counts) ≡ map (told_of told) (flat_map (λ (e : E). (count_in e).kept) ends)
            kept_mapped = ap (map (told_of told)) (flat_mapped ends)
              where
                flat_mapped : (es : List E) → all_kept (map count_in es) ≡ flat_map (λ (e : E). (count_in e).kept) es
                flat_mapped [] = refl
                flat_mapped (e ∷ es) =
                    flat_map-cons (λ (c : CountState L). c.kept) (count_in e) (map count_in es) ∙ (ap (λ l. (count_in e).kept ++ l) (flat_mapped es) ∙ sym (flat_map-cons (λ (d : E). (count_in d).kept) e es))
        are_kept false off = none_kept off ends (λ j e at. let w = served_at j e at in w.sound.kept ∙ ap (λ b. if b then (count_in e).back else 0) (w.is_of.1 ∙ (sym door_keeps ∙ off)))

        back_is : length back ≡ length boxes
        back_is = ap (λ (l : List SeatState). length l) is ∙ (length-map ends seat_in ∙ count)

        back_at : (i : ℕ) (x : SeatState) → slice_get back i ≡ Some x → x.passes.seat ≡ i
        back_at i x at =
            let end = get_map seat_in ends i x (subst (λ (l : List SeatState). slice_get l i ≡ Some x) is at) in
            ap (λ (y : SeatState). y.passes.seat) (sym end.2) ∙ seats_at i end.0 end.1

        known : All (λ (x : SeatState). BeginsWith h x.glass.known) back
        known k d lt = let some = kept_seats k d lt in (keeps_all k d lt (get_or back k d).session some.somebody some.seat_is).known

        abbrev posted : (bs : List LetterBox) × (length bs ≡ length boxes) × AreChosen (IsOfFound schema found boxes h back order back_is back_at kept_seats known) boxes bs
        posted = all_boxes schema found boxes h back order back_is back_at kept_seats known

        -- as many lists of links as boxes
        many_lists : length lists.0 ≡ length posted.0
        many_lists = lists.1 ∙ (count ∙ sym posted.1)

        abbrev workers : List Worker
        workers = workers_of lists.0 posted.0

        -- what FETCH gave to a link stands among what its seat took
        given_at : (j : ℕ) (e : E) (ls : List ServedLink) (k : ℕ) (x : ServedLink) → IsListOf j e ls → slice_get ls k ≡ Some x → StandAmong x.told.given (notes_for x.session (map letter_in (seat_in e).passes.taken))
        given_at j e ls k x is at =
            let v = visit_in j e ls k x is at in
            subst (λ (l : ServedLink). StandAmong l.told.given (notes_for l.session (map letter_in (seat_in e).passes.taken))) v.2
            (given_among s boxes (session_at (length boxes) (first_seat opening boxes j).session k) (first_seat opening boxes j) (seat_in e) v.0 ((served_at j e is.0).links.served k v.0 v.1) (unbroken_at j e is.0 k v.0 v.1))

        abbrev added_puts : SeatVisit → ℕ
        added_puts v = put_count v.left.passes - put_count v.entered.passes

        put_at : (j : ℕ) (e : E) (ls : List ServedLink) (k : ℕ) (x : ServedLink) (v : SeatVisit) → (is : IsListOf j e ls) → slice_get ls k ≡ Some x → slice_get (visits_at j e is.0) k ≡ Some v → x.told.put ≡ added_puts v
        put_at j e ls k x v is at here =
            let u = visit_in j e ls k x is at in
            let put = put_by s boxes (session_at (length boxes) (first_seat opening boxes j).session k) (first_seat opening boxes j) (seat_in e) u.0 ((served_at j e is.0).links.served k u.0 u.1) (unbroken_at j e is.0 k u.0 u.1) in
            ap (λ (l : ServedLink). l.told.put) (sym u.2) ∙ (put ∙ ap added_puts (one_at (visits_at j e is.0) k u.0 v u.1 here))

        -- as many letters as SEND said to all links of a seat it put
        puts_at : (j : ℕ) (e : E) (ls : List ServedLink) → IsListOf j e ls → sum_by (λ (l : ServedLink). l.told.put) ls ≡ put_count (seat_in e).passes
        puts_at j e ls is =
            let w = served_at j e is.0 in
            let alike = sums_alike (λ (l : ServedLink). l.told.put) added_puts ls (visits_at j e is.0) is.1 (λ k x v at here. put_at j e ls k x v is at here) in
            let all : put_count (seat_in e).passes ≡ put_count (new_passes boxes j) + sum_by added_puts (visits_at j e is.0) = w.counts.puts in
            omega (arith, alike, all, sum_by-replicate (λ (letters : List PlainLetter). length letters) (length boxes) [])

        has_letters : (i : ℕ) (w : Worker) → slice_get workers i ≡ Some w → HasLetters h posted.0 (i + 1) w
        has_letters i w at =
            let placed = worker_at lists.0 posted.0 i w at in
            let of = lists.2 i w.links placed.0 in
            let b = seat_box schema found boxes h back order back_is back_at kept_seats known i (seat_in of.0) w.box (there_mapped seat_in ends back is i of.0 of.1) placed.1 in
            record {
              given = all_from_places (λ (l : ServedLink). StandAmong l.told.given (taken_for l.session w.box)) w.links
                  (λ k x at_x. subst (StandAmong x.told.given) (sym (taken_is x.session (seat_in of.0).passes.taken w.box b.taken)) (given_at i of.0 w.links k x of.2 at_x));
              sent = puts_at i of.0 w.links of.2 ∙ b.sent;
              readers = b.readers;
              box_is = b.box_is;
            }

        many_workers : length workers ≡ length boxes
        many_workers = sym (length-map workers (λ (w : Worker). w.box)) ∙ (ap (λ (bs : List LetterBox). length bs) (boxes_are lists.0 posted.0 many_lists) ∙ posted.1)

        -- the links of a worker took turns at its seat
        turns_at : (i : ℕ) (w : Worker) → slice_get lists.0 i ≡ Some w.links → TakeTurns (length workers) (i + 1) (length opening) w.links
        turns_at i w at =
            let of = lists.2 i w.links at in
            let visits = (served_at i of.0 of.2.0).links in
            subst (λ (n : ℕ). TakeTurns n (i + 1) (length opening) w.links) (sym many_workers) (take_turns s (length boxes) (first_seat opening boxes i) (seat_in of.0) visits.visits w.links visits.chain of.2.1 (i + 1) (length opening)
            (λ k v x at_v at_x.
            let u = visit_in i of.0 w.links k x of.2 at_x in
            let same = one_at visits.visits k u.0 v u.1 at_v in
            let stays = (visits.served k v at_v).served.board.goes.session in
            of_visit v x (tells_at_place i of.0 of.2.0 k u.0 u.1) stays (ap (served_link (tells_at_place i of.0 of.2.0 k u.0 u.1)) (sym same) ∙ u.2)) (omega arith) (omega arith))

        was_box : (i : ℕ) (w : Worker) → slice_get workers i ≡ Some w → WasBox schema found boxes (map (λ (x : SeatState). x.passes) back) i w.box
        was_box i w at = (posted.2 i w.box (worker_at lists.0 posted.0 i w at).1).2

        pub links_are_served : AreAll boxes (map (λ (x : SeatState). x.passes) back) → ServedWithBoxes told schema found s boxes opening h shuts links keeps (with_counts no_sums counts) (all_kept counts)
        links_are_served all = (
          record {
            formed = formed;
            begins = opened.begins;
            came_back = (all_came_back, all_links);
            none_refused = none_refused;
            failed = λ some_failed. some_raised _
                (some_of (λ (c : CountState L). c.failed) (λ (c : CountState L). c.read_faults) counts
                (All-map (λ (c : CountState L). 0 < c.failed → 0 < c.read_faults) count_in ends (all_from_places (λ e. 0 < (count_in e).failed → 0 < (count_in e).read_faults) ends (λ i e at. (served_at i e at).links.failed)))
                (plus_none _ some_failed));
            served = all_served;
            count = many_served;
            apart = are_apart some;
            each = all_from_places (IsServedLink s h (with_counts no_sums counts)) all_served is_served_link;
            some_shut = same_test shuts (list_any (λ (l : ServedLink). l.told.shut) all_served)
                (λ off. list_any_none (λ (l : ServedLink). l.told.shut) all_served (all_from_places (λ (l : ServedLink). l.told.shut ≡ false) all_served (quiet_link off)))
                (λ off. loud (all_from_places (λ e. (seat_in e).glass.shuts ≡ 0) ends (quiet_seat off)));
            sessions = in_sessions;
            kept_are = are_kept keeps refl;
            workers = workers;
            worker_count = many_workers;
            by_workers = links_are lists.0 posted.0 many_lists;
            turns = λ i w at. turns_at i w (worker_at lists.0 posted.0 i w at).0;
            letters = λ i w at. subst (λ (bs : List LetterBox). HasLetters h bs (i + 1) w) (sym (boxes_are lists.0 posted.0 many_lists)) (has_letters i w at);
          },
          map (λ (x : SeatState). x.passes) back,
          all,
          was_box,
        )
          where
            some_raised : (n : ℕ) → 0 < n → 0 < raised n 0
            some_raised n some = omega (arith, some)

            plus_none : (n : ℕ) → 0 < 0 + n → 0 < n
            plus_none n some = omega (arith, some)
