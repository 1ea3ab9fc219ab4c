-- One more link was served.
use Rattle.std.proofs.Common.{◌≡◌, ◌≢◌, ℕ, ◌+◌, ◌-◌, ◌<◌, ◌≤◌, ◌⊎◌, inl, inr, Bool, true, false, List, [], ◌∷◌, ◌++◌, length, map, max, Some, slice_get, refl, sym, ap, ◌∙◌, subst, append_assoc, length-append, arith, ◌==◌}
use Rattle.std.specs.Prelude.{if◌then◌else◌, MatchBool}
use Rattle.std.specs.List.{All, filter}
use Rattle.std.proofs.lemmas.Bool.{eqb-true}
use Rattle.std.proofs.lemmas.List.{append-nil, map-append}
use Rattle.std.proofs.lemmas.List.Elements.{All-append, All-push, All-weaker, filter_passes, filter-append, All-head, All-tail}
use Rattle.std.proofs.lemmas.Option.{slice_get_within}
use Rattle.atomic_table.specs.Seated.{TableId}
use Rattle.be_base.specs.Counts.{raised, HasRisen, HasRisenBy, RisesBy}
use Rattle.be_base.specs.Lists.{BeginsWith}
use Rattle.be_base.specs.declared.limits.TheConstants.{SOURCE_BYTES}
use Rattle.be_base.specs.declared.names.SessionNo.{SessionNo}
use Rattle.be_base.proofs.Beginnings.{BeginsWith-same, BeginsWith-along}
use Rattle.be_io.specs.Outside.{LinkState}
use Rattle.be_model.specs.Schemas.{Attributes}
use Rattle.be_change.specs.History.{Entry, session_of}
use Rattle.be_change.specs.Requests.{Exchange}
use Rattle.be_mail.specs.Letters.{letter_in}
use Rattle.be_board.specs.Word.{own_of}
use Rattle.be_desk.specs.Boards.{board_of}
use Rattle.be_desk.specs.Seats.{SeatState, IsKeptSeat}
use Rattle.be_door.specs.Counts.{CountState, IsSound, sums_of, after_back}
use Rattle.be_door.specs.Kept.{put_last}
use Rattle.be_door.specs.Links.{IsUnused}
use Rattle.be_protocol.specs.declared.ends.SessionEnd.{SessionEnd}
use Rattle.be_protocol.specs.declared.ends.SessionEnd.TheVariants.{Eof, Quit, ReadFault, WriteFault, Spent, Split, NoMemory}
use Rattle.be_session.specs.Served.{SessionEnds, BoardLeft}
use Rattle.be_session.specs.Tied.{is_split}
use Rattle.be_hub.specs.Files.{is_split_end}
use Rattle.be_hub.specs.Links.{session_at, SessionServed, WentOn, SeatVisit, LinkServed, EntersNext, IsCounted, IsOfLink, AddsOfLinks, IsOfVisit, LinksServed}
use Rattle.be_hub.proofs.Entered.{number_is, own_same, glass_same, splits_same, place_same, notes_grow}
use Rattle.be_hub.proofs.Places.{at_last, in_front, in_push}
use Rattle.be_hub.proofs.Transcripts.{is_split_of, some_counted}
use Rattle.be_hub.proofs.Visits.{as_many, follows_on, asks_on}

-- the changes of one session have none of another
none_of : (k m : ℕ) (new : List (ℕ × Entry)) → k ≢ m → All (λ (q : ℕ × Entry). session_of q.1 ≡ m) new → own_of k new ≡ []
none_of k m [] other all = refl
none_of k m (p ∷ ps) other all =
    go (session_of p.1 == k) refl (none_of k m ps other (All-tail (λ (q : ℕ × Entry). session_of q.1 ≡ m) p ps all))
  where
    go : (b : Bool) → (session_of p.1 == k) ≡ b → own_of k ps ≡ [] → (if b then p ∷ own_of k ps else own_of k ps) ≡ []
    go true is rest = absurd (other (sym (eqb-true (session_of p.1) k is) ∙ All-head (λ (q : ℕ × Entry). session_of q.1 ≡ m) p ps all))
    go false is rest = rest

-- what is a session's is all of it
all_of : (m : ℕ) (new : List (ℕ × Entry)) → own_of m new ≡ new → All (λ (q : ℕ × Entry). session_of q.1 ≡ m) new
all_of m new is =
    All-weaker (λ (q : ℕ × Entry). (session_of q.1 == m) ≡ true) (λ (q : ℕ × Entry). session_of q.1 ≡ m) (λ q e. eqb-true (session_of q.1) m e) new
    (subst (λ (l : List (ℕ × Entry)). All (λ (q : ℕ × Entry). (session_of q.1 == m) ≡ true) l) is (filter_passes (λ (q : ℕ × Entry). session_of q.1 == m) new))

-- the seat entered its session number n, from 0, of those of its worker
pub record Enters (s : Attributes) (seats n : ℕ) (first last entered : SeatState) : Type 0 where
  pub session : entered.session ≡ session_at seats first.session n
  pub no_sooner : last.session ≤ entered.session
  pub later : 0 < n → last.session < entered.session
  pub own : entered.own ≡ last.own
  pub known : entered.glass ≡ last.glass
  pub seat : entered.passes.seat ≡ last.passes.seat
  pub notes : BeginsWith (map letter_in entered.passes.taken) (map letter_in last.passes.taken)
  pub splits : entered.splits ≡ last.splits
  pub same : n ≡ 0 → entered ≡ last
  pub next : 0 < n → EntersNext s seats last entered

same_number : (seats n a b : ℕ) → n ≡ 0 → b ≡ session_at seats a (n - 1) → b ≡ session_at seats a n
same_number seats n a b none is = is ∙ ap (session_at seats a) (less n none)
  where
    less : (n : ℕ) → n ≡ 0 → n - 1 ≡ n
    less n is = omega (arith, is)

next_number : (seats n a b : ℕ) → 0 < n → b ≡ session_at seats a (n - 1) → b + seats ≡ session_at seats a n
next_number seats n a b some is = one_on (n - 1) is ∙ ap (session_at seats a) (less n some)
  where
    one_on : (m : ℕ) → b ≡ session_at seats a m → b + seats ≡ session_at seats a (m + 1)
    one_on m is = omega (arith, is)

    less : (n : ℕ) → 0 < n → (n - 1) + 1 ≡ n
    less n some = omega (arith, some)

pub enters : (s : Attributes) (seats n : ℕ) (first last entered : SeatState) (b : Bool) → (b ≡ true → n ≡ 0) → (b ≡ false → 0 < n) → 0 < seats → last.session ≡ session_at seats first.session (n - 1)
    → MatchBool b (entered ≡ last) (EntersNext s seats last entered) → Enters s seats n first last entered
enters s seats n first last entered true none some many was same = record {
  session = ap (λ (x : SeatState). x.session) same ∙ same_number seats n first.session last.session (none refl) was;
  no_sooner = omega (arith, ap (λ (x : SeatState). x.session) same);
  later = λ lt. absurd (omega (arith, lt, none refl));
  own = ap (λ (x : SeatState). x.own) same;
  known = ap (λ (x : SeatState). x.glass) same;
  seat = ap (λ (x : SeatState). x.passes.seat) same;
  notes = subst (λ (x : SeatState). BeginsWith (map letter_in x.passes.taken) (map letter_in last.passes.taken)) (sym same) (BeginsWith-same (map letter_in last.passes.taken));
  splits = ap (λ (x : SeatState). x.splits) same;
  same = λ _. same;
  next = λ lt. absurd (omega (arith, lt, none refl));
}
enters s seats n first last entered false none some many was next =
    let num : entered.session ≡ last.session + seats = number_is s seats last entered next in
    record {
      session = num ∙ next_number seats n first.session last.session (some refl) was;
      no_sooner = omega (arith, num);
      later = λ _. omega (arith, num, many);
      own = own_same s seats last entered next;
      known = glass_same s seats last entered next;
      seat = place_same s seats last entered next;
      notes = notes_grow s seats last entered next;
      splits = splits_same s seats last entered next;
      same = λ zero. absurd (omega (arith, zero, some refl));
      next = λ _. next;
    }

pub went_nowhere : (k : ℕ) (s : SeatState) → WentOn k s s
went_nowhere k s = record {
  seat = refl;
  session = omega arith;
  known = BeginsWith-same s.glass.known;
  own = refl;
  notes = BeginsWith-same (map letter_in s.passes.taken);
  shuts = omega arith;
  splits = omega arith;
}

module _ (schema : Attributes) (seats n : ℕ) (first last e seat' : SeatState) (asked asked' : ℕ) (ent : Enters schema seats n first last e) (board : BoardLeft (board_of 1 schema asked e) (board_of 1 schema asked' seat')) where
  abbrev new : List (ℕ × Entry)
  new = board.own.0

  new_is : All (λ (q : ℕ × Entry). session_of q.1 ≡ e.session) new
  new_is = all_of e.session new board.own.2

  own_is : seat'.own ≡ last.own ++ new
  own_is = board.own.1 ∙ ap (λ l. l ++ new) ent.own

  seat_same : seat'.passes.seat ≡ last.passes.seat
  seat_same = board.goes.seat ∙ ent.seat

  knows_more : BeginsWith seat'.glass.known last.glass.known
  knows_more = subst (λ g. BeginsWith seat'.glass.known g.known) ent.known board.goes.known

  -- an earlier session's link stays as it was
  pub went_further : (k : ℕ) (s : SeatState) → k ≢ e.session → WentOn k s last → WentOn k s seat'
  went_further k s other w = record {
    seat = seat_same ∙ w.seat;
    session = omega (arith, w.session, ent.no_sooner, board.goes.session);
    known = BeginsWith-along seat'.glass.known last.glass.known s.glass.known knows_more w.known;
    own = ap (own_of k) own_is
        ∙ (filter-append (λ (q : ℕ × Entry). session_of q.1 == k) last.own new
        ∙ (ap (λ l. own_of k last.own ++ l) (none_of k e.session new other new_is) ∙ (append-nil (own_of k last.own) ∙ w.own)));
    notes = BeginsWith-along (map letter_in seat'.passes.taken) (map letter_in last.passes.taken) (map letter_in s.passes.taken)
        (BeginsWith-along (map letter_in seat'.passes.taken) (map letter_in e.passes.taken) (map letter_in last.passes.taken) board.notes ent.notes) w.notes;
    shuts = omega (arith, w.shuts, board.goes.counts.shuts, ap (λ g. g.shuts) ent.known);
    splits = omega (arith, w.splits, board.goes.counts.splits, ent.splits);
  }

  pub adds : AddsOfLinks seats n first last → AddsOfLinks seats (n + 1) first seat'
  adds a = (
    a.0 ++ new,
    own_is ∙ (ap (λ l. l ++ new) a.1 ∙ append_assoc first.own a.0 new),
    All-append (IsOfLink seats first.session (n + 1)) a.0 new
        (All-weaker (IsOfLink seats first.session n) (IsOfLink seats first.session (n + 1)) (λ p o. (o.0, omega (arith, o.1), o.2)) a.0 a.2)
        (All-weaker (λ (q : ℕ × Entry). session_of q.1 ≡ e.session) (IsOfLink seats first.session (n + 1)) (λ p o. (n, omega arith, o ∙ ent.session)) new new_is),
  )

-- a session's SPLIT is counted
pub splits_of : (P : Type 0) (s : Attributes) (before after : LinkState) (calls calls' : ℕ) (seat seat' : SeatState) (end : SessionEnd) → SessionEnds P s before after (board_of 1 s calls seat) (board_of 1 s calls' seat') end → is_split_end end ≡ true
    → HasRisen seat.splits seat'.splits
splits_of P s before after calls calls' seat seat' (Split i j) e is =
    let r = e.replied in
    let some = subst (λ (ps : List Exchange). 0 < length (filter is_split ps)) (sym r.ends.2) (some_counted r.ends.0 r.ends.1 (is_split_of r.ends.1 i j r.ends.4)) in
    one_risen _ seat.splits seat'.splits some r.legal.tied.splits
  where
    one_risen : (n before after : ℕ) → 0 < n → RisesBy n before after → HasRisen before after
    one_risen n before after some rise = omega (arith, rise, some)
splits_of P s before after calls calls' seat seat' Eof e is = absurd cc
splits_of P s before after calls calls' seat seat' Quit e is = absurd cc
splits_of P s before after calls calls' seat seat' ReadFault e is = absurd cc
splits_of P s before after calls calls' seat seat' WriteFault e is = absurd cc
splits_of P s before after calls calls' seat seat' Spent e is = absurd cc
splits_of P s before after calls calls' seat seat' NoMemory e is = absurd cc

module _ {L : Type 0} (told : L → LinkState) where
  -- the count goes on with more of its numbers
  pub record GoesFurther (c c' : CountState L) : Type 0 where
    pub read_faults : 0 < c.read_faults → 0 < c'.read_faults
    pub write_faults : 0 < c.write_faults → 0 < c'.write_faults
    pub most : c.most ≤ c'.most

  counted_on : (c c' : CountState L) → GoesFurther c c' → (end : SessionEnd) → IsCounted (sums_of c) end → IsCounted (sums_of c') end
  counted_on c c' g Eof is = tt
  counted_on c c' g Quit is = tt
  counted_on c c' g ReadFault is = g.read_faults is
  counted_on c c' g WriteFault is = g.write_faults is
  counted_on c c' g Spent is = omega (arith, is, g.most)
  counted_on c c' g (Split i j) is = tt
  counted_on c c' g NoMemory is = tt

  -- an accept leaves what was served
  pub accepted : (s : Attributes) (boxes : List TableId) (first last : SeatState) (c c' : CountState L) (ends : List SessionEnd) (calls asked : ℕ) → LinksServed told s boxes first last c ends calls asked → c'.back ≡ c.back → c'.kept ≡ c.kept → GoesFurther c c'
      → (0 < c'.failed → 0 < c'.read_faults) → LinksServed told s boxes first last c' ends calls asked
  accepted s boxes first last c c' ends calls asked l back kept more failed = record {
    back = back ∙ l.back;
    seat = l.seat;
    session = l.session;
    known = l.known;
    splits = l.splits;
    own = l.own;
    visits = l.visits;
    ends_are = l.ends_are;
    chain = l.chain;
    tends = l.tends;
    served = l.served;
    kept = λ i x at. l.kept i x (subst (λ ks. slice_get ks i ≡ Some x) kept at);
    counted = All-weaker (IsCounted (sums_of c)) (IsCounted (sums_of c')) (counted_on c c' more) ends l.counted;
    split = l.split;
    failed = failed;
    swept = l.swept;
  }

  -- a link that came back raised the numbers
  raised_by : (c : CountState L) (session : SessionNo) (link : L) (after : LinkState) → GoesFurther c (after_back c session link after)
  raised_by c session link after = record {
    read_faults = λ some. some_raised c.read_faults after.source.faults some;
    write_faults = λ some. some_raised c.write_faults after.sink.faults some;
    most = omega arith;
  }
    where
      some_raised : (a b : ℕ) → 0 < a → 0 < raised b a
      some_raised a b some = omega (arith, some)

  new_counted : (P : Type 0) (s : Attributes) (before : LinkState) (c : CountState L) (session : SessionNo) (link : L) (after : LinkState) (calls calls' : ℕ) (e seat' : SeatState) (end : SessionEnd)
      → SessionEnds P s before after (board_of 1 s calls e) (board_of 1 s calls' seat') end → IsCounted (sums_of (after_back c session link after)) end
  new_counted P s before c session link after calls calls' e seat' Eof x = tt
  new_counted P s before c session link after calls calls' e seat' Quit x = tt
  new_counted P s before c session link after calls calls' e seat' (Split i j) x = tt
  new_counted P s before c session link after calls calls' e seat' NoMemory x = tt
  new_counted P s before c session link after calls calls' e seat' ReadFault x = risen before.source.faults after.source.faults c.read_faults x.0
    where
      risen : (a b d : ℕ) → HasRisen a b → 0 < raised b d
      risen a b d h = omega (arith, h)
  new_counted P s before c session link after calls calls' e seat' WriteFault x = risen before.sink.faults after.sink.faults c.write_faults x.0
    where
      risen : (a b d : ℕ) → HasRisen a b → 0 < raised b d
      risen a b d h = omega (arith, h)
  new_counted P s before c session link after calls calls' e seat' Spent x = risen before.source.taken after.source.taken c.most x.0
    where
      risen : (a b d : ℕ) → HasRisenBy SOURCE_BYTES a b → SOURCE_BYTES ≤ max d b
      risen a b d h = omega (arith, h)

  module _ (s : Attributes) (boxes : List TableId) (first last e seat' : SeatState) (c : CountState L) (ends : List SessionEnd) (session : SessionNo) (link : L) (before : LinkState) (end : SessionEnd) (calls asked asked' : ℕ)
      (l : LinksServed told s boxes first last c ends calls asked) (sound : IsSound c) (ent : Enters s (length boxes) (length ends) first last e) (is : session.0 ≡ e.session) (kept_seat : IsKeptSeat boxes e)
      (unused : IsUnused before) (served : SessionServed s asked asked' e seat' before (told link) end)
    where
      abbrev after : LinkState
      after = told link

      abbrev c' : CountState L
      c' = after_back c session link after

      abbrev ends' : List SessionEnd
      ends' = ends ++ end ∷ []

      abbrev n : ℕ
      n = length ends

      one_more : length ends' ≡ n + 1
      one_more = omega (arith, length-append ends (end ∷ []))

      -- what was served now
      abbrev visit : SeatVisit
      visit = record { entered = e; left = seat'; asked_before = asked; asked_after = asked'; link = after; end = end }

      abbrev visits' : List SeatVisit
      visits' = l.visits ++ visit ∷ []

      many : length l.visits ≡ n
      many = as_many told s boxes first last c ends calls asked l

      new_visit : LinkServed s boxes e.session first seat' visit
      new_visit = record {
        unused = before;
        is_unused = unused;
        somebody = kept_seat.somebody;
        session_is = refl;
        seat_is = kept_seat.seat_is ∙ sym served.board.goes.seat;
        known = subst (λ g. BeginsWith g.known first.glass.known) (sym ent.known) l.known;
        served = served;
        went_on = went_nowhere e.session seat';
      }

      -- one that was served before
      old_visit : (k : ℕ) (v : SeatVisit) → 0 < n → LinkServed s boxes k first last v → LinkServed s boxes k first seat' v
      old_visit k v some o = record {
        unused = o.unused;
        is_unused = o.is_unused;
        somebody = o.somebody;
        session_is = o.session_is;
        seat_is = o.seat_is ∙ sym (seat_same s (length boxes) n first last e seat' asked asked' ent served.board);
        known = o.known;
        served = o.served;
        went_on = went_further s (length boxes) n first last e seat' asked asked' ent served.board k v.left
            (λ same. absurd (omega (arith, same, o.went_on.session, ent.later some, o.session_is, o.served.board.goes.session))) o.went_on;
      }

      served_there : (i : ℕ) (v : SeatVisit) → (slice_get l.visits i ≡ Some v) ⊎ ((i ≡ length l.visits) × (visit ≡ v)) → LinkServed s boxes (session_at (length boxes) first.session i) first seat' v
      served_there i v (inl at) = old_visit (session_at (length boxes) first.session i) v (omega (arith, slice_get_within l.visits i v at, many)) (l.served i v at)
      served_there i v (inr (i_is, v_is)) =
          subst (λ w. LinkServed s boxes (session_at (length boxes) first.session i) first seat' w) v_is
          (subst (λ k. LinkServed s boxes k first seat' visit) (ent.session ∙ ap (session_at (length boxes) first.session) (sym many ∙ sym i_is)) new_visit)

      kept_before : (b : Bool) → c.keeps ≡ b → (i : ℕ) (x : SessionNo × L) → slice_get (put_last b c.kept session link) i ≡ Some x → (slice_get c.kept i ≡ Some x) ⊎ ((i ≡ n) × ((session, link) ≡ x))
      kept_before false keeps i x at = inl at
      kept_before true keeps i x at = go (in_push c.kept (session, link) i x at)
        where
          as_many_kept : length c.kept ≡ n
          as_many_kept = sound.kept ∙ (ap (λ b. if b then c.back else 0) keeps ∙ l.back)

          go : (slice_get c.kept i ≡ Some x) ⊎ ((i ≡ length c.kept) × ((session, link) ≡ x)) → (slice_get c.kept i ≡ Some x) ⊎ ((i ≡ n) × ((session, link) ≡ x))
          go (inl at) = inl at
          go (inr (i_is, x_is)) = inr (i_is ∙ as_many_kept, x_is)

      kept_there : (i : ℕ) (x : SessionNo × L) → (slice_get c.kept i ≡ Some x) ⊎ ((i ≡ n) × ((session, link) ≡ x)) → IsOfVisit told visits' i x
      kept_there i x (inl at) =
          let k = l.kept i x at in
          record { visit = k.visit; there = in_front l.visits (visit ∷ []) i k.visit k.there; session = k.session; link = k.link }
      kept_there i x (inr (i_is, x_is)) = subst (λ y. IsOfVisit told visits' i y) x_is (record {
        visit = visit;
        there = subst (λ j. slice_get visits' j ≡ Some visit) (many ∙ sym i_is) (at_last l.visits visit);
        session = sym is;
        link = refl;
      })

      pub one_served : (calls' : ℕ) → n + 1 ≤ calls' → LinksServed told s boxes first seat' c' ends' calls' asked'
      one_served calls' swept = record {
        back = ap (λ m. m + 1) l.back ∙ sym one_more;
        seat = seat_same s (length boxes) n first last e seat' asked asked' ent served.board ∙ l.seat;
        session = served.board.goes.session ∙ (ent.session ∙ ap (session_at (length boxes) first.session) (less n (length ends') one_more));
        known = BeginsWith-along seat'.glass.known last.glass.known first.glass.known (knows_more s (length boxes) n first last e seat' asked asked' ent served.board) l.known;
        splits = omega (arith, l.splits, served.board.goes.counts.splits, ent.splits);
        own = subst (λ m. AddsOfLinks (length boxes) m first seat') (sym one_more) (adds s (length boxes) n first last e seat' asked asked' ent served.board l.own);
        visits = visits';
        ends_are = ap (λ es. es ++ end ∷ []) l.ends_are ∙ sym (map-append (λ (v : SeatVisit). v.end) l.visits (visit ∷ []));
        chain = follows_on s (length boxes) first last l.visits visit l.chain (λ none. ent.same (sym many ∙ none)) (λ some. ent.next (omega (arith, some, many)));
        tends = asks_on 0 asked l.visits visit l.tends refl;
        served = λ i v at. served_there i v (in_push l.visits visit i v at);
        kept = λ i x at. kept_there i x (kept_before c.keeps refl i x at);
        counted = All-push (IsCounted (sums_of c')) ends end (All-weaker (IsCounted (sums_of c)) (IsCounted (sums_of c')) (counted_on c c' (raised_by c session link after)) ends l.counted)
            (new_counted _ s before c session link after asked asked' e seat' end served.session);
        split = All-push (λ (x : SessionEnd). is_split_end x ≡ true → HasRisen first.splits seat'.splits) ends end
            (All-weaker (λ (x : SessionEnd). is_split_end x ≡ true → HasRisen first.splits last.splits) (λ (x : SessionEnd). is_split_end x ≡ true → HasRisen first.splits seat'.splits)
            (λ x f y. risen_on first.splits last.splits e.splits seat'.splits (f y) ent.splits served.board.goes.counts.splits) ends l.split)
            (λ y. risen_since first.splits last.splits e.splits seat'.splits l.splits ent.splits (splits_of _ s before after asked asked' e seat' end served.session y));
        failed = λ some. (raised_by c session link after).read_faults (l.failed some);
        swept = omega (arith, one_more, swept);
      }
        where
          less : (n m : ℕ) → m ≡ n + 1 → n ≡ m - 1
          less n m is = omega (arith, is)

          risen_on : (a b d f : ℕ) → HasRisen a b → d ≡ b → d ≤ f → HasRisen a f
          risen_on a b d f h is le = omega (arith, h, is, le)

          risen_since : (a b d f : ℕ) → a ≤ b → d ≡ b → HasRisen d f → HasRisen a f
          risen_since a b d f le is h = omega (arith, h, is, le)
