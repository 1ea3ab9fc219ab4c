-- A worker begins, and draws links.
use Rattle.std.proofs.Common.{◌≡◌, ℕ, zero, suc, ◌+◌, ◌-◌, ◌*◌, ◌<◌, ◌≤◌, ◌==◌, Bool, true, false, IfSome, Some, List, [], length, map, slice_get, Result, Err, Option, refl, sym, ap, subst, arith}
use Rattle.std.specs.List.{All, range_with_len}
use Rattle.std.proofs.lemmas.List.{append-nil}
use Rattle.std.proofs.lemmas.List.Elements.{All-nil}
use Rattle.std.proofs.lemmas.List.FromFn.{length-range_with_len}
use Rattle.std.proofs.lemmas.Nat.{mul-le}
use Rattle.std.proofs.lemmas.Option.{slice_get_within}
use Rattle.atomic_table.specs.Seated.{TableId}
use Rattle.be_base.specs.Counts.{raised, HasRisen}
use Rattle.be_base.specs.declared.limits.TheConstants.{LINKS, SEATS}
use Rattle.be_base.proofs.Beginnings.{BeginsWith-same}
use Rattle.be_io.specs.Outside.{LinkState}
use Rattle.be_io.specs.declared.faults.AcceptFault.{AcceptFault}
use Rattle.be_io.specs.declared.faults.AcceptFault.TheVariants as accept
use Rattle.be_model.specs.Schemas.{Attributes}
use Rattle.be_change.specs.History.{Entry}
use Rattle.be_desk.specs.Seats.{SeatState, first_seat}
use Rattle.be_desk.specs.declared.desk.TheConstants.{SESSIONS_END}
use Rattle.be_door.specs.Counts.{CountState, sums_of, new_count, after_given, after_failed, after_refused, after_end}
use Rattle.be_protocol.specs.declared.ends.SessionEnd.{SessionEnd}
use Rattle.be_hub.specs.Files.{is_split_end}
use Rattle.be_hub.specs.Links.{MayStart, session_at, IsCounted, IsOfLink, LinksServed}
use Rattle.be_hub.specs.declared.links.TheConstants.{FIRST_END}
use Rattle.be_hub.proofs.Ends.{at_its_place}
use Rattle.be_hub.proofs.LinksServed.{accepted}
use Rattle.be_hub.proofs.Pairs.{get_map}
use Rattle.be_hub.proofs.Places.{all_from_places}

module _ {L : Type 0} (told : L → LinkState) (s : Attributes) (boxes : List TableId) where
  -- nothing was served yet
  pub none_served : (first : SeatState) (count : CountState L) (of : TableId) (links : ℕ) (keeps : Bool) (ends : List SessionEnd) (calls : ℕ) → count ≡ new_count of links keeps → ends ≡ [] → LinksServed told s boxes first first count ends calls 0
  none_served first count of links keeps ends calls is none =
      subst (λ es. LinksServed told s boxes first first count es calls 0) (sym none)
      (subst (λ c. LinksServed told s boxes first first c [] calls 0) (sym is)
      (record {
        back = refl;
        seat = refl;
        session = plus_none first.session (length boxes);
        known = BeginsWith-same first.glass.known;
        splits = omega arith;
        own = ([], sym (append-nil first.own), All-nil (IsOfLink (length boxes) first.session 0));
        visits = [];
        ends_are = refl;
        chain = refl;
        tends = refl;
        served = λ i v at. absurd cc;
        kept = λ i x at. absurd cc;
        counted = All-nil (IsCounted (sums_of (new_count {L = L} of links keeps)));
        split = All-nil (λ (x : SessionEnd). is_split_end x ≡ true → HasRisen first.splits first.splits);
        failed = λ some. absurd (omega (arith, some));
        swept = omega arith;
      }))
    where
      plus_none : (a q : ℕ) → a ≡ a + 0 * q
      plus_none a q = omega arith

  module _ (first last : SeatState) (c c' : CountState L) (ends : List SessionEnd) (calls asked : ℕ) (l : LinksServed told s boxes first last c ends calls asked) where
    pub was_given : c' ≡ after_given c → LinksServed told s boxes first last c' ends calls asked
    was_given is = subst (λ x. LinksServed told s boxes first last x ends calls asked) (sym is)
        (accepted told s boxes first last c (after_given c) ends calls asked l refl refl (record { read_faults = λ h. h; write_faults = λ h. h; most = omega arith }) l.failed)

    pub has_ended : c' ≡ after_end c → LinksServed told s boxes first last c' ends calls asked
    has_ended is = subst (λ x. LinksServed told s boxes first last x ends calls asked) (sym is)
        (accepted told s boxes first last c (after_end c) ends calls asked l refl refl (record { read_faults = λ h. h; write_faults = λ h. h; most = omega arith }) l.failed)

    was_failed : c' ≡ after_failed c → LinksServed told s boxes first last c' ends calls asked
    was_failed is = subst (λ x. LinksServed told s boxes first last x ends calls asked) (sym is)
        (accepted told s boxes first last c (after_failed c) ends calls asked l refl refl (record { read_faults = λ h. one_more c.read_faults; write_faults = λ h. h; most = omega arith }) (λ some. one_more c.read_faults))
      where
        one_more : (n : ℕ) → 0 < raised 1 n
        one_more n = omega arith

    was_refused : c' ≡ after_refused c → LinksServed told s boxes first last c' ends calls asked
    was_refused is = subst (λ x. LinksServed told s boxes first last x ends calls asked) (sym is)
        (accepted told s boxes first last c (after_refused c) ends calls asked l refl refl (record { read_faults = λ h. h; write_faults = λ h. h; most = omega arith }) l.failed)

    -- an accept that gave no link leaves what was served
    pub none_given : {X : Type 0} (r : Result X AcceptFault) (f : AcceptFault) → r ≡ Err f → (r ≡ Err accept.Failed → c' ≡ after_failed c) → (r ≡ Err accept.NoMemory → c' ≡ after_refused c) → LinksServed told s boxes first last c' ends calls asked
    none_given r accept.Failed is failed refused = was_failed (failed is)
    none_given r accept.NoMemory is failed refused = was_refused (refused is)

-- what such an accept counts
pub one_less : {L X : Type 0} (c c' : CountState L) (r : Result X AcceptFault) (f : AcceptFault) → r ≡ Err f → (r ≡ Err accept.Failed → c' ≡ after_failed c) → (r ≡ Err accept.NoMemory → c' ≡ after_refused c)
    → (c'.of ≡ c.of) × (c'.keeps ≡ c.keeps) × (c'.ended ≡ c.ended) × (c'.given ≡ c.given) × (c'.back ≡ c.back) × (c'.links ≡ c.links) × (c'.failed + c'.refused ≡ c.failed + c.refused + 1)
one_less {L} c c' r accept.Failed is failed refused = let e = failed is in (
  ap (λ (x : CountState L). x.of) e,
  ap (λ (x : CountState L). x.keeps) e,
  ap (λ (x : CountState L). x.ended) e,
  ap (λ (x : CountState L). x.given) e,
  ap (λ (x : CountState L). x.back) e,
  ap (λ (x : CountState L). x.links) e,
  omega (arith, ap (λ (x : CountState L). x.failed) e, ap (λ (x : CountState L). x.refused) e),
)
one_less {L} c c' r accept.NoMemory is failed refused = let e = refused is in (
  ap (λ (x : CountState L). x.of) e,
  ap (λ (x : CountState L). x.keeps) e,
  ap (λ (x : CountState L). x.ended) e,
  ap (λ (x : CountState L). x.given) e,
  ap (λ (x : CountState L). x.back) e,
  ap (λ (x : CountState L). x.links) e,
  omega (arith, ap (λ (x : CountState L). x.failed) e, ap (λ (x : CountState L). x.refused) e),
)

-- sessions never come to an end
pub few_sessions : (q n a b : ℕ) → q ≤ SEATS → n ≤ LINKS → a < FIRST_END → b ≡ session_at q a (n - 1) → b < SESSIONS_END
few_sessions q n a b few links start is =
    let most : (n - 1) * q ≤ LINKS * SEATS = mul-le (n - 1) q LINKS SEATS (omega (arith, links)) few in
    omega (arith, is, most, start)

pub some_said : {X : Type 0} (A : Type 0) (o : Option X) (x : X) → o ≡ Some x → IfSome o (λ _. A) → A
some_said {X} A o x is p = subst (λ (y : Option X). IfSome y (λ _. A)) is p

pub some_from : (n : ℕ) → (n == 0) ≡ false → 0 < n
some_from zero is = absurd cc
some_from (suc n) is = omega arith

-- the seats at the beginning may start
pub may_start : (opening : List Entry) (boxes : List TableId) (seats : List SeatState) → seats ≡ map (first_seat opening boxes) (range_with_len 0 (length boxes)) → length boxes ≤ SEATS → All MayStart seats
may_start opening boxes seats is few = all_from_places MayStart seats (λ i x at.
    let k = get_map (first_seat opening boxes) (range_with_len 0 (length boxes)) i x (subst (λ l. slice_get l i ≡ Some x) is at) in
    let within = slice_get_within (range_with_len 0 (length boxes)) i k.0 k.1 in
    subst MayStart k.2 (refl, omega (arith, at_its_place (length boxes) i k.0 k.1, within, length-range_with_len 0 (length boxes), few)))
