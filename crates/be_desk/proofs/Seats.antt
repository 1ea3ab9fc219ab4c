-- What a seat's type keeps, as the seat goes on.
use Rattle.std.proofs.Common.{◌≡◌, ℕ, zero, suc, ◌+◌, ◌-◌, ◌%◌, ◌<◌, ◌≤◌, ◌==◌, Bool, true, false, ◌||◌, cond, List, [], ◌∷◌, ◌++◌, length, refl, sym, ap, ◌∙◌, subst, arith, length-append}
use Rattle.std.specs.List.{All, list_any}
use Rattle.std.proofs.Math.Nat.{add-mod_left}
use Rattle.std.proofs.lemmas.Bool.{eq-eqb, eqb-true}
use Rattle.std.proofs.lemmas.List.Elements.{All-append, All-cons, All-head, All-nil, All-tail, All-weaker}
use Rattle.atomic_table.specs.Seated.{TableId}
use Rattle.be_base.specs.Lists.{BeginsWith}
use Rattle.be_change.specs.History.{Entry, session_of, is_leave_of, left, subscribed, unsubscribed}
use Rattle.be_model.specs.Letters.{PlainLetter}
use Rattle.be_mail.specs.Letters.{seat_of}
use Rattle.be_mail.specs.Passes.{Passes, AllPut}
use Rattle.be_board.specs.Word.{own_of, IsDelivered}
use Rattle.be_board.proofs.Delivered.{delivered_along}
use Rattle.be_published.specs.States.{GlassState, knowing}
use Rattle.be_desk.specs.Numbers.{Numbers}
use Rattle.be_desk.specs.Seats.{SeatState, is_over, placed_at, IsRecord, IsOfSeat, IsKeptSeat, IsSeat}
use Rattle.be_desk.proofs.Records.{own_of-snoc, over-snoc, placed_grown, record_grown}

-- what was delivered stays so
pub delivered_on : (h h' : List Entry) (q : Passes) → BeginsWith h' h → AllPut (IsDelivered h) q → AllPut (IsDelivered h') q
delivered_on h h' q more all =
    All-weaker (λ (letters : List PlainLetter). All (IsDelivered h) letters) (λ (letters : List PlainLetter). All (IsDelivered h') letters)
    (λ letters each. All-weaker (IsDelivered h) (IsDelivered h') (λ l d. delivered_along h h' l more d) letters each) q.puts all

-- the seat's reader looked again
pub kept_knowing : (boxes : List TableId) (s : SeatState) (g : GlassState) → BeginsWith g.known s.glass.known → IsKeptSeat boxes s → IsKeptSeat boxes (record s { glass = g })
kept_knowing boxes s g more k = record {
  boxes_are = k.boxes_are;
  somebody = k.somebody;
  seat_is = k.seat_is;
  own_all = k.own_all;
  delivered = delivered_on s.glass.known g.known s.passes more k.delivered;
}

pub seat_knowing : (boxes : List TableId) (serial : ℕ) (gone : Bool) (s : SeatState) (g : GlassState) → BeginsWith g.known s.glass.known → IsSeat boxes serial gone s → IsSeat boxes serial gone (record s { glass = g })
seat_knowing boxes serial gone s g more k = record { kept = kept_knowing boxes s g more k.kept; serial_is = k.serial_is; gone_is = k.gone_is }

-- one more change of its session was accepted
pub seat_grown : (boxes : List TableId) (serial : ℕ) (s : SeatState) (n : ℕ) (e : Entry) → IsSeat boxes serial (is_over s) s → is_over s ≡ false → session_of e ≡ s.session
    → IsSeat boxes (serial + 1) (is_leave_of s.session e) (record s { own = s.own ++ (n, e) ∷ [] })
seat_grown boxes serial s n e k present of =
    let P : ℕ × Entry → Type 0 = IsOfSeat (length boxes) s.passes.seat s.session in
    record {
      kept = record {
        boxes_are = k.kept.boxes_are;
        somebody = k.kept.somebody;
        seat_is = k.kept.seat_is;
        own_all = All-append P s.own ((n, e) ∷ []) k.kept.own_all
            (All-cons P (n, e) [] (record { seat_is = ap (seat_of (length boxes)) of ∙ k.kept.seat_is; somebody = omega (arith, of, k.kept.somebody); present = omega (arith, of) }) (All-nil P));
        delivered = k.kept.delivered;
      };
      serial_is = ap (λ (m : ℕ). m + 1) k.serial_is ∙ sym (ap (λ (l : List (ℕ × Entry)). length l) (own_of-snoc s.session n e s.own of) ∙ length-append (own_of s.session s.own) ((n, e) ∷ []));
      gone_is = sym (over-snoc s.session n e s.own present);
    }

-- the record and the seat, after a change of its session that was put last in the list
pub took_seat : (boxes : List TableId) (made whole made' : List Entry) (places places' : List ℕ) (serial : ℕ) (gone leaves : Bool) (s : SeatState) (e : Entry) → IsRecord made places → s.own ≡ placed_at made places → BeginsWith whole made
    → made' ≡ whole ++ e ∷ [] → places' ≡ places ++ length whole ∷ [] → leaves ≡ is_leave_of s.session e → is_over s ≡ false → session_of e ≡ s.session → IsSeat boxes serial gone s
    → IsRecord made' places' × (placed_at made' places' ≡ s.own ++ (length whole, e) ∷ []) × IsSeat boxes (serial + 1) leaves (record s { own = placed_at made' places' })
took_seat boxes made whole made' places places' serial gone leaves s e r own more is_made is_places is_leaves present of k =
    let long : made' ≡ (made ++ more.0) ++ e ∷ [] = is_made ∙ ap (λ (h : List Entry). h ++ e ∷ []) more.1 in
    let all : places' ≡ places ++ length (made ++ more.0) ∷ [] = is_places ∙ ap (λ (h : List Entry). places ++ length h ∷ []) more.1 in
    let grown : placed_at made' places' ≡ s.own ++ (length whole, e) ∷ [] =
    ap (λ (h : List Entry). placed_at h places') long
    ∙ (ap (placed_at ((made ++ more.0) ++ e ∷ [])) all
    ∙ (placed_grown made more.0 e places r.within
    ∙ (ap (λ (l : List (ℕ × Entry)). l ++ (length (made ++ more.0), e) ∷ []) (sym own) ∙ ap (λ (h : List Entry). s.own ++ (length h, e) ∷ []) (sym more.1)))) in
    let over : IsSeat boxes serial (is_over s) s = record { kept = k.kept; serial_is = k.serial_is; gone_is = refl } in (
      subst (λ (h : List Entry). IsRecord h places') (sym long) (subst (λ (ps : List ℕ). IsRecord ((made ++ more.0) ++ e ∷ []) ps) (sym all) (record_grown made more.0 e places r)),
      grown,
      subst (λ (l : List (ℕ × Entry)). IsSeat boxes (serial + 1) leaves (record s { own = l })) (sym grown)
          (subst (λ (b : Bool). IsSeat boxes (serial + 1) b (record s { own = s.own ++ (length whole, e) ∷ [] })) (sym is_leaves) (seat_grown boxes serial s (length whole) e over present of)),
    )

-- a session after all that the seat had has no change
later_none : (seats seat session next : ℕ) (own : List (ℕ × Entry)) → session < next → All (IsOfSeat seats seat session) own → own_of next own ≡ []
later_none seats seat session next [] lt all = refl
later_none seats seat session next (p ∷ ps) lt all =
    step (session_of p.1 == next) refl (All-head (IsOfSeat seats seat session) p ps all) (later_none seats seat session next ps lt (All-tail (IsOfSeat seats seat session) p ps all))
  where
    step : (b : Bool) → (session_of p.1 == next) ≡ b → IsOfSeat seats seat session p → own_of next ps ≡ [] → cond b (p ∷ own_of next ps) (own_of next ps) ≡ []
    step true is one rest = absurd (omega (arith, eqb-true (session_of p.1) next is, one.present, lt))
    step false is one rest = rest

none_left : (k : ℕ) (own : List (ℕ × Entry)) → own_of k own ≡ [] → list_any (λ (p : ℕ × Entry). is_leave_of k p.1) own ≡ false
none_left k [] none = refl
none_left k (p ∷ ps) none = step (session_of p.1 == k) refl none (none_left k ps)
  where
    not_leave : (e : Entry) → (session_of e == k) ≡ false → is_leave_of k e ≡ false
    not_leave (subscribed j n row) is = refl
    not_leave (unsubscribed j n name) is = refl
    not_leave (left j n) is = is

    step : (b : Bool) → (session_of p.1 == k) ≡ b → cond b (p ∷ own_of k ps) (own_of k ps) ≡ [] → (own_of k ps ≡ [] → list_any (λ (p : ℕ × Entry). is_leave_of k p.1) ps ≡ false)
        → (is_leave_of k p.1 || list_any (λ (p : ℕ × Entry). is_leave_of k p.1) ps) ≡ false
    step true is none rest = absurd cc
    step false is none rest = ap (λ (b : Bool). b || list_any (λ (p : ℕ × Entry). is_leave_of k p.1) ps) (not_leave p.1 is) ∙ rest none

present_later : (seats seat session next : ℕ) (own : List (ℕ × Entry)) → session ≤ next → All (IsOfSeat seats seat session) own → All (IsOfSeat seats seat next) own
present_later seats seat session next own le all =
    All-weaker (IsOfSeat seats seat session) (IsOfSeat seats seat next) (λ p one. record { seat_is = one.seat_is; somebody = one.somebody; present = omega (arith, one.present, le) }) own all

-- the session of the same seat that follows
next_seat : (seats session : ℕ) → 0 < session → seat_of seats (session + seats) ≡ seat_of seats session
next_seat seats session some =
    let less : (session + seats) - 1 ≡ seats + (session - 1) = omega (arith, some) in
    ap (λ (n : ℕ). n % seats) less ∙ add-mod_left seats (session - 1)

-- the seat's next session begins
pub seat_entered : (boxes : List TableId) (serial : ℕ) (gone : Bool) (s : SeatState) (seats next : ℕ) → 0 < seats → seats ≡ length boxes → next ≡ s.session + seats → IsSeat boxes serial gone s
    → IsSeat boxes 0 false (record s { session = next })
seat_entered boxes serial gone s seats next some count is k =
    let none : own_of next s.own ≡ [] = later_none (length boxes) s.passes.seat s.session next s.own (omega (arith, is, some)) k.kept.own_all in
    record {
      kept = record {
        boxes_are = k.kept.boxes_are;
        somebody = omega (arith, is, some);
        seat_is = ap (seat_of (length boxes)) (is ∙ ap (λ (n : ℕ). s.session + n) count) ∙ (next_seat (length boxes) s.session k.kept.somebody ∙ k.kept.seat_is);
        own_all = present_later (length boxes) s.passes.seat s.session next s.own (omega (arith, is)) k.kept.own_all;
        delivered = k.kept.delivered;
      };
      serial_is = sym (ap (λ (l : List (ℕ × Entry)). length l) none);
      gone_is = sym (none_left next s.own none);
    }
