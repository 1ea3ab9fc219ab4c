-- How the passes of all seats are joined, and what they show then.
use Rattle.std.proofs.Common.{◌≡◌, ◌≢◌, ℕ, zero, suc, ◌+◌, ◌<◌, ◌≤◌, eqb, eq-eqb, ne_eqb, Bool, true, false, ◌||◌, if◌then◌else◌, List, [], ◌∷◌, ◌++◌, length, map, set, refl, sym, ap, ◌∙◌, subst, ⊎_elim, arith}
use Rattle.std.specs.Prelude.{All, Any, Contains}
use Rattle.std.proofs.lemmas.List.{map-append, length-map, length-append}
use Rattle.std.proofs.lemmas.List.Elements.{All-nil, All-cons, All-push, All-weaker, All-contains, Contains-append_left, Contains-append_right, Contains-get_or}
use mathlib.Core.Option.{some, some-injective}
use mathlib.Core.Logic.{dite}
use native.Mathlib.Decide.{ℕ_discrete}
use lib.ListN.{get_elem?, get_or, get_or-append, get_or-map}
use Rattle.std.proofs.Math.Seq.{get_or-append_seam}
use Rattle.atomic_table.specs.Seated.{TableId}
use Rattle.crossbeam_queue.specs.Passes.{view}
use Rattle.crossbeam_queue.proofs.Lists.{at_set, at_index, set_else}
use Rattle.be_model.specs.Schemas.{Attributes}
use Rattle.be_mail.specs.Letters.{Posting, IsFor, letters_from}
use Rattle.be_mail.specs.Mailbox.{BoxId, box_id, Mailbox, all_of}
use Rattle.be_mail.specs.Rule.{SeatPuts, HandState, hand, both, Sees}
use Rattle.be_mail.specs.Boxes.{Box, name_of}
use Rattle.be_mail.specs.Passes.{BoxPass, Passes, put_of, taken_of, box_of, passes_of, AreHandsOf, Agrees}
use Rattle.be_mail.specs.Settled.{AreAll, IsKept, AreKept, WasPut, TakenWerePut, CanJoin, CanJoinAll, IsJoined, AreJoined, entry_at, IsSum, AreSums}
use Rattle.be_mail.proofs.Places.{within, some_at, map_same, same_at, All-both}
use Rattle.be_mail.proofs.Senders.{among}
use Rattle.be_mail.proofs.Hands.{put_here, taken_here, same_box, same_length}

as_many : (ps os : List BoxPass) (mail : List TableId) → map box_of ps ≡ mail → map box_of os ≡ mail → length os ≡ length ps
as_many ps os mail a b = sym (length-map os box_of) ∙ ap length (b ∙ sym a) ∙ length-map ps box_of

-- the seat shows what was taken where the mailbox is its own
own_taken : (seat w : ℕ) (ps : List BoxPass) (fulls empties : ℕ) (p : BoxPass) → get_elem? ps w ≡ some p → seat ≡ w → (passes_of seat ps fulls empties).taken ≡ taken_of p
own_taken seat w ps fulls empties p here own = ap (λ i. get_or (map taken_of ps) i []) own ∙ taken_here w ps p here

-- one seat alone
pub first_sum : (mail : List TableId) (seat : ℕ) (ps : List BoxPass) (fulls empties : ℕ) → map box_of ps ≡ mail → AreHandsOf seat ps → AreSums mail (passes_of seat ps fulls empties ∷ []) ps
first_sum mail seat ps fulls empties same hands =
    let q : Passes = passes_of seat ps fulls empties in
    record {
      boxes = same;
      nonempty = omega arith;
      within = All-cons (λ (q : Passes). q.seat < length mail) q [] (let n = ap length same in let m = length-map ps box_of in let h = hands.own in omega arith) (All-nil (λ (q : Passes). q.seat < length mail));
      each = λ w p e. let h = hands.each w p e in
          let Own : Passes → Type 0 = λ q. q.seat ≡ w → (eqb w seat ≡ true) × (q.taken ≡ taken_of p) in
          record {
            home = h.home;
            takes = eqb w seat;
            taken = taken_of p;
            shows = h.shows ∙ ap (λ l. hand (box_id (box_of p) w) ((seat, l) ∷ []) (eqb w seat) (taken_of p)) (sym (put_here seat ps fulls empties w p e));
            own = All-cons Own q [] (λ own. (eq-eqb w seat (sym own), own_taken seat w ps fulls empties p e own)) (All-nil Own);
          };
    }

pub can_join : (mail : List TableId) (qs : List Passes) (ps os : List BoxPass) (seat : ℕ) → AreSums mail qs ps → map box_of os ≡ mail → AreHandsOf seat os → CanJoinAll ps os
can_join mail qs ps os seat sums others hands w p o here there =
    let s = sums.each w p here in
    let h = hands.each w o there in
    record {
      home = s.home;
      other_home = h.home;
      place = ap (λ (v : HandState). v.at) h.shows ∙ ap (λ t. box_id t w) (same_at box_of box_of os ps w o p (others ∙ sym sums.boxes) there here) ∙ sym (ap (λ (v : HandState). v.at) s.shows);
    }

-- one seat more
pub next_sum : (mail : List TableId) (qs : List Passes) (ps os ps' : List BoxPass) (seat fulls empties : ℕ) → AreSums mail qs ps → AreHandsOf seat os → All (λ (q : Passes). q.seat ≢ seat) qs → map box_of os ≡ mail → map box_of ps' ≡ mail → AreJoined ps os ps'
    → AreSums mail (qs ++ passes_of seat os fulls empties ∷ []) ps'
next_sum mail qs ps os ps' seat fulls empties sums hands fresh others same joined = record {
  boxes = same;
  nonempty = let n = length-append qs (new ∷ []) in let m = sums.nonempty in more (length qs) (length (qs ++ new ∷ [])) n m;
  within = All-push (λ (q : Passes). q.seat < length mail) qs new sums.within (let n = ap length others in let m = length-map os box_of in let h = hands.own in omega arith);
  each = one;
}
  where
    more : (a b : ℕ) → b ≡ a + 1 → 0 < a → 0 < b
    more a b e h = omega arith

    new : Passes
    new = passes_of seat os fulls empties

    or_true : (b : Bool) → b || true ≡ true
    or_true true = refl
    or_true false = refl

    one : (w : ℕ) (p' : BoxPass) → get_elem? ps' w ≡ some p' → IsSum (qs ++ new ∷ []) w p'
    one w p' at =
        let inside = within ps' w p' at in
        let n = as_many ps' ps mail same sums.boxes in
        let m = as_many ps' os mail same others in
        let a = some_at ps w (omega arith) in
        let b = some_at os w (omega arith) in
        let p = a.0 in
        let o = b.0 in
        let s = sums.each w p a.1 in
        let h = hands.each w o b.1 in
        let j = joined w p o p' a.1 b.1 at in
        let puts : (seat, put_of o) ≡ entry_at w new = ap (λ l. (seat, l)) (sym (put_here seat os fulls empties w o b.1)) in
        let of : box_of p ≡ box_of p' = same_at box_of box_of ps ps' w p p' (sums.boxes ∙ sym same) a.1 at in
        let entries = ap (λ x. map (entry_at w) qs ++ x ∷ []) puts ∙ sym (map-append (entry_at w) qs (new ∷ [])) in
        let takes : Bool = s.takes || eqb w seat in
        let taken : List Posting = if eqb w seat then taken_of o else s.taken in
        let Own : Passes → Type 0 = λ q. q.seat ≡ w → (takes ≡ true) × (q.taken ≡ taken) in
        record {
          home = j.home;
          takes = takes;
          taken = taken;
          shows = j.shows ∙ (λ i. both (s.shows i) (h.shows i)) ∙ (λ i. hand (box_id (of i) w) (entries i) takes taken);
          own = All-push Own qs new
              (All-both (λ (q : Passes). q.seat ≢ seat) (λ (q : Passes). q.seat ≡ w → (s.takes ≡ true) × (q.taken ≡ s.taken)) Own
              (λ q other is own. let k = is own in (ap (λ b. b || eqb w seat) k.0, k.1 ∙ sym (ap (λ b. if b then taken_of o else s.taken) (ne_eqb w seat (λ e. other (own ∙ e))))))
              qs fresh s.own)
              (λ own. let on = eq-eqb w seat (sym own) in (ap (λ b. s.takes || b) on ∙ or_true s.takes, own_taken seat w os fulls empties o b.1 own ∙ sym (ap (λ b. if b then taken_of o else s.taken) on)));
        }

-- a look leaves what the passes show
pub looked : (mail : List TableId) (qs : List Passes) (ps : List BoxPass) (w : ℕ) (p p' : BoxPass) → AreSums mail qs ps → get_elem? ps w ≡ some p → box_of p' ≡ box_of p → p'.me.1 ≡ p.me.1 → view p' ≡ view p → AreSums mail qs (set ps w p')
looked mail qs ps w p p' sums here box none same = record {
  boxes = map_same box_of ps w p p' here box ∙ sums.boxes;
  nonempty = sums.nonempty;
  within = sums.within;
  each = λ i q e. ⊎_elim
      (λ (t : (i ≡ w) × (p' ≡ q)). subst (λ (y : ℕ × BoxPass). IsSum qs y.0 y.1) (λ k. (sym t.0 k, t.1 k)) (let s = sums.each w p here in record { home = none ∙ s.home; takes = s.takes; taken = s.taken; shows = same ∙ s.shows ∙ ap (λ t. hand (box_id t w) (map (entry_at w) qs) s.takes s.taken) (sym box); own = s.own }))
      (λ (t : (i ≢ w) × (get_elem? ps i ≡ some q)). sums.each i q t.1)
      (at_set ps w i p' q e);
}

-- a sum shows some seat
pub some_seat : (qs : List Passes) (w : ℕ) (p : BoxPass) → 0 < length qs → IsSum qs w p → (e : SeatPuts) × (es : List SeatPuts) × ((view p).puts ≡ e ∷ es)
some_seat [] w p many sum = absurd (omega arith)
some_seat (q ∷ qs) w p many sum = (entry_at w q, map (entry_at w) qs, ap (λ (v : HandState). v.puts) sum.shows)

-- what a look shows
pub kept : (schema : Attributes) (seats : ℕ) (found : BoxId → Mailbox → Type 0) (mail : List TableId) (qs : List Passes) (w : ℕ) (p : BoxPass) → get_elem? mail w ≡ some (box_of p) → IsSum qs w p → (queued : List Posting) × Sees schema seats found (view p) queued
    → IsKept schema seats found mail qs w
kept schema seats found mail qs w p here sum (queued, h) =
    let s = subst (λ (v : HandState). Sees schema seats found v queued) sum.shows h in
    let Put : SeatPuts → Type 0 = λ e. letters_from e.0 (s.taken ++ queued) ≡ e.1 in
    record {
      state = record { taken = s.taken; queued = queued };
      seen = record { queue = box_of p; named = here; receipt = s.receipt };
      sound = record { only = s.only; room = s.room };
      agree = All-both (λ (q : Passes). Put (entry_at w q)) (λ (q : Passes). q.seat ≡ w → (sum.takes ≡ true) × (q.taken ≡ sum.taken)) (Agrees w (record { taken = s.taken; queued = queued }))
          (λ q put own. record { put = put; taken = λ e. let k = own e in s.own k.0 ∙ sym k.1 })
          qs
          (All-unmap Put (entry_at w) qs s.puts)
          sum.own;
    }
  where
    All-unmap : {A B : Type 0} (P : B → Type 0) (f : A → B) (l : List A) → All P (map f l) → All (λ a. P (f a)) l
    All-unmap P f l all i d h = subst P (get_or-map f l i d) (all i (f d) (let n = length-map l f in omega arith))

pub taken_were_put : (schema : Attributes) (seats : ℕ) (found : BoxId → Mailbox → Type 0) (mail : List TableId) (qs : List Passes) → length mail ≡ seats → AreAll mail qs → All (λ (q : Passes). q.seat < length mail) qs → AreKept schema seats found mail qs → TakenWerePut qs
taken_were_put schema seats found mail qs n all less kept =
    All-weaker (λ (q : Passes). (q.seat < length mail) × Contains qs q) (λ (q : Passes). All (WasPut qs q.seat) q.taken) one qs
    (λ i d h. (less i d h, Contains-get_or qs i d h))
  where
    sender : (w : ℕ) (m : Mailbox) → All (Agrees w m) qs → (x : Posting) → Contains (all_of m) x → Any (λ (p : Passes). p.seat ≡ x.from) qs → WasPut qs w x
    sender w m agree x here (k, p, h, is, own) =
        let a = subst (Agrees w m) is (agree k p h) in
        (k, p, h, is, (own, subst (λ l. Contains l x.letter) (ap (λ j. letters_from j (all_of m)) (sym own) ∙ a.put) (among (all_of m) x here)))

    one : (q : Passes) → (q.seat < length mail) × Contains qs q → All (WasPut qs q.seat) q.taken
    one q (h, there) i d within =
        let k = kept q.seat (omega arith) in
        let m = k.state in
        let taken : m.taken ≡ q.taken = (All-contains (Agrees q.seat m) qs q k.agree there).taken refl in
        let x = get_or q.taken i d in
        let here : Contains (all_of m) x = Contains-append_left m.taken m.queued x (subst (λ l. Contains l x) (sym taken) (Contains-get_or q.taken i d within)) in
        let from = (All-contains (IsFor schema seats q.seat) (all_of m) x k.sound.only here).from in
        sender q.seat m k.agree x here (all.seats x.from (omega arith))

-- joining in progress
pub joined_more : (ps os now : List BoxPass) (n : ℕ) (p o p' : BoxPass) → get_elem? ps n ≡ some p → get_elem? os n ≡ some o → IsJoined p o p'
    → ((w : ℕ) (a b c : BoxPass) → get_elem? ps w ≡ some a → get_elem? os w ≡ some b → get_elem? now w ≡ some c → w < n → IsJoined a b c)
    → (w : ℕ) (a b c : BoxPass) → get_elem? ps w ≡ some a → get_elem? os w ≡ some b → get_elem? (set now n p') w ≡ some c → w < n + 1 → IsJoined a b c
joined_more ps os now n p o p' at_p at_o one before w a b c at_a at_b at_c h =
    ⊎_elim
    (λ (t : (w ≡ n) × (p' ≡ c)).
    let pa = some-injective p a (sym at_p ∙ ap (get_elem? ps) (sym t.0) ∙ at_a) in
    let ob = some-injective o b (sym at_o ∙ ap (get_elem? os) (sym t.0) ∙ at_b) in
    subst (IsJoined a b) t.1 (subst (λ y. IsJoined a y p') ob (subst (λ x. IsJoined x o p') pa one)))
    (λ (t : (w ≢ n) × (get_elem? now w ≡ some c)). before w a b c at_a at_b t.1 (dite (ℕ_discrete w n) (λ e. absurd (t.0 e)) (λ _. omega arith)))
    (at_set now n w p' c at_c)

pub kept_rest : (ps now : List BoxPass) (n : ℕ) (p' : BoxPass) → ((w : ℕ) (p : BoxPass) → get_elem? ps w ≡ some p → n ≤ w → get_elem? now w ≡ some p) → (w : ℕ) (p : BoxPass) → get_elem? ps w ≡ some p → n + 1 ≤ w → get_elem? (set now n p') w ≡ some p
kept_rest ps now n p' before w p at h = set_else now n w p' (λ e. omega arith) ∙ before w p at (omega arith)

-- the pass of the sum, the pass to be joined and the mailbox, at the place n
pub record Meets {Q A : Type 0} (ps os now : List BoxPass) (n : ℕ) (p o : BoxPass) (b : Box Q A) : Type 0 where
  pub at_p : get_elem? ps n ≡ some p
  pub at_now : get_elem? now n ≡ some p
  pub box_p : p.table_id ≡ name_of b
  pub box_o : o.table_id ≡ name_of b
  pub can : CanJoin p o

pub meets : {Q A : Type 0} (mail : List TableId) (ps os now : List BoxPass) (bs : List (Box Q A)) (n : ℕ) (p o : BoxPass) (b : Box Q A)
    → map box_of ps ≡ mail → map box_of os ≡ mail → map box_of now ≡ mail → map name_of bs ≡ mail → CanJoinAll ps os
    → ((w : ℕ) (p : BoxPass) → get_elem? ps w ≡ some p → n ≤ w → get_elem? now w ≡ some p)
    → get_elem? os n ≡ some o → p ≡ get_or now n p → b ≡ get_or bs n b → Meets ps os now n p o b
meets mail ps os now bs n p o b names_ps names_os names_now names_bs can rest at_o is_p is_b =
    let less = within os n o at_o in
    let l1 = as_many ps os mail names_ps names_os in
    let l2 = as_many now os mail names_now names_os in
    let l3 = same_length os bs (names_os ∙ sym names_bs) in
    let was = some_at ps n (omega arith) in
    let at_now = at_index now n p (omega arith) is_p in
    let at_b = at_index bs n b (omega arith) is_b in
    let same : was.0 ≡ p = some-injective was.0 p (sym (rest n was.0 was.1 (omega arith)) ∙ at_now) in
    let at_p = subst (λ x. get_elem? ps n ≡ some x) same was.1 in
    record {
      at_p = at_p;
      at_now = at_now;
      box_p = same_box now bs n p b (names_now ∙ sym names_bs) at_now at_b;
      box_o = same_box os bs n o b (names_os ∙ sym names_bs) at_o at_b;
      can = can n p o at_p at_o;
    }

pub of_mail : (mail : List TableId) (qs rest : List Passes) (q : Passes) → AreAll mail (qs ++ q ∷ rest) → q.boxes ≡ mail
of_mail mail qs rest q all = All-contains (λ (p : Passes). p.boxes ≡ mail) (qs ++ q ∷ rest) q all.boxes (Contains-append_right qs (q ∷ rest) q (0, omega arith, refl))

-- the seats before one are others
pub others : (mail : List TableId) (qs rest : List Passes) (q : Passes) → AreAll mail (qs ++ q ∷ rest) → All (λ (p : Passes). p.seat ≢ q.seat) qs
others mail qs rest q all i d h =
    subst (λ (y : Passes × Passes). y.0.seat ≢ y.1.seat) (λ k. (get_or-append qs (q ∷ rest) d i h k, get_or-append_seam qs q rest d k))
    (all.once i (length qs) d h (let n = length-append qs (q ∷ rest) in omega arith))

pub first_of_all : (mail : List TableId) (ps : List BoxPass) (seat fulls empties : ℕ) (q : Passes) → passes_of seat ps fulls empties ≡ q → q.boxes ≡ mail → AreHandsOf seat ps → AreSums mail (q ∷ []) ps
first_of_all mail ps seat fulls empties q is of hands =
    subst (λ x. AreSums mail (x ∷ []) ps) is (first_sum mail seat ps fulls empties (ap (λ (x : Passes). x.boxes) is ∙ of) hands)

pub next_of_all : (mail : List TableId) (qs : List Passes) (ps os ps' : List BoxPass) (seat fulls empties : ℕ) (q : Passes) → passes_of seat os fulls empties ≡ q → q.boxes ≡ mail → All (λ (p : Passes). p.seat ≢ q.seat) qs → AreHandsOf seat os
    → AreSums mail qs ps → map box_of ps' ≡ mail → AreJoined ps os ps' → AreSums mail (qs ++ q ∷ []) ps'
next_of_all mail qs ps os ps' seat fulls empties q is of fresh hands sums same joined =
    subst (λ x. AreSums mail (qs ++ x ∷ []) ps') is
    (next_sum mail qs ps os ps' seat fulls empties sums hands (subst (λ j. All (λ (p : Passes). p.seat ≢ j) qs) (ap (λ (x : Passes). x.seat) (sym is)) fresh) (ap (λ (x : Passes). x.boxes) is ∙ of) same joined)

-- passes in the order of their seats
pub all_in_order : (mail : List TableId) (qs : List Passes) → length qs ≡ length mail → ((seat : ℕ) (d : Passes) → seat < length qs → (get_or qs seat d).boxes ≡ mail) → ((seat : ℕ) (d : Passes) → seat < length qs → (get_or qs seat d).seat ≡ seat) → AreAll mail qs
all_in_order mail qs n boxes seat = record {
  boxes = boxes;
  once = λ i j d less within e. let a = seat i d (omega arith) in let b = seat j d within in absurd (omega arith);
  seats = λ j h. let t = some_place qs j (omega arith) in (j, t.0, omega arith, t.1, ap (λ (q : Passes). q.seat) (sym t.1) ∙ seat j t.0 (omega arith));
}
  where
    some_place : (qs : List Passes) (j : ℕ) → j < length qs → (q : Passes) × (get_or qs j q ≡ q)
    some_place [] j h = absurd (omega arith)
    some_place (q ∷ qs) zero h = (q, refl)
    some_place (q ∷ qs) (suc j) h = some_place qs j (omega arith)
