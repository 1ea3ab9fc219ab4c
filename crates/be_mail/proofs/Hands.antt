-- The passes of one seat, and what a step at one mailbox does to them.
use Rattle.std.proofs.Common.{◌≡◌, ◌≢◌, ℕ, ◌<◌, eqb, eq-eqb, true, List, [], ◌∷◌, ◌++◌, length, map, set, refl, sym, ap, ◌∙◌, subst, ⊎_elim, arith}
use Rattle.std.proofs.lemmas.List.{map-set, length-map, length-set, get_or-set_same}
use Rattle.std.proofs.lemmas.List.Elements.{All-head}
use mathlib.Core.Option.{some}
use native.Mathlib.Nat.{mod-lt}
use lib.ListN.{get_elem?, get_or}
use Rattle.atomic_table.specs.Seated.{TableId}
use Rattle.crossbeam_queue.specs.Fifo.{Pushes, Pops, Learns}
use Rattle.crossbeam_queue.specs.Fifo as fifo
use Rattle.crossbeam_queue.specs.Passes.{view, ruled_capacity}
use Rattle.crossbeam_queue.proofs.Lists.{at_set, at_index, at_map}
use Rattle.be_base.specs.declared.limits.TheConstants.{BOX_LETTERS}
use Rattle.be_model.specs.Schemas.{Attributes}
use Rattle.be_model.specs.Letters.{PlainLetter}
use Rattle.be_mail.specs.Letters.{Posting, posting, IsFor, letters_from, seat_of}
use Rattle.be_mail.specs.Mailbox.{BoxId, box_id, Mailbox}
use Rattle.be_mail.specs.Rule.{HandState, SeatPuts, hand, with_put, with_taken, Delivers, Sees}
use Rattle.be_mail.specs.Boxes.{Box, name_of, AreBoxes}
use Rattle.be_mail.specs.Passes.{BoxPass, first_put, put_of, put_into, taken_of, box_of, IsHandOf, AreHandsOf, passes_of, after_put, after_fetch, Held}
use Rattle.be_mail.proofs.Places.{within, at_or, map_same, same_at}
use Rattle.be_mail.proofs.Moves as moves

module _ {Q A : Type 0} where
  pub same_length : (ps : List BoxPass) (bs : List (Box Q A)) → map box_of ps ≡ map name_of bs → length ps ≡ length bs
  same_length ps bs same = sym (length-map ps box_of) ∙ ap length same ∙ length-map bs name_of

  -- the passes are those of these mailboxes
  pub same_box : (ps : List BoxPass) (bs : List (Box Q A)) (w : ℕ) (p : BoxPass) (b : Box Q A) → map box_of ps ≡ map name_of bs → get_elem? ps w ≡ some p → get_elem? bs w ≡ some b → p.table_id ≡ name_of b
  same_box ps bs w p b same here there = same_at box_of name_of ps bs w p b same here there

-- a pass with this view is the seat's
pub is_hand : (seat w : ℕ) (p : BoxPass) (queue : TableId) (xs : List PlainLetter) (taken : List Posting) → box_of p ≡ queue → p.me.1 ≡ [] → view p ≡ hand (box_id queue w) ((seat, xs) ∷ []) (eqb w seat) taken → IsHandOf seat w p
is_hand seat w p queue xs taken of home is = record { home = home; shows = is ∙ (λ i. hand (box_id (sym of i) w) ((seat, first_put (sym is i).puts) ∷ []) (eqb w seat) (sym is i).taken) }

pub hands_set : (seat : ℕ) (ps : List BoxPass) (w : ℕ) (p : BoxPass) → AreHandsOf seat ps → IsHandOf seat w p → AreHandsOf seat (set ps w p)
hands_set seat ps w p all one = record {
  own = subst (λ n. seat < n) (sym (length-set ps w p)) all.own;
  each = λ i q e. ⊎_elim (λ (t : (i ≡ w) × (p ≡ q)). subst (λ (y : ℕ × BoxPass). IsHandOf seat y.0 y.1) (λ k. (sym t.0 k, t.1 k)) one)
      (λ (t : (i ≢ w) × (get_elem? ps i ≡ some q)). all.each i q t.1) (at_set ps w i p q e);
}

pub put_here : (seat : ℕ) (ps : List BoxPass) (fulls empties w : ℕ) (p : BoxPass) → get_elem? ps w ≡ some p → put_into w (passes_of seat ps fulls empties) ≡ put_of p
put_here seat ps fulls empties w p here = at_or (map put_of ps) w (put_of p) [] (at_map put_of ps w p here)

pub taken_here : (w : ℕ) (ps : List BoxPass) (p : BoxPass) → get_elem? ps w ≡ some p → get_or (map taken_of ps) w [] ≡ taken_of p
taken_here w ps p here = at_or (map taken_of ps) w (taken_of p) [] (at_map taken_of ps w p here)

-- a step that left the view
pub stays : (seat : ℕ) (ps : List BoxPass) (w : ℕ) (p p' : BoxPass) (fulls empties : ℕ) → get_elem? ps w ≡ some p → box_of p' ≡ box_of p → view p' ≡ view p → passes_of seat (set ps w p') fulls empties ≡ passes_of seat ps fulls empties
stays seat ps w p p' fulls empties here box same =
    let b = map_same box_of ps w p p' here box in
    let q = map_same put_of ps w p p' here (ap (λ (v : HandState). first_put v.puts) same) in
    let t = map_same taken_of ps w p p' here (ap (λ (v : HandState). v.taken) same) in
    λ i. record { boxes = b i; seat = seat; puts = q i; taken = get_or (t i) seat []; fulls = fulls; empties = empties }

-- a put
pub put_at : (seat : ℕ) (ps : List BoxPass) (w : ℕ) (p p' : BoxPass) (fulls empties : ℕ) (letter : PlainLetter) → get_elem? ps w ≡ some p → box_of p' ≡ box_of p → put_of p' ≡ put_of p ++ letter ∷ [] → taken_of p' ≡ taken_of p
    → passes_of seat (set ps w p') fulls empties ≡ after_put (passes_of seat ps fulls empties) w letter
put_at seat ps w p p' fulls empties letter here box put taken =
    let b = map_same box_of ps w p p' here box in
    let q = map-set put_of ps w p' ∙ ap (set (map put_of ps) w) (put ∙ ap (λ l. l ++ letter ∷ []) (sym (put_here seat ps fulls empties w p here))) in
    let t = map_same taken_of ps w p p' here taken in
    λ i. record { boxes = b i; seat = seat; puts = q i; taken = get_or (t i) seat []; fulls = fulls; empties = empties }

-- a fetch
pub fetched_at : (seat : ℕ) (ps : List BoxPass) (p p' : BoxPass) (fulls empties : ℕ) (x : Posting) → get_elem? ps seat ≡ some p → box_of p' ≡ box_of p → put_of p' ≡ put_of p → taken_of p' ≡ taken_of p ++ x ∷ []
    → passes_of seat (set ps seat p') fulls empties ≡ after_fetch (passes_of seat ps fulls empties) x
fetched_at seat ps p p' fulls empties x here box put taken =
    let b = map_same box_of ps seat p p' here box in
    let q = map_same put_of ps seat p p' here put in
    let less : seat < length (map taken_of ps) = let n = length-map ps taken_of in let h = within ps seat p here in omega arith in
    let t = ap (λ l. get_or l seat []) (map-set taken_of ps seat p') ∙ get_or-set_same (map taken_of ps) seat (taken_of p') [] less ∙ taken ∙ ap (λ l. l ++ x ∷ []) (sym (taken_here seat ps p here)) in
    λ i. record { boxes = b i; seat = seat; puts = q i; taken = t i; fulls = fulls; empties = empties }

module _ (schema : Attributes) (seats : ℕ) (found : BoxId → Mailbox → Type 0) where
  pub may_put : (n pass seat w : ℕ) (p : BoxPass) (letter : PlainLetter) → n ≡ BOX_LETTERS → IsHandOf seat w p → IsFor schema seats w (posting seat letter)
      → Pushes (Delivers schema seats found) n pass (view p) (posting seat letter) (λ v. v ≡ with_put (view p) (posting seat letter)) × Learns (Delivers schema seats found) pass (view p) (Sees schema seats found (view p))
  may_put n pass seat w p letter capacity is fit =
      subst (λ (v : HandState). Pushes (Delivers schema seats found) n pass v (posting seat letter) (λ u. u ≡ with_put v (posting seat letter)) × Learns (Delivers schema seats found) pass v (Sees schema seats found v)) (sym is.shows)
      (moves.puts schema seats found n pass (box_id (box_of p) w) (put_of p) (eqb w seat) (taken_of p) (posting seat letter) capacity fit, moves.learns schema seats found pass (hand (box_id (box_of p) w) ((seat, put_of p) ∷ []) (eqb w seat) (taken_of p)) (seat, put_of p) [] refl)

  pub may_fetch : (pass seat : ℕ) (p : BoxPass) → IsHandOf seat seat p
      → Pops (Delivers schema seats found) pass (view p) (λ x v. (v ≡ with_taken (view p) x) × IsFor schema seats (view p).at.seat x) × Learns (Delivers schema seats found) pass (view p) (Sees schema seats found (view p))
  may_fetch pass seat p is =
      let key : HandState → Type 0 = λ v. Pops (Delivers schema seats found) pass v (λ x u. (u ≡ with_taken v x) × IsFor schema seats v.at.seat x) × Learns (Delivers schema seats found) pass v (Sees schema seats found v) in
      subst key (sym is.shows)
      (subst (λ b. key (hand (box_id (box_of p) seat) ((seat, put_of p) ∷ []) b (taken_of p))) (sym (eq-eqb seat seat refl))
      (moves.fetches schema seats found pass (box_id (box_of p) seat) ((seat, put_of p) ∷ []) (taken_of p), moves.learns schema seats found pass (hand (box_id (box_of p) seat) ((seat, put_of p) ∷ []) true (taken_of p)) (seat, put_of p) [] refl))

  -- what a step showed of a mailbox
  pub held : (seat : ℕ) (ps : List BoxPass) (w : ℕ) (p : BoxPass) (fulls empties n : ℕ) → get_elem? ps w ≡ some p → IsHandOf seat w p → fifo.Held n (Sees schema seats found (view p)) → Held schema seats found (passes_of seat ps fulls empties) w n
  held seat ps w p fulls empties n here is (items, count, sees) =
      let t = subst (λ (v : HandState). Sees schema seats found v items) is.shows sees in
      record {
        state = record { taken = t.taken; queued = items };
        seen = record { queue = box_of p; named = at_map box_of ps w p here; receipt = t.receipt };
        count = count;
        sound = record { only = t.only; room = t.room };
        agrees = record {
          put = All-head (λ (e : SeatPuts). letters_from e.0 (t.taken ++ items) ≡ e.1) (seat, put_of p) [] t.puts ∙ sym (put_here seat ps fulls empties w p here);
          taken = λ own. t.own (eq-eqb w seat (sym own)) ∙ sym (subst (λ i. get_or (map taken_of ps) i [] ≡ taken_of p) (sym own) (taken_here w ps p here));
        };
      }

pub seat_of-below : (seats session : ℕ) → 0 < seats → seat_of seats session < seats
seat_of-below seats session some_seat = mod-lt _ some_seat

-- the pass p and the mailbox b at the place w
pub record At {Q A : Type 0} (seats seat : ℕ) (ps : List BoxPass) (w : ℕ) (p : BoxPass) (b : Box Q A) : Type 0 where
  pub here : get_elem? ps w ≡ some p
  pub box : p.table_id ≡ name_of b
  pub is_hand : IsHandOf seat w p
  pub room : ruled_capacity b ≡ BOX_LETTERS
  pub from : seat < seats

pub at_place : {Q A : Type 0} (seats seat : ℕ) (ps : List BoxPass) (bs : List (Box Q A)) (w : ℕ) (p : BoxPass) (b : Box Q A) → AreHandsOf seat ps → AreBoxes seats bs → map box_of ps ≡ map name_of bs → w < seats → p ≡ get_or ps w p → b ≡ get_or bs w b
    → At seats seat ps w p b
at_place {Q = Q} {A = A} seats seat ps bs w p b hands boxes same less at_p at_b =
    let n = same_length ps bs same in
    let here = at_index ps w p (let x = boxes.count in omega arith) at_p in
    let there = at_index bs w b (let x = boxes.count in omega arith) at_b in
    record {
      here = here;
      box = same_box ps bs w p b same here there;
      is_hand = hands.each w p here;
      room = subst (λ (c : Box Q A). ruled_capacity c ≡ BOX_LETTERS) (sym at_b) (boxes.room w b (let x = boxes.count in omega arith));
      from = let h = hands.own in let x = boxes.count in omega arith;
    }

module _ {Q A : Type 0} {seats seat : ℕ} {ps : List BoxPass} {bs : List (Box Q A)} {mail : List TableId} (hands : AreHandsOf seat ps) (boxes : AreBoxes seats bs) (of : map box_of ps ≡ mail) (named : map name_of bs ≡ mail) where
  -- where a letter is to be put
  pub at_session : (to session : ℕ) (p : BoxPass) (b : Box Q A) → to ≡ seat_of seats session → p ≡ get_or ps to p → b ≡ get_or bs to b → At seats seat ps to p b
  at_session to session p b is at_p at_b =
      at_place seats seat ps bs to p b hands boxes (of ∙ sym named) (subst (λ n. n < seats) (sym is) (seat_of-below seats session boxes.some)) at_p at_b

  -- the seat's own mailbox
  pub at_own : (p : BoxPass) (b : Box Q A) → p ≡ get_or ps seat p → b ≡ get_or bs seat b → At seats seat ps seat p b
  at_own p b at_p at_b =
      let same = of ∙ sym named in
      at_place seats seat ps bs seat p b hands boxes same (let h = hands.own in let n = same_length ps bs same in let x = boxes.count in omega arith) at_p at_b
