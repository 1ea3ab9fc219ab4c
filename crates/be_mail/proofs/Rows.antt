-- How the passes of new mailboxes are handed out.
use Rattle.std.proofs.Common.{◌≡◌, ◌≢◌, ℕ, zero, suc, ◌+◌, ◌-◌, ◌<◌, ◌≤◌, eqb, eq-eqb, ne_eqb, Bool, true, false, not, ◌&&◌, List, [], ◌∷◌, ◌++◌, length, map, replicate, set, refl, sym, ap, ◌∙◌, subst, ⊎_elim, arith}
use Rattle.std.proofs.lemmas.List.{map-append, length-map, length-set, length-replicate, get_or-replicate}
use mathlib.Core.Option.{some, some-ne-none, some-injective}
use mathlib.Core.Logic.{dite}
use native.Mathlib.Decide.{ℕ_discrete}
use lib.ListN.{get_elem?, get_or}
use Rattle.atomic_table.specs.Seated.{TableId}
use Rattle.crossbeam_queue.specs.Fifo.{Forks}
use Rattle.crossbeam_queue.specs.Passes.{view}
use Rattle.crossbeam_queue.proofs.Lists.{at_set}
use Rattle.be_model.specs.Schemas.{Attributes}
use Rattle.be_mail.specs.Letters.{Posting}
use Rattle.be_mail.specs.Mailbox.{BoxId, box_id, Mailbox}
use Rattle.be_mail.specs.Rule.{HandState, SeatPuts, hand, no_puts, one_seat, later_seats, Delivers}
use Rattle.be_mail.specs.Boxes.{IsNewHand, IsNewRow, AreRows, AreRowsUpTo}
use Rattle.be_mail.specs.Passes.{BoxPass, put_of, box_of, first_put, taken_of, passes_of, new_passes}
use Rattle.be_mail.proofs.Places.{within, at_end}
use Rattle.be_mail.proofs.Moves as moves

repeated : {A : Type 0} (n i : ℕ) (x a : A) → get_elem? (replicate n x) i ≡ some a → x ≡ a
repeated zero i x a e = absurd (some-ne-none a (sym e))
repeated (suc n) zero x a e = some-injective x a e
repeated (suc n) (suc i) x a e = repeated n i x a e

pub starts : (seats : ℕ) → AreRows seats [] (replicate seats [])
starts seats = record {
  count = length-replicate seats _;
  each = λ j r e. subst (IsNewRow j []) (repeated seats j [] r e) (record { boxes = refl; each = λ w p e'. absurd (some-ne-none p (sym e')) });
}

pub begins_row : (seats : ℕ) (names : List TableId) (name : TableId) (rows : List (List BoxPass)) → AreRows seats names rows → AreRowsUpTo 0 seats names name rows
begins_row seats names name rows all = record { count = all.count; done = λ j r e h. absurd (omega arith); left = λ j r e h. all.each j r e }

pub ends_row : (seats : ℕ) (names : List TableId) (name : TableId) (rows : List (List BoxPass)) → AreRowsUpTo seats seats names name rows → AreRows seats (names ++ name ∷ []) rows
ends_row seats names name rows all = record { count = all.count; each = λ j r e. all.done j r e (let h = within rows j r e in let n = all.count in omega arith) }

longer_row : (seat : ℕ) (names : List TableId) (name : TableId) (r : List BoxPass) (p : BoxPass) → IsNewRow seat names r → p.table_id ≡ name → IsNewHand seat (length names) p → IsNewRow seat (names ++ name ∷ []) (r ++ p ∷ [])
longer_row seat names name r p row box new = record {
  boxes = map-append box_of r (p ∷ []) ∙ (λ i. row.boxes i ++ box i ∷ []);
  each = λ w q e. ⊎_elim (λ was. row.each w q was)
      (λ (t : (w ≡ length r) × (p ≡ q)).
      let at : length names ≡ w = sym (ap length row.boxes) ∙ length-map r box_of ∙ sym t.0 in
      subst (λ (y : ℕ × BoxPass). IsNewHand seat y.0 y.1) (λ i. (at i, t.1 i)) new)
      (at_end r p q w e);
}

pub next_row : (n seats : ℕ) (names : List TableId) (name : TableId) (rows : List (List BoxPass)) (r : List BoxPass) (p : BoxPass) → AreRowsUpTo n seats names name rows → get_elem? rows n ≡ some r → p.table_id ≡ name → IsNewHand n (length names) p
    → AreRowsUpTo (n + 1) seats names name (set rows n (r ++ p ∷ []))
next_row n seats names name rows r p all here box new = record {
  count = length-set rows n (r ++ p ∷ []) ∙ all.count;
  done = λ j q e h. ⊎_elim
      (λ (t : (j ≡ n) × (r ++ p ∷ [] ≡ q)). subst (λ (y : ℕ × List BoxPass). IsNewRow y.0 (names ++ name ∷ []) y.1) (λ i. (sym t.0 i, t.1 i)) (longer_row n names name r p (all.left n r here (omega arith)) box new))
      (λ (t : (j ≢ n) × (get_elem? rows j ≡ some q)). all.done j q t.1 (strict j n h t.0))
      (at_set rows n j (r ++ p ∷ []) q e);
  left = λ j q e h. ⊎_elim
      (λ (t : (j ≡ n) × (r ++ p ∷ [] ≡ q)). absurd (let a = t.0 in omega arith))
      (λ (t : (j ≢ n) × (get_elem? rows j ≡ some q)). all.left j q t.1 (omega arith))
      (at_set rows n j (r ++ p ∷ []) q e);
}
  where
    strict : (a b : ℕ) → a < b + 1 → a ≢ b → a < b
    strict a b h ne = dite (ℕ_discrete a b) (λ e. absurd (ne e)) (λ _. omega arith)

-- the seat whose turn it is takes where the mailbox is its own
key_is : (t : Bool) (seat place : ℕ) → (seat ≤ place → t ≡ true) → t && eqb seat place ≡ eqb place seat
key_is t seat place has = dite (ℕ_discrete seat place)
    (λ e. ap (λ b. b && eqb seat place) (has (omega arith)) ∙ eq-eqb seat place e ∙ sym (eq-eqb place seat (sym e)))
    (λ ne. ap (λ b. t && b) (ne_eqb seat place ne) ∙ none t ∙ sym (ne_eqb place seat (λ e. ne (sym e))))
  where
    none : (b : Bool) → b && false ≡ false
    none true = refl
    none false = refl

-- the first pass of a mailbox, once n seats have theirs
pub record IsRoot (seats place n : ℕ) (root : BoxPass) : Type 0 where
  pub takes : Bool
  pub shows : view root ≡ hand (box_id (box_of root) place) (no_puts n (seats - n)) takes []
  pub keeps : n ≤ place → takes ≡ true

turn : (seats place n : ℕ) (root : BoxPass) → n < seats → (is : IsRoot seats place n root) → view root ≡ hand (box_id (box_of root) place) ((n, []) ∷ no_puts (suc n) (seats - suc n)) is.takes []
turn seats place n root h is = let e : seats - n ≡ suc (seats - suc n) = omega arith in is.shows ∙ ap (λ k. hand (box_id (box_of root) place) (no_puts n k) is.takes []) e

pub may_hand_out : (schema : Attributes) (seats : ℕ) (found : BoxId → Mailbox → Type 0) (pass place n : ℕ) (root : BoxPass) → n < seats → IsRoot seats place n root → Forks (Delivers schema seats found) pass (view root) (later_seats (view root)) (one_seat (view root))
may_hand_out schema seats found pass place n root h is =
    subst (λ (v : HandState). Forks (Delivers schema seats found) pass v (later_seats v) (one_seat v)) (sym (turn seats place n root h is))
    (moves.hands_out schema seats found pass (box_id (box_of root) place) n [] (no_puts (suc n) (seats - suc n)) is.takes (eqb n place) []
    (moves.each_new (λ (e : SeatPuts). e.0 ≢ n) (suc n) (seats - suc n) (λ seat a b e. omega arith)))

pub handed : (seats place n : ℕ) (root p : BoxPass) → n < seats → IsRoot seats place n root → box_of p ≡ box_of root → p.me.1 ≡ [] → view p ≡ one_seat (view root) → IsNewHand n place p
handed seats place n root p h is same home e = record {
  home = home;
  shows = e ∙ ap one_seat (turn seats place n root h is) ∙ (λ i. hand (box_id (sym same i) place) ((n, []) ∷ []) (key_is is.takes n place is.keeps i) []);
}

pub next_root : (seats place n : ℕ) (root root' : BoxPass) → n < seats → IsRoot seats place n root → box_of root' ≡ box_of root → view root' ≡ later_seats (view root) → IsRoot seats place (n + 1) root'
next_root seats place n root root' h is same e = record {
  takes = is.takes && not (eqb n place);
  shows = e ∙ ap later_seats (turn seats place n root h is) ∙ (let one : suc n ≡ n + 1 = omega arith in λ i. hand (box_id (sym same i) place) (no_puts (one i) (seats - one i)) (is.takes && not (eqb n place)) []);
  keeps = λ less. ap (λ b. b && not (eqb n place)) (is.keeps (omega arith)) ∙ ap not (ne_eqb n place (λ e. omega arith));
}

-- the passes of a seat

map_alike : {B : Type 0} (f : BoxPass → B) (b : B) (ps : List BoxPass) → ((w : ℕ) (p : BoxPass) → get_elem? ps w ≡ some p → f p ≡ b) → map f ps ≡ replicate (length ps) b
map_alike f b [] all = refl
map_alike f b (p ∷ ps) all = λ i. all 0 p refl i ∷ map_alike f b ps (λ w q e. all (suc w) q e) i

abbrev no_postings : List Posting
no_postings = []

pub seats_new : (seat : ℕ) (ps : List BoxPass) → seat < length ps → IsNewRow seat (map box_of ps) ps → passes_of seat ps 0 0 ≡ new_passes (map box_of ps) seat
seats_new seat ps h row =
    let q = map_alike put_of [] ps (λ w p e. ap (λ (v : HandState). first_put v.puts) (row.each w p e).shows) ∙ ap (λ n. replicate n []) (sym (length-map ps box_of)) in
    let t = ap (λ l. get_or l seat no_postings) (map_alike taken_of [] ps (λ w p e. ap (λ (v : HandState). v.taken) (row.each w p e).shows)) ∙ get_or-replicate (length ps) seat no_postings no_postings h in
    λ i. record { boxes = map box_of ps; seat = seat; puts = q i; taken = t i; fulls = 0; empties = 0 }
