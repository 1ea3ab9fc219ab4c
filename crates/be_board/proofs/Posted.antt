-- Letters that were put: what they make of the box, and for whom they are.
use Rattle.std.proofs.Common.{◌≡◌, ℕ, zero, suc, ◌+◌, ◌-◌, ◌≤◌, ◌==◌, ◌||◌, Bool, true, false, not, cond, List, [], ◌∷◌, ◌++◌, length, take, map, filter, Some, get_or, refl, sym, ap, ◌∙◌, subst, arith, length-append, append_assoc, take_all, length-take}
use Rattle.std.specs.Prelude.{All}
use Rattle.std.specs.Arc.{arc_value}
use Rattle.std.specs.declared.sync.Arc.{Arc}
use Rattle.std.proofs.lemmas.Bool.{eqb-true}
use Rattle.std.proofs.lemmas.Bool.Decides.{nat_tests}
use Rattle.std.proofs.lemmas.List.{append-nil, map-append, length-map}
use Rattle.std.proofs.lemmas.List.Elements.{All-nil, All-cons, All-head, All-tail, All-take, All-filter, filter_passes}
use Rattle.std.proofs.lemmas.List.Filters.{length-filter_both}
use Rattle.std.proofs.lemmas.List.Sums.{AllPass-from_list_all}
use Rattle.be_base.specs.Counts.{raised, RisesBy}
use Rattle.be_base.specs.declared.limits.TheConstants.{BOX_LETTERS}
use Rattle.be_model.specs.declared.changes.Row.{Row}
use Rattle.be_model.specs.ByIds.{ByIds, Rising, SayIds, is_of, row_at, rows_of}
use Rattle.be_model.specs.Letters.{PlainLetter}
use Rattle.be_model.specs.Lies.{event_lies}
use Rattle.be_model.specs.Matching.{Assignments, satisfies}
use Rattle.be_model.specs.Rows.{id_of, rows_in}
use Rattle.be_model.specs.Schemas.{Attributes}
use Rattle.be_model.proofs.RowsByIds.{rows_of-filter}
use Rattle.be_model.proofs.RisingIds.{row_at-first, row_at-later}
use Rattle.be_change.specs.Box.{is_full, with_letters}
use Rattle.be_change.specs.History.{Entry, live, hit_rows, hits}
use Rattle.be_change.specs.Opening.{is_of_nobody}
use Rattle.be_change.specs.Requests.{note}
use Rattle.be_change.proofs.Grows.{rising_live}
use Rattle.be_change.proofs.Names.{live_say}
use Rattle.be_change.proofs.Owners.{live_owned}
use Rattle.be_board.specs.Letters.{note_of, Drops, Posts}
use Rattle.be_board.specs.LocalCopy.{IsLocalList}
use Rattle.be_board.specs.Local.{Local, local_state, letter_for, letters_for, addressed, IsLocalLetter}

-- of shared rows as many are somebody's as of the rows
pub length-addressed : {Z : Type 0} (rows : List (Arc Row Z)) → length (addressed (rows_in rows)) ≡ length (filter (λ (x : Arc Row Z). not (is_of_nobody (arc_value x))) rows)
length-addressed [] = refl
length-addressed {Z} (x ∷ xs) = step (not (is_of_nobody (arc_value x))) (arc_value x) x (addressed (rows_in xs)) (filter (λ (y : Arc Row Z). not (is_of_nobody (arc_value y))) xs) (length-addressed xs)
  where
    step : {A B : Type 0} (b : Bool) (x : A) (y : B) (xs : List A) (ys : List B) → length xs ≡ length ys → length (cond b (x ∷ xs) xs) ≡ length (cond b (y ∷ ys) ys)
    step true x y xs ys e = ap (λ (n : ℕ). suc n) e
    step false x y xs ys e = e

-- what one letter makes of a box with so much room
box_step : (n : ℕ) (e : Assignments) (r : ℕ × Row) (rs : ByIds) (ls : List PlainLetter) (b : Bool) (room : ℕ) → room + length ls ≡ BOX_LETTERS
    → ((room : ℕ) (ls : List PlainLetter) → room + length ls ≡ BOX_LETTERS → with_letters n e rs (map note_of ls) ≡ map note_of (ls ++ take room (letters_for n e (rows_of rs))))
    → with_letters n e rs (cond (b || is_full (map note_of ls)) (map note_of ls) (map note_of ls ++ note n r.1.name e ∷ []))
    ≡ map note_of (ls ++ take room (map (letter_for n e) (cond (not b) (r.1 ∷ addressed (rows_of rs)) (addressed (rows_of rs)))))
box_step n e r rs ls true room fits rest = rest room ls fits
box_step n e r rs ls false zero fits rest =
    let many : length (map note_of ls) ≡ length ls = length-map ls note_of in
    let full : is_full (map note_of ls) ≡ true = grind (arith, nat_tests) in
    ap (λ (f : Bool). with_letters n e rs (cond f (map note_of ls) (map note_of ls ++ note n r.1.name e ∷ []))) full ∙ rest zero ls fits
box_step n e r rs ls false (suc room) fits rest =
    let l : PlainLetter = letter_for n e r.1 in
    let many : length (map note_of ls) ≡ length ls = length-map ls note_of in
    let free : is_full (map note_of ls) ≡ false = grind (arith, nat_tests) in
    let put : map note_of ls ++ note_of l ∷ [] ≡ map note_of (ls ++ l ∷ []) = sym (map-append note_of ls (l ∷ [])) in
    ap (λ (f : Bool). with_letters n e rs (cond f (map note_of ls) (map note_of ls ++ note n r.1.name e ∷ []))) free
    ∙ (ap (with_letters n e rs) put
    ∙ (rest room (ls ++ l ∷ []) (omega (arith, length-append ls (l ∷ [])))
    ∙ ap (map note_of) (append_assoc ls (l ∷ []) (take room (letters_for n e (rows_of rs))))))

-- as many letters are put as there is room for, in order
pub box_posted : (n : ℕ) (e : Assignments) (rs : ByIds) (room : ℕ) (ls : List PlainLetter) → room + length ls ≡ BOX_LETTERS
    → with_letters n e rs (map note_of ls) ≡ map note_of (ls ++ take room (letters_for n e (rows_of rs)))
box_posted n e [] room ls fits = ap (map note_of) (sym (append-nil ls) ∙ ap (λ (l : List PlainLetter). ls ++ l) (sym (take_all room [] (omega arith))))
box_posted n e (r ∷ rs) room ls fits = box_step n e r rs ls (is_of 0 r) room fits (λ room ls fits. box_posted n e rs room ls fits)

-- a row that stands in the list, is hit, and is of the opening or of session 1
record IsHitRow (h : List Entry) (e : Assignments) (r : ℕ × Row) : Type 0 where
  pub stands : row_at (id_of r.1) (live h) ≡ Some r.1
  pub hit : satisfies e r.1.conj ≡ true
  pub owner : ((r.1.session.0 == 0) || (r.1.session.0 == 1)) ≡ true

stand_all : (m : ByIds) → Rising m → SayIds m → All (λ (r : ℕ × Row). row_at (id_of r.1) m ≡ Some r.1) m
stand_all [] rising say = All-nil (λ (r : ℕ × Row). row_at (id_of r.1) [] ≡ Some r.1)
stand_all (r ∷ rs) rising say =
    All-cons (λ (x : ℕ × Row). row_at (id_of x.1) (r ∷ rs) ≡ Some x.1) r rs (row_at-first r rs (id_of r.1) (sym say.0))
    (λ i x inside. row_at-later r rs (id_of (get_or rs i x).1) (get_or rs i x).1 rising (stand_all rs rising.1 say.1 i x inside))

hit_all : (h : List Entry) (e : Assignments) → IsLocalList h → All (IsHitRow h e) (hit_rows h e)
hit_all h e form =
    let m : ByIds = live h in
    let test : ℕ × Row → Bool = λ r. satisfies e r.1.conj in
    let stand = All-filter test (λ (r : ℕ × Row). row_at (id_of r.1) m ≡ Some r.1) m (stand_all m (rising_live h) (live_say h form.formed)) in
    let hit = filter_passes test m in
    let owned = All-filter test (λ (r : ℕ × Row). ((r.1.session.0 == 0) || (r.1.session.0 == 1)) ≡ true) m
    (AllPass-from_list_all (λ (r : ℕ × Row). (r.1.session.0 == 0) || (r.1.session.0 == 1)) m (live_owned (λ (k : ℕ). (k == 0) || (k == 1)) h form.formed form.local)) in
    λ i r inside. record { stands = stand i r inside; hit = hit i r inside; owner = owned i r inside }

letter_if : (s : Attributes) (h : List Entry) (n : ℕ) (e : Assignments) (r : ℕ × Row) (ls : List PlainLetter) (b : Bool) → (r.1.session.0 == 0) ≡ b → n ≡ length h → event_lies s e ≡ true → IsHitRow h e r
    → (rows : List Row) → All (IsLocalLetter s h) (map (letter_for n e) rows) → All (IsLocalLetter s h) (map (letter_for n e) (cond (not b) (r.1 ∷ rows) rows))
letter_if s h n e r ls true is at lies a rows rest = rest
letter_if s h n e r ls false is at lies a rows rest =
    let own : r.1.session.0 ≡ 1 = eqb-true r.1.session.0 1 (sym (ap (λ (b : Bool). b || (r.1.session.0 == 1)) is) ∙ a.owner) in
    let whole : take n h ≡ h = take_all n h (omega arith) in
    let one : IsLocalLetter s h (letter_for n e r.1) = record {
      fit = record { session = own; owner = own; satisfied = a.hit; lies = lies };
      delivered = record { within = omega arith; stands = ap (λ (l : List Entry). row_at (id_of r.1) (live l)) whole ∙ a.stands };
    } in
    All-cons (IsLocalLetter s h) (letter_for n e r.1) (map (letter_for n e) rows) one rest

letters_each : (s : Attributes) (h : List Entry) (n : ℕ) (e : Assignments) (rs : ByIds) → n ≡ length h → event_lies s e ≡ true → All (IsHitRow h e) rs → All (IsLocalLetter s h) (letters_for n e (rows_of rs))
letters_each s h n e [] at lies all = All-nil (IsLocalLetter s h)
letters_each s h n e (r ∷ rs) at lies all =
    letter_if s h n e r [] (r.1.session.0 == 0) refl at lies (All-head (IsHitRow h e) r rs all) (addressed (rows_of rs)) (letters_each s h n e rs at lies (All-tail (IsHitRow h e) r rs all))

-- letters for the rows that an event hits are letters for session 1
pub letters_local : (s : Attributes) (h : List Entry) (n : ℕ) (e : Assignments) (room : ℕ) → IsLocalList h → n ≡ length h → event_lies s e ≡ true
    → All (IsLocalLetter s h) (take room (letters_for n e (rows_of (hit_rows h e))))
letters_local s h n e room form at lies =
    All-take (IsLocalLetter s h) room (letters_for n e (rows_of (hit_rows h e))) (letters_each s h n e (hit_rows h e) at lies (hit_all h e form))

-- how many letters are put, and how many rows get none
pub record ArePosted (rows : List Row) (put full : ℕ) : Type 0 where
  pub put_few : put ≤ length rows
  pub dropped : length (filter is_of_nobody rows) + full ≡ length rows - put

pub counts_posted : (n : ℕ) (e : Assignments) (rows : List Row) (room put full : ℕ) → put ≡ length (take room (letters_for n e rows)) → full ≡ length (addressed rows) - put → ArePosted rows put full
counts_posted n e rows room put full is left =
    let parts = length-filter_both is_of_nobody (λ (row : Row). not (is_of_nobody row)) (λ row. refl) rows in
    let many : length (letters_for n e rows) ≡ length (addressed rows) = length-map (addressed rows) (letter_for n e) in
    let few : put ≤ length (addressed rows) = omega (arith, is, many, length-take room (letters_for n e rows)) in
    record { put_few = omega (arith, parts, few); dropped = omega (arith, parts, few, left) }

rises_by : (full before after : ℕ) → after ≡ raised full before → RisesBy full before after
rises_by full before after is = grind (arith)

-- letters were put, and the read was counted
pub record Puts {X : Type 0} (v b' : Local X) (n room put full : ℕ) (e : Assignments) : Type 0 where
  pub list : b'.list ≡ v.list
  pub at : n ≡ length v.list
  pub fits : room + length v.letters ≡ BOX_LETTERS
  pub letters : b'.letters ≡ v.letters ++ take room (letters_for n e (rows_of (hit_rows v.list e)))
  pub many : put ≡ length (take room (letters_for n e (rows_of (hit_rows v.list e))))
  pub over : full ≡ length (addressed (rows_of (hit_rows v.list e))) - put
  pub reads : b'.reads ≡ raised 1 v.reads
  pub fulls : b'.fulls ≡ raised full v.fulls

posts_local : {X : Type 0} (s s' : Attributes) (v b' : Local X) (n room put full dropped : ℕ) (e : Assignments) → Puts v b' n room put full e → dropped ≡ length (rows_of (hit_rows v.list e)) - put
    → Posts (local_state s v) (local_state s' b') e (record { n = n; put = put; dropped = dropped })
posts_local {X} s s' v b' n room put full dropped e p left =
    let h : List Entry = v.list in
    let rows : List Row = rows_of (hit_rows h e) in
    let counts : ArePosted rows put full = counts_posted n e rows room put full p.many p.over in
    let many : length rows ≡ length (hit_rows h e) = length-map (hit_rows h e) (λ (r : ℕ × Row). r.1) in
    let named : length (hits h e) ≡ length (hit_rows h e) = length-map (hit_rows h e) (λ (r : ℕ × Row). r.1.name) in
    let nobodys : length (filter (is_of 0) (hit_rows h e)) ≡ length (filter is_of_nobody rows) =
    sym (length-map (filter (is_of 0) (hit_rows h e)) (λ (r : ℕ × Row). r.1)) ∙ ap (λ (l : List Row). length l) (rows_of-filter is_of_nobody (hit_rows h e)) in
    let box : map note_of b'.letters ≡ with_letters n e (hit_rows h e) (map note_of v.letters) = ap (map note_of) p.letters ∙ sym (box_posted n e (hit_rows h e) room v.letters p.fits) in
    let long : length (map note_of b'.letters) ≡ length (map note_of v.letters) + put =
    omega (arith, length-map b'.letters note_of, length-map v.letters note_of, ap (λ (l : List PlainLetter). length l) p.letters, length-append v.letters (take room (letters_for n e rows)), p.many) in
    record {
      read = record { length = p.at ∙ ap (λ (l : List Entry). length l) (sym p.list); counted = p.reads; shuts = refl };
      all = omega (arith, counts.put_few, many, named, left, ap (λ (l : List Entry). length (hits l e)) p.list);
      drops = subst (λ (l : List Entry). Drops (local_state s v) (local_state s' b') (hit_rows l e) dropped) (sym p.list)
          (full, omega (arith, counts.dropped, nobodys, left), rises_by full v.fulls b'.fulls p.fulls);
      puts = refl;
      box = (subst (λ (l : List Entry). map note_of b'.letters ≡ with_letters n e (hit_rows l e) (map note_of v.letters)) (sym p.list) box, long);
    }

pub posts_view : {X : Type 0} (schema : X → Attributes) (v b b' : Local X) (n room put full dropped : ℕ) (e : Assignments) → v ≡ b → Puts v b' n room put full e → dropped ≡ length (rows_of (hit_rows v.list e)) - put
    → Posts (local_state (schema b.index) b) (local_state (schema b'.index) b') e (record { n = n; put = put; dropped = dropped })
posts_view {X} schema v b b' n room put full dropped e is p left =
    subst (λ (x : Local X). Posts (local_state (schema x.index) x) (local_state (schema b'.index) b') e (record { n = n; put = put; dropped = dropped })) is
    (posts_local (schema v.index) (schema b'.index) v b' n room put full dropped e p left)
