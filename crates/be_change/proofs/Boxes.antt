-- The letter box: it never holds more letters than it may, and what a session's event puts into it are letters for it.
use Rattle.std.proofs.Common.{◌≡◌, ℕ, ◌≤◌, ◌||◌, Bool, true, false, cond, List, [], ◌∷◌, ◌++◌, length, take, Some, get_or, refl, sym, ap, ◌∙◌, subst, arith, length-append}
use Rattle.std.specs.Prelude.{nat_le, All}
use Rattle.std.specs.List.{list_all}
use Rattle.std.proofs.lemmas.Bool.{eqb-true}
use Rattle.std.proofs.lemmas.Bool.Decides.{nat_tests}
use Rattle.std.proofs.lemmas.List.{length-drop}
use Rattle.std.proofs.lemmas.List.Elements.{All-nil, All-cons, All-tail, All-append, All-filter, filter_passes}
use Rattle.std.proofs.lemmas.List.Sums.{AllPass-from_list_all}
use Rattle.std.proofs.lemmas.Option.{slice_get-get_or}
use Rattle.be_base.specs.declared.limits.TheConstants.{BOX_LETTERS}
use Rattle.be_model.specs.declared.changes.Row.{Row}
use Rattle.be_model.specs.Matching.{Assignments, satisfies}
use Rattle.be_model.specs.ByIds.{Rising, row_at}
use Rattle.be_model.proofs.RisingIds.{row_at-each}
use Rattle.be_change.specs.History.{Entry, ByIds, live, is_of, hit_rows}
use Rattle.be_change.specs.Requests.{Note, note, Exchange, sending, fetching, sent, notes}
use Rattle.be_change.specs.Walk.{IsNoteFor}
use Rattle.be_change.specs.Box.{is_full, with_letter, with_letters, box_after, KeepsBox}
use Rattle.be_change.proofs.Grows.{rising_live}

letter_if : (b c : Bool) (box : List Note) (x : Note) → nat_le BOX_LETTERS (length box) ≡ c → length box ≤ BOX_LETTERS → length (cond (b || c) box (box ++ x ∷ [])) ≤ BOX_LETTERS
letter_if true c box x is fits = fits
letter_if false true box x is fits = fits
letter_if false false box x is fits = grind (arith, nat_tests, length-append box (x ∷ []))

letter_within : (n : ℕ) (e : Assignments) (r : ℕ × Row) (box : List Note) → length box ≤ BOX_LETTERS → length (with_letter n e r box) ≤ BOX_LETTERS
letter_within n e r box fits = letter_if (is_of 0 r) (is_full box) box (note n r.1.name e) refl fits

pub letters_within : (n : ℕ) (e : Assignments) (rs : ByIds) (box : List Note) → length box ≤ BOX_LETTERS → length (with_letters n e rs box) ≤ BOX_LETTERS
letters_within n e [] box fits = fits
letters_within n e (r ∷ rs) box fits = letters_within n e rs (with_letter n e r box) (letter_within n e r box fits)

after_within : (h : List Entry) (p : Exchange) (box : List Note) → length box ≤ BOX_LETTERS → length (box_after h p box) ≤ BOX_LETTERS
after_within h (sending e, sent n put dropped) box fits = letters_within n e (hit_rows (take n h) e) box fits
after_within h (fetching max, notes letters) box fits = omega (arith, length-drop max box)
after_within h _ box fits = fits

-- a box never holds more letters than it may
pub box_within : (h : List Entry) (ps : List Exchange) (box box' : List Note) → KeepsBox h ps box box' → length box ≤ BOX_LETTERS → length box' ≤ BOX_LETTERS
box_within h [] box box' k fits = subst (λ (b : List Note). length b ≤ BOX_LETTERS) (sym k) fits
box_within h (p ∷ ps) box box' k fits = box_within h ps (box_after h p box) box' k.1 (after_within h p box fits)

-- a letter to the row's session may stand in the box
abbrev MayPut : ℕ → ℕ → List Entry → Assignments → ℕ × Row → Type 0
MayPut k n h e r = (row_at r.0 (live (take n h)) ≡ Some r.1) × (satisfies e r.1.conj ≡ true) × ((is_of 0 r || is_of k r) ≡ true)

put_if : (k n : ℕ) (h : List Entry) (e : Assignments) (r : ℕ × Row) (box : List Note) (nobody full : Bool) → is_of 0 r ≡ nobody → n ≤ length h → MayPut k n h e r → All (IsNoteFor k h) box
    → All (IsNoteFor k h) (cond (nobody || full) box (box ++ note n r.1.name e ∷ []))
put_if k n h e r box true full of within may all = all
put_if k n h e r box false true of within may all = all
put_if k n h e r box false false of within may all =
    let mine : is_of k r ≡ true = sym (ap (λ (b : Bool). b || is_of k r) of) ∙ may.2 in
    let one : IsNoteFor k h (note n r.1.name e) =
    record { within = within; id = r.0; row = r.1; stands = may.0; owner = eqb-true r.1.session.0 k mine; named = refl; satisfied = may.1 } in
    All-append (IsNoteFor k h) box (note n r.1.name e ∷ []) all (All-cons (IsNoteFor k h) (note n r.1.name e) [] one (All-nil (IsNoteFor k h)))

put_all : (k n : ℕ) (h : List Entry) (e : Assignments) (rs : ByIds) (box : List Note) → n ≤ length h → All (MayPut k n h e) rs → All (IsNoteFor k h) box
    → All (IsNoteFor k h) (with_letters n e rs box)
put_all k n h e [] box within may all = all
put_all k n h e (r ∷ rs) box within may all =
    put_all k n h e rs (with_letter n e r box) within (All-tail (MayPut k n h e) r rs may)
    (put_if k n h e r box (is_of 0 r) (is_full box) refl within (may 0 r (omega arith)) all)

-- each live row is found at its id
found_all : (m : ByIds) → Rising m → All (λ (r : ℕ × Row). row_at r.0 m ≡ Some r.1) m
found_all m rising = λ i r inside. row_at-each m i (get_or m i r) rising (slice_get-get_or m i r inside)

pub letters_noted : (k n : ℕ) (h : List Entry) (e : Assignments) (box : List Note) → n ≤ length h → list_all (λ r. is_of 0 r || is_of k r) (live (take n h)) ≡ true → All (IsNoteFor k h) box
    → All (IsNoteFor k h) (with_letters n e (hit_rows (take n h) e) box)
letters_noted k n h e box within owned all =
    let m : ByIds = live (take n h) in
    let test : ℕ × Row → Bool = λ r. satisfies e r.1.conj in
    let found = All-filter test (λ (r : ℕ × Row). row_at r.0 m ≡ Some r.1) m (found_all m (rising_live (take n h))) in
    let of = All-filter test (λ (r : ℕ × Row). (is_of 0 r || is_of k r) ≡ true) m (AllPass-from_list_all (λ r. is_of 0 r || is_of k r) m owned) in
    let hit = filter_passes test m in
    put_all k n h e (hit_rows (take n h) e) box within (λ i r inside. (found i r inside, hit i r inside, of i r inside)) all
