-- The word of a board for session 1 that knows the whole list, and the answers that it gives.
use Rattle.std.proofs.Common.{◌≡◌, ℕ, ◌+◌, ◌-◌, ◌<◌, ◌≤◌, ◌==◌, Bool, true, false, ◌&&◌, ◌||◌, cond, List, [], ◌∷◌, ◌++◌, length, Some, slice_get, option_map, find, Option, refl, sym, ap, ◌∙◌, subst, arith, length-append, zero-add}
use Rattle.std.specs.List.{list_any}
use Rattle.std.proofs.lemmas.Bool.{eq-eqb, and_from, or_left, or_right}
use Rattle.std.proofs.lemmas.List.{length-map}
use Rattle.std.proofs.lemmas.List.Elements.{All-nil}
use Rattle.be_base.specs.Text.{Text}
use Rattle.be_base.proofs.Beginnings.{BeginsWith-same}
use Rattle.be_model.specs.declared.preds.Pred.{Pred}
use Rattle.be_model.specs.declared.changes.Row.{Row}
use Rattle.be_model.specs.Rows.{id_of}
use Rattle.be_model.specs.ByIds.{ByIds, SayIds, Rising, row_at}
use Rattle.be_model.proofs.RisingIds.{row_at-first, row_at-later}
use Rattle.be_base.proofs.SameText.{equal_from_same_text}
use Rattle.be_change.specs.History.{Entry, subscribed, unsubscribed, left, session_of, is_leave_of, is_of, has_name, is_live_name, is_live_name_of, has_left, entries_of, placed_from, placed_of, live, IsWellFormed}
use Rattle.be_change.specs.Made.{change_named, row_made}
use Rattle.be_change.specs.Requests.{Request, subscribe, unsubscribe, quit}
use Rattle.be_change.specs.Walk.{IsChangeOf, HasNameAt, HasNameOfAnotherAt}
use Rattle.be_change.proofs.Placed.{placed_from-entries, placed_of-append}
use Rattle.be_board.specs.declared.answers.Answer.TheVariants.{Done, Dup, NoName, Other, NoMemory}
use Rattle.be_board.specs.Word.{own_of, own_in, top, Keeps}
use Rattle.be_board.specs.Changes.{Accepts, RefusedAt}
use Rattle.be_board.specs.LocalCopy.{local_word, IsAnswered}

own_if : (k : ℕ) (b : Bool) (p : ℕ × Entry) (ps : List (ℕ × Entry)) → (session_of p.1 == k) ≡ b → own_of k ps ≡ ps → own_of k (cond b (p ∷ ps) ps) ≡ cond b (p ∷ ps) ps
own_if k true p ps is e = ap (λ (b : Bool). cond b (p ∷ own_of k ps) (own_of k ps)) is ∙ ap (λ (l : List (ℕ × Entry)). p ∷ l) e
own_if k false p ps is e = e

own_from : (k n : ℕ) (h : List Entry) → own_of k (placed_from k n h) ≡ placed_from k n h
own_from k n [] = refl
own_from k n (e ∷ es) = own_if k (session_of e == k) (n, e) (placed_from k (n + 1) es) refl (own_from k (n + 1) es)

-- the accepted changes are those of session 1
pub own_local : (h : List Entry) → own_in (local_word h) ≡ placed_of 1 h
own_local h = own_from 1 0 h

-- its next serial
pub serial_local : (h : List Entry) → length (own_in (local_word h)) ≡ length (entries_of 1 h)
serial_local h =
    ap (λ (l : List (ℕ × Entry)). length l) (own_local h)
    ∙ (sym (length-map (placed_of 1 h) (λ (p : ℕ × Entry). p.1)) ∙ ap (λ (l : List Entry). length l) (placed_from-entries 1 0 h))

top_if : (m : ℕ) (b : Bool) (p : ℕ × Entry) (ps : List (ℕ × Entry)) → p.0 < m → top ps ≤ m → top (cond b (p ∷ ps) ps) ≤ m
top_if m true p ps low rest = omega arith
top_if m false p ps low rest = rest

top_from : (k n : ℕ) (h : List Entry) → top (placed_from k n h) ≤ n + length h
top_from k n [] = omega arith
top_from k n (e ∷ es) =
    let rest : top (placed_from k (n + 1) es) ≤ (n + 1) + length es = top_from k (n + 1) es in
    top_if (n + length (e ∷ es)) (session_of e == k) (n, e) (placed_from k (n + 1) es) (omega arith) (omega (arith, rest))

pub top_local : (h : List Entry) → top (placed_of 1 h) ≤ length h
top_local h = subst (λ (m : ℕ). top (placed_of 1 h) ≤ m) (zero-add (length h)) (top_from 1 0 h)

gone_if : (k n : ℕ) (e : Entry) (b : Bool) (ps : List (ℕ × Entry)) (es : Bool) → (session_of e == k) ≡ b → list_any (λ (p : ℕ × Entry). is_leave_of k p.1) ps ≡ es
    → list_any (λ (p : ℕ × Entry). is_leave_of k p.1) (cond b ((n, e) ∷ ps) ps) ≡ (is_leave_of k e || es)
gone_if k n e true ps es is rest = ap (λ (b : Bool). is_leave_of k e || b) rest
gone_if k n (subscribed j m row) false ps es is rest = rest
gone_if k n (unsubscribed j m name) false ps es is rest = rest
gone_if k n (left j m) false ps es is rest = rest ∙ ap (λ (b : Bool). b || es) (sym is)

gone_from : (k n : ℕ) (h : List Entry) → list_any (λ (p : ℕ × Entry). is_leave_of k p.1) (placed_from k n h) ≡ has_left k h
gone_from k n [] = refl
gone_from k n (e ∷ es) = gone_if k n e (session_of e == k) (placed_from k (n + 1) es) (has_left k es) refl (gone_from k (n + 1) es)

-- session 1 has left exactly where its Bye was accepted
pub gone_local : (h : List Entry) → list_any (λ (p : ℕ × Entry). is_leave_of 1 p.1) (placed_of 1 h) ≡ has_left 1 h
gone_local h = gone_from 1 0 h

-- the whole list keeps the word
pub word_kept : (h : List Entry) → IsWellFormed h → Keeps h (local_word h)
word_kept h formed = record { formed = formed; known = BeginsWith-same h; own = sym (own_local h); notes = All-nil _ }

last_at : (h : List Entry) (e : Entry) → slice_get (h ++ e ∷ []) (length h) ≡ Some e
last_at [] e = refl
last_at (x ∷ xs) e = last_at xs e

-- one more change of session 1 was accepted
accepted : (h h' : List Entry) (r : Request) (e : Entry) (n : ℕ) → n ≡ length h + 1 → h' ≡ h ++ e ∷ [] → session_of e ≡ 1 → IsChangeOf 1 (length (own_in (local_word h))) (length h) r e
    → (a : Accepts (local_word h) (local_word h') r n) × (n ≡ length h') × (slice_get h' (n - 1) ≡ Some a.entry)
accepted h h' r e n at grown own is =
    let place : length h ≡ n - 1 = omega arith in
    let one : placed_of 1 h' ≡ placed_of 1 h ++ (length h, e) ∷ [] =
    ap (placed_of 1) grown ∙ (placed_of-append 1 h (e ∷ []) ∙ ap (λ (b : Bool). placed_of 1 h ++ cond b ((length h, e) ∷ []) []) (eq-eqb (session_of e) 1 own)) in (
      record {
        entry = e;
        is_it = subst (λ (p : ℕ). IsChangeOf 1 (length (own_in (local_word h))) p r e) place is;
        own = one ∙ ap (λ (p : ℕ). placed_of 1 h ++ (p, e) ∷ []) place;
        later = omega arith;
        later_own = omega (arith, top_local h);
      },
      omega (arith, ap (λ (l : List Entry). length l) grown, length-append h (e ∷ [])),
      ap (λ (p : ℕ). slice_get h' p) (sym place) ∙ (ap (λ (l : List Entry). slice_get l (length h)) grown ∙ last_at h e),
    )

same_serial : (h h' : List Entry) (r : Request) → h' ≡ h ++ change_named 1 (length (entries_of 1 h)) (length h) r → h' ≡ h ++ change_named 1 (length (own_in (local_word h))) (length h) r
same_serial h h' r e = e ∙ ap (λ (n : ℕ). h ++ change_named 1 n (length h) r) (sym (serial_local h))

pub answered_sub : (h h' : List Entry) (name : Text) (conj : List Pred) (n : ℕ) → n ≡ length h + 1 → h' ≡ h ++ change_named 1 (length (entries_of 1 h)) (length h) (subscribe name conj)
    → IsAnswered h h' (subscribe name conj) (Done n)
answered_sub h h' name conj n at grown =
    let e : Entry = subscribed 1 (length (entries_of 1 h)) (row_made 1 (length h) name conj) in
    record { answers = accepted h h' (subscribe name conj) e n at grown refl (refl, sym (serial_local h), refl, refl, refl, refl); alone = same_serial h h' (subscribe name conj) grown }

pub answered_unsub : (h h' : List Entry) (name : Text) (n : ℕ) → n ≡ length h + 1 → h' ≡ h ++ change_named 1 (length (entries_of 1 h)) (length h) (unsubscribe name)
    → IsAnswered h h' (unsubscribe name) (Done n)
answered_unsub h h' name n at grown =
    record { answers = accepted h h' (unsubscribe name) (unsubscribed 1 (length (entries_of 1 h)) name) n at grown refl (refl, sym (serial_local h), refl); alone = same_serial h h' (unsubscribe name) grown }

pub answered_quit : (h h' : List Entry) (n : ℕ) → n ≡ length h + 1 → h' ≡ h ++ change_named 1 (length (entries_of 1 h)) (length h) quit → IsAnswered h h' quit (Done n)
answered_quit h h' n at grown =
    record { answers = accepted h h' quit (left 1 (length (entries_of 1 h))) n at grown refl (refl, sym (serial_local h)); alone = same_serial h h' quit grown }

-- a change is refused over the whole list
refused_at : (h h' : List Entry) (m : ℕ) → m ≡ length h → h' ≡ h → RefusedAt (local_word h) (local_word h') m
refused_at h h' m at same = subst (λ (l : List Entry). RefusedAt (local_word h) (local_word l) m) (sym same) (record { length = at; covers_own = omega (arith, top_local h); own = refl })

pub answered_dup : (h h' : List Entry) (name : Text) (conj : List Pred) (m id : ℕ) → m ≡ length h → h' ≡ h → HasNameAt (live h) id name → IsAnswered h h' (subscribe name conj) (Dup m id)
answered_dup h h' name conj m id at same there =
    record { answers = (refused_at h h' m at same, subst (λ (l : List Entry). HasNameAt (live l) id name) (sym same) there); alone = same }

pub answered_none : (h h' : List Entry) (name : Text) (m : ℕ) → m ≡ length h → h' ≡ h → is_live_name name (live h) ≡ false → IsAnswered h h' (unsubscribe name) (NoName m)
answered_none h h' name m at same free =
    record { answers = (refused_at h h' m at same, ap (λ (l : List Entry). is_live_name name (live l)) same ∙ free); alone = same }

pub answered_other : (h h' : List Entry) (name : Text) (m id : ℕ) → m ≡ length h → h' ≡ h → HasNameOfAnotherAt 1 (live h) id name → IsAnswered h h' (unsubscribe name) (Other m id)
answered_other h h' name m id at same there =
    record { answers = (refused_at h h' m at same, subst (λ (l : List Entry). HasNameOfAnotherAt 1 (live l) id name) (sym same) there); alone = same }

pub answered_no_unsub : (h h' : List Entry) (name : Text) → h' ≡ h → is_live_name_of 1 name (live h) ≡ true → IsAnswered h h' (unsubscribe name) NoMemory
answered_no_unsub h h' name same there = record { answers = ap (placed_of 1) same; alone = (same, there) }

-- the row of a name
abbrev pub row_named : Text → ByIds → Option Row
row_named name l = option_map (λ (r : ℕ × Row). r.1) (find (has_name name) l)

-- the first row of a name stands at its id
pub first_stands : (name : Text) (l : ByIds) (row : Row) → Rising l → SayIds l → row_named name l ≡ Some row → (row_at (id_of row) l ≡ Some row) × (row.name ≡ name)
first_stands name [] row rising say e = absurd cc
first_stands name (r ∷ l) row rising say e = step (has_name name r) refl (first_stands name l row rising.1 say.1) e
  where
    step : (b : Bool) → has_name name r ≡ b → (row_named name l ≡ Some row → (row_at (id_of row) l ≡ Some row) × (row.name ≡ name)) → option_map (λ (x : ℕ × Row). x.1) (cond b (Some r) (find (has_name name) l)) ≡ Some row
        → (row_at (id_of row) (r ∷ l) ≡ Some row) × (row.name ≡ name)
    step true h rest e =
        let same : r.1 ≡ row = cc in (
          row_at-first r l (id_of row) (sym say.0 ∙ ap id_of same) ∙ ap (λ (x : Row). Some x) same,
          ap (λ (x : Row). x.name) (sym same) ∙ equal_from_same_text r.1.name name h,
        )
    step false h rest e = let later = rest e in (row_at-later r l (id_of row) row rising later.0, later.1)

-- where it is a session's, the session has a live row of the name
pub first_owned : (k : ℕ) (name : Text) (l : ByIds) (row : Row) → row.session.0 ≡ k → row_named name l ≡ Some row → is_live_name_of k name l ≡ true
first_owned k name [] row of e = absurd cc
first_owned k name (r ∷ l) row of e = step (has_name name r) refl (first_owned k name l row of) e
  where
    step : (b : Bool) → has_name name r ≡ b → (row_named name l ≡ Some row → is_live_name_of k name l ≡ true) → option_map (λ (x : ℕ × Row). x.1) (cond b (Some r) (find (has_name name) l)) ≡ Some row
        → is_live_name_of k name (r ∷ l) ≡ true
    step true h rest e =
        let same : r.1 ≡ row = cc in
        or_left (is_of k r && has_name name r) (is_live_name_of k name l) (and_from (is_of k r) (has_name name r) (eq-eqb r.1.session.0 k (ap (λ (x : Row). x.session.0) same ∙ of)) h)
    step false h rest e = or_right (is_of k r && has_name name r) (is_live_name_of k name l) (rest e)
