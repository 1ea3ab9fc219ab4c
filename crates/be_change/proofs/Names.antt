-- The rows that are live after a well formed list: their names differ, each says its id, and an Unsub removes one.
use Rattle.std.proofs.Common.{◌≡◌, ℕ, ◌==◌, Bool, true, false, not, ◌&&◌, ◌||◌, cond, List, [], ◌∷◌, ◌++◌, length, Some, refl, sym, ap, ◌∙◌, subst}
use Rattle.std.specs.Prelude.{filter}
use Rattle.std.proofs.lemmas.Bool.{and_parts, and_from, or_parts, or_from, or_left, or_right, eqb-true, false_from_ne_true, both_ways, not-true, not_from_false}
use Rattle.be_base.proofs.SameText.{equal_from_same_text, same_text_from_equal}
use Rattle.be_model.specs.declared.changes.Row.{Row}
use Rattle.be_model.specs.ByIds.{row_at}
use Rattle.be_model.proofs.RisingIds.{SayIds-snoc, SayIds-filter, row_at-first, row_at-later}
use Rattle.be_change.specs.History.{Text, Entry, subscribed, unsubscribed, left, same_text, ByIds, live, after_entry, has_name, is_of, is_live_name, is_live_name_of, names_of, IsWellFormed, MayFollow}
use Rattle.be_change.specs.Walk.{HasNameAt}
use Rattle.be_change.specs.LiveRows.{Rising, SayIds, is_among_texts, all_differ, LosesOne}
use Rattle.be_change.proofs.Grows.{live-append}
use Rattle.be_change.proofs.Forms.{formed_induction}

pub text_turned : (a b : Text) → same_text a b ≡ false → same_text b a ≡ false
text_turned a b e = false_from_ne_true (same_text b a) (λ t. both_ways (same_text a b) e (same_text_from_equal a b (sym (equal_from_same_text b a t))))

among_if : (name : Text) (b : Bool) (r : ℕ × Row) (l : ByIds) → same_text r.1.name name ≡ false → is_among_texts name (names_of l) ≡ false → is_among_texts name (names_of (cond b (r ∷ l) l)) ≡ false
among_if name true r l e f = or_from (same_text r.1.name name) (is_among_texts name (names_of l)) e f
among_if name false r l e f = f

among_filter : (name : Text) (p : ℕ × Row → Bool) (l : ByIds) → is_among_texts name (names_of l) ≡ false → is_among_texts name (names_of (filter p l)) ≡ false
among_filter name p [] e = refl
among_filter name p (x ∷ xs) e =
    let both = or_parts (same_text x.1.name name) (is_among_texts name (names_of xs)) e in
    among_if name (p x) x (filter p xs) both.0 (among_filter name p xs both.1)

differ_if : (b : Bool) (r : ℕ × Row) (l : ByIds) → is_among_texts r.1.name (names_of l) ≡ false → all_differ (names_of l) ≡ true → all_differ (names_of (cond b (r ∷ l) l)) ≡ true
differ_if true r l e f = and_from (not (is_among_texts r.1.name (names_of l))) (all_differ (names_of l)) (not_from_false (is_among_texts r.1.name (names_of l)) e) f
differ_if false r l e f = f

-- names that are left over differ
pub differ_filter : (p : ℕ × Row → Bool) (l : ByIds) → all_differ (names_of l) ≡ true → all_differ (names_of (filter p l)) ≡ true
differ_filter p [] e = refl
differ_filter p (x ∷ xs) e =
    let both = and_parts (not (is_among_texts x.1.name (names_of xs))) (all_differ (names_of xs)) e in
    differ_if (p x) x (filter p xs) (among_filter x.1.name p xs (not-true (is_among_texts x.1.name (names_of xs)) both.0)) (differ_filter p xs both.1)

among_snoc : (name : Text) (l : ByIds) (r : ℕ × Row) → is_among_texts name (names_of l) ≡ false → same_text r.1.name name ≡ false → is_among_texts name (names_of (l ++ r ∷ [])) ≡ false
among_snoc name [] r e f = or_from (same_text r.1.name name) false f refl
among_snoc name (x ∷ xs) r e f =
    let both = or_parts (same_text x.1.name name) (is_among_texts name (names_of xs)) e in
    or_from (same_text x.1.name name) (is_among_texts name (names_of (xs ++ r ∷ []))) both.0 (among_snoc name xs r both.1 f)

differ_snoc : (l : ByIds) (r : ℕ × Row) → all_differ (names_of l) ≡ true → is_live_name r.1.name l ≡ false → all_differ (names_of (l ++ r ∷ [])) ≡ true
differ_snoc [] r e f = refl
differ_snoc (x ∷ xs) r e f =
    let both = and_parts (not (is_among_texts x.1.name (names_of xs))) (all_differ (names_of xs)) e in
    let free = or_parts (same_text x.1.name r.1.name) (is_live_name r.1.name xs) f in
    and_from (not (is_among_texts x.1.name (names_of (xs ++ r ∷ [])))) (all_differ (names_of (xs ++ r ∷ [])))
    (not_from_false (is_among_texts x.1.name (names_of (xs ++ r ∷ []))) (among_snoc x.1.name xs r (not-true (is_among_texts x.1.name (names_of xs)) both.0) (text_turned x.1.name r.1.name free.0)))
    (differ_snoc xs r both.1 free.1)

-- one more entry that may follow keeps the names of live rows apart
pub differ_after : (h : List Entry) (e : Entry) → MayFollow h e → all_differ (names_of (live h)) ≡ true → all_differ (names_of (after_entry (live h) (length h) e)) ≡ true
differ_after h (subscribed k n row) m d = differ_snoc (live h) (length h, row) d m.allowed.0
differ_after h (unsubscribed k n name) m d = differ_filter (λ r. not (is_of k r && has_name name r)) (live h) d
differ_after h (left k n) m d = differ_filter (λ r. not (is_of k r)) (live h) d

abbrev LiveDiffers : List Entry → Type 0
LiveDiffers h = all_differ (names_of (live h)) ≡ true

-- the names of the rows that are live after a well formed list differ
pub live_differ : (h : List Entry) → IsWellFormed h → all_differ (names_of (live h)) ≡ true
live_differ h w =
    formed_induction LiveDiffers h w refl (λ g e f m d. ap (λ (l : ByIds). all_differ (names_of l)) (live-append g e) ∙ differ_after g e m d)

say_after : (h : List Entry) (e : Entry) → MayFollow h e → SayIds (live h) → SayIds (after_entry (live h) (length h) e)
say_after h (subscribed k n row) m a = SayIds-snoc (live h) (length h, row) a m.allowed.1
say_after h (unsubscribed k n name) m a = SayIds-filter (λ r. not (is_of k r && has_name name r)) (live h) a
say_after h (left k n) m a = SayIds-filter (λ r. not (is_of k r)) (live h) a

abbrev LiveSays : List Entry → Type 0
LiveSays h = SayIds (live h)

-- each row that is live after a well formed list says its id itself
pub live_say : (h : List Entry) → IsWellFormed h → SayIds (live h)
live_say h w = formed_induction LiveSays h w tt (λ g e f m a. subst SayIds (sym (live-append g e)) (say_after g e m a))

-- no row has the name, so all stay
filter_free : (k : ℕ) (name : Text) (l : ByIds) → is_among_texts name (names_of l) ≡ false → filter (λ r. not (is_of k r && has_name name r)) l ≡ l
filter_free k name [] e = refl
filter_free k name (x ∷ xs) e =
    let both = or_parts (same_text x.1.name name) (is_among_texts name (names_of xs)) e in
    kept (is_of k x) (has_name name x) both.0 (filter_free k name xs both.1)
  where
    kept : (a b : Bool) → b ≡ false → filter (λ r. not (is_of k r && has_name name r)) xs ≡ xs
        → cond (not (a && b)) (x ∷ filter (λ r. not (is_of k r && has_name name r)) xs) (filter (λ r. not (is_of k r && has_name name r)) xs) ≡ x ∷ xs
    kept a true f h = absurd cc
    kept true false f h = ap (λ (l : ByIds). x ∷ l) h
    kept false false f h = ap (λ (l : ByIds). x ∷ l) h

gone_if : (c : Bool) (x : ℕ × Row) (xs ys : ByIds) → c ≡ true → ys ≡ xs → cond (not c) (x ∷ ys) ys ≡ xs
gone_if true x xs ys c e = e
gone_if false x xs ys c e = absurd cc

kept_if : (c : Bool) (x : ℕ × Row) (ys : ByIds) → c ≡ false → cond (not c) (x ∷ ys) ys ≡ x ∷ ys
kept_if true x ys c = absurd cc
kept_if false x ys c = refl

-- of rows whose names differ exactly one goes
pub loses_one : (k : ℕ) (name : Text) (l : ByIds) → all_differ (names_of l) ≡ true → is_live_name_of k name l ≡ true → LosesOne l (filter (λ r. not (is_of k r && has_name name r)) l) k name
loses_one k name [] d e = absurd cc
loses_one k name (x ∷ xs) d e = which (λ a b. loses_one k name xs a b) (is_of k x && has_name name x) refl
  where
    rest : ByIds
    rest = filter (λ r. not (is_of k r && has_name name r)) xs

    later : LosesOne xs rest k name → (is_of k x && has_name name x) ≡ false → LosesOne (x ∷ xs) (cond (not (is_of k x && has_name name x)) (x ∷ rest) rest) k name
    later o f = record {
      before = x ∷ o.before;
      row = o.row;
      after = o.after;
      was = ap (λ (l : ByIds). x ∷ l) o.was;
      is = kept_if (is_of k x && has_name name x) x rest f ∙ ap (λ (l : ByIds). x ∷ l) o.is;
      owner = o.owner;
      named = o.named;
    }

    here : (is_of k x && has_name name x) ≡ true → LosesOne (x ∷ xs) (cond (not (is_of k x && has_name name x)) (x ∷ rest) rest) k name
    here t =
        let it = and_parts (is_of k x) (has_name name x) t in
        let apart = and_parts (not (is_among_texts x.1.name (names_of xs))) (all_differ (names_of xs)) d in
        let same : x.1.name ≡ name = equal_from_same_text x.1.name name it.1 in
        let free : is_among_texts name (names_of xs) ≡ false = ap (λ (n : Text). is_among_texts n (names_of xs)) (sym same) ∙ not-true (is_among_texts x.1.name (names_of xs)) apart.0 in
        record {
          before = [];
          row = x;
          after = xs;
          was = refl;
          is = gone_if (is_of k x && has_name name x) x xs rest t (filter_free k name xs free);
          owner = eqb-true x.1.session.0 k it.0;
          named = same;
        }

    which : (all_differ (names_of xs) ≡ true → is_live_name_of k name xs ≡ true → LosesOne xs rest k name) → (b : Bool) → (is_of k x && has_name name x) ≡ b
        → LosesOne (x ∷ xs) (cond (not (is_of k x && has_name name x)) (x ∷ rest) rest) k name
    which more true t = here t
    which more false f =
        later (more (and_parts (not (is_among_texts x.1.name (names_of xs))) (all_differ (names_of xs)) d).1 (or_rest (is_of k x && has_name name x) (is_live_name_of k name xs) f e)) f
      where
        or_rest : (a b : Bool) → a ≡ false → (a || b) ≡ true → b ≡ true
        or_rest true b f e = absurd cc
        or_rest false b f e = e

-- an Unsub that may follow a well formed list removes exactly one row, of its session and of its name
pub unsub_loses_one : (h : List Entry) (k n : ℕ) (name : Text) → IsWellFormed h → MayFollow h (unsubscribed k n name) → LosesOne (live h) (live (h ++ unsubscribed k n name ∷ [])) k name
unsub_loses_one h k n name w m =
    subst (λ (l : ByIds). LosesOne (live h) l k name) (sym (live-append h (unsubscribed k n name))) (loses_one k name (live h) (live_differ h w) m.allowed)

pub found_here : (r : ℕ × Row) (l : ByIds) (id : ℕ) (name : Text) → same_text r.1.name name ≡ true → r.0 ≡ id → HasNameAt (r ∷ l) id name
found_here r l id name e is = (r.1, row_at-first r l id is, equal_from_same_text r.1.name name e)

pub found_later : (r : ℕ × Row) (l : ByIds) (id : ℕ) (name : Text) → Rising (r ∷ l) → HasNameAt l id name → HasNameAt (r ∷ l) id name
found_later r l id name a h = (h.0, row_at-later r l id h.0 a h.1, h.2)

-- a name that is found at an id is live
pub found_live : (l : ByIds) (id : ℕ) (name : Text) → HasNameAt l id name → is_live_name name l ≡ true
found_live [] id name h = absurd cc
found_live (x ∷ xs) id name h = which (λ e. found_live xs id name (h.0, e, h.2)) (x.0 == id) h.1
  where
    which : (row_at id xs ≡ Some h.0 → is_live_name name xs ≡ true) → (b : Bool) → cond b (Some x.1) (row_at id xs) ≡ Some h.0 → is_live_name name (x ∷ xs) ≡ true
    which more true e = let same : x.1 ≡ h.0 = cc in or_left (has_name name x) (is_live_name name xs) (same_text_from_equal x.1.name name (ap (λ (y : Row). y.name) same ∙ h.2))
    which more false e = or_right (has_name name x) (is_live_name name xs) (more e)
