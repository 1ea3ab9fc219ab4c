-- Whose the live row of a name is.
use Rattle.std.proofs.Common.{◌≡◌, ◌⊎◌, inl, inr, ℕ, Bool, true, false, not, ◌&&◌, ◌||◌, cond, List, [], ◌∷◌, Option, Some, None, option_map, refl, sym, ap, ◌∙◌}
use Rattle.std.specs.Prelude.{find}
use Rattle.std.proofs.lemmas.Bool.{and_parts, and_from, or_left, or_right, eqb-true, eq-eqb, not-true}
use Rattle.be_base.specs.Text.{Text}
use Rattle.be_base.proofs.SameText.{equal_from_same_text}
use Rattle.be_model.specs.declared.changes.Row.{Row}
use Rattle.be_change.specs.History.{Entry, ByIds, live, has_name, is_of, is_live_name, is_live_name_of, names_of, IsWellFormed}
use Rattle.be_change.specs.LiveRows.{is_among_texts, all_differ}
use Rattle.be_change.proofs.Names.{live_differ}
use Rattle.be_follow.specs.Placing.{owner_of}

-- a name that has no owner is free
pub free_name : (name : Text) (l : ByIds) → owner_of name l ≡ None → is_live_name name l ≡ false
free_name name [] e = refl
free_name name (r ∷ l) e = step (has_name name r) refl e (free_name name l)
  where
    step : (b : Bool) → has_name name r ≡ b → option_map (λ (x : ℕ × Row). x.1.session.0) (cond b (Some r) (find (has_name name) l)) ≡ None → (owner_of name l ≡ None → is_live_name name l ≡ false)
        → (b || is_live_name name l) ≡ false
    step true h e rest = absurd cc
    step false h e rest = rest e

-- where it is a session's, the session has a live row of the name
pub first_owned : (k : ℕ) (name : Text) (l : ByIds) → owner_of name l ≡ Some k → is_live_name_of k name l ≡ true
first_owned k name [] e = absurd cc
first_owned k name (r ∷ l) e = step (has_name name r) refl (first_owned k name l) e
  where
    step : (b : Bool) → has_name name r ≡ b → (owner_of name l ≡ Some k → is_live_name_of k name l ≡ true) → option_map (λ (x : ℕ × Row). x.1.session.0) (cond b (Some r) (find (has_name name) l)) ≡ Some k
        → is_live_name_of k name (r ∷ l) ≡ true
    step true h rest e =
        let same : r.1.session.0 ≡ k = cc in
        or_left (is_of k r && has_name name r) (is_live_name_of k name l) (and_from (is_of k r) (has_name name r) (eq-eqb r.1.session.0 k same) h)
    step false h rest e = or_right (is_of k r && has_name name r) (is_live_name_of k name l) (rest e)

-- a live name of a session is live
pub owned_is_live : (k : ℕ) (name : Text) (l : ByIds) → is_live_name_of k name l ≡ true → is_live_name name l ≡ true
owned_is_live k name [] e = e
owned_is_live k name (r ∷ l) e = by_first (is_of k r) (has_name name r) e (owned_is_live k name l)
  where
    by_first : (b c : Bool) → ((b && c) || is_live_name_of k name l) ≡ true → (is_live_name_of k name l ≡ true → is_live_name name l ≡ true) → (c || is_live_name name l) ≡ true
    by_first b true e rest = refl
    by_first true false e rest = rest e
    by_first false false e rest = rest e

names_live : (name : Text) (l : ByIds) → is_among_texts name (names_of l) ≡ is_live_name name l
names_live name [] = refl
names_live name (r ∷ l) = ap (λ b. has_name name r || b) (names_live name l)

first_owner : (k j : ℕ) (name : Text) (l : ByIds) → all_differ (names_of l) ≡ true → owner_of name l ≡ Some j → is_live_name_of k name l ≡ true → j ≡ k
first_owner k j name [] d e t = absurd cc
first_owner k j name (r ∷ l) d e t =
    by_first (has_name name r) refl e t (λ x. first_owner k j name l (and_parts (not (is_among_texts r.1.name (names_of l))) (all_differ (names_of l)) d).1 x)
  where
    none_later : has_name name r ≡ true → is_live_name_of k name l ≡ true → ⊥
    none_later h later =
        let same : r.1.name ≡ name = equal_from_same_text r.1.name name h in
        let free : is_among_texts r.1.name (names_of l) ≡ false = not-true (is_among_texts r.1.name (names_of l)) (and_parts (not (is_among_texts r.1.name (names_of l))) (all_differ (names_of l)) d).0 in
        let there : is_among_texts r.1.name (names_of l) ≡ true = ap (λ (n : Text). is_among_texts n (names_of l)) same ∙ names_live name l ∙ owned_is_live k name l later in
        absurd cc

    here : has_name name r ≡ true → r.1.session.0 ≡ j → (is_of k r ≡ true) ⊎ (is_live_name_of k name l ≡ true) → j ≡ k
    here h same (inl of) = sym same ∙ eqb-true r.1.session.0 k of
    here h same (inr later) = absurd (none_later h later)

    split : (b c : Bool) → c ≡ true → ((b && c) || is_live_name_of k name l) ≡ true → (b ≡ true) ⊎ (is_live_name_of k name l ≡ true)
    split true c h t = inl refl
    split false c h t = inr t

    by_first : (b : Bool) → has_name name r ≡ b → option_map (λ (x : ℕ × Row). x.1.session.0) (cond b (Some r) (find (has_name name) l)) ≡ Some j
        → ((is_of k r && has_name name r) || is_live_name_of k name l) ≡ true → (owner_of name l ≡ Some j → is_live_name_of k name l ≡ true → j ≡ k) → j ≡ k
    by_first true h e t rest = let same : r.1.session.0 ≡ j = cc in here h same (split (is_of k r) (has_name name r) h t)
    by_first false h e t rest = rest e (later (is_of k r) (has_name name r) h t)
      where
        later : (b c : Bool) → c ≡ false → ((b && c) || is_live_name_of k name l) ≡ true → is_live_name_of k name l ≡ true
        later true true f t = absurd cc
        later false true f t = t
        later true false f t = t
        later false false f t = t

-- where a session has a live row of the name, the session is its owner
pub owner : (k j : ℕ) (name : Text) (h : List Entry) → IsWellFormed h → owner_of name (live h) ≡ Some j → is_live_name_of k name (live h) ≡ true → j ≡ k
owner k j name h formed e t = first_owner k j name (live h) (live_differ h formed) e t
