-- What sessions have seen, and names among live rows.
use Rattle.std.proofs.Common.{◌≡◌, ℕ, ◌==◌, Bool, true, false, ◌&&◌, cond, [], ◌∷◌, Some, None, refl, sym, ap, ◌∙◌, eq-eqb}
use Rattle.std.proofs.lemmas.Bool.{cond_both, cond-true, cond-false, and_from, or_from, or_left, or_right, eqb-true, both_ways}
use Rattle.be_model.specs.declared.changes.Row.{Row}
use Rattle.be_model.specs.ByIds.{row_at}
use Rattle.be_model.proofs.RisingIds.{row_at-first, row_at-later}
use Rattle.be_change.specs.History.{Text, ByIds, has_name, is_of, is_live_name, is_live_name_of}
use Rattle.be_change.specs.Walk.{HasNameAt, HasNameOfAnotherAt}
use Rattle.be_change.specs.LiveRows.{Rising}
use Rattle.be_change.proofs.Names.{found_here, found_later}
use Rattle.be_core.specs.World.{Seen, seen_by, having_seen, named}

pub seen-own : (k n : ℕ) (rs : Seen) → seen_by k (having_seen k n rs) ≡ n
seen-own k n [] = cond-true (k == k) n 0 (eq-eqb k k refl)
seen-own k n (r ∷ rs) =
    cond_both (r.0.0 == k) ((r.0, n) ∷ rs) (r ∷ having_seen k n rs) (λ l. seen_by k l ≡ n)
    (λ t. cond-true (r.0.0 == k) n (seen_by k rs) t)
    (λ f. cond-false (r.0.0 == k) r.1 (seen_by k (having_seen k n rs)) f ∙ seen-own k n rs)

pub seen-other : (j k n : ℕ) (rs : Seen) → (j == k) ≡ false → seen_by k (having_seen j n rs) ≡ seen_by k rs
seen-other j k n [] e = cond-false (j == k) n 0 e
seen-other j k n (r ∷ rs) e =
    cond_both (r.0.0 == j) ((r.0, n) ∷ rs) (r ∷ having_seen j n rs) (λ l. seen_by k l ≡ seen_by k (r ∷ rs))
    (λ t. let f : (r.0.0 == k) ≡ false = ap (λ (i : ℕ). i == k) (eqb-true r.0.0 j t) ∙ e in
    cond-false (r.0.0 == k) n (seen_by k rs) f ∙ sym (cond-false (r.0.0 == k) r.1 (seen_by k rs) f))
    (λ f. ap (λ (x : ℕ). cond (r.0.0 == k) r.1 x) (seen-other j k n rs e))

-- no row is found where the name isn't live
pub named_none : (name : Text) (l : ByIds) → named name l ≡ None → is_live_name name l ≡ false
named_none name [] e = refl
named_none name (x ∷ xs) e = which (λ f. named_none name xs f) (has_name name x) refl e
  where
    which : (named name xs ≡ None → is_live_name name xs ≡ false) → (b : Bool) → has_name name x ≡ b → cond b (Some x) (named name xs) ≡ None → is_live_name name (x ∷ xs) ≡ false
    which more true t e = absurd cc
    which more false f e = or_from (has_name name x) (is_live_name name xs) f (more e)

-- a row that is found has the name, at its id
pub named_at : (name : Text) (l : ByIds) (r : ℕ × Row) → Rising l → named name l ≡ Some r → (row_at r.0 l ≡ Some r.1) × HasNameAt l r.0 name
named_at name [] r a e = absurd cc
named_at name (x ∷ xs) r a e = which (λ f. named_at name xs r a.1 f) (has_name name x) refl e
  where
    at_first : (x ≡ r) → row_at r.0 (x ∷ xs) ≡ Some r.1
    at_first same = row_at-first x xs r.0 (ap (λ (y : ℕ × Row). y.0) same) ∙ ap (λ (y : ℕ × Row). Some y.1) same

    which : (named name xs ≡ Some r → (row_at r.0 xs ≡ Some r.1) × HasNameAt xs r.0 name) → (b : Bool) → has_name name x ≡ b → cond b (Some x) (named name xs) ≡ Some r
        → (row_at r.0 (x ∷ xs) ≡ Some r.1) × HasNameAt (x ∷ xs) r.0 name
    which more true t e = let same : x ≡ r = cc in (at_first same, found_here x xs r.0 name t (ap (λ (y : ℕ × Row). y.0) same))
    which more false f e = let later = more e in (row_at-later x xs r.0 r.1 a later.0, found_later x xs r.0 name a later.1)

-- a row of the session that is found makes its name the session's
pub named_of : (k : ℕ) (name : Text) (l : ByIds) (r : ℕ × Row) → named name l ≡ Some r → is_of k r ≡ true → is_live_name_of k name l ≡ true
named_of k name [] r e of = absurd cc
named_of k name (x ∷ xs) r e of = which (λ f. named_of k name xs r f of) (has_name name x) refl e
  where
    which : (named name xs ≡ Some r → is_live_name_of k name xs ≡ true) → (b : Bool) → has_name name x ≡ b → cond b (Some x) (named name xs) ≡ Some r → is_live_name_of k name (x ∷ xs) ≡ true
    which more true t e =
        let same : x ≡ r = cc in
        or_left (is_of k x && has_name name x) (is_live_name_of k name xs) (and_from (is_of k x) (has_name name x) (ap (is_of k) same ∙ of) t)
    which more false f e = or_right (is_of k x && has_name name x) (is_live_name_of k name xs) (more e)

-- a row of another session that is found
pub named_of_another : (k : ℕ) (name : Text) (l : ByIds) (r : ℕ × Row) → Rising l → named name l ≡ Some r → is_of k r ≡ false → HasNameOfAnotherAt k l r.0 name
named_of_another k name l r a e of =
    let at = named_at name l r a e in
    let named_so = at.1 in
    (named_so.0, named_so.1, named_so.2, λ same. both_ways (is_of k r) of (eq-eqb r.1.session.0 k (ap (λ (y : Row). y.session.0) (some_same (sym at.0 ∙ named_so.1)) ∙ same)))
  where
    some_same : {y z : Row} → Some y ≡ Some z → y ≡ z
    some_same e = cc
