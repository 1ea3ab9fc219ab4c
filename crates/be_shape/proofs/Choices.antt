-- Places are chosen one after another.
use Rattle.std.proofs.Common.{◌≡◌, ℕ, ◌+◌, ◌<◌, ◌≤◌, Bool, true, false, cond, List, [], ◌∷◌, ◌++◌, length, map, take, drop, set, get_or, slice_get, Option, Some, None, option_map, min, refl, sym, ap, ap₂, subst, ◌∙◌, arith}
use Rattle.std.proofs.lemmas.List.{map-append, take-set, take_more_set, take_min, take_more, get_or-drop, append-nil, length-drop}
use Rattle.std.specs.List.{All}
use Rattle.std.proofs.lemmas.List.Elements.{filter-append, All-append, All-cons, All-nil}
use Rattle.std.proofs.lemmas.Option.{slice_get-get_or, slice_get_within, get_or_from_slice_get}
use mir.Val.{bool_byte}
use Rattle.be_model.specs.declared.changes.Row.{Row}
use Rattle.be_model.specs.Matching.{Assignments, satisfies, satisfied}
use Rattle.be_shape.specs.declared.leaves.Choice.{Choice}
use Rattle.be_shape.specs.Chosen.{Covers, IsRight, met_from}

-- one for yes
pub byte_cond : (b : Bool) → bool_byte b ≡ cond b 1 0
byte_cond true = refl
byte_cond false = refl

pub cond_small : (b : Bool) → cond b 1 0 ≤ 1
cond_small true = omega arith
cond_small false = omega arith

-- with a row more
more_met : (e : Assignments) (rows : List Row) (from n : ℕ) (row : Row) → slice_get rows (from + n) ≡ Some row → met_from e rows from (n + 1) ≡ met_from e rows from n ++ satisfied e (row ∷ [])
more_met e rows from n row at =
    let l : n < length (drop from rows) = omega (arith, slice_get_within rows (from + n) row at, length-drop from rows) in
    let is : get_or (drop from rows) n row ≡ row = get_or-drop from rows n row ∙ get_or_from_slice_get rows (from + n) row row at in
    ap (satisfied e) (take_more (drop from rows) n row l ∙ ap (λ r. take n (drop from rows) ++ r ∷ []) is) ∙ filter-append (λ (r : Row). satisfies e r.conj) (take n (drop from rows)) (row ∷ [])

-- a place that is noted
covers_more : (e : Assignments) (rows : List Row) (from n k : ℕ) (chosen : List Choice) (c : Choice) (row : Row) → c.at ≡ n → IsRight e rows from c → slice_get rows (from + n) ≡ Some row → k < length chosen → Covers e rows from n (take k chosen)
    → Covers e rows from (n + 1) (take (k + 1) (set chosen k c))
covers_more e rows from n k chosen c row is right at room was = record {
  found = was.found ++ row ∷ [];
  at = ap (map (λ (d : Choice). slice_get rows (from + d.at))) (take_more_set chosen k c room) ∙ map-append (λ (d : Choice). slice_get rows (from + d.at)) (take k chosen) (c ∷ [])
      ∙ ap₂ (λ xs ys. xs ++ ys) was.at (ap (λ o. o ∷ []) (ap (λ m. slice_get rows (from + m)) is ∙ at)) ∙ sym (map-append Some was.found (row ∷ []));
  sure = subst (All (IsRight e rows from)) (sym (take_more_set chosen k c room)) (All-append (IsRight e rows from) (take k chosen) (c ∷ []) was.sure (All-cons (IsRight e rows from) c [] right (All-nil (IsRight e rows from))));
  all = filter-append (λ (r : Row). satisfies e r.conj) was.found (row ∷ []) ∙ ap (λ rs. rs ++ satisfied e (row ∷ [])) was.all ∙ sym (more_met e rows from n row at);
}

-- a place that isn't
covers_same : (e : Assignments) (rows : List Row) (from n k : ℕ) (chosen : List Choice) (c : Choice) (row : Row) → slice_get rows (from + n) ≡ Some row → satisfies e row.conj ≡ false → Covers e rows from n (take k chosen)
    → Covers e rows from (n + 1) (take k (set chosen k c))
covers_same e rows from n k chosen c row at met was = record {
  found = was.found;
  at = ap (map (λ (d : Choice). slice_get rows (from + d.at))) (take-set chosen k c) ∙ was.at;
  sure = subst (All (IsRight e rows from)) (sym (take-set chosen k c)) was.sure;
  all = was.all ∙ sym (more_met e rows from n row at ∙ ap (λ b. met_from e rows from n ++ cond b (row ∷ []) []) met ∙ append-nil (met_from e rows from n));
}

-- one place more was looked at
pub covers_next : (e : Assignments) (rows : List Row) (from n k k' : ℕ) (chosen : List Choice) (c : Choice) (b : Bool) → c.at ≡ n → k' ≡ k + cond b 1 0 → (option_map (λ (row : Row). satisfies e row.conj) (slice_get rows (from + n)) ≡ Some true → b ≡ true)
    → (b ≡ true → c.sure ≡ true → option_map (λ (row : Row). satisfies e row.conj) (slice_get rows (from + n)) ≡ Some true) → from + n < length rows → k < length chosen → Covers e rows from n (take k chosen) → Covers e rows from (n + 1) (take k' (set chosen k c))
covers_next e rows from n k k' chosen c b place is may sure there room was = by_row (slice_get rows (from + n)) refl
  where
    right : b ≡ true → IsRight e rows from c
    right f = λ h. ap (λ m. option_map (λ (row : Row). satisfies e row.conj) (slice_get rows (from + m))) place ∙ sure f h

    by_answer : (row : Row) → slice_get rows (from + n) ≡ Some row → (a : Bool) → b ≡ a → (d : Bool) → satisfies e row.conj ≡ d → Covers e rows from (n + 1) (take k' (set chosen k c))
    by_answer row at true f d g = subst (λ m. Covers e rows from (n + 1) (take m (set chosen k c))) (sym (is ∙ ap (λ a. k + cond a 1 0) f)) (covers_more e rows from n k chosen c row place (right f) at room was)
    by_answer row at false f true g = absurd (let h = sym f ∙ may (ap (option_map (λ (r : Row). satisfies e r.conj)) at ∙ ap Some g) in cc)
    by_answer row at false f false g =
        let same : k' ≡ k = omega (arith, is ∙ ap (λ a. k + cond a 1 0) f) in
        subst (λ m. Covers e rows from (n + 1) (take m (set chosen k c))) (sym same) (covers_same e rows from n k chosen c row at g was)

    by_row : (o : Option Row) → slice_get rows (from + n) ≡ o → Covers e rows from (n + 1) (take k' (set chosen k c))
    by_row None at = absurd (missing rows (from + n) there at)
      where
        missing : (xs : List Row) (j : ℕ) → j < length xs → slice_get xs j ≡ None → ⊥
        missing [] j h m = absurd (omega (arith, h))
        missing (x ∷ xs) j h m = absurd (let z = slice_get-get_or (x ∷ xs) j x h in cc)
    by_row (Some row) at = by_answer row at b refl (satisfies e row.conj) refl

-- all of a block were looked at
pub all_covered : (e : Assignments) (rows : List Row) (from n : ℕ) (chosen : List Choice) → n ≡ min 32 (length (drop from rows)) → Covers e rows from n chosen → Covers e rows from 32 chosen
all_covered e rows from n chosen h was =
    record { found = was.found; at = was.at; sure = was.sure; all = was.all ∙ ap (λ m. met_from e rows from m) h ∙ ap (satisfied e) (take_min 32 (drop from rows)) }

-- the same of rows and values that are these
pub all_covered_there : (e f : Assignments) (rows others : List Row) (from n : ℕ) (chosen : List Choice) → f ≡ e → others ≡ rows → n ≡ min 32 (length (drop from rows)) → Covers f others from n chosen → Covers e rows from 32 chosen
all_covered_there e f rows others from n chosen same are h was =
    all_covered e rows from n chosen h (subst (λ x. Covers x rows from n chosen) same (subst (λ xs. Covers f xs from n chosen) are was))
