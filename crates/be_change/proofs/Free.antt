-- Which names are live after one more entry, and at which id.
use Rattle.std.proofs.Common.{◌≡◌, ℕ, ◌==◌, Bool, true, false, not, cond, [], ◌∷◌, Some, refl, sym, ap, ◌∙◌}
use Rattle.std.proofs.lemmas.Bool.{and_parts, or_parts, or_from, both_ways, eqb-true, not-true}
use Rattle.be_model.specs.declared.changes.Row.{Row}
use Rattle.be_model.specs.ByIds.{row_at}
use Rattle.be_change.specs.History.{Text, same_text, ByIds, has_name, is_live_name, names_of}
use Rattle.be_change.specs.Walk.{HasNameAt}
use Rattle.be_change.specs.LiveRows.{is_among_texts, all_differ}
use Rattle.be_change.proofs.Names.{found_live}

tail_free : (name : Text) (l : ByIds) → is_among_texts name (names_of l) ≡ false → is_live_name name l ≡ false
tail_free name [] e = refl
tail_free name (x ∷ xs) e =
    let both = or_parts (same_text x.1.name name) (is_among_texts name (names_of xs)) e in
    or_from (has_name name x) (is_live_name name xs) both.0 (tail_free name xs both.1)

-- of rows whose names differ, a name is found at one id alone
pub name_at_one : (l : ByIds) (i j : ℕ) (name : Text) → all_differ (names_of l) ≡ true → HasNameAt l i name → HasNameAt l j name → i ≡ j
name_at_one [] i j name d a b = absurd cc a.1
name_at_one (x ∷ xs) i j name d a b =
    let both = and_parts (not (is_among_texts x.1.name (names_of xs))) (all_differ (names_of xs)) d in
    let free : is_live_name x.1.name xs ≡ false = tail_free x.1.name xs (not-true (is_among_texts x.1.name (names_of xs)) both.0) in
    which free (λ p q. name_at_one xs i j name both.1 p q) (x.0 == i) (x.0 == j) refl refl a.1 b.1
  where
    clash : is_live_name x.1.name xs ≡ false → (m : ℕ) (row : Row) → x.1.name ≡ name → row_at m xs ≡ Some row → row.name ≡ name → i ≡ j
    clash free m row named at is = absurd (both_ways (is_live_name x.1.name xs) free (found_live xs m x.1.name (row, at, is ∙ sym named)))

    first : (row : Row) → Some x.1 ≡ Some row → row.name ≡ name → x.1.name ≡ name
    first row e is = let same : x.1 ≡ row = cc in ap (λ (r : Row). r.name) same ∙ is

    which : is_live_name x.1.name xs ≡ false → (HasNameAt xs i name → HasNameAt xs j name → i ≡ j) → (p q : Bool) → (x.0 == i) ≡ p → (x.0 == j) ≡ q
        → cond p (Some x.1) (row_at i xs) ≡ Some a.0 → cond q (Some x.1) (row_at j xs) ≡ Some b.0 → i ≡ j
    which free more true true p q s t = sym (eqb-true x.0 i p) ∙ eqb-true x.0 j q
    which free more true false p q s t = clash free j b.0 (first a.0 s a.2) t b.2
    which free more false true p q s t = clash free i a.0 (first b.0 t b.2) s a.2
    which free more false false p q s t = more (a.0, s, a.2) (b.0, t, b.2)
