-- A table opens a well formed list.
use Rattle.std.proofs.Common.{◌≡◌, ℕ, suc, ◌+◌, true, false, not, List, [], ◌∷◌, ◌++◌, length, refl, sym, ap, ◌∙◌, subst, arith, append_assoc, zero-add, length-append}
use Rattle.std.specs.Prelude.{map}
use Rattle.std.specs.List.{list_all}
use Rattle.std.proofs.lemmas.Bool.{and_parts, or_parts, or_from, eqb-true, not-true}
use Rattle.std.proofs.lemmas.List.{append-nil}
use Rattle.be_base.specs.Text.{Text, same_text}
use Rattle.be_base.specs.TextLists.{is_among_texts, all_differ}
use Rattle.be_model.specs.declared.changes.Row.{Row}
use Rattle.be_model.specs.ByIds.{ByIds, SayIds}
use Rattle.be_change.specs.History.{Entry, subscribed, is_opening, entries_of, has_left, live, live_from, is_live_name, IsWellFormedAfter, MayFollow}
use Rattle.be_change.specs.Opening.{subs_of, by_place, is_of_nobody, IsTable}
use Rattle.be_change.specs.Laws.{IsOpened}
use Rattle.be_change.proofs.Names.{text_turned}

subs_from : (k n id : ℕ) (l : ByIds) (rows : List Row) → live_from l id (subs_of k n rows) ≡ l ++ by_place id rows
subs_from k n id l [] = sym (append-nil l)
subs_from k n id l (row ∷ rows) = subs_from k (n + 1) (id + 1) (l ++ (id, row) ∷ []) rows ∙ append_assoc l ((id, row) ∷ []) (by_place (id + 1) rows)

-- after Subs alone each row is live, at its place
pub subs_live : (k n : ℕ) (rows : List Row) → live (subs_of k n rows) ≡ by_place 0 rows
subs_live k n rows = subs_from k n 0 [] rows

pub length-subs_of : (k n : ℕ) (rows : List Row) → length (subs_of k n rows) ≡ length rows
length-subs_of k n [] = refl
length-subs_of k n (row ∷ rows) = ap (λ (m : ℕ). suc m) (length-subs_of k (n + 1) rows)

pub subs_of-snoc : (k n : ℕ) (rows : List Row) (row : Row) → subs_of k n (rows ++ row ∷ []) ≡ subs_of k n rows ++ subscribed k (n + length rows) row ∷ []
subs_of-snoc k n [] row = ap (λ (m : ℕ). subscribed k m row ∷ []) (omega arith)
subs_of-snoc k n (x ∷ xs) row =
    ap (λ (l : List Entry). subscribed k n x ∷ l) (subs_of-snoc k (n + 1) xs row ∙ ap (λ (m : ℕ). subs_of k (n + 1) xs ++ subscribed k m row ∷ []) (omega arith))

subs_opening : (n : ℕ) (rows : List Row) → list_all is_opening (subs_of 0 n rows) ≡ true
subs_opening n [] = refl
subs_opening n (row ∷ rows) = subs_opening (n + 1) rows

subs_entries : (n : ℕ) (rows : List Row) → entries_of 0 (subs_of 0 n rows) ≡ subs_of 0 n rows
subs_entries n [] = refl
subs_entries n (row ∷ rows) = ap (λ (l : List Entry). subscribed 0 n row ∷ l) (subs_entries (n + 1) rows)

subs_stay : (n : ℕ) (rows : List Row) → has_left 0 (subs_of 0 n rows) ≡ false
subs_stay n [] = refl
subs_stay n (row ∷ rows) = subs_stay (n + 1) rows

abbrev names_in : List Row → List Text
names_in rows = map (λ (row : Row). row.name) rows

apart_from : (name : Text) (front rows : List Row) (row : Row) → is_among_texts name (names_in (front ++ row ∷ rows)) ≡ false → same_text row.name name ≡ false
apart_from name [] rows row e = (or_parts (same_text row.name name) (is_among_texts name (names_in rows)) e).0
apart_from name (x ∷ xs) rows row e = apart_from name xs rows row (or_parts (same_text x.name name) (is_among_texts name (names_in (xs ++ row ∷ rows))) e).1

-- of names that differ none is among those before it
free_before : (front rows : List Row) (row : Row) (n : ℕ) → all_differ (names_in (front ++ row ∷ rows)) ≡ true → is_live_name row.name (by_place n front) ≡ false
free_before [] rows row n d = refl
free_before (x ∷ xs) rows row n d =
    let both = and_parts (not (is_among_texts x.name (names_in (xs ++ row ∷ rows)))) (all_differ (names_in (xs ++ row ∷ rows))) d in
    or_from (same_text x.name row.name) (is_live_name row.name (by_place (n + 1) xs))
    (text_turned row.name x.name (apart_from x.name xs rows row (not-true (is_among_texts x.name (names_in (xs ++ row ∷ rows))) both.0)))
    (free_before xs rows row (n + 1) both.1)

opens_next : (front rows : List Row) (row : Row) → is_of_nobody row ≡ true → row.id.0 ≡ length front → all_differ (names_in (front ++ row ∷ rows)) ≡ true
    → MayFollow (subs_of 0 0 front) (subscribed 0 (length front) row)
opens_next front rows row of id names = record {
  opening = λ z. record { sub = refl; first = subs_opening 0 front };
  serial = sym (ap (λ (l : List Entry). length l) (subs_entries 0 front) ∙ length-subs_of 0 0 front);
  present = subs_stay 0 front;
  allowed = (
    ap (is_live_name row.name) (subs_live 0 0 front) ∙ free_before front rows row 0 names,
    id ∙ sym (length-subs_of 0 0 front),
    eqb-true row.session.0 0 of,
  );
}

opens_from : (front rows : List Row) (n : ℕ) → n ≡ length front → list_all is_of_nobody rows ≡ true → SayIds (by_place n rows) → all_differ (names_in (front ++ rows)) ≡ true
    → IsWellFormedAfter (subs_of 0 0 front) (subs_of 0 n rows)
opens_from front [] n is of ids names = tt
opens_from front (row ∷ rows) n is of ids names =
    let mine = and_parts (is_of_nobody row) (list_all is_of_nobody rows) of in
    let now : subs_of 0 0 (front ++ row ∷ []) ≡ subs_of 0 0 front ++ subscribed 0 n row ∷ [] =
    subs_of-snoc 0 0 front row ∙ ap (λ (m : ℕ). subs_of 0 0 front ++ subscribed 0 m row ∷ []) (zero-add (length front) ∙ sym is) in (
      subst (λ (m : ℕ). MayFollow (subs_of 0 0 front) (subscribed 0 m row)) (sym is) (opens_next front rows row mine.0 (ids.0 ∙ is) names),
      subst (λ (l : List Entry). IsWellFormedAfter l (subs_of 0 (n + 1) rows)) now
          (opens_from (front ++ row ∷ []) rows (n + 1) (omega (arith, length-append front (row ∷ []))) mine.1 ids.1
          (ap (λ (l : List Row). all_differ (names_in l)) (append_assoc front (row ∷ []) rows) ∙ names)),
    )

-- a table opens a well formed list, in which each of its rows is live at its place
pub table_opens : (rows : List Row) → IsTable rows → IsOpened rows
table_opens rows t = record { formed = opens_from [] rows 0 refl t.owner t.ids t.names; alone = subs_opening 0 rows; live = subs_live 0 0 rows }
