-- The list of a local copy: how it begins, how it grows, and what may come next.
use Rattle.std.proofs.Common.{◌≡◌, ℕ, ◌==◌, Bool, true, false, ◌&&◌, ◌||◌, cond, List, [], ◌∷◌, ◌++◌, length, refl, sym, ap, ◌∙◌, subst, arith, length-append}
use Rattle.std.specs.List.{list_all}
use Rattle.std.proofs.lemmas.Bool.{and_from, or_right, eq-eqb}
use Rattle.std.proofs.lemmas.List.Folds.{list_all-append, list_any-append}
use Rattle.be_model.specs.declared.changes.Row.{Row}
use Rattle.be_model.specs.Schemas.{Attributes}
use Rattle.be_change.specs.History.{Entry, is_opening, is_leave_of, entries_of, has_left, session_of, MayFollow}
use Rattle.be_change.specs.Opening.{IsTable, opening_of}
use Rattle.be_change.specs.Laws.{IsOpened}
use Rattle.be_change.proofs.Alone.{opening_apart}
use Rattle.be_change.proofs.Places.{no_places}
use Rattle.be_change.proofs.Openings.{table_opens}
use Rattle.be_change.proofs.Forms.{formed_append, entries_of-append}
use Rattle.be_copy.specs.Edits.{fits, with_entry}
use Rattle.be_board.specs.LocalCopy.{is_local, IsLocal}

opening_local : (h : List Entry) → list_all is_opening h ≡ true → list_all is_local h ≡ true
opening_local [] all = refl
opening_local (e ∷ es) all = step (session_of e == 0) all (opening_local es)
  where
    step : (b : Bool) → (b && list_all is_opening es) ≡ true → (list_all is_opening es ≡ true → list_all is_local es ≡ true) → ((b || (session_of e == 1)) && list_all is_local es) ≡ true
    step true all rest = rest all
    step false all rest = absurd cc

-- an opening of a table has no entry of session 1
pub none_opened : (rows : List Row) → IsTable rows → entries_of 1 (opening_of rows) ≡ []
none_opened rows t = opening_apart 1 (opening_of rows) (λ same. absurd cc) (table_opens rows t).alone

-- a table opens such a list
pub local_opened : (rows : List Row) (h : List Entry) → IsTable rows → h ≡ opening_of rows → IsLocal h (length h) false
local_opened rows h t is =
    let o : IsOpened rows = table_opens rows t in
    let none = none_opened rows t in
    subst (λ (l : List Entry). IsLocal l (length l) false) (sym is) (record {
      form = record { formed = o.formed; local = opening_local (opening_of rows) o.alone };
      count = omega (arith, ap (λ (l : List Entry). length l) none);
      bye = sym (no_places 1 0 (opening_of rows) none).1;
    })

local_one : (e : Entry) → session_of e ≡ 1 → is_local e ≡ true
local_one e own = or_right (session_of e == 0) (session_of e == 1) (eq-eqb (session_of e) 1 own)

-- one more entry of session 1
pub local_append : (h : List Entry) (e : Entry) (opening : ℕ) (gone leaves : Bool) → IsLocal h opening gone → MayFollow h e → session_of e ≡ 1 → leaves ≡ is_leave_of 1 e → IsLocal (h ++ e ∷ []) opening leaves
local_append h e opening gone leaves k may own is =
    let one : entries_of 1 (e ∷ []) ≡ e ∷ [] = ap (λ (b : Bool). cond b (e ∷ []) []) (eq-eqb (session_of e) 1 own) in
    let all : entries_of 1 (h ++ e ∷ []) ≡ entries_of 1 h ++ e ∷ [] = entries_of-append 1 h (e ∷ []) ∙ ap (λ (l : List Entry). entries_of 1 h ++ l) one in
    let present : has_left 1 h ≡ false = ap (λ (j : ℕ). has_left j h) (sym own) ∙ may.present in
    record {
      form = record {
        formed = formed_append h e k.form.formed may;
        local = list_all-append is_local h (e ∷ []) ∙ and_from (list_all is_local h) (list_all is_local (e ∷ [])) k.form.local (and_from (is_local e) true (local_one e own) refl);
      };
      count = omega (arith, k.count, ap (λ (l : List Entry). length l) all, length-append (entries_of 1 h) (e ∷ []), length-append h (e ∷ []));
      bye = is ∙ sym (list_any-append (is_leave_of 1) h (e ∷ []) ∙ (ap (λ (b : Bool). b || has_left 1 (e ∷ [])) present ∙ last (is_leave_of 1 e)));
    }
  where
    last : (b : Bool) → (false || (b || false)) ≡ b
    last true = refl
    last false = refl

-- a change that may come next, absorbed
pub local_absorbed : (s : Attributes) (h h' : List Entry) (e : Entry) (opening : ℕ) (gone leaves : Bool) → IsLocal h opening gone → MayFollow h e → session_of e ≡ 1 → leaves ≡ is_leave_of 1 e
    → fits s h e ≡ true → h' ≡ with_entry s h e → IsLocal h' opening leaves
local_absorbed s h h' e opening gone leaves k may own is fit put =
    subst (λ (l : List Entry). IsLocal l opening leaves) (sym (put ∙ ap (λ (b : Bool). cond b (h ++ e ∷ []) h) fit)) (local_append h e opening gone leaves k may own is)
