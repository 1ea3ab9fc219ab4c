-- What the type of a copy keeps, as its list grows.
use Rattle.std.proofs.Common.{◌≡◌, ℕ, ◌+◌, ◌≤◌, ◌==◌, ◌&&◌, true, false, not, List, [], ◌∷◌, ◌++◌, length, Result, Ok, Err, OnOk, Bool, Option, Some, None, option_map, find, cond, ◌||◌, refl, sym, ap, ◌∙◌, subst, arith}
use Rattle.std.proofs.lemmas.Bool.{and_parts, and_from}
use Rattle.std.proofs.lemmas.List.Folds.{list_all-append}
use Rattle.std.specs.Option.{IfNone}
use Rattle.be_base.specs.Text.{Text}
use Rattle.be_base.specs.declared.limits.TheConstants.{LOG_CHANGES}
use Rattle.be_model.specs.declared.changes.Row.{Row}
use Rattle.be_model.specs.Rows.{id_of}
use Rattle.be_model.specs.ByIds.{ByIds, AllBelow, SayIds, has_id, is_of, row_at, put_by_id}
use Rattle.be_model.specs.Schemas.{Attributes}
use Rattle.be_model.specs.Lies.{row_lies, entry_lies}
use Rattle.be_model.proofs.RisingIds.{SayIds-filter, SayIds-snoc, above_is_new, put_greatest}
use Rattle.be_change.specs.Entries.{HasIdAt, HaveIdsFrom, IdsArePlaces}
use Rattle.be_change.specs.History.{Entry, subscribed, unsubscribed, left, live, live_from, after_entry, has_name, is_live_name}
use Rattle.be_change.specs.Sound.{all_lie}
use Rattle.be_change.proofs.Grows.{live-append, live_below, rising_live}
use Rattle.be_change.proofs.Listed.{live_listed}
use Rattle.be_index.specs.Promise.{IsMap}
use Rattle.be_copy.specs.declared.register.Register.{Register}
use Rattle.be_copy.specs.Edits.{fits}
use Rattle.be_copy.specs.Registers.{IsRegister, AreOfList, IsKept}
use Rattle.be_copy.proofs.Firsts.{no_pair, unmapped}

-- live rows are rows of the list
pub kept_listed : (h : List Entry) (rows : ByIds) → rows ≡ live h → AreOfList h rows
kept_listed h rows is i row at = live_listed h i row (sym (ap (row_at i) is) ∙ at)

rows_below : (h : List Entry) (rows : ByIds) → rows ≡ live h → AllBelow (length h) rows
rows_below h rows is = subst (AllBelow (length h)) (sym is) (live_below h)

below_more : (n k : ℕ) (m : ByIds) → n ≤ k → AllBelow n m → AllBelow k m
below_more n k [] few b = tt
below_more n k (r ∷ rs) few b = (omega (arith, b.0, few), below_more n k rs few b.1)

say_after : (l : ByIds) (place : ℕ) (e : Entry) → HasIdAt place e → SayIds l → SayIds (after_entry l place e)
say_after l place (subscribed k n row) id say = SayIds-snoc l (place, row) say id
say_after l place (unsubscribed k n name) id say = SayIds-filter (λ r. not (is_of k r && has_name name r)) l say
say_after l place (left k n) id say = SayIds-filter (λ r. not (is_of k r)) l say

say_from : (l : ByIds) (place : ℕ) (h : List Entry) → HaveIdsFrom place h → SayIds l → SayIds (live_from l place h)
say_from l place [] ids say = say
say_from l place (e ∷ es) ids say = say_from (after_entry l place e) (place + 1) es ids.1 (say_after l place e ids.0 say)

-- the live rows of a list are a map, where the id of each Sub's row is its place
pub kept_map : (h : List Entry) (rows : ByIds) (n spare : ℕ) → rows ≡ live h → n ≡ length h → n + spare ≤ LOG_CHANGES → IdsArePlaces h → IsMap rows
kept_map h rows n spare is len few ids =
    let map : IsMap (live h) = record { rising = rising_live h; say = say_from [] 0 h ids tt; low = below_more (length h) LOG_CHANGES (live h) (omega (arith, len, few)) (live_below h) } in
    subst IsMap (sym is) map

-- no live row has the next place as its id
pub next_is_new : (h : List Entry) (rows : ByIds) (id : ℕ) → rows ≡ live h → id ≡ length h → has_id id rows ≡ false
next_is_new h rows id is at = above_is_new (length h) id rows at (rows_below h rows is)

-- and a row with it is put last
pub put_next : {A B : Type 0} (r : Result A B) (h : List Entry) (rows rows' : ByIds) (put row : Row) → rows ≡ live h → put ≡ row → id_of row ≡ length h
    → OnOk r (rows' ≡ put_by_id put rows) → OnOk r (rows' ≡ rows ++ (length h, row) ∷ [])
put_next (Ok x) h rows rows' put row is same id e = e ∙ ap (λ (q : Row). put_by_id q rows) same ∙ put_greatest (length h) row rows id (rows_below h rows is)
put_next (Err x) h rows rows' put row is same id e = tt

fits_lies : (s : Attributes) (h : List Entry) (e : Entry) → fits s h e ≡ true → entry_lies s e ≡ true
fits_lies s h (subscribed k n row) e = (and_parts (row.id.0 == length h) (row_lies s row) e).1
fits_lies s h (unsubscribed k n name) e = refl
fits_lies s h (left k n) e = refl

-- one entry more
pub kept_after : (s s' : Attributes) (h h' : List Entry) (rows rows' : ByIds) (r r' : Register) (e : Entry) → IsKept s h rows r → fits s h e ≡ true
    → s' ≡ s → h' ≡ h ++ e ∷ [] → rows' ≡ after_entry rows (length h) e → IsRegister r' rows' → IsKept s' h' rows' r'
kept_after s s' h h' rows rows' r r' e kept fit same grown become filed = record {
  live = become ∙ ap (λ (m : ByIds). after_entry m (length h) e) kept.live ∙ sym (live-append h e) ∙ ap live (sym grown);
  lies =
      ap (λ (a : Attributes). all_lie a h') same ∙ ap (all_lie s) grown ∙ list_all-append (entry_lies s) h (e ∷ [])
      ∙ and_from (all_lie s h) (all_lie s (e ∷ [])) kept.lies (and_from (entry_lies s e) true (fits_lies s h e fit) refl);
  filed = filed;
}

-- no row has the name
not_live : (name : Text) (l : ByIds) → find (has_name name) l ≡ no_pair → is_live_name name l ≡ false
not_live name [] e = refl
not_live name (x ∷ xs) e = step (has_name name x) e (λ rest. not_live name xs rest)
  where
    step : (b : Bool) → cond b (Some x) (find (has_name name) xs) ≡ no_pair → (find (has_name name) xs ≡ no_pair → is_live_name name xs ≡ false) → (b || is_live_name name xs) ≡ false
    step true e more = absurd cc
    step false e more = more e

-- where none is lent the name isn't live
pub none_named : {X : Type 0} (f : X → Row) (o : Option X) (rows l : ByIds) (name : Text) → rows ≡ l → option_map f o ≡ option_map (λ (x : ℕ × Row). x.1) (find (has_name name) rows)
    → IfNone o (is_live_name name l ≡ false)
none_named f None rows l name is e = ap (is_live_name name) (sym is) ∙ not_live name rows (unmapped (find (has_name name) rows) e)
none_named f (Some x) rows l name is e = tt
