-- The register, as rows come and go.
use Rattle.std.proofs.Common.{◌≡◌, ℕ, ◌+◌, ◌≤◌, ◌<◌, ◌==◌, Bool, true, false, not, ◌&&◌, cond, List, [], ◌∷◌, ◌++◌, length, filter, Some, refl, sym, ap, ◌∙◌, subst, arith, length-append}
use Rattle.std.proofs.lemmas.Bool.{eqb-true}
use Rattle.be_model.specs.declared.changes.Row.{Row}
use Rattle.be_model.specs.Rows.{id_of}
use Rattle.be_model.specs.ByIds.{ByIds, Rising, AllAbove, AllBelow, is_of, has_id, row_at, without_id, put_by_id}
use Rattle.be_model.proofs.RowsByIds.{found_says}
use Rattle.be_model.proofs.RisingIds.{above_is_new, put_greatest}
use Rattle.be_change.specs.History.{Text, Entry, live, after_entry, has_name, is_live_name_of, IsWellFormed}
use Rattle.be_change.specs.LiveRows.{LosesOne}
use Rattle.be_change.proofs.Grows.{live_below, live-append, rising_live}
use Rattle.be_change.proofs.Names.{live_differ, live_say, loses_one}
use Rattle.be_copy.specs.declared.register.Register.{Register as Filed}
use Rattle.be_copy.specs.Keys.{name_key}
use Rattle.be_copy.specs.Places.{is_listed, is_pair}
use Rattle.be_copy.specs.Bitmaps.{is_noted}
use Rattle.be_copy.specs.Registers.{IsRegister as IsFiled, AreFiled, session_of_row, key_of_row}
use Rattle.be_copy.proofs.Filed.{filed_drop}
use Rattle.be_core.specs.World.{named}
use Rattle.be_desk.specs.declared.register.Register.{Register}
use Rattle.be_desk.specs.Registers.{with_row, IsRegister}
use Rattle.be_desk.proofs.Named.{without_above, row_at-middle, without-middle, found_at}

few_above : (low n : ℕ) (m : ByIds) → low < n → AllAbove low m → AllBelow n m → Rising m → low + length m < n
few_above low n [] lt above below up = omega (arith, lt)
few_above low n (r ∷ rs) lt above below up = omega (arith, above.0, few_above r.0 n rs below.0 up.0 below.1 up.1)

few : (n : ℕ) (m : ByIds) → AllBelow n m → Rising m → length m ≤ n
few n [] below up = omega arith
few n (r ∷ rs) below up = omega (arith, few_above r.0 n rs below.0 up.0 below.1 up.1)

-- no more rows are live than the list has entries
pub live_few : (h : List Entry) → length (live h) ≤ length h
live_few h = few (length h) (live h) (live_below h) (rising_live h)

-- the row that is subscribed next has a new id
pub is_new : (h : List Entry) (row : Row) → id_of row ≡ length h → has_id (id_of row) (live h) ≡ false
is_new h row next = above_is_new (length h) (id_of row) (live h) next (live_below h)

-- and is put last
pub put_last : (h : List Entry) (row : Row) → id_of row ≡ length h → put_by_id row (live h) ≡ with_row h row
put_last h row next = put_greatest (length h) row (live h) next (live_below h)

pub one_more : (h : List Entry) (row : Row) → length (with_row h row) ≡ length (live h) + 1
one_more h row = length-append (live h) ((length h, row) ∷ [])

-- a row less
pub one_less : (m : ByIds) (id : ℕ) (row : Row) → Rising m → row_at id m ≡ Some row → length (without_id id m) + 1 ≡ length m
one_less [] id row up at = absurd cc
one_less (x ∷ xs) id row up at = step (x.0 == id) refl at (λ e. one_less xs id row up.1 e)
  where
    step : (b : Bool) → (x.0 == id) ≡ b → cond b (Some x.1) (row_at id xs) ≡ Some row → (row_at id xs ≡ Some row → length (without_id id xs) + 1 ≡ length xs)
        → length (cond (not b) (x ∷ without_id id xs) (without_id id xs)) + 1 ≡ length (x ∷ xs)
    step true is e more =
        let rest : without_id id xs ≡ xs = ap (λ (i : ℕ). without_id i xs) (sym (eqb-true x.0 id is)) ∙ without_above x.0 xs up.0 in
        omega (arith, ap length rest)
    step false is e more = omega (arith, more e)

-- a pair is taken away from a key
abbrev pub Unfiles : (k id : ℕ) (stands stands' : ℕ → ℕ → Bool) → Type 0
Unfiles k id stands stands' = (j i : ℕ) → stands' j i ≡ cond (is_pair k id j i) false (stands j i)

unfiled : (key : Row → ℕ) (m : ByIds) (row : Row) (k id : ℕ) (stands stands' : ℕ → ℕ → Bool) → k ≡ key row → id ≡ id_of row → row_at (id_of row) m ≡ Some row
    → Unfiles k id stands stands' → AreFiled key stands m → AreFiled key stands' (without_id (id_of row) m)
unfiled key m row k id stands stands' own is there update filed =
    filed_drop key stands stands' row k m own (λ j i. update j i ∙ ap (λ (d : ℕ). cond (is_pair k d j i) false (stands j i)) is) there filed

-- the row that an Unsub takes out
pub record IsUnsubbed (h : List Entry) (k : ℕ) (name : Text) : Type 0 where
  pub row : Row
  pub found : ℕ × Row
  pub named_so : named name (live h) ≡ Some found
  pub id_is : found.0 ≡ id_of row
  pub name_is : name ≡ row.name
  pub owner : k ≡ row.session.0
  pub there : row_at (id_of row) (live h) ≡ Some row
  pub left : without_id (id_of row) (live h) ≡ filter (λ r. not (is_of k r && has_name name r)) (live h)

pub is_unsubbed : (h : List Entry) (k : ℕ) (name : Text) → IsWellFormed h → is_live_name_of k name (live h) ≡ true → IsUnsubbed h k name
is_unsubbed h k name w there =
    let o : LosesOne (live h) (filter (λ r. not (is_of k r && has_name name r)) (live h)) k name = loses_one k name (live h) (live_differ h w) there in
    let up : Rising (o.before ++ o.row ∷ o.after) = subst Rising o.was (rising_live h) in
    let at : row_at o.row.0 (live h) ≡ Some o.row.1 = ap (row_at o.row.0) o.was ∙ row_at-middle o.before o.row o.after up in
    let own : id_of o.row.1 ≡ o.row.0 = (found_says o.row.0 (live h) o.row.1 (live_say h w) at).1 in
    let by_name = found_at h o.row.0 name w (o.row.1, at, o.named) in
    record {
      row = o.row.1;
      found = by_name.row;
      named_so = by_name.named_so;
      id_is = by_name.id_is ∙ sym own;
      name_is = sym o.named;
      owner = sym o.owner;
      there = ap (λ (i : ℕ). row_at i (live h)) own ∙ at;
      left = ap (λ (i : ℕ). without_id i (live h)) own ∙ (ap (without_id o.row.0) o.was ∙ (without-middle o.before o.row o.after up ∙ sym o.is));
    }

-- it is taken out under its session and under its name
pub unsubbed : (f f' : Filed) (h : List Entry) (k id key : ℕ) (name : Text) → (is : IsUnsubbed h k name) → id ≡ id_of is.row → key ≡ name_key name
    → Unfiles k id (is_noted f.sessions.blocks.entries) (is_noted f'.sessions.blocks.entries) → Unfiles key id (is_listed f.names.pairs.keys) (is_listed f'.names.pairs.keys)
    → IsFiled f (live h) → IsFiled f' (filter (λ r. not (is_of k r && has_name name r)) (live h))
unsubbed f f' h k id key name is same own sessions names filed =
    subst (IsFiled f') is.left (record {
      sessions = unfiled session_of_row (live h) is.row k id (is_noted f.sessions.blocks.entries) (is_noted f'.sessions.blocks.entries) is.owner same is.there sessions filed.sessions;
      names = unfiled key_of_row (live h) is.row key id (is_listed f.names.pairs.keys) (is_listed f'.names.pairs.keys) (own ∙ ap name_key is.name_is) same is.there names filed.names;
    })

-- and there is a row less
pub unsubbed_less : (h : List Entry) (k : ℕ) (name : Text) → (is : IsUnsubbed h k name) → length (filter (λ r. not (is_of k r && has_name name r)) (live h)) + 1 ≡ length (live h)
unsubbed_less h k name is = ap (λ (m : ByIds). length m + 1) (sym is.left) ∙ one_less (live h) (id_of is.row) is.row (rising_live h) is.there

-- the rows once the change is in the list
pub noted : (r : Register) (h : List Entry) (e e' : Entry) → e ≡ e' → IsRegister r (after_entry (live h) (length h) e') → IsRegister r (live (h ++ e ∷ []))
noted r h e e' is filed = subst (IsRegister r) (ap (after_entry (live h) (length h)) (sym is) ∙ sym (live-append h e)) filed
