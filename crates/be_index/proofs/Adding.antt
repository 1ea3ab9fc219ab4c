-- Items that are put one list after another.
use Rattle.std.proofs.Common.{◌≡◌, ℕ, ◌+◌, ◌<◌, ◌≤◌, List, [], ◌++◌, length, map, Result, Ok, Err, OnOk, OnErr, sym, ap, ◌∙◌, arith, length-append}
use Rattle.std.proofs.lemmas.List.{append_assoc, append-nil, map-append, map-id, length-map}
use Rattle.std.proofs.lemmas.List.Elements.{filter-append}
use Rattle.be_base.proofs.Beginnings.{BeginsWith-along}
use Rattle.be_model.specs.declared.changes.Row.{Row}
use Rattle.be_model.specs.Matching.{Assignments, satisfies, satisfied}
use Rattle.be_model.specs.ByIds.{PutsEach}
use Rattle.be_index.specs.Puts.{Held, Adds, Grows, PutsItems, hits_of}

-- what is put of two lists of rows
pub hits_append : {X : Type 0} (of : Row → X) (e : Assignments) (xs ys : List Row) → hits_of of e (xs ++ ys) ≡ hits_of of e xs ++ hits_of of e ys
hits_append of e xs ys = ap (map of) (filter-append (λ (row : Row). satisfies e row.conj) xs ys) ∙ map-append of (satisfied e xs) (satisfied e ys)

pub adds_none : {X : Type 0} (a : Held X) → Adds a a []
adds_none a = record { put = sym (append-nil a.items); kept = omega arith }

pub grows_both : {X : Type 0} (a b c : Held X) → Grows a b → Grows b c → Grows a c
grows_both a b c h k = record { front = BeginsWith-along c.items b.items a.items k.front h.front; room = omega (arith, h.room, k.room) }

-- of all that is to be put, the rest is still to be put
pub record IsUnderway {X : Type 0} (from now : Held X) (rest all : List X) : Type 0 where
  pub put : now.items ++ rest ≡ from.items ++ all
  pub kept : from.sure + length rest ≤ now.sure + length all
  pub grown : Grows from now

pub underway_next : {X : Type 0} (a b c : Held X) (was first rest all : List X) → was ≡ first ++ rest → IsUnderway a b was all → Adds b c first → Grows b c → IsUnderway a c rest all
underway_next a b c was first rest all is h k g = record {
  put = ap (λ r. r ++ rest) k.put ∙ append_assoc b.items first rest ∙ ap (λ r. b.items ++ r) (sym is) ∙ h.put;
  kept = omega (arith, h.kept, k.kept, ap length is, length-append first rest);
  grown = grows_both a b c h.grown g;
}

-- where there is surely no room for the first of the rest, there is none for all
pub underway_refused : {X : Type 0} (a b : Held X) (was first rest all : List X) → was ≡ first ++ rest → IsUnderway a b was all → b.sure < length first → a.sure < length all
underway_refused a b was first rest all is h l = omega (arith, h.kept, l, ap length is, length-append first rest)

-- rows that are kept as they are
pub rows_added : {A B : Type 0} (r : Result A B) (a b : Held Row) (rows : List Row) → OnOk r (Adds a b (map (λ row. row) rows)) → OnOk r (b.items ≡ a.items ++ rows)
rows_added (Ok x) a b rows h = h.put ∙ ap (λ l. a.items ++ l) (map-id rows)
rows_added (Err x) a b rows h = tt

pub rows_put : (rows before after : List Row) → PutsItems (λ row. row) rows before after → PutsEach rows before after
rows_put rows before after h = record { found = h.found; put = h.put ∙ ap (λ l. before ++ l) (map-id h.found); exact = h.exact }

-- so many items as rows
pub as_many : {A B X : Type 0} (r : Result A B) (of : Row → X) (n : ℕ) (rows : List Row) → OnErr r (n < length (map of rows)) → OnErr r (n < length rows)
as_many (Ok x) of n rows h = tt
as_many (Err x) of n rows h = omega (arith, h, length-map rows of)

-- what holds, holds where something is refused
pub on_refusal : {A B : Type 0} (r : Result A B) (P : Type 0) → P → OnErr r P
on_refusal (Ok x) P h = tt
on_refusal (Err x) P h = h
