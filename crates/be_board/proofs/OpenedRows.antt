-- The rows of a table, one after another.
use Rattle.std.proofs.Common.{◌≡◌, ℕ, ◌+◌, List, [], ◌∷◌, ◌++◌, length, sym, ap, ◌∙◌, subst, arith}
use Rattle.be_model.specs.declared.changes.Row.{Row}
use Rattle.be_model.specs.ByIds.{SayIds}
use Rattle.be_change.specs.History.{Entry, subscribed}
use Rattle.be_change.specs.Opening.{by_place, opening_of, IsTable}
use Rattle.be_change.proofs.Openings.{subs_of-snoc, length-subs_of}

say_from : (n : ℕ) (front rest : List Row) (row : Row) → SayIds (by_place n (front ++ row ∷ rest)) → row.id.0 ≡ n + length front
say_from n [] rest row say = omega (arith, say.0)
say_from n (x ∷ xs) rest row say = let later : row.id.0 ≡ (n + 1) + length xs = say_from (n + 1) xs rest row say.1 in omega (arith, later)

-- a row's id is the number of rows before it
pub id_counts : (rows front rest : List Row) (row : Row) → rows ≡ front ++ row ∷ rest → IsTable rows → row.id.0 ≡ length front
id_counts rows front rest row is t = omega (arith, say_from 0 front rest row (subst (λ (l : List Row). SayIds (by_place 0 l)) is t.ids))

-- one more row
pub opened_more : (rows : List Row) (row : Row) (h h' : List Entry) → h ≡ opening_of rows → h' ≡ h ++ subscribed 0 (length h) row ∷ [] → h' ≡ opening_of (rows ++ row ∷ [])
opened_more rows row h h' is more =
    let many : length h ≡ 0 + length rows = omega (arith, ap (λ (l : List Entry). length l) is, length-subs_of 0 0 rows) in
    more ∙ (ap (λ (l : List Entry). l ++ subscribed 0 (length h) row ∷ []) is ∙ (ap (λ (n : ℕ). opening_of rows ++ subscribed 0 n row ∷ []) many ∙ sym (subs_of-snoc 0 0 rows row)))
