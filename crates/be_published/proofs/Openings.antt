-- Lists that grow by one item: glasses, and the rows of an opening.
use Rattle.std.proofs.Common.{◌≡◌, ℕ, ◌+◌, true, List, [], ◌∷◌, ◌++◌, length, refl, sym, ap, ◌∙◌, subst, arith, append_assoc, zero-add}
use Rattle.std.specs.List.{All, list_all}
use Rattle.std.proofs.lemmas.Bool.{and_parts}
use Rattle.std.proofs.lemmas.List.Elements.{All-append, All-cons}
use Rattle.std.proofs.lemmas.List.Folds.{list_all-append}
use Rattle.be_model.specs.declared.changes.Row.{Row}
use Rattle.be_model.specs.Lies.{row_lies}
use Rattle.be_model.specs.Schemas.{Attributes}
use Rattle.be_change.specs.History.{Entry, subscribed, IsWellFormed, MayFollow}
use Rattle.be_change.specs.Opening.{IsTable, subs_of, opening_of}
use Rattle.be_change.specs.Sound.{MayAppend}
use Rattle.be_change.proofs.Forms.{formed_front, formed_last}
use Rattle.be_change.proofs.Openings.{table_opens, length-subs_of, subs_of-snoc}

pub all_none : {X : Type 0} (P : X → Type 0) → All P []
all_none P = λ k d l. absurd (omega (arith, l))

pub all_more : {X : Type 0} (P : X → Type 0) (xs ys : List X) (x : X) → ys ≡ xs ++ x ∷ [] → All P xs → P x → All P ys
all_more P xs ys x grown all one = subst (λ l. All P l) (sym grown) (All-append P xs (x ∷ []) all (All-cons P x [] one (all_none P)))

subs_of-append : (k n : ℕ) (xs ys : List Row) → subs_of k n (xs ++ ys) ≡ subs_of k n xs ++ subs_of k (n + length xs) ys
subs_of-append k n [] ys = ap (λ (m : ℕ). subs_of k m ys) (omega arith)
subs_of-append k n (x ∷ xs) ys =
    ap (λ (l : List Entry). subscribed k n x ∷ l) (subs_of-append k (n + 1) xs ys ∙ ap (λ (m : ℕ). subs_of k (n + 1) xs ++ subs_of k m ys) (omega arith))

-- each row of a table may come next behind those before it
pub row_may : (s : Attributes) (rows front rest : List Row) (row : Row) (h : List Entry) → rows ≡ front ++ row ∷ rest → IsTable rows → list_all (row_lies s) rows ≡ true → h ≡ opening_of front
    → MayAppend s h (subscribed 0 (length h) row)
row_may s rows front rest row h is table lie at =
    let split : opening_of rows ≡ (opening_of front ++ subscribed 0 (0 + length front) row ∷ []) ++ subs_of 0 (0 + length front + 1) rest =
    ap opening_of is ∙ (subs_of-append 0 0 front (row ∷ rest) ∙ sym (append_assoc (opening_of front) (subscribed 0 (0 + length front) row ∷ []) (subs_of 0 (0 + length front + 1) rest))) in
    let formed : IsWellFormed (opening_of front ++ subscribed 0 (0 + length front) row ∷ []) =
    formed_front (opening_of front ++ subscribed 0 (0 + length front) row ∷ []) (subs_of 0 (0 + length front + 1) rest) (subst IsWellFormed split (table_opens rows table).formed) in
    let many : 0 + length front ≡ length h = omega (arith, ap (λ (l : List Entry). length l) at, length-subs_of 0 0 front) in
    let both = and_parts (list_all (row_lies s) front) (list_all (row_lies s) (row ∷ rest)) (sym (list_all-append (row_lies s) front (row ∷ rest)) ∙ (ap (list_all (row_lies s)) (sym is) ∙ lie)) in
    record {
      follows = subst (λ (l : List Entry). MayFollow l (subscribed 0 (length h) row)) (sym at) (subst (λ (n : ℕ). MayFollow (opening_of front) (subscribed 0 n row)) many (formed_last (opening_of front) (subscribed 0 (0 + length front) row) formed));
      lies = (and_parts (row_lies s row) (list_all (row_lies s) rest) both.1).0;
    }

-- one row more
pub opening_more : (front : List Row) (row : Row) (h h' : List Entry) → h ≡ opening_of front → h' ≡ h ++ subscribed 0 (length h) row ∷ [] → h' ≡ opening_of (front ++ row ∷ [])
opening_more front row h h' is more =
    let many : length h ≡ 0 + length front = omega (arith, ap (λ (l : List Entry). length l) is, length-subs_of 0 0 front) in
    more ∙ (ap (λ (l : List Entry). l ++ subscribed 0 (length h) row ∷ []) is ∙ (ap (λ (n : ℕ). opening_of front ++ subscribed 0 n row ∷ []) many ∙ sym (subs_of-snoc 0 0 front row)))
