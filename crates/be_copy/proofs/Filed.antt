-- Rows that are filed under a key, as rows come and go.
use Rattle.std.proofs.Common.{◌≡◌, ℕ, ◌==◌, ◌&&◌, Bool, true, false, not, cond, [], ◌∷◌, Option, Some, None, refl, sym, ap, ◌∙◌, subst, arith}
use Rattle.std.proofs.lemmas.Bool.{eqb-true, eqb-false, or_parts, OnTrue_at, OnTrue_from}
use Rattle.std.specs.Bool.{OnTrue}
use Rattle.std.proofs.lemmas.Bool.Decides.{nat_tests}
use Rattle.be_base.specs.Text.{Text, same_text}
use Rattle.be_base.proofs.SameText.{equal_from_same_text}
use Rattle.be_base.specs.declared.names.SessionNo.{SessionNo}
use Rattle.be_model.specs.declared.changes.Row.{Row}
use Rattle.be_model.specs.Rows.{id_of}
use Rattle.be_model.specs.ByIds.{ByIds, put_by_id, without_id, has_id, row_at}
use Rattle.be_model.proofs.RowsByIds.{put_found, put_other}
use Rattle.be_change.specs.History.{is_of, has_name}
use Rattle.be_copy.specs.Keys.{name_key}
use Rattle.be_copy.specs.Places.{is_listed, is_pair}
use Rattle.be_copy.specs.Bitmaps.{is_noted}
use Rattle.be_copy.specs.declared.register.Register.{Register}
use Rattle.be_copy.specs.declared.wanted.Wanted.{Wanted}
use Rattle.be_copy.specs.declared.wanted.Wanted.TheVariants.{Named, Own, Of}
use Rattle.be_copy.specs.Registers.{is_keyed, AreFiled, IsRegister, is_found, session_of_row, key_of_row, AreWanted}
use Rattle.be_copy.specs.Wanted.{wants}
use Rattle.std.specs.Option.{is_some}

abbrev no_row : Option Row
no_row = None

same_cond : (b : Bool) → no_row ≡ cond b no_row no_row
same_cond true = refl
same_cond false = refl

-- the row of an id, where another row was taken out
pub row_at-without : (id i : ℕ) (m : ByIds) → row_at i (without_id id m) ≡ cond (id == i) no_row (row_at i m)
row_at-without id i [] = same_cond (id == i)
row_at-without id i (r ∷ rs) = step (r.0 == id) (r.0 == i) (id == i) refl refl refl (row_at-without id i rs)
  where
    step : (a b c : Bool) → (r.0 == id) ≡ a → (r.0 == i) ≡ b → (id == i) ≡ c → row_at i (without_id id rs) ≡ cond c no_row (row_at i rs)
        → row_at i (cond (not a) (r ∷ without_id id rs) (without_id id rs)) ≡ cond c no_row (cond b (Some r.1) (row_at i rs))
    step true true true p q s h = h
    step true true false p q s h = absurd (grind (arith, nat_tests))
    step true false true p q s h = h
    step true false false p q s h = h
    step false true true p q s h = absurd (grind (arith, nat_tests))
    step false true false p q s h = ap (λ (b : Bool). cond b (Some r.1) (row_at i (without_id id rs))) q
    step false false c p q s h = ap (λ (b : Bool). cond b (Some r.1) (row_at i (without_id id rs))) q ∙ h

-- the row of an id, where another row was put
row_at-put : (row : Row) (i : ℕ) (m : ByIds) → has_id (id_of row) m ≡ false → row_at i (put_by_id row m) ≡ cond (id_of row == i) (Some row) (row_at i m)
row_at-put row i m new = step (id_of row == i) refl
  where
    step : (b : Bool) → (id_of row == i) ≡ b → row_at i (put_by_id row m) ≡ cond b (Some row) (row_at i m)
    step true e = ap (λ (j : ℕ). row_at j (put_by_id row m)) (sym (eqb-true (id_of row) i e)) ∙ put_found row m new
    step false e = put_other i row m e

pub absent : (id : ℕ) (m : ByIds) → has_id id m ≡ false → row_at id m ≡ no_row
absent id [] h = refl
absent id (r ∷ rs) h =
    let both = or_parts (r.0 == id) (has_id id rs) h in
    ap (λ (b : Bool). cond b (Some r.1) (row_at id rs)) both.0 ∙ absent id rs both.1

absent_at : (id i : ℕ) (m : ByIds) → has_id id m ≡ false → (id == i) ≡ true → row_at i m ≡ no_row
absent_at id i m new e = ap (λ (j : ℕ). row_at j m) (sym (eqb-true id i e)) ∙ absent id m new

-- a row more is filed
pub filed_put : (key : Row → ℕ) (stands stands' : ℕ → ℕ → Bool) (row : Row) (n : ℕ) (m : ByIds) → n ≡ key row → has_id (id_of row) m ≡ false
    → ((k i : ℕ) → stands' k i ≡ cond (is_pair n (id_of row) k i) true (stands k i)) → AreFiled key stands m → AreFiled key stands' (put_by_id row m)
filed_put key stands stands' row n m is new update filed k i =
    update k i ∙ step (id_of row == i) refl ∙ ap (is_keyed key k) (sym (row_at-put row i m new))
  where
    here : (id_of row == i) ≡ true → stands k i ≡ false
    here e = filed k i ∙ ap (is_keyed key k) (absent_at (id_of row) i m new e)

    own : (n == k) ≡ (key row == k)
    own = ap (λ (j : ℕ). j == k) is

    at_id : (a : Bool) → a ≡ (key row == k) → stands k i ≡ false → cond (a && true) true (stands k i) ≡ (key row == k)
    at_id true e h = e
    at_id false e h = h ∙ e

    elsewhere : (a : Bool) → cond (a && false) true (stands k i) ≡ stands k i
    elsewhere true = refl
    elsewhere false = refl

    step : (b : Bool) → (id_of row == i) ≡ b → cond ((n == k) && b) true (stands k i) ≡ is_keyed key k (cond b (Some row) (row_at i m))
    step true e = at_id (n == k) own (here e)
    step false e = elsewhere (n == k) ∙ filed k i

-- what a key has where the row of an id is known
pub filed_off : (key : Row → ℕ) (stands stands' : ℕ → ℕ → Bool) (row : Row) (n : ℕ) (m m' : ByIds) → n ≡ key row
    → ((k i : ℕ) → stands' k i ≡ cond (is_pair n (id_of row) k i) false (stands k i))
    → row_at (id_of row) m ≡ Some row → ((i : ℕ) → row_at i m' ≡ cond (id_of row == i) no_row (row_at i m)) → AreFiled key stands m → AreFiled key stands' m'
filed_off key stands stands' row n m m' is update there gone filed k i =
    update k i ∙ step (id_of row == i) refl ∙ ap (is_keyed key k) (sym (gone i))
  where
    here : (id_of row == i) ≡ true → stands k i ≡ (key row == k)
    here e = filed k i ∙ ap (λ (j : ℕ). is_keyed key k (row_at j m)) (sym (eqb-true (id_of row) i e)) ∙ ap (is_keyed key k) there

    own : (n == k) ≡ (key row == k)
    own = ap (λ (j : ℕ). j == k) is

    at_id : (a : Bool) → a ≡ (key row == k) → stands k i ≡ (key row == k) → cond (a && true) false (stands k i) ≡ false
    at_id true e h = refl
    at_id false e h = h ∙ sym e

    elsewhere : (a : Bool) → cond (a && false) false (stands k i) ≡ stands k i
    elsewhere true = refl
    elsewhere false = refl

    step : (b : Bool) → (id_of row == i) ≡ b → cond ((n == k) && b) false (stands k i) ≡ is_keyed key k (cond b no_row (row_at i m))
    step true e = at_id (n == k) own (here e)
    step false e = elsewhere (n == k) ∙ filed k i

-- a row is taken out
pub filed_drop : (key : Row → ℕ) (stands stands' : ℕ → ℕ → Bool) (row : Row) (n : ℕ) (m : ByIds) → n ≡ key row
    → ((k i : ℕ) → stands' k i ≡ cond (is_pair n (id_of row) k i) false (stands k i))
    → row_at (id_of row) m ≡ Some row → AreFiled key stands m → AreFiled key stands' (without_id (id_of row) m)
filed_drop key stands stands' row n m is update there filed =
    filed_off key stands stands' row n m (without_id (id_of row) m) is update there (λ i. row_at-without (id_of row) i m) filed

undone_at : (row : Row) (i : ℕ) (m : ByIds) → has_id (id_of row) m ≡ false → row_at i m ≡ cond (id_of row == i) no_row (row_at i (put_by_id row m))
undone_at row i m new = step (id_of row == i) refl
  where
    step : (b : Bool) → (id_of row == i) ≡ b → row_at i m ≡ cond b no_row (row_at i (put_by_id row m))
    step true e = absent_at (id_of row) i m new e
    step false e = sym (put_other i row m e)

-- a row that was put is taken out again
pub filed_undone : (key : Row → ℕ) (stands stands' : ℕ → ℕ → Bool) (row : Row) (n : ℕ) (m : ByIds) → n ≡ key row → has_id (id_of row) m ≡ false
    → ((k i : ℕ) → stands' k i ≡ cond (is_pair n (id_of row) k i) false (stands k i))
    → AreFiled key stands (put_by_id row m) → AreFiled key stands' m
filed_undone key stands stands' row n m is new update filed =
    filed_off key stands stands' row n (put_by_id row m) m is update (put_found row m new) (λ i. undone_at row i m new) filed

-- a row at an id that isn't listed has another key
pub other_key : (key : Row → ℕ) (stands : ℕ → ℕ → Bool) (m : ByIds) (k i : ℕ) (row : Row) → AreFiled key stands m → stands k i ≡ false → row_at i m ≡ Some row → (key row == k) ≡ false
other_key key stands m k i row filed none there = sym (ap (is_keyed key k) there) ∙ sym (filed k i) ∙ none

-- a row with another key has another name
pub other_name : (row : Row) (name : Text) → (key_of_row row == name_key name) ≡ false → same_text row.name name ≡ false
other_name row name apart = step (same_text row.name name) refl
  where
    step : (b : Bool) → same_text row.name name ≡ b → same_text row.name name ≡ false
    step true e =
        let same : key_of_row row ≡ name_key name = ap name_key (equal_from_same_text row.name name e) in
        absurd (eqb-false (key_of_row row) (name_key name) apart same)
    step false e = e

pub other_own : (k : SessionNo) (name : Text) (r : ℕ × Row) → has_name name r ≡ false → (is_of k.0 r && has_name name r) ≡ false
other_own k name r e = step (is_of k.0 r) (has_name name r) e
  where
    step : (a b : Bool) → b ≡ false → (a && b) ≡ false
    step true b e = e
    step false b e = refl

-- no wanted row stands where none is found
pub not_wanted : (r : Register) (m : ByIds) (w : Wanted) (i : ℕ) (row : Row) → IsRegister r m → is_found r w i ≡ false → row_at i m ≡ Some row → wants w (i, row) ≡ false
not_wanted r m (Named name) i row is none there = other_name row name.now (other_key key_of_row (is_listed r.names.pairs.keys) m (name_key name.now) i row is.names none there)
not_wanted r m (Own session name) i row is none there =
    other_own session name.now (i, row) (other_name row name.now (other_key key_of_row (is_listed r.names.pairs.keys) m (name_key name.now) i row is.names none there))
not_wanted r m (Of session) i row is none there = other_key session_of_row (is_noted r.sessions.blocks.entries) m session.0 i row is.sessions none there

-- a row stands where one is found
pub is_there : (r : Register) (m : ByIds) (w : Wanted) (i : ℕ) → IsRegister r m → is_found r w i ≡ true → (row : Row) × (row_at i m ≡ Some row)
is_there r m w i is found = by_row (row_at i m) refl (keyed r m w i is found)
  where
    some_key : (key : Row → ℕ) (k : ℕ) (o : Option Row) → is_keyed key k o ≡ true → is_some o ≡ true
    some_key key k None h = absurd cc
    some_key key k (Some row) h = refl

    keyed : (r : Register) (m : ByIds) (w : Wanted) (i : ℕ) → IsRegister r m → is_found r w i ≡ true → is_some (row_at i m) ≡ true
    keyed r m (Named name) i is found = some_key key_of_row (name_key name.now) (row_at i m) (sym (is.names (name_key name.now) i) ∙ found)
    keyed r m (Own session name) i is found = some_key key_of_row (name_key name.now) (row_at i m) (sym (is.names (name_key name.now) i) ∙ found)
    keyed r m (Of session) i is found = some_key session_of_row session.0 (row_at i m) (sym (is.sessions session.0 i) ∙ found)

    by_row : (o : Option Row) → row_at i m ≡ o → is_some o ≡ true → (row : Row) × (row_at i m ≡ Some row)
    by_row None e h = absurd cc
    by_row (Some row) e h = (row, e)

same_number : (n : ℕ) → (n == n) ≡ true
same_number n = grind (arith, nat_tests)

-- where no session but one has rows, its rows are all
pub only_wanted : (b : Bool) (r : Register) (session : SessionNo) (w : Wanted) → w ≡ Of session
    → OnTrue b ((k i : ℕ) → is_noted r.sessions.blocks.entries k i ≡ true → k ≡ session.0)
    → OnTrue b ((m : ByIds) → IsRegister r m → AreWanted w m)
only_wanted b r session w is only = OnTrue_from b ((m : ByIds) → IsRegister r m → AreWanted w m) (λ e m filed i row at.
    let own : is_noted r.sessions.blocks.entries (session_of_row row) i ≡ true =
    filed.sessions (session_of_row row) i ∙ ap (is_keyed session_of_row (session_of_row row)) at ∙ same_number (session_of_row row) in
    subst (λ (x : Wanted). wants x (i, row) ≡ true) (sym is)
    (subst (λ (n : ℕ). (session_of_row row == n) ≡ true) (OnTrue_at e only (session_of_row row) i own) (same_number (session_of_row row))))
