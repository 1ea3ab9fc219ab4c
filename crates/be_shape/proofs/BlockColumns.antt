-- Columns of a block.
use Rattle.std.proofs.Common.{◌≡◌, ⊎_elim, ◌==◌, ℕ, ◌+◌, ◌<◌, Bool, true, false, ◌&&◌, cond, suc, List, [], ◌∷◌, ◌++◌, length, map, take, set, get_or, slice_get, Some, refl, sym, ap, ap₂, subst, ◌∙◌, arith}
use Rattle.std.proofs.lemmas.Bool.{cases_eq, and_parts, eqb-true}
use Rattle.std.proofs.lemmas.List.{map-append, take-set, take_more_set, take_more, append-nil}
use Rattle.std.proofs.lemmas.List.Elements.{filter-append}
use Rattle.std.proofs.lemmas.Option.{slice_get-get_or, slice_get_within, get_or_from_slice_get}
use Rattle.be_model.specs.declared.changes.Row.{Row}
use Rattle.be_model.specs.Matching.{Assignments, satisfies, satisfied}
use Rattle.be_model.specs.Matching.{values_of}
use Rattle.be_model.specs.Schemas.{numbered}
use Rattle.be_shape.specs.declared.columns.Columns.{Columns}
use Rattle.be_shape.specs.declared.columns.Entry.{Entry}
use Rattle.be_shape.specs.Chosen.{AreRowsAt}
use Rattle.be_shape.specs.Columns.{TellPassing, TellsRow, AreTold, AreColumnsOf, entry_at, slot_at, slots_at, lets_all}
use Rattle.be_shape.specs.Lanes.{Slot, lets, seen, are_single, free, is_free}

-- the places below this one are filled
pub record AreFilled (f : ℕ → Bool) (xs : List Bool) (n : ℕ) : Type 0 where
  pub size : length xs ≡ 32
  pub each : (i : ℕ) → i < n → slice_get xs i ≡ Some (f i)

-- of the rows below this place the satisfied ones were noted
abbrev pub AreCollected : List Bool → List ℕ → ℕ → ℕ → Type 0
AreCollected passes met k n = (e : Assignments) (rows : List Row) → length rows ≡ 32 → TellPassing passes e rows → AreRowsAt rows (take k met) (satisfied e (take n rows))

more_rows : (e : Assignments) (rows : List Row) (n : ℕ) (row : Row) → slice_get rows n ≡ Some row → satisfied e (take (n + 1) rows) ≡ satisfied e (take n rows) ++ satisfied e (row ∷ [])
more_rows e rows n row at =
    ap (satisfied e) (take_more rows n row (slice_get_within rows n row at) ∙ ap (λ r. take n rows ++ r ∷ []) (get_or_from_slice_get rows n row row at))
    ∙ filter-append (λ (r : Row). satisfies e r.conj) (take n rows) (row ∷ [])

pub some_row : (rows : List Row) (n : ℕ) (P : Type 0) → n < length rows → ((row : Row) → slice_get rows n ≡ Some row → P) → P
some_row [] n P h k = absurd (omega (arith, h))
some_row (row ∷ rows) n P h k = k (get_or (row ∷ rows) n row) (slice_get-get_or (row ∷ rows) n row h)

some_same : {X : Type 0} (x y : X) → Some x ≡ Some y → x ≡ y
some_same x y h = cc

pub collected_next : (passes : List Bool) (met : List ℕ) (k k' n : ℕ) (b : Bool) → slice_get passes n ≡ Some b → k' ≡ k + cond b 1 0 → n < 32 → k < length met → AreCollected passes met k n → AreCollected passes (set met k n) k' (n + 1)
collected_next passes met k k' n b at is few room was = λ e rows size tell.
    some_row rows n (AreRowsAt rows (take k' (set met k n)) (satisfied e (take (n + 1) rows))) (omega (arith, size, few))
    (λ row there. by_answer e rows row there (was e rows size tell) b (some_same b (satisfies e row.conj) (sym at ∙ tell n row there)) refl)
  where
    by_answer : (e : Assignments) (rows : List Row) (row : Row) → slice_get rows n ≡ Some row → AreRowsAt rows (take k met) (satisfied e (take n rows)) → (a : Bool) → a ≡ satisfies e row.conj → b ≡ a → AreRowsAt rows (take k' (set met k n)) (satisfied e (take (n + 1) rows))
    by_answer e rows row there old true met_it same =
        let one : satisfied e (row ∷ []) ≡ row ∷ [] = ap (λ a. cond a (row ∷ []) []) (sym met_it) in
        let more : k' ≡ k + 1 = is ∙ ap (λ a. k + cond a 1 0) same in
        ap (λ m. map (slice_get rows) (take m (set met k n))) more ∙ ap (map (slice_get rows)) (take_more_set met k n room) ∙ map-append (slice_get rows) (take k met) (n ∷ [])
        ∙ ap₂ (λ xs ys. xs ++ ys) old (ap (λ o. o ∷ []) there) ∙ sym (map-append Some (satisfied e (take n rows)) (row ∷ []))
        ∙ ap (map Some) (ap (λ rs. satisfied e (take n rows) ++ rs) (sym one) ∙ sym (more_rows e rows n row there))
    by_answer e rows row there old false met_it same =
        let none : satisfied e (row ∷ []) ≡ [] = ap (λ a. cond a (row ∷ []) []) (sym met_it) in
        let less : k' ≡ k = omega (arith, is ∙ ap (λ a. k + cond a 1 0) same) in
        ap (λ m. map (slice_get rows) (take m (set met k n))) less ∙ ap (map (slice_get rows)) (take-set met k n) ∙ old
        ∙ ap (map Some) (sym (append-nil (satisfied e (take n rows))) ∙ ap (λ rs. satisfied e (take n rows) ++ rs) (sym none) ∙ sym (more_rows e rows n row there))

-- what the columns say of a row
pub told_says : (c : Columns) (rows : List Row) (e : Assignments) (x i : ℕ) (row : Row) → AreColumnsOf c rows → are_single e ≡ true → x ≡ seen (values_of e (numbered c.attr)) → slice_get rows i ≡ Some row → lets_all x (slots_at c i) ≡ satisfies e row.conj
told_says c rows e x i row of single is at =
    let few : i < 32 = omega (arith, slice_get_within rows i row at, of.many) in
    ap (λ y. lets_all y (slots_at c i)) is ∙ sym ((of.told.told i row few at).met e single)

none_met : (e : Assignments) (rows : List Row) → ((i : ℕ) (row : Row) → slice_get rows i ≡ Some row → satisfies e row.conj ≡ false) → satisfied e rows ≡ []
none_met e [] k = refl
none_met e (row ∷ rows) k = ap (λ b. cond b (row ∷ satisfied e rows) (satisfied e rows)) (k 0 row refl) ∙ none_met e rows (λ i r at. k (suc i) r at)

-- what lies beyond the hull satisfies none
pub none_beyond : (c : Columns) (rows : List Row) (e : Assignments) (x : ℕ) → AreColumnsOf c rows → are_single e ≡ true → x ≡ seen (values_of e (numbered c.attr)) → x < 4294967296 → lets x c.hull ≡ false → satisfied e rows ≡ []
none_beyond c rows e x of single is fits out = none_met e rows (λ i row at. sym (told_says c rows e x i row of single is at) ∙ refused i row at)
  where
    by_first : (a b : Bool) → (a ≡ true → lets x c.hull ≡ true) → (a && b) ≡ false
    by_first true b k = absurd (let h = sym (k refl) ∙ out in cc)
    by_first false b k = refl

    refused : (i : ℕ) (row : Row) → slice_get rows i ≡ Some row → lets_all x (slots_at c i) ≡ false
    refused i row at =
        let few : i < 32 = omega (arith, slice_get_within rows i row at, of.many) in
        by_first (lets x (slot_at c.first i)) (lets x (slot_at c.second i) && lets x (slot_at c.third i)) (of.told.hull i x few fits)

-- an entry is put at a place
pub record IsPut (c d : Columns) (n : ℕ) (x : Entry) : Type 0 where
  pub attr : d.attr ≡ c.attr
  pub there : entry_at d n ≡ x
  pub others : (i : ℕ) → (i ≡ n → ⊥) → entry_at d i ≡ entry_at c i
  pub hull_old : (y : ℕ) → y < 4294967296 → lets y c.hull ≡ true → lets y d.hull ≡ true
  pub hull_new : (y : ℕ) → y < 4294967296 → lets y x.slots.first ≡ true → lets y d.hull ≡ true
  pub single : d.single ≡ true → (c.single ≡ true) × (x.slots.second ≡ free) × (x.slots.third ≡ free)

pub told_next : (c d : Columns) (rows : List Row) (row : Row) (n : ℕ) (x : Entry) → slice_get rows n ≡ Some row → TellsRow c.attr x row → IsPut c d n x → AreTold c rows n → AreTold d rows (n + 1)
told_next c d rows row n x at tells p was = record {
  told = λ i r below there. by_place i (TellsRow d.attr (entry_at d i) r) below
      (λ same. subst (λ a. TellsRow a (entry_at d i) r) (sym p.attr)
      (subst (λ y. TellsRow c.attr y r) (sym (ap (entry_at d) same ∙ p.there)) (subst (TellsRow c.attr x) (some_same row r (sym at ∙ ap (slice_get rows) (sym same) ∙ there)) tells)))
      (λ other less. subst (λ a. TellsRow a (entry_at d i) r) (sym p.attr) (subst (λ y. TellsRow c.attr y r) (sym (p.others i other)) (was.told i r less there)));
  hull = λ i y below fits h. by_place i (lets y d.hull ≡ true) below
      (λ same. p.hull_new y fits (ap (λ (z : Entry). lets y z.slots.first) (sym (ap (entry_at d) same ∙ p.there)) ∙ h))
      (λ other less. p.hull_old y fits (was.hull i y less fits (ap (λ (z : Entry). lets y z.slots.first) (sym (p.others i other)) ∙ h)));
  second = λ one i below. by_place i (slot_at d.second i ≡ free) below
      (λ same. ap (λ (z : Entry). z.slots.second) (ap (entry_at d) same ∙ p.there) ∙ (p.single one).1)
      (λ other less. ap (λ (z : Entry). z.slots.second) (p.others i other) ∙ was.second (p.single one).0 i less);
  third = λ one i below. by_place i (slot_at d.third i ≡ free) below
      (λ same. ap (λ (z : Entry). z.slots.third) (ap (entry_at d) same ∙ p.there) ∙ (p.single one).2)
      (λ other less. ap (λ (z : Entry). z.slots.third) (p.others i other) ∙ was.third (p.single one).0 i less);
}
  where
    by_place : (i : ℕ) (P : Type 0) → i < n + 1 → (i ≡ n → P) → ((i ≡ n → ⊥) → i < n → P) → P
    by_place i P below k l = ⊎_elim (λ same. k same) (λ other. l other (omega (arith, below, other))) (cases_eq i n)

pub entry_from : (x : Entry) (first second third : Slot) (id : ℕ) (y : Entry) → y ≡ record { slots = record { first = first; second = second; third = third }; id = id } → first ≡ x.slots.first → second ≡ x.slots.second → third ≡ x.slots.third → id ≡ x.id → y ≡ x
entry_from x first second third id y is a b c d = is ∙ rw (a, b, c, d) refl

free_from : (s : Slot) → ((s.0 == 0) && (s.1 == 4294967295)) ≡ true → s ≡ free
free_from s h = let p = and_parts (s.0 == 0) (s.1 == 4294967295) h in ap₂ (λ (a b : ℕ). (a, b)) (eqb-true s.0 0 p.0) (eqb-true s.1 4294967295 p.1)

pub all_free : (a b c : Bool) (s t : Slot) → b ≡ is_free s → c ≡ is_free t → (a && (b && c)) ≡ true → (a ≡ true) × (s ≡ free) × (t ≡ free)
all_free a b c s t f g h =
    let p = and_parts a (b && c) h in
    let q = and_parts b c p.1 in (p.0, free_from s (sym f ∙ q.0), free_from t (sym g ∙ q.1))
