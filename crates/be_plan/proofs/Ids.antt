-- Gains by a shift: that of the lowest id, of rows one after the other, and among rows by rising ids.
use Rattle.std.proofs.Common.{◌≡◌, ℕ, ◌<◌, ltb, eqb, Bool, true, false, not, cond, List, [], ◌∷◌, ◌++◌, Option, Some, None, option_map, refl, sym, ap, ◌∙◌, arith}
use Rattle.std.specs.Option.{option_or}
use Rattle.std.specs.List.{find, list_any}
use Rattle.std.proofs.lemmas.Bool.{ltb-true, ltb-false, lt-ltb, le-ltb, and_parts}
use Rattle.be_base.specs.declared.names.AttrNo.{AttrNo}
use Rattle.be_base.specs.declared.names.Id.{Id}
use Rattle.be_model.specs.declared.changes.Row.{Row}
use Rattle.be_model.specs.Schemas.{Attributes}
use Rattle.be_model.specs.Rows.{id_of}
use Rattle.be_model.specs.ByIds.{ByIds, put_by_id, by_ids, rows_of, AllAbove, Rising, SayIds, ids_differ}
use Rattle.be_model.proofs.RowsByIds.{ids_rise, all_say}
use Rattle.be_plan.specs.Plan.{gains}
use Rattle.be_plan.specs.Shifts.{gain_of, lower_id, least_gain}

abbrev pub Gain : Type 0
Gain = Option (Id × AttrNo)

pub lower_none : (a : Gain) → lower_id a None ≡ a
lower_none None = refl
lower_none (Some a) = refl

pub lower_assoc : (a b c : Gain) → lower_id (lower_id a b) c ≡ lower_id a (lower_id b c)
lower_assoc None b c = refl
lower_assoc (Some a) None c = refl
lower_assoc (Some a) (Some b) None = lower_none (cond (ltb a.0.0 b.0.0) (Some a) (Some b))
lower_assoc (Some a) (Some b) (Some c) = by_tests (ltb a.0.0 b.0.0) (ltb b.0.0 c.0.0) refl refl
  where
    by_tests : (t u : Bool) → ltb a.0.0 b.0.0 ≡ t → ltb b.0.0 c.0.0 ≡ u → lower_id (cond t (Some a) (Some b)) (Some c) ≡ lower_id (Some a) (cond u (Some b) (Some c))
    by_tests true true e f =
        let l = ltb-true a.0.0 b.0.0 e in
        let m = ltb-true b.0.0 c.0.0 f in
        ap (λ v. cond v (Some a) (Some c)) (lt-ltb a.0.0 c.0.0 (omega arith)) ∙ sym (ap (λ v. cond v (Some a) (Some b)) e)
    by_tests true false e f = refl
    by_tests false true e f = ap (λ v. cond v (Some b) (Some c)) f ∙ sym (ap (λ v. cond v (Some a) (Some b)) e)
    by_tests false false e f =
        let l = ltb-false a.0.0 b.0.0 e in
        let m = ltb-false b.0.0 c.0.0 f in
        ap (λ v. cond v (Some b) (Some c)) f ∙ sym (ap (λ v. cond v (Some a) (Some c)) (le-ltb a.0.0 c.0.0 (omega arith)))

lower : (n m : ℕ) (q : ByIds) → n < m → AllAbove m q → AllAbove n q
lower n m [] k a = tt
lower n m (x ∷ q) k a = let b = a.0 in (omega arith, lower n m q k a.1)

module _ (s : Attributes) (attrs : List AttrNo) (from : AttrNo) where
  pub least_append : (xs ys : List Row) → least_gain s attrs from (xs ++ ys) ≡ lower_id (least_gain s attrs from xs) (least_gain s attrs from ys)
  least_append [] ys = refl
  least_append (x ∷ xs) ys =
      ap (lower_id (gain_of s attrs from x)) (least_append xs ys) ∙ sym (lower_assoc (gain_of s attrs from x) (least_gain s attrs from xs) (least_gain s attrs from ys))

  -- one after the other
  pub least_on : (best : Gain) (xs ys : List Row) → lower_id (lower_id best (least_gain s attrs from xs)) (least_gain s attrs from ys) ≡ lower_id best (least_gain s attrs from (xs ++ ys))
  least_on best xs ys =
      lower_assoc best (least_gain s attrs from xs) (least_gain s attrs from ys) ∙ ap (lower_id best) (sym (least_append xs ys))

  -- the first gain among rows in their order
  abbrev pub first_in : List Row → Gain
  first_in [] = None
  first_in (row ∷ rows) = option_or (gain_of s attrs from row) (first_in rows)

  -- the id of a gain is the row's
  abbrev SaysId : Id → Gain → Type 0
  SaysId id None = Unit {0}
  SaysId id (Some g) = g.0 ≡ id

  says_id : (row : Row) → SaysId row.id (gain_of s attrs from row)
  says_id row = by_found (find (gains s from row) attrs)
    where
      by_found : (o : Option AttrNo) → SaysId row.id (option_map (λ to. (row.id, to)) o)
      by_found None = tt
      by_found (Some to) = refl

  -- the id of the first gain is above a number where all ids are
  abbrev IsAbove : ℕ → Gain → Type 0
  IsAbove n None = Unit {0}
  IsAbove n (Some g) = n < g.0.0

  first_above : (n : ℕ) (m : ByIds) → AllAbove n m → SayIds m → IsAbove n (first_in (rows_of m))
  first_above n [] a e = tt
  first_above n (r ∷ rs) a e = by_gain (gain_of s attrs from r.1) (says_id r.1) (first_above n rs a.1 e.1)
    where
      by_gain : (g : Gain) → SaysId r.1.id g → IsAbove n (first_in (rows_of rs)) → IsAbove n (option_or g (first_in (rows_of rs)))
      by_gain None says k = k
      by_gain (Some g) says k = let h = a.0 in let i = e.0 in let j = ap (λ (id : Id). id.0) says in omega arith

  put_first : (row : Row) (m : ByIds) → Rising m → SayIds m → first_in (rows_of (put_by_id row m)) ≡ lower_id (gain_of s attrs from row) (first_in (rows_of m))
  put_first row [] h e = by_gain (gain_of s attrs from row)
    where
      by_gain : (g : Gain) → option_or g None ≡ lower_id g None
      by_gain None = refl
      by_gain (Some g) = refl
  put_first row (r ∷ rs) h e = by_test (ltb (id_of row) r.0) refl (put_first row rs h.1 e.1)
    where
      -- before all others
      before : (g f : Gain) → SaysId row.id g → IsAbove (id_of row) f → option_or g f ≡ lower_id g f
      before None f says k = refl
      before (Some g) None says k = refl
      before (Some g) (Some f) says k =
          let j = ap (λ (id : Id). id.0) says in sym (ap (λ v. cond v (Some g) (Some f)) (lt-ltb g.0.0 f.0.0 (omega arith)))

      -- after the first
      after : (g q f : Gain) → SaysId row.id g → SaysId r.1.id q → ltb (id_of row) (id_of r.1) ≡ false → option_or q (lower_id g f) ≡ lower_id g (option_or q f)
      after g None f says u t = refl
      after None (Some q) f says u t = refl
      after (Some g) (Some q) f says u t =
          sym (ap (λ v. cond v (Some g) (Some q)) (ap (λ (x : Id). ltb x.0 q.0.0) says ∙ ap (λ (x : Id). ltb (id_of row) x.0) u ∙ t))

      all_above : ltb (id_of row) r.0 ≡ true → IsAbove (id_of row) (first_in (rows_of (r ∷ rs)))
      all_above t =
          let l = ltb-true (id_of row) r.0 t in first_above (id_of row) (r ∷ rs) (l, lower (id_of row) r.0 rs l h.0) e

      by_test : (t : Bool) → ltb (id_of row) r.0 ≡ t → first_in (rows_of (put_by_id row rs)) ≡ lower_id (gain_of s attrs from row) (first_in (rows_of rs))
          → first_in (rows_of (cond t ((id_of row, row) ∷ r ∷ rs) (r ∷ put_by_id row rs))) ≡ lower_id (gain_of s attrs from row) (option_or (gain_of s attrs from r.1) (first_in (rows_of rs)))
      by_test true t k = before (gain_of s attrs from row) (first_in (rows_of (r ∷ rs))) (says_id row) (all_above t)
      by_test false t k =
          ap (option_or (gain_of s attrs from r.1)) k
          ∙ after (gain_of s attrs from row) (gain_of s attrs from r.1) (first_in (rows_of rs)) (says_id row) (says_id r.1) (ap (ltb (id_of row)) e.0 ∙ t)

  -- among rows by rising ids the first gain is that of the lowest id
  pub sorted_first : (rows : List Row) → ids_differ rows ≡ true → first_in (rows_of (by_ids rows)) ≡ least_gain s attrs from rows
  sorted_first [] d = refl
  sorted_first (row ∷ rows) d =
      let k = (and_parts (not (list_any (λ other. eqb (id_of other) (id_of row)) rows)) (ids_differ rows) d).1 in
      put_first row (by_ids rows) (ids_rise rows k) (all_say rows) ∙ ap (lower_id (gain_of s attrs from row)) (sorted_first rows k)

  -- four lists, one after the other
  pub least_four : (best x y z w : Gain) (a b c d : List Row) → x ≡ lower_id best (least_gain s attrs from a) → y ≡ lower_id x (least_gain s attrs from b) → z ≡ lower_id y (least_gain s attrs from c) → w ≡ lower_id z (least_gain s attrs from d)
      → w ≡ lower_id best (least_gain s attrs from (a ++ b ++ c ++ d))
  least_four best x y z w a b c d e f g h =
      let ab : y ≡ lower_id best (least_gain s attrs from (a ++ b)) = f ∙ ap (λ q. lower_id q (least_gain s attrs from b)) e ∙ least_on best a b in
      let abc : z ≡ lower_id best (least_gain s attrs from (a ++ b ++ c)) = g ∙ ap (λ q. lower_id q (least_gain s attrs from c)) ab ∙ least_on best (a ++ b) c in
      h ∙ ap (λ q. lower_id q (least_gain s attrs from d)) abc ∙ least_on best (a ++ b ++ c) d
