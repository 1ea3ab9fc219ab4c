-- Maps of shared rows, as finite maps from id to row.
use Rattle.std.proofs.Common.{◌≡◌, ℕ, ◌<◌, ◌==◌, Bool, true, false, not, cond, List, [], ◌∷◌, filter, Option, Result, Ok, Err, OnOk, OnErr, IsTrue, ◌↔◌, Some, None, option_map, nat_lt, refl, sym, ap, subst, ◌∙◌, arith}
use Rattle.std.specs.Arc.{arc_value}
use Rattle.std.specs.Bool.{OnTrue, OnFalse}
use Rattle.std.specs.declared.sync.Arc.{Arc}
use Rattle.std.specs.BTreeMap.{insert_entry, is_at}
use Rattle.std.specs.Map.{lookup, remove_entry}
use Rattle.std.specs.Ordering.{nat_cmp, match_ordering}
use Rattle.std.specs.declared.cmp.Ordering.{Ordering}
use Rattle.std.specs.declared.cmp.Ordering.TheVariants.{Less, Equal, Greater}
use Rattle.std.proofs.lemmas.Bool.{or_parts}
use Rattle.std.proofs.lemmas.Bool.Decides.{nat_tests}
use Rattle.be_base.specs.declared.limits.TheConstants.{LOG_CHANGES}
use Rattle.be_model.specs.declared.changes.Row.{Row}
use Rattle.be_model.specs.Rows.{id_of}
use Rattle.be_model.specs.ByIds.{ByIds, map_in, put_by_id, without_id, row_at, has_id, AllAbove, Rising}
use Rattle.be_model.proofs.RowsByIds.{put_rising, put_says, put_below}
use Rattle.be_model.proofs.RisingIds.{AllBelow-kept, Rising-filter, SayIds-filter}
use Rattle.be_index.specs.Promise.{IsMap}

at_is : (id x : ℕ) → is_at (nat_cmp id) x ≡ (x == id)
at_is id x = grind (arith, nat_tests)

below_cmp : (a b : ℕ) → nat_lt a b ≡ true → nat_cmp a b ≡ Less
below_cmp a b h = ap (λ c. cond c Less (cond (a == b) Equal Greater)) h

above_cmp : (a b : ℕ) → nat_lt a b ≡ false → (b == a) ≡ false → nat_cmp a b ≡ Greater
above_cmp a b h k = grind (arith, nat_tests)

-- a row more
pub put_is : {Z : Type 0} (es : List (ℕ × Arc Row Z)) (id : ℕ) (row : Arc Row Z) → id ≡ id_of (arc_value row) → has_id id (map_in es) ≡ false
    → map_in (insert_entry nat_cmp es id row) ≡ put_by_id (arc_value row) (map_in es)
put_is [] id row is new = ap (λ (n : ℕ). (n, arc_value row) ∷ []) is
put_is {Z} (e ∷ es) id row is new =
    let apart = or_parts (e.0 == id) (has_id id (map_in es)) new in
    step apart.0 (put_is es id row is apart.1) (nat_lt id e.0) refl
  where
    rest : ByIds
    rest = map_in es

    step : (e.0 == id) ≡ false → map_in (insert_entry nat_cmp es id row) ≡ put_by_id (arc_value row) (map_in es) → (b : Bool) → nat_lt id e.0 ≡ b → map_in (insert_entry nat_cmp (e ∷ es) id row) ≡ put_by_id (arc_value row) (map_in (e ∷ es))
    step apart more true h =
        ap (λ (o : Ordering). map_in (match_ordering o ((id, row) ∷ e ∷ es) ((e.0, row) ∷ es) (e ∷ insert_entry nat_cmp es id row))) (below_cmp id e.0 h)
        ∙ ap (λ (n : ℕ). (n, arc_value row) ∷ map_in (e ∷ es)) is
        ∙ sym (ap (λ (b : Bool). cond b ((id_of (arc_value row), arc_value row) ∷ map_in (e ∷ es)) ((e.0, arc_value e.1) ∷ put_by_id (arc_value row) rest)) (ap (λ (n : ℕ). nat_lt n e.0) (sym is) ∙ h))
    step apart more false h =
        ap (λ (o : Ordering). map_in (match_ordering o ((id, row) ∷ e ∷ es) ((e.0, row) ∷ es) (e ∷ insert_entry nat_cmp es id row))) (above_cmp id e.0 h apart)
        ∙ ap (λ (m : ByIds). (e.0, arc_value e.1) ∷ m) more
        ∙ sym (ap (λ (b : Bool). cond b ((id_of (arc_value row), arc_value row) ∷ map_in (e ∷ es)) ((e.0, arc_value e.1) ∷ put_by_id (arc_value row) rest)) (ap (λ (n : ℕ). nat_lt n e.0) (sym is) ∙ h))

-- the row of an id
pub lookup_is : {Z : Type 0} (es : List (ℕ × Arc Row Z)) (id : ℕ) → option_map (λ (x : Arc Row Z). arc_value x) (lookup (is_at (nat_cmp id)) es) ≡ row_at id (map_in es)
lookup_is [] id = refl
lookup_is {Z} (e ∷ es) id =
    ap (λ (b : Bool). option_map (λ (x : Arc Row Z). arc_value x) (cond b (Some e.1) (lookup (is_at (nat_cmp id)) es))) (at_is id e.0) ∙ step (e.0 == id) (lookup_is es id)
  where
    step : (b : Bool) → option_map (λ (x : Arc Row Z). arc_value x) (lookup (is_at (nat_cmp id)) es) ≡ row_at id (map_in es)
        → option_map (λ (x : Arc Row Z). arc_value x) (cond b (Some e.1) (lookup (is_at (nat_cmp id)) es)) ≡ cond b (Some (arc_value e.1)) (row_at id (map_in es))
    step true h = refl
    step false h = h

-- above an id nothing goes with it
above_stays : (id : ℕ) (m : ByIds) → AllAbove id m → without_id id m ≡ m
above_stays id [] a = refl
above_stays id (r ∷ rs) a =
    let apart : (r.0 == id) ≡ false = grind (arith, nat_tests, a.0) in
    ap (λ (b : Bool). cond (not b) (r ∷ without_id id rs) (without_id id rs)) apart ∙ ap (λ (m : ByIds). r ∷ m) (above_stays id rs a.1)

above_at : (n id : ℕ) (m : ByIds) → n ≡ id → AllAbove n m → without_id id m ≡ m
above_at n id m is a = ap (λ (k : ℕ). without_id k m) (sym is) ∙ above_stays n m a

-- the rows but that of an id
pub removed_is : {Z : Type 0} (es : List (ℕ × Arc Row Z)) (id : ℕ) → Rising (map_in es) → map_in (remove_entry (is_at (nat_cmp id)) es) ≡ without_id id (map_in es)
removed_is [] id up = refl
removed_is {Z} (e ∷ es) id up =
    ap (λ (b : Bool). map_in (cond b es (e ∷ remove_entry (is_at (nat_cmp id)) es))) (at_is id e.0) ∙ step (removed_is es id up.1) (e.0 == id) refl
  where
    step : map_in (remove_entry (is_at (nat_cmp id)) es) ≡ without_id id (map_in es) → (b : Bool) → (e.0 == id) ≡ b → map_in (cond b es (e ∷ remove_entry (is_at (nat_cmp id)) es)) ≡ cond (not b) ((e.0, arc_value e.1) ∷ without_id id (map_in es)) (without_id id (map_in es))
    step more true h = sym (above_at e.0 id (map_in es) (grind (arith, nat_tests, h)) up.0)
    step more false h = ap (λ (m : ByIds). (e.0, arc_value e.1) ∷ m) more

-- what stays a map
pub put_map : (row : Row) (m : ByIds) → IsMap m → has_id (id_of row) m ≡ false → id_of row < LOG_CHANGES → IsMap (put_by_id row m)
put_map row m w new low = record { rising = put_rising row m w.rising new; say = put_says row m w.say; low = put_below LOG_CHANGES row m low w.low }

pub filtered_map : (p : ℕ × Row → Bool) (m : ByIds) → IsMap m → IsMap (filter p m)
filtered_map p m w = record { rising = Rising-filter p m w.rising; say = SayIds-filter p m w.say; low = AllBelow-kept LOG_CHANGES p m w.low }

pub map_after_put : {A B : Type 0} (r : Result A B) (row : Row) (m m' : ByIds) → OnOk r (m' ≡ put_by_id row m) → OnErr r (m' ≡ m)
    → IsMap m → has_id (id_of row) m ≡ false → id_of row < LOG_CHANGES → IsMap m'
map_after_put (Ok x) row m m' put same w new low = subst IsMap (sym put) (put_map row m w new low)
map_after_put (Err x) row m m' put same w new low = subst IsMap (sym same) w

pub map_after_drop : (b : Bool) (id : ℕ) (m m' : ByIds) → OnTrue b (m' ≡ without_id id m) → OnFalse b (m' ≡ m) → IsMap m → IsMap m'
map_after_drop true id m m' gone same w = subst IsMap (sym gone) (filtered_map (λ r. not (r.0 == id)) m w)
map_after_drop false id m m' gone same w = subst IsMap (sym same) w

-- whether the held row is the row
pub held_is : (held row : Row) (found : Option Row) (b : Bool) → found ≡ Some held → IsTrue b ↔ (held ≡ row) → IsTrue b ↔ (found ≡ Some row)
held_is held row found b is same =
    (λ t. is ∙ ap (λ (x : Row). Some x) (same.0 t), λ e. same.1 (let both : Some held ≡ Some row = sym is ∙ e in cc))

pub held_none : (row : Row) (found : Option Row) → found ≡ None → IsTrue false ↔ (found ≡ Some row)
held_none row found is = (λ t. absurd cc, λ e. let both : None ≡ Some row = sym is ∙ e in absurd cc)
