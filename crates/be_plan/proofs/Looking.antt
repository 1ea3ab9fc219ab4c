-- What a look finds stands.
use Rattle.std.proofs.Common.{◌≡◌, ℕ, ◌+◌, ◌<◌, ltb, eqb, Bool, true, false, true≢false, not, cond, ◌&&◌, List, [], ◌∷◌, Option, Some, None, option_map, option_and_then, take, drop, length, get_or, refl, sym, ap, ◌∙◌, subst}
use Rattle.std.specs.List.{find, flat_map, list_all, list_any}
use Rattle.std.proofs.lemmas.Bool.{and_from, or_left, or_right, not_from_false, eq-eqb, ne_eqb}
use Rattle.std.proofs.lemmas.List.{drop_more, take_more}
use Rattle.std.proofs.lemmas.List.Folds.{list_any-append}
use Rattle.be_base.specs.declared.names.AttrNo.{AttrNo}
use Rattle.be_base.specs.declared.names.Id.{Id}
use Rattle.be_model.specs.declared.changes.Row.{Row}
use Rattle.be_model.specs.declared.paths.Hop.{Hop}
use Rattle.be_model.specs.declared.paths.Hop.TheVariants.{Part}
use Rattle.be_model.specs.declared.paths.Step.{Step}
use Rattle.be_model.specs.Schemas.{Attributes}
use Rattle.be_model.specs.Rows.{id_of, has}
use Rattle.be_shape.specs.Plain.{Plain, node, Parts, no_part, part, rows_below, leaf_of, parts_under}
use Rattle.be_shape.specs.Shape.{Known, attrs_of, may_stand}
use Rattle.be_shape.specs.Paths.{part_on, child, walk}
use Rattle.be_shape.specs.Children.{children}
use Rattle.be_shape.specs.Steps.{is_node, rows_of_node, rows_at, can_shift, stands}
use Rattle.be_shape.proofs.Children.{rows_of, rows_are}
use Rattle.be_shape.specs.Right.{IsRight}
use Rattle.be_shape.proofs.Lists.{all_front}
use Rattle.be_shape.proofs.Placed.{at_child}
use Rattle.be_plan.specs.declared.bests.Best.{Best}
use Rattle.be_plan.specs.Best.{first, better}
use Rattle.be_plan.specs.Looks.{Stands, LeadsTo}
use Rattle.be_plan.specs.Plan.{gains}
use Rattle.be_plan.specs.Shifts.{gain_of, lower_id, least_gain}
use Rattle.be_plan.proofs.Gains.{gain_has, gain_differs}
use Rattle.be_plan.proofs.Ids.{Gain}
use Rattle.be_plan.proofs.Firsts.{In, each_in}
use Rattle.be_plan.proofs.Law.{found_passes, any_flat}
use Rattle.be_plan.proofs.Places.{walk_on}

-- of two steps that stand the better one stands
pub better_stands : (s : Attributes) (root : Plain) (kind : ℕ) (o : Option Step) (best : Best) → Stands s root o → Stands s root best.step → Stands s root (better kind o best).step
better_stands s root kind None best h k = k
better_stands s root kind (Some step) best h k = by_test (ltb kind best.sought)
  where
    by_test : (b : Bool) → Stands s root (cond b (record { sought = kind; step = Some step }) best).step
    by_test true = h
    by_test false = k

first_stands : (s : Attributes) (root : Plain) (steps : List Step) → Stands s root (first s root steps)
unfolding first
first_stands s root steps = by_found (find (λ step. stands s step root) steps) refl
  where
    by_found : (o : Option Step) → find (λ step. stands s step root) steps ≡ o → Stands s root o
    by_found None e = tt
    by_found (Some step) e = found_passes (λ x. stands s x root) steps step e

-- the best step so far still stands where it was compared with the first of some that stands
pub still_stands : (s : Attributes) (root : Plain) (kind : ℕ) (steps : List Step) (best best' : Best) → best' ≡ better kind (first s root steps) best → Stands s root best.step → Stands s root best'.step
still_stands s root kind steps best best' is h =
    subst (λ (b : Best). Stands s root b.step) (sym is) (better_stands s root kind (first s root steps) best (first_stands s root steps) h)

-- the rows of a leaf are below each node from which a way leads to it
any_in_leaf : (q : Row → Bool) (n : Plain) → list_any q (leaf_of n) ≡ true → list_any q (rows_below n) ≡ true
any_in_leaf q n h =
    ap (list_any q) (rows_are n) ∙ list_any-append q (leaf_of n) (flat_map rows_of (children n)) ∙ or_left (list_any q (leaf_of n)) (list_any q (flat_map rows_of (children n))) h

any_in_child : (q : Row → Bool) (hop : Hop) (n m : Plain) → child hop n ≡ Some m → list_any q (rows_below m) ≡ true → list_any q (rows_below n) ≡ true
any_in_child q hop n m e h =
    ap (list_any q) (rows_are n) ∙ list_any-append q (leaf_of n) (flat_map rows_of (children n))
    ∙ or_right (list_any q (leaf_of n)) (list_any q (flat_map rows_of (children n))) (any_flat q rows_of (children n) ∙ at_child (In (children n)) hop n m e (each_in (children n)) (λ x. list_any q (rows_of x)) h)

any_below : (q : Row → Bool) (way : List Hop) (n m : Plain) → walk way n ≡ Some m → list_any q (leaf_of m) ≡ true → list_any q (rows_below n) ≡ true
any_below q [] n m e h = let is : n ≡ m = cc in any_in_leaf q n (ap (λ x. list_any q (leaf_of x)) is ∙ h)
any_below q (hop ∷ way) n m e h = by_child (child hop n) refl e (λ x w. any_below q way x m w h)
  where
    by_child : (o : Option Plain) → child hop n ≡ o → option_and_then (walk way) o ≡ Some m → ((x : Plain) → walk way x ≡ Some m → list_any q (rows_below x) ≡ true) → list_any q (rows_below n) ≡ true
    by_child None c w on = absurd (cc)
    by_child (Some x) c w on = any_in_child q hop n x c (on x w)

-- a part on whose attribute a row gains is there
part_found : (p : AttrNo → Bool) (to : AttrNo) (parts : Parts) → find p (attrs_of parts) ≡ Some to → is_node (part_on to parts) ≡ true
part_found p to no_part e = absurd (cc)
part_found p to (part b root more) e = by_same (eqb b.0 to.0) refl (p b) e (part_found p to more)
  where
    by_same : (v : Bool) → eqb b.0 to.0 ≡ v → (u : Bool) → cond u (Some b) (find p (attrs_of more)) ≡ Some to → (find p (attrs_of more) ≡ Some to → is_node (part_on to more) ≡ true) → is_node (cond v (Some root) (part_on to more)) ≡ true
    by_same true v u f on = refl
    by_same false v true f on = let is : b ≡ to = cc in absurd (true≢false (sym (eq-eqb b.0 to.0 (ap (λ (a : AttrNo). a.0) is)) ∙ v))
    by_same false v false f on = on f

part_is_there : (p : AttrNo → Bool) (to : AttrNo) (n : Plain) → find p (attrs_of (parts_under n)) ≡ Some to → is_node (child (Part to) n) ≡ true
part_is_there p to (node rows parts low high) e = part_found p to parts e

module _ (s : Attributes) (attrs : List AttrNo) (from : AttrNo) where
  -- a row of these gains so
  record Gains (rows : List Row) (g : Id × AttrNo) : Type 0 where
    row : Row
    there : In rows row
    is : gain_of s attrs from row ≡ Some g

  gained : (rows : List Row) (g : Id × AttrNo) → least_gain s attrs from rows ≡ Some g → Gains rows g
  gained [] g e = absurd (cc)
  gained (row ∷ rows) g e = by_gains (gain_of s attrs from row) (least_gain s attrs from rows) refl refl e (gained rows g)
    where
      here : gain_of s attrs from row ≡ Some g → Gains (row ∷ rows) g
      here is = record { row = row; there = λ q t. or_left (q row) (list_any q rows) t; is = is }

      later : Gains rows g → Gains (row ∷ rows) g
      later r = record { row = r.row; there = λ q t. or_right (q row) (list_any q rows) (r.there q t); is = r.is }

      by_gains : (a b : Gain) → gain_of s attrs from row ≡ a → least_gain s attrs from rows ≡ b → lower_id a b ≡ Some g → (least_gain s attrs from rows ≡ Some g → Gains rows g) → Gains (row ∷ rows) g
      by_gains None b x y f on = later (on (y ∙ f))
      by_gains (Some a) None x y f on = here (x ∙ f)
      by_gains (Some a) (Some b) x y f on = by_test (ltb a.0.0 b.0.0) f
        where
          by_test : (v : Bool) → cond v (Some a) (Some b) ≡ Some g → Gains (row ∷ rows) g
          by_test true h = here (x ∙ h)
          by_test false h = later (on (y ∙ h))

  gain_parts : (row : Row) (id : Id) (to : AttrNo) (o : Option AttrNo) → option_map {U = Id × AttrNo} (λ a. (row.id, a)) o ≡ Some (id, to) → (o ≡ Some to) × (row.id ≡ id)
  gain_parts row id to None e = absurd (cc)
  gain_parts row id to (Some a) e =
      let ids : Some row.id ≡ Some id = ap (option_map (λ (x : Id × AttrNo). x.0)) e in
      let is : row.id ≡ id = cc in (ap (option_map (λ (x : Id × AttrNo). x.1)) e, is)

-- a row of a leaf that gains by leaving a part through which the way leads to it
pub leaver_can : (s : Attributes) (n : Plain) (from to : AttrNo) (id : Id) (below : List Hop) (leaf : List Row) → LeadsTo (Part from ∷ below) n leaf
    → least_gain s (attrs_of (parts_under n)) from leaf ≡ Some (id, to) → can_shift from to id.0 n ≡ true
leaver_can s n from to id below leaf (m, w, l) e = by_child (child (Part from) n) refl w
  where
    by_child : (o : Option Plain) → child (Part from) n ≡ o → option_and_then (walk below) o ≡ Some m → can_shift from to id.0 n ≡ true
    by_child None c v = absurd (cc)
    by_child (Some x) c v =
        let g = gained s (attrs_of (parts_under n)) from leaf (id, to) e in
        let row = g.row in
        let p = gain_parts s (attrs_of (parts_under n)) from row id to (find (gains s from row) (attrs_of (parts_under n))) g.is in
        let gain = found_passes (gains s from row) (attrs_of (parts_under n)) to p.0 in
        let q : Row → Bool = λ r. eqb (id_of r) id.0 && has to r in
        let own = and_from (eqb (id_of row) id.0) (has to row) (eq-eqb (id_of row) id.0 (ap (λ (i : Id). i.0) p.1)) (gain_has s from to row gain) in
        let rows : list_any q (rows_at (Part from) n) ≡ true = ap (λ o. list_any q (rows_of_node o)) c ∙ any_below q below x m v (ap (list_any q) l ∙ g.there q own) in
        let b = not (eqb from.0 to.0) in
        let d = is_node (child (Part from) n) in
        let f = is_node (child (Part to) n) in
        and_from (b && d && f) (list_any q (rows_at (Part from) n)) (and_from (b && d) f (and_from b d (not_from_false (eqb from.0 to.0) (ne_eqb from.0 to.0 (gain_differs s from to row gain))) (ap is_node c)) (part_is_there (gains s from row) to n p.0)) rows

-- one step further on a way
pub way_left : (way : List Hop) (i : ℕ) (d : Hop) (n m : Plain) → i < length way → Some m ≡ child (get_or way i d) n → walk (drop (i + 1) way) m ≡ walk (drop i way) n
way_left way i d n m l is =
    sym (ap (λ hops. walk hops n) (drop_more way i d l) ∙ ap (option_and_then (walk (drop (i + 1) way))) (sym is))

pub way_gone : (way : List Hop) (i : ℕ) (d : Hop) (root n m : Plain) → i < length way → walk (take i way) root ≡ Some n → Some m ≡ child (get_or way i d) n → walk (take (i + 1) way) root ≡ Some m
way_gone way i d root n m l w is =
    ap (λ hops. walk hops root) (take_more way i d l) ∙ walk_on (take i way) (get_or way i d) root ∙ ap (option_and_then (child (get_or way i d))) w ∙ sym is

pub leaf_may : (s : Attributes) (k : Known) (n : Plain) → IsRight s k n → list_all (may_stand s) (leaf_of n) ≡ true
leaf_may s k n r =
    all_front (may_stand s) (leaf_of n) (flat_map rows_of (children n)) (sym (ap (list_all (may_stand s)) (rows_are n)) ∙ r.may)
