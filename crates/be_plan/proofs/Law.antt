-- What the plan's definition comes to.
use Rattle.std.proofs.Common.{◌≡◌, ℕ, zero, suc, ◌≤◌, eqb, Bool, true, false, true≢false, not, cond, ◌&&◌, ◌||◌, List, [], ◌∷◌, ◌++◌, Option, Some, None, option_and_then, refl, sym, ap, ◌∙◌, subst, arith}
use Rattle.std.specs.Prelude.{map, filter, count_by}
use Rattle.std.specs.Option.{option_to_list}
use Rattle.std.specs.List.{find, flat_map, list_any, Contains}
use Rattle.std.proofs.lemmas.Bool.{le-leb, or_left, or_right, and_parts, and_from, eqb-true}
use Rattle.std.proofs.lemmas.List.Folds.{list_any-append}
use Rattle.std.proofs.lemmas.List.Sorted.{list_any-IsPermutation}
use Rattle.be_base.specs.declared.names.AttrNo.{AttrNo}
use Rattle.be_base.specs.declared.limits.TheConstants.{EARLY_ROWS}
use Rattle.be_model.specs.declared.changes.Row.{Row}
use Rattle.be_model.specs.declared.paths.Hop.{Hop}
use Rattle.be_model.specs.declared.paths.Hop.TheVariants.{Part, Low, High}
use Rattle.be_model.specs.declared.paths.Step.{Step}
use Rattle.be_model.specs.declared.paths.Step.TheVariants.{SplitPart, SplitHalf, Merge, Shift}
use Rattle.be_model.specs.Schemas.{Attributes, numbered}
use Rattle.be_model.specs.Rows.{id_of, has}
use Rattle.be_model.specs.ByIds.{by_ids, rows_of}
use Rattle.be_model.proofs.Lists.{list_any-map}
use Rattle.be_model.proofs.RowsByIds.{rows_permuted}
use Rattle.be_score.specs.Picks.{pick}
use Rattle.be_shape.specs.Plain.{Plain, node, Parts, no_part, part, leaf_of, parts_under}
use Rattle.be_shape.specs.Shape.{Known, nothing, attrs_of}
use Rattle.be_shape.specs.Paths.{part_on, child, walk}
use Rattle.be_shape.specs.Children.{may_pass}
use Rattle.be_shape.specs.NodeList.{NodeAt, node_at, nodes, known_along}
use Rattle.be_shape.specs.Steps.{is_node, rows_at, test_at, may_merge, can_merge, front, last, can_merge_at, can_shift, stands}
use Rattle.be_shape.proofs.NodeList.{are_listed}
use Rattle.be_plan.specs.Plan.{gains, merges, shifts_of, shifts, is_early, part_splits, half_splits, steps, plan}
use Rattle.be_plan.specs.Law.{NothingStands}
use Rattle.be_plan.proofs.Firsts.{In}
use Rattle.be_plan.proofs.Places.{walk_on}

-- what is found passes
pub found_passes : {X : Type 0} (p : X → Bool) (xs : List X) (y : X) → find p xs ≡ Some y → p y ≡ true
found_passes p [] y e = absurd (cc)
found_passes p (x ∷ xs) y e = by_test (p x) refl e (found_passes p xs y)
  where
    by_test : (b : Bool) → p x ≡ b → cond b (Some x) (find p xs) ≡ Some y → (find p xs ≡ Some y → p y ≡ true) → p y ≡ true
    by_test true t f on = let same : x ≡ y = cc in ap p (sym same) ∙ t
    by_test false t f on = on f

none_stands : (p : Step → Bool) (xs : List Step) → find p xs ≡ None → list_any p xs ≡ false
none_stands p [] e = refl
none_stands p (x ∷ xs) e = by_test (p x) refl e (none_stands p xs)
  where
    by_test : (b : Bool) → p x ≡ b → cond b (Some x) (find p xs) ≡ None → (find p xs ≡ None → list_any p xs ≡ false) → (b || list_any p xs) ≡ false
    by_test true t f on = absurd (cc)
    by_test false t f on = on f

-- where nothing is found, a step of the list doesn't stand
fails : (p : Step → Bool) (xs : List Step) (step : Step) → find p xs ≡ None → (p step ≡ true → In xs step) → p step ≡ false
fails p xs step e i = by_test (p step) refl
  where
    by_test : (b : Bool) → p step ≡ b → b ≡ false
    by_test true t = absurd (true≢false (sym (i t p t) ∙ none_stands p xs e))
    by_test false t = refl

-- elements of lists
contained : {X : Type 0} (xs : List X) (x : X) → Contains xs x → In xs x
contained [] x (k, l, e) q t = absurd (omega arith)
contained (y ∷ xs) x (zero, l, e) q t = or_left (q y) (list_any q xs) (ap q e ∙ t)
contained (y ∷ xs) x (suc k, l, e) q t = or_right (q y) (list_any q xs) (contained xs x (k, omega arith, e) q t)

in_front : {X : Type 0} (xs ys : List X) (x : X) → In xs x → In (xs ++ ys) x
in_front xs ys x h q t = list_any-append q xs ys ∙ or_left (list_any q xs) (list_any q ys) (h q t)

in_back : {X : Type 0} (xs ys : List X) (x : X) → In ys x → In (xs ++ ys) x
in_back xs ys x h q t = list_any-append q xs ys ∙ or_right (list_any q xs) (list_any q ys) (h q t)

pub any_flat : {X Y : Type 0} (q : Y → Bool) (f : X → List Y) (xs : List X) → list_any q (flat_map f xs) ≡ list_any (λ x. list_any q (f x)) xs
any_flat q f [] = refl
any_flat q f (x ∷ xs) = list_any-append q (f x) (flat_map f xs) ∙ ap (λ b. list_any q (f x) || b) (any_flat q f xs)

in_flat : {X Y : Type 0} (f : X → List Y) (xs : List X) (x : X) (y : Y) → In xs x → In (f x) y → In (flat_map f xs) y
in_flat f xs x y h k q t = any_flat q f xs ∙ h (λ z. list_any q (f z)) (k q t)

in_map : {X Y : Type 0} (f : X → Y) (xs : List X) (x : X) → In xs x → In (map f xs) (f x)
in_map f xs x h q t = list_any-map f q xs ∙ h (λ z. q (f z)) t

any_filter : {X : Type 0} (p q : X → Bool) (xs : List X) → list_any q (filter p xs) ≡ list_any (λ x. p x && q x) xs
any_filter p q [] = refl
any_filter p q (x ∷ xs) = by_test (p x) (any_filter p q xs)
  where
    by_test : (b : Bool) → list_any q (filter p xs) ≡ list_any (λ z. p z && q z) xs → list_any q (cond b (x ∷ filter p xs) (filter p xs)) ≡ ((b && q x) || list_any (λ z. p z && q z) xs)
    by_test true e = ap (λ b. q x || b) e
    by_test false e = e

in_filter : {X : Type 0} (p : X → Bool) (xs : List X) (x : X) → In xs x → p x ≡ true → In (filter p xs) x
in_filter p xs x h e q t = any_filter p q xs ∙ h (λ z. p z && q z) (and_from (p x) (q x) e t)

in_attrs : (a : AttrNo) (parts : Parts) → is_node (part_on a parts) ≡ true → In (attrs_of parts) a
in_attrs a no_part h q t = absurd (true≢false (sym h))
in_attrs a (part b root more) h q t = by_test (eqb b.0 a.0) refl h (λ k. in_attrs a more k q t)
  where
    by_test : (v : Bool) → eqb b.0 a.0 ≡ v → is_node (cond v (Some root) (part_on a more)) ≡ true → (is_node (part_on a more) ≡ true → list_any q (attrs_of more) ≡ true) → (q b || list_any q (attrs_of more)) ≡ true
    by_test true e k on = or_left (q b) (list_any q (attrs_of more)) (ap (λ i. q (numbered i)) (eqb-true b.0 a.0 e) ∙ t)
    by_test false e k on = or_right (q b) (list_any q (attrs_of more)) (on k)

in_parts : (a : AttrNo) (n : Plain) → is_node (child (Part a) n) ≡ true → In (attrs_of (parts_under n)) a
in_parts a (node rows parts low high) h = in_attrs a parts h

-- a path by its last step
snoc : (hop : Hop) (hops : List Hop) → front hop hops ++ last hop hops ∷ [] ≡ hop ∷ hops
snoc hop [] = refl
snoc hop (next ∷ hops) = ap (λ p. hop ∷ p) (snoc next hops)

record Leads (path : List Hop) (root : Plain) : Type 0 where
  end : Plain
  is : walk path root ≡ Some end

-- where a merge stands its path leads to a node
merge_leads : (s : Attributes) (path : List Hop) (root : Plain) → can_merge_at s path root ≡ true → Leads path root
merge_leads s [] root h = absurd (true≢false (sym h))
merge_leads s (hop ∷ hops) root h = by_walk (walk (front hop hops) root) refl h
  where
    by_child : (n : Plain) (k : Known) (o : Option Plain) → walk (front hop hops) root ≡ Some n → child (last hop hops) n ≡ o → may_merge s (last hop hops) k n o ≡ true → Leads (hop ∷ hops) root
    by_child n k None w c t = absurd (true≢false (sym t))
    by_child n k (Some m) w c t =
        record { end = m; is = ap (λ p. walk p root) (sym (snoc hop hops)) ∙ walk_on (front hop hops) (last hop hops) root ∙ ap (option_and_then (child (last hop hops))) w ∙ c }

    by_walk : (o : Option Plain) → walk (front hop hops) root ≡ o → test_at (can_merge s (last hop hops)) (known_along s (front hop hops) nothing) o ≡ true → Leads (hop ∷ hops) root
    by_walk None w t = absurd (true≢false (sym t))
    by_walk (Some n) w t = by_child n (known_along s (front hop hops) nothing) (child (last hop hops) n) w refl t

module _ (s : Attributes) (alpha : ℕ) (root : Plain) where
  abbrev all : List NodeAt
  all = nodes s root

  abbrev here : List Hop → Plain → NodeAt
  here path n = node_at path (known_along s path nothing) n

  listed : (path : List Hop) (n : Plain) → walk path root ≡ Some n → In all (here path n)
  listed path n w = contained all (here path n) (are_listed s root path n w)

  abbrev m : List Step
  m = flat_map merges all

  abbrev o : List Step
  o = flat_map (shifts s) all

  abbrev p : List Step
  p = flat_map (part_splits s alpha) all

  abbrev h : List Step
  h = flat_map (half_splits s) all

  in_merges : (step : Step) → In m step → In (steps s alpha root) step
  in_merges step i = in_front (m ++ o ++ p) h step (in_front (m ++ o) p step (in_front m o step i))

  in_shifts : (step : Step) → In o step → In (steps s alpha root) step
  in_shifts step i = in_front (m ++ o ++ p) h step (in_front (m ++ o) p step (in_back m o step i))

  in_part_splits : (step : Step) → In p step → In (steps s alpha root) step
  in_part_splits step i = in_front (m ++ o ++ p) h step (in_back (m ++ o) p step i)

  in_half_splits : (step : Step) → In h step → In (steps s alpha root) step
  in_half_splits step i = in_back (m ++ o ++ p) h step i

  one : (step : Step) → In (step ∷ []) step
  one step q t = or_left (q step) false t

  merge_listed : (path : List Hop) → stands s (Merge path) root ≡ true → In (steps s alpha root) (Merge path)
  merge_listed path t =
      let l = merge_leads s path root t in in_merges (Merge path) (in_flat merges all (here path l.end) (Merge path) (listed path l.end l.is) (one (Merge path)))

  shift_listed : (path : List Hop) (n : Plain) (from to : AttrNo) (row : Row) → walk path root ≡ Some n → Contains (rows_at (Part from) n) row → gains s from row to ≡ true → stands s (Shift path from to row.id) root ≡ true
      → In (steps s alpha root) (Shift path from to row.id)
  shift_listed path n from to row w c g t =
      let can : can_shift from to (id_of row) n ≡ true = sym (ap (test_at (λ j x. can_shift from to (id_of row) x) (known_along s path nothing)) w) ∙ t in
      let rows = rows_at (Part from) n in
      let some = list_any (λ r. eqb (id_of r) (id_of row) && has to r) rows in
      let a = not (eqb from.0 to.0) in
      let b = is_node (child (Part from) n) in
      let d = is_node (child (Part to) n) in
      let x = and_parts (a && b && d) some can in
      let y = and_parts (a && b) d x.0 in
      let z = and_parts a b y.0 in
      let attrs = attrs_of (parts_under n) in
      let step = Shift path from to row.id in
      let sorted : In (rows_of (by_ids rows)) row = λ q u. sym (list_any-IsPermutation q rows (rows_of (by_ids rows)) (rows_permuted rows)) ∙ contained rows row c q u in
      let of_row : In (shifts_of s (here path n) from row) step = in_map (λ u. Shift path from u row.id) (filter (gains s from row) attrs) to (in_filter (gains s from row) attrs to (in_parts to n y.1) g) in
      in_shifts step (in_flat (shifts s) all (here path n) step (listed path n w)
      (in_flat (λ f. flat_map (shifts_of s (here path n) f) (rows_of (by_ids (rows_at (Part f) n)))) attrs from step (in_parts from n z.1) (in_flat (shifts_of s (here path n) from) (rows_of (by_ids rows)) row step sorted of_row)))

  part_listed : (path : List Hop) (n : Plain) (a : AttrNo) → walk path root ≡ Some n → pick s (leaf_of n) (known_along s path nothing).used alpha ≡ Some a → EARLY_ROWS ≤ count_by (has a) (leaf_of n) → In (steps s alpha root) (SplitPart path a)
  part_listed path n a w e l =
      let early : AttrNo → Bool = λ b. is_early s (here path n) (Part b) in
      let picked : In (option_to_list (pick s (leaf_of n) (known_along s path nothing).used alpha)) a = subst (λ z. In (option_to_list z) a) (sym e) (λ q t. or_left (q a) false t) in
      in_part_splits (SplitPart path a) (in_flat (part_splits s alpha) all (here path n) (SplitPart path a) (listed path n w)
      (in_map (λ b. SplitPart path b) (filter early (option_to_list (pick s (leaf_of n) (known_along s path nothing).used alpha))) a (in_filter early (option_to_list (pick s (leaf_of n) (known_along s path nothing).used alpha)) a picked (le-leb EARLY_ROWS (count_by (has a) (leaf_of n)) l))))

  half_listed : (path : List Hop) (n : Plain) (half : Hop) → In (Low ∷ High ∷ []) half → walk path root ≡ Some n → EARLY_ROWS ≤ count_by (may_pass s half (known_along s path nothing).range) (leaf_of n) → In (steps s alpha root) (SplitHalf path half)
  half_listed path n half i w l =
      in_half_splits (SplitHalf path half) (in_flat (half_splits s) all (here path n) (SplitHalf path half) (listed path n w)
      (in_map (λ b. SplitHalf path b) (filter (is_early s (here path n)) (Low ∷ High ∷ [])) half (in_filter (is_early s (here path n)) (Low ∷ High ∷ []) half i (le-leb EARLY_ROWS (count_by (may_pass s half (known_along s path nothing).range) (leaf_of n)) l))))

  half_fails : plan s alpha root ≡ None → (path : List Hop) (n : Plain) (half : Hop) → walk path root ≡ Some n → EARLY_ROWS ≤ count_by (may_pass s half (known_along s path nothing).range) (leaf_of n) → stands s (SplitHalf path half) root ≡ false
  half_fails e path n (Part a) w l = refl
  half_fails e path n Low w l = fails (λ step. stands s step root) (steps s alpha root) (SplitHalf path Low) e (λ t. half_listed path n Low (λ q u. or_left (q Low) (q High || false) u) w l)
  half_fails e path n High w l =
      fails (λ step. stands s step root) (steps s alpha root) (SplitHalf path High) e (λ t. half_listed path n High (λ q u. or_right (q Low) (q High || false) (or_left (q High) false u)) w l)

  pub nothing_left : plan s alpha root ≡ None → NothingStands s alpha root
  nothing_left e =
      record {
        merge = λ path. fails (λ step. stands s step root) (steps s alpha root) (Merge path) e (merge_listed path);
        shift = λ path n from to row w c g. fails (λ step. stands s step root) (steps s alpha root) (Shift path from to row.id) e (shift_listed path n from to row w c g);
        part = λ path n a w k l. fails (λ step. stands s step root) (steps s alpha root) (SplitPart path a) e (λ t. part_listed path n a w k l);
        half = half_fails e;
      }

  pub plan_stands : (step : Step) → plan s alpha root ≡ Some step → stands s step root ≡ true
  plan_stands step e = found_passes (λ x. stands s x root) (steps s alpha root) step e
