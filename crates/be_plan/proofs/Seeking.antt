-- The best step after a look at nodes, and the first of all steps.
use Rattle.std.proofs.Common.{◌≡◌, ℕ, ◌+◌, ◌<◌, ◌≤◌, Bool, cond, List, [], ◌∷◌, ◌++◌, length, drop, get_or, Option, Some, None, refl, sym, ap, ◌∙◌, arith}
use Rattle.std.specs.Option.{option_or}
use Rattle.std.specs.List.{find, flat_map}
use Rattle.std.proofs.lemmas.Bool.{le-ltb}
use Rattle.std.proofs.lemmas.List.Folds.{find-append}
use Rattle.be_model.specs.declared.changes.Row.{Row}
use Rattle.be_model.specs.declared.paths.Hop.{Hop}
use Rattle.be_model.specs.declared.paths.Hop.TheVariants.{Part as PartHop, Low, High}
use Rattle.be_model.specs.declared.paths.Step.{Step}
use Rattle.be_model.specs.Schemas.{Attributes}
use Rattle.be_shape.specs.declared.nodes.Part.{Part}
use Rattle.be_shape.specs.Plain.{Plain, node, Parts, Half, part_as, parts_as}
use Rattle.be_shape.specs.Shape.{Known, known, nothing, in_part, in_low, in_high}
use Rattle.be_shape.specs.Paths.{child}
use Rattle.be_shape.specs.NodeList.{NodeAt, node_at, nodes_from, nodes_in_parts, nodes_in_half, nodes}
use Rattle.be_shape.specs.Steps.{stands, may_merge, can_merge}
use Rattle.be_plan.specs.declared.bests.Best.{Best}
use Rattle.be_plan.specs.Plan.{merges, shifts, part_splits, half_splits, plan}
use Rattle.be_plan.specs.Best.{first, better, after_merges, after_others, best_after, below_after}
use Rattle.be_plan.proofs.Rows.{parts_left}

-- a kind that isn't looked for any more
pub closed : (kind : ℕ) (o : Option Step) (best : Best) → best.sought ≤ kind → best ≡ better kind o best
closed kind None best l = refl
closed kind (Some step) best l =
    sym (ap (λ b. cond b (record { sought = kind; step = Some step }) best) (le-ltb kind best.sought l))

-- of the node alone only the range is asked for
pub merge_range : (s : Attributes) (hop : Hop) (k : Known) (n m : Plain) → child hop n ≡ Some m → can_merge s hop (known k.range []) n ≡ can_merge s hop k n
merge_range s hop k n m e = ap (may_merge s hop (known k.range []) n) e ∙ sym (ap (may_merge s hop k n) e)

module _ (s : Attributes) (alpha : ℕ) (root : Plain) where
  abbrev after : List NodeAt → Best → Best
  after = best_after s alpha root

  pub best_append : (xs ys : List NodeAt) (b : Best) → best_after s alpha root (xs ++ ys) b ≡ best_after s alpha root ys (best_after s alpha root xs b)
  best_append [] ys b = refl
  best_append (x ∷ xs) ys b = best_append xs ys (after_others s alpha root x (after_merges s root x b))

  -- a part more
  pub part_step : (path : List Hop) (k : Known) (ps : List Part) (i : ℕ) (p : Part) (b : Best) → i < length ps → p ≡ get_or ps i p
      → best_after s alpha root (nodes_in_parts s path k (parts_as (drop i ps))) b
      ≡ best_after s alpha root (nodes_in_parts s path k (parts_as (drop (i + 1) ps))) (best_after s alpha root (nodes_from s (path ++ PartHop (part_as p).0 ∷ []) (in_part s (part_as p).0 k) (part_as p).1) b)
  part_step path k ps i p b l is =
      let rest = nodes_in_parts s path k (parts_as (drop (i + 1) ps)) in
      ap (λ q. after (nodes_in_parts s path k q) b) (parts_left ps i p l is)
      ∙ best_append (nodes_from s (path ++ PartHop (part_as p).0 ∷ []) (in_part s (part_as p).0 k) (part_as p).1) rest b

  -- a node whole, but for its merge
  pub node_step : (path : List Hop) (k : Known) (leaf : List Row) (parts : Parts) (low high : Half) (b b1 b2 b3 b4 : Best)
      → b1 ≡ after_others s alpha root (node_at path k (node leaf parts low high)) b → b2 ≡ best_after s alpha root (nodes_in_parts s path k parts) b1
      → b3 ≡ best_after s alpha root (nodes_in_half s (path ++ Low ∷ []) (in_low k) low) b2 → b4 ≡ best_after s alpha root (nodes_in_half s (path ++ High ∷ []) (in_high k) high) b3
      → b4 ≡ below_after s alpha root (nodes_from s path k (node leaf parts low high)) b
  node_step path k leaf parts low high b b1 b2 b3 b4 e f g h =
      let p = nodes_in_parts s path k parts in
      let l = nodes_in_half s (path ++ Low ∷ []) (in_low k) low in
      let u = nodes_in_half s (path ++ High ∷ []) (in_high k) high in
      h ∙ ap (after u) (g ∙ ap (after l) f ∙ sym (best_append p l b1)) ∙ sym (best_append (p ++ l) u b1) ∙ ap (after (p ++ l ++ u)) e

  -- where no kind is looked for any more
  others_shut_here : (x : NodeAt) (b : Best) → b.sought ≡ 0 → after_others s alpha root x b ≡ b
  others_shut_here x b e =
      let o = first s root (shifts s x) in
      let p = first s root (part_splits s alpha x) in
      let q = first s root (half_splits s x) in
      ap (λ c. better 3 q (better 2 p c)) (sym (closed 1 o b (omega arith))) ∙ ap (better 3 q) (sym (closed 2 p b (omega arith))) ∙ sym (closed 3 q b (omega arith))

  all_shut : (xs : List NodeAt) (b : Best) → b.sought ≡ 0 → best_after s alpha root xs b ≡ b
  all_shut [] b e = refl
  all_shut (x ∷ xs) b e =
      ap (λ c. after xs (after_others s alpha root x c)) (sym (closed 0 (first s root (merges x)) b (omega arith))) ∙ ap (after xs) (others_shut_here x b e) ∙ all_shut xs b e

  pub below_shut : (xs : List NodeAt) (b : Best) → b.sought ≡ 0 → b ≡ below_after s alpha root xs b
  below_shut [] b e = refl
  below_shut (x ∷ xs) b e = sym (ap (after xs) (others_shut_here x b e) ∙ all_shut xs b e)

  abbrev at : ℕ → Option Step → Best
  at sought step = record { sought = sought; step = step }

  -- what isn't looked for any more changes nothing
  shut_0 : (o p q : Option Step) (st : Option Step) → better 3 q (better 2 p (better 1 o (at 0 st))) ≡ at 0 st
  shut_0 o p q st =
      ap (λ b. better 3 q (better 2 p b)) (sym (closed 1 o (at 0 st) (omega arith))) ∙ ap (better 3 q) (sym (closed 2 p (at 0 st) (omega arith))) ∙ sym (closed 3 q (at 0 st) (omega arith))

  shut_1 : (p q : Option Step) (st : Option Step) → better 3 q (better 2 p (at 1 st)) ≡ at 1 st
  shut_1 p q st =
      ap (better 3 q) (sym (closed 2 p (at 1 st) (omega arith))) ∙ sym (closed 3 q (at 1 st) (omega arith))

  shut_2 : (q : Option Step) (st : Option Step) → better 3 q (at 2 st) ≡ at 2 st
  shut_2 q st = sym (closed 3 q (at 2 st) (omega arith))

  abbrev all : Option Step → Option Step → Option Step → Option Step → Best → Best
  all m o p q b = better 3 q (better 2 p (better 1 o (better 0 m b)))

  abbrev of : (NodeAt → List Step) → List NodeAt → Option Step
  of f xs = first s root (flat_map f xs)

  of_more : (f : NodeAt → List Step) (x : NodeAt) (xs : List NodeAt) → of f (x ∷ xs) ≡ option_or (first s root (f x)) (of f xs)
  unfolding first
  of_more f x xs = find-append (λ step. stands s step root) (f x) (flat_map f xs)

  none_of : first s root [] ≡ None
  unfolding first
  none_of = refl

  abbrev first_m : NodeAt → Option Step
  first_m x = first s root (merges x)

  abbrev first_s : NodeAt → Option Step
  first_s x = first s root (shifts s x)

  abbrev first_p : NodeAt → Option Step
  first_p x = first s root (part_splits s alpha x)

  abbrev first_h : NodeAt → Option Step
  first_h x = first s root (half_splits s x)

  step_0 : (xs : List NodeAt) (st : Option Step) → (after xs (at 0 st)).step ≡ st
  step_0 [] st = refl
  step_0 (x ∷ xs) st =
      ap (λ b. (after xs b).step) (ap (λ b. after_others s alpha root x b) (sym (closed 0 (first_m x) (at 0 st) (omega arith))) ∙ shut_0 (first_s x) (first_p x) (first_h x) st)
      ∙ step_0 xs st

  step_1 : (xs : List NodeAt) (st : Option Step) → (after xs (at 1 st)).step ≡ option_or (of merges xs) st
  step_1 [] st = ap (λ o. option_or o st) (sym none_of)
  step_1 (x ∷ xs) st =
      by_found (first_m x) (first_s x) (first_p x) (first_h x) (step_1 xs st) ∙ sym (ap (λ o. option_or o st) (of_more merges x xs))
    where
      by_found : (m o p q : Option Step) → (after xs (at 1 st)).step ≡ option_or (of merges xs) st → (after xs (all m o p q (at 1 st))).step ≡ option_or (option_or m (of merges xs)) st
      by_found (Some a) o p q k = ap (λ b. (after xs b).step) (shut_0 o p q (Some a)) ∙ step_0 xs (Some a)
      by_found None o p q k = ap (λ b. (after xs b).step) (ap (λ b. better 3 q (better 2 p b)) (sym (closed 1 o (at 1 st) (omega arith))) ∙ shut_1 p q st) ∙ k

  step_2 : (xs : List NodeAt) (st : Option Step) → (after xs (at 2 st)).step ≡ option_or (of merges xs) (option_or (of (shifts s) xs) st)
  step_2 [] st = ap (λ o. option_or o (option_or o st)) (sym none_of)
  step_2 (x ∷ xs) st =
      by_found (first_m x) (first_s x) (first_p x) (first_h x) (step_2 xs st) ∙ sym (ap (λ o. option_or o (option_or (of (shifts s) (x ∷ xs)) st)) (of_more merges x xs) ∙ ap (λ o. option_or (option_or (first_m x) (of merges xs)) (option_or o st)) (of_more (shifts s) x xs))
    where
      by_found : (m o p q : Option Step) → (after xs (at 2 st)).step ≡ option_or (of merges xs) (option_or (of (shifts s) xs) st)
          → (after xs (all m o p q (at 2 st))).step ≡ option_or (option_or m (of merges xs)) (option_or (option_or o (of (shifts s) xs)) st)
      by_found (Some a) o p q k = ap (λ b. (after xs b).step) (shut_0 o p q (Some a)) ∙ step_0 xs (Some a)
      by_found None (Some a) p q k = ap (λ b. (after xs b).step) (shut_1 p q (Some a)) ∙ step_1 xs (Some a)
      by_found None None p q k = ap (λ b. (after xs b).step) (ap (better 3 q) (sym (closed 2 p (at 2 st) (omega arith))) ∙ shut_2 q st) ∙ k

  step_3 : (xs : List NodeAt) (st : Option Step) → (after xs (at 3 st)).step ≡ option_or (of merges xs) (option_or (of (shifts s) xs) (option_or (of (part_splits s alpha) xs) st))
  step_3 [] st = ap (λ o. option_or o (option_or o (option_or o st))) (sym none_of)
  step_3 (x ∷ xs) st =
      by_found (first_m x) (first_s x) (first_p x) (first_h x) (step_3 xs st)
      ∙ sym (ap (λ o. option_or o (option_or (of (shifts s) (x ∷ xs)) (option_or (of (part_splits s alpha) (x ∷ xs)) st))) (of_more merges x xs)
      ∙ ap (λ o. option_or (option_or (first_m x) (of merges xs)) (option_or o (option_or (of (part_splits s alpha) (x ∷ xs)) st))) (of_more (shifts s) x xs)
      ∙ ap (λ o. option_or (option_or (first_m x) (of merges xs)) (option_or (option_or (first_s x) (of (shifts s) xs)) (option_or o st))) (of_more (part_splits s alpha) x xs))
    where
      by_found : (m o p q : Option Step) → (after xs (at 3 st)).step ≡ option_or (of merges xs) (option_or (of (shifts s) xs) (option_or (of (part_splits s alpha) xs) st))
          → (after xs (all m o p q (at 3 st))).step ≡ option_or (option_or m (of merges xs)) (option_or (option_or o (of (shifts s) xs)) (option_or (option_or p (of (part_splits s alpha) xs)) st))
      by_found (Some a) o p q k = ap (λ b. (after xs b).step) (shut_0 o p q (Some a)) ∙ step_0 xs (Some a)
      by_found None (Some a) p q k = ap (λ b. (after xs b).step) (shut_1 p q (Some a)) ∙ step_1 xs (Some a)
      by_found None None (Some a) q k = ap (λ b. (after xs b).step) (shut_2 q (Some a)) ∙ step_2 xs (Some a)
      by_found None None None q k = ap (λ b. (after xs b).step) (sym (closed 3 q (at 3 st) (omega arith))) ∙ k

  step_4 : (xs : List NodeAt) (st : Option Step)
      → (after xs (at 4 st)).step ≡ option_or (of merges xs) (option_or (of (shifts s) xs) (option_or (of (part_splits s alpha) xs) (option_or (of (half_splits s) xs) st)))
  step_4 [] st = ap (λ o. option_or o (option_or o (option_or o (option_or o st)))) (sym none_of)
  step_4 (x ∷ xs) st =
      by_found (first_m x) (first_s x) (first_p x) (first_h x) (step_4 xs st)
      ∙ sym (ap (λ o. option_or o (option_or (of (shifts s) (x ∷ xs)) (option_or (of (part_splits s alpha) (x ∷ xs)) (option_or (of (half_splits s) (x ∷ xs)) st)))) (of_more merges x xs)
      ∙ ap (λ o. option_or (option_or (first_m x) (of merges xs)) (option_or o (option_or (of (part_splits s alpha) (x ∷ xs)) (option_or (of (half_splits s) (x ∷ xs)) st)))) (of_more (shifts s) x xs)
      ∙ ap (λ o. option_or (option_or (first_m x) (of merges xs)) (option_or (option_or (first_s x) (of (shifts s) xs)) (option_or o (option_or (of (half_splits s) (x ∷ xs)) st)))) (of_more (part_splits s alpha) x xs)
      ∙ ap (λ o. option_or (option_or (first_m x) (of merges xs)) (option_or (option_or (first_s x) (of (shifts s) xs)) (option_or (option_or (first_p x) (of (part_splits s alpha) xs)) (option_or o st)))) (of_more (half_splits s) x xs))
    where
      by_found : (m o p q : Option Step) → (after xs (at 4 st)).step ≡ option_or (of merges xs) (option_or (of (shifts s) xs) (option_or (of (part_splits s alpha) xs) (option_or (of (half_splits s) xs) st)))
          → (after xs (all m o p q (at 4 st))).step ≡ option_or (option_or m (of merges xs)) (option_or (option_or o (of (shifts s) xs)) (option_or (option_or p (of (part_splits s alpha) xs)) (option_or (option_or q (of (half_splits s) xs)) st)))
      by_found (Some a) o p q k = ap (λ b. (after xs b).step) (shut_0 o p q (Some a)) ∙ step_0 xs (Some a)
      by_found None (Some a) p q k = ap (λ b. (after xs b).step) (shut_1 p q (Some a)) ∙ step_1 xs (Some a)
      by_found None None (Some a) q k = ap (λ b. (after xs b).step) (shut_2 q (Some a)) ∙ step_2 xs (Some a)
      by_found None None None (Some a) k = step_3 xs (Some a)
      by_found None None None None k = k

  or_none : (o : Option Step) → option_or o None ≡ o
  or_none None = refl
  or_none (Some a) = refl

  or_assoc : (a b c : Option Step) → option_or (option_or a b) c ≡ option_or a (option_or b c)
  or_assoc None b c = refl
  or_assoc (Some a) b c = refl

  -- the best step after a look at all nodes is the first of all that stand
  best_is_first : (xs : List NodeAt) → (after xs (at 4 None)).step ≡ find (λ step. stands s step root) (flat_map merges xs ++ flat_map (shifts s) xs ++ flat_map (part_splits s alpha) xs ++ flat_map (half_splits s) xs)
  unfolding first
  best_is_first xs =
      let p : Step → Bool = λ step. stands s step root in
      let m = flat_map merges xs in
      let o = flat_map (shifts s) xs in
      let q = flat_map (part_splits s alpha) xs in
      let h = flat_map (half_splits s) xs in
      step_4 xs None ∙ ap (λ z. option_or (find p m) (option_or (find p o) (option_or (find p q) z))) (or_none (find p h))
      ∙ sym (find-append p (m ++ o ++ q) h ∙ ap (λ z. option_or z (find p h)) (find-append p (m ++ o) q ∙ ap (λ z. option_or z (find p q)) (find-append p m o))
      ∙ or_assoc (option_or (find p m) (find p o)) (find p q) (find p h) ∙ or_assoc (find p m) (find p o) (option_or (find p q) (find p h)))

  -- the root isn't merged
  no_merge : first s root (merges (node_at [] nothing root)) ≡ None
  unfolding first
  no_merge = refl

  root_whole : (n : Plain) → first s root (merges (node_at [] nothing n)) ≡ None → (b : Best) → below_after s alpha root (nodes s n) b ≡ best_after s alpha root (nodes s n) b
  root_whole (node rows parts low high) e b =
      let x = node_at [] nothing (node rows parts low high) in
      let xs = nodes_in_parts s [] nothing parts ++ nodes_in_half s (Low ∷ []) (in_low nothing) low ++ nodes_in_half s (High ∷ []) (in_high nothing) high in
      ap (λ o. best_after s alpha root xs (after_others s alpha root x (better 0 o b))) (sym e)

  pub plan_is : (b : Best) → b.sought ≡ 4 → b.step ≡ None → (below_after s alpha root (nodes s root) b).step ≡ plan s alpha root
  plan_is b e f =
      let is : b ≡ at 4 None = λ i. record { sought = e i; step = f i } in
      ap (λ q. (below_after s alpha root (nodes s root) q).step) is ∙ ap (λ q. q.step) (root_whole root no_merge (at 4 None)) ∙ best_is_first (nodes s root)
