-- Each step of drawn numbers keeps the rule.
use Rattle.std.proofs.Common.{◌≡◌, ℕ, ◌+◌, ◌-◌, ◌%◌, ◌^◌, ◌≤◌, ◌<◌, Bool, true, false, List, set, get_or, sym, refl, ◌∙◌, subst, arith, length-set, get_or-set_same, lt_of_not-le}
use mathlib.Core.Option.{none, some}
use mathlib.Core.Logic.{dite}
use native.Mathlib.Decide.{dec_le}
use lib.ListN.{get_elem?}
use Rattle.atomic_table.specs.Table.{State, Me, step, keeps, stepped, Allows, Splits, Joins, Final, Seen}
use Rattle.atomic_table.proofs.Lists.{set_else}
use Rattle.be_shared_sums.specs.Tallied.{Tallied}
use Rattle.be_shared_sums.proofs.Tallies.{total_at, total_below, keeps_step, keeps_split, keeps_join, whole}
use Rattle.be_door.specs.declared.views.Drawer.{Drawer}
use Rattle.be_door.specs.Drawn.{drawer, draws, drawn, FitsDrawer, Drawn, Draws}

abbrev St : Type 0
St = State (Unit {0}) Drawer

abbrev Sums : ℕ → ℕ → ℕ → List Drawer → Type 0
Sums links workers n views = Tallied (λ v. v.share) draws (FitsDrawer links) workers (drawn links n) views

module _ (links workers : ℕ) where
  placed : (s : St) (m id : ℕ) (c : List (ℕ × Unit {0})) (w : Drawer) → Drawn (links, workers) s → Sums links workers m (set s.views id w) → Drawn (links, workers) (stepped s 0 m id c w keeps)
  placed s m id c w r t = let one = r.0 in
      (length-set s.words 0 m ∙ one, subst (λ n. Sums links workers n (set s.views id w)) (sym (get_or-set_same s.words 0 m 0 (omega arith))) t)

  -- the word stays far below its type's end
  few : (n : ℕ) (views : List Drawer) → Sums links workers n views → n ≤ links + workers
  few n views t = let a = t.summed false in let b = t.shared in
      let c = total_below (λ v. v.past) (λ v. v.share) views (λ j v at. (t.each j v at).once) in omega arith

  below_links : (n id : ℕ) (v : Drawer) (views : List Drawer) → Sums links workers n views → get_elem? views id ≡ some v → n < links → v.below < links
  below_links n id v views t at h = let a = t.summed true in let b = total_at (λ v. v.below) views id v at in omega arith

  draws_below : (n id : ℕ) (v : Drawer) (views : List Drawer) → Sums links workers n views → get_elem? views id ≡ some v → 0 < v.share → v.links ≡ links → n < links
      → Sums links workers (n + 1) (set views id (drawer v.share v.links (v.below + 1) v.past))
  draws_below n id v views t at some_share is h = keeps_step (drawn links (n + 1)) id v (drawer v.share v.links (v.below + 1) v.past) t at refl moved
      (record { once = (t.each id v at).once; idle = λ z. absurd (omega arith); knows = λ _. is })
    where
      moved : (k : Bool) → draws k (drawer v.share v.links (v.below + 1) v.past) + drawn links n k ≡ draws k v + drawn links (n + 1) k
      moved true = omega arith
      moved false = omega arith

  draws_past : (n id : ℕ) (v : Drawer) (views : List Drawer) → Sums links workers n views → get_elem? views id ≡ some v → v.past < v.share → v.links ≡ links → links ≤ n
      → Sums links workers (n + 1) (set views id (drawer v.share v.links v.below (v.past + 1)))
  draws_past n id v views t at first_end is h = keeps_step (drawn links (n + 1)) id v (drawer v.share v.links v.below (v.past + 1)) t at refl moved
      (record { once = omega arith; idle = λ z. absurd (omega arith); knows = λ _. is })
    where
      moved : (k : Bool) → draws k (drawer v.share v.links v.below (v.past + 1)) + drawn links n k ≡ draws k v + drawn links (n + 1) k
      moved true = omega arith
      moved false = omega arith

  pub draw : (slots id : ℕ) (me : Me (Unit {0}) Drawer) → links ≤ 1000000 → workers ≤ 64 → me.0.past < me.0.share
      → Allows (Drawn (links, workers)) slots id me 0 (λ n. (n + 1) % 2 ^ 64) (Draws (step slots 0 1 0 none) me)
  draw slots id me few_links few_workers first_end s r _ at _ =
      let is : me.0.links ≡ links = (r.1.each id me.0 at).knows (omega arith) in
      let n : ℕ = get_or s.words 0 0 in
      let most : n ≤ links + workers = few n s.views r.1 in
      let next : n + 1 ≡ (n + 1) % 18446744073709551616 = omega arith in
      dite (dec_le links n)
      (λ past. (
        drawer me.0.share me.0.links me.0.below (me.0.past + 1),
        keeps,
        tt,
        subst (λ m. Drawn (links, workers) (stepped s 0 m id me.1 (drawer me.0.share me.0.links me.0.below (me.0.past + 1)) keeps)) next
            (placed s (n + 1) id me.1 _ r (draws_past n id me.0 s.views r.1 at first_end is past)),
        (refl, (λ lt. absurd (omega arith)), λ _. refl),
      ))
      (λ not_past. let lt : n < links = lt_of_not-le not_past in (
        drawer me.0.share me.0.links (me.0.below + 1) me.0.past,
        keeps,
        tt,
        subst (λ m. Drawn (links, workers) (stepped s 0 m id me.1 (drawer me.0.share me.0.links (me.0.below + 1) me.0.past) keeps)) next
            (placed s (n + 1) id me.1 _ r (draws_below n id me.0 s.views r.1 at (omega arith) is lt)),
        (refl, (λ _. let b = below_links n id me.0 s.views r.1 at lt in (omega arith, refl)), λ ge. absurd (omega arith)),
      ))

  pub split : (id : ℕ) (v : Drawer) → v.below ≡ 0 → v.past ≡ 0 → 0 < v.share
      → Splits (Drawn (links, workers)) id v (drawer (v.share - 1) v.links v.below v.past) (drawer 1 v.links 0 0)
  split id v none_below none_past some_share s r at =
      let is : v.links ≡ links = (r.1.each id v at).knows some_share in (
        r.0,
        keeps_split id v (drawer (v.share - 1) v.links v.below v.past) (drawer 1 v.links 0 0) r.1 at (omega arith) numbers
            (record { once = omega arith; idle = λ _. none_below; knows = λ _. is })
            (record { once = omega arith; idle = λ _. refl; knows = λ _. is }),
      )
    where
      numbers : (k : Bool) → draws k (drawer (v.share - 1) v.links v.below v.past) + draws k (drawer 1 v.links 0 0) ≡ draws k v
      numbers true = omega arith
      numbers false = omega arith

  pub join : (id : ℕ) (v : Drawer) (other : ℕ) (w : Drawer) → 0 < v.share
      → Joins (Drawn (links, workers)) id v other w (drawer (v.share + w.share) v.links (v.below + w.below) (v.past + w.past)) (drawer 0 0 0 0)
  join id v other w some_share s r at apart there =
      let mine = r.1.each id v at in
      let is : v.links ≡ links = mine.knows some_share in
      let both = drawer (v.share + w.share) v.links (v.below + w.below) (v.past + w.past) in
      let theirs = r.1.each other w (sym (set_else s.views id other both apart) ∙ there) in
      let a = mine.once in let b = theirs.once in (
        r.0,
        keeps_join id v other w both (drawer 0 0 0 0) r.1 at there (omega arith) numbers
            (record { once = omega arith; idle = λ z. let c = mine.idle (omega arith) in let d = theirs.idle (omega arith) in omega arith; knows = λ _. is })
            (record { once = omega arith; idle = λ _. refl; knows = λ h. absurd (omega arith) }),
      )
    where
      numbers : (k : Bool) → draws k (drawer (v.share + w.share) v.links (v.below + w.below) (v.past + w.past)) + draws k (drawer 0 0 0 0) ≡ draws k v + draws k w
      numbers true = omega arith
      numbers false = omega arith

  -- with every share at home, one end that was met shows that each link was drawn
  pub closed : (id : ℕ) (v : Drawer) (ws : List ℕ) (xs : List (Unit {0})) → Final (Seen (Drawn (links, workers)) id v) ws xs → v.share ≡ workers → 0 < v.past → v.below ≡ links
  closed id v ws xs (s, seen, _, _, _) all met =
      let t = seen.0.1 in let at = seen.1 in
      let idle : (u : Drawer) → FitsDrawer links u → u.share ≡ 0 → (k : Bool) → draws k u ≡ 0 = none_of in
      let a = whole id v t at all idle true in let b = whole id v t at all idle false in omega arith
    where
      none_of : (u : Drawer) → FitsDrawer links u → u.share ≡ 0 → (k : Bool) → draws k u ≡ 0
      none_of u f z true = f.idle z
      none_of u f z false = let o = f.once in omega arith
