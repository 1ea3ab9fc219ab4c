-- The rule of drawn numbers, and what its steps tell.
use Rattle.std.specs.Prelude.{◌≡◌, ℕ, ◌+◌, ◌-◌, ◌<◌, ◌≤◌, Bool, true, false, min, length, slice_index}
use Rattle.atomic_table.specs.Table.{State, Me, Step}
use Rattle.be_shared_sums.specs.Tallied.{Tallied}
use Rattle.be_door.specs.declared.views.Drawer.{Drawer}

abbrev pub drawer : ℕ → ℕ → ℕ → ℕ → Drawer
drawer share links below past = record { share = share; links = links; below = below; past = past }

-- a view's two numbers: of its draws below `links`, and of the others
abbrev pub draws : Bool → Drawer → ℕ
draws true v = v.below
draws false v = v.past

-- what they sum to over all views, where the word is n
abbrev pub drawn : ℕ → ℕ → Bool → ℕ
drawn links n true = min n links
drawn links n false = n - links

pub record FitsDrawer (links : ℕ) (v : Drawer) : Type 0 where
  pub once : v.past ≤ v.share
  pub idle : v.share ≡ 0 → v.below ≡ 0
  pub knows : 0 < v.share → v.links ≡ links

-- the key is the number of links and that of workers
abbrev pub Drawn : ℕ × ℕ → State (Unit {0}) Drawer → Type 0
Drawn key s = (length s.words ≡ 1) × Tallied (λ v. v.share) draws (FitsDrawer key.0) key.1 (drawn key.0 (slice_index s.words 0)) s.views

-- one number was drawn
abbrev pub Draws : Step (Unit {0}) → Me (Unit {0}) Drawer → ℕ → Me (Unit {0}) Drawer → Type 0
Draws st me found me' =
    (me'.1 ≡ me.1)
    × (found < me.0.links → (me.0.below < me.0.links) × (me'.0 ≡ drawer me.0.share me.0.links (me.0.below + 1) me.0.past))
    × (me.0.links ≤ found → me'.0 ≡ drawer me.0.share me.0.links me.0.below (me.0.past + 1))
