-- How live rows stand: by rising ids, with names that differ.
use Rattle.std.specs.Prelude.{◌≡◌, ℕ, ◌∷◌, ◌++◌}
use Rattle.be_model.specs.declared.changes.Row.{Row}
pub use Rattle.be_model.specs.ByIds.{AllBelow, AllAbove, Rising, SayIds}
pub use Rattle.be_base.specs.TextLists.{is_among_texts, all_differ}
use Rattle.be_change.specs.History.{Text, ByIds}

-- the second list is the first without one row, which has this session and name
pub record LosesOne (l l' : ByIds) (k : ℕ) (name : Text) : Type 0 where
  pub before : ByIds
  pub row : ℕ × Row
  pub after : ByIds
  pub was : l ≡ before ++ row ∷ after
  pub is : l' ≡ before ++ after
  pub owner : row.1.session.0 ≡ k
  pub named : row.1.name ≡ name
