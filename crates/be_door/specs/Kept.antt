-- The links that a door keeps, or one worker's count, each with the session that used it.
use Rattle.std.specs.Prelude.{ℕ, ◌++◌, ◌∷◌, Bool, List, [], if◌then◌else◌}
use Rattle.be_base.specs.declared.names.SessionNo.{SessionNo}

pub record KeptState (L : Type 0) : Type 0 where
  -- whether they are kept at all
  pub keeps : Bool
  pub links : List (SessionNo × L)
  -- how many can be put beside them without memory
  pub spare : ℕ

-- with one more at the end, where they are kept
abbrev pub put_last : {L : Type 0} → Bool → List (SessionNo × L) → SessionNo → L → List (SessionNo × L)
put_last keeps links session link = if keeps then links ++ (session, link) ∷ [] else links
