-- A sink that gathers what it takes, as contracts see it.
use Rattle.std.specs.Prelude.{ℕ, ◌-◌, List, [], ◌++◌, length, take, min, Option}
use Rattle.std.specs.Option.{option_map}

pub record GatheredState (K : Type 0) : Type 0 where
  -- the sink to which it hands on
  pub sink : K
  -- how many bytes it keeps at most
  pub room : ℕ
  -- how many more it takes before it hands on
  pub spare : ℕ
  -- the bytes that it took and hasn't handed on, in order
  pub kept : List ℕ

-- it took nothing yet
abbrev pub new_gathered : {K : Type 0} → K → ℕ → GatheredState K
new_gathered sink room = record { sink = sink; room = room; spare = room; kept = [] }

-- it took the first of these bytes, as many as there was room for
abbrev pub after_gather : {K : Type 0} → GatheredState K → List ℕ → GatheredState K
after_gather gathered bytes =
    let count = min (length bytes) gathered.spare in
    record gathered { spare = gathered.spare - count; kept = gathered.kept ++ take count bytes }

-- what a sink holds, where it tells that, and the bytes that are kept before it
abbrev pub with_kept : Option (List ℕ) → List ℕ → Option (List ℕ)
with_kept held kept = option_map (λ held. held ++ kept) held
