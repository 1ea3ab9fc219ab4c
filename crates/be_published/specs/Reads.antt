-- What a reader answers.
use Rattle.std.specs.Prelude.{◌≡◌, ℕ, List, length, Option, Some, None}
use Rattle.be_base.specs.Lists.{BeginsWith}
use Rattle.be_base.specs.declared.names.NoRead.{NoRead}
use Rattle.be_base.specs.declared.names.NoRead.TheVariants.{Shut, NoMemory}
use Rattle.be_model.specs.declared.paths.Step.{Step}
use Rattle.be_change.specs.History.{Entry}
use Rattle.be_published.specs.declared.beyond.Beyond.{Beyond}
use Rattle.be_published.specs.States.{GlassState, knowing, one_shut, one_read, one_none, one_plan}

-- the list that was entered goes on where what was known ends, and nothing was counted
pub record Meets (g g' : GlassState) (n : ℕ) : Type 0 where
  pub known : BeginsWith g'.known g.known
  pub length : n ≡ length g'.known
  pub counts : g' ≡ knowing g'.known g

-- a read was answered of a list that goes on where what was known ends. n is its length, and it was counted
pub record IsReadAt (g g' : GlassState) (n : ℕ) : Type 0 where
  pub known : BeginsWith g'.known g.known
  pub length : n ≡ length g'.known
  pub counts : g' ≡ one_read g'.known g

-- an entry was refused and counted, or memory was wanting. Nothing else changes
abbrev pub Refuses : GlassState → GlassState → NoRead → Type 0
Refuses g g' Shut = g' ≡ one_shut g
Refuses g g' NoMemory = g' ≡ g

-- a plan found no step in the copy of this mark, or this one
abbrev pub after_plan : ℕ → GlassState → Option Step → GlassState
after_plan mark g None = one_none mark g
after_plan mark g (Some step) = one_plan step g

-- a look found no step, or this one
abbrev pub after_look : GlassState → Option Step → GlassState
after_look g None = g
after_look g (Some step) = one_plan step g

-- what was known before, or what was told where that is longer. Both are beginnings of it
pub record Learns (known what known' : List Entry) : Type 0 where
  pub before : BeginsWith known' known
  pub told : BeginsWith known' what

-- a reader knows more than what is published, which begins it, and these are the two lengths
pub record IsBeyond (known published : List Entry) (b : Beyond) : Type 0 where
  pub begins : BeginsWith known published
  pub known_is : b.known ≡ length known
  pub published_is : b.published ≡ length published
