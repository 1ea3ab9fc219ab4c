-- One change as one run of the core.
use Rattle.std.specs.Prelude.{◌≡◌, ℕ, ◌<◌, ◌⊎◌, false, nat_lt, List, [], ◌∷◌, ◌++◌, length, map, if◌then◌else◌}
use Rattle.be_model.specs.Matching.{Assignments}
use Rattle.be_change.specs.History.{Entry, subscribed, unsubscribed, left, has_left, stand, hits}
use Rattle.be_change.specs.Made.{change_named}
use Rattle.be_change.specs.Requests.{Request, quit}
use Rattle.be_core.specs.Acts.{Deed, asks, publishes, reads, tells, leaves}
use Rattle.be_core.specs.World.{State, state, run}
use Rattle.be_core.specs.declared.acts.CoreReply.{CoreReply}
use Rattle.be_core.specs.declared.acts.CoreReply.TheVariants as core
use Rattle.be_board.specs.declared.answers.Answer.{Answer}
use Rattle.be_board.specs.declared.answers.Answer.TheVariants.{Done, Held, Dup, NoName, Other, Split, NoMemory}
use Rattle.be_desk.specs.Desks.{DeskState, freed, MayBeFreed}
use Rattle.be_desk.specs.Seats.{SeatState}
use Rattle.be_desk.specs.Changes.{serial_in}

-- the world of the core that the desk is to a session that has seen so much of it
abbrev pub world : DeskState → ℕ → ℕ → State
world d k seen = state d.list (length d.published) ((record { 0 = k }, seen) ∷ [])

-- a held change is published first
abbrev pub opening : DeskState → List Deed
opening d = if nat_lt (length d.published) (length d.list) then publishes ∷ [] else []

-- the act by which the session asks for this change
abbrev pub asking : ℕ → Entry → Deed
asking k (subscribed j n row) = asks k (subscribed j n row)
asking k (unsubscribed j n name) = asks k (unsubscribed j n name)
asking k (left j n) = leaves k

-- the act by which the seat's session asks for the change that the request names
abbrev pub asked : DeskState → SeatState → Request → List Deed
asked d s r = map (asking s.session) (change_named s.session (serial_in s) (length d.list) r)

-- how the core accepts it
abbrev pub accepting : Request → ℕ → CoreReply
accepting quit n = core.Left n
accepting r n = core.Taken n

abbrev pub all_nothing : List Deed → List CoreReply
all_nothing acts = map (λ (a : Deed). core.Nothing) acts

-- the core goes from the world that the desk was to the one that it is: a held change is published, the seat's session
-- looks in the whole list, whatever for, and asks, and `more` is done. What is replied behind the hits is `replies`, and
-- the session has seen so much then
abbrev pub Runs : DeskState → DeskState → SeatState → Request → (more : List Deed) → (replies : List CoreReply) → (seen : ℕ) → Type 0
Runs d d' s r more replies seen =
    (e : Assignments)
    → run (world d s.session (length s.glass.known)) (opening d ++ reads s.session (length d.list) e ∷ (asked d s r ++ more))
    ≡ (world d' s.session seen, all_nothing (opening d) ++ core.Hits (length d.list) (hits d.list e) ∷ replies)

-- the seat's reader knows more than is published, and these are the two lengths
pub record IsAhead (d : DeskState) (s : SeatState) (a b : ℕ) : Type 0 where
  pub seen : a ≡ length s.glass.known
  pub written : b ≡ length d.published
  pub more : b < a

-- the seat's session stands in the list as by its record, and hasn't left
pub record StandsByRecord (d : DeskState) (s : SeatState) : Type 0 where
  pub present : has_left s.session d.list ≡ false
  pub serial : stand s.session d.list ≡ serial_in s

-- what the change made of the desk is what a run of the core makes of it, with the same answer
abbrev pub IsRunOfCore : DeskState → DeskState → SeatState → SeatState → Request → Answer → Type 0
IsRunOfCore d d' s s' r (Done n) = Runs d d' s r (publishes ∷ tells s.session ∷ []) (accepting r n ∷ core.Nothing ∷ core.Nothing ∷ []) n
IsRunOfCore d d' s s' r (Held n) = Runs d d' s r (tells s.session ∷ []) (accepting r n ∷ core.Held n ∷ []) (length d.list)
IsRunOfCore d d' s s' r (Dup m id) = Runs d d' s r [] (core.Dup m (record { 0 = id }) ∷ []) m
IsRunOfCore d d' s s' r (NoName m) = Runs d d' s r [] (core.NoName m ∷ []) m
IsRunOfCore d d' s s' r (Other m id) = Runs d d' s r [] (core.Other m (record { 0 = id }) ∷ []) m
-- all is published, and else the desk is as before. Where the seat knows more than that, the core splits too: to it the
-- session has seen what the seat's reader knows now
IsRunOfCore d d' s s' r (Split a b) =
    (d' ≡ freed d)
    × (IsAhead d' s' a b → StandsByRecord d' s → run (world d' s.session a) (asked d s r) ≡ (world d' s.session a, core.Split a b ∷ []))
-- nothing was done, but that a held change may have been published
IsRunOfCore d d' s s' r NoMemory = MayBeFreed d d'
