-- A feed goes on by one more piece.
use Rattle.std.proofs.Common.{◌≡◌, ℕ, ◌-◌, ◌<◌, ◌≤◌, List, [], ◌++◌, length, take, drop, length-append, length-take, length-drop, Result, Ok, Err, Option, Some, None, refl, sym, ◌∙◌, subst, arith}
use Rattle.be_base.specs.Counts.{HasRisen, HasRisenBy, RisesBy}
use Rattle.be_base.specs.declared.limits.TheConstants.{READ_BYTES, SOURCE_BYTES}
use Rattle.be_io.specs.Source.{SourceState}
use Rattle.be_io.specs.Told.{WhereTold}
use Rattle.be_model.specs.Schemas.{Attributes}
use Rattle.be_follow.specs.Feeds.{Fed, Means}
use Rattle.be_follow.specs.Followers.{FollowerState, Follows}
use Rattle.be_protocol.specs.Conversation.{TakesWithin}
use Rattle.be_protocol.proofs.LinesGoing.{rises-along}
use Rattle.be_mirror.specs.Feeding.{IsFed, IsFedOn, TakesNext}
use Rattle.be_mirror.specs.Serving.{Feeds, FeedEnds, IsFew, IsShort, StopsAtFault}
use Rattle.be_mirror.specs.declared.feeding.FeedEnd.{FeedEnd}
use Rattle.be_mirror.specs.declared.feeding.FeedEnd.TheVariants as feed

-- what is said of an answer is said of the one that it is
pub takes_as : {most : ℕ} {before after : SourceState} {f g : FollowerState} {r q : Result ℕ FeedEnd} → r ≡ q → TakesNext most before after f g r → TakesNext most before after f g q
takes_as {most} {before} {after} {f} {g} is t = subst (λ (x : Result ℕ FeedEnd). TakesNext most before after f g x) is t

told_same : (before after : Option (List ℕ)) → after ≡ before → WhereTold before after (λ b a. b ≡ [] ++ a)
told_same None after is = subst (λ o. WhereTold None o (λ b a. b ≡ [] ++ a)) (sym is) tt
told_same (Some b) after is = subst (λ o. WhereTold (Some b) o (λ b a. b ≡ [] ++ a)) (sym is) refl

-- what follows behind what was given is what follows at first, where it isn't said of the bytes
told_after : (P : List ℕ → Type 0) (before middle after : Option (List ℕ)) (xs : List ℕ) → WhereTold before middle (λ b a. b ≡ xs ++ a) → WhereTold middle after (λ b a. P a) → WhereTold before after (λ b a. P a)
told_after P None None None xs f g = tt
told_after P None None (Some a) xs f g = absurd g
told_after P None (Some m) after xs f g = absurd f
told_after P (Some b) None after xs f g = absurd f
told_after P (Some b) (Some m) None xs f g = absurd g
told_after P (Some b) (Some m) (Some a) xs f g = g

-- nothing was taken yet
pub fed_none : (s : Attributes) (before : SourceState) (f : FollowerState) → Follows [] f → f.schema ≡ s → IsFed s before before f
fed_none s before f follows schema = record { bytes = []; given = told_same before.left before.left refl; follows = follows; schema = schema }

pub rises_none : (a b : ℕ) → b ≡ a → RisesBy 0 a b
rises_none a b is = omega (arith, is)

risen_still : (a b c : ℕ) → b ≡ a → HasRisen b c → HasRisen a c
risen_still a b c is h = omega (arith, is, h)

spent_still : (a b c t : ℕ) → RisesBy t a b → HasRisenBy SOURCE_BYTES b c → HasRisenBy SOURCE_BYTES a c
spent_still a b c t p h = omega (arith, p, h)

-- how the last piece ended is how the feed did
pub ends_on : (before middle after : SourceState) (bytes : List ℕ) (taken : ℕ) (end : FeedEnd) (f : Fed) → WhereTold before.left middle.left (λ b a. b ≡ bytes ++ a) → middle.faults ≡ before.faults → RisesBy taken before.taken middle.taken
    → FeedEnds middle after end f → FeedEnds before after end f
ends_on before middle after bytes taken feed.Ended f given same rise e = (e.0, e.1 ∙ same, told_after (λ a. a ≡ []) before.left middle.left after.left bytes given e.2)
ends_on before middle after bytes taken feed.Left f given same rise e = (e.0, e.1 ∙ same)
ends_on before middle after bytes taken (feed.Bad line kind) f given same rise e = (e.0, e.1, e.2 ∙ same)
ends_on before middle after bytes taken feed.ReadFault f given same rise e = (e.0, risen_still before.faults middle.faults after.faults same e.1)
ends_on before middle after bytes taken feed.Spent f given same rise e = (e.0, spent_still before.taken middle.taken after.taken taken rise e.1, e.2 ∙ same)
ends_on before middle after bytes taken feed.NoMemory f given same rise e = absurd e

-- what was taken, and why no more was
pub feeds : (s : Attributes) (before after : SourceState) (end : FeedEnd) (f : FollowerState) → (fed : IsFed s before after f) → FeedEnds before after end f.fed → IsShort before after end → StopsAtFault s fed.bytes end → Feeds s before after end f.fed
feeds s before after end f fed ends short stops = record {
  bytes = fed.bytes;
  given = fed.given;
  means = subst (λ (x : Attributes). Means x fed.bytes f.fed) fed.schema fed.follows.means;
  ends = ends;
  short = short;
  stops = stops;
}

-- with one piece more
abbrev pub fed_on : (most : ℕ) (s : Attributes) (bytes : List ℕ) (before after : SourceState) (f : FollowerState) → IsFedOn most s bytes before after f → IsFed s before after f
fed_on most s bytes before after f o = record { bytes = bytes ++ o.piece; given = o.given; follows = o.follows; schema = o.schema }

-- what was taken before the last piece had no fault
pub stops : (most : ℕ) (s : Attributes) (first before after : SourceState) (f g : FollowerState) (was : IsFed s first before f) (on : IsFedOn most s was.bytes first after g) → f.fed.fault ≡ None → most ≤ READ_BYTES → (end : FeedEnd)
    → StopsAtFault s (was.bytes ++ on.piece) end
stops most s first before after f g was on fine few (feed.Bad line kind) =
    (was.bytes, on.piece, refl, omega (arith, on.few, few), f.fed, subst (λ (x : Attributes). Means x was.bytes f.fed) was.schema was.follows.means, fine)
stops most s first before after f g was on fine few feed.Ended = tt
stops most s first before after f g was on fine few feed.Left = tt
stops most s first before after f g was on fine few feed.ReadFault = tt
stops most s first before after f g was on fine few feed.Spent = tt
stops most s first before after f g was on fine few feed.NoMemory = tt

-- less was taken than may be, where some was left of that
pub few : (left : ℕ) (before after : SourceState) → 0 < left → left ≤ SOURCE_BYTES → RisesBy (SOURCE_BYTES - left) before.taken after.taken → IsFew before after
few left before after some most rise = (SOURCE_BYTES - left, omega (arith, some, most), rise)

-- an end of a piece leaves a feed short of that
pub short_on : (left : ℕ) (before middle after : SourceState) (end : FeedEnd) → 0 < left → left ≤ SOURCE_BYTES → RisesBy (SOURCE_BYTES - left) before.taken middle.taken → (end ≡ feed.Ended → RisesBy 0 middle.taken after.taken)
    → (end ≡ feed.Left → ⊥) → IsShort before after end
short_on left before middle after feed.Ended some most rise still is_on = few left before after some most (rises-along before.taken middle.taken after.taken (SOURCE_BYTES - left) 0 (SOURCE_BYTES - left) rise (still refl) (omega arith))
short_on left before middle after feed.Left some most rise still is_on = absurd (is_on refl)
short_on left before middle after (feed.Bad line kind) some most rise still is_on = tt
short_on left before middle after feed.ReadFault some most rise still is_on = tt
short_on left before middle after feed.Spent some most rise still is_on = tt
short_on left before middle after feed.NoMemory some most rise still is_on = tt

-- so much was taken, where so much was left of what may be
pub within_all : (left a b : ℕ) → RisesBy (SOURCE_BYTES - left) a b → TakesWithin a b
within_all left a b rise = (SOURCE_BYTES - left, omega arith, rise)

pub ok_no_err : {X E : Type 0} {x : X} {e : E} → Ok x ≡ Err e → ⊥
ok_no_err is = absurd cc

pub err_one : {X E : Type 0} (r : Result X E) (a b : E) → r ≡ Err a → r ≡ Err b → a ≡ b
err_one r a b p q = cc

-- how long a front is
pub front_length : (n : ℕ) (xs : List ℕ) → n ≤ length xs → n ≡ length (take n xs)
front_length n xs le = omega (arith, length-take n xs, le)

pub front_short : (n : ℕ) (xs : List ℕ) → length (take n xs) ≤ n
front_short n xs = omega (arith, length-take n xs)

-- a buffer whose front was written is as long as it was
pub still_long : (given items : List ℕ) (n : ℕ) → length items ≡ n → length (take n (given ++ drop (length given) items)) ≡ n
still_long given items n is = omega (arith, is, length-take n (given ++ drop (length given) items), length-append given (drop (length given) items), length-drop (length given) items)
