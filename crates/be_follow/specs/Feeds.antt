-- What the bytes of a feed mean: a list of changes, and the first faulty line. Only lines that an LF ends count.
use Rattle.std.specs.Prelude.{◌≡◌, ℕ, ◌<◌, ◌++◌, ◌⊎◌, List, [], ◌∷◌, length, slice_get, nat_lt, Option, Some, None, Result, Ok, Err, codes, if◌then◌else◌}
use Rattle.be_base.specs.Counts.{raised}
use Rattle.be_base.specs.Numbers.{count_of}
use Rattle.be_base.specs.Text.{Text, same_text}
use Rattle.be_base.specs.Tokens.{Lexeme, word, tokens}
use Rattle.be_base.specs.declared.limits.TheConstants.{FEED_LINE_BYTES}
use Rattle.be_io.specs.Lines.{closed_lines}
use Rattle.be_model.specs.Schemas.{Attributes}
use Rattle.be_change.specs.History.{Entry, MayFollow}
use Rattle.be_expr.specs.Changes.{change_of}
use Rattle.be_expr.specs.declared.faults.ExprFault.{ExprFault}
use Rattle.be_follow.specs.declared.faults.FeedKind.{FeedKind}
use Rattle.be_follow.specs.declared.faults.FeedKind.TheVariants.{Form, Gap, Fork, Unfit}

-- what a line says by itself
pub data PlainSaid : Type 0 where
  nothing : PlainSaid
  -- the entry stands at this place of the leader's list
  at : ℕ → Entry → PlainSaid
  -- it has no reading
  faulty : PlainSaid

abbrev pub placed : ℕ → Result Entry ExprFault → PlainSaid
placed i (Ok e) = at i e
placed i (Err fault) = faulty

-- a place and a change, whose row gets the place as its id
abbrev pub change_at : Attributes → Option ℕ → Option (List Lexeme) → PlainSaid
change_at s (Some i) ts = placed i (change_of s i ts)
change_at s None ts = faulty

abbrev pub counted : Option ℕ → Option ℕ → PlainSaid
counted (Some n) (Some c) = nothing
counted _ _ = faulty

-- two counts
abbrev pub ending : Option ℕ → Option (List Lexeme) → PlainSaid
ending n (Some (word c ∷ [])) = counted n (count_of c)
ending n _ = faulty

-- `AT place change` or `TAILED length count`
abbrev pub said_by : Attributes → Text → Text → Option (List Lexeme) → PlainSaid
said_by s head number ts =
    if same_text head (codes "AT") then change_at s (count_of number) ts else
    (if same_text head (codes "TAILED") then ending (count_of number) ts else faulty)

abbrev pub said_of : Attributes → Option (List Lexeme) → PlainSaid
said_of s (Some (word head ∷ word number ∷ ts)) = said_by s head number (Some ts)
said_of s _ = faulty

-- what the bytes of a line say. A line over the limit has no reading
abbrev pub said : Attributes → List ℕ → PlainSaid
said s line = if nat_lt FEED_LINE_BYTES (length line) then faulty else said_of s (tokens line)

-- the answer is the first one where this holds, and else the second
abbrev pub Chooses : {X : Type 0} → Type 0 → X → X → X → Type 0
Chooses P first second answer = (P × (answer ≡ first)) ⊎ ((P → ⊥) × (answer ≡ second))

-- what an entry at a place does to a list: it is put last, or stands there already, or is at fault
pub record Places (h : List Entry) (i : ℕ) (e : Entry) (r : Result (List Entry) FeedKind) : Type 0 where
  pub gap : length h < i → r ≡ Err Gap
  pub again : i < length h → Chooses (slice_get h i ≡ Some e) (Ok h) (Err Fork) r
  pub next : i ≡ length h → Chooses (MayFollow h e) (Ok (h ++ e ∷ [])) (Err Unfit) r

-- what a line does to a list: the list after it, or its fault
abbrev pub Judges : List Entry → PlainSaid → Result (List Entry) FeedKind → Type 0
Judges h nothing r = r ≡ Ok h
Judges h (at i e) r = Places h i e r
Judges h faulty r = r ≡ Err Form

-- what has come of a feed
pub record Fed : Type 0 where
  pub list : List Entry
  -- how many whole lines were read, up to the first faulty one and with it. The count stays at the last value of its type
  pub lines : ℕ
  -- the fault of the last of them
  pub fault : Option FeedKind

-- nothing was read yet
abbrev pub none_fed : Fed
none_fed = record { list = []; lines = 0; fault = None }

abbrev pub fed_after_line : Fed → Result (List Entry) FeedKind → Fed
fed_after_line f (Ok h) = record { list = h; lines = raised 1 f.lines; fault = None }
fed_after_line f (Err kind) = record { list = f.list; lines = raised 1 f.lines; fault = Some kind }

-- one more whole line was read. Behind a faulty line none is
abbrev pub TakesLineAt : Option FeedKind → Attributes → Fed → List ℕ → Fed → Type 0
TakesLineAt (Some kind) s f line g = g ≡ f
TakesLineAt None s f line g = (r : Result (List Entry) FeedKind) × Judges f.list (said s line) r × (g ≡ fed_after_line f r)

abbrev pub TakesLine : Attributes → Fed → List ℕ → Fed → Type 0
TakesLine s f line g = TakesLineAt f.fault s f line g

abbrev pub TakesLines : Attributes → Fed → List (List ℕ) → Fed → Type 0
TakesLines s f [] g = g ≡ f
TakesLines s f (line ∷ lines) g = (m : Fed) × TakesLine s f line m × TakesLines s m lines g

-- this is what the bytes mean
abbrev pub Means : Attributes → List ℕ → Fed → Type 0
Means s bytes f = TakesLines s none_fed (closed_lines bytes) f
