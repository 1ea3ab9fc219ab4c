-- The core as plain data: what each act answers, and what it makes of the list.
use Rattle.std.specs.Prelude.{ℕ, ◌+◌, ◌≤◌, ◌==◌, ◌&&◌, ◌||◌, Bool, true, false, not, nat_lt, nat_le, List, [], ◌∷◌, ◌++◌, length, take, Option, Some, None, slice_get, if◌then◌else◌}
use Rattle.be_base.specs.declared.names.SessionNo.{SessionNo}
use Rattle.be_model.specs.declared.changes.Row.{Row}
use Rattle.be_model.specs.Matching.{Assignments}
use Rattle.be_change.specs.History.{Text, Entry, subscribed, unsubscribed, left, session_of, serial_of, entries_of, has_left, ByIds, live, hits, has_name, is_of, IsWellFormed}
use Rattle.be_core.specs.declared.acts.CoreReply.{CoreReply}
use Rattle.be_core.specs.declared.acts.CoreReply.TheVariants.{Taken, Held, Dup, NoName, Other, Left, Hits, Split, Nothing}
use Rattle.be_core.specs.Acts.{Deed, asks, publishes, reshapes, reads, tells, leaves}

-- how much each session has seen. A session that isn't here has seen nothing
abbrev pub Seen : Type 0
Seen = List (SessionNo × ℕ)

abbrev pub seen_by : ℕ → Seen → ℕ
seen_by k [] = 0
seen_by k (r ∷ rs) = if r.0.0 == k then r.1 else seen_by k rs

abbrev pub having_seen : ℕ → ℕ → Seen → Seen
having_seen k n [] = (record { 0 = k }, n) ∷ []
having_seen k n (r ∷ rs) = if r.0.0 == k then (r.0, n) ∷ rs else r ∷ having_seen k n rs

-- the list, how much of it is published, and how much of it each session has seen
pub record State : Type 0 where
  pub list : List Entry
  pub published : ℕ
  pub seen : Seen

abbrev pub state : List Entry → ℕ → Seen → State
state list published seen = record { list = list; published = published; seen = seen }

abbrev pub beginning : State
beginning = state [] 0 []

-- a change stands in the list that isn't published
abbrev pub is_pending : State → Bool
is_pending s = nat_lt s.published (length s.list)

-- whether there is an entry, and it is the session's
abbrev pub is_entry_of : ℕ → Option Entry → Bool
is_entry_of k None = false
is_entry_of k (Some e) = session_of e == k

-- the pending change is the session's
abbrev pub is_pending_of : ℕ → State → Bool
is_pending_of k s = is_entry_of k (slice_get s.list s.published)

-- the session has seen more than is published
abbrev pub is_ahead : ℕ → State → Bool
is_ahead k s = nat_lt s.published (seen_by k s.seen)

-- the session may change nothing: it has left, or a change is pending
abbrev pub is_deaf : ℕ → State → Bool
is_deaf k s = has_left k s.list || is_pending s

abbrev pub is_bye : Entry → Bool
is_bye (subscribed k n row) = false
is_bye (unsubscribed k n name) = false
is_bye (left k n) = true

-- the change is no Bye, is the session's, and has its next serial
abbrev pub is_next_of : ℕ → List Entry → Entry → Bool
is_next_of k h e = not (is_bye e) && (session_of e == k && serial_of e == length (entries_of k h))

-- the first live row of this name
abbrev pub named : Text → ByIds → Option (ℕ × Row)
named name [] = None
named name (r ∷ rs) = if has_name name r then Some r else named name rs

-- the session has seen n changes
abbrev pub after_seeing : ℕ → ℕ → State → State
after_seeing k n s = record s { seen = having_seen k n s.seen }

abbrev pub after_change : Entry → State → State
after_change e s = record s { list = s.list ++ e ∷ [] }

abbrev pub split : ℕ → State → State × CoreReply
split k s = (s, Split (seen_by k s.seen) s.published)

-- the session is given the reply, and has seen what is published
abbrev pub shown : ℕ → CoreReply → State → State × CoreReply
shown k r s = (after_seeing k s.published s, r)

abbrev pub taken : Entry → State → State × CoreReply
taken e s = (after_change e s, Taken (length s.list + 1))

-- the change is a Sub of this row, and this is the live row of its name
abbrev pub subscribe : ℕ → Entry → Row → State → Option (ℕ × Row) → State × CoreReply
subscribe k e row s (Some r) = shown k (Dup s.published (record { 0 = r.0 })) s
subscribe k e row s None = if row.id.0 == length s.list && row.session.0 == k then taken e s else (s, Nothing)

-- the change is an Unsub, and this is the live row of its name
abbrev pub unsubscribe : ℕ → Entry → State → Option (ℕ × Row) → State × CoreReply
unsubscribe k e s None = shown k (NoName s.published) s
unsubscribe k e s (Some r) = if is_of k r then taken e s else shown k (Other s.published (record { 0 = r.0 })) s

-- a change that is the session's next
abbrev pub change_next : ℕ → Entry → State → State × CoreReply
change_next k (subscribed j n row) s = subscribe k (subscribed j n row) row s (named row.name (live s.list))
change_next k (unsubscribed j n name) s = unsubscribe k (unsubscribed j n name) s (named name (live s.list))
change_next k (left j n) s = (s, Nothing)

abbrev pub ask : ℕ → Entry → State → State × CoreReply
ask k e s =
    if is_deaf k s || not (is_next_of k s.list e)
    then (s, Nothing)
    else if is_ahead k s then split k s else change_next k e s

-- the Bye with the session's next serial
abbrev pub bye_of : ℕ → List Entry → Entry
bye_of k h = left k (length (entries_of k h))

abbrev pub parted : ℕ → State → State × CoreReply
parted k s = (after_change (bye_of k s.list) s, Left (length s.list + 1))

abbrev pub leave : ℕ → State → State × CoreReply
leave k s =
    if is_deaf k s
    then (s, Nothing)
    else if is_ahead k s then split k s else parted k s

abbrev pub looked : ℕ → ℕ → Assignments → State → State × CoreReply
looked k n e s = (after_seeing k n s, Hits n (hits (take n s.list) e))

abbrev pub read : ℕ → ℕ → Assignments → State → State × CoreReply
read k n e s =
    if not (has_left k s.list) && (nat_le (seen_by k s.seen) n && nat_le n s.published)
    then looked k n e s
    else (s, Nothing)

abbrev pub tell : ℕ → State → State × CoreReply
tell k s =
    if is_pending_of k s
    then (s, Held (length s.list))
    else if is_ahead k s then split k s else shown k Nothing s

-- one act: what it makes of the state, and its reply
abbrev pub step : State → Deed → State × CoreReply
step s (asks k e) = ask k e s
step s publishes = (record s { published = length s.list }, Nothing)
step s reshapes = (s, Nothing)
step s (reads k n e) = read k n e s
step s (tells k) = tell k s
step s (leaves k) = leave k s

-- the state after acts in a row
abbrev pub after_acts : State → List Deed → State
after_acts s [] = s
after_acts s (a ∷ acts) = after_acts (step s a).0 acts

-- their replies
abbrev pub replies : State → List Deed → List CoreReply
replies s [] = []
replies s (a ∷ acts) = (step s a).1 ∷ replies (step s a).0 acts

abbrev pub run : State → List Deed → State × List CoreReply
run s acts = (after_acts s acts, replies s acts)

-- what each world keeps: a well formed list, of which all is published or all but the last,
-- and no session has seen more than is published
pub record IsWorld (s : State) : Type 0 where
  pub formed : IsWellFormed s.list
  pub within : s.published ≤ length s.list
  pub one_less : length s.list ≤ s.published + 1
  pub seen : (k : ℕ) → seen_by k s.seen ≤ s.published

abbrev pub is_split : CoreReply → Bool
is_split (Split seen written) = true
is_split (Taken n) = false
is_split (Held n) = false
is_split (Dup m id) = false
is_split (NoName m) = false
is_split (Other m id) = false
is_split (Left n) = false
is_split (Hits n names) = false
is_split Nothing = false
