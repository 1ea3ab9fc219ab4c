-- What one session asked of the core and was answered, as its lines and their replies.
use Rattle.std.specs.Prelude.{◌≡◌, ℕ, false, List, [], ◌∷◌, ◌++◌, filter, not, Option, Some, None, if◌then◌else◌}
use Rattle.std.specs.List.{list_any}
use Rattle.be_model.specs.Schemas.{Attributes}
use Rattle.be_change.specs.History.{Entry, subscribed, unsubscribed, left, entries_of, places_of}
use Rattle.be_change.specs.Requests.{Request, publish, quit, Reply, held, dup, none, other, hit, split, Exchange}
use Rattle.be_change.specs.Requests as requests
use Rattle.be_change.specs.Walk.{IsLegalSession, accepted}
use Rattle.be_core.specs.declared.acts.CoreReply.{CoreReply}
use Rattle.be_core.specs.declared.acts.CoreReply.TheVariants.{Taken, Held, Dup, NoName, Other, Left, Hits, Split, Nothing}
use Rattle.be_core.specs.Acts.{Deed, asks, publishes, reshapes, reads, tells, leaves, is_by, AreOfSessions, is_reshape}
use Rattle.be_core.specs.World.{State, seen_by, run, is_split, IsWorld}

abbrev pub request_for : Entry → Request
request_for (subscribed k n row) = requests.subscribe row.name row.conj
request_for (unsubscribed k n name) = requests.unsubscribe name
request_for (left k n) = quit

-- what the act asks for
abbrev pub request_in : Deed → Option Request
request_in (asks k e) = Some (request_for e)
request_in (reads k n e) = Some (publish e)
request_in (leaves k) = Some quit
request_in publishes = None
request_in reshapes = None
request_in (tells k) = None

-- the reply, read as one to a line. A change that is taken isn't told yet
abbrev pub reply_in : CoreReply → Option Reply
reply_in (Taken n) = Some (held n)
reply_in (Left n) = Some (held n)
reply_in (Dup m id) = Some (dup m id.0)
reply_in (NoName m) = Some (none m)
reply_in (Other m id) = Some (other m id.0)
reply_in (Hits n names) = Some (hit n names)
reply_in (Split seen written) = Some (split seen written)
reply_in (Held n) = None
reply_in Nothing = None

abbrev pub exchange_of : Option Request → Option Reply → List Exchange
exchange_of (Some r) (Some s) = (r, s) ∷ []
exchange_of (Some r) None = []
exchange_of None s = []

-- the session's exchanges, among acts with their replies
abbrev pub exchanges : ℕ → List Deed → List CoreReply → List Exchange
exchanges k [] replies = []
exchanges k (a ∷ acts) [] = []
exchanges k (a ∷ acts) (r ∷ replies) = (if is_by k a then exchange_of (request_in a) (reply_in r) else []) ++ exchanges k acts replies

-- to a session that had seen so much before them, the exchanges are legal over the list, and its changes in the list are
-- exactly those that were accepted. No reply tells a cost, so the schema doesn't matter
pub record IsAnswered (k seen : ℕ) (h : List Entry) (ps : List Exchange) : Type 0 where
  pub legal : (s : Attributes) → IsLegalSession s k 0 h ps
  -- they cover what it had seen, too
  pub covers : (s : Attributes) → IsLegalSession s k seen h ps
  pub only : places_of k h ≡ accepted ps

-- acts that came upon the first state, and had these replies, led to the second:
-- each session without an entry in the first list is answered legally over the second list
abbrev pub EachIsLegal : State → List Deed → State × List CoreReply → Type 0
EachIsLegal s acts r = (k : ℕ) → entries_of k s.list ≡ [] → IsAnswered k (seen_by k s.seen) r.0.list (exchanges k acts r.1)

-- the replies to the acts that aren't a Reshape
abbrev pub replies_beside : List Deed → List CoreReply → List CoreReply
replies_beside [] replies = []
replies_beside (a ∷ acts) [] = []
replies_beside (a ∷ acts) (r ∷ replies) = if is_reshape a then replies_beside acts replies else r ∷ replies_beside acts replies

abbrev pub beside_reshapes : List Deed → List Deed
beside_reshapes acts = filter (λ a. not (is_reshape a)) acts

-- acts that came upon the first state had these replies, and led to the second:
-- without the Reshapes the other acts have the same replies, and lead to the same state
abbrev pub ReshapesChangeNothing : State → List Deed → State × List CoreReply → Type 0
ReshapesChangeNothing s acts r = run s (beside_reshapes acts) ≡ (r.0, replies_beside acts r.1)

-- each run of acts of sessions keeps what a world keeps
abbrev pub RunsKeep : Type 0
RunsKeep = (s : State) (acts : List Deed) → AreOfSessions acts → IsWorld s → IsWorld (run s acts).0

-- no session is told that it has seen more than is published
abbrev pub NoneIsSplit : Type 0
NoneIsSplit = (s : State) (acts : List Deed) → AreOfSessions acts → IsWorld s → list_any is_split (run s acts).1 ≡ false

-- what each session without an entry is answered is legal
abbrev pub RunsAreLegal : Type 0
RunsAreLegal = (s : State) (acts : List Deed) → AreOfSessions acts → IsWorld s → EachIsLegal s acts (run s acts)

-- with every Reshape taken out, the other acts have the same replies
abbrev pub ShapeIsUnseen : Type 0
ShapeIsUnseen = (s : State) (acts : List Deed) → ReshapesChangeNothing s acts (run s acts)
