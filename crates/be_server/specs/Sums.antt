-- What the events of a script find and cost, all together.
use Rattle.std.specs.Prelude.{◌≡◌, ℕ, ◌+◌, ◌*◌, ◌≤◌, ◌<◌, ◌^◌, false, List, [], ◌∷◌, ◌++◌, length, codes}
use Rattle.std.specs.List.{sum_by, count_by}
use Rattle.be_base.specs.Text.{Text}
use Rattle.be_base.specs.declared.limits.TheConstants.{LEAF_ROWS, GENERATED_SUBSCRIPTIONS, GENERATED_EVENTS}
use Rattle.be_model.specs.declared.changes.Row.{Row}
use Rattle.be_model.specs.declared.costs.Cost.{Cost}
use Rattle.be_model.specs.Bounds.{visits_bound, is_covered, IsWithinBound}
use Rattle.be_model.specs.Costs.{cost}
use Rattle.be_model.specs.Matching.{Assignments, satisfied}
use Rattle.be_model.specs.Schemas.{Attributes}
use Rattle.be_change.specs.History.{Entry, live, is_live_name}
use Rattle.be_change.specs.Made.{row_made, change_named}
use Rattle.be_change.specs.Requests.{Request, subscribe, publish, costing}
use Rattle.be_change.specs.Walk.{live_rows}
use Rattle.be_protocol.specs.Replies.{number, with_lf}
use Rattle.be_workload.specs.Asked.{AreRequests}
use Rattle.be_board.specs.LocalCopy.{local_word}
use Rattle.be_board.specs.Word.{own_in}
use Rattle.be_server.specs.declared.sums.Sums.{Sums}

-- the row that each subscription of a run makes, in order, where the first has this place in the list
abbrev pub rows_subscribed : ℕ → List Request → List Row
rows_subscribed place [] = []
rows_subscribed place (subscribe name conj ∷ rs) = row_made 1 place name conj ∷ rows_subscribed (place + 1) rs
rows_subscribed place (_ ∷ rs) = rows_subscribed place rs

-- the events that are published
abbrev pub published : List Request → List Assignments
published [] = []
published (publish e ∷ rs) = e ∷ published rs
published (_ ∷ rs) = published rs

-- the events whose cost is asked for
abbrev pub costed : List Request → List Assignments
costed [] = []
costed (costing e ∷ rs) = e ∷ costed rs
costed (_ ∷ rs) = costed rs

-- how many of the rows each event satisfies, all together
abbrev pub hits_among : List Row → List Assignments → ℕ
hits_among rows es = sum_by (λ e. length (satisfied e rows)) es

-- the bounds of the visits of a search for each event, all together
abbrev pub visits_bounds : Attributes → List Row → List Assignments → ℕ
visits_bounds s rows es = sum_by (λ e. visits_bound s e rows) es

-- the bounds of the tested rows, all together: 16 rows at each visited node, and the covered rows of each event
abbrev pub tested_bounds : List Row → List Assignments → ℕ → ℕ
tested_bounds rows es visits = LEAF_ROWS * visits + sum_by (λ e. count_by (is_covered e) rows) es

-- the sums over a script that asks for this, with so many events
pub record AreScriptSums (s : Attributes) (requests : List Request) (events : ℕ) (sums : Sums) : Type 0 where
  pub hits : sums.hits ≡ hits_among (rows_subscribed 0 requests) (published requests)
  pub some : events ≤ sums.cost.visits
  pub visits : sums.cost.visits ≤ visits_bounds s (rows_subscribed 0 requests) (costed requests)
  pub found : sums.hits ≤ sums.cost.tested
  pub tested : sums.cost.tested ≤ tested_bounds (rows_subscribed 0 requests) (costed requests) sums.cost.visits

-- what is printed of them
abbrev pub sums_line : ℕ → ℕ → Sums → Text
sums_line subs events sums =
    with_lf (codes "GEN" ++ number subs ++ number events ++ number sums.hits ++ number sums.cost.visits ++ number sums.cost.tested)

abbrev pub no_script_sums : Sums
no_script_sums = record { hits = 0; cost = cost 0 0 }

abbrev pub with_hits : ℕ → Sums → Sums
with_hits n sums = record { hits = sums.hits + n; cost = sums.cost }

abbrev pub with_cost : Cost → Sums → Sums
with_cost c sums = record { hits = sums.hits; cost = cost (sums.cost.visits + c.visits) (sums.cost.tested + c.tested) }

-- a request may be answered: its name is new, and 64 bits count what was found and what it cost
abbrev pub MayCount : Attributes → Request → List Entry → Sums → Type 0
MayCount s (subscribe name conj) h sums = is_live_name name (live h) ≡ false
MayCount s (publish e) h sums = sums.hits + length (satisfied e (live_rows h)) < 2 ^ 64
MayCount s (costing e) h sums =
    (c : Cost) → IsWithinBound s e (live_rows h) c → (sums.cost.visits + c.visits < 2 ^ 64) × (sums.cost.tested + c.tested < 2 ^ 64)
MayCount s _ h sums = Unit {0}

-- a request was answered over the list, and its reply counted
abbrev pub CountsRequest : Attributes → Request → List Entry → Sums → List Entry → Sums → Type 0
CountsRequest s (subscribe name conj) h sums after counted =
    (after ≡ h ++ change_named 1 (length (own_in (local_word h))) (length h) (subscribe name conj)) × (counted ≡ sums)
CountsRequest s (publish e) h sums after counted = (after ≡ h) × (counted ≡ with_hits (length (satisfied e (live_rows h))) sums)
CountsRequest s (costing e) h sums after counted =
    (after ≡ h) × (c : Cost) × IsWithinBound s e (live_rows h) c × (counted ≡ with_cost c sums)
-- a workload asks for nothing else
CountsRequest s _ h sums after counted = (after ≡ h) × (counted ≡ sums)

-- a workload's script, within the limits of the command
pub record IsCountableScript (requests : List Request) : Type 0 where
  pub subs : ℕ
  pub events : ℕ
  pub few_subs : subs ≤ GENERATED_SUBSCRIPTIONS
  pub few_events : events ≤ GENERATED_EVENTS
  pub are : AreRequests subs events requests
