-- A workload's script is counted request by request: first its subscriptions, then its events.
use Rattle.std.proofs.Common.{◌≡◌, ◌⊎◌, inl, inr, ℕ, ◌+◌, ◌^◌, ◌<◌, ◌≤◌, false, List, [], ◌∷◌, ◌++◌, length, length-append, map, append_assoc, append-nil, refl, sym, ap, ◌∙◌, subst, arith}
use Rattle.std.specs.List.{All, list_any}
use Rattle.std.proofs.lemmas.List.Elements.{All-head, All-tail}
use Rattle.be_base.specs.declared.limits.TheConstants.{GENERATED_SUBSCRIPTIONS, GENERATED_EVENTS}
use Rattle.be_base.specs.Text.{Text}
use Rattle.be_io.specs.FileLines.{file_lines}
use Rattle.be_io.specs.Lines as line
use Rattle.be_model.specs.declared.changes.Row.{Row}
use Rattle.be_model.specs.declared.preds.Pred.{Pred}
use Rattle.be_model.specs.Bounds.{IsWithinBound}
use Rattle.be_model.specs.Matching.{Assignments}
use Rattle.be_change.specs.History.{Entry, live, is_leave_of, placed_of, is_live_name}
use Rattle.be_change.specs.Made.{change_named}
use Rattle.be_change.specs.Requests.{Request, subscribe, publish, costing}
use Rattle.be_change.specs.Walk.{live_rows}
use Rattle.be_protocol.specs.Readings.{reading}
use Rattle.be_board.specs.LocalCopy.{local_word}
use Rattle.be_board.specs.Word.{own_in}
use Rattle.be_workload.specs.Asked.{schema, asked_by_lines, name_of_sub, subscriptions_to, publishing, IsOfSchema, AreRequests}
use Rattle.be_server.specs.declared.sums.Sums.{Sums}
use Rattle.be_server.specs.Sums.{published, costed, no_script_sums, MayCount, CountsRequest, AreScriptSums, IsCountableScript, rows_subscribed}
use Rattle.be_server.proofs.ScriptLists.{list_of, rows_made, length-list_of, length-rows_made, list_of-snoc, live_rows-list_of, name_is_new, list_goes_on, serial-list_of, rows-script, published-events, costed-events, published-script, costed-script}
use Rattle.be_server.proofs.Tallies.{Tallies, few_satisfied, small_cost, tally_none, tally_hits, tally_cost}

-- an event of the schema is published, or its cost is asked for
abbrev IsEventRequest : Request → Type 0
IsEventRequest (publish e) = IsOfSchema e
IsEventRequest (costing e) = IsOfSchema e
IsEventRequest _ = ⊥

abbrev AreEventRequests : List Request → Type 0
AreEventRequests [] = Unit
AreEventRequests (r ∷ rs) = IsEventRequest r × AreEventRequests rs

-- the list and the sums so far, and the requests that are left
pub record Serving (requests : List Request) (list : List Entry) (left : List Request) (sums : Sums) : Type 0 where
  pub conjs : List (List Pred)
  pub events : List Assignments
  pub each : requests ≡ subscriptions_to 0 conjs ++ publishing events
  pub few_conjs : length conjs ≤ GENERATED_SUBSCRIPTIONS
  pub few_events : length events ≤ GENERATED_EVENTS
  -- the subscriptions that were made, and those that are left
  pub subbed : List (List Pred)
  pub unsubbed : List (List Pred)
  pub conjs_are : conjs ≡ subbed ++ unsubbed
  -- the lines of events that were answered, and those that are left
  pub done : List Request
  pub todo : List Request
  pub lines_are : publishing events ≡ done ++ todo
  pub are_events : AreEventRequests todo
  pub first : (unsubbed ≡ []) ⊎ (done ≡ [])
  pub list_is : list ≡ list_of 0 subbed
  pub left_is : left ≡ subscriptions_to (length subbed) unsubbed ++ todo
  pub tally : Tallies (rows_made 0 conjs) (published done) (costed done) sums

all_events : (es : List Assignments) → All IsOfSchema es → AreEventRequests (publishing es)
all_events [] h = tt
all_events (e ∷ es) h = (All-head IsOfSchema e es h, (All-head IsOfSchema e es h, all_events es (All-tail IsOfSchema e es h)))

pub serve_begin : (requests : List Request) (k : IsCountableScript requests) → Serving requests [] requests no_script_sums
serve_begin requests k = record {
  conjs = k.are.conjs;
  events = k.are.events;
  each = k.are.each;
  few_conjs = omega (arith, k.are.conj_for_each, k.few_subs);
  few_events = omega (arith, k.are.event_for_each, k.few_events);
  subbed = [];
  unsubbed = k.are.conjs;
  conjs_are = refl;
  done = [];
  todo = publishing k.are.events;
  lines_are = refl;
  are_events = all_events k.are.events k.are.of_schema;
  first = inr refl;
  list_is = refl;
  left_is = k.are.each;
  tally = tally_none (rows_made 0 k.are.conjs);
}

-- the session hasn't left
pub serve_goes_on : (requests left : List Request) (list : List Entry) (sums : Sums) → Serving requests list left sums → list_any (λ (p : ℕ × Entry). is_leave_of 1 p.1) (placed_of 1 list) ≡ false
serve_goes_on requests left list sums k = ap (λ (h : List Entry). list_any (λ (p : ℕ × Entry). is_leave_of 1 p.1) (placed_of 1 h)) k.list_is ∙ list_goes_on 0 0 k.subbed

published-append : (xs ys : List Request) → published (xs ++ ys) ≡ published xs ++ published ys
published-append [] ys = refl
published-append (publish e ∷ xs) ys = ap (λ (es : List Assignments). e ∷ es) (published-append xs ys)
published-append (_ ∷ xs) ys = published-append xs ys

costed-append : (xs ys : List Request) → costed (xs ++ ys) ≡ costed xs ++ costed ys
costed-append [] ys = refl
costed-append (costing e ∷ xs) ys = ap (λ (es : List Assignments). e ∷ es) (costed-append xs ys)
costed-append (_ ∷ xs) ys = costed-append xs ys

-- no more was answered than there is
few_told : (requests left : List Request) (list : List Entry) (sums : Sums) (k : Serving requests list left sums) → length (published k.done) ≤ GENERATED_EVENTS
few_told requests left list sums k =
    let all : length (published k.done ++ published k.todo) ≡ length k.events =
    ap length (sym (published-append k.done k.todo) ∙ ap published (sym k.lines_are) ∙ published-events k.events) in
    omega (arith, all, length-append (published k.done) (published k.todo), k.few_events)

few_costed : (requests left : List Request) (list : List Entry) (sums : Sums) (k : Serving requests list left sums) → length (costed k.done) ≤ GENERATED_EVENTS
few_costed requests left list sums k =
    let all : length (costed k.done ++ costed k.todo) ≡ length k.events =
    ap length (sym (costed-append k.done k.todo) ∙ ap costed (sym k.lines_are) ∙ costed-events k.events) in
    omega (arith, all, length-append (costed k.done) (costed k.todo), k.few_events)

-- where all subscriptions were made, their rows are live
rows_live : (requests left : List Request) (list : List Entry) (sums : Sums) (k : Serving requests list left sums) → k.unsubbed ≡ []
    → live_rows list ≡ rows_made 0 k.conjs
rows_live requests left list sums k none =
    ap live_rows k.list_is ∙ live_rows-list_of k.subbed
    ∙ ap (rows_made 0) (sym (k.conjs_are ∙ ap (λ (cs : List (List Pred)). k.subbed ++ cs) none ∙ append-nil k.subbed))

few_rows : (requests left : List Request) (list : List Entry) (sums : Sums) (k : Serving requests list left sums) → length (rows_made 0 k.conjs) ≤ 100000
few_rows requests left list sums k = omega (arith, length-rows_made 0 k.conjs, k.few_conjs)

-- what comes next: a subscription, or the line of an event after all subscriptions
data Next (requests : List Request) (list : List Entry) (sums : Sums) (r : Request) (rest : List Request) (k : Serving requests list (r ∷ rest) sums) : Type 0 where
  next_sub : (conj : List Pred) (conjs : List (List Pred)) → k.unsubbed ≡ conj ∷ conjs → k.done ≡ [] → r ≡ subscribe (name_of_sub (length k.subbed)) conj
      → rest ≡ subscriptions_to (length k.subbed + 1) conjs ++ k.todo → Next requests list sums r rest k
  next_event : k.unsubbed ≡ [] → k.todo ≡ r ∷ rest → IsEventRequest r → AreEventRequests rest → Next requests list sums r rest k

next_in : (requests : List Request) (list : List Entry) (sums : Sums) (r : Request) (rest : List Request) (k : Serving requests list (r ∷ rest) sums)
    (unsubbed : List (List Pred)) → k.unsubbed ≡ unsubbed → Next requests list sums r rest k
next_in requests list sums r rest k [] none =
    let all : r ∷ rest ≡ k.todo = k.left_is ∙ ap (λ (cs : List (List Pred)). subscriptions_to (length k.subbed) cs ++ k.todo) none in
    let are = subst AreEventRequests (sym all) k.are_events in
    next_event none (sym all) are.0 are.1
next_in requests list sums r rest k (conj ∷ conjs) some =
    let all : r ∷ rest ≡ subscribe (name_of_sub (length k.subbed)) conj ∷ (subscriptions_to (length k.subbed + 1) conjs ++ k.todo) =
    k.left_is ∙ ap (λ (cs : List (List Pred)). subscriptions_to (length k.subbed) cs ++ k.todo) some in
    let is : r ≡ subscribe (name_of_sub (length k.subbed)) conj = cc in
    let later : rest ≡ subscriptions_to (length k.subbed + 1) conjs ++ k.todo = cc in
    next_sub conj conjs some (none_done k.first) is later
  where
    none_done : (k.unsubbed ≡ []) ⊎ (k.done ≡ []) → k.done ≡ []
    none_done (inl e) = let clash : [] ≡ conj ∷ conjs = sym e ∙ some in absurd cc
    none_done (inr e) = e

next_of : (requests : List Request) (list : List Entry) (sums : Sums) (r : Request) (rest : List Request) (k : Serving requests list (r ∷ rest) sums) → Next requests list sums r rest k
next_of requests list sums r rest k = next_in requests list sums r rest k k.unsubbed refl

-- 64 bits are enough for an event
may_event : (list : List Entry) (sums : Sums) (rows : List Row) (told costs : List Assignments) → length (live_rows list) ≤ 100000
    → length told ≤ GENERATED_EVENTS → length costs ≤ GENERATED_EVENTS → Tallies rows told costs sums → (r : Request) → IsEventRequest r → MayCount schema r list sums
may_event list sums rows told costs few short_told short_costs t (publish e) h = omega (arith, t.few_hits, few_satisfied e (live_rows list))
may_event list sums rows told costs few short_told short_costs t (costing e) h =
    λ c within. let small = small_cost e (live_rows list) c h few within in (omega (arith, t.few_visits, small.visits), omega (arith, t.few_tested, small.tested))
may_event list sums rows told costs few short_told short_costs t _ h = absurd h

-- the next request may be answered
pub serve_may : (requests : List Request) (list : List Entry) (sums : Sums) (r : Request) (rest : List Request) → Serving requests list (r ∷ rest) sums → MayCount schema r list sums
serve_may requests list sums r rest k = by_next (next_of requests list sums r rest k)
  where
    few_live : k.unsubbed ≡ [] → length (live_rows list) ≤ 100000
    few_live none = subst (λ (rows : List Row). length rows ≤ 100000) (sym (rows_live requests (r ∷ rest) list sums k none)) (few_rows requests (r ∷ rest) list sums k)

    few_subbed : length k.subbed < 2 ^ 64
    few_subbed = omega (arith, ap length k.conjs_are, length-append k.subbed k.unsubbed, k.few_conjs)

    by_next : Next requests list sums r rest k → MayCount schema r list sums
    by_next (next_sub conj conjs some none is later) =
        subst (λ (q : Request). MayCount schema q list sums) (sym is) (ap (λ (h : List Entry). is_live_name (name_of_sub (length k.subbed)) (live h)) k.list_is ∙ name_is_new k.subbed few_subbed)
    by_next (next_event none todo is are) =
        may_event list sums (rows_made 0 k.conjs) (published k.done) (costed k.done) (few_live none)
        (few_told requests (r ∷ rest) list sums k) (few_costed requests (r ∷ rest) list sums k) k.tally r is

zero_left : (n : ℕ) → n ≡ 0 + n
zero_left n = omega arith

-- a subscription was made
sub_step : (requests : List Request) (list : List Entry) (sums : Sums) (r : Request) (rest : List Request) (k : Serving requests list (r ∷ rest) sums) (after : List Entry) (counted : Sums)
    (conj : List Pred) (conjs : List (List Pred)) → k.unsubbed ≡ conj ∷ conjs → k.done ≡ [] → rest ≡ subscriptions_to (length k.subbed + 1) conjs ++ k.todo
    → CountsRequest schema (subscribe (name_of_sub (length k.subbed)) conj) list sums after counted → Serving requests after rest counted
sub_step requests list sums r rest k after counted conj conjs some none later c =
    let n = length k.subbed in
    record {
      conjs = k.conjs;
      events = k.events;
      each = k.each;
      few_conjs = k.few_conjs;
      few_events = k.few_events;
      subbed = k.subbed ++ conj ∷ [];
      unsubbed = conjs;
      conjs_are = k.conjs_are ∙ ap (λ (cs : List (List Pred)). k.subbed ++ cs) some ∙ sym (append_assoc k.subbed (conj ∷ []) conjs);
      done = k.done;
      todo = k.todo;
      lines_are = k.lines_are;
      are_events = k.are_events;
      first = inr none;
      list_is =
          c.0
          ∙ ap (λ (h : List Entry). h ++ change_named 1 (length (own_in (local_word h))) (length h) (subscribe (name_of_sub n) conj)) k.list_is
          ∙ ap (λ (m : ℕ). list_of 0 k.subbed ++ change_named 1 m (length (list_of 0 k.subbed)) (subscribe (name_of_sub n) conj)) (serial-list_of 0 k.subbed)
          ∙ ap (λ (m : ℕ). list_of 0 k.subbed ++ change_named 1 n m (subscribe (name_of_sub n) conj)) (length-list_of 0 k.subbed)
          ∙ ap (λ (m : ℕ). list_of 0 k.subbed ++ change_named 1 m m (subscribe (name_of_sub m) conj)) (zero_left n)
          ∙ sym (list_of-snoc 0 k.subbed conj);
      left_is = later ∙ ap (λ (m : ℕ). subscriptions_to m conjs ++ k.todo) (sym (length-append k.subbed (conj ∷ [])));
      tally = subst (Tallies (rows_made 0 k.conjs) (published k.done) (costed k.done)) (sym c.1) k.tally;
    }

-- what is known after the line of an event
record Told (rows : List Row) (list after : List Entry) (done : List Request) (r : Request) (counted : Sums) : Type 0 where
  kept : after ≡ list
  tally : Tallies rows (published (done ++ r ∷ [])) (costed (done ++ r ∷ [])) counted

event_step : (rows : List Row) (list : List Entry) (sums : Sums) (after : List Entry) (counted : Sums) (done : List Request) → live_rows list ≡ rows → length rows ≤ 100000
    → Tallies rows (published done) (costed done) sums → (r : Request) → IsEventRequest r → CountsRequest schema r list sums after counted → Told rows list after done r counted
event_step rows list sums after counted done live few t (publish e) h c = record {
  kept = c.0;
  tally = rw (published-append done (publish e ∷ []), costed-append done (publish e ∷ []), append-nil (costed done), c.1, live) (tally_hits rows (published done) (costed done) sums e few t);
}
event_step rows list sums after counted done live few t (costing e) h c =
    let cost = c.1 in
    let within = subst (λ (rs : List Row). IsWithinBound schema e rs cost) live c.2 in
    record {
      kept = c.0;
      tally = rw (published-append done (costing e ∷ []), costed-append done (costing e ∷ []), append-nil (published done), c.3) (tally_cost rows (published done) (costed done) sums e cost h few within t);
    }
event_step rows list sums after counted done live few t _ h c = absurd h

-- the next request was answered
pub serve_step : (requests : List Request) (list : List Entry) (sums : Sums) (r : Request) (rest : List Request) (after : List Entry) (counted : Sums)
    → Serving requests list (r ∷ rest) sums → CountsRequest schema r list sums after counted → Serving requests after rest counted
serve_step requests list sums r rest after counted k c = by_next (next_of requests list sums r rest k)
  where
    by_next : Next requests list sums r rest k → Serving requests after rest counted
    by_next (next_sub conj conjs some none is later) =
        sub_step requests list sums r rest k after counted conj conjs some none later (subst (λ (q : Request). CountsRequest schema q list sums after counted) is c)
    by_next (next_event none todo is are) =
        let t = event_step (rows_made 0 k.conjs) list sums after counted k.done (rows_live requests (r ∷ rest) list sums k none) (few_rows requests (r ∷ rest) list sums k) k.tally r is c in
        record {
          conjs = k.conjs;
          events = k.events;
          each = k.each;
          few_conjs = k.few_conjs;
          few_events = k.few_events;
          subbed = k.subbed;
          unsubbed = k.unsubbed;
          conjs_are = k.conjs_are;
          done = k.done ++ r ∷ [];
          todo = rest;
          lines_are = k.lines_are ∙ ap (λ (rs : List Request). k.done ++ rs) todo ∙ sym (append_assoc k.done (r ∷ []) rest);
          are_events = are;
          first = inl none;
          list_is = t.kept ∙ k.list_is;
          left_is = ap (λ (cs : List (List Pred)). subscriptions_to (length k.subbed) cs ++ rest) (sym none);
          tally = t.tally;
        }

ended : (requests : List Request) (rows : List Row) (events : List Assignments) (sums : Sums) → rows_subscribed 0 requests ≡ rows → published requests ≡ events → costed requests ≡ events
    → Tallies rows events events sums → AreScriptSums schema requests (length (published requests)) sums
ended requests rows events sums r p c t = record {
  hits = rw (r, p) t.hits;
  some = rw p t.some;
  visits = rw (r, c) t.visits;
  found = rw (sym t.hits) at t.found;
  tested = rw (r, c) t.tested;
}

-- no request is left
nothing_left : (n : ℕ) (unsubbed : List (List Pred)) (todo : List Request) → [] ≡ subscriptions_to n unsubbed ++ todo → todo ≡ []
nothing_left n [] todo e = sym e
nothing_left n (conj ∷ conjs) todo e = absurd cc

pub serve_end : (requests : List Request) (list : List Entry) (sums : Sums) → Serving requests list [] sums → AreScriptSums schema requests (length (published requests)) sums
serve_end requests list sums k =
    let none = nothing_left (length k.subbed) k.unsubbed k.todo k.left_is in
    let all : publishing k.events ≡ k.done = k.lines_are ∙ ap (λ (rs : List Request). k.done ++ rs) none ∙ append-nil k.done in
    let told : published k.done ≡ k.events = ap published (sym all) ∙ published-events k.events in
    let costs : costed k.done ≡ k.events = ap costed (sym all) ∙ costed-events k.events in
    let t : Tallies (rows_made 0 k.conjs) k.events k.events sums = rw (told, costs) at k.tally in
    ended requests (rows_made 0 k.conjs) k.events sums
    (ap (rows_subscribed 0) k.each ∙ rows-script 0 k.conjs k.events)
    (ap published k.each ∙ published-script 0 k.conjs k.events)
    (ap costed k.each ∙ costed-script 0 k.conjs k.events) t

-- the first line of what is left comes next
pub serve_first : (requests : List Request) (list : List Entry) (sums : Sums) (rest l after : Text) → file_lines rest ≡ l ∷ file_lines after
    → Serving requests list (asked_by_lines rest) sums → Serving requests list (reading schema (line.text l) ∷ asked_by_lines after) sums
serve_first requests list sums rest l after lines k =
    subst (λ (left : List Request). Serving requests list left sums) (ap (map (λ (t : Text). reading schema (line.text t))) lines) k

-- a workload publishes so many events
pub events_counted : (subs events : ℕ) (requests : List Request) → AreRequests subs events requests → length (published requests) ≡ events
events_counted subs events requests k = ap length (ap published k.each ∙ published-script 0 k.conjs k.events) ∙ k.event_for_each
