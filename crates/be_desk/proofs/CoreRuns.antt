-- A change is one run of the core.
use Rattle.std.proofs.Common.{◌≡◌, ℕ, ◌+◌, ◌<◌, ◌≤◌, ◌⊎◌, Bool, true, false, cond, nat_lt, List, [], ◌∷◌, ◌++◌, length, map, refl, sym, ap, ◌∙◌, subst, arith, length-append}
use Rattle.std.proofs.lemmas.Bool.{cond-false, false_from_ne_true, eqb-true}
use Rattle.be_base.specs.declared.limits.TheConstants.{COUNT_END}
use Rattle.be_base.proofs.Beginnings.{BeginsWith-length}
use Rattle.be_model.specs.declared.changes.Row.{Row}
use Rattle.be_model.specs.declared.preds.Pred.{Pred}
use Rattle.be_change.specs.History.{Text, Entry, subscribed, unsubscribed, left, session_of, serial_of, entries_of, has_left, stand, live, hits, is_of, is_live_name, MayFollow, IsWellFormed}
use Rattle.be_change.specs.Made.{row_made}
use Rattle.be_change.specs.Requests.{Request, subscribe, unsubscribe, quit}
use Rattle.be_change.specs.Walk.{IsChangeOf, HasNameAt, HasNameOfAnotherAt}
use Rattle.be_change.proofs.Forms.{formed_last, formed_front}
use Rattle.be_core.specs.Acts.{Deed, asks, publishes, reads, tells}
use Rattle.be_core.specs.World.{Seen, State, state, after_change, shown, taken, subscribe as subscribing, unsubscribe as unsubscribing, step, run}
use Rattle.be_core.specs.declared.acts.CoreReply.{CoreReply}
use Rattle.be_core.specs.declared.acts.CoreReply.TheVariants as core
use Rattle.be_board.specs.declared.answers.Answer.{Answer}
use Rattle.be_board.specs.declared.answers.Answer.TheVariants.{Done, Held, Dup, NoName, Other, Split, NoMemory}
use Rattle.be_board.specs.Word.{own_of, top}
use Rattle.be_published.specs.States.{GlassState}
use Rattle.be_desk.specs.declared.ask.Ask.{Ask}
use Rattle.be_desk.specs.declared.ask.Ask.TheVariants.{Subscribe, Unsubscribe, Leave}
use Rattle.be_desk.specs.Asks.{request_of}
use Rattle.be_desk.specs.Desks.{DeskState, IsHeld, freed}
use Rattle.be_desk.specs.Seats.{SeatState}
use Rattle.be_desk.specs.Changes.{serial_in, Agrees, Stays, Grew, IsRefusal, Changed, Continues, Earns, LeavesSteps}
use Rattle.be_model.specs.declared.paths.Step.{Step}
use Rattle.be_desk.specs.Core.{world, opening, asking, asked, accepting, all_nothing, Runs, IsAhead, StandsByRecord, IsRunOfCore}
use Rattle.be_desk.proofs.Answering.{change_is}
use Rattle.be_desk.proofs.Draws.{present_at}
use Rattle.be_desk.proofs.CoreSteps.{settled, Heard, seen_again, not_strictly, run_more, looked_whole, next_is, next_asks, split_asks, named_free, accepted_by, taken_next, told_settled, told_held}
use Rattle.be_desk.proofs.Named.{found_at, same_some}

-- the held change is published first, where there is one
opened : (d : DeskState) (k seen : ℕ) → IsHeld d.published d.list → (u : State) (acts : List Deed) (xs : List CoreReply) → run (settled d.list k seen) acts ≡ (u, xs)
    → run (world d k seen) (opening d ++ acts) ≡ (u, all_nothing (opening d) ++ xs)
opened d k seen held u acts xs all = which (nat_lt (length d.published) (length d.list)) refl
  where
    which : (b : Bool) → nat_lt (length d.published) (length d.list) ≡ b
        → run (world d k seen) (cond b (publishes ∷ []) [] ++ acts) ≡ (u, all_nothing (cond b (publishes ∷ []) []) ++ xs)
    which true t = run_more (world d k seen) (settled d.list k seen) u core.Nothing publishes acts xs refl all
    which false f =
        let same : length d.published ≡ length d.list = omega (arith, BeginsWith-length d.list d.published held.begins, not_strictly (length d.published) (length d.list) f) in
        ap (λ (n : ℕ). run (state d.list n ((record { 0 = k }, seen) ∷ [])) acts) same ∙ all

-- the run up to the act that asks
runs : (d d' : DeskState) (s : SeatState) (r : Request) (more : List Deed) (xs : List CoreReply) (seen : ℕ) → IsHeld d.published d.list → Heard d.list s.session (length s.glass.known)
    → run (settled d.list s.session (length d.list)) (asked d s r ++ more) ≡ (world d' s.session seen, xs) → Runs d d' s r more xs seen
runs d d' s r more xs seen held heard rest e =
    opened d s.session (length s.glass.known) held (world d' s.session seen) (reads s.session (length d.list) e ∷ (asked d s r ++ more)) (core.Hits (length d.list) (hits d.list e) ∷ xs)
    (run_more (settled d.list s.session (length s.glass.known)) (settled d.list s.session (length d.list)) (world d' s.session seen) (core.Hits (length d.list) (hits d.list e))
    (reads s.session (length d.list) e) (asked d s r ++ more) xs (looked_whole d.list s.session (length s.glass.known) e heard) rest)

accepting_is : (k i place n : ℕ) (r : Request) (e : Entry) → IsChangeOf k i place r e → accepted_by e n ≡ accepting r n
accepting_is k i place n (subscribe name conj) (subscribed j m row) is = refl
accepting_is k i place n (unsubscribe name) (unsubscribed j m gone) is = refl
accepting_is k i place n quit (left j m) is = refl
accepting_is k i place n _ _ is = absurd is

of_session : (k i place : ℕ) (r : Request) (e : Entry) → IsChangeOf k i place r e → session_of e ≡ k
of_session k i place (subscribe name conj) (subscribed j m row) is = is.0
of_session k i place (unsubscribe name) (unsubscribed j m gone) is = is.0
of_session k i place quit (left j m) is = is.0
of_session k i place _ _ is = absurd is

world_is : (d : DeskState) (h : List Entry) (p k m n : ℕ) → d.list ≡ h → length d.published ≡ p → n ≡ m → state h p ((record { 0 = k }, m) ∷ []) ≡ world d k n
world_is d h p k m n list published seen =
    ap (λ (l : List Entry). state l p ((record { 0 = k }, m) ∷ [])) (sym list)
    ∙ ap (λ (q : ℕ). state d.list q ((record { 0 = k }, m) ∷ [])) (sym published)
    ∙ ap (λ (i : ℕ). state d.list (length d.published) ((record { 0 = k }, i) ∷ [])) (sym seen)

-- what is known of the entry by which the desk and the seat grew
record Grown (d : DeskState) (s : SeatState) (r : Request) (n : ℕ) (e : Entry) : Type 0 where
  pub of : session_of e ≡ s.session
  pub heard : Heard d.list s.session (length s.glass.known)
  pub asks : asked d s r ≡ asking s.session e ∷ []
  pub takes : step (settled d.list s.session (length d.list)) (asking s.session e) ≡ (after_change e (settled d.list s.session (length d.list)), accepting r n)

grown : (d d' : DeskState) (s s' : SeatState) (r : Request) (n : ℕ) (g : Grew d d' s s' r n) → IsWellFormed d'.list → Grown d s r n g.entry
grown d d' s s' r n g formed =
    let e : Entry = g.entry in
    let it = change_is s.session (serial_in s) (length d.list) r e g.named in
    let of : session_of e ≡ s.session = of_session s.session (serial_in s) (length d.list) r e it in
    let both : IsWellFormed (d.list ++ e ∷ []) = subst IsWellFormed g.list formed in
    let may : MayFollow d.list e = formed_last d.list e both in
    let present : has_left s.session d.list ≡ false = ap (λ (j : ℕ). has_left j d.list) (sym of) ∙ may.present in
    let long : length d.list + 1 ≡ n = sym (g.count ∙ (ap (λ (l : List Entry). length l) g.list ∙ length-append d.list (e ∷ []))) in
    record {
      of = of;
      heard = record { present = present; covers = BeginsWith-length d.list s.glass.known g.known };
      asks = ap (λ (l : List Entry). map (asking s.session) l) g.named;
      takes =
          taken_next d.list s.session (length d.list) e (record { present = present; covers = omega arith }) (formed_front d.list (e ∷ []) both) of may
          ∙ ap (λ (x : CoreReply). (after_change e (settled d.list s.session (length d.list)), x))
          (ap (accepted_by e) long ∙ accepting_is s.session (serial_in s) (length d.list) n r e it);
    }

done_runs : (d d' : DeskState) (s s' : SeatState) (r : Request) (n : ℕ) → IsHeld d.published d.list → IsWellFormed d'.list → Grew d d' s s' r n → d'.published ≡ d'.list
    → IsRunOfCore d d' s s' r (Done n)
done_runs d d' s s' r n held formed g published =
    let k : ℕ = s.session in
    let h : List Entry = d.list in
    let more : List Entry = d.list ++ g.entry ∷ [] in
    let by = grown d d' s s' r n g formed in
    let told = told_settled more k (length h) (omega (arith, length-append h (g.entry ∷ []))) in
    let last : run (settled more k (length h)) (tells k ∷ []) ≡ (settled more k (length more), core.Nothing ∷ []) =
    run_more (settled more k (length h)) (settled more k (length more)) (settled more k (length more)) core.Nothing (tells k) [] [] told refl in
    let rest = run_more (settled h k (length h)) (after_change g.entry (settled h k (length h))) (settled more k (length more)) (accepting r n) (asking k g.entry) (publishes ∷ tells k ∷ []) (core.Nothing ∷ core.Nothing ∷ []) by.takes
    (run_more (after_change g.entry (settled h k (length h))) (settled more k (length h)) (settled more k (length more)) core.Nothing publishes (tells k ∷ []) (core.Nothing ∷ []) refl last) in
    let long : length d'.list ≡ length more = ap (λ (l : List Entry). length l) g.list in
    runs d d' s r (publishes ∷ tells k ∷ []) (accepting r n ∷ core.Nothing ∷ core.Nothing ∷ []) n held by.heard
    (ap (λ (acts : List Deed). run (settled h k (length h)) (acts ++ publishes ∷ tells k ∷ [])) by.asks
    ∙ rest
    ∙ ap (λ (w : State). (w, accepting r n ∷ core.Nothing ∷ core.Nothing ∷ [])) (world_is d' more (length more) k (length more) n g.list (ap (λ (l : List Entry). length l) published ∙ long) (g.count ∙ long)))

held_runs : (d d' : DeskState) (s s' : SeatState) (r : Request) (n : ℕ) → IsHeld d.published d.list → IsWellFormed d'.list → Grew d d' s s' r n → d'.published ≡ d.list
    → IsRunOfCore d d' s s' r (Held n)
held_runs d d' s s' r n held formed g published =
    let k : ℕ = s.session in
    let h : List Entry = d.list in
    let more : List Entry = d.list ++ g.entry ∷ [] in
    let by = grown d d' s s' r n g formed in
    let t : State = after_change g.entry (settled h k (length h)) in
    let long : length more ≡ n = sym (g.count ∙ ap (λ (l : List Entry). length l) g.list) in
    let told : step t (tells k) ≡ (t, core.Held n) = told_held h g.entry k (length h) by.of ∙ ap (λ (m : ℕ). (t, core.Held m)) long in
    let rest = run_more (settled h k (length h)) t t (accepting r n) (asking k g.entry) (tells k ∷ []) (core.Held n ∷ []) by.takes (run_more t t t (core.Held n) (tells k) [] [] told refl) in
    runs d d' s r (tells k ∷ []) (accepting r n ∷ core.Held n ∷ []) (length h) held by.heard
    (ap (λ (acts : List Deed). run (settled h k (length h)) (acts ++ tells k ∷ [])) by.asks
    ∙ rest
    ∙ ap (λ (w : State). (w, accepting r n ∷ core.Held n ∷ [])) (world_is d' more (length h) k (length h) (length h) g.list (ap (λ (l : List Entry). length l) published) refl))

-- what is known where the desk and the seat agree, and nothing was put
record Refuses (d d' : DeskState) (s : SeatState) : Type 0 where
  pub formed : IsWellFormed d.list
  pub heard : Heard d.list s.session (length s.glass.known)
  pub serial : serial_in s ≡ length (entries_of s.session d.list)
  pub list : d'.list ≡ d.list
  pub published : d'.published ≡ d'.list

refuses : (d d' : DeskState) (s s' : SeatState) → IsWellFormed d'.list → Continues s s' → serial_in s' < COUNT_END → Stays d d' s s' → Agrees d' s' → Refuses d d' s
refuses d d' s s' formed goes few stays a =
    let same : serial_in s' ≡ serial_in s = ap (λ (j : ℕ). length (own_of j s'.own)) goes.session ∙ ap (λ (l : List (ℕ × Entry)). length (own_of s.session l)) stays.own in
    let stood : stand s.session d.list ≡ serial_in s =
    ap (λ (j : ℕ). stand j d.list) (sym goes.session) ∙ (ap (stand s'.session) (sym stays.list) ∙ (a.stands ∙ same)) in
    let p = present_at s.session (serial_in s) d.list stood (omega (arith, same, few)) in
    record {
      formed = subst IsWellFormed stays.list formed;
      heard = record {
        present = p.0;
        covers = omega (arith, BeginsWith-length s'.glass.known s.glass.known goes.known, ap (λ (l : List Entry). length l) a.known, ap (λ (l : List Entry). length l) stays.list);
      };
      serial = sym p.1;
      list = stays.list;
      published = a.published;
    }

-- a run that ends where the session is refused
refused_runs : (d d' : DeskState) (s : SeatState) (r : Request) (e : Entry) (x : ℕ → CoreReply) (m : ℕ) → IsHeld d.published d.list → Refuses d d' s → asked d s r ≡ asking s.session e ∷ []
    → step (settled d.list s.session (length d.list)) (asking s.session e) ≡ shown s.session (x (length d.list)) (settled d.list s.session (length d.list)) → m ≡ length d'.list
    → Runs d d' s r [] (x m ∷ []) m
refused_runs d d' s r e x m held f one_act is at =
    let k : ℕ = s.session in
    let h : List Entry = d.list in
    let w : State = settled h k (length h) in
    let long : m ≡ length h = at ∙ ap (λ (l : List Entry). length l) f.list in
    let one : step w (asking k e) ≡ (w, x m) = is ∙ (ap (λ (l : Seen). (state h (length h) l, x (length h))) (seen_again k (length h) (length h)) ∙ ap (λ (n : ℕ). (w, x n)) (sym long)) in
    runs d d' s r [] (x m ∷ []) m held f.heard
    (ap (λ (acts : List Deed). run w (acts ++ [])) one_act
    ∙ run_more w w w (x m) (asking k e) [] [] one refl
    ∙ ap (λ (v : State). (v, x m ∷ [])) (world_is d' h (length h) k (length h) m f.list (ap (λ (l : List Entry). length l) (f.published ∙ f.list)) long))

-- a session that has read all goes on to be heard
heard_whole : (d d' : DeskState) (s : SeatState) → Refuses d d' s → Heard d.list s.session (length d.list)
heard_whole d d' s f = record { present = f.heard.present; covers = omega arith }

dup_runs : (d d' : DeskState) (s : SeatState) (name : Text) (conj : List Pred) (m id : ℕ) → IsHeld d.published d.list → Refuses d d' s → m ≡ length d'.list → HasNameAt (live d'.list) id name
    → Runs d d' s (subscribe name conj) [] (core.Dup m (record { 0 = id }) ∷ []) m
dup_runs d d' s name conj m id held f at there =
    let k : ℕ = s.session in
    let w : State = settled d.list k (length d.list) in
    let row : Row = row_made k (length d.list) name conj in
    let e : Entry = subscribed k (serial_in s) row in
    let found = found_at d.list id name f.formed (subst (λ (l : List Entry). HasNameAt (live l) id name) f.list there) in
    refused_runs d d' s (subscribe name conj) e (λ (n : ℕ). core.Dup n (record { 0 = id })) m held f refl
    (next_asks d.list k (length d.list) e (heard_whole d d' s f) (next_is d.list k e refl refl f.serial)
    ∙ ap (subscribing k e row w) found.named_so
    ∙ ap (λ (i : ℕ). shown k (core.Dup (length d.list) (record { 0 = i })) w) found.id_is) at

no_name_runs : (d d' : DeskState) (s : SeatState) (name : Text) (m : ℕ) → IsHeld d.published d.list → Refuses d d' s → m ≡ length d'.list → is_live_name name (live d'.list) ≡ false
    → Runs d d' s (unsubscribe name) [] (core.NoName m ∷ []) m
no_name_runs d d' s name m held f at free =
    let k : ℕ = s.session in
    let w : State = settled d.list k (length d.list) in
    let e : Entry = unsubscribed k (serial_in s) name in
    refused_runs d d' s (unsubscribe name) e (λ (n : ℕ). core.NoName n) m held f refl
    (next_asks d.list k (length d.list) e (heard_whole d d' s f) (next_is d.list k e refl refl f.serial)
    ∙ ap (unsubscribing k e w) (named_free d.list name (ap (λ (l : List Entry). is_live_name name (live l)) (sym f.list) ∙ free))) at

other_runs : (d d' : DeskState) (s : SeatState) (name : Text) (m id : ℕ) → IsHeld d.published d.list → Refuses d d' s → m ≡ length d'.list → HasNameOfAnotherAt s.session (live d'.list) id name
    → Runs d d' s (unsubscribe name) [] (core.Other m (record { 0 = id }) ∷ []) m
other_runs d d' s name m id held f at other =
    let k : ℕ = s.session in
    let w : State = settled d.list k (length d.list) in
    let e : Entry = unsubscribed k (serial_in s) name in
    let there = subst (λ (l : List Entry). HasNameOfAnotherAt k (live l) id name) f.list other in
    let found = found_at d.list id name f.formed (there.0, there.1, there.2) in
    let same : found.row.1 ≡ there.0 = same_some found.row.1 there.0 (sym found.stands ∙ there.1) in
    let apart : is_of k found.row ≡ false =
    false_from_ne_true (is_of k found.row) (λ t. there.3 (ap (λ (r : Row). r.session.0) (sym same) ∙ eqb-true found.row.1.session.0 k t)) in
    refused_runs d d' s (unsubscribe name) e (λ (n : ℕ). core.Other n (record { 0 = id })) m held f refl
    (next_asks d.list k (length d.list) e (heard_whole d d' s f) (next_is d.list k e refl refl f.serial)
    ∙ ap (unsubscribing k e w) found.named_so
    ∙ cond-false (is_of k found.row) (taken e w) (shown k (core.Other (length d.list) (record { 0 = found.row.0 })) w) apart
    ∙ ap (λ (i : ℕ). shown k (core.Other (length d.list) (record { 0 = i })) w) found.id_is) at

desk_is : (d d' : DeskState) → d'.published ≡ d.list → d'.list ≡ d.list → d'.reshaped ≡ d.steps → d'.steps ≡ d.steps → d'.glass ≡ d.glass → d'.patience ≡ d.patience → d' ≡ freed d
desk_is d d' p l r s g n =
    ap (λ (x : List Entry). record d' { published = x }) p
    ∙ ap (λ (x : List Entry). record d' { published = d.list; list = x }) l
    ∙ ap (λ (x : List Step). record d' { published = d.list; list = d.list; reshaped = x }) r
    ∙ ap (λ (x : List Step). record d' { published = d.list; list = d.list; reshaped = d.steps; steps = x }) s
    ∙ ap (λ (x : GlassState). record d' { published = d.list; list = d.list; reshaped = d.steps; steps = d.steps; glass = x }) g
    ∙ ap (λ (x : ℕ). record { published = d.list; list = d.list; reshaped = d.steps; steps = d.steps; glass = d.glass; patience = x }) n

split_entry : (d : DeskState) (a b : ℕ) (e : Entry) (s s' : SeatState) → d.published ≡ d.list → session_of e ≡ s.session → serial_of e ≡ serial_in s → IsAhead d s' a b → StandsByRecord d s
    → run (world d s.session a) (asking s.session e ∷ []) ≡ (world d s.session a, core.Split a b ∷ [])
split_entry d a b e s s' published of is ahead stands =
    let j : ℕ = s.session in
    let w : State = settled d.list j a in
    let long : length d.published ≡ length d.list = ap (λ (l : List Entry). length l) published in
    let same : w ≡ world d j a = world_is d d.list (length d.list) j a a refl long refl in
    let count : serial_of e ≡ length (entries_of j d.list) = is ∙ (sym stands.serial ∙ ap (λ (c : Bool). cond c COUNT_END (length (entries_of j d.list))) stands.present) in
    ap (λ (v : State). run v (asking j e ∷ [])) (sym same)
    ∙ run_more w w w (core.Split a (length d.list)) (asking j e) [] [] (split_asks d.list j a e stands.present of count (omega (arith, ahead.written, long, ahead.more))) refl
    ∙ ap (λ (v : State). (v, core.Split a (length d.list) ∷ [])) same
    ∙ ap (λ (n : ℕ). (world d j a, core.Split a n ∷ [])) (sym (ahead.written ∙ long))

split_runs : (d d' : DeskState) (s s' : SeatState) (ask : Ask) (a b : ℕ) → d'.published ≡ d'.list → IsAhead d' s' a b → StandsByRecord d' s
    → run (world d' s.session a) (asked d s (request_of ask)) ≡ (world d' s.session a, core.Split a b ∷ [])
split_runs d d' s s' (Subscribe name conj) a b published ahead stands =
    split_entry d' a b (subscribed s.session (serial_in s) (row_made s.session (length d.list) name conj)) s s' published refl refl ahead stands
split_runs d d' s s' (Unsubscribe name) a b published ahead stands = split_entry d' a b (unsubscribed s.session (serial_in s) name) s s' published refl refl ahead stands
split_runs d d' s s' Leave a b published ahead stands = split_entry d' a b (left s.session (serial_in s)) s s' published refl refl ahead stands

refusal_runs : (d d' : DeskState) (s s' : SeatState) (ask : Ask) (answer : Answer) → IsHeld d.published d.list → Refuses d d' s → IsRefusal d'.list s.session (request_of ask) answer
    → IsRunOfCore d d' s s' (request_of ask) answer
refusal_runs d d' s s' (Subscribe name conj) (Dup m id) held f why = dup_runs d d' s name conj m id held f why.0 why.1
refusal_runs d d' s s' (Unsubscribe name) (NoName m) held f why = no_name_runs d d' s name m held f why.0 why.1
refusal_runs d d' s s' (Unsubscribe name) (Other m id) held f why = other_runs d d' s name m id held f why.0 why.1
refusal_runs d d' s s' _ _ held f why = absurd why

-- what a change makes of the desk and the seat is what a run of the core makes of them
pub is_run_of_core : (d d' : DeskState) (s s' : SeatState) (ask : Ask) (answer : Answer) → IsHeld d.published d.list → IsWellFormed d'.list → LeavesSteps d d' answer → Earns d d' answer → Continues s s'
    → (top s'.own ≤ length d'.list → serial_in s' < COUNT_END) → Changed d d' s s' (request_of ask) answer → IsRunOfCore d d' s s' (request_of ask) answer
is_run_of_core d d' s s' ask (Done n) held formed kept earns goes few (g, published, known) = done_runs d d' s s' (request_of ask) n held formed g published
is_run_of_core d d' s s' ask (Held n) held formed kept earns goes few (g, published, known) = held_runs d d' s s' (request_of ask) n held formed g published
is_run_of_core d d' s s' ask (Split a b) held formed kept earns goes few (stays, published, rift) =
    (desk_is d d' (published ∙ stays.list) stays.list (kept.reshaped (λ is. absurd cc)) kept.steps kept.glass earns, λ ahead stands. split_runs d d' s s' ask a b published ahead stands)
is_run_of_core d d' s s' ask NoMemory held formed kept earns goes few (stays, may) = may
is_run_of_core d d' s s' ask (Dup m id) held formed kept earns goes few (stays, a, why) =
    refusal_runs d d' s s' ask (Dup m id) held (refuses d d' s s' formed goes (few a.within) stays a) why
is_run_of_core d d' s s' ask (NoName m) held formed kept earns goes few (stays, a, why) =
    refusal_runs d d' s s' ask (NoName m) held (refuses d d' s s' formed goes (few a.within) stays a) why
is_run_of_core d d' s s' ask (Other m id) held formed kept earns goes few (stays, a, why) =
    refusal_runs d d' s s' ask (Other m id) held (refuses d d' s s' formed goes (few a.within) stays a) why
