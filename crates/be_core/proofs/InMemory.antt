-- The core's memory, step by step.
use Rattle.std.proofs.Common.{◌≡◌, ℕ, zero, suc, ◌+◌, ◌==◌, ◌<◌, Bool, true, false, cond, List, [], ◌∷◌, ◌++◌, length, take, Some, None, get_or, refl, sym, ap, ◌∙◌, subst, arith, zero-add}
use Rattle.std.specs.Prelude.{filter}
use Rattle.std.specs.List.{slice_get, list_any, position}
use Rattle.std.specs.Arc.{arc_value}
use Rattle.std.specs.declared.sync.Arc.{Arc}
use Rattle.std.proofs.Math.ListN.{set}
use Rattle.std.proofs.lemmas.Bool.{cond-true, cond-false, or_parts}
use Rattle.std.proofs.lemmas.List.{take_more, length-take-le, map-append}
use Rattle.std.proofs.lemmas.List.Quantifiers.{position-Some}
use Rattle.std.proofs.lemmas.Option.{slice_get_within, get_or_from_slice_get}
use Rattle.be_base.specs.declared.names.SessionNo.{SessionNo}
use Rattle.be_model.specs.declared.changes.Row.{Row}
use Rattle.be_model.proofs.Lists.{position-none}
use Rattle.be_change.specs.History.{Entry, ByIds, live, after_entry}
use Rattle.be_change.proofs.Grows.{live-append}
use Rattle.be_change.specs.Entries.{HasIdAt, HaveIdsFrom, IdsArePlaces}
use Rattle.be_core.specs.declared.acts.Act.{Act}
use Rattle.be_core.specs.declared.acts.CoreReply.{CoreReply}
use Rattle.be_core.specs.Acts.{Deed, deed_of, deeds_of}
use Rattle.be_core.specs.World.{Seen, having_seen, State, step, run}
use Rattle.be_core.specs.Memory.{live_in}
use Rattle.be_core.proofs.Runs.{run-snoc}

map_if : {Z : Type 0} (b : Bool) (x : ℕ × Arc Row Z) (xs : List (ℕ × Arc Row Z)) → live_in (cond b (x ∷ xs) xs) ≡ cond b ((x.0, arc_value x.1) ∷ live_in xs) (live_in xs)
map_if true x xs = refl
map_if false x xs = refl

-- rows that are kept are those of the rows
pub filter_live : {Z : Type 0} (p : ℕ × Row → Bool) (xs : List (ℕ × Arc Row Z)) → live_in (filter (λ x. p (x.0, arc_value x.1)) xs) ≡ filter p (live_in xs)
filter_live p [] = refl
filter_live p (x ∷ xs) =
    map_if (p (x.0, arc_value x.1)) x (filter (λ y. p (y.0, arc_value y.1)) xs)
    ∙ ap (λ (l : ByIds). cond (p (x.0, arc_value x.1)) ((x.0, arc_value x.1) ∷ l) l) (filter_live p xs)

-- what is live after one more change
pub live_more : (h : List Entry) (i : ℕ) (e : Entry) → slice_get h i ≡ Some e → live (take (i + 1) h) ≡ after_entry (live (take i h)) i e
live_more h i e at =
    let inside : i < length h = slice_get_within h i e at in
    ap live (take_more h i e inside ∙ ap (λ (x : Entry). take i h ++ x ∷ []) (get_or_from_slice_get h i e e at))
    ∙ (live-append (take i h) e ∙ ap (λ (n : ℕ). after_entry (live (take i h)) n e) (length-take-le i h (omega arith)))

set_first : (k n : ℕ) (rs : Seen) (i : ℕ) (d : SessionNo × ℕ) → i < length rs → ((get_or rs i d).0.0 == k) ≡ true → ((j : ℕ) → j < i → ((get_or rs j d).0.0 == k) ≡ false)
    → set rs i ((get_or rs i d).0, n) ≡ having_seen k n rs
set_first k n [] i d inside at before = absurd (omega arith)
set_first k n (x ∷ xs) zero d inside at before = sym (cond-true (x.0.0 == k) ((x.0, n) ∷ xs) (x ∷ having_seen k n xs) at)
set_first k n (x ∷ xs) (suc i) d inside at before =
    ap (λ (l : Seen). x ∷ l) (set_first k n xs i d (omega arith) at (λ j less. before (suc j) (omega arith)))
    ∙ sym (cond-false (x.0.0 == k) ((x.0, n) ∷ xs) (x ∷ having_seen k n xs) (before zero (omega arith)))

-- what is seen is written where the session stands
pub seen_set : (k n : ℕ) (rs : Seen) (i : ℕ) (r : SessionNo × ℕ) → position (λ x. x.0.0 == k) rs ≡ Some i → r ≡ get_or rs i r → set rs i (r.0, n) ≡ having_seen k n rs
seen_set k n rs i r at is =
    let found = position-Some (λ (x : SessionNo × ℕ). x.0.0 == k) rs i r at in
    ap (λ (x : SessionNo × ℕ). set rs i (x.0, n)) is ∙ set_first k n rs i r found.0 found.1 found.2

-- or last, where it doesn't stand yet
pub seen_push : (k n : ℕ) (rs : Seen) → list_any (λ x. x.0.0 == k) rs ≡ false → having_seen k n rs ≡ rs ++ (record { 0 = k }, n) ∷ []
seen_push k n [] e = refl
seen_push k n (x ∷ xs) e =
    let both = or_parts (x.0.0 == k) (list_any (λ (y : SessionNo × ℕ). y.0.0 == k) xs) e in
    cond-false (x.0.0 == k) ((x.0, n) ∷ xs) (x ∷ having_seen k n xs) both.0 ∙ ap (λ (l : Seen). x ∷ l) (seen_push k n xs both.1)

pub seen_new : (k n : ℕ) (rs : Seen) → position (λ x. x.0.0 == k) rs ≡ None → having_seen k n rs ≡ rs ++ (record { 0 = k }, n) ∷ []
seen_new k n rs e = seen_push k n rs ((position-none (λ (x : SessionNo × ℕ). x.0.0 == k) rs).0 e)

id_from : (h : List Entry) (i n : ℕ) (e : Entry) → HaveIdsFrom n h → slice_get h i ≡ Some e → HasIdAt (n + i) e
id_from [] i n e ids at = absurd cc
id_from (x ∷ xs) zero n e ids at = let same : x ≡ e = cc in subst (λ (y : Entry). HasIdAt (n + 0) y) same (subst (λ (m : ℕ). HasIdAt m x) (omega arith) ids.0)
id_from (x ∷ xs) (suc i) n e ids at = subst (λ (m : ℕ). HasIdAt m e) (omega arith) (id_from xs i (n + 1) e ids.1 at)

take_next : (h : List Entry) (i : ℕ) (e : Entry) → slice_get h i ≡ Some e → take (i + 1) h ≡ take i h ++ e ∷ []
take_next h i e at = take_more h i e (slice_get_within h i e at) ∙ ap (λ (x : Entry). take i h ++ x ∷ []) (get_or_from_slice_get h i e e at)

-- the next change of a list may be put behind those before it
pub id_next : (h seen : List Entry) (i : ℕ) (e : Entry) → IdsArePlaces h → slice_get h i ≡ Some e → seen ≡ take i h → HasIdAt (length seen) e
id_next h seen i e ids at is =
    let inside : i < length h = slice_get_within h i e at in
    subst (λ (m : ℕ). HasIdAt m e) (sym (ap (λ (l : List Entry). length l) is ∙ (length-take-le i h (omega arith) ∙ sym (zero-add i)))) (id_from h i 0 e ids at)

pub copied_next : (h seen more : List Entry) (i : ℕ) (e : Entry) → slice_get h i ≡ Some e → seen ≡ take i h → more ≡ seen ++ e ∷ [] → more ≡ take (i + 1) h
copied_next h seen more i e at is now = now ∙ (ap (λ (l : List Entry). l ++ e ∷ []) is ∙ sym (take_next h i e at))

-- one more act, done in memory
pub run_next : (s t u : State) (rs ss : List CoreReply) (x : CoreReply) (acts : List Act) (i : ℕ) (a : Act) → i < length acts → a ≡ get_or acts i a → (t, rs) ≡ run s (deeds_of (take i acts))
    → (u, x) ≡ step t (deed_of a) → ss ≡ rs ++ x ∷ [] → (u, ss) ≡ run s (deeds_of (take (i + 1) acts))
run_next s t u rs ss x acts i a inside is e1 e2 e3 =
    let d : Deed = deed_of a in
    let all : take (i + 1) acts ≡ take i acts ++ a ∷ [] = take_more acts i a inside ∙ ap (λ (y : Act). take i acts ++ y ∷ []) (sym is) in
    let deeds : deeds_of (take (i + 1) acts) ≡ deeds_of (take i acts) ++ d ∷ [] = ap deeds_of all ∙ map-append deed_of (take i acts) (a ∷ []) in
    sym (
    ap (λ (l : List Deed). run s l) deeds ∙ (run-snoc s (deeds_of (take i acts)) d
    ∙ (ap (λ (r : State × List CoreReply). ((step r.0 d).0, r.1 ++ (step r.0 d).1 ∷ [])) (sym e1)
    ∙ (ap (λ (q : State × CoreReply). (q.0, rs ++ q.1 ∷ [])) (sym e2) ∙ ap (λ (l : List CoreReply). (u, l)) (sym e3))))
    )
