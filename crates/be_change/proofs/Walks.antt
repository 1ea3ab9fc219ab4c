-- Legal walks: their parts, and the numbers that they carry.
use Rattle.std.proofs.Common.{◌≡◌, ℕ, ◌-◌, ◌<◌, ◌≤◌, List, [], ◌∷◌, ◌++◌, length, ap, subst, arith}
use Rattle.std.proofs.lemmas.Option.{slice_get_within}
use Rattle.be_model.specs.Schemas.{Attributes}
use Rattle.be_change.specs.History.{Entry}
use Rattle.be_change.specs.Requests.{Request, Reply, Exchange, refused, subscribe, unsubscribe, publish, costing, listing, sending, fetching, dumping, tailing, quit, refusal, ok, held, bye, dup, none, other, hit, cost, listed, sent, notes, dumped, tailed, split, no_memory, shut}
use Rattle.be_change.specs.Walk.{Walk, IsReadAt, IsAcceptedAt, Answers, IsLegal}
use Rattle.be_change.specs.Laws.{NumbersRise}

-- exchanges in two parts
pub legal-join : (s : Attributes) (k : ℕ) (h : List Entry) (ps qs : List Exchange) (w w1 w2 : Walk) → IsLegal s k h ps w w1 → IsLegal s k h qs w1 w2 → IsLegal s k h (ps ++ qs) w w2
legal-join s k h [] qs w w1 w2 a b = subst (λ (x : Walk). IsLegal s k h qs x w2) a b
legal-join s k h (p ∷ ps) qs w w1 w2 a b = (a.0, a.1, a.2, legal-join s k h ps qs a.1 w1 w2 a.3 b)

accepted_within : (k : ℕ) (h : List Entry) (w : Walk) (r : Request) (n : ℕ) → IsAcceptedAt k h w r n → n ≤ length h
accepted_within k h w r n a = let inside : n - 1 < length h = slice_get_within h (n - 1) a.entry a.stands in omega (arith, a.later)

rise_told : (k : ℕ) (h : List Entry) (w w' : Walk) (r : Request) (n : ℕ) → IsAcceptedAt k h w r n → w'.seen ≡ n → w'.own ≡ n → NumbersRise h w w'
rise_told k h w w' r n a seen own_is =
    let within : n ≤ length h = accepted_within k h w r n a in
    record { seen = omega (arith, a.later); own = omega (arith, a.later_own); seen_within = λ i. omega arith; own_within = λ i. omega arith }

rise_held : (k : ℕ) (h : List Entry) (w w' : Walk) (r : Request) (n : ℕ) → IsAcceptedAt k h w r n → w'.seen ≡ w.seen → w'.own ≡ n → NumbersRise h w w'
rise_held k h w w' r n a seen own_is =
    let within : n ≤ length h = accepted_within k h w r n a in
    record { seen = omega arith; own = omega (arith, a.later_own); seen_within = λ i. omega arith; own_within = λ i. omega arith }

rise_seen : (h : List Entry) (w w' : Walk) (n : ℕ) → w.seen ≤ n → n ≤ length h → w'.seen ≡ n → w'.own ≡ w.own → NumbersRise h w w'
rise_seen h w w' n covers within seen own_is = record { seen = omega arith; own = omega arith; seen_within = λ i. omega arith; own_within = λ i. omega arith }

rise_read : (h : List Entry) (w w' : Walk) (n : ℕ) → IsReadAt h w n → w'.seen ≡ n → w'.own ≡ w.own → NumbersRise h w w'
rise_read h w w' n a seen own_is = rise_seen h w w' n a.covers a.within seen own_is

rise_same : (h : List Entry) (w w' : Walk) → w'.seen ≡ w.seen → w'.own ≡ w.own → NumbersRise h w w'
rise_same h w w' seen own_is = record { seen = omega arith; own = omega arith; seen_within = λ i. omega arith; own_within = λ i. omega arith }

seen_is : (w v : Walk) → w ≡ v → w.seen ≡ v.seen
seen_is w v e = ap (λ (x : Walk). x.seen) e

own_is : (w v : Walk) → w ≡ v → w.own ≡ v.own
own_is w v e = ap (λ (x : Walk). x.own) e

-- what a session was told, and where its last change stands, never falls with a reply, and stays within the list
pub answers_rise : (s : Attributes) (k : ℕ) (h : List Entry) (r : Request) (t : Reply) (w w' : Walk) → Answers s k h r t w w' → NumbersRise h w w'
answers_rise s k h (refused r) (refusal t) w w' a = rise_same h w w' (seen_is _ _ a.1) (own_is _ _ a.1)
answers_rise s k h (subscribe name conj) (ok n) w w' a = rise_told k h w w' _ n a.0 (seen_is _ _ a.1) (own_is _ _ a.1)
answers_rise s k h (subscribe name conj) (held n) w w' a = rise_held k h w w' _ n a.0 (seen_is _ _ a.1) (own_is _ _ a.1)
answers_rise s k h (subscribe name conj) (dup m id) w w' a = rise_seen h w w' m a.0.covers a.0.within (seen_is _ _ a.2) (own_is _ _ a.2)
answers_rise s k h (subscribe name conj) no_memory w w' a = rise_same h w w' (seen_is _ _ a) (own_is _ _ a)
answers_rise s k h (subscribe name conj) (split i j) w w' a = rise_same h w w' (seen_is _ _ a.1) (own_is _ _ a.1)
answers_rise s k h (unsubscribe name) (ok n) w w' a = rise_told k h w w' _ n a.0 (seen_is _ _ a.1) (own_is _ _ a.1)
answers_rise s k h (unsubscribe name) (held n) w w' a = rise_held k h w w' _ n a.0 (seen_is _ _ a.1) (own_is _ _ a.1)
answers_rise s k h (unsubscribe name) (none m) w w' a = rise_seen h w w' m a.0.covers a.0.within (seen_is _ _ a.2) (own_is _ _ a.2)
answers_rise s k h (unsubscribe name) (other m id) w w' a = rise_seen h w w' m a.0.covers a.0.within (seen_is _ _ a.2) (own_is _ _ a.2)
answers_rise s k h (unsubscribe name) no_memory w w' a = rise_same h w w' (seen_is _ _ a) (own_is _ _ a)
answers_rise s k h (unsubscribe name) (split i j) w w' a = rise_same h w w' (seen_is _ _ a.1) (own_is _ _ a.1)
answers_rise s k h (publish e) (hit n names) w w' a = rise_read h w w' n a.0 (seen_is _ _ a.2) (own_is _ _ a.2)
answers_rise s k h (publish e) no_memory w w' a = rise_same h w w' (seen_is _ _ a) (own_is _ _ a)
answers_rise s k h (publish e) shut w w' a = rise_same h w w' (seen_is _ _ a) (own_is _ _ a)
answers_rise s k h (costing e) (cost n c) w w' a = rise_read h w w' n a.0 (seen_is _ _ a.2) (own_is _ _ a.2)
answers_rise s k h (costing e) no_memory w w' a = rise_same h w w' (seen_is _ _ a) (own_is _ _ a)
answers_rise s k h (costing e) shut w w' a = rise_same h w w' (seen_is _ _ a) (own_is _ _ a)
answers_rise s k h listing (listed n names) w w' a = rise_read h w w' n a.0 (seen_is _ _ a.2) (own_is _ _ a.2)
answers_rise s k h listing no_memory w w' a = rise_same h w w' (seen_is _ _ a) (own_is _ _ a)
answers_rise s k h listing shut w w' a = rise_same h w w' (seen_is _ _ a) (own_is _ _ a)
answers_rise s k h (sending e) (sent n put dropped) w w' a = rise_read h w w' n a.0 (seen_is _ _ a.2) (own_is _ _ a.2)
answers_rise s k h (sending e) no_memory w w' a = rise_same h w w' (seen_is _ _ a) (own_is _ _ a)
answers_rise s k h (sending e) shut w w' a = rise_same h w w' (seen_is _ _ a) (own_is _ _ a)
answers_rise s k h (fetching max) (notes letters) w w' a = rise_same h w w' (seen_is _ _ a.2) (own_is _ _ a.2)
answers_rise s k h dumping (dumped n rows) w w' a = rise_read h w w' n a.0 (seen_is _ _ a.2) (own_is _ _ a.2)
answers_rise s k h dumping no_memory w w' a = rise_same h w w' (seen_is _ _ a) (own_is _ _ a)
answers_rise s k h dumping shut w w' a = rise_same h w w' (seen_is _ _ a) (own_is _ _ a)
answers_rise s k h (tailing place max) (tailed n start entries) w w' a = rise_read h w w' n a.0 (seen_is _ _ a.3) (own_is _ _ a.3)
answers_rise s k h (tailing place max) no_memory w w' a = rise_same h w w' (seen_is _ _ a) (own_is _ _ a)
answers_rise s k h (tailing place max) shut w w' a = rise_same h w w' (seen_is _ _ a) (own_is _ _ a)
answers_rise s k h quit (bye n) w w' a = rise_same h w w' (seen_is _ _ a.1) (own_is _ _ a.1)
answers_rise s k h quit (held n) w w' a = rise_held k h w w' _ n a.0 (seen_is _ _ a.1) (own_is _ _ a.1)
answers_rise s k h quit no_memory w w' a = rise_same h w w' (seen_is _ _ a) (own_is _ _ a)
answers_rise s k h quit (split i j) w w' a = rise_same h w w' (seen_is _ _ a.1) (own_is _ _ a.1)
answers_rise s k h _ _ w w' a = absurd a

rise_along : (h : List Entry) (u v w : Walk) → NumbersRise h u v → NumbersRise h v w → NumbersRise h u w
rise_along h u v w a b = record {
  seen = omega (arith, a.seen, b.seen);
  own = omega (arith, a.own, b.own);
  seen_within = λ i. b.seen_within (a.seen_within i);
  own_within = λ i. b.own_within (a.own_within i);
}

pub legal_rise : (s : Attributes) (k : ℕ) (h : List Entry) (ps : List Exchange) (w w' : Walk) → IsLegal s k h ps w w' → NumbersRise h w w'
legal_rise s k h [] w w' l = rise_same h w w' (seen_is _ _ l) (own_is _ _ l)
legal_rise s k h (p ∷ ps) w w' l = rise_along h w l.1 w' (answers_rise s k h p.0 p.1 w l.1 l.2) (legal_rise s k h ps l.1 w' l.3)
