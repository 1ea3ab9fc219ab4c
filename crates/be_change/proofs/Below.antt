-- What is legal to a session that was told of some entries is legal to one that was told of fewer.
use Rattle.std.proofs.Common.{◌≡◌, inl, inr, ℕ, ◌+◌, ◌-◌, ◌≤◌, List, [], ◌∷◌, Some, refl, sym, ap, ◌∙◌, subst, arith}
use Rattle.be_model.specs.Schemas.{Attributes}
use Rattle.be_change.specs.History.{Entry, left}
use Rattle.be_change.specs.Requests.{Request, Reply, Exchange, refused, subscribe, unsubscribe, publish, costing, listing, sending, fetching, dumping, tailing, quit, refusal, ok, held, bye, dup, none, other, hit, cost, listed, sent, notes, dumped, tailed, split, no_memory, shut}
use Rattle.be_change.specs.Walk.{Walk, beginning_at, having_seen, having_changed, having_left, having_ended, IsChangeOf, IsReadAt, IsRefusedAt, IsAcceptedAt, IsSplit, Answers, IsLegal, HasOnly, IsLegalSession}

-- the first walk stands where the second does, but was told of no more
pub record IsToldLess (v w : Walk) : Type 0 where
  pub seen : v.seen ≤ w.seen
  pub own : v.own ≡ w.own
  pub serial : v.serial ≡ w.serial
  pub ended : v.ended ≡ w.ended

less_seen : (n : ℕ) (v w : Walk) → IsToldLess v w → IsToldLess (having_seen n v) (having_seen n w)
less_seen n v w t = record { seen = omega arith; own = t.own; serial = t.serial; ended = t.ended }

less_changed : (n : ℕ) (v w : Walk) → IsToldLess v w → IsToldLess (having_changed n v) (having_changed n w)
less_changed n v w t = record { seen = t.seen; own = refl; serial = ap (λ (i : ℕ). i + 1) t.serial; ended = t.ended }

less_left : (v w : Walk) → IsToldLess v w → IsToldLess (having_left v) (having_left w)
less_left v w t = record { seen = t.seen; own = t.own; serial = ap (λ (i : ℕ). i + 1) t.serial; ended = refl }

less_ended : (v w : Walk) → IsToldLess v w → IsToldLess (having_ended v) (having_ended w)
less_ended v w t = record { seen = t.seen; own = t.own; serial = t.serial; ended = refl }

-- the reply is legal to v, and leads to what is told less than w'
abbrev FollowsBelow : Attributes → ℕ → List Entry → Request → Reply → Walk → Walk → Type 0
FollowsBelow s k h r t v w' = (v' : Walk) × Answers s k h r t v v' × IsToldLess v' w'

less_than : (v w w' : Walk) → w' ≡ w → IsToldLess v w → IsToldLess v w'
less_than v w w' e t = subst (IsToldLess v) (sym e) t

read_below : (h : List Entry) (v w : Walk) (n : ℕ) → IsToldLess v w → IsReadAt h w n → IsReadAt h v n
read_below h v w n t a = record { covers = omega (arith, t.seen, a.covers); within = a.within }

refused_below : (h : List Entry) (v w : Walk) (m : ℕ) → IsToldLess v w → IsRefusedAt h w m → IsRefusedAt h v m
refused_below h v w m t a = record { covers = omega (arith, t.seen, a.covers); covers_own = omega (arith, t.own, a.covers_own); within = a.within }

accepted_below : (k : ℕ) (h : List Entry) (v w : Walk) (r : Request) (n : ℕ) → IsToldLess v w → IsAcceptedAt k h w r n → IsAcceptedAt k h v r n
accepted_below k h v w r n t a = record {
  later = omega (arith, t.seen, a.later);
  later_own = omega (arith, t.own, a.later_own);
  entry = a.entry;
  stands = a.stands;
  is_it = subst (λ (i : ℕ). IsChangeOf k i (n - 1) r a.entry) (sym t.serial) a.is_it;
}

split_below : (v w : Walk) (a b : ℕ) → IsToldLess v w → IsSplit w a b → IsSplit v a b
split_below v w a b t (inl i) = inl (omega (arith, t.seen, i.0), i.1)
split_below v w a b t (inr i) = inr (i.0 ∙ sym t.serial, i.1)

pub answers_below : (s : Attributes) (k : ℕ) (h : List Entry) (r : Request) (t : Reply) (v w w' : Walk) → IsToldLess v w → Answers s k h r t w w' → FollowsBelow s k h r t v w'
answers_below s k h (refused r) (refusal t) v w w' l a = (v, (a.0, refl), less_than v w w' a.1 l)
answers_below s k h (subscribe name conj) (ok n) v w w' l a =
    (having_seen n (having_changed n v), (accepted_below k h v w _ n l a.0, refl), less_than _ _ w' a.1 (less_seen n _ _ (less_changed n v w l)))
answers_below s k h (subscribe name conj) (held n) v w w' l a = (having_changed n v, (accepted_below k h v w _ n l a.0, refl), less_than _ _ w' a.1 (less_changed n v w l))
answers_below s k h (subscribe name conj) (dup m id) v w w' l a = (having_seen m v, (refused_below h v w m l a.0, a.1, refl), less_than _ _ w' a.2 (less_seen m v w l))
answers_below s k h (subscribe name conj) no_memory v w w' l a = (v, refl, less_than v w w' a l)
answers_below s k h (subscribe name conj) (split i j) v w w' l a = (having_ended v, (split_below v w i j l a.0, refl), less_than _ _ w' a.1 (less_ended v w l))
answers_below s k h (unsubscribe name) (ok n) v w w' l a =
    (having_seen n (having_changed n v), (accepted_below k h v w _ n l a.0, refl), less_than _ _ w' a.1 (less_seen n _ _ (less_changed n v w l)))
answers_below s k h (unsubscribe name) (held n) v w w' l a = (having_changed n v, (accepted_below k h v w _ n l a.0, refl), less_than _ _ w' a.1 (less_changed n v w l))
answers_below s k h (unsubscribe name) (none m) v w w' l a = (having_seen m v, (refused_below h v w m l a.0, a.1, refl), less_than _ _ w' a.2 (less_seen m v w l))
answers_below s k h (unsubscribe name) (other m id) v w w' l a = (having_seen m v, (refused_below h v w m l a.0, a.1, refl), less_than _ _ w' a.2 (less_seen m v w l))
answers_below s k h (unsubscribe name) no_memory v w w' l a = (v, refl, less_than v w w' a l)
answers_below s k h (unsubscribe name) (split i j) v w w' l a = (having_ended v, (split_below v w i j l a.0, refl), less_than _ _ w' a.1 (less_ended v w l))
answers_below s k h (publish e) (hit n names) v w w' l a = (having_seen n v, (read_below h v w n l a.0, a.1, refl), less_than _ _ w' a.2 (less_seen n v w l))
answers_below s k h (publish e) no_memory v w w' l a = (v, refl, less_than v w w' a l)
answers_below s k h (publish e) shut v w w' l a = (v, refl, less_than v w w' a l)
answers_below s k h (costing e) (cost n c) v w w' l a = (having_seen n v, (read_below h v w n l a.0, a.1, refl), less_than _ _ w' a.2 (less_seen n v w l))
answers_below s k h (costing e) no_memory v w w' l a = (v, refl, less_than v w w' a l)
answers_below s k h (costing e) shut v w w' l a = (v, refl, less_than v w w' a l)
answers_below s k h listing (listed n names) v w w' l a = (having_seen n v, (read_below h v w n l a.0, a.1, refl), less_than _ _ w' a.2 (less_seen n v w l))
answers_below s k h listing no_memory v w w' l a = (v, refl, less_than v w w' a l)
answers_below s k h listing shut v w w' l a = (v, refl, less_than v w w' a l)
answers_below s k h (sending e) (sent n put dropped) v w w' l a = (having_seen n v, (read_below h v w n l a.0, a.1, refl), less_than _ _ w' a.2 (less_seen n v w l))
answers_below s k h (sending e) no_memory v w w' l a = (v, refl, less_than v w w' a l)
answers_below s k h (sending e) shut v w w' l a = (v, refl, less_than v w w' a l)
answers_below s k h (fetching max) (notes letters) v w w' l a = (v, (a.0, a.1, refl), less_than v w w' a.2 l)
answers_below s k h dumping (dumped n rows) v w w' l a = (having_seen n v, (read_below h v w n l a.0, a.1, refl), less_than _ _ w' a.2 (less_seen n v w l))
answers_below s k h dumping no_memory v w w' l a = (v, refl, less_than v w w' a l)
answers_below s k h dumping shut v w w' l a = (v, refl, less_than v w w' a l)
answers_below s k h (tailing place max) (tailed n start entries) v w w' l a =
    (having_seen n v, (read_below h v w n l a.0, a.1, a.2, refl), less_than _ _ w' a.3 (less_seen n v w l))
answers_below s k h (tailing place max) no_memory v w w' l a = (v, refl, less_than v w w' a l)
answers_below s k h (tailing place max) shut v w w' l a = (v, refl, less_than v w w' a l)
answers_below s k h quit (bye n) v w w' l a = (having_left v, (accepted_below k h v w _ n l a.0, refl), less_than _ _ w' a.1 (less_left v w l))
answers_below s k h quit (held n) v w w' l a =
    (having_ended (having_changed n v), (accepted_below k h v w _ n l a.0, refl), less_than _ _ w' a.1 (less_ended _ _ (less_changed n v w l)))
answers_below s k h quit no_memory v w w' l a = (having_ended v, refl, less_than _ _ w' a (less_ended v w l))
answers_below s k h quit (split i j) v w w' l a = (having_ended v, (split_below v w i j l a.0, refl), less_than _ _ w' a.1 (less_ended v w l))
answers_below s k h _ _ v w w' l a = absurd a

pub legal_below : (s : Attributes) (k : ℕ) (h : List Entry) (ps : List Exchange) (v w w' : Walk) → IsToldLess v w → IsLegal s k h ps w w' → (v' : Walk) × IsLegal s k h ps v v' × IsToldLess v' w'
legal_below s k h [] v w w' l a = (v, refl, less_than v w w' a l)
legal_below s k h (p ∷ ps) v w w' l a =
    let one = answers_below s k h p.0 p.1 v w a.1 l a.2 in
    let rest = legal_below s k h ps one.0 a.1 w' one.2 a.3 in
    (rest.0, (l.ended ∙ a.0, one.0, one.1, rest.1), rest.2)

only_below : (k : ℕ) (h : List Entry) (ps : List Exchange) (v w : Walk) → IsToldLess v w → HasOnly k h ps w → HasOnly k h ps v
only_below k h ps v w l (inl a) = inl a
only_below k h ps v w l (inr a) = inr (
  a.0,
  record {
    present = l.ended ∙ a.1.present;
    stands = a.1.stands ∙ ap (λ (i : ℕ). Some (left k i)) (sym l.serial);
    later = omega (arith, l.seen, a.1.later);
    later_own = omega (arith, l.own, a.1.later_own);
  },
  a.2,
)

-- a session that is legal though it was told of z entries before it is legal where it was told of fewer
pub session_below : (s : Attributes) (k y z : ℕ) (h : List Entry) (ps : List Exchange) → y ≤ z → IsLegalSession s k z h ps → IsLegalSession s k y h ps
session_below s k y z h ps fewer l =
    let less : IsToldLess (beginning_at y) (beginning_at z) = record { seen = fewer; own = refl; serial = refl; ended = refl } in
    let walked = legal_below s k h ps (beginning_at y) (beginning_at z) l.end less l.legal in
    record { end = walked.0; legal = walked.1; only = only_below k h ps walked.0 l.end walked.2 l.only }
