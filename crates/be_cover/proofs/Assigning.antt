-- Events that give values to the attributes of a schema, in order.
use Rattle.std.proofs.Common.{◌≡◌, ℕ, zero, suc, ◌+◌, ◌-◌, ◌<◌, ◌≤◌, ℤ, Bool, true, false, eqb, ltb, ◌||◌, find, append_assoc, List, [], ◌∷◌, ◌++◌, map, All, Option, Some, None, option_map, refl, sym, ap, subst, ◌∙◌, ⊎_elim, arith}
use Rattle.std.specs.List.{list_any, filter_map, cons_option, range_with_len}
use Rattle.std.proofs.lemmas.Bool.{and_parts, and_from, or_parts, cases_lt, cond-true, cond-false, eq-eqb, ne_eqb, ltb-true, lt-ltb}
use Rattle.std.proofs.lemmas.List.{map-append, append-nil}
use Rattle.std.proofs.lemmas.List.Elements.{All-cons, All-nil}
use Rattle.be_base.specs.declared.names.AttrNo.{AttrNo}
use Rattle.be_model.specs.Domains.{Range, is_within}
use Rattle.be_model.specs.Schemas.{Attributes, numbered, range_of}
use Rattle.be_model.specs.Forms.{AreValues, attrs_rise}
use Rattle.be_model.specs.Lies.{lies_in, item_lies, event_lies}
use Rattle.be_model.specs.Matching.{Assignments, attrs_of, values_of}
use Rattle.be_cover.specs.Covering.{is_single, IsSingleEvent, is_value, assigned}

-- n attributes from a number on
abbrev pub attrs_from : ℕ → ℕ → List AttrNo
attrs_from a n = map numbered (range_with_len a n)

-- the event that gives them values
abbrev pub given_from : (AttrNo → Option ℤ) → ℕ → ℕ → Assignments
given_from f a n = filter_map (λ b. assigned b (f b)) (attrs_from a n)

abbrev pub one_value : Option ℤ → Option (List ℤ)
one_value v = option_map (λ (x : ℤ). x ∷ []) v

-- an event gives nothing to an attribute below its own
none_below : (f : AttrNo → Option ℤ) (a n : ℕ) (b : AttrNo) → b.0 < a → values_of (given_from f a n) b ≡ None
none_below f a zero b h = refl
none_below f a (suc n) b h = by_value (f (numbered a)) (none_below f (a + 1) n b (omega arith))
  where
    by_value : (o : Option ℤ) → values_of (given_from f (a + 1) n) b ≡ None → values_of (cons_option (assigned (numbered a) o) (given_from f (a + 1) n)) b ≡ None
    by_value None k = k
    by_value (Some v) k =
        cond-false (eqb a b.0) (Some (v ∷ [])) (values_of (given_from f (a + 1) n) b) (ne_eqb a b.0 (λ e. omega arith)) ∙ k

-- and its value to each of its own
pub values_given : (f : AttrNo → Option ℤ) (a n : ℕ) (b : AttrNo) → a ≤ b.0 → b.0 < a + n → values_of (given_from f a n) b ≡ one_value (f b)
values_given f a zero b low high = absurd (omega arith)
values_given f a (suc n) b low high =
    ⊎_elim (λ below. later (f (numbered a)) below (values_given f (a + 1) n b (omega arith) (omega arith)))
    (λ above. let e : a ≡ b.0 = omega arith in here (f (numbered a)) e (ap (λ k. f (numbered k)) e) (none_below f (a + 1) n b (omega arith)))
    (cases_lt a b.0)
  where
    rest : Assignments
    rest = given_from f (a + 1) n

    later : (o : Option ℤ) → a < b.0 → values_of rest b ≡ one_value (f b) → values_of (cons_option (assigned (numbered a) o) rest) b ≡ one_value (f b)
    later None h k = k
    later (Some v) h k = cond-false (eqb a b.0) (Some (v ∷ [])) (values_of rest b) (ne_eqb a b.0 (λ e. omega arith)) ∙ k

    here : (o : Option ℤ) → a ≡ b.0 → o ≡ f b → values_of rest b ≡ None → values_of (cons_option (assigned (numbered a) o) rest) b ≡ one_value (f b)
    here None e k none = none ∙ ap one_value k
    here (Some v) e k none = cond-true (eqb a b.0) (Some (v ∷ [])) (values_of rest b) (eq-eqb a b.0 e) ∙ ap one_value k

one_at_a_time : (f : AttrNo → Option ℤ) (a n : ℕ) → is_single (given_from f a n) ≡ true
one_at_a_time f a zero = refl
one_at_a_time f a (suc n) = by_value (f (numbered a)) (one_at_a_time f (a + 1) n)
  where
    by_value : (o : Option ℤ) → is_single (given_from f (a + 1) n) ≡ true → is_single (cons_option (assigned (numbered a) o) (given_from f (a + 1) n)) ≡ true
    by_value None k = k
    by_value (Some v) k = k

rises_behind : (f : AttrNo → Option ℤ) (a n : ℕ) (x : AttrNo) → x.0 < a → attrs_rise (x ∷ attrs_of (given_from f a n)) ≡ true
rises_behind f a zero x h = refl
rises_behind f a (suc n) x h =
    by_value (f (numbered a)) (rises_behind f (a + 1) n x (omega arith)) (rises_behind f (a + 1) n (numbered a) (omega arith))
  where
    by_value : (o : Option ℤ) → attrs_rise (x ∷ attrs_of (given_from f (a + 1) n)) ≡ true → attrs_rise (numbered a ∷ attrs_of (given_from f (a + 1) n)) ≡ true
        → attrs_rise (x ∷ attrs_of (cons_option (assigned (numbered a) o) (given_from f (a + 1) n))) ≡ true
    by_value None k l = k
    by_value (Some v) k l = and_from (ltb x.0 a) (attrs_rise (numbered a ∷ attrs_of (given_from f (a + 1) n))) (lt-ltb x.0 a h) l

rises_on : (f : AttrNo → Option ℤ) (a n : ℕ) → attrs_rise (attrs_of (given_from f a n)) ≡ true
rises_on f a zero = refl
rises_on f a (suc n) = by_value (f (numbered a)) (rises_on f (a + 1) n) (rises_behind f (a + 1) n (numbered a) (omega arith))
  where
    by_value : (o : Option ℤ) → attrs_rise (attrs_of (given_from f (a + 1) n)) ≡ true → attrs_rise (numbered a ∷ attrs_of (given_from f (a + 1) n)) ≡ true
        → attrs_rise (attrs_of (cons_option (assigned (numbered a) o) (given_from f (a + 1) n))) ≡ true
    by_value None k l = k
    by_value (Some v) k l = l

pub one_is_set : (v : ℤ) → AreValues (v ∷ [])
one_is_set v = record { some = omega arith; few = omega arith; rising = refl }

abbrev IsSet : AttrNo × List ℤ → Type 0
IsSet item = AreValues item.1

all_sets : (f : AttrNo → Option ℤ) (a n : ℕ) → All IsSet (given_from f a n)
all_sets f a zero = All-nil IsSet
all_sets f a (suc n) = by_value (f (numbered a)) (all_sets f (a + 1) n)
  where
    by_value : (o : Option ℤ) → All IsSet (given_from f (a + 1) n) → All IsSet (cons_option (assigned (numbered a) o) (given_from f (a + 1) n))
    by_value None k = k
    by_value (Some v) k = All-cons IsSet (numbered a, v ∷ []) (given_from f (a + 1) n) (one_is_set v) k

lies_one : (o : Option Range) (v : ℤ) → is_value o v ≡ true → lies_in o (v ∷ []) ≡ true
lies_one None v h = h
lies_one (Some r) v h = and_from (is_within r v) true h refl

all_lie : (s : Attributes) (f : AttrNo → Option ℤ) (a n : ℕ) → ((b : AttrNo) (v : ℤ) → f b ≡ Some v → is_value (range_of s b) v ≡ true) → event_lies s (given_from f a n) ≡ true
all_lie s f a zero h = refl
all_lie s f a (suc n) h = by_value (f (numbered a)) refl (all_lie s f (a + 1) n h)
  where
    by_value : (o : Option ℤ) → f (numbered a) ≡ o → event_lies s (given_from f (a + 1) n) ≡ true → event_lies s (cons_option (assigned (numbered a) o) (given_from f (a + 1) n)) ≡ true
    by_value None e k = k
    by_value (Some v) e k =
        and_from (item_lies s (numbered a, v ∷ [])) (event_lies s (given_from f (a + 1) n)) (lies_one (range_of s (numbered a)) v (h (numbered a) v e)) k

-- where each value is in the attribute's domain, it is an event of single values
pub is_single_event : (s : Attributes) (f : AttrNo → Option ℤ) (n : ℕ) → ((b : AttrNo) (v : ℤ) → f b ≡ Some v → is_value (range_of s b) v ≡ true) → IsSingleEvent s (given_from f 0 n)
is_single_event s f n h = record {
  form = record { rising = rises_on f 0 n; sets = all_sets f 0 n };
  single = one_at_a_time f 0 n;
  lies = all_lie s f 0 n h;
}

-- the next of the attributes up to the m-th
pub attrs_next : (n m : ℕ) → n < m → attrs_from n (m - n) ≡ numbered n ∷ attrs_from (n + 1) (m - (n + 1))
attrs_next n m h = let e : m - n ≡ suc (m - (n + 1)) = omega arith in ap (attrs_from n) e

-- a test that passes none of the attributes
pub none_passes : (p : AttrNo → Bool) (a n : ℕ) (b : AttrNo) → list_any p (attrs_from a n) ≡ false → a ≤ b.0 → b.0 < a + n → p b ≡ false
none_passes p a zero b h low high = absurd (omega arith)
none_passes p a (suc n) b h low high =
    let k = or_parts (p (numbered a)) (list_any p (attrs_from (a + 1) n)) h in
    ⊎_elim (λ below. none_passes p (a + 1) n b k.1 (omega arith) (omega arith)) (λ above. let e : b.0 ≡ a = omega arith in ap (λ j. p (numbered j)) e ∙ k.0) (cases_lt a b.0)

pub any_later : (p : AttrNo → Bool) (n m : ℕ) → n < m → p (numbered n) ≡ false → list_any p (attrs_from n (m - n)) ≡ list_any p (attrs_from (n + 1) (m - (n + 1)))
any_later p n m h k = ap (list_any p) (attrs_next n m h) ∙ ap (λ b. b || list_any p (attrs_from (n + 1) (m - (n + 1)))) k

pub find_later : (p : AttrNo → Bool) (n m : ℕ) → n < m → p (numbered n) ≡ false → find p (attrs_from n (m - n)) ≡ find p (attrs_from (n + 1) (m - (n + 1)))
find_later p n m h k = ap (find p) (attrs_next n m h) ∙ cond-false (p (numbered n)) (Some (numbered n)) (find p (attrs_from (n + 1) (m - (n + 1)))) k

pub given_here : (f : AttrNo → Option ℤ) (n m : ℕ) (v : ℤ) → n < m → f (numbered n) ≡ Some v → given_from f n (m - n) ≡ (numbered n, v ∷ []) ∷ given_from f (n + 1) (m - (n + 1))
given_here f n m v h k =
    ap (filter_map (λ b. assigned b (f b))) (attrs_next n m h) ∙ ap (λ o. cons_option (assigned (numbered n) o) (given_from f (n + 1) (m - (n + 1)))) k

pub given_later : (f : AttrNo → Option ℤ) (n m : ℕ) → n < m → f (numbered n) ≡ None → given_from f n (m - n) ≡ given_from f (n + 1) (m - (n + 1))
given_later f n m h k =
    ap (filter_map (λ b. assigned b (f b))) (attrs_next n m h) ∙ ap (λ o. cons_option (assigned (numbered n) o) (given_from f (n + 1) (m - (n + 1)))) k

-- attributes that rise up to one below the next number
pub rise_to : (names : List AttrNo) (a b : AttrNo) → a.0 ≤ b.0 → attrs_rise (names ++ a ∷ []) ≡ true → attrs_rise (names ++ b ∷ []) ≡ true
rise_to [] a b h k = refl
rise_to (x ∷ []) a b h k =
    let l = ltb-true x.0 a.0 (and_parts (ltb x.0 a.0) true k).0 in and_from (ltb x.0 b.0) true (lt-ltb x.0 b.0 (omega arith)) refl
rise_to (x ∷ y ∷ ys) a b h k =
    let l = and_parts (ltb x.0 y.0) (attrs_rise (y ∷ (ys ++ a ∷ []))) k in
    and_from (ltb x.0 y.0) (attrs_rise (y ∷ (ys ++ b ∷ []))) l.0 (rise_to (y ∷ ys) a b h l.1)

pub rise_past : (names : List AttrNo) (a b : AttrNo) → a.0 < b.0 → attrs_rise (names ++ a ∷ []) ≡ true → attrs_rise (names ++ (a ∷ b ∷ [])) ≡ true
rise_past [] a b h k = and_from (ltb a.0 b.0) true (lt-ltb a.0 b.0 h) refl
rise_past (x ∷ []) a b h k =
    and_from (ltb x.0 a.0) (attrs_rise (a ∷ b ∷ [])) (and_parts (ltb x.0 a.0) true k).0 (and_from (ltb a.0 b.0) true (lt-ltb a.0 b.0 h) refl)
rise_past (x ∷ y ∷ ys) a b h k =
    let l = and_parts (ltb x.0 y.0) (attrs_rise (y ∷ (ys ++ a ∷ []))) k in
    and_from (ltb x.0 y.0) (attrs_rise (y ∷ (ys ++ (a ∷ b ∷ [])))) l.0 (rise_past (y ∷ ys) a b h l.1)

-- an event as far as the walk has come: what is put and what is to come make the whole
pub record AsFar (f : AttrNo → Option ℤ) (n m : ℕ) (put : Assignments) : Type 0 where
  pub whole : put ++ given_from f n (m - n) ≡ given_from f 0 m
  pub rising : attrs_rise (attrs_of put ++ numbered n ∷ []) ≡ true

pub far_put : (f : AttrNo → Option ℤ) (n m : ℕ) (v : ℤ) (put next : Assignments) → n < m → f (numbered n) ≡ Some v → next ≡ put ++ (numbered n, v ∷ []) ∷ [] → AsFar f n m put → AsFar f (n + 1) m next
far_put f n m v put next h k is before = record {
  whole = ap (λ e. e ++ given_from f (n + 1) (m - (n + 1))) is ∙ append_assoc put ((numbered n, v ∷ []) ∷ []) (given_from f (n + 1) (m - (n + 1)))
      ∙ ap (λ e. put ++ e) (sym (given_here f n m v h k)) ∙ before.whole;
  rising = ap (λ e. attrs_rise (attrs_of e ++ numbered (n + 1) ∷ [])) is
      ∙ ap (λ names. attrs_rise (names ++ numbered (n + 1) ∷ [])) (map-append (λ (item : AttrNo × List ℤ). item.0) put ((numbered n, v ∷ []) ∷ []))
      ∙ ap attrs_rise (append_assoc (attrs_of put) (numbered n ∷ []) (numbered (n + 1) ∷ []))
      ∙ rise_past (attrs_of put) (numbered n) (numbered (n + 1)) (omega arith) before.rising;
}

pub far_on : (f : AttrNo → Option ℤ) (n m : ℕ) (put : Assignments) → n < m → f (numbered n) ≡ None → AsFar f n m put → AsFar f (n + 1) m put
far_on f n m put h k before = record {
  whole = ap (λ e. put ++ e) (sym (given_later f n m h k)) ∙ before.whole;
  rising = rise_to (attrs_of put) (numbered n) (numbered (n + 1)) (omega arith) before.rising;
}

pub far_next : (f : AttrNo → Option ℤ) (n m : ℕ) (put next : Assignments) → n < m → next ≡ put ++ cons_option (assigned (numbered n) (f (numbered n))) [] → AsFar f n m put → AsFar f (n + 1) m next
far_next f n m put next h is before = by_value (f (numbered n)) refl is
  where
    by_value : (o : Option ℤ) → f (numbered n) ≡ o → next ≡ put ++ cons_option (assigned (numbered n) o) [] → AsFar f (n + 1) m next
    by_value None e k = subst (AsFar f (n + 1) m) (sym (k ∙ append-nil put)) (far_on f n m put h e before)
    by_value (Some v) e k = far_put f n m v put next h e k before
