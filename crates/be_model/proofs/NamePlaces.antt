-- The places of names in a list, and in the list with one more name.
use Rattle.std.proofs.Common.{◌≡◌, ℕ, ◌+◌, suc, Bool, true, false, cond, not, ltb, ◌&&◌, List, [], ◌∷◌, ◌++◌, length, All, Option, Some, None, option_map, is_some, refl, sym, ap, subst, ◌∙◌, arith}
use Rattle.std.specs.declared.hash.FoldHasher.{FoldHasher}
use Rattle.std.specs.declared.hash.BuildHasherDefault.{BuildHasherDefault}
use Rattle.std.specs.HashMap.{HashMap, Updates}
use Rattle.std.specs.List.{position, position_or_len}
use Rattle.std.proofs.lemmas.Bool.Decides.{nat_tests}
use Rattle.std.proofs.lemmas.List.Elements.{All-head, All-tail, All-push}
use Rattle.be_base.specs.Text.{Text, IsName, same_text}
use Rattle.be_base.proofs.SameText.{equal_from_same_text}
use Rattle.be_base.specs.TextLists.{place_of, is_among_texts, all_differ}
use Rattle.be_model.specs.Places.{FindsPlaces}
use Rattle.be_model.proofs.Lists.{position-none}
use Rattle.be_model.proofs.Attributes.{all_differ_push}

shifted : (k n : ℕ) (b : Bool) → ltb k n ≡ b → cond (ltb (1 + k) (suc n)) (Some (1 + k)) None ≡ option_map (λ i. suc i) (cond b (Some k) None)
shifted k n true h = grind (arith, nat_tests)
shifted k n false h = grind (arith, nat_tests)

first_here : (b : Bool) (k n : ℕ) → cond (ltb (cond (not b) (1 + k) 0) (suc n)) (Some (cond (not b) (1 + k) 0)) None ≡ cond b (Some 0) (option_map (λ i. suc i) (cond (ltb k n) (Some k) None))
first_here true k n = grind (arith, nat_tests)
first_here false k n = shifted k n (ltb k n) refl

-- the first place that passes, by the first element
position-cons : {X : Type 0} (p : X → Bool) (x : X) (xs : List X) → position p (x ∷ xs) ≡ cond (p x) (Some 0) (option_map (λ i. suc i) (position p xs))
position-cons p x xs = first_here (p x) (position_or_len p xs) (length xs)

abbrev or_last : Option ℕ → Option ℕ → Option ℕ
or_last None o = o
or_last (Some i) o = Some i

later : (b c : Bool) (o : Option ℕ) (n : ℕ) → cond b (Some 0) (option_map (λ i. suc i) (or_last o (cond c (Some n) None))) ≡ or_last (cond b (Some 0) (option_map (λ i. suc i) o)) (cond c (Some (suc n)) None)
later true c o n = refl
later false c (Some i) n = refl
later false true None n = refl
later false false None n = refl

-- the first place that passes, with one more element
position-push : {X : Type 0} (p : X → Bool) (xs : List X) (x : X) → position p (xs ++ x ∷ []) ≡ or_last (position p xs) (cond (p x) (Some (length xs)) None)
position-push p [] x = position-cons p x []
position-push p (y ∷ ys) x =
    position-cons p y (ys ++ x ∷ []) ∙ ap (λ o. cond (p y) (Some 0) (option_map (λ i. suc i) o)) (position-push p ys x)
    ∙ later (p y) (p x) (position p ys) (length ys)
    ∙ ap (λ o. or_last o (cond (p x) (Some (suc (length ys))) None)) (sym (position-cons p y ys))

differs : (b : Bool) (name text : Text) → same_text name text ≡ b → IsName name → ¬ (IsName text) → b ≡ false
differs false name text e h k = refl
differs true name text e h k = absurd (k (subst (λ (x : Text). IsName x) (equal_from_same_text name text e) h))

no_name : (names : List Text) (text : Text) → All IsName names → ¬ (IsName text) → is_among_texts text names ≡ false
no_name [] text f k = refl
no_name (name ∷ names) text f k =
    rw (differs (same_text name text) name text refl (All-head IsName name names f) k) (no_name names text (All-tail IsName name names f) k)

-- a text that isn't a name has no place among names
pub no_place : (names : List Text) (text : Text) → All IsName names → ¬ (IsName text) → place_of text names ≡ None
no_place names text f k = (position-none (λ other. same_text other text) names).1 (no_name names text f k)

known_step : (b : Bool) (o : Option ℕ) (names : List Text) (name text : Text) (i : ℕ) → same_text name text ≡ b → place_of text names ≡ o → place_of name names ≡ Some i
    → o ≡ or_last o (cond b (Some (length names)) None)
known_step b (Some j) names name text i e h k = refl
known_step false None names name text i e h k = refl
known_step true None names name text i e h k =
    let same = ap (λ (x : Text). place_of x names) (equal_from_same_text name text e) in absurd (cc)

new_step : (b : Bool) (o : Option ℕ) (names : List Text) (name text : Text) → same_text name text ≡ b → place_of text names ≡ o → place_of name names ≡ None
    → cond b (Some (length names)) o ≡ or_last o (cond b (Some (length names)) None)
new_step false (Some j) names name text e h k = refl
new_step false None names name text e h k = refl
new_step true None names name text e h k = refl
new_step true (Some j) names name text e h k =
    let same = ap (λ (x : Text). place_of x names) (equal_from_same_text name text e) in absurd (cc)

among : (b : Bool) (names : List Text) (name : Text) (i : ℕ) → is_among_texts name names ≡ b → place_of name names ≡ Some i → b ≡ true
among true names name i e h = refl
among false names name i e h = let k = (position-none (λ other. same_text other name) names).1 e in absurd (cc)

and_none : (a : Bool) → false ≡ (a && not true)
and_none true = refl
and_none false = refl

and_all : (a : Bool) → a ≡ (a && not false)
and_all true = refl
and_all false = refl

-- a name that stands in the list already, once more
finds_known : (places : HashMap Text ℕ (BuildHasherDefault FoldHasher)) (differ : Bool) (names : List Text) (name : Text) (i : ℕ)
    → FindsPlaces places differ names → IsName name → place_of name names ≡ Some i → FindsPlaces places false (names ++ name ∷ [])
finds_known places differ names name i f h k =
    record {
      form = All-push IsName names name f.form h;
      found = λ text. f.found text ∙ known_step (same_text name text) (place_of text names) names name text i refl refl k ∙ sym (position-push (λ other. same_text other text) names name);
      flag = and_none (all_differ names) ∙ ap (λ b. all_differ names && not b) (sym (among (is_among_texts name names) names name i refl k)) ∙ sym (all_differ_push names name);
    }

-- a new name
finds_new : (places places' : HashMap Text ℕ (BuildHasherDefault FoldHasher)) (differ : Bool) (names : List Text) (name : Text)
    → FindsPlaces places differ names → IsName name → place_of name names ≡ None → Updates same_text places places' name (Some (length names))
    → FindsPlaces places' differ (names ++ name ∷ [])
finds_new places places' differ names name f h k u =
    record {
      form = All-push IsName names name f.form h;
      found = λ text.
          u.0 text ∙ ap (λ o. cond (same_text name text) (Some (length names)) o) (f.found text)
          ∙ new_step (same_text name text) (place_of text names) names name text refl refl k ∙ sym (position-push (λ other. same_text other text) names name);
      flag = f.flag ∙ and_all (all_differ names) ∙ ap (λ b. all_differ names && not b) (sym ((position-none (λ other. same_text other name) names).0 k)) ∙ sym (all_differ_push names name);
    }

known_by : (o : Option ℕ) (places : HashMap Text ℕ (BuildHasherDefault FoldHasher)) (differ : Bool) (names : List Text) (name : Text)
    → FindsPlaces places differ names → IsName name → o ≡ place_of name names → true ≡ is_some o → FindsPlaces places false (names ++ name ∷ [])
known_by (Some i) places differ names name f h k s = finds_known places differ names name i f h (sym k)
known_by None places differ names name f h k s = absurd (cc)

new_by : (o : Option ℕ) (places places' : HashMap Text ℕ (BuildHasherDefault FoldHasher)) (differ : Bool) (names : List Text) (name : Text)
    → FindsPlaces places differ names → IsName name → o ≡ place_of name names → false ≡ is_some o → Updates same_text places places' name (Some (length names))
    → FindsPlaces places' differ (names ++ name ∷ [])
new_by None places places' differ names name f h k s u = finds_new places places' differ names name f h (sym k) u
new_by (Some i) places places' differ names name f h k s u = absurd (cc)

-- a list to which a name was put that stands in it already
pub put_known : (o : Option ℕ) (places : HashMap Text ℕ (BuildHasherDefault FoldHasher)) (differ : Bool) (names new : List Text) (name : Text)
    → FindsPlaces places differ names → IsName name → o ≡ place_of name names → true ≡ is_some o → new ≡ names ++ name ∷ [] → FindsPlaces places false new
put_known o places differ names new name f h k s e =
    subst (λ (x : List Text). FindsPlaces places false x) (sym e) (known_by o places differ names name f h k s)

-- a list to which a new name was put, and the map too
pub put_new : (o : Option ℕ) (place : ℕ) (places places' : HashMap Text ℕ (BuildHasherDefault FoldHasher)) (differ : Bool) (names new : List Text) (name : Text)
    → FindsPlaces places differ names → IsName name → o ≡ place_of name names → false ≡ is_some o → place ≡ length names
    → Updates same_text places places' name (Some place) → new ≡ names ++ name ∷ [] → FindsPlaces places' differ new
put_new o place places places' differ names new name f h k s n u e =
    subst (λ (x : List Text). FindsPlaces places' differ x) (sym e)
    (new_by o places places' differ names name f h k s (subst (λ (m : ℕ). Updates same_text places places' name (Some m)) n u))

among_or_not : (b : Bool) (o : Option ℕ) (names : List Text) (text : Text) → is_among_texts text names ≡ b → place_of text names ≡ o → is_some o ≡ b
among_or_not true (Some i) names text e h = refl
among_or_not false None names text e h = refl
among_or_not true None names text e h = let k = (position-none (λ other. same_text other text) names).0 h in absurd (cc)
among_or_not false (Some i) names text e h = let k = (position-none (λ other. same_text other text) names).1 e in absurd (cc)

-- a text is among others where it has a place
pub is_some-place_of : (names : List Text) (text : Text) → is_some (place_of text names) ≡ is_among_texts text names
is_some-place_of names text = among_or_not (is_among_texts text names) (place_of text names) names text refl refl
