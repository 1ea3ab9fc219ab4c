-- Lists: the first place that passes a test, and lists that rise.
use Rattle.std.proofs.Common.{◌≡◌, ℕ, ◌+◌, ◌-◌, ◌<◌, suc, Bool, true, false, cond, not, ltb, ◌&&◌, ◌||◌, List, [], ◌∷◌, ◌++◌, length, get_or, map, find, is_some, All, Option, Some, None, refl, sym, ap, subst, ◌∙◌, arith}
use Rattle.std.specs.List.{list_any, list_all, position, position_or_len}
use Rattle.std.proofs.Math.Bool.{and_assoc}
use Rattle.std.proofs.lemmas.Bool.Decides.{nat_tests}
use Rattle.std.proofs.lemmas.List.Elements.{All-head, All-tail}

and_true : (a : Bool) → (a && true) ≡ (true && a)
and_true true = refl
and_true false = refl

any_step : (b : Bool) (k n : ℕ) (r : Bool) → r ≡ ltb k n → (b || r) ≡ ltb (cond (not b) (1 + k) 0) (suc n)
any_step true k n r h = grind (arith, nat_tests)
any_step false k n r h = grind (arith, nat_tests)

-- some element passes where the first place that passes is inside the list
pub list_any-place : {X : Type 0} (p : X → Bool) (xs : List X) → list_any p xs ≡ ltb (position_or_len p xs) (length xs)
list_any-place p [] = refl
list_any-place p (x ∷ xs) = any_step (p x) (position_or_len p xs) (length xs) (list_any p xs) (list_any-place p xs)

none_step : (b : Bool) (k : ℕ) → (cond b (Some k) None ≡ None → b ≡ false) × (b ≡ false → cond b (Some k) None ≡ None)
none_step true k = (λ h. absurd (cc), λ h. absurd (cc))
none_step false k = (λ h. refl, λ h. refl)

-- there is no place where no element passes
pub position-none : {X : Type 0} (p : X → Bool) (xs : List X) → (position p xs ≡ None → list_any p xs ≡ false) × (list_any p xs ≡ false → position p xs ≡ None)
position-none p xs =
    let n = none_step (ltb (position_or_len p xs) (length xs)) (position_or_len p xs) in
    (λ h. list_any-place p xs ∙ n.0 h, λ h. n.1 (sym (list_any-place p xs) ∙ h))

all_step : (b r s : Bool) → r ≡ not s → (b && r) ≡ not (not b || s)
all_step true r s h = h
all_step false r s h = refl

-- all elements pass where none fails
pub list_all-not_any : {X : Type 0} (p : X → Bool) (xs : List X) → list_all p xs ≡ not (list_any (λ x. not (p x)) xs)
list_all-not_any p [] = refl
list_all-not_any p (x ∷ xs) = all_step (p x) (list_all p xs) (list_any (λ y. not (p y)) xs) (list_all-not_any p xs)

pub list_any-map : {X Y : Type 0} (f : X → Y) (p : Y → Bool) (xs : List X) → list_any p (map f xs) ≡ list_any (λ x. p (f x)) xs
list_any-map f p [] = refl
list_any-map f p (x ∷ xs) = ap (λ b. p (f x) || b) (list_any-map f p xs)

found_or_not : {X : Type 0} (b : Bool) (x : X) (o : Option X) → is_some (cond b (Some x) o) ≡ (b || is_some o)
found_or_not true x o = refl
found_or_not false x o = refl

-- a search finds something where some element passes
pub is_some-find : {X : Type 0} (p : X → Bool) (xs : List X) → is_some (find p xs) ≡ list_any p xs
is_some-find p [] = refl
is_some-find p (x ∷ xs) = found_or_not (p x) x (find p xs) ∙ ap (λ b. p x || b) (is_some-find p xs)

found_step : {X : Type 0} (P : X → Type 0) (b : Bool) (x y : X) (o : Option X) → (b ≡ true → P x) → (o ≡ Some y → P y) → cond b (Some x) o ≡ Some y → P y
found_step P true x y o here later h = let same : x ≡ y = cc in subst P same (here refl)
found_step P false x y o here later h = later h

-- what a search finds passes, and is one of the elements
pub found_passes : {X : Type 0} (p : X → Bool) (xs : List X) (x : X) → find p xs ≡ Some x → p x ≡ true
found_passes p [] x h = absurd (cc)
found_passes p (y ∷ ys) x h = found_step (λ z. p z ≡ true) (p y) y x (find p ys) (λ e. e) (found_passes p ys x) h

pub found_has : {X : Type 0} (P : X → Type 0) (p : X → Bool) (xs : List X) (x : X) → All P xs → find p xs ≡ Some x → P x
found_has P p [] x a h = absurd (cc)
found_has P p (y ∷ ys) x a h =
    found_step P (p y) y x (find p ys) (λ _. All-head P y ys a) (found_has P p ys x (All-tail P y ys a)) h

rises_front : {X : Type 0} (F : List X → Bool) (R : X → X → Bool) → ((x : X) → F (x ∷ []) ≡ true) → ((x y : X) (ys : List X) → F (x ∷ y ∷ ys) ≡ (R x y && F (y ∷ ys)))
    → (x : X) (xs : List X) (v d : X) → F ((x ∷ xs) ++ v ∷ []) ≡ (F (x ∷ xs) && R (get_or (x ∷ xs) (length xs) d) v)
rises_front F R one more x [] v d =
    more x v [] ∙ ap (λ b. R x v && b) (one v) ∙ and_true (R x v) ∙ ap (λ b. b && R x v) (sym (one x))
rises_front F R one more x (y ∷ ys) v d =
    more x y (ys ++ v ∷ []) ∙ ap (λ b. R x y && b) (rises_front F R one more y ys v d)
    ∙ sym (and_assoc (R x y) (F (y ∷ ys)) (R (get_or (y ∷ ys) (length ys) d) v))
    ∙ ap (λ b. b && R (get_or (y ∷ ys) (length ys) d) v) (sym (more x y ys))

-- a list in which each element is before the next, with one more element
pub rises_push : {X : Type 0} (F : List X → Bool) (R : X → X → Bool) → ((x : X) → F (x ∷ []) ≡ true) → ((x y : X) (ys : List X) → F (x ∷ y ∷ ys) ≡ (R x y && F (y ∷ ys)))
    → (xs : List X) (v d : X) → 0 < length xs → F (xs ++ v ∷ []) ≡ (F xs && R (get_or xs (length xs - 1) d) v)
rises_push F R one more [] v d h = absurd (omega arith)
rises_push F R one more (x ∷ xs) v d h =
    let e : length xs ≡ length (x ∷ xs) - 1 = omega arith in
    rises_front F R one more x xs v d ∙ ap (λ n. F (x ∷ xs) && R (get_or (x ∷ xs) n d) v) e
