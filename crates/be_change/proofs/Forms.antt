-- Well formed lists, their beginnings, and beginnings of one list.
use Rattle.std.proofs.Common.{◌≡◌, ◌≢◌, ◌⊎◌, inl, inr, ℕ, zero, suc, ◌<◌, ◌≤◌, ◌==◌, Bool, true, false, cond, List, [], ◌∷◌, ◌++◌, length, take, drop, Some, slice_get, refl, sym, ap, ◌∙◌, subst, arith, append_assoc}
use Rattle.std.proofs.lemmas.Bool.{and_parts, and_from, eqb-true, eq-eqb, or_left, or_right, false_from_ne_true, both_ways}
use Rattle.std.proofs.lemmas.Option.{slice_get_within}
use Rattle.std.proofs.lemmas.List.{append-nil, take_at, take-append-drop, take-append-le}
use Rattle.std.proofs.lemmas.List.Elements.{filter-append}
use Rattle.std.proofs.lemmas.List.Folds.{list_all-append, list_any-append}
use Rattle.be_model.specs.Schemas.{Attributes}
use Rattle.be_model.specs.Matching.{Assignments}
use Rattle.be_change.specs.History.{Entry, left, session_of, serial_of, is_leave_of, entries_of, has_left, live, hits, Opens, IsWellFormed, IsWellFormedAfter, MayFollow}
use Rattle.be_change.specs.Walk.{names_of_session}
use Rattle.be_change.specs.Sound.{Sound, MayAppend, all_lie, entry_lies}

abbrev FormedAfter : List Entry → List Entry → Type 0
FormedAfter xs h = IsWellFormedAfter h xs

after_front : (h xs ys : List Entry) → IsWellFormedAfter h (xs ++ ys) → IsWellFormedAfter h xs
after_front h [] ys w = tt
after_front h (x ∷ xs) ys w = (w.0, after_front (h ++ x ∷ []) xs ys w.1)

after_back : (h xs ys : List Entry) → IsWellFormedAfter h (xs ++ ys) → IsWellFormedAfter (h ++ xs) ys
after_back h [] ys w = subst (FormedAfter ys) (sym (append-nil h)) w
after_back h (x ∷ xs) ys w = subst (FormedAfter ys) (append_assoc h (x ∷ []) xs) (after_back (h ++ x ∷ []) xs ys w.1)

after_join : (h xs ys : List Entry) → IsWellFormedAfter h xs → IsWellFormedAfter (h ++ xs) ys → IsWellFormedAfter h (xs ++ ys)
after_join h [] ys a b = subst (FormedAfter ys) (append-nil h) b
after_join h (x ∷ xs) ys a b = (a.0, after_join (h ++ x ∷ []) xs ys a.1 (subst (FormedAfter ys) (sym (append_assoc h (x ∷ []) xs)) b))

-- a well formed list with one more entry that may follow it is well formed
pub formed_append : (h : List Entry) (e : Entry) → IsWellFormed h → MayFollow h e → IsWellFormed (h ++ e ∷ [])
formed_append h e w m = after_join [] h (e ∷ []) w (m, tt)

-- an entry of a session that isn't 0 may stand behind the opening
pub no_opening : (h : List Entry) (e : Entry) → session_of e ≢ 0 → session_of e ≡ 0 → Opens h e
no_opening h e apart is = absurd (apart is)

-- a beginning of a well formed list is well formed
pub formed_front : (xs ys : List Entry) → IsWellFormed (xs ++ ys) → IsWellFormed xs
formed_front xs ys w = after_front [] xs ys w

pub formed_take : (n : ℕ) (h : List Entry) → IsWellFormed h → IsWellFormed (take n h)
formed_take n h w = formed_front (take n h) (drop n h) (subst IsWellFormed (sym (take-append-drop n h)) w)

-- the last entry of a well formed list may follow what stands before it
pub formed_last : (h : List Entry) (e : Entry) → IsWellFormed (h ++ e ∷ []) → MayFollow h e
formed_last h e w = (after_back [] h (e ∷ []) w).0

induction_from : (P : List Entry → Type 0) (h es : List Entry) → IsWellFormed h → P h → ((g : List Entry) (e : Entry) → IsWellFormed g → MayFollow g e → P g → P (g ++ e ∷ []))
    → IsWellFormedAfter h es → P (h ++ es)
induction_from P h [] w p step a = subst P (sym (append-nil h)) p
induction_from P h (e ∷ es) w p step a =
    subst P (append_assoc h (e ∷ []) es) (induction_from P (h ++ e ∷ []) es (formed_append h e w a.0) (step h e w a.0 p) step a.1)

-- an entry of session 0 is a Sub, and every entry before it is of session 0
pub opening_first : (h more : List Entry) (e : Entry) → IsWellFormed (h ++ e ∷ more) → session_of e ≡ 0 → Opens h e
opening_first h more e w = (after_back [] h (e ∷ more) w).0.opening

-- what holds of the empty list, and is kept by each entry that may follow, holds of each well formed list
pub formed_induction : (P : List Entry → Type 0) (h : List Entry) → IsWellFormed h → P [] → ((g : List Entry) (e : Entry) → IsWellFormed g → MayFollow g e → P g → P (g ++ e ∷ [])) → P h
formed_induction P h w none step = induction_from P [] h tt none step w

-- a change that may come next keeps a list sound
pub sound_append : (s : Attributes) (h : List Entry) (e : Entry) → Sound s h → MayAppend s h e → Sound s (h ++ e ∷ [])
sound_append s h e a m = record {
  formed = formed_append h e a.formed m.follows;
  lies = list_all-append (entry_lies s) h (e ∷ []) ∙ and_from (all_lie s h) (all_lie s (e ∷ [])) a.lies (and_from (entry_lies s e) true m.lies refl);
}

lies_parts : (s : Attributes) (xs ys : List Entry) → all_lie s (xs ++ ys) ≡ true → (all_lie s xs ≡ true) × (all_lie s ys ≡ true)
lies_parts s xs ys p = and_parts (all_lie s xs) (all_lie s ys) (sym (list_all-append (entry_lies s) xs ys) ∙ p)

-- the last change of a sound list may follow what stands before it
pub sound_last : (s : Attributes) (h : List Entry) (e : Entry) → Sound s (h ++ e ∷ []) → MayAppend s h e
sound_last s h e a = record {
  follows = formed_last h e a.formed;
  lies = (and_parts (entry_lies s e) true (lies_parts s h (e ∷ []) a.lies).1).0;
}

pub entries_of-append : (k : ℕ) (xs ys : List Entry) → entries_of k (xs ++ ys) ≡ entries_of k xs ++ entries_of k ys
entries_of-append k xs ys = filter-append (λ e. session_of e == k) xs ys

-- the place of an entry in a list with one more
get_snoc : (xs : List Entry) (y e : Entry) (i : ℕ) → slice_get (xs ++ y ∷ []) i ≡ Some e → (slice_get xs i ≡ Some e) ⊎ ((i ≡ length xs) × (e ≡ y))
get_snoc [] y e zero h = inr (refl, cc)
get_snoc [] y e (suc i) h = absurd cc
get_snoc (x ∷ xs) y e zero h = inl h
get_snoc (x ∷ xs) y e (suc i) h = longer (get_snoc xs y e i h)
  where
    longer : (slice_get xs i ≡ Some e) ⊎ ((i ≡ length xs) × (e ≡ y)) → (slice_get xs i ≡ Some e) ⊎ ((suc i ≡ suc (length xs)) × (e ≡ y))
    longer (inl a) = inl a
    longer (inr a) = inr (ap (λ n. suc n) a.0, a.1)

-- the serials of a session are 0, 1, 2, ..
abbrev pub SerialsCount : ℕ → List Entry → Type 0
SerialsCount k h = (i : ℕ) (e : Entry) → slice_get (entries_of k h) i ≡ Some e → serial_of e ≡ i

serials_snoc : (k : ℕ) (xs : List Entry) (e : Entry) (b : Bool) → ((i : ℕ) (x : Entry) → slice_get xs i ≡ Some x → serial_of x ≡ i) → (b ≡ true → serial_of e ≡ length xs)
    → (i : ℕ) (x : Entry) → slice_get (xs ++ cond b (e ∷ []) []) i ≡ Some x → serial_of x ≡ i
serials_snoc k xs e true p q i x h = last (get_snoc xs e x i h)
  where
    last : (slice_get xs i ≡ Some x) ⊎ ((i ≡ length xs) × (x ≡ e)) → serial_of x ≡ i
    last (inl a) = p i x a
    last (inr a) = ap serial_of a.1 ∙ (q refl ∙ sym a.0)
serials_snoc k xs e false p q i x h = p i x (subst (λ (l : List Entry). slice_get l i ≡ Some x) (append-nil xs) h)

serials_step : (k : ℕ) (h : List Entry) (e : Entry) → MayFollow h e → SerialsCount k h → SerialsCount k (h ++ e ∷ [])
serials_step k h e m p i x at =
    serials_snoc k (entries_of k h) e (session_of e == k) p
    (λ same. m.serial ∙ ap (λ (j : ℕ). length (entries_of j h)) (eqb-true (session_of e) k same)) i x
    (subst (λ (l : List Entry). slice_get l i ≡ Some x) (entries_of-append k h (e ∷ [])) at)

pub formed_serials : (k : ℕ) (h : List Entry) → IsWellFormed h → SerialsCount k h
formed_serials k h w = formed_induction (SerialsCount k) h w (λ i x at. absurd cc) (λ g e f m p. serials_step k g e m p)

-- what is live after the first n entries, and what an event finds there, don't depend on what follows
pub live_prefix : (h more : List Entry) (n : ℕ) → n ≤ length h → live (take n (h ++ more)) ≡ live (take n h)
live_prefix h more n within = ap live (take-append-le n h more within)

pub hits_prefix : (h more : List Entry) (n : ℕ) (e : Assignments) → n ≤ length h → hits (take n (h ++ more)) e ≡ hits (take n h) e
hits_prefix h more n e within = ap (λ (l : List Entry). hits l e) (take-append-le n h more within)

pub names_prefix : (h more : List Entry) (n k : ℕ) → n ≤ length h → names_of_session k (take n (h ++ more)) ≡ names_of_session k (take n h)
names_prefix h more n k within = ap (λ (l : List Entry). names_of_session k l) (take-append-le n h more within)

abbrev EachFollows : List Entry → Type 0
EachFollows h = (i : ℕ) (e : Entry) → slice_get h i ≡ Some e → MayFollow (take i h) e

each_step : (h : List Entry) (y : Entry) → MayFollow h y → EachFollows h → EachFollows (h ++ y ∷ [])
each_step h y m p i e at = which (get_snoc h y e i at)
  where
    which : (slice_get h i ≡ Some e) ⊎ ((i ≡ length h) × (e ≡ y)) → MayFollow (take i (h ++ y ∷ [])) e
    which (inl a) = let within : i < length h = slice_get_within h i e a in subst (λ (g : List Entry). MayFollow g e) (sym (take-append-le i h (y ∷ []) (omega arith))) (p i e a)
    which (inr a) = subst (λ (x : Entry). MayFollow (take i (h ++ y ∷ [])) x) (sym a.1) (subst (λ (g : List Entry). MayFollow g y) (sym (take_at h (y ∷ []) i (sym a.0))) m)

-- each entry of a well formed list may follow those before it
pub formed_each : (h : List Entry) → IsWellFormed h → (i : ℕ) (e : Entry) → slice_get h i ≡ Some e → MayFollow (take i h) e
formed_each h w = formed_induction EachFollows h w (λ i e at. absurd cc) (λ g e f m p. each_step g e m p)

after_from_each : (h es : List Entry) → ((i : ℕ) (e : Entry) → slice_get es i ≡ Some e → MayFollow (h ++ take i es) e) → IsWellFormedAfter h es
after_from_each h [] p = tt
after_from_each h (e ∷ es) p = (
  subst (λ (g : List Entry). MayFollow g e) (append-nil h) (p zero e refl),
  after_from_each (h ++ e ∷ []) es (λ i x at. subst (λ (g : List Entry). MayFollow g x) (sym (append_assoc h (e ∷ []) (take i es))) (p (suc i) x at)),
)

pub formed_from_each : (h : List Entry) → ((i : ℕ) (e : Entry) → slice_get h i ≡ Some e → MayFollow (take i h) e) → IsWellFormed h
formed_from_each h p = after_from_each [] h p

left_there : (k n : ℕ) (h more : List Entry) → has_left k (h ++ left k n ∷ more) ≡ true
left_there k n [] more = or_left (k == k) (has_left k more) (eq-eqb k k refl)
left_there k n (x ∷ xs) more = or_right (is_leave_of k x) (has_left k (xs ++ left k n ∷ more)) (left_there k n xs more)

-- where the session has left already, a well formed list goes on without it
none_after : (k : ℕ) (h es : List Entry) → has_left k h ≡ true → IsWellFormedAfter h es → entries_of k es ≡ []
none_after k h [] l w = refl
none_after k h (e ∷ es) l w =
    let other : (session_of e == k) ≡ false = false_from_ne_true (session_of e == k) (λ t. both_ways (has_left k h) (ap (λ (j : ℕ). has_left j h) (sym (eqb-true (session_of e) k t)) ∙ w.0.present) l) in
    let still : has_left k (h ++ e ∷ []) ≡ true = list_any-append (is_leave_of k) h (e ∷ []) ∙ or_left (has_left k h) (has_left k (e ∷ [])) l in
    ap (λ (b : Bool). cond b (e ∷ entries_of k es) (entries_of k es)) other ∙ none_after k (h ++ e ∷ []) es still w.1

-- after a session's Bye there is no entry of that session
pub none_after_bye : (h more : List Entry) (k n : ℕ) → IsWellFormed (h ++ left k n ∷ more) → entries_of k more ≡ []
none_after_bye h more k n w =
    none_after k (h ++ left k n ∷ []) more (left_there k n h []) (after_back [] (h ++ left k n ∷ []) more (subst IsWellFormed (sym (append_assoc h (left k n ∷ []) more)) w))
