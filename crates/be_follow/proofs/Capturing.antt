-- A leader's feed and captured replies to TAIL are lines that its list bears out.
use Rattle.std.proofs.Common.{◌≡◌, inl, inr, ℕ, zero, suc, ◌+◌, ◌-◌, ◌<◌, ◌≤◌, Bool, true, false, List, [], ◌∷◌, ◌++◌, length, get_or, take, drop, max, min, nat_lt, Some, refl, sym, ap, ◌∙◌, subst, arith, length-drop}
use Rattle.std.specs.Prelude.{slice_get}
use Rattle.std.specs.List.{flat_map}
use Rattle.std.proofs.lemmas.Bool.Decides.{nat_tests}
use Rattle.std.proofs.lemmas.List.{take_all, take_min, drop_all, drop_more, drop-take, length-take}
use Rattle.std.proofs.lemmas.Option.{slice_get_within, slice_get-get_or}
use Rattle.be_base.specs.Lists.{BeginsWith}
use Rattle.be_base.specs.Text.{Text}
use Rattle.be_base.specs.declared.limits.TheConstants.{COUNT_END}
use Rattle.be_base.proofs.Beginnings.{BeginsWith-same, BeginsWith-along, BeginsWith-length, take-BeginsWith}
use Rattle.be_io.specs.Lines.{closed_lines}
use Rattle.be_model.specs.Schemas.{Attributes, IsSchema}
use Rattle.be_model.specs.Texts.{NamesAreNames}
use Rattle.be_change.specs.History.{Entry}
use Rattle.be_change.specs.Requests.{tailed}
use Rattle.be_protocol.specs.Replies.{change_lines, reply_lines}
use Rattle.be_follow.specs.Feeds.{none_fed}
use Rattle.be_follow.specs.Laws.{IsLeaders, FeedsAreFollowed, Captured, named_in, captured_lines, reaches_from, reaches_of, covered, AreCaptured, CapturesAreFollowed}
use Rattle.be_follow.proofs.LeaderLines.{leaders_line, last_says}
use Rattle.be_follow.proofs.Feeding.{Fits, AllFit, followed_from, all_closed}

-- the first lines of such lines
fit_take : (s : Attributes) (h : List Entry) (k before : ℕ) (lines : List Text) (reaches : List ℕ) → AllFit s h before lines reaches → AllFit s h before (take k lines) (take k reaches)
fit_take s h zero before lines reaches fit = tt
fit_take s h (suc k) before [] [] fit = tt
fit_take s h (suc k) before [] (reach ∷ reaches) fit = absurd fit
fit_take s h (suc k) before (line ∷ lines) [] fit = absurd fit
fit_take s h (suc k) before (line ∷ lines) (reach ∷ reaches) fit = (fit.0, fit_take s h k (max before reach) lines reaches fit.1)

-- such lines, and more of them
fit_then : (s : Attributes) (h : List Entry) (before : ℕ) (lines more : List Text) (reaches others : List ℕ) → AllFit s h before lines reaches → AllFit s h (covered before reaches) more others
    → AllFit s h before (lines ++ more) (reaches ++ others)
fit_then s h before [] more [] others fit next = next
fit_then s h before [] more (reach ∷ reaches) others fit next = absurd fit
fit_then s h before (line ∷ lines) more [] others fit next = absurd fit
fit_then s h before (line ∷ lines) more (reach ∷ reaches) others fit next = (fit.0, fit_then s h (max before reach) lines more reaches others fit.1 next)

-- no line reaches past the list
fit_within : (s : Attributes) (h : List Entry) (before : ℕ) (lines : List Text) (reaches : List ℕ) → before ≤ length h → AllFit s h before lines reaches → covered before reaches ≤ length h
fit_within s h before [] [] low fit = low
fit_within s h before [] (reach ∷ reaches) low fit = absurd fit
fit_within s h before (line ∷ lines) [] low fit = absurd fit
fit_within s h before (line ∷ lines) (reach ∷ reaches) low fit = fit_within s h (max before reach) lines reaches (by fit.0) fit.1
  where
    by : Fits s h before line reach → max before reach ≤ length h
    by (inl k) = omega (arith, low, k.1)
    by (inr k) = let within : k.0 < length h = slice_get_within h k.0 k.1 k.3.there in omega (arith, low, within, k.3.just_behind)

-- the first change from a place on, and those behind it
record IsNext (h : List Entry) (place : ℕ) (e : Entry) (es : List Entry) : Type 0 where
  there : slice_get h place ≡ Some e
  later : BeginsWith (drop (place + 1) h) es

next_from : (h : List Entry) (place : ℕ) (e : Entry) (es : List Entry) → BeginsWith (drop place h) (e ∷ es) → IsNext h place e es
next_from h place e es begins = by_place (nat_lt place (length h)) refl
  where
    by_place : (b : Bool) → nat_lt place (length h) ≡ b → IsNext h place e es
    by_place true low =
        let within : place < length h = grind (arith, nat_tests) in
        let all : get_or h place e ∷ drop (place + 1) h ≡ e ∷ (es ++ begins.0) = sym (drop_more h place e within) ∙ begins.1 in
        let one : get_or h place e ≡ e = cc in
        let rest : drop (place + 1) h ≡ es ++ begins.0 = cc in
        record { there = slice_get-get_or h place e within ∙ ap (λ (x : Entry). Some x) one; later = (begins.0, rest) }
    by_place false high =
        let past : length h ≤ place = grind (arith, nat_tests) in
        let none : [] ≡ e ∷ (es ++ begins.0) = sym (drop_all place h past) ∙ begins.1 in
        absurd cc

-- the lines of changes that stand in a leader's list from a place on, which is covered
fit_changes : (s : Attributes) (h : List Entry) (before place : ℕ) (es : List Entry) → IsSchema s → NamesAreNames s → IsLeaders s h → place ≤ before → BeginsWith (drop place h) es
    → AllFit s h before (change_lines s place es) (reaches_from place es)
fit_changes s h before place [] valid names leads near begins = tt
fit_changes s h before place (e ∷ es) valid names leads near begins =
    let k = next_from h place e es begins in (
      inr (place, e, leaders_line s h place e valid names leads k.there, record { there = k.there; near = near; just_behind = refl }),
      fit_changes s h (max before (place + 1)) (place + 1) es valid names leads (omega arith) k.later,
    )

-- the changes that a reply names stand in the list from its place on
named_there : (h : List Entry) (c : Captured) → c.told ≤ length h → BeginsWith (drop c.place h) (named_in h c)
named_there h c low = BeginsWith-along (drop c.place h) (drop c.place (take c.told h)) (named_in h c) (by_place (nat_lt c.told c.place) refl) (take-BeginsWith c.max (drop c.place (take c.told h)))
  where
    by_place : (b : Bool) → nat_lt c.told c.place ≡ b → BeginsWith (drop c.place h) (drop c.place (take c.told h))
    by_place true past =
        let over : c.told < c.place = grind (arith, nat_tests) in
        let short : length (take c.told h) ≤ c.place = omega (arith, over, length-take c.told h) in
        subst (λ (l : List Entry). BeginsWith (drop c.place h) l) (sym (drop_all c.place (take c.told h) short)) (drop c.place h, refl)
    by_place false within =
        let near : c.place ≤ c.told = grind (arith, nat_tests) in
        let sum : c.place + (c.told - c.place) ≡ c.told = omega (arith, near) in
        let part : drop c.place (take c.told h) ≡ take (c.told - c.place) (drop c.place h) = ap (λ (n : ℕ). drop c.place (take n h)) (sym sum) ∙ drop-take c.place (c.told - c.place) h in
        subst (λ (l : List Entry). BeginsWith (drop c.place h) l) (sym part) (take-BeginsWith (c.told - c.place) (drop c.place h))

-- the captured lines of a reply
fit_reply : (s : Attributes) (h : List Entry) (before : ℕ) (c : Captured) → IsSchema s → NamesAreNames s → IsLeaders s h → length h < COUNT_END → c.told ≤ length h → c.place ≤ before
    → AllFit s h before (captured_lines s h c) (reaches_of h c)
fit_reply s h before c valid names leads few low near =
    let there = named_there h c low in
    let count : length (named_in h c) ≤ length (drop c.place h) = BeginsWith-length (drop c.place h) (named_in h c) there in
    let last = last_says s c.told (length (named_in h c)) (omega (arith, low, few)) (omega (arith, count, length-drop c.place h, few)) in
    fit_take s h c.lines before (reply_lines s (tailed c.told c.place (named_in h c))) (reaches_from c.place (named_in h c) ++ 0 ∷ [])
    (fit_then s h before (change_lines s c.place (named_in h c)) _ (reaches_from c.place (named_in h c)) (0 ∷ [])
    (fit_changes s h before c.place (named_in h c) valid names leads near there)
    (inl (last, refl), tt))

fit_capture : (s : Attributes) (h : List Entry) (before : ℕ) (cs : List Captured) → IsSchema s → NamesAreNames s → IsLeaders s h → length h < COUNT_END → before ≤ length h → AreCaptured h before cs
    → AllFit s h before (flat_map (captured_lines s h) cs) (flat_map (reaches_of h) cs)
fit_capture s h before [] valid names leads few low all = tt
fit_capture s h before (c ∷ cs) valid names leads few low all =
    let first = fit_reply s h before c valid names leads few all.0 all.1 in
    fit_then s h before (captured_lines s h c) (flat_map (captured_lines s h) cs) (reaches_of h c) (flat_map (reaches_of h) cs) first
    (fit_capture s h (covered before (reaches_of h c)) cs valid names leads few (fit_within s h before (captured_lines s h c) (reaches_of h c) low first) all.2)

pub captures_are_followed : CapturesAreFollowed
captures_are_followed s h cs bytes f valid names leads few all begins t =
    let fit = fit_capture s h 0 cs valid names leads few (omega arith) all in
    let lines = flat_map (captured_lines s h) cs in
    let reaches = flat_map (reaches_of h) cs in
    let k = followed_from s h lines reaches 0 bytes begins.0 none_fed f leads.formed fit begins.1 refl refl t in (
      k.0,
      k.1,
      λ whole.
          let closed : length (closed_lines bytes) ≡ length reaches = ap (λ (b : List ℕ). length (closed_lines b)) whole ∙ all_closed s h lines reaches 0 fit in
          k.0 ∙ ap (λ (n : ℕ). take (covered 0 (take n reaches)) h) closed ∙ ap (λ (l : List ℕ). take (covered 0 l) h) (take_all (length reaches) reaches (omega arith)),
    )

-- the first lines of a feed cover a change each
covered_first : (k place : ℕ) (es : List Entry) → covered place (take k (reaches_from place es)) ≡ place + min k (length es)
covered_first zero place es = omega arith
covered_first (suc k) place [] = omega arith
covered_first (suc k) place (e ∷ es) =
    let up : max place (place + 1) ≡ place + 1 = omega arith in
    ap (λ (n : ℕ). covered n (take k (reaches_from (place + 1) es))) up ∙ covered_first k (place + 1) es ∙ (let count : (place + 1) + min k (length es) ≡ place + min (suc k) (suc (length es)) = omega arith in count)

pub feeds_are_followed : FeedsAreFollowed
feeds_are_followed s h bytes f valid names leads begins t =
    let fit = fit_changes s h 0 0 h valid names leads (omega arith) (BeginsWith-same h) in
    let k = followed_from s h (change_lines s 0 h) (reaches_from 0 h) 0 bytes begins.0 none_fed f leads.formed fit begins.1 refl refl t in
    let n = length (closed_lines bytes) in
    let count : covered 0 (take n (reaches_from 0 h)) ≡ min n (length h) = omega (arith, covered_first n 0 h) in
    (k.0 ∙ ap (λ (m : ℕ). take m h) count ∙ take_min n h, k.1)
