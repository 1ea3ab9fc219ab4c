-- Lines that a leader's list bears out are followed, in any cutting.
use Rattle.std.proofs.Common.{◌≡◌, ◌⊎◌, inl, inr, ℕ, suc, ◌+◌, ◌<◌, ◌≤◌, ◌==◌, ◌||◌, Bool, true, false, List, [], ◌∷◌, ◌++◌, length, get_or, take, max, min, nat_lt, Option, Some, None, Result, Ok, refl, sym, ap, ◌∙◌, subst, arith, append_assoc}
use Rattle.std.specs.Prelude.{slice_get}
use Rattle.std.specs.List.{flat_map}
use Rattle.std.proofs.lemmas.Bool.{or_parts}
use Rattle.std.proofs.lemmas.Bool.Decides.{nat_tests}
use Rattle.std.proofs.lemmas.List.{length-take, get_or-take, take_more}
use Rattle.std.proofs.lemmas.Option.{slice_get_within, slice_get-get_or, get_or_from_slice_get}
use Rattle.be_base.specs.Text.{Text}
use Rattle.be_io.specs.Lines.{has_lf, closed_lines}
use Rattle.be_io.proofs.LineLemmas.{closed_lines-append, closed_lines-none}
use Rattle.be_model.specs.Schemas.{Attributes}
use Rattle.be_change.specs.History.{Entry, IsWellFormed, MayFollow}
use Rattle.be_change.proofs.Forms.{formed_each}
use Rattle.be_protocol.specs.Replies.{with_lf}
use Rattle.be_follow.specs.declared.faults.FeedKind.{FeedKind}
use Rattle.be_follow.specs.Feeds.{PlainSaid, nothing, at, said, Fed, TakesLineAt, TakesLine, TakesLines, fed_after_line, Chooses, Judges}
use Rattle.be_follow.specs.Laws.{covered}
use Rattle.be_follow.proofs.LeaderLines.{IsLine}

-- the first bytes of a line and more are within the line, or the line and bytes behind it
front_of_line : (line more bytes rest : List ℕ) → has_lf line ≡ false → line ++ 10 ∷ more ≡ bytes ++ rest
    → (has_lf bytes ≡ false) ⊎ ((later : List ℕ) × (bytes ≡ line ++ 10 ∷ later) × (more ≡ later ++ rest))
front_of_line line more [] rest clean e = inl refl
front_of_line [] more (b ∷ bytes) rest clean e =
    let first : 10 ≡ b = cc in
    let later : more ≡ bytes ++ rest = cc in
    inr (bytes, ap (λ (x : ℕ). x ∷ bytes) (sym first), later)
front_of_line (x ∷ line) more (b ∷ bytes) rest clean e =
    let first : x ≡ b = cc in
    let later : line ++ 10 ∷ more ≡ bytes ++ rest = cc in
    let parts = or_parts (x == 10) (has_lf line) clean in
    by (front_of_line line more bytes rest parts.1 later) first parts.0
  where
    by : (has_lf bytes ≡ false) ⊎ ((later : List ℕ) × (bytes ≡ line ++ 10 ∷ later) × (more ≡ later ++ rest)) → x ≡ b → (x == 10) ≡ false
        → (has_lf (b ∷ bytes) ≡ false) ⊎ ((later : List ℕ) × (b ∷ bytes ≡ (x ∷ line) ++ 10 ∷ later) × (more ≡ later ++ rest))
    by (inl none) first other = inl (ap (λ (c : ℕ). (c == 10) || has_lf bytes) (sym first) ∙ ap (λ (t : Bool). t || has_lf bytes) other ∙ none)
    by (inr k) first other = inr (k.0, ap (λ (c : ℕ). c ∷ bytes) (sym first) ∙ ap (λ (l : List ℕ). x ∷ l) k.1, k.2)

-- what holds was chosen
chosen : {X P : Type 0} {first second answer : X} → P → Chooses P first second answer → answer ≡ first
chosen p (inl k) = k.1
chosen p (inr k) = absurd (k.0 p)

-- the change that stands at a place, which is covered or comes next
pub record Stands (h : List Entry) (before place : ℕ) (e : Entry) (reach : ℕ) : Type 0 where
  pub there : slice_get h place ≡ Some e
  pub near : place ≤ before
  pub just_behind : reach ≡ place + 1

-- where so much of a list is covered, such a line is borne out by it, and reaches so far: it says a change or nothing
abbrev pub Fits : Attributes → List Entry → ℕ → Text → ℕ → Type 0
Fits s h before line reach =
    (IsLine s line nothing × (reach ≡ 0)) ⊎ ((place : ℕ) × (e : Entry) × IsLine s line (at place e) × Stands h before place e reach)

-- each line is, over what those before it cover
abbrev pub AllFit : Attributes → List Entry → ℕ → List Text → List ℕ → Type 0
AllFit s h before [] [] = Unit {0}
AllFit s h before (line ∷ lines) (reach ∷ reaches) = Fits s h before line reach × AllFit s h (max before reach) lines reaches
AllFit s h before _ _ = ⊥

fits_clean : (s : Attributes) (h : List Entry) (before : ℕ) (line : Text) (reach : ℕ) → Fits s h before line reach → has_lf line ≡ false
fits_clean s h before line reach (inl k) = k.0.clean
fits_clean s h before line reach (inr k) = k.2.clean

-- a change at a place that is covered, or that comes next, was judged
judged_at : (h : List Entry) (before place : ℕ) (e : Entry) (reach : ℕ) (r : Result (List Entry) FeedKind) → IsWellFormed h → Stands h before place e reach → Judges (take before h) (at place e) r
    → r ≡ Ok (take (max before reach) h)
judged_at h before place e reach r formed k j = by_order (nat_lt place before) refl
  where
    within : place < length h
    within = slice_get_within h place e k.there

    front : length (take before h) ≡ min before (length h)
    front = length-take before h

    by_order : (b : Bool) → nat_lt place before ≡ b → r ≡ Ok (take (max before reach) h)
    by_order true low =
        let less : place < before = grind (arith, nat_tests) in
        let inside : place < length (take before h) = omega (arith, within, less, front) in
        let there : slice_get (take before h) place ≡ Some e =
        slice_get-get_or (take before h) place e inside ∙ ap (λ (x : Entry). Some x) (get_or-take before h place e less ∙ get_or_from_slice_get h place e e k.there) in
        let same : before ≡ max before reach = omega (arith, less, k.just_behind) in
        chosen there (j.again inside) ∙ ap (λ (n : ℕ). Ok (take n h)) same
    by_order false high =
        let next : place ≡ before = grind (arith, nat_tests, k.near) in
        let end : place ≡ length (take before h) = omega (arith, within, next, front) in
        let may : MayFollow (take before h) e = subst (λ (n : ℕ). MayFollow (take n h) e) next (formed_each h formed place e k.there) in
        let one : get_or h place e ≡ e = get_or_from_slice_get h place e e k.there in
        let more : take (place + 1) h ≡ take place h ++ e ∷ [] = take_more h place e within ∙ ap (λ (x : Entry). take place h ++ x ∷ []) one in
        let far : place + 1 ≡ max before reach = omega (arith, next, k.just_behind) in
        chosen may (j.next end) ∙ ap (λ (n : ℕ). Ok (take n h ++ e ∷ [])) (sym next) ∙ ap (λ (l : List Entry). Ok l) (sym more) ∙ ap (λ (n : ℕ). Ok (take n h)) far

-- a line that is borne out was taken
took_line : (s : Attributes) (h : List Entry) (before : ℕ) (line : Text) (reach : ℕ) (f g : Fed) → IsWellFormed h → Fits s h before line reach → f.list ≡ take before h → f.fault ≡ None → TakesLine s f line g
    → (g.list ≡ take (max before reach) h) × (g.fault ≡ None)
took_line s h before line reach f g formed fits is sound t = (ap (λ (x : Fed). x.list) after, ap (λ (x : Fed). x.fault) after)
  where
    u : TakesLineAt None s f line g
    u = subst (λ (o : Option FeedKind). TakesLineAt o s f line g) sound t

    judged : Judges (take before h) (said s line) u.0
    judged = subst (λ (l : List Entry). Judges l (said s line) u.0) is u.1

    by : Fits s h before line reach → u.0 ≡ Ok (take (max before reach) h)
    by (inl k) =
        let j : Judges (take before h) nothing u.0 = subst (λ (x : PlainSaid). Judges (take before h) x u.0) k.0.says judged in
        let same : before ≡ max before reach = omega (arith, k.1) in
        j ∙ ap (λ (n : ℕ). Ok (take n h)) same
    by (inr k) = judged_at h before k.0 k.1 reach u.0 formed k.3 (subst (λ (x : PlainSaid). Judges (take before h) x u.0) k.2.says judged)

    after : g ≡ fed_after_line f (Ok (take (max before reach) h))
    after = u.2 ∙ ap (fed_after_line f) (by fits)

-- lines that are borne out are followed as far as the bytes go
pub followed_from : (s : Attributes) (h : List Entry) (lines : List Text) (reaches : List ℕ) (before : ℕ) (bytes rest : List ℕ) (f g : Fed) → IsWellFormed h → AllFit s h before lines reaches
    → flat_map with_lf lines ≡ bytes ++ rest → f.list ≡ take before h → f.fault ≡ None → TakesLines s f (closed_lines bytes) g
    → (g.list ≡ take (covered before (take (length (closed_lines bytes)) reaches)) h) × (g.fault ≡ None)
followed_from s h [] [] before [] rest f g formed fit begins is sound t = (ap (λ (x : Fed). x.list) t ∙ is, ap (λ (x : Fed). x.fault) t ∙ sound)
followed_from s h [] [] before (b ∷ bytes) rest f g formed fit begins is sound t = absurd cc
followed_from s h [] (reach ∷ reaches) before bytes rest f g formed fit begins is sound t = absurd fit
followed_from s h (line ∷ lines) [] before bytes rest f g formed fit begins is sound t = absurd fit
followed_from s h (line ∷ lines) (reach ∷ reaches) before bytes rest f g formed fit begins is sound t =
    by_part (front_of_line line (flat_map with_lf lines) bytes rest clean (sym (append_assoc line (10 ∷ []) (flat_map with_lf lines)) ∙ begins))
    (λ later m begins' mis sound' t'. followed_from s h lines reaches (max before reach) later rest m g formed fit.1 begins' mis sound' t')
  where
    clean : has_lf line ≡ false
    clean = fits_clean s h before line reach fit.0

    by_part : (has_lf bytes ≡ false) ⊎ ((later : List ℕ) × (bytes ≡ line ++ 10 ∷ later) × (flat_map with_lf lines ≡ later ++ rest))
        → ((later : List ℕ) (m : Fed) → flat_map with_lf lines ≡ later ++ rest → m.list ≡ take (max before reach) h → m.fault ≡ None → TakesLines s m (closed_lines later) g
        → (g.list ≡ take (covered (max before reach) (take (length (closed_lines later)) reaches)) h) × (g.fault ≡ None))
        → (g.list ≡ take (covered before (take (length (closed_lines bytes)) (reach ∷ reaches))) h) × (g.fault ≡ None)
    by_part (inl none) next =
        let no_lines : closed_lines bytes ≡ [] = closed_lines-none bytes none in
        let same : g ≡ f = subst (λ (ls : List (List ℕ)). TakesLines s f ls g) no_lines t in (
          ap (λ (x : Fed). x.list) same ∙ is ∙ ap (λ (ls : List (List ℕ)). take (covered before (take (length ls) (reach ∷ reaches))) h) (sym no_lines),
          ap (λ (x : Fed). x.fault) same ∙ sound,
        )
    by_part (inr p) next =
        let ls : closed_lines bytes ≡ line ∷ closed_lines p.0 = ap closed_lines p.1 ∙ closed_lines-append line p.0 clean in
        let u : TakesLines s f (line ∷ closed_lines p.0) g = subst (λ (x : List (List ℕ)). TakesLines s f x g) ls t in
        let one = took_line s h before line reach f u.0 formed fit.0 is sound u.1 in
        let all = next p.0 u.0 p.2 one.0 one.1 u.2 in
        (all.0 ∙ ap (λ (x : List (List ℕ)). take (covered before (take (length x) (reach ∷ reaches))) h) (sym ls), all.1)

-- all bytes have as many whole lines as there are
pub all_closed : (s : Attributes) (h : List Entry) (lines : List Text) (reaches : List ℕ) (before : ℕ) → AllFit s h before lines reaches → length (closed_lines (flat_map with_lf lines)) ≡ length reaches
all_closed s h [] [] before fit = refl
all_closed s h [] (reach ∷ reaches) before fit = absurd fit
all_closed s h (line ∷ lines) [] before fit = absurd fit
all_closed s h (line ∷ lines) (reach ∷ reaches) before fit =
    ap (λ (b : List ℕ). length (closed_lines b)) (append_assoc line (10 ∷ []) (flat_map with_lf lines))
    ∙ ap (λ (ls : List (List ℕ)). length ls) (closed_lines-append line (flat_map with_lf lines) (fits_clean s h before line reach fit.0))
    ∙ ap (λ (n : ℕ). suc n) (all_closed s h lines reaches (max before reach) fit.1)
