-- Whether replies say that a reader was refused, and the count of those that were.
use Rattle.std.proofs.Common.{◌≡◌, ℕ, zero, suc, Bool, true, false, ◌||◌, List, [], ◌∷◌, length, Option, Some, None, slice_get, refl, sym, ap, ◌∙◌, arith}
use Rattle.std.specs.Prelude.{if◌then◌else◌}
use Rattle.std.specs.Option.{option_or}
use Rattle.std.specs.List.{All, list_any, filter}
use Rattle.std.proofs.lemmas.List.Elements.{All-cons, All-head, All-nil, All-tail}
use Rattle.std.proofs.lemmas.List.Folds.{list_any_at}
use Rattle.std.proofs.lemmas.Option.{slice_get_within, get_or_from_slice_get}
use Rattle.be_base.specs.Counts.{RisesBy}
use Rattle.be_model.specs.Schemas.{Attributes}
use Rattle.be_change.specs.Requests.{Exchange}
use Rattle.be_desk.specs.Seats.{SeatState}
use Rattle.be_session.specs.Tied.{is_shut}
use Rattle.be_hub.specs.Links.{SeatVisit, FollowLeft, FollowOn}
use Rattle.be_hub.specs.Transcripts.{says_shut, ShutsOnly}
use Rattle.be_hub.proofs.Entered.{glass_same}

-- what isn't counted no reply says
pub none_says : (ps : List Exchange) → length (filter is_shut ps) ≡ 0 → says_shut ps ≡ false
none_says [] few = refl
none_says (p ∷ ps) few = go (is_shut p) few (none_says ps)
  where
    go : (b : Bool) → length (if b then p ∷ filter is_shut ps else filter is_shut ps) ≡ 0 → (length (filter is_shut ps) ≡ 0 → says_shut ps ≡ false) → (b || says_shut ps) ≡ false
    go true few rest = absurd (omega (arith, few))
    go false few rest = rest few

-- what no reply says isn't counted
says_none : (ps : List Exchange) → says_shut ps ≡ false → length (filter is_shut ps) ≡ 0
says_none [] quiet = refl
says_none (p ∷ ps) quiet = go (is_shut p) quiet (says_none ps)
  where
    go : (b : Bool) → (b || says_shut ps) ≡ false → (says_shut ps ≡ false → length (filter is_shut ps) ≡ 0) → length (if b then p ∷ filter is_shut ps else filter is_shut ps) ≡ 0
    go true quiet rest = absurd cc
    go false quiet rest = rest quiet

no_rise : (n before after : ℕ) → RisesBy n before after → after ≡ 0 → n ≡ 0
no_rise n before after rise is = omega (arith, rise, is)

stays_none : (n before after : ℕ) → RisesBy n before after → n ≡ 0 → before ≡ 0 → after ≡ 0
stays_none n before after rise few is = omega (arith, rise, few, is)

pub shuts_only : (shuts : Bool) (ps : List Exchange) (before after : ℕ) → RisesBy (length (filter is_shut ps)) before after → (shuts ≡ false → after ≡ 0) → ShutsOnly shuts ps
shuts_only shuts ps before after rise quiet = λ is. none_says ps (no_rise (length (filter is_shut ps)) before after rise (quiet is))

-- what replies say agrees with the count before and after them
pub record Agrees (shut : Bool) (before after : ℕ) : Type 0 where
  pub quiet : after ≡ 0 → shut ≡ false
  pub stays : shut ≡ false → before ≡ 0 → after ≡ 0

pub agrees : (ps : List Exchange) (before after : ℕ) → RisesBy (length (filter is_shut ps)) before after → Agrees (says_shut ps) before after
agrees ps before after rise = record {
  quiet = λ is. none_says ps (no_rise (length (filter is_shut ps)) before after rise is);
  stays = λ few is. stays_none (length (filter is_shut ps)) before after rise (says_none ps few) is;
}

-- tests
pub same_test : (a b : Bool) → (a ≡ false → b ≡ false) → (b ≡ false → a ≡ false) → a ≡ b
same_test true true there back = refl
same_test true false there back = back refl
same_test false true there back = sym (there refl)
same_test false false there back = refl

pub none_at : {X : Type 0} (p : X → Bool) (xs : List X) (i : ℕ) (x : X) → list_any p xs ≡ false → slice_get xs i ≡ Some x → p x ≡ false
none_at p xs i x quiet at = go (p x) refl
  where
    go : (b : Bool) → p x ≡ b → p x ≡ false
    go true is = let some = list_any_at p xs i x (slice_get_within xs i x at) (ap p (get_or_from_slice_get xs i x x at) ∙ is) in absurd cc
    go false is = is

pub none_of_both : {X : Type 0} (a b r : Option X) → r ≡ option_or a b → a ≡ None → b ≡ None → r ≡ None
none_of_both a b r is no_a no_b = is ∙ (ap (λ o. option_or o b) no_a ∙ no_b)

-- of these numbers one isn't 0 where not all are
pub one_risen : {E : Type 0} (f : E → ℕ) (es : List E) → (All (λ e. f e ≡ 0) es → ⊥) → (i : ℕ) × (e : E) × (slice_get es i ≡ Some e) × (f e ≡ 0 → ⊥)
one_risen f [] some = absurd (some (All-nil (λ e. f e ≡ 0)))
one_risen {E} f (e ∷ es) some = go (f e) refl (λ is. one_risen f es (λ all. some (All-cons (λ d. f d ≡ 0) e es is all)))
  where
    go : (n : ℕ) → f e ≡ n → (f e ≡ 0 → (i : ℕ) × (d : E) × (slice_get es i ≡ Some d) × (f d ≡ 0 → ⊥)) → (i : ℕ) × (d : E) × (slice_get (e ∷ es) i ≡ Some d) × (f d ≡ 0 → ⊥)
    go zero is rest = let r = rest is in (suc r.0, r.1, r.2, r.3)
    go (suc n) is rest = (0, e, refl, λ other. absurd (omega (arith, is, other)))

abbrev pub Stays : SeatVisit → Type 0
Stays v = v.entered.glass.shuts ≡ 0 → v.left.glass.shuts ≡ 0

-- where no visit raises the count from 0, it stays
module _ (s : Attributes) (seats : ℕ) where
  stays_left : (left last : SeatState) (vs : List SeatVisit) → FollowLeft s seats left vs last → All Stays vs → left.glass.shuts ≡ 0 → last.glass.shuts ≡ 0
  stays_left left last [] chain each is = ap (λ (x : SeatState). x.glass.shuts) chain ∙ is
  stays_left left last (v ∷ vs) chain each is =
      stays_left v.left last vs chain.1 (All-tail Stays v vs each) (All-head Stays v vs each (ap (λ g. g.shuts) (glass_same s seats left v.entered chain.0) ∙ is))

  pub stays_on : (first last : SeatState) (vs : List SeatVisit) → FollowOn s seats first vs last → All Stays vs → first.glass.shuts ≡ 0 → last.glass.shuts ≡ 0
  stays_on first last [] chain each is = ap (λ (x : SeatState). x.glass.shuts) chain ∙ is
  stays_on first last (v ∷ vs) chain each is =
      stays_left v.left last vs chain.1 (All-tail Stays v vs each) (All-head Stays v vs each (ap (λ (x : SeatState). x.glass.shuts) chain.0 ∙ is))
