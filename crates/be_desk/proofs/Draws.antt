-- What may be drawn, and why nothing is.
use Rattle.std.proofs.Common.{◌≡◌, ◌≢◌, ℕ, ◌<◌, ◌==◌, Bool, true, false, cond, List, length, None, refl, sym, ◌∙◌, subst, arith}
use Rattle.std.proofs.lemmas.Bool.{eq-eqb, eqb-true}
use Rattle.be_base.specs.Text.{Text}
use Rattle.be_base.specs.declared.limits.TheConstants.{COUNT_END}
use Rattle.be_model.specs.declared.changes.Row.{Row}
use Rattle.be_model.specs.Lies.{row_lies}
use Rattle.be_model.specs.Schemas.{Attributes}
use Rattle.be_change.specs.History.{Entry, subscribed, unsubscribed, left, entries_of, has_left, stand, live}
use Rattle.be_change.specs.Sound.{MayAppend}
use Rattle.be_change.specs.Walk.{HasNameAt, HasNameOfAnotherAt}
use Rattle.be_change.proofs.Grows.{rising_live}
use Rattle.be_core.specs.World.{named}
use Rattle.be_core.proofs.Naming.{named_none, named_at, named_of, named_of_another}
use Rattle.be_desk.specs.Ledgers.{IsNamed}

-- a session that stands at this number hasn't left, and has as many entries
pub present_at : (k n : ℕ) (h : List Entry) → stand k h ≡ n → n < COUNT_END → (has_left k h ≡ false) × (length (entries_of k h) ≡ n)
present_at k n h is low = step (has_left k h) is
  where
    step : (b : Bool) → cond b COUNT_END (length (entries_of k h)) ≡ n → (b ≡ false) × (length (entries_of k h) ≡ n)
    step true is = absurd (omega (arith, is, low))
    step false is = (refl, is)

pub may_sub : (s : Attributes) (h : List Entry) (k n : ℕ) (row : Row) → 0 < k → stand k h ≡ n → n < COUNT_END → named row.name (live h) ≡ None → row.id.0 ≡ length h → row.session.0 ≡ k → row_lies s row ≡ true
    → MayAppend s h (subscribed k n row)
may_sub s h k n row some stood low free id owner lies =
    let p = present_at k n h stood low in
    record {
      follows = record { opening = λ nobody. absurd (omega (arith, nobody, some)); serial = sym p.1; present = p.0; allowed = (named_none row.name (live h) free, id, owner) };
      lies = lies;
    }

pub may_unsub : (s : Attributes) (h : List Entry) (k n : ℕ) (name : Text) (id owner : ℕ) → 0 < k → stand k h ≡ n → n < COUNT_END → IsNamed name (live h) id owner → owner ≡ k → MayAppend s h (unsubscribed k n name)
may_unsub s h k n name id owner some stood low there same =
    let p = present_at k n h stood low in
    record {
      follows = record {
        opening = λ nobody. absurd (omega (arith, nobody, some));
        serial = sym p.1;
        present = p.0;
        allowed = named_of k name (live h) there.0 there.1 (eq-eqb there.0.1.session.0 k (there.3 ∙ same));
      };
      lies = refl;
    }

pub named_there : (h : List Entry) (name : Text) (id owner : ℕ) → IsNamed name (live h) id owner → HasNameAt (live h) id name
named_there h name id owner there = subst (λ (i : ℕ). HasNameAt (live h) i name) there.2 (named_at name (live h) there.0 (rising_live h) there.1).1

pub named_elsewhere : (h : List Entry) (k : ℕ) (name : Text) (id owner : ℕ) → IsNamed name (live h) id owner → owner ≢ k → HasNameOfAnotherAt k (live h) id name
named_elsewhere h k name id owner there other =
    subst (λ (i : ℕ). HasNameOfAnotherAt k (live h) i name) there.2
    (named_of_another k name (live h) there.0 (rising_live h) there.1 (differs (there.0.1.session.0 == k) refl))
  where
    differs : (b : Bool) → (there.0.1.session.0 == k) ≡ b → (there.0.1.session.0 == k) ≡ false
    differs true is = absurd (other (sym there.3 ∙ eqb-true there.0.1.session.0 k is))
    differs false is = is

pub few_serial : (serial own : ℕ) → own < 9223372036854775808 → serial ≡ own → serial < COUNT_END
few_serial serial own few is = omega (arith, few, is)
