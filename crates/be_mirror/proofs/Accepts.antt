-- A worker draws links.
use Rattle.std.proofs.Common.{◌≡◌, ℕ, ◌+◌, ◌<◌, IfSome, Some, List, Option, Result, Err, refl, sym, ap, subst, arith}
use Rattle.be_base.specs.Counts.{raised}
use Rattle.be_io.specs.Outside.{LinkState}
use Rattle.be_io.specs.declared.faults.AcceptFault.{AcceptFault}
use Rattle.be_io.specs.declared.faults.AcceptFault.TheVariants as accept
use Rattle.be_model.specs.Schemas.{Attributes}
use Rattle.be_door.specs.Counts.{CountState, after_given, after_failed, after_refused, after_end}
use Rattle.be_protocol.specs.declared.ends.SessionEnd.{SessionEnd}
use Rattle.be_published.specs.States.{GlassState}
use Rattle.be_mirror.specs.Links.{ReadLinksServed}
use Rattle.be_mirror.proofs.ReadLinks.{accepted}

module _ {L : Type 0} (told : L → LinkState) (s : Attributes) (g : GlassState) (c c' : CountState L) (ends : List SessionEnd) (l : ReadLinksServed told s g c ends) where
  pub was_given : c' ≡ after_given c → ReadLinksServed told s g c' ends
  was_given is = subst (λ x. ReadLinksServed told s g x ends) (sym is) (accepted told s g c (after_given c) ends l refl refl refl (λ h. h) refl refl l.failed)

  pub has_ended : c' ≡ after_end c → ReadLinksServed told s g c' ends
  has_ended is = subst (λ x. ReadLinksServed told s g x ends) (sym is) (accepted told s g c (after_end c) ends l refl refl refl (λ h. h) refl refl l.failed)

  was_failed : c' ≡ after_failed c → ReadLinksServed told s g c' ends
  was_failed is = subst (λ x. ReadLinksServed told s g x ends) (sym is) (accepted told s g c (after_failed c) ends l refl refl refl (λ h. one_more c.read_faults) refl refl (λ some. one_more c.read_faults))
    where
      one_more : (n : ℕ) → 0 < raised 1 n
      one_more n = omega arith

  was_refused : c' ≡ after_refused c → ReadLinksServed told s g c' ends
  was_refused is = subst (λ x. ReadLinksServed told s g x ends) (sym is) (accepted told s g c (after_refused c) ends l refl refl refl (λ h. h) refl refl l.failed)

  -- an accept that gave no link leaves what was served
  pub none_given : {X : Type 0} (r : Result X AcceptFault) (f : AcceptFault) → r ≡ Err f → (r ≡ Err accept.Failed → c' ≡ after_failed c) → (r ≡ Err accept.NoMemory → c' ≡ after_refused c) → ReadLinksServed told s g c' ends
  none_given r accept.Failed is failed refused = was_failed (failed is)
  none_given r accept.NoMemory is failed refused = was_refused (refused is)

-- what such an accept counts
pub one_less : {L X : Type 0} (c c' : CountState L) (r : Result X AcceptFault) (f : AcceptFault) → r ≡ Err f → (r ≡ Err accept.Failed → c' ≡ after_failed c) → (r ≡ Err accept.NoMemory → c' ≡ after_refused c)
    → (c'.of ≡ c.of) × (c'.keeps ≡ c.keeps) × (c'.ended ≡ c.ended) × (c'.given ≡ c.given) × (c'.back ≡ c.back) × (c'.links ≡ c.links) × (c'.failed + c'.refused ≡ c.failed + c.refused + 1)
one_less {L} c c' r accept.Failed is failed refused = let e = failed is in (
  ap (λ (x : CountState L). x.of) e,
  ap (λ (x : CountState L). x.keeps) e,
  ap (λ (x : CountState L). x.ended) e,
  ap (λ (x : CountState L). x.given) e,
  ap (λ (x : CountState L). x.back) e,
  ap (λ (x : CountState L). x.links) e,
  omega (arith, ap (λ (x : CountState L). x.failed) e, ap (λ (x : CountState L). x.refused) e),
)
one_less {L} c c' r accept.NoMemory is failed refused = let e = refused is in (
  ap (λ (x : CountState L). x.of) e,
  ap (λ (x : CountState L). x.keeps) e,
  ap (λ (x : CountState L). x.ended) e,
  ap (λ (x : CountState L). x.given) e,
  ap (λ (x : CountState L). x.back) e,
  ap (λ (x : CountState L). x.links) e,
  omega (arith, ap (λ (x : CountState L). x.failed) e, ap (λ (x : CountState L). x.refused) e),
)

pub some_said : {X : Type 0} (A : Type 0) (o : Option X) (x : X) → o ≡ Some x → IfSome o (λ _. A) → A
some_said {X} A o x is p = subst (λ (y : Option X). IfSome y (λ _. A)) is p
