-- What a mirror's run leaves, over what its workers and its feed left.
use Rattle.std.proofs.Common.{◌≡◌, ℕ, ◌+◌, Bool, false, List, map, Option, None, Some, sym, ap, ◌∙◌, subst, refl}
use Rattle.std.specs.List.{All, list_any}
use Rattle.std.specs.Option.{is_some}
use Rattle.be_base.specs.Lists.{BeginsWith}
use Rattle.be_io.specs.Outside.{LinkState}
use Rattle.be_model.specs.Schemas.{Attributes}
use Rattle.be_change.specs.History.{Entry}
use Rattle.be_door.specs.Counts.{CountState, with_counts}
use Rattle.be_door.specs.Door.{DoorState, after_settle}
use Rattle.be_door.specs.Sums.{no_sums}
use Rattle.be_door.specs.declared.sums.Sums.{Sums}
use Rattle.be_hub.specs.Files.{lacks_memory}
use Rattle.be_protocol.specs.declared.ends.SessionEnd.{SessionEnd}
use Rattle.be_published.specs.States.{GlassState}
use Rattle.be_mirror.specs.Links.{Listened, ReadWorkerServed}
use Rattle.be_published.specs.declared.beyond.Beyond.{Beyond}
use Rattle.be_mirror.specs.Serving.{LinksAreRead, DoorAfterMirrorFault}
use Rattle.be_mirror.specs.declared.serving.MirrorFault.TheVariants as fault
use Rattle.be_mirror.proofs.AllRead.{links_are_read, all_seen, all_back}
use Rattle.be_mirror.proofs.DoorSettled.{kept_is, keeps_is, all_links, door_served}

pub no_shade : {X : Type 0} (o : Option X) → is_some o ≡ false → o ≡ None
no_shade None is = refl
no_shade (Some x) is = absurd cc

module _ {L : Type 0} (d d₁ d₂ : DoorState L) (port links workers : ℕ) (is : Listened d d₁ port links workers) where
  module _ (told : L → LinkState) {E : Type 0} (glass_in : E → GlassState) (count_in : E → CountState L) (ends_in : E → List SessionEnd) (s : Attributes) where
    pub links_read : (h : List Entry) (shuts : Bool) (ends : List E) → All (λ e. ReadWorkerServed told s d₁ (glass_in e) (count_in e) (ends_in e)) ends
        → (glasses : List GlassState) → glasses ≡ map glass_in ends → All (λ (x : GlassState). BeginsWith h x.known) glasses → (shuts ≡ false → All (λ e. (glass_in e).shuts ≡ 0) ends)
        → list_any (λ e. list_any lacks_memory (ends_in e)) ends ≡ false → (sums : Sums) → sums ≡ with_counts no_sums (map count_in ends) → sums.refused ≡ 0
        → d₂ ≡ after_settle d₁ (map count_in ends) → d₂.given + d₂.failed + d₂.refused ≡ d₂.links → LinksAreRead told s h shuts links sums d₂.keeps d₂.kept
    links_read h shuts ends w glasses are shown quiet none sums sums_are none_refused settled all =
        let counts = map count_in ends in
        let refused : (with_counts no_sums counts).refused ≡ 0 = sym (ap (λ (x : Sums). x.refused) sums_are) ∙ none_refused in
        let seen = all_seen told glass_in count_in ends_in s d₁ h shuts ends glasses are shown quiet none in
        let base = links_are_read told glass_in count_in ends_in s d₁ h shuts links ends w seen refused (all_links d d₁ d₂ port links workers is counts settled all refused) in
        subst (λ x. LinksAreRead told s h shuts links x d₂.keeps d₂.kept) (sym sums_are)
        (subst (λ b. LinksAreRead told s h shuts links (with_counts no_sums counts) b d₂.kept) (sym (keeps_is d d₁ d₂ port links workers is counts settled))
        (subst (λ k. LinksAreRead told s h shuts links (with_counts no_sums counts) d₁.keeps k) (sym (kept_is d d₁ d₂ port links workers is counts settled)) base))

    -- where some reader knows more than what is published
    pub door_left : (beyond : Beyond) (ends : List E) → All (λ e. ReadWorkerServed told s d₁ (glass_in e) (count_in e) (ends_in e)) ends
        → (sums : Sums) → sums ≡ with_counts no_sums (map count_in ends) → sums.refused ≡ 0 → d₂ ≡ after_settle d₁ (map count_in ends) → d₂.given + d₂.failed + d₂.refused ≡ d₂.links
        → DoorAfterMirrorFault d d₂ port links workers (fault.Ahead beyond)
    door_left beyond ends w sums sums_are none_refused settled all =
        let counts = map count_in ends in
        let refused : (with_counts no_sums counts).refused ≡ 0 = sym (ap (λ (x : Sums). x.refused) sums_are) ∙ none_refused in (
          with_counts no_sums counts,
          (all_back told glass_in count_in ends_in s d₁ ends w, all_links d d₁ d₂ port links workers is counts settled all refused),
          door_served d d₁ d₂ port links workers is counts settled,
        )
