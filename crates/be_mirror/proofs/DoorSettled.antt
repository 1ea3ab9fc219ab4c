-- What was made of a door, from its listen on.
use Rattle.std.proofs.Common.{◌≡◌, ℕ, ◌+◌, List, sum_by, sym, ap, ◌∙◌, arith}
use Rattle.be_base.specs.Counts.{raised}
use Rattle.be_door.specs.Counts.{CountState, with_counts, all_kept}
use Rattle.be_door.specs.Door.{DoorState, after_settle, after_listen}
use Rattle.be_door.specs.Sums.{no_sums}
use Rattle.be_door.specs.declared.sums.Sums.{Sums}
use Rattle.be_hub.specs.Serving.{served_door}
use Rattle.be_mirror.specs.Links.{Listened}

twice : (n a : ℕ) → raised n a ≡ raised (raised n 0) a
twice n a = omega arith

module _ {L : Type 0} (d d₁ d₂ : DoorState L) (port links workers : ℕ) (is : Listened d d₁ port links workers) where
  module _ (counts : List (CountState L)) (settled : d₂ ≡ after_settle d₁ counts) where
    abbrev sums : Sums
    sums = with_counts no_sums counts

    abbrev whole : DoorState L
    whole = after_settle (after_listen d d₁.«open» port links workers) counts

    is_whole : d₂ ≡ whole
    is_whole = settled ∙ ap (λ x. after_settle x counts) is

    reads : whole.read_faults ≡ raised sums.read_faults d.read_faults
    reads = twice (sum_by (λ (c : CountState L). c.read_faults) counts) d.read_faults

    writes : whole.write_faults ≡ raised sums.write_faults d.write_faults
    writes = twice (sum_by (λ (c : CountState L). c.write_faults) counts) d.write_faults

    with_numbers : whole ≡ served_door d port links workers sums (all_kept counts)
    with_numbers = λ i. record whole { read_faults = reads i; write_faults = writes i }

    pub kept_is : d₂.kept ≡ all_kept counts
    kept_is = ap (λ (x : DoorState L). x.kept) is_whole

    pub keeps_is : d₂.keeps ≡ d₁.keeps
    keeps_is = ap (λ (x : DoorState L). x.keeps) settled

    pub door_served : d₂ ≡ served_door d port links workers sums d₂.kept
    door_served = is_whole ∙ (with_numbers ∙ ap (served_door d port links workers sums) (sym kept_is))

    pub all_links : d₂.given + d₂.failed + d₂.refused ≡ d₂.links → sums.refused ≡ 0 → sums.given + sums.failed ≡ links
    all_links all none =
        omega (arith, all, none, ap (λ (x : DoorState L). x.given) door_served, ap (λ (x : DoorState L). x.failed) door_served, ap (λ (x : DoorState L). x.refused) door_served, ap (λ (x : DoorState L). x.links) door_served)
