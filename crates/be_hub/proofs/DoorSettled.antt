-- What was made of a door, from its listen on.
use Rattle.std.proofs.Common.{◌≡◌, ℕ, ◌+◌, inl, inr, List, sum_by, sym, ap, ◌∙◌, subst, arith}
use Rattle.be_base.specs.Counts.{raised, HasRisenBy}
use Rattle.be_door.specs.Counts.{CountState, with_counts, all_kept}
use Rattle.be_door.specs.Door.{DoorState, after_listen, after_settle}
use Rattle.be_door.specs.Sums.{no_sums}
use Rattle.be_door.specs.declared.sums.Sums.{Sums}
use Rattle.be_hub.specs.declared.close.CloseFault.{CloseFault}
use Rattle.be_hub.specs.declared.close.CloseFault.TheVariants as close
use Rattle.be_hub.specs.Serving.{served_door, IsTried, LeavesDoor, fault_of_close}
use Rattle.be_hub.specs.Settling.{MaySettle}
use Rattle.be_hub.proofs.WereRead.{served_tried}

twice : (n a : ℕ) → raised n a ≡ raised (raised n 0) a
twice n a = omega arith

same_count : (a b : ℕ) → b ≡ a → HasRisenBy 0 a b
same_count a b is = omega (arith, is)

module _ {L : Type 0} (d d₁ d₂ : DoorState L) (port links workers : ℕ) where
  module _ (is : d₁ ≡ after_listen d d₁.«open» port links workers) where
    pub listened : IsTried d d₁ port
    listened = record {
      tries = ap (λ (x : DoorState L). x.tries) is;
      port_is = ap (λ (x : DoorState L). x.port) is;
      listens = inr (ap (λ (x : DoorState L). x.listens) is);
      keeps = ap (λ (x : DoorState L). x.keeps) is;
      read_faults = same_count d.read_faults d₁.read_faults (ap (λ (x : DoorState L). x.read_faults) is);
      write_faults = same_count d.write_faults d₁.write_faults (ap (λ (x : DoorState L). x.write_faults) is);
    }

    module _ (counts : List (CountState L)) (settled : d₂ ≡ after_settle d₁ counts) where
      abbrev sums : Sums
      sums = with_counts no_sums counts

      abbrev whole : DoorState L
      whole = after_settle (after_listen d d₁.«open» port links workers) counts

      is_whole : d₂ ≡ whole
      is_whole = settled ∙ ap (λ x. after_settle x counts) is

      reads : whole.read_faults ≡ raised sums.read_faults d.read_faults
      reads = twice (sum_by (λ (c : CountState L). c.read_faults) counts) d.read_faults

      writes : whole.write_faults ≡ raised sums.write_faults d.write_faults
      writes = twice (sum_by (λ (c : CountState L). c.write_faults) counts) d.write_faults

      with_numbers : whole ≡ served_door d port links workers sums (all_kept counts)
      with_numbers = λ i. record whole { read_faults = reads i; write_faults = writes i }

      pub kept_is : d₂.kept ≡ all_kept counts
      kept_is = ap (λ (x : DoorState L). x.kept) is_whole

      pub keeps_is : d₂.keeps ≡ d₁.keeps
      keeps_is = ap (λ (x : DoorState L). x.keeps) settled

      pub door_served : d₂ ≡ served_door d port links workers sums d₂.kept
      door_served = is_whole ∙ (with_numbers ∙ ap (served_door d port links workers sums) (sym kept_is))

      pub all_links : d₂.given + d₂.failed + d₂.refused ≡ d₂.links → sums.refused ≡ 0 → sums.given + sums.failed ≡ links
      all_links all none =
          omega (arith, all, none, ap (λ (x : DoorState L). x.given) door_served, ap (λ (x : DoorState L). x.failed) door_served, ap (λ (x : DoorState L). x.refused) door_served, ap (λ (x : DoorState L). x.links) door_served)

      module _ (all : d₂.given + d₂.failed + d₂.refused ≡ d₂.links) (none : sums.refused ≡ 0) (back : sums.back ≡ sums.given) where
        pub leaves_closing : (f : CloseFault) → LeavesDoor d d₂ port links workers (fault_of_close f)
        leaves_closing (close.Split rift) = (sums, (back, all_links all none), door_served)
        leaves_closing (close.Stray stray) = (sums, (back, all_links all none), door_served)
        leaves_closing close.NoMemory = served_tried d d₂ port links workers sums d₂.kept door_served

module _ {L : Type 0} (d d₁ d₂ : DoorState L) (port links workers : ℕ) (is : d₁ ≡ after_listen d d₁.«open» port links workers) (counts : List (CountState L)) (back : (with_counts no_sums counts).back ≡ (with_counts no_sums counts).given) where
  pub leaves_settling : (f : CloseFault) → MaySettle d₁ d₂ counts f → LeavesDoor d d₂ port links workers (fault_of_close f)
  leaves_settling (close.Split rift) m = leaves_closing d d₁ d₂ port links workers is counts m.settled m.links m.none_refused back (close.Split rift)
  leaves_settling (close.Stray stray) m = leaves_closing d d₁ d₂ port links workers is counts m.settled m.links m.none_refused back (close.Stray stray)
  leaves_settling close.NoMemory (inl m) = subst (λ x. IsTried d x port) (sym m) (listened d d₁ d₂ port links workers is)
  leaves_settling close.NoMemory (inr m) = served_tried d d₂ port links workers (with_counts no_sums counts) d₂.kept (door_served d d₁ d₂ port links workers is counts m)
