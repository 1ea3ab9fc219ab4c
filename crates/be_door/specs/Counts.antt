-- One worker's count of the links that it was given and gave back.
use Rattle.std.specs.Prelude.{◌≡◌, ℕ, ◌+◌, ◌≤◌, Bool, true, false, List, [], length, max, fold, sum_by, if◌then◌else◌}
use Rattle.std.specs.List.{flat_map}
use Rattle.atomic_table.specs.Seated.{TableId}
use Rattle.be_base.specs.Counts.{raised}
use Rattle.be_base.specs.declared.limits.TheConstants.{LINKS}
use Rattle.be_base.specs.declared.names.SessionNo.{SessionNo}
use Rattle.be_io.specs.Outside.{LinkState}
use Rattle.be_door.specs.Kept.{put_last}
use Rattle.be_door.specs.declared.meter.Meter.{Meter}
use Rattle.be_door.specs.declared.sums.Sums.{Sums}

pub record CountState (L : Type 0) : Type 0 where
  -- the table of the listen that made it
  pub of : TableId
  pub links : ℕ
  pub given : ℕ
  pub back : ℕ
  -- accepts that failed, and accepts for which memory ran out
  pub failed : ℕ
  pub refused : ℕ
  -- it has met the end of the links
  pub ended : Bool
  pub read_faults : ℕ
  pub write_faults : ℕ
  -- the most bytes that a link gave
  pub most : ℕ
  -- whether it keeps the links that come back, and those that it has, in this order
  pub keeps : Bool
  pub kept : List (SessionNo × L)

module _ {L : Type 0} where
  -- a count at which nothing was counted yet
  abbrev pub new_count : TableId → ℕ → Bool → CountState L
  new_count of links keeps = record {
    of = of;
    links = links;
    given = 0;
    back = 0;
    failed = 0;
    refused = 0;
    ended = false;
    read_faults = 0;
    write_faults = 0;
    most = 0;
    keeps = keeps;
    kept = [];
  }

  -- what always holds of a count
  pub record IsSound (count : CountState L) : Type 0 where
    -- each number that was drawn below `links` is one of these
    pub within : count.given + count.failed + count.refused ≤ count.links
    pub few : count.links ≤ LINKS
    pub out : count.back ≤ count.given
    pub kept : length count.kept ≡ (if count.keeps then count.back else 0)

  -- after an accept that gave out a link
  abbrev pub after_given : CountState L → CountState L
  after_given count = record count { given = count.given + 1 }

  -- after an accept that failed
  abbrev pub after_failed : CountState L → CountState L
  after_failed count = record count { failed = count.failed + 1; read_faults = raised 1 count.read_faults }

  -- after an accept for which memory ran out
  abbrev pub after_refused : CountState L → CountState L
  after_refused count = record count { refused = count.refused + 1 }

  -- after all links were drawn
  abbrev pub after_end : CountState L → CountState L
  after_end count = record count { ended = true }

  -- after a link came back from its session with these numbers
  abbrev pub after_link : CountState L → SessionNo → L → Meter → CountState L
  after_link count session link meter = record count {
    back = count.back + 1;
    read_faults = raised meter.read_faults count.read_faults;
    write_faults = raised meter.write_faults count.write_faults;
    most = max count.most meter.taken;
    kept = put_last count.keeps count.kept session link;
  }

  -- and with what it tells then
  abbrev pub after_back : CountState L → SessionNo → L → LinkState → CountState L
  after_back count session link told =
      after_link count session link (record { taken = told.source.taken; read_faults = told.source.faults; write_faults = told.sink.faults })

  -- the numbers of a count
  abbrev pub sums_of : CountState L → Sums
  sums_of count = record {
    given = count.given;
    back = count.back;
    failed = count.failed;
    refused = count.refused;
    read_faults = count.read_faults;
    write_faults = count.write_faults;
    most = count.most;
  }

  -- those of all counts beside what was there
  abbrev pub with_counts : Sums → List (CountState L) → Sums
  with_counts sums counts = record {
    given = sums.given + sum_by (λ c. c.given) counts;
    back = sums.back + sum_by (λ c. c.back) counts;
    failed = sums.failed + sum_by (λ c. c.failed) counts;
    refused = sums.refused + sum_by (λ c. c.refused) counts;
    read_faults = raised (sum_by (λ c. c.read_faults) counts) sums.read_faults;
    write_faults = raised (sum_by (λ c. c.write_faults) counts) sums.write_faults;
    most = fold (λ most c. max most c.most) sums.most counts;
  }

  -- all links that they kept, in order
  abbrev pub all_kept : List (CountState L) → List (SessionNo × L)
  all_kept counts = flat_map (λ c. c.kept) counts
