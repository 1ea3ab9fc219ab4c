-- A door, and the counts of its workers.
use Rattle.std.specs.Prelude.{◌≡◌, ℕ, ◌+◌, ◌<◌, ◌++◌, Bool, true, List, [], length, max, fold, sum_by, All, Option, None, Some}
use Rattle.atomic_table.specs.Seated.{TableId}
use Rattle.be_base.specs.Counts.{raised}
use Rattle.be_base.specs.declared.names.SessionNo.{SessionNo}
use Rattle.be_door.specs.Counts.{CountState, new_count, all_kept}
use Rattle.be_door.specs.Numbers.{NumbersState}
use Rattle.be_door.specs.declared.sums.Sums.{Sums}

pub record DoorState (L : Type 0) : Type 0 where
  pub tries : ℕ
  pub port : ℕ
  pub listens : ℕ
  -- the table of the last listen, until it is settled
  pub «open» : Option TableId
  -- of the last listen, with what was settled of it
  pub links : ℕ
  pub workers : ℕ
  pub given : ℕ
  pub back : ℕ
  pub failed : ℕ
  pub refused : ℕ
  pub most : ℕ
  -- whether it keeps the links that come back, and those that it has
  pub keeps : Bool
  pub kept : List (SessionNo × L)
  -- these two never fall
  pub read_faults : ℕ
  pub write_faults : ℕ

module _ {L : Type 0} where
  -- after a call to listen, however it ended
  abbrev pub after_try : DoorState L → ℕ → DoorState L
  after_try door port = record door { tries = raised 1 door.tries; port = port }

  -- after it began to give out links, with this table
  abbrev pub after_open : DoorState L → Option TableId → ℕ → ℕ → DoorState L
  after_open door table links workers = record door {
    listens = raised 1 door.listens;
    «open» = table;
    links = links;
    workers = workers;
    given = 0;
    back = 0;
    failed = 0;
    refused = 0;
    most = 0;
    kept = [];
  }

  -- after a call to listen that began so
  abbrev pub after_listen : DoorState L → Option TableId → ℕ → ℕ → ℕ → DoorState L
  after_listen door table port links workers = after_open (after_try door port) table links workers

  -- the count is one of the door's last listen, which isn't settled
  abbrev pub IsOf : DoorState L → CountState L → Type 0
  IsOf door count = (door.«open» ≡ Some count.of) × (count.keeps ≡ door.keeps)

  -- and nothing was counted at it yet
  abbrev pub IsNew : DoorState L → CountState L → Type 0
  IsNew door count = IsOf door count × (count ≡ new_count count.of door.links door.keeps)

  -- these are all counts of the door's last listen, and each has met the end of the links. Each is there once, since a
  -- count has a seat at the table, and no two values have the same one
  pub record AreAllCounts (door : DoorState L) (counts : List (CountState L)) : Type 0 where
    pub some : 0 < door.workers
    pub as_many : length counts ≡ door.workers
    pub each_is_of : All (IsOf door) counts
    pub ended : All (λ (c : CountState L). c.ended ≡ true) counts

  -- after the counts were added
  abbrev pub after_settle : DoorState L → List (CountState L) → DoorState L
  after_settle door counts = record door {
    «open» = None;
    given = door.given + sum_by (λ c. c.given) counts;
    back = door.back + sum_by (λ c. c.back) counts;
    failed = door.failed + sum_by (λ c. c.failed) counts;
    refused = door.refused + sum_by (λ c. c.refused) counts;
    most = fold (λ most c. max most c.most) door.most counts;
    kept = door.kept ++ all_kept counts;
    read_faults = raised (sum_by (λ c. c.read_faults) counts) door.read_faults;
    write_faults = raised (sum_by (λ c. c.write_faults) counts) door.write_faults;
  }

  -- the numbers of a door
  abbrev pub door_sums : DoorState L → Sums
  door_sums door = record {
    given = door.given;
    back = door.back;
    failed = door.failed;
    refused = door.refused;
    read_faults = door.read_faults;
    write_faults = door.write_faults;
    most = door.most;
  }

  -- a door that has not listened yet
  abbrev pub new_door : Bool → DoorState L
  new_door keeps = record {
    tries = 0;
    port = 0;
    listens = 0;
    «open» = None;
    links = 0;
    workers = 0;
    given = 0;
    back = 0;
    failed = 0;
    refused = 0;
    most = 0;
    keeps = keeps;
    kept = [];
    read_faults = 0;
    write_faults = 0;
  }

-- the table of a door's numbers, where it has any
abbrev pub table_of : Option NumbersState → Option TableId
table_of None = None
table_of (Some numbers) = Some numbers.of
