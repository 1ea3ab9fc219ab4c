-- How the sessions' counts are shared out to workers, and gathered.
use Rattle.std.specs.Prelude.{◌≡◌, ℕ, List, drop, length, map, Some, Result, Ok, slice_get}
use Rattle.std.specs.List.{range_with_len}
use Rattle.std.specs.declared.alloc.Global.{Global}
use Rattle.std.specs.declared.vec.Vec.{Vec}
use Rattle.be_base.specs.declared.names.NoMemory.{NoMemory}
use Rattle.be_change.specs.Requests.{Exchange}
use Rattle.be_heat.specs.Seats.{HeatState, SeatState, IsOf, at_word}
use Rattle.be_model.specs.Schemas.{Attributes}
use Rattle.be_demand.specs.Counts.{HasCounted}
use Rattle.be_demand.specs.Demand.{DemandState, demand_state, IsOver}
use Rattle.be_demand.specs.declared.demand.CountJob.{CountJob}

-- the bytes of a file
abbrev pub plain : Vec ℕ Global → List ℕ
plain file = file.items

-- the number of HITs stands first, and then that of each attribute
abbrev pub told_by : List ℕ → DemandState
told_by words = demand_state (at_word words 0) (drop 1 words)

-- a seat that was given back
abbrev pub done : SeatState → Result SeatState NoMemory
done seat = Ok seat

-- a job for each seat, with its place
abbrev pub seat_in : CountJob → SeatState
seat_in job = job.seat

abbrev pub place_in : CountJob → ℕ
place_in job = job.place

pub record AreJobs (seats : List SeatState) (jobs : List CountJob) : Type 0 where
  pub seats_are : map seat_in jobs ≡ seats
  pub places_are : map place_in jobs ≡ range_with_len 0 (length jobs)

-- the seat has counted the file at this place
pub record CountsAt (s : Attributes) (heat : HeatState) (files transcripts : List (List ℕ)) (place : ℕ) (seat : SeatState) : Type 0 where
  pub belongs : IsOf heat seat
  pub counted : (file transcript : List ℕ) (ps : List Exchange) → slice_get files place ≡ Some file → slice_get transcripts place ≡ Some transcript
      → IsOver s file transcript ps → HasCounted heat.words seat.own ps
