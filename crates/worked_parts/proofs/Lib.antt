pub mod SeatPasses
