-- What a door has of its links, or one worker's count: how many, and what came of them.
use Rattle.std.specs.Prelude.{ℕ, ◌+◌, max, Result, Ok, Err}
use Rattle.be_base.specs.Counts.{raised}
use Rattle.be_io.specs.declared.faults.AcceptFault.{AcceptFault}
use Rattle.be_io.specs.declared.faults.AcceptFault.TheVariants.{Failed, NoMemory}
use Rattle.be_door.specs.declared.meter.Meter.{Meter}
use Rattle.be_door.specs.declared.sums.Sums.{Sums}

abbrev pub no_sums : Sums
no_sums = record { given = 0; back = 0; failed = 0; refused = 0; read_faults = 0; write_faults = 0; most = 0 }

-- both together
abbrev pub plus : Sums → Sums → Sums
plus a b = record {
  given = a.given + b.given;
  back = a.back + b.back;
  failed = a.failed + b.failed;
  refused = a.refused + b.refused;
  read_faults = raised b.read_faults a.read_faults;
  write_faults = raised b.write_faults a.write_faults;
  most = max a.most b.most;
}

-- after an accept whose number was below the links
abbrev pub after_accept : {L : Type 0} → Sums → Result L AcceptFault → Sums
after_accept sums (Ok link) = record sums { given = sums.given + 1 }
after_accept sums (Err Failed) = record sums { failed = sums.failed + 1; read_faults = raised 1 sums.read_faults }
after_accept sums (Err NoMemory) = record sums { refused = sums.refused + 1 }

-- how many accepts these are
abbrev pub accepts : Sums → ℕ
accepts sums = sums.given + sums.failed + sums.refused

-- after a link came back with these numbers
abbrev pub after_meter : Sums → Meter → Sums
after_meter sums meter = record sums {
  back = sums.back + 1;
  read_faults = raised meter.read_faults sums.read_faults;
  write_faults = raised meter.write_faults sums.write_faults;
  most = max sums.most meter.taken;
}
