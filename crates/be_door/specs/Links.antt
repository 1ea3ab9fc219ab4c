-- The links that a door gives out.
use Rattle.std.specs.Prelude.{◌≡◌, [], IfSome}
use Rattle.be_io.specs.Outside.{LinkState}
use Rattle.be_door.specs.declared.meter.Meter.{Meter}

-- nobody has read from the link or written to it
pub record IsUnused (link : LinkState) : Type 0 where
  pub no_read_failed : link.source.faults ≡ 0
  pub none_taken : link.source.taken ≡ 0
  -- all bytes that it gives from first to last, where it tells them
  pub all_left : link.source.left ≡ link.source.whole
  pub no_write_failed : link.sink.faults ≡ 0
  pub none_refused : link.sink.refusals ≡ 0
  pub none_held : IfSome link.sink.held (λ held. held ≡ [])
  pub none_kept_back : link.sink.kept_back ≡ 0

-- nothing passed yet
abbrev pub no_numbers : Meter
no_numbers = record { taken = 0; read_faults = 0; write_faults = 0 }
