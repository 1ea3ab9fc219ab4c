-- How a conversation ends, and by which reply.
use Rattle.std.specs.Prelude.{◌≡◌, Bool, true, false, List, [], ◌∷◌, ◌++◌, Option, Some, None}
use Rattle.std.specs.List.{list_all}
use Rattle.be_io.specs.declared.faults.SinkFault.{SinkFault}
use Rattle.be_io.specs.declared.faults.SinkFault.TheVariants as sink
use Rattle.be_change.specs.Requests.{Request, quit, Reply, split, Exchange}
use Rattle.be_protocol.specs.declared.ends.SessionEnd.{SessionEnd}
use Rattle.be_protocol.specs.declared.ends.SessionEnd.TheVariants.{Quit, Split, WriteFault, NoMemory}

-- a SPLIT ends its session, and so does each reply to a QUIT
abbrev pub end_after : Request → Reply → Option SessionEnd
end_after r (split a b) = Some (Split a b)
end_after quit reply = Some Quit
end_after r reply = None

abbrev pub has_not_ended : Option SessionEnd → Bool
has_not_ended None = true
has_not_ended (Some end) = false

-- the session goes on after this exchange
abbrev pub goes_on : Exchange → Bool
goes_on p = has_not_ended (end_after p.0 p.1)

-- none of these replies ended the session, or the last one did so
abbrev pub EndsBy : Option SessionEnd → List Exchange → Type 0
EndsBy None ps = list_all goes_on ps ≡ true
EndsBy (Some end) ps =
    (front : List Exchange) × (last : Exchange) × (ps ≡ front ++ last ∷ []) × (list_all goes_on front ≡ true)
    × (end_after last.0 last.1 ≡ Some end)

-- how it ended where the output broke off
abbrev pub end_of : SinkFault → SessionEnd
end_of sink.Failed = WriteFault
end_of sink.NoMemory = NoMemory
