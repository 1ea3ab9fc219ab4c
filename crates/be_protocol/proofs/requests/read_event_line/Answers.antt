-- A fault of the event is the refusal.
use Rattle.std.proofs.Common.{sym, ap, ◌∙◌}
use Rattle.be_base.specs.Tokens.{tokens}
use Rattle.be_change.specs.Requests.{refused}
use Rattle.be_event.specs.Events.{event_of}
use Rattle.be_protocol.specs.Requests.{asks}
use Rattle.be_protocol.proofs.Commanded.{event_fault, faulty_event}
use Rattle.be_protocol.proofs.requests.read_event_line.Goals as goal

pub returns-in_ok-of_event-in-Err-clause-read : goal.returns-in_ok-of_event-in-Err-clause-read
returns-in_ok-of_event-in-Err-clause-read c =
    let s = c.args.schema.now in
    let ts = tokens c.args.text.now in
    let read = event_fault c.in-Err.fault (event_of s ts) c.in-Err.ensures.exact c.in_ok-of_event-in-Err.ensures.0 in
    faulty_event (asks c.args.command) s ts c.in-Err.fault read ∙ ap refused (sym c.in_ok-of_event-in-Err.ensures.1)
