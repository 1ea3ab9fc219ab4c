-- A reply of a session that was written, and how it ends the session.
use Rattle.std.specs.Prelude.{◌≡◌, ℕ, Bool, true, false, List, Option, Some, None}
use Rattle.be_io.specs.Sink.{SinkState, Wrote}
use Rattle.be_model.specs.Schemas.{Attributes}
use Rattle.be_change.specs.Requests.{Reply}
use Rattle.be_protocol.specs.Replies.{reply_text}
use Rattle.be_protocol.specs.declared.ends.SessionEnd.{SessionEnd}
use Rattle.be_protocol.specs.declared.ends.SessionEnd.TheVariants as ends
use Rattle.be_protocol.specs.declared.replier.Turn.{Turn}
use Rattle.be_protocol.specs.declared.short.Short.{Short}
use Rattle.be_protocol.specs.declared.short.Short.TheVariants.{Split}

-- a reply that takes no room ended its session so, or didn't
abbrev pub short_end : (quits : Bool) → Short → Option SessionEnd
short_end quits (Split seen written) = Some (ends.Split seen written)
short_end true short = Some ends.Quit
short_end false short = None

-- this text was written, of a reply that ended its session so or didn't
abbrev pub SaysText : Option SessionEnd → List ℕ → SinkState → SinkState → Turn → Type 0
SaysText by text before after turn = (turn.by ≡ by) × Wrote before after text turn.written

abbrev pub Says : Option SessionEnd → Reply → SinkState → SinkState → Turn → Type 0
Says by reply before after turn = (s : Attributes) → SaysText by (reply_text s reply) before after turn
