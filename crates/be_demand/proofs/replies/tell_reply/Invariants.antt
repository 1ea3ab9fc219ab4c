-- What is left begins with lines of the reply.
use Rattle.std.proofs.Common.{◌≡◌, ℕ, ◌≤◌, ◌++◌, List, length}
use Rattle.be_base.specs.Text.{Text}
use Rattle.be_model.specs.Schemas.{Attributes}
use Rattle.be_change.specs.Requests.{Reply}
use Rattle.be_protocol.specs.Replies.{closing_line, reply_text}
use Rattle.be_demand.specs.Texts.{HasLines}
use Rattle.be_demand.proofs.Blocks.{IsBlock}
use Rattle.be_demand.proofs.replies.tell_reply.Given as goal

abbrev pub invariant-loop-cut : goal.invariant-loop-cut
invariant-loop-cut l = record {
  within : length l.rest ≤ length l.text;
  block : (s : Attributes) (r : Reply) (rest : List ℕ) → HasLines s r → l.text ≡ reply_text s r ++ rest → (ls : List Text) × IsBlock l.rest ls (closing_line r) rest;
}

abbrev pub decreases-loop-cut : goal.decreases-loop-cut
decreases-loop-cut l = length l.rest
