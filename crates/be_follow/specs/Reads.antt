-- The promise of a follower that answers events: how the conversation may end, with the replies that are due. The list stays as
-- it is.
use Rattle.std.specs.Prelude.{◌≡◌, List, [], ◌∷◌, ◌++◌, All}
use Rattle.be_io.specs.Outside.{LinkState}
use Rattle.be_model.specs.Schemas.{Attributes}
use Rattle.be_change.specs.History.{Entry}
use Rattle.be_change.specs.Requests.{Exchange}
use Rattle.be_protocol.specs.declared.ends.SessionEnd.{SessionEnd}
use Rattle.be_protocol.specs.declared.ends.SessionEnd.TheVariants.{Split}
use Rattle.be_protocol.specs.Conduct.{Conduct}
use Rattle.be_protocol.specs.Conversation.{Terms, ConversationEnds}
use Rattle.be_follow.specs.Asked.{asked_of_follower, IsDue}

-- each exchange has the reply that is due
abbrev pub AreDue : List Entry → List Exchange → Type 0
AreDue h ps = All (λ (p : Exchange). IsDue h p.0 p.1) ps

-- a follower over its list: each reply is due, and nothing changes the list
abbrev pub reads_conduct : Attributes → Conduct (List Entry)
reads_conduct s = record {
  schema = s;
  asks = asked_of_follower s;
  Replies = λ p h h'. IsDue h p.0 p.1 × (h' ≡ h);
  RepliesInPart = λ p out h h'. IsDue h p.0 p.1 × (h' ≡ h);
  Tends = λ h h'. h' ≡ h;
  Leaves = λ h h'. h' ≡ h;
}

-- what the exchanges fulfil
abbrev pub reads_terms : Attributes → List Entry → Terms
reads_terms s h = record {
  schema = s;
  asks = asked_of_follower s;
  Whole = λ end lines ps. AreDue h ps;
  InPart = λ lines ps p out. AreDue h (ps ++ p ∷ []);
}

-- how it may end. Untouched says that the link is as it was. No reply tells two numbers that differ
abbrev pub ReadsEnd : Type 0 → Attributes → List Entry → LinkState → LinkState → SessionEnd → Type 0
ReadsEnd Untouched s h before after (Split seen written) = ⊥
ReadsEnd Untouched s h before after end = ConversationEnds Untouched (reads_terms s h) before after end
