-- What one answer makes of a session's glass.
use Rattle.std.proofs.Common.{◌≡◌, inl, inr, ℕ, ◌≤◌, Bool, true, false, List, length, take, Result, Err, IfErr, refl, sym, ap, ◌∙◌, subst, arith}
use Rattle.be_base.specs.Lists.{BeginsWith}
use Rattle.be_base.proofs.Beginnings.{BeginsWith-same, BeginsWith-take, BeginsWith-length}
use Rattle.be_base.specs.declared.names.NoRead.{NoRead}
use Rattle.be_base.specs.declared.names.NoRead.TheVariants as unread
use Rattle.be_model.specs.Schemas.{Attributes}
use Rattle.be_change.specs.History.{Entry}
use Rattle.be_change.specs.Requests.{Request, refused, publish, costing, dumping, tailing, quit, Refusal, Reply, refusal, bye, no_memory, shut}
use Rattle.be_change.specs.Walk.{Walk, having_seen, having_ended, IsReadAt}
use Rattle.be_published.specs.Reads as glass
use Rattle.be_published.specs.States.{GlassState}
use Rattle.be_protocol.specs.Runs.{is_quit}
use Rattle.be_protocol.specs.Short.{plain_reply, short_of}
use Rattle.be_mirror.specs.Legal.{MirrorAnswers}
use Rattle.be_mirror.specs.Sessions.{ReadSteps, GlassCounts, ReadReplies}

-- a read was answered of what is known then
read_steps : (s : Attributes) (r : Request) (reply : Reply) (n : ℕ) (known known' : List Entry) → is_quit r ≡ false → BeginsWith known' known → n ≡ length known'
    → ((h : List Entry) (w : Walk) → IsReadAt h w n → take n h ≡ known' → MirrorAnswers s h r reply w (having_seen n w)) → ReadSteps s (r, reply) known known'
read_steps s r reply n known known' on grows at answers = record {
  grows = grows;
  borne = λ h w begins seen going.
      let longer : length known ≤ length known' = BeginsWith-length known' known grows in
      let inside : length known' ≤ length h = BeginsWith-length h known' begins in
      let front : take n h ≡ known' = ap (λ (m : ℕ). take m h) at ∙ BeginsWith-take h known' begins in
      record {
        next = having_seen n w;
        answers = answers h w (record { covers = omega (arith, seen, longer, at); within = omega (arith, inside, at) }) front;
        seen = omega (arith, at);
        ended = going ∙ sym on;
      };
}

-- a reply that tells what the glass answered, which counted it
pub read_replies : (s : Attributes) (r : Request) (reply : Reply) (n : ℕ) (g g' : GlassState) → is_quit r ≡ false → glass.IsReadAt g g' n → GlassCounts reply g g'
    → ((h : List Entry) (w : Walk) → IsReadAt h w n → take n h ≡ g'.known → MirrorAnswers s h r reply w (having_seen n w)) → ReadReplies s (r, reply) g g'
read_replies s r reply n g g' on read counts answers = record { steps = read_steps s r reply n g.known g'.known on read.known read.length answers; counts = counts }

-- an answer tells no length
same_steps : (s : Attributes) (r : Request) (reply : Reply) (known known' : List Entry) → is_quit r ≡ false → BeginsWith known' known → ((h : List Entry) (w : Walk) → MirrorAnswers s h r reply w w) → ReadSteps s (r, reply) known known'
same_steps s r reply known known' on grows answers = record {
  grows = grows;
  borne = λ h w begins seen going. record {
    next = w;
    answers = answers h w;
    seen = omega (arith, seen, BeginsWith-length known' known grows);
    ended = going ∙ sym on;
  };
}

-- a QUIT is told the length of what is known then
pub quit_replies : (s : Attributes) (n : ℕ) (g g' : GlassState) → BeginsWith g'.known g.known → n ≡ length g'.known → GlassCounts (bye n) g g' → ReadReplies s (quit, bye n) g g'
quit_replies s n g g' grows at counts = record {
  steps = record {
    grows = grows;
    borne = λ h w begins seen going. record {
      next = having_ended (having_seen n w);
      answers = (record { covers = omega (arith, seen, at, BeginsWith-length g'.known g.known grows); within = omega (arith, at, BeginsWith-length h g'.known begins) }, refl);
      seen = omega (arith, at);
      ended = refl;
    };
  };
  counts = counts;
}

-- a line that asks nothing
pub refused_replies : (s : Attributes) (why : Refusal) (g : GlassState) → ReadReplies s (refused why, refusal why) g g
refused_replies s why g = record {
  steps = same_steps s (refused why) (refusal why) g.known g.known refl (BeginsWith-same g.known) (λ h w. (refl, refl));
  counts = refl;
}

-- a request that a read answers
abbrev pub is_reading : Request → Bool
is_reading (publish e) = true
is_reading (costing e) = true
is_reading dumping = true
is_reading (tailing place max) = true
is_reading _ = false

pub reading_is_no_quit : (r : Request) → is_reading r ≡ true → is_quit r ≡ false
reading_is_no_quit quit is = absurd cc
reading_is_no_quit _ is = refl

-- memory was wanting to a read, before it or after it
wanting_steps : (s : Attributes) (r : Request) (known known' : List Entry) → is_reading r ≡ true → BeginsWith known' known → ReadSteps s (r, no_memory) known known'
wanting_steps s (publish e) known known' is grows = same_steps s (publish e) no_memory known known' refl grows (λ h w. refl)
wanting_steps s (costing e) known known' is grows = same_steps s (costing e) no_memory known known' refl grows (λ h w. refl)
wanting_steps s dumping known known' is grows = same_steps s dumping no_memory known known' refl grows (λ h w. refl)
wanting_steps s (tailing place max) known known' is grows = same_steps s (tailing place max) no_memory known known' refl grows (λ h w. refl)
wanting_steps s _ known known' is grows = absurd cc

-- a read was refused an entry
shut_steps : (s : Attributes) (r : Request) (known known' : List Entry) → is_reading r ≡ true → BeginsWith known' known → ReadSteps s (r, shut) known known'
shut_steps s (publish e) known known' is grows = same_steps s (publish e) shut known known' refl grows (λ h w. refl)
shut_steps s (costing e) known known' is grows = same_steps s (costing e) shut known known' refl grows (λ h w. refl)
shut_steps s dumping known known' is grows = same_steps s dumping shut known known' refl grows (λ h w. refl)
shut_steps s (tailing place max) known known' is grows = same_steps s (tailing place max) shut known known' refl grows (λ h w. refl)
shut_steps s _ known known' is grows = absurd cc

-- memory was wanting before any read
pub wanting_replies : (s : Attributes) (r : Request) (g : GlassState) → is_reading r ≡ true → ReadReplies s (r, no_memory) g g
wanting_replies s r g is = record { steps = wanting_steps s r g.known g.known is (BeginsWith-same g.known); counts = inl refl }

-- a read was answered, and memory was wanting to its reply
pub spent_replies : (s : Attributes) (r : Request) (n : ℕ) (g g' : GlassState) → is_reading r ≡ true → glass.IsReadAt g g' n → ReadReplies s (r, no_memory) g g'
spent_replies s r n g g' is read = record { steps = wanting_steps s r g.known g'.known is read.known; counts = inr read.counts }

-- a read was refused
pub unread_replies : (s : Attributes) (r : Request) (g g' : GlassState) (no : NoRead) → is_reading r ≡ true → glass.Refuses g g' no → ReadReplies s (r, plain_reply (short_of no)) g g'
unread_replies s r g g' unread.Shut is denied = record {
  steps = shut_steps s r g.known g'.known is (subst (λ (l : List Entry). BeginsWith l g.known) (sym (ap (λ (x : GlassState). x.known) denied)) (BeginsWith-same g.known));
  counts = denied;
}
unread_replies s r g g' unread.NoMemory is denied = subst (λ (x : GlassState). ReadReplies s (r, no_memory) g x) (sym denied) (wanting_replies s r g is)

-- the same of a read that was to be built
pub unbuilt_replies : (s : Attributes) (r : Request) (g g' : GlassState) (built : Result (Unit {0}) NoRead) (why : NoRead) → built ≡ Err why → is_reading r ≡ true → glass.Refuses g g' why
    → IfErr built (λ (x : NoRead). ReadReplies s (r, plain_reply (short_of x)) g g')
unbuilt_replies s r g g' built why gives is denied = subst (λ (b : Result (Unit {0}) NoRead). IfErr b (λ (x : NoRead). ReadReplies s (r, plain_reply (short_of x)) g g')) (sym gives) (unread_replies s r g g' why is denied)
