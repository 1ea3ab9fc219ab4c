-- What a line asks of a follower.
use Rattle.std.proofs.Common.{◌≡◌, ◌⊎◌, inl, inr, if◌then◌else◌, Bool, true, false, List, [], ◌∷◌, take, Option, Some, None, Result, Ok, Err, codes, refl, sym, subst}
use Rattle.std.proofs.lemmas.Bool.{or_cases}
use Rattle.be_base.specs.Text.{Text, same_text}
use Rattle.be_base.specs.Tokens.{Lexeme, word, put_token}
use Rattle.be_base.proofs.SameText.{equal_from_same_text}
use Rattle.be_model.specs.Matching.{Assignments}
use Rattle.be_model.specs.Schemas.{Attributes}
use Rattle.be_event.specs.declared.events.EventFault.{EventFault}
use Rattle.be_event.specs.Events.{event_of}
use Rattle.be_change.specs.Requests.{Request, subscribe, publish, costing, sending, quit, Reply}
use Rattle.be_protocol.specs.Readings.{request_of, asking_of, of_event, alone, Command, commanded_by}
use Rattle.be_protocol.specs.Requests.{TakesMemory}
use Rattle.be_follow.specs.Asked.{asked_of, answered, is_command}

event_kept : (r : Result Assignments EventFault) (s : Attributes) → answered (asking_of publish s r) ≡ asking_of publish s r
event_kept (Ok e) s = refl
event_kept (Err fault) s = refl

quit_kept : (ts : List Lexeme) → answered (alone quit (Some ts)) ≡ alone quit (Some ts)
quit_kept [] = refl
quit_kept (t ∷ ts) = refl

-- a session's reading of a command's line is a follower's
pub command_asks : (s : Attributes) (w : Text) (o : Option (List Lexeme)) → is_command w ≡ true → answered (request_of s (put_token (word w) o)) ≡ asked_of s (put_token (word w) o)
command_asks s w None is = refl
command_asks s w (Some ts) is = by_word (or_cases (same_text w (codes "PUB")) (same_text w (codes "QUIT")) is)
  where
    by_word : (same_text w (codes "PUB") ≡ true) ⊎ (same_text w (codes "QUIT") ≡ true) → answered (request_of s (Some (word w ∷ ts))) ≡ asked_of s (Some (word w ∷ ts))
    by_word (inl e) =
        subst (λ (x : Text). answered (request_of s (Some (word x ∷ ts))) ≡ asked_of s (Some (word x ∷ ts))) (sym (equal_from_same_text w (codes "PUB") e)) (event_kept (event_of s (Some ts)) s)
    by_word (inr e) =
        subst (λ (x : Text). answered (request_of s (Some (word x ∷ ts))) ≡ asked_of s (Some (word x ∷ ts))) (sym (equal_from_same_text w (codes "QUIT") e)) (quit_kept ts)

either_kept : (b : Bool) (r r' : Request) → answered r ≡ r → answered r' ≡ r' → answered (if b then r else r') ≡ (if b then r else r')
either_kept true r r' e e' = e
either_kept false r r' e e' = e'

commands_kept : (s : Attributes) (w : Text) (ts : List Lexeme) → answered (asked_of s (Some (word w ∷ ts))) ≡ asked_of s (Some (word w ∷ ts))
commands_kept s w ts =
    either_kept (same_text w (codes "PUB")) (of_event publish s (Some ts)) _ (event_kept (event_of s (Some ts)) s)
    (either_kept (same_text w (codes "QUIT")) (alone quit (Some ts)) _ (quit_kept ts) refl)

-- of what a follower is asked only an event takes memory
pub only_events : (s : Attributes) (o : Option (List Lexeme)) → TakesMemory (asked_of s o) → (e : Assignments) × (asked_of s o ≡ publish e)
only_events s None t = absurd t
only_events s (Some []) t = absurd t
only_events s (Some (word w ∷ ts)) t = by_request (asked_of s (Some (word w ∷ ts))) (commands_kept s w ts) t
  where
    by_request : (r : Request) → answered r ≡ r → TakesMemory r → (e : Assignments) × (r ≡ publish e)
    by_request (publish e) kept t = (e, refl)
    by_request (subscribe name conj) kept t = absurd cc
    by_request (costing e) kept t = absurd cc
    by_request (sending e) kept t = absurd cc
    by_request _ kept t = absurd t
only_events s (Some (_ ∷ ts)) t = absurd t
