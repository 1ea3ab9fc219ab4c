-- What a line asks of a mirror is what it asks of a session, as far as a mirror answers it.
use Rattle.std.proofs.Common.{◌≡◌, ◌⊎◌, inl, inr, ◌||◌, if◌then◌else◌, ℕ, Bool, true, false, List, [], ◌∷◌, Option, Some, None, Result, Ok, Err, codes, refl, sym, subst}
use Rattle.std.proofs.lemmas.Bool.{or_cases}
use Rattle.be_base.specs.Numbers.{count_of}
use Rattle.be_base.specs.Text.{Text, same_text}
use Rattle.be_base.specs.Tokens.{Lexeme, word, put_token}
use Rattle.be_base.proofs.SameText.{equal_from_same_text}
use Rattle.be_model.specs.Matching.{Assignments}
use Rattle.be_model.specs.Schemas.{Attributes}
use Rattle.be_event.specs.declared.events.EventFault.{EventFault}
use Rattle.be_event.specs.Events.{event_of}
use Rattle.be_change.specs.Requests.{Request, subscribe, publish, costing, sending, dumping, quit}
use Rattle.be_protocol.specs.Readings.{request_of, asking_of, of_event, alone, tail, tailing_at_most, number_asked, wait_in, within}
use Rattle.be_protocol.specs.Requests.{TakesMemory}
use Rattle.be_mirror.specs.Asked.{mirror_request_of, mirror_answered, is_mirror_command}
use Rattle.be_mirror.proofs.Stepping.{is_reading}

event_kept : (r : Result Assignments EventFault) (s : Attributes) → mirror_answered (asking_of publish s r) ≡ asking_of publish s r
event_kept (Ok e) s = refl
event_kept (Err fault) s = refl

cost_kept : (r : Result Assignments EventFault) (s : Attributes) → mirror_answered (asking_of costing s r) ≡ asking_of costing s r
cost_kept (Ok e) s = refl
cost_kept (Err fault) s = refl

dump_kept : (ts : List Lexeme) → mirror_answered (alone dumping (Some ts)) ≡ alone dumping (Some ts)
dump_kept [] = refl
dump_kept (t ∷ ts) = refl

quit_kept : (ts : List Lexeme) → mirror_answered (alone quit (Some ts)) ≡ alone quit (Some ts)
quit_kept [] = refl
quit_kept (t ∷ ts) = refl

numbers_kept : (place max : Option ℕ) → mirror_answered (tailing_at_most place max) ≡ tailing_at_most place max
numbers_kept (Some place) (Some max) = refl
numbers_kept (Some place) None = refl
numbers_kept None max = refl

within_kept : (wait : Option ℕ) (r : Request) → mirror_answered r ≡ r → mirror_answered (within wait r) ≡ within wait r
within_kept (Some millis) r e = e
within_kept None r e = refl

tail_kept : (ts : List Lexeme) → mirror_answered (tail (Some ts)) ≡ tail (Some ts)
tail_kept (word place ∷ word max ∷ ts) =
    within_kept (wait_in ts) (tailing_at_most (count_of place) (number_asked (count_of max))) (numbers_kept (count_of place) (number_asked (count_of max)))
tail_kept _ = refl

-- a command's words ask of a mirror what they ask of a session
pub command_same : (s : Attributes) (w : Text) (o : Option (List Lexeme)) → is_mirror_command w ≡ true → request_of s (put_token (word w) o) ≡ mirror_request_of s (put_token (word w) o)
command_same s w None is = refl
command_same s w (Some ts) is = by_quit (or_cases (((same_text w (codes "PUB") || same_text w (codes "COST")) || same_text w (codes "DUMP")) || same_text w (codes "TAIL")) (same_text w (codes "QUIT")) is)
  where
    Same : Text → Type 0
    Same x = request_of s (Some (word x ∷ ts)) ≡ mirror_request_of s (Some (word x ∷ ts))

    by_pub : (same_text w (codes "PUB") ≡ true) ⊎ (same_text w (codes "COST") ≡ true) → Same w
    by_pub (inl e) = subst Same (sym (equal_from_same_text w (codes "PUB") e)) refl
    by_pub (inr e) = subst Same (sym (equal_from_same_text w (codes "COST") e)) refl

    by_dump : ((same_text w (codes "PUB") || same_text w (codes "COST")) ≡ true) ⊎ (same_text w (codes "DUMP") ≡ true) → Same w
    by_dump (inl e) = by_pub (or_cases (same_text w (codes "PUB")) (same_text w (codes "COST")) e)
    by_dump (inr e) = subst Same (sym (equal_from_same_text w (codes "DUMP") e)) refl

    by_tail : (((same_text w (codes "PUB") || same_text w (codes "COST")) || same_text w (codes "DUMP")) ≡ true) ⊎ (same_text w (codes "TAIL") ≡ true) → Same w
    by_tail (inl e) = by_dump (or_cases (same_text w (codes "PUB") || same_text w (codes "COST")) (same_text w (codes "DUMP")) e)
    by_tail (inr e) = subst Same (sym (equal_from_same_text w (codes "TAIL") e)) refl

    by_quit : ((((same_text w (codes "PUB") || same_text w (codes "COST")) || same_text w (codes "DUMP")) || same_text w (codes "TAIL")) ≡ true) ⊎ (same_text w (codes "QUIT") ≡ true) → Same w
    by_quit (inl e) = by_tail (or_cases ((same_text w (codes "PUB") || same_text w (codes "COST")) || same_text w (codes "DUMP")) (same_text w (codes "TAIL")) e)
    by_quit (inr e) = subst Same (sym (equal_from_same_text w (codes "QUIT") e)) refl

either_kept : (b : Bool) (r r' : Request) → mirror_answered r ≡ r → mirror_answered r' ≡ r' → mirror_answered (if b then r else r') ≡ (if b then r else r')
either_kept true r r' e e' = e
either_kept false r r' e e' = e'

commands_kept : (s : Attributes) (w : Text) (ts : List Lexeme) → mirror_answered (mirror_request_of s (Some (word w ∷ ts))) ≡ mirror_request_of s (Some (word w ∷ ts))
commands_kept s w ts =
    either_kept (same_text w (codes "PUB")) (of_event publish s (Some ts)) _ (event_kept (event_of s (Some ts)) s)
    (either_kept (same_text w (codes "COST")) (of_event costing s (Some ts)) _ (cost_kept (event_of s (Some ts)) s)
    (either_kept (same_text w (codes "DUMP")) (alone dumping (Some ts)) _ (dump_kept ts)
    (either_kept (same_text w (codes "TAIL")) (tail (Some ts)) _ (tail_kept ts)
    (either_kept (same_text w (codes "QUIT")) (alone quit (Some ts)) _ (quit_kept ts) refl))))

-- a mirror answers what its commands ask
pub asked_kept : (s : Attributes) (w : Text) (o : Option (List Lexeme)) → mirror_answered (mirror_request_of s (put_token (word w) o)) ≡ mirror_request_of s (put_token (word w) o)
asked_kept s w None = refl
asked_kept s w (Some ts) = commands_kept s w ts

-- of what a mirror is asked only a read takes memory
pub only_reads : (s : Attributes) (o : Option (List Lexeme)) → TakesMemory (mirror_request_of s o) → is_reading (mirror_request_of s o) ≡ true
only_reads s None t = absurd t
only_reads s (Some []) t = absurd t
only_reads s (Some (word w ∷ ts)) t = by_request (mirror_request_of s (Some (word w ∷ ts))) (commands_kept s w ts) t
  where
    by_request : (r : Request) → mirror_answered r ≡ r → TakesMemory r → is_reading r ≡ true
    by_request (publish e) kept t = refl
    by_request (costing e) kept t = refl
    by_request (subscribe name conj) kept t = absurd cc
    by_request (sending e) kept t = absurd cc
    by_request _ kept t = absurd t
only_reads s (Some (_ ∷ ts)) t = absurd t
