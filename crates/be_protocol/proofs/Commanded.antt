-- Lines that begin with a word, and lines that ask nothing.
use Rattle.std.proofs.Common.{◌≡◌, Bool, true, false, cond, List, [], ◌∷◌, Option, Some, None, Result, Ok, Err, refl, sym, ap}
use Rattle.be_base.specs.Text.{Text, same_text, name_of}
use Rattle.be_base.specs.Tokens.{Lexeme, word, put_token}
use Rattle.be_model.specs.declared.preds.Pred.{Pred}
use Rattle.be_model.specs.Schemas.{Attributes}
use Rattle.be_model.specs.Matching.{Assignments}
use Rattle.be_expr.specs.declared.faults.ExprFault.{ExprFault}
use Rattle.be_expr.specs.declared.faults.ExprFault.TheVariants as expr
use Rattle.be_expr.specs.Expressions as conditions
use Rattle.be_event.specs.declared.events.EventFault.{EventFault}
use Rattle.be_event.specs.declared.events.EventFault.TheVariants as event
use Rattle.be_event.specs.Events as events
use Rattle.be_change.specs.Requests.{Request, refused, bad}
use Rattle.be_protocol.specs.Readings.{Command, commands, commanded_by, request_of, commanded, subscription_asked, of_event, asking_of, expr_refusal, event_refusal}

-- words that have no tokens ask nothing of these commands
AskNothing : Attributes → List Command → Type 0
AskNothing s [] = Unit {0}
AskNothing s (c ∷ cs) = (c.asks s None ≡ refused bad) × AskNothing s cs

same_both : (b : Bool) (r r' : Request) → r ≡ refused bad → r' ≡ refused bad → cond b r r' ≡ refused bad
same_both true r r' e e' = e
same_both false r r' e e' = e'

none_asks : (cs : List Command) (s : Attributes) (name : Text) → AskNothing s cs → commanded_by cs s name None ≡ refused bad
unfolding AskNothing
none_asks [] s name none = refl
none_asks (c ∷ cs) s name none = same_both (same_text name c.name) (c.asks s None) (commanded_by cs s name None) none.0 (none_asks cs s name none.1)

-- the words after a command decide, also where a byte among them has no meaning
pub request_word : (s : Attributes) (command : Text) (ts : Option (List Lexeme)) → request_of s (put_token (word command) ts) ≡ commanded s command ts
unfolding AskNothing
request_word s command None = sym (none_asks commands s command (refl, (refl, (refl, (refl, (refl, (refl, (refl, (refl, (refl, (refl, tt)))))))))))
request_word s command (Some ts) = refl

-- a fault other than want of memory is the text's
pub expr_fault : (fault : ExprFault) (read : Result (List Pred) ExprFault) → conditions.Reads (Err fault) read → (fault ≡ expr.NoMemory → ⊥) → read ≡ Err fault
expr_fault expr.Bad read r other = r
expr_fault (expr.Attr name) read r other = r
expr_fault (expr.Dom a) read r other = r
expr_fault (expr.Many count) read r other = r
expr_fault expr.NoMemory read r other = absurd (other refl)

pub event_fault : (fault : EventFault) (read : Result Assignments EventFault) → events.Reads (Err fault) read → (fault ≡ event.NoMemory → ⊥) → read ≡ Err fault
event_fault event.Bad read r other = r
event_fault (event.Attr name) read r other = r
event_fault (event.Dom a) read r other = r
event_fault (event.Twice a) read r other = r
event_fault (event.Many count) read r other = r
event_fault event.NoMemory read r other = absurd (other refl)

-- a name and a condition with a fault
pub faulty_subscription : (s : Attributes) (word_read name : Text) (ts : Option (List Lexeme)) (fault : ExprFault) → name_of word_read ≡ Ok name
    → conditions.condition s ts ≡ Err fault → subscription_asked s (put_token (word word_read) ts) ≡ refused (expr_refusal s fault)
faulty_subscription s word_read name None fault named read = ap (λ f. refused (expr_refusal s f)) (same_fault fault read)
  where
    same_fault : (f : ExprFault) → conditions.condition s None ≡ Err f → expr.Bad ≡ f
    same_fault f e = cc
faulty_subscription s word_read name (Some ts) fault named read = rw (named, read) refl

pub faulty_event : (ask : Assignments → Request) (s : Attributes) (ts : Option (List Lexeme)) (fault : EventFault) → events.event_of s ts ≡ Err fault → of_event ask s ts ≡ refused (event_refusal s fault)
faulty_event ask s ts fault read = ap (asking_of ask s) read
