-- How the counts of a seat go on from line to line.
use Rattle.std.proofs.Common.{◌≡◌, ℕ, zero, suc, ◌+◌, ◌<◌, ◌≤◌, ◌==◌, ◌&&◌, Bool, true, false, List, length, replicate, refl, sym, ap, ◌∙◌, arith}
use Rattle.std.proofs.lemmas.List.{length-replicate}
use Rattle.std.proofs.lemmas.Bool.Decides.{nat_tests}
use Rattle.std.proofs.lemmas.List.Sums.{sum_by-cons}
use Rattle.be_base.specs.Text.{Text}
use Rattle.be_base.specs.declared.limits.TheConstants.{LINE_BYTES, FILE_BYTES}
use Rattle.atomic_table.specs.Seated.{TableId}
use Rattle.be_heat.specs.Seats.{SeatState, at_word}
use Rattle.be_heat.proofs.Keeps.{at_zeros}
use Rattle.be_io.specs.Lines.{read_line}
use Rattle.be_io.specs.Reader.{NextLine}
use Rattle.be_model.specs.Schemas.{Attributes}
use Rattle.be_change.specs.Requests.{Refusal, Request, refused, refusal, Exchange}
use Rattle.be_protocol.specs.Readings.{reading}
use Rattle.be_demand.specs.Texts.{is_hit, HasLines, TellsFirst}
use Rattle.be_demand.specs.Demand.{assigns, IsOver}
use Rattle.be_demand.specs.Counts.{counts_for, count_of, adds_to, RaisedWhere, AreAtMost, HasCounted, StillCounts, IsCounting}
use Rattle.be_demand.proofs.Adding.{one_if}
use Rattle.be_demand.proofs.Peeling.{peel, no_replies, no_lines}

counts_as : (word : ℕ) (p : Exchange) (request : Request) (is_one : Bool) → p.0 ≡ request → is_one ≡ is_hit p.1 → counts_for word p ≡ (is_one && adds_to word request)
counts_as zero p request is_one asked told = sym told ∙ and_true is_one
  where
    and_true : (b : Bool) → b ≡ (b && true)
    and_true true = refl
    and_true false = refl
counts_as (suc a) p request is_one asked told = ap (λ b. b && assigns a p.0) (sym told) ∙ ap (λ r. is_one && assigns a r) asked

one_more : (b : Bool) → one_if b ≤ 1
one_more true = omega arith
one_more false = omega arith

-- what an exchange counts for stands at the seat, and no longer among those that are left
moved : (own own' gain first rest todo all : ℕ) → own' ≡ own + gain → first ≡ gain → todo ≡ first + rest → own + todo ≡ all → own' + rest ≡ all
moved own own' gain first rest todo all raised same parts sum = omega arith

-- a line and its reply are counted
pub counting_on : (s : Attributes) (words : ℕ) (file transcript lines lines' line replies replies' own own' : Text) (ended is_one : Bool) (request : Request)
    → IsCounting s words file transcript lines replies own → NextLine ended lines line lines' → length lines' < length lines → reading s (read_line LINE_BYTES ended line) ≡ request
    → ((t : Refusal) → request ≡ refused t → HasLines s (refusal t)) → 0 < length replies → TellsFirst replies is_one replies' → length own' ≡ words
    → RaisedWhere (λ word. is_one && adds_to word request) words own own' → IsCounting s words file transcript lines' replies' own'
counting_on s words file transcript lines lines' line replies replies' own own' ended is_one request was next shorter read named some tells long added = record {
  long = long;
  few = λ word less. omega (arith, added word less, was.few word less, one_more (is_one && adds_to word request));
  counts = λ ps over.
      let then = was.counts ps over in
      let peeled = peel s ended lines line lines' replies replies' request is_one then.0 then.1 next read named some tells in
      let counted : StillCounts words own' peeled.rest ps = λ word less.
      let one = counts_as word peeled.first request is_one peeled.asked peeled.told in
      let more = sum_by-cons (λ (p : Exchange). one_if (counts_for word p)) peeled.first peeled.rest in
      moved (at_word own word) (at_word own' word) (one_if (is_one && adds_to word request)) (one_if (counts_for word peeled.first)) (count_of word peeled.rest) (count_of word then.0) (count_of word ps)
      (added word less) (ap (λ (b : Bool). one_if b) one) (ap (count_of word) peeled.all ∙ more) (then.2 word less) in
      (peeled.rest, peeled.over, counted);
}

-- nothing is left to be counted
pub counting_done : (s : Attributes) (words : ℕ) (file transcript lines replies own : Text) → IsCounting s words file transcript lines replies own → (length lines ≡ 0) → (ps : List Exchange) → IsOver s file transcript ps → HasCounted words own ps
counting_done s words file transcript lines replies own was empty ps over =
    let then = was.counts ps over in
    let none = no_lines s lines replies then.0 then.1 empty in
    λ word less. omega (arith, then.2 word less, ap (count_of word) none)

pub counting_answered : (s : Attributes) (words : ℕ) (file transcript lines replies own : Text) → IsCounting s words file transcript lines replies own → (length replies ≡ 0) → (ps : List Exchange) → IsOver s file transcript ps → HasCounted words own ps
counting_answered s words file transcript lines replies own was empty ps over =
    let then = was.counts ps over in
    let none = no_replies s lines replies then.0 then.1 empty in
    λ word less. omega (arith, then.2 word less, ap (count_of word) none)

-- a seat after a line and its reply
pub record Went (of : TableId) (words : ℕ) (request : Request) (is_one : Bool) (old seat : SeatState) : Type 0 where
  pub belongs : seat.of ≡ of
  pub long : length seat.own ≡ words
  pub raised : RaisedWhere (λ word. is_one && adds_to word request) words old.own seat.own

pub went_hit : (of : TableId) (words : ℕ) (request : Request) (is_one : Bool) (old seat new : SeatState) → is_one ≡ true → seat ≡ new → new.of ≡ of → length new.own ≡ words
    → RaisedWhere (λ word. adds_to word request) words old.own new.own → Went of words request is_one old seat
went_hit of words request is_one old seat new hit is belongs long raised = record {
  belongs = ap (λ (s : SeatState). s.of) is ∙ belongs;
  long = ap (λ (s : SeatState). length s.own) is ∙ long;
  raised = λ word less. ap (λ (s : SeatState). at_word s.own word) is ∙ (raised word less ∙ ap (λ b. at_word old.own word + one_if (b && adds_to word request)) (sym hit));
}

pub went_none : (of : TableId) (words : ℕ) (request : Request) (is_one : Bool) (old seat : SeatState) → is_one ≡ false → seat ≡ old → old.of ≡ of → length old.own ≡ words
    → Went of words request is_one old seat
went_none of words request is_one old seat hit is belongs long = record {
  belongs = ap (λ (s : SeatState). s.of) is ∙ belongs;
  long = ap (λ (s : SeatState). length s.own) is ∙ long;
  raised = λ word less.
      let none : at_word old.own word ≡ at_word old.own word + 0 = omega arith in
      ap (λ (s : SeatState). at_word s.own word) is ∙ (none ∙ ap (λ b. at_word old.own word + one_if (b && adds_to word request)) (sym hit));
}

-- a text that isn't empty
pub some_left : (b : Bool) (text : Text) → b ≡ (length text == 0) → b ≡ false → 0 < length text
some_left b text is none = let e : (length text == 0) ≡ false = sym is ∙ none in grind (arith, nat_tests)
