-- A seat's mailbox that is being emptied.
use Rattle.std.proofs.Common.{◌≡◌, ℕ, ◌+◌, List, [], ◌∷◌, ◌++◌, length, ap, ◌∙◌, subst, arith, append_assoc, length-append}
use Rattle.std.specs.Prelude.{All}
use Rattle.std.proofs.lemmas.List.Elements.{All-push}
use Rattle.be_model.specs.Schemas.{Attributes}
use Rattle.be_mail.specs.Letters.{Posting, IsFor}
use Rattle.be_mail.specs.Passes.{Passes, after_fetch}
use Rattle.be_desk.specs.Seats.{SeatState}
use Rattle.be_desk.specs.Emptied.{after_taken}

-- so many letters were taken out, and nothing else was done
pub record HasTaken (schema : Attributes) (seats n : ℕ) (s s' : SeatState) : Type 0 where
  pub letters : List Posting
  pub count : length letters ≡ n
  pub only : All (IsFor schema seats s.passes.seat) letters
  pub seat : s' ≡ record s { passes = after_taken s.passes letters }

module _ (schema : Attributes) (seats n : ℕ) (s s1 s2 : SeatState) (h : HasTaken schema seats n s s1) (same : s2 ≡ record s1 { passes = s2.passes }) where
  pub takes_more : (x : Posting) → s2.passes ≡ after_fetch s1.passes x → IsFor schema seats s1.passes.seat x → HasTaken schema seats (n + 1) s s2
  takes_more x passes may_lie = record {
    letters = h.letters ++ x ∷ [];
    count = omega (arith, length-append h.letters (x ∷ []), h.count);
    only = All-push (IsFor schema seats s.passes.seat) h.letters x h.only (subst (λ (y : SeatState). IsFor schema seats y.passes.seat x) h.seat may_lie);
    seat = same ∙ (ap (λ (q : Passes). record s1 { passes = q }) passes
        ∙ (ap (λ (y : SeatState). record y { passes = after_fetch y.passes x }) h.seat
        ∙ ap (λ (xs : List Posting). record s { passes = record s.passes { taken = xs } }) (append_assoc s.passes.taken h.letters (x ∷ []))));
  }
