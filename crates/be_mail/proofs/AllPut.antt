-- What holds of each letter that a seat put.
use Rattle.std.proofs.Common.{◌≡◌, ℕ, zero, suc, List, [], ◌∷◌, ◌++◌, subst}
use Rattle.std.specs.Prelude.{All, Any, Contains}
use Rattle.std.proofs.lemmas.List.Elements.{All-nil, All-head, All-tail, All-push, All-set, All-contains}
use lib.ListN.{get_or}
use Rattle.be_model.specs.Letters.{PlainLetter}
use Rattle.be_mail.specs.Letters.{Posting}
use Rattle.be_mail.specs.Passes.{Passes, AllPut, put_into, after_put}
use Rattle.be_mail.specs.Settled.{WasPut, TakenWerePut}

module _ (P : PlainLetter → Type 0) where
  each_of : (puts : List (List PlainLetter)) (mailbox : ℕ) → All (λ letters. All P letters) puts → All P (get_or puts mailbox [])
  each_of [] mailbox all = All-nil P
  each_of (letters ∷ puts) zero all = All-head (λ letters. All P letters) letters puts all
  each_of (letters ∷ puts) (suc mailbox) all = each_of puts mailbox (All-tail (λ letters. All P letters) letters puts all)

  pub All-put_into : (q : Passes) (mailbox : ℕ) → AllPut P q → All P (put_into mailbox q)
  All-put_into q mailbox all = each_of q.puts mailbox all

  pub AllPut-after_put : (q : Passes) (mailbox : ℕ) (letter : PlainLetter) → AllPut P q → P letter → AllPut P (after_put q mailbox letter)
  AllPut-after_put q mailbox letter all one =
      All-set (λ letters. All P letters) q.puts mailbox (put_into mailbox q ++ letter ∷ []) (All-push P (put_into mailbox q) letter (All-put_into q mailbox all) one) all

  -- it holds of each letter that was put into a mailbox
  pub AllPut-contains : (q : Passes) (mailbox : ℕ) (letter : PlainLetter) → AllPut P q → Contains (put_into mailbox q) letter → P letter
  AllPut-contains q mailbox letter all there = All-contains P (put_into mailbox q) letter (All-put_into q mailbox all) there

-- what holds of each letter that a seat put holds, for the seat that it carries, of each letter that anybody took
pub taken_are_such : (P : Passes → PlainLetter → Type 0) (qs : List Passes) → All (λ (q : Passes). AllPut (P q) q) qs → TakenWerePut qs
    → All (λ (q : Passes). All (λ (x : Posting). Any (λ (p : Passes). (p.seat ≡ x.from) × P p x.letter) qs) q.taken) qs
taken_are_such P qs puts were_put i d h =
    λ k e less. sender (get_or qs i d) (get_or (get_or qs i d).taken k e) (were_put i d h k e less)
  where
    sender : (q : Passes) (x : Posting) → WasPut qs q.seat x → Any (λ (p : Passes). (p.seat ≡ x.from) × P p x.letter) qs
    sender q x (k, p, less, is, was) =
        (k, p, less, is, (was.0, AllPut-contains (P p) p q.seat x.letter (subst (λ (y : Passes). AllPut (P y) y) is (puts k p less)) was.1))
