-- Passes of three seats.
use Rattle.std.proofs.Common.{◌≡◌, ◌≢◌, ℕ, zero, suc, ◌<◌, List, [], ◌∷◌, ◌++◌, length, refl, ap, ◌∙◌, arith}
use Rattle.std.specs.Prelude.{All, Any}
use Rattle.std.proofs.lemmas.List.Elements.{All-nil, All-cons}
use lib.ListN.{get_or}
use Rattle.be_mail.specs.Letters.{Posting}
use Rattle.be_mail.specs.Passes.{TableId, Passes, AllPut}
use Rattle.be_mail.specs.Settled.{AreAll, TakenWerePut}
use Rattle.be_mail.proofs.AllPut.{taken_are_such}
use Rattle.worked_parts.specs.Early.{IsEarly}

pub three_pushed : (none one two all : List Passes) (p q r : Passes) → none ≡ [] → one ≡ none ++ p ∷ [] → two ≡ one ++ q ∷ [] → all ≡ two ++ r ∷ [] → all ≡ p ∷ q ∷ r ∷ []
three_pushed none one two all p q r e0 e1 e2 e3 = e3 ∙ ap (λ l. l ++ r ∷ []) (e2 ∙ ap (λ l. l ++ q ∷ []) (e1 ∙ ap (λ l. l ++ p ∷ []) e0))

pub three_seats : (mail : List TableId) (p q r : Passes) → length mail ≡ 3 → p.boxes ≡ mail → q.boxes ≡ mail → r.boxes ≡ mail → p.seat ≡ 2 → q.seat ≡ 1 → r.seat ≡ 0 → AreAll mail (p ∷ q ∷ r ∷ [])
three_seats mail p q r n a b c second first none =
    let Of : Passes → Type 0 = λ q. q.boxes ≡ mail in
    record {
      boxes = All-cons Of p (q ∷ r ∷ []) a (All-cons Of q (r ∷ []) b (All-cons Of r [] c (All-nil Of)));
      once = once;
      seats = λ seat h. found seat (omega arith);
    }
  where
    once : (i j : ℕ) (d : Passes) → i < j → j < length (p ∷ q ∷ r ∷ []) → (get_or (p ∷ q ∷ r ∷ []) i d).seat ≢ (get_or (p ∷ q ∷ r ∷ []) j d).seat
    once i zero d less within = absurd (omega arith)
    once zero (suc zero) d less within = λ e. absurd (omega arith)
    once zero (suc (suc zero)) d less within = λ e. absurd (omega arith)
    once (suc zero) (suc (suc zero)) d less within = λ e. absurd (omega arith)
    once (suc i) (suc zero) d less within = absurd (omega arith)
    once (suc (suc i)) (suc (suc zero)) d less within = absurd (omega arith)
    once i (suc (suc (suc j))) d less within = absurd (omega arith)

    found : (seat : ℕ) → seat < 3 → Any (λ (x : Passes). x.seat ≡ seat) (p ∷ q ∷ r ∷ [])
    found zero h = (2, r, omega arith, refl, none)
    found (suc zero) h = (1, q, omega arith, refl, first)
    found (suc (suc zero)) h = (0, p, omega arith, refl, second)
    found (suc (suc (suc seat))) h = absurd (omega arith)

-- what each of the seats says of its letters holds of those that the first one took
pub first_took : (p q r : Passes) → AllPut IsEarly p → AllPut IsEarly q → AllPut IsEarly r → TakenWerePut (p ∷ q ∷ r ∷ []) → All (λ (x : Posting). IsEarly x.letter) p.taken
first_took p q r a b c were_put =
    let Early : Passes → Type 0 = λ q. AllPut IsEarly q in
    let puts = All-cons Early p (q ∷ r ∷ []) a (All-cons Early q (r ∷ []) b (All-cons Early r [] c (All-nil Early))) in
    λ i d h. (taken_are_such (λ q letter. IsEarly letter) (p ∷ q ∷ r ∷ []) puts were_put 0 p (omega arith) i d h).4.1
