-- Letters that were taken out of the seat's mailbox.
use Rattle.std.proofs.Common.{◌≡◌, ◌≢◌, ℕ, ◌≤◌, ◌==◌, false, List, [], ◌∷◌, ◌++◌, map, Some, None, refl, sym, ap, ◌∙◌, subst, arith, append_assoc}
use Rattle.std.specs.Prelude.{All}
use Rattle.std.proofs.lemmas.Bool.{eq-eqb}
use Rattle.std.proofs.lemmas.List.{append-nil, map-append}
use Rattle.std.proofs.lemmas.List.Elements.{All-nil, All-cons, All-head, All-tail, All-push}
use Rattle.be_base.specs.Counts.{raised, last_count}
use Rattle.be_base.proofs.Beginnings.{BeginsWith-same}
use Rattle.be_model.specs.Letters.{PlainLetter}
use Rattle.be_model.specs.Schemas.{Attributes}
use Rattle.be_mail.specs.Letters.{Posting, posting, letter_in}
use Rattle.be_mail.specs.Passes.{Passes, after_fetch, after_empty}
use Rattle.be_board.specs.Letters.{Fetches}
use Rattle.be_desk.specs.Seats.{SeatState}
use Rattle.be_desk.specs.Boards.{board_of, OnBoards}

-- letters for other sessions were taken out, and nothing else was done
pub record PassesOver (s s' : SeatState) : Type 0 where
  pub passed : List Posting
  pub seat : s' ≡ record s { passes = record s.passes { taken = s.passes.taken ++ passed } }
  pub others : All (λ (x : Posting). x.letter.session ≢ s.session) passed

pub over_more : (s s1 s2 : SeatState) (from : ℕ) (l : PlainLetter) → PassesOver s s1 → s2 ≡ record s1 { passes = s2.passes } → s2.passes ≡ after_fetch s1.passes (posting from l) → (l.session == s1.session) ≡ false → PassesOver s s2
over_more s s1 s2 from l o seat passes other =
    let same : s1.session ≡ s.session = ap (λ (x : SeatState). x.session) o.seat in
    let differ : l.session ≢ s.session = λ is. (let yes = eq-eqb l.session s1.session (is ∙ sym same) in absurd cc) in
    record {
      passed = o.passed ++ posting from l ∷ [];
      seat = seat ∙ (ap (λ (q : Passes). record s1 { passes = q }) passes
          ∙ (ap (λ (x : SeatState). record x { passes = after_fetch x.passes (posting from l) }) o.seat
          ∙ ap (λ (xs : List Posting). record s { passes = record s.passes { taken = xs } }) (append_assoc s.passes.taken o.passed (posting from l ∷ []))));
      others = All-push (λ (x : Posting). x.letter.session ≢ s.session) o.passed (posting from l) o.others differ;
    }

others_of : (k : ℕ) (xs : List Posting) → All (λ (x : Posting). x.letter.session ≢ k) xs → All (λ (l : PlainLetter). l.session ≢ k) (map letter_in xs)
others_of k [] all = All-nil (λ (l : PlainLetter). l.session ≢ k)
others_of k (x ∷ xs) all =
    let P : Posting → Type 0 = λ x. x.letter.session ≢ k in
    All-cons (λ (l : PlainLetter). l.session ≢ k) x.letter (map letter_in xs) (All-head P x xs all) (others_of k xs (All-tail P x xs all))

pub fetches_some : (schema : Attributes) (s s1 s2 : SeatState) (from : ℕ) (l : PlainLetter) → PassesOver s s1 → s2 ≡ record s1 { passes = s2.passes } → s2.passes ≡ after_fetch s1.passes (posting from l)
    → OnBoards schema (λ b b'. Fetches b b' (Some l)) s s2
fetches_some schema s s1 s2 from l o seat passes per_tend tends =
    let xs : List Posting = (s.passes.taken ++ o.passed) ++ posting from l ∷ [] in
    let end : SeatState = record s { passes = record s.passes { taken = xs } } in
    let is : s2 ≡ end = seat ∙ (ap (λ (q : Passes). record s1 { passes = q }) passes ∙ ap (λ (x : SeatState). record x { passes = after_fetch x.passes (posting from l) }) o.seat) in
    let notes : map letter_in xs ≡ map letter_in s.passes.taken ++ (map letter_in o.passed ++ l ∷ []) =
    map-append letter_in (s.passes.taken ++ o.passed) (posting from l ∷ [])
    ∙ (ap (λ (ls : List PlainLetter). ls ++ l ∷ []) (map-append letter_in s.passes.taken o.passed)
    ∙ append_assoc (map letter_in s.passes.taken) (map letter_in o.passed) (l ∷ [])) in
    subst (λ (x : SeatState). Fetches (board_of per_tend schema tends s) (board_of per_tend schema tends x) (Some l)) (sym is) (record {
      goes = record {
        seat = refl;
        schema = refl;
        session = refl;
        alone = refl;
        per_tend = refl;
        known = BeginsWith-same s.glass.known;
        counts = record { reads = omega arith; shuts = omega arith; splits = omega arith; fulls = omega arith; empties = omega arith; puts = omega arith; tends = omega arith };
        tends = refl;
      };
      known = refl;
      own = refl;
      puts = refl;
      fulls = refl;
      reads = record { reads = refl; shuts = refl };
      splits = refl;
      from = (refl, record { passed = map letter_in o.passed; taken = notes; others = others_of s.session o.passed o.others });
    })

pub fetches_none : (schema : Attributes) (s s1 s2 : SeatState) → s1.passes.empties ≤ last_count → PassesOver s s1 → s2 ≡ record s1 { passes = s2.passes } → s2.passes ≡ after_empty s1.passes
    → OnBoards schema (λ b b'. Fetches b b' None) s s2
fetches_none schema s s1 s2 few o seat passes per_tend tends =
    let xs : List Posting = s.passes.taken ++ o.passed in
    let end : SeatState = record s { passes = record s.passes { taken = xs; empties = raised 1 s.passes.empties } } in
    let is : s2 ≡ end = seat ∙ (ap (λ (q : Passes). record s1 { passes = q }) passes ∙ ap (λ (x : SeatState). record x { passes = after_empty x.passes }) o.seat) in
    let same : s1.passes.empties ≡ s.passes.empties = ap (λ (x : SeatState). x.passes.empties) o.seat in
    let notes : map letter_in xs ≡ map letter_in s.passes.taken ++ (map letter_in o.passed ++ []) =
    map-append letter_in s.passes.taken o.passed ∙ ap (λ (ls : List PlainLetter). map letter_in s.passes.taken ++ ls) (sym (append-nil (map letter_in o.passed))) in
    subst (λ (x : SeatState). Fetches (board_of per_tend schema tends s) (board_of per_tend schema tends x) None) (sym is) (record {
      goes = record {
        seat = refl;
        schema = refl;
        session = refl;
        alone = refl;
        per_tend = refl;
        known = BeginsWith-same s.glass.known;
        counts = record { reads = omega arith; shuts = omega arith; splits = omega arith; fulls = omega arith; empties = omega (arith, few, same); puts = omega arith; tends = omega arith };
        tends = refl;
      };
      known = refl;
      own = refl;
      puts = refl;
      fulls = refl;
      reads = record { reads = refl; shuts = refl };
      splits = refl;
      from = (refl, record { passed = map letter_in o.passed; taken = notes; others = others_of s.session o.passed o.others });
    })
