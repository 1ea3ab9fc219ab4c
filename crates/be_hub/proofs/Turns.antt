-- The links of a worker, which took turns at its seat.
use Rattle.std.proofs.Common.{◌≡◌, ℕ, suc, ◌+◌, ◌≤◌, List, [], ◌∷◌, length, Some, slice_get, refl, sym, ap, ◌∙◌, arith}
use Rattle.be_model.specs.Schemas.{Attributes}
use Rattle.be_desk.specs.Seats.{SeatState}
use Rattle.be_hub.specs.Links.{SeatVisit, FollowLeft, FollowOn}
use Rattle.be_hub.specs.Serving.{Told, ServedLink, TakeTurns}
use Rattle.be_hub.proofs.Entered.{number_is, glass_same}

-- what was served in a visit
pub record IsOfTurn (v : SeatVisit) (x : ServedLink) : Type 0 where
  pub stays : v.left.session ≡ v.entered.session
  pub session : x.session ≡ v.entered.session
  pub known : x.known ≡ length v.entered.glass.known
  pub seen : x.seen ≡ length v.left.glass.known

-- a visit as what was served, whose replies tell this
abbrev pub served_link : Told → SeatVisit → ServedLink
served_link told v = record {
  session = v.entered.session;
  known = length v.entered.glass.known;
  seen = length v.left.glass.known;
  link = v.link;
  end = v.end;
  told = told;
}

-- that is what was served in the visit
pub of_visit : (v : SeatVisit) (x : ServedLink) (told : Told) → v.left.session ≡ v.entered.session → served_link told v ≡ x → IsOfTurn v x
of_visit v x told stays is = record {
  stays = stays;
  session = ap (λ (l : ServedLink). l.session) (sym is);
  known = ap (λ (l : ServedLink). l.known) (sym is);
  seen = ap (λ (l : ServedLink). l.seen) (sym is);
}

-- each link is the one of the visit at its place
abbrev pub AreOfTurns : List SeatVisit → List ServedLink → Type 0
AreOfTurns vs xs = (i : ℕ) (v : SeatVisit) (x : ServedLink) → slice_get vs i ≡ Some v → slice_get xs i ≡ Some x → IsOfTurn v x

module _ (s : Attributes) (seats : ℕ) where
  -- those that followed on a session that left the seat so
  turns_left : (left last : SeatState) (vs : List SeatVisit) (xs : List ServedLink) → FollowLeft s seats left vs last → length xs ≡ length vs → (k z : ℕ) → AreOfTurns vs xs → k ≡ left.session + seats → z ≤ length left.glass.known
      → TakeTurns seats k z xs
  turns_left left last [] [] chain many k z each number known = tt
  turns_left left last [] (x ∷ xs) chain many k z each number known = absurd (omega (arith, many))
  turns_left left last (v ∷ vs) [] chain many k z each number known = absurd (omega (arith, many))
  turns_left left last (v ∷ vs) (x ∷ xs) chain many k z each number known =
      let is = each 0 v x refl refl in
      let here : v.entered.session ≡ k = number_is s seats left v.entered chain.0 ∙ sym number in
      let same : length v.entered.glass.known ≡ length left.glass.known = ap (λ g. length g.known) (glass_same s seats left v.entered chain.0) in (
        is.session ∙ here,
        omega (arith, known, same, is.known),
        turns_left v.left last vs xs chain.1 (omega (arith, many)) (k + seats) x.seen (λ i w y at_w at_y. each (suc i) w y at_w at_y) (omega (arith, is.stays, here)) (omega (arith, is.seen)),
      )

  pub take_turns : (first last : SeatState) (vs : List SeatVisit) (xs : List ServedLink) → FollowOn s seats first vs last → length xs ≡ length vs → (k z : ℕ) → AreOfTurns vs xs → k ≡ first.session → z ≤ length first.glass.known
      → TakeTurns seats k z xs
  take_turns first last [] [] chain many k z each number known = tt
  take_turns first last [] (x ∷ xs) chain many k z each number known = absurd (omega (arith, many))
  take_turns first last (v ∷ vs) [] chain many k z each number known = absurd (omega (arith, many))
  take_turns first last (v ∷ vs) (x ∷ xs) chain many k z each number known =
      let is = each 0 v x refl refl in
      let here : v.entered.session ≡ k = ap (λ (y : SeatState). y.session) chain.0 ∙ sym number in
      let same : length v.entered.glass.known ≡ length first.glass.known = ap (λ (y : SeatState). length y.glass.known) chain.0 in (
        is.session ∙ here,
        omega (arith, known, same, is.known),
        turns_left v.left last vs xs chain.1 (omega (arith, many)) (k + seats) x.seen (λ i w y at_w at_y. each (suc i) w y at_w at_y) (omega (arith, is.stays, here)) (omega (arith, is.seen)),
      )
