-- The visits to one seat, one after another.
use Rattle.std.proofs.Common.{◌≡◌, ℕ, ◌-◌, ◌<◌, ◌≤◌, true, List, [], ◌∷◌, ◌++◌, length, refl, sym, ap, ◌∙◌, subst, arith}
use Rattle.std.specs.List.{All}
use Rattle.std.proofs.lemmas.List.{length-map}
use Rattle.std.proofs.lemmas.List.Elements.{All-head, All-tail}
use Rattle.std.proofs.lemmas.List.Sums.{sum_by-cons}
use Rattle.atomic_table.specs.Seated.{TableId}
use Rattle.be_io.specs.Outside.{LinkState}
use Rattle.be_model.specs.Schemas.{Attributes}
use Rattle.be_desk.specs.Boards.{put_count}
use Rattle.be_desk.specs.Seats.{SeatState}
use Rattle.be_door.specs.Counts.{CountState, IsSound}
use Rattle.be_door.specs.Door.{DoorState, IsOf}
use Rattle.be_protocol.specs.declared.ends.SessionEnd.{SessionEnd}
use Rattle.be_hub.specs.Links.{session_at, SeatVisit, EntersNext, FollowLeft, FollowOn, AskOn, LinkServed, added_between, AddUp, AddUpWith, CountsAddUp, LinksServed, WorkerServed}
use Rattle.be_hub.proofs.Entered.{glass_same, splits_same, fulls_same, puts_same, empties_grow}
use Rattle.be_hub.proofs.Places.{all_from_places}

-- one more visit follows on
follows_left : (s : Attributes) (seats : ℕ) (left last : SeatState) (vs : List SeatVisit) (v : SeatVisit) → FollowLeft s seats left vs last → EntersNext s seats last v.entered → FollowLeft s seats left (vs ++ v ∷ []) v.left
follows_left s seats left last [] v chain next = (subst (λ (x : SeatState). EntersNext s seats x v.entered) chain next, refl)
follows_left s seats left last (w ∷ vs) v chain next = (chain.0, follows_left s seats w.left last vs v chain.1 next)

pub follows_on : (s : Attributes) (seats : ℕ) (first last : SeatState) (vs : List SeatVisit) (v : SeatVisit) → FollowOn s seats first vs last → (length vs ≡ 0 → v.entered ≡ last) → (0 < length vs → EntersNext s seats last v.entered)
    → FollowOn s seats first (vs ++ v ∷ []) v.left
follows_on s seats first last [] v chain same next = (same refl ∙ chain, refl)
follows_on s seats first last (w ∷ vs) v chain same next = (chain.0, follows_left s seats w.left last vs v chain.1 (next (omega arith)))

-- one more visit asks on
pub asks_on : (before last : ℕ) (vs : List SeatVisit) (v : SeatVisit) → AskOn before vs last → v.asked_before ≡ last → AskOn before (vs ++ v ∷ []) v.asked_after
asks_on before last [] v chain same = (same ∙ chain, refl)
asks_on before last (w ∷ vs) v chain same = (chain.0, asks_on w.asked_after last vs v chain.1 same)

module _ (s : Attributes) (seats : ℕ) (count : SeatState → ℕ) where
  abbrev added : SeatVisit → ℕ
  added v = count v.left - count v.entered

  -- no visit lets it fall
  abbrev NoneFall : List SeatVisit → Type 0
  NoneFall vs = All (λ (v : SeatVisit). count v.entered ≤ count v.left) vs

  -- a count that doesn't fall between two sessions
  module _ (grows_between : (x y : SeatState) → EntersNext s seats x y → count x ≤ count y) where
    adds_up_left : (left last : SeatState) (vs : List SeatVisit) → FollowLeft s seats left vs last → NoneFall vs → AddUpWith count vs left last
    adds_up_left left last [] chain none_falls = omega (arith, ap count chain)
    adds_up_left left last (v ∷ vs) chain none_falls =
        let rest = adds_up_left v.left last vs chain.1 (All-tail (λ (w : SeatVisit). count w.entered ≤ count w.left) v vs none_falls) in
        let here = All-head (λ (w : SeatVisit). count w.entered ≤ count w.left) v vs none_falls in
        let between = grows_between left v.entered chain.0 in
        omega (arith, rest, here, between, sum_by-cons added v vs)

    adds_up_with : (first last : SeatState) (vs : List SeatVisit) → FollowOn s seats first vs last → NoneFall vs → AddUpWith count vs first last
    adds_up_with first last [] chain none_falls = omega (arith, ap count chain)
    adds_up_with first last (v ∷ vs) chain none_falls =
        let rest = adds_up_left v.left last vs chain.1 (All-tail (λ (w : SeatVisit). count w.entered ≤ count w.left) v vs none_falls) in
        let here = All-head (λ (w : SeatVisit). count w.entered ≤ count w.left) v vs none_falls in
        omega (arith, rest, here, ap count chain.0, sum_by-cons added v vs)

  -- a count that stays between two sessions
  module _ (stays : (x y : SeatState) → EntersNext s seats x y → count y ≡ count x) where
    none_left : (left last : SeatState) (vs : List SeatVisit) → FollowLeft s seats left vs last → added_between count left vs ≡ 0
    none_left left last [] chain = refl
    none_left left last (v ∷ vs) chain = let rest = none_left v.left last vs chain.1 in omega (arith, rest, stays left v.entered chain.0)

    none_between : (first last : SeatState) (vs : List SeatVisit) → FollowOn s seats first vs last → added_between count first vs ≡ 0
    none_between first last [] chain = refl
    none_between first last (v ∷ vs) chain = let rest = none_left v.left last vs chain.1 in omega (arith, rest, ap count chain.0)

    adds_up : (first last : SeatState) (vs : List SeatVisit) → FollowOn s seats first vs last → NoneFall vs → AddUp count vs first last
    adds_up first last vs chain none_falls =
        let with_none = adds_up_with (λ x y n. omega (arith, stays x y n)) first last vs chain none_falls in
        let none = none_between first last vs chain in
        omega (arith, with_none, none)

module _ {L : Type 0} (told : L → LinkState) (s : Attributes) (boxes : List TableId) (first last : SeatState) (c : CountState L) (ends : List SessionEnd) (calls asked : ℕ) (l : LinksServed told s boxes first last c ends calls asked) where
  -- each visit has its end
  pub as_many : length l.visits ≡ length ends
  as_many = sym (length-map l.visits (λ (v : SeatVisit). v.end)) ∙ ap (λ es. length es) (sym l.ends_are)

  grows : (count : SeatState → ℕ) → ((k : ℕ) (v : SeatVisit) → LinkServed s boxes k first last v → count v.entered ≤ count v.left) → All (λ (v : SeatVisit). count v.entered ≤ count v.left) l.visits
  grows count each = all_from_places (λ (v : SeatVisit). count v.entered ≤ count v.left) l.visits (λ i v at. each (session_at (length boxes) first.session i) v (l.served i v at))

  counts_add_up : CountsAddUp l.visits first last
  counts_add_up = record {
    reads = adds_up s (length boxes) (λ x. x.glass.reads) (λ x y n. ap (λ g. g.reads) (glass_same s (length boxes) x y n)) first last l.visits l.chain (grows (λ x. x.glass.reads) (λ k v o. o.served.board.goes.counts.reads));
    shuts = adds_up s (length boxes) (λ x. x.glass.shuts) (λ x y n. ap (λ g. g.shuts) (glass_same s (length boxes) x y n)) first last l.visits l.chain (grows (λ x. x.glass.shuts) (λ k v o. o.served.board.goes.counts.shuts));
    splits = adds_up s (length boxes) (λ x. x.splits) (splits_same s (length boxes)) first last l.visits l.chain (grows (λ x. x.splits) (λ k v o. o.served.board.goes.counts.splits));
    fulls = adds_up s (length boxes) (λ x. x.passes.fulls) (fulls_same s (length boxes)) first last l.visits l.chain (grows (λ x. x.passes.fulls) (λ k v o. o.served.board.goes.counts.fulls));
    empties = adds_up_with s (length boxes) (λ x. x.passes.empties) (empties_grow s (length boxes)) first last l.visits l.chain (grows (λ x. x.passes.empties) (λ k v o. o.served.board.goes.counts.empties));
    puts = adds_up s (length boxes) (λ x. put_count x.passes) (puts_same s (length boxes)) first last l.visits l.chain (grows (λ x. put_count x.passes) (λ k v o. o.served.board.goes.counts.puts));
  }

  pub worker_served : (between : ℕ) → between ≤ asked → (door : DoorState L) → c.given ≡ c.back → c.ended ≡ true → IsOf door c → IsSound c → WorkerServed told s boxes door first last c ends calls asked between
  worker_served between reached door all_back ended is_of sound = record {
    links = l;
    reached = reached;
    counts = counts_add_up;
    all_back = all_back;
    ended = ended;
    is_of = is_of;
    sound = sound;
  }
