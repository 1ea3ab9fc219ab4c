-- The letters of the links of all workers, and the workers' boxes.
use Rattle.std.proofs.Common.{◌≡◌, ℕ, zero, suc, ◌+◌, ◌-◌, ◌==◌, filter, Bool, List, [], ◌∷◌, ◌++◌, length, map, Some, slice_get, refl, sym, ap, ◌∙◌, arith, append_assoc}
use Rattle.std.specs.List.{flat_map}
use Rattle.std.proofs.lemmas.List.{map-append}
use Rattle.std.proofs.lemmas.List.Concat.{flat_map-cons}
use Rattle.std.proofs.lemmas.List.Elements.{filter-append}
use Rattle.atomic_table.specs.Seated.{TableId}
use Rattle.be_base.specs.declared.names.SessionNo.{SessionNo}
use Rattle.be_io.specs.Outside.{LinkState}
use Rattle.be_model.specs.Letters.{PlainLetter}
use Rattle.be_model.specs.Schemas.{Attributes}
use Rattle.be_change.specs.History.{Entry}
use Rattle.be_change.specs.Requests.{Note}
use Rattle.be_mail.specs.Letters.{Posting, letter_in}
use Rattle.be_mail.specs.Mailbox.{BoxId, Mailbox}
use Rattle.be_mail.specs.Passes.{Passes}
use Rattle.be_mail.specs.Settled.{AreAll}
use Rattle.be_board.specs.Letters.{note_of}
use Rattle.be_desk.specs.Boards.{put_count}
use Rattle.be_desk.specs.Seats.{SeatState}
use Rattle.be_door.specs.declared.sums.Sums.{Sums}
use Rattle.be_hub.specs.Links.{SeatVisit, LinkServed}
use Rattle.be_hub.specs.Posted.{Mailed, note_in, LetterBox, taken_for, StandAmong, WasBox, mailed}
use Rattle.be_hub.specs.Serving.{ServedLink, Worker, LinksAreServed, boxes_of}
use Rattle.be_hub.specs.Settling.{IsUnbroken}
use Rattle.be_hub.proofs.LinksLegal.{told_at, tells_at}
use Rattle.be_hub.proofs.Places.{one_some}
use Rattle.be_hub.proofs.Posted.{noted}

module _ {L : Type 0} (told : L → LinkState) (schema : Attributes) (found : BoxId → Mailbox → Type 0) (s : Attributes) (boxes : List TableId) (opening h : List Entry) (shuts : Bool) (links : ℕ) (keeps : Bool) where
  -- the links were served, and the workers' boxes are the mailboxes
  abbrev pub ServedWithBoxes : Sums → List (SessionNo × L) → Type 0
  ServedWithBoxes sums kept =
      (served : LinksAreServed told s opening h shuts (length boxes) links sums keeps kept) × (passes : List Passes) × AreAll boxes passes
      × ((i : ℕ) (worker : Worker) → slice_get served.workers i ≡ Some worker → WasBox schema found boxes passes i worker.box)

-- what session k reads of these letters
abbrev pub notes_for : ℕ → List PlainLetter → List Note
notes_for k ls = map note_of (filter (λ (l : PlainLetter). l.session == k) ls)

notes_for-append : (k : ℕ) (xs ys : List PlainLetter) → notes_for k (xs ++ ys) ≡ notes_for k xs ++ notes_for k ys
notes_for-append k xs ys =
    let for_k = λ (l : PlainLetter). l.session == k in
    ap (map note_of) (filter-append for_k xs ys) ∙ map-append note_of (filter for_k xs) (filter for_k ys)

-- what stands in the middle of three
among_three : (k : ℕ) (all left entered taken rest : List PlainLetter) (given : List Note) → all ≡ left ++ rest → left ≡ entered ++ taken → given ≡ notes_for k taken → StandAmong given (notes_for k all)
among_three k all left entered taken rest given more went is = (
  notes_for k entered,
  notes_for k rest,
  ap (notes_for k) (more ∙ (ap (λ (l : List PlainLetter). l ++ rest) went ∙ append_assoc entered taken rest))
      ∙ (notes_for-append k entered (taken ++ rest)
      ∙ (ap (λ (l : List Note). notes_for k entered ++ l) (notes_for-append k taken rest)
      ∙ ap (λ (l : List Note). notes_for k entered ++ (l ++ notes_for k rest)) (sym is))),
)

-- what a box has for a session is what its seat took for it
pub taken_is : (k : ℕ) (taken : List Posting) (box : LetterBox) → box.taken ≡ map mailed taken → taken_for k box ≡ notes_for k (map letter_in taken)
taken_is k taken box is = ap (λ (l : List Mailed). map note_in (filter (λ (x : Mailed). x.reader == k) l)) is ∙ noted k taken

module _ (s : Attributes) (boxes : List TableId) (k : ℕ) (first last : SeatState) (visit : SeatVisit) (o : LinkServed s boxes k first last visit) (unbroken : IsUnbroken visit.end) where
  -- what FETCH gave to a link stands among what its seat took in all
  pub given_among : StandAmong (told_at s boxes k first last visit o).given (notes_for visit.entered.session (map letter_in last.passes.taken))
  given_among =
      let t = tells_at s boxes k first last visit o unbroken in
      among_three visit.entered.session (map letter_in last.passes.taken) (map letter_in visit.left.passes.taken) (map letter_in visit.entered.passes.taken) t.taken o.went_on.notes.0
      (told_at s boxes k first last visit o).given o.went_on.notes.1 t.notes t.given

  -- what SEND said to it was put by its seat meanwhile
  pub put_by : (told_at s boxes k first last visit o).put ≡ put_count visit.left.passes - put_count visit.entered.passes
  put_by = put_is (put_count visit.entered.passes) (put_count visit.left.passes) (told_at s boxes k first last visit o).put (tells_at s boxes k first last visit o unbroken).put
    where
      put_is : (a b n : ℕ) → b ≡ a + n → n ≡ b - a
      put_is a b n is = omega (arith, is)

-- each list of links with its box
abbrev pub workers_of : List (List ServedLink) → List LetterBox → List Worker
workers_of [] bs = []
workers_of (ls ∷ lss) [] = []
workers_of (ls ∷ lss) (b ∷ bs) = record { links = ls; box = b } ∷ workers_of lss bs

pub boxes_are : (lss : List (List ServedLink)) (bs : List LetterBox) → length lss ≡ length bs → boxes_of (workers_of lss bs) ≡ bs
boxes_are [] [] many = refl
boxes_are [] (b ∷ bs) many = absurd (omega (arith, many))
boxes_are (ls ∷ lss) [] many = absurd (omega (arith, many))
boxes_are (ls ∷ lss) (b ∷ bs) many = ap (λ (l : List LetterBox). b ∷ l) (boxes_are lss bs (omega (arith, many)))

pub links_are : (lss : List (List ServedLink)) (bs : List LetterBox) → length lss ≡ length bs → flat_map (λ (ls : List ServedLink). ls) lss ≡ flat_map (λ (w : Worker). w.links) (workers_of lss bs)
links_are [] [] many = refl
links_are [] (b ∷ bs) many = absurd (omega (arith, many))
links_are (ls ∷ lss) [] many = absurd (omega (arith, many))
links_are (ls ∷ lss) (b ∷ bs) many =
    flat_map-cons (λ (l : List ServedLink). l) ls lss
    ∙ (ap (λ (l : List ServedLink). ls ++ l) (links_are lss bs (omega (arith, many))) ∙ sym (flat_map-cons (λ (w : Worker). w.links) (record { links = ls; box = b }) (workers_of lss bs)))

pub worker_at : (lss : List (List ServedLink)) (bs : List LetterBox) (i : ℕ) (w : Worker) → slice_get (workers_of lss bs) i ≡ Some w → (slice_get lss i ≡ Some w.links) × (slice_get bs i ≡ Some w.box)
worker_at [] bs i w at = absurd cc
worker_at (ls ∷ lss) [] i w at = absurd cc
worker_at (ls ∷ lss) (b ∷ bs) zero w at =
    let is = one_some {X = Worker} (record { links = ls; box = b }) w at in
    (ap (λ (v : Worker). Some v.links) is, ap (λ (v : Worker). Some v.box) is)
worker_at (ls ∷ lss) (b ∷ bs) (suc i) w at = worker_at lss bs i w at
