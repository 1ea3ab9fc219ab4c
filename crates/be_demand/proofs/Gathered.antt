-- Jobs for the seats, and the totals of what the seats have counted.
use Rattle.std.proofs.Common.{◌≡◌, ℕ, zero, suc, ◌+◌, ◌<◌, List, [], ◌∷◌, ◌++◌, length, map, drop, replicate, get_or, Some, Result, slice_get, refl, sym, ap, ◌∙◌, subst, arith, length-append}
use Rattle.std.specs.Prelude.{sum_by, IfOk, All}
use Rattle.std.specs.List.{range_with_len}
use Rattle.std.proofs.lemmas.List.{length-map, length-replicate, map-append}
use Rattle.std.proofs.lemmas.List.FromFn.{length-map-range_with_len}
use Rattle.std.proofs.lemmas.List.Sums.{sum_by-cons}
use Rattle.be_base.specs.Text.{Text}
use Rattle.be_base.specs.declared.names.NoMemory.{NoMemory}
use Rattle.be_change.specs.Requests.{Exchange}
use Rattle.be_heat.specs.Seats.{HeatState, SeatState, AreAllSeats, heat_state, new_seat, at_word, total_of, totals}
use Rattle.be_model.specs.Schemas.{Attributes}
use Rattle.be_demand.specs.Counts.{count_of, HasCounted}
use Rattle.be_demand.specs.Demand.{demand_state, hit_replies, hits_assigning, demand, IsOver, AreOver}
use Rattle.be_demand.specs.Jobs.{told_by, done, seat_in, place_in, AreJobs, CountsAt}
use Rattle.be_demand.specs.declared.demand.CountJob.{CountJob}

pub range_more : (a n : ℕ) → range_with_len a (n + 1) ≡ range_with_len a n ++ (a + n) ∷ []
range_more a zero = let e : a ≡ a + 0 = omega arith in ap (λ (k : ℕ). k ∷ []) e
range_more a (suc n) =
    let e : suc n + 1 ≡ suc (n + 1) = omega arith in
    let f : a + 1 + n ≡ a + suc n = omega arith in
    ap (range_with_len a) e ∙ (ap (λ (l : List ℕ). a ∷ l) (range_more (a + 1) n) ∙ ap (λ (k : ℕ). a ∷ range_with_len (a + 1) n ++ k ∷ []) f)

place_of_job : (jobs : List CountJob) (a i : ℕ) (job : CountJob) → map place_in jobs ≡ range_with_len a (length jobs) → slice_get jobs i ≡ Some job → job.place ≡ a + i
place_of_job [] a i job are e = absurd (cc)
place_of_job (j ∷ js) a zero job are e =
    let first : place_in j ≡ a = cc in
    let same : j ≡ job = cc in
    omega (arith, first, ap place_in same)
place_of_job (j ∷ js) a (suc i) job are e =
    let rest : map place_in js ≡ range_with_len (a + 1) (length js) = cc in
    omega (arith, place_of_job js (a + 1) i job rest e)

seat_of_job : (jobs : List CountJob) (new : SeatState) (n i : ℕ) (job : CountJob) → map seat_in jobs ≡ replicate n new → slice_get jobs i ≡ Some job → job.seat ≡ new
seat_of_job [] new n i job are e = absurd (cc)
seat_of_job (j ∷ js) new zero i job are e = absurd (cc)
seat_of_job (j ∷ js) new (suc n) zero job are e =
    let first : seat_in j ≡ new = cc in
    let same : j ≡ job = cc in
    ap seat_in (sym same) ∙ first
seat_of_job (j ∷ js) new (suc n) (suc i) job are e =
    let rest : map seat_in js ≡ replicate n new = cc in
    seat_of_job js new n i job rest e

got : {X : Type 0} (xs : List X) (k : ℕ) (d : X) → k < length xs → slice_get xs k ≡ Some (get_or xs k d)
got [] k d less = absurd (omega arith)
got (x ∷ xs) zero d less = refl
got (x ∷ xs) (suc k) d less = got xs k d (omega arith)

found : {X : Type 0} (xs : List X) (k : ℕ) → k < length xs → (x : X) × (slice_get xs k ≡ Some x)
found [] k less = absurd (omega arith)
found (x ∷ xs) zero less = (x, refl)
found (x ∷ xs) (suc k) less = found xs k (omega arith)

pub as_many_jobs : (seats : List SeatState) (jobs : List CountJob) (new : SeatState) (n : ℕ) → AreJobs seats jobs → seats ≡ replicate n new → length jobs ≡ n
as_many_jobs seats jobs new n are is =
    omega (arith, length-map jobs seat_in, ap length are.seats_are, ap length is, length-replicate n new)

-- each job has a new seat and the place of a file
pub jobs_new : (seats : List SeatState) (jobs : List CountJob) (new : SeatState) (n : ℕ) → AreJobs seats jobs → seats ≡ replicate n new
    → All (λ (job : CountJob). (job.seat ≡ new) × (job.place < n)) jobs
jobs_new seats jobs new n are is k d less =
    let at = got jobs k d less in (
      seat_of_job jobs new n k (get_or jobs k d) (are.seats_are ∙ is) at,
      omega (arith, place_of_job jobs 0 k (get_or jobs k d) are.places_are at, as_many_jobs seats jobs new n are is),
    )

-- what is known of each end is known of each seat
pub gathered : (s : Attributes) (heat : HeatState) (files transcripts : List Text) (jobs : List CountJob) (ends : List (Result SeatState NoMemory)) (seats : List SeatState)
    → map done seats ≡ ends → length ends ≡ length jobs → map place_in jobs ≡ range_with_len 0 (length jobs)
    → ((i : ℕ) (job : CountJob) (end : Result SeatState NoMemory) → slice_get jobs i ≡ Some job → slice_get ends i ≡ Some end → IfOk end (CountsAt s heat files transcripts job.place))
    → (i : ℕ) (seat : SeatState) → slice_get seats i ≡ Some seat → CountsAt s heat files transcripts i seat
gathered s heat files transcripts jobs ends seats are many places each i seat at =
    let within : i < length jobs = omega (arith, below seats i at, ap length are, length-map seats done) in
    let job = found jobs i within in
    let end : slice_get ends i ≡ Some (done seat) = ap (λ (l : List (Result SeatState NoMemory)). slice_get l i) (sym are) ∙ mapped seats i at in
    let here : job.0.place ≡ i = omega (arith, place_of_job jobs 0 i job.0 places job.1) in
    subst (λ (place : ℕ). CountsAt s heat files transcripts place seat) here (each i job.0 (done seat) job.1 end)
  where
    below : (xs : List SeatState) (k : ℕ) → slice_get xs k ≡ Some seat → k < length xs
    below [] k e = absurd (cc)
    below (x ∷ xs) zero e = omega arith
    below (x ∷ xs) (suc k) e = omega (arith, below xs k e)

    mapped : (xs : List SeatState) (k : ℕ) → slice_get xs k ≡ Some seat → slice_get (map done xs) k ≡ Some (done seat)
    mapped [] k e = absurd (cc)
    mapped (x ∷ xs) zero e = let same : x ≡ seat = cc in ap (λ (y : SeatState). Some (done y)) same
    mapped (x ∷ xs) (suc k) e = mapped xs k e

-- each of so many seats has counted its file
pub record AllCounted (s : Attributes) (heat : HeatState) (files transcripts : List Text) (n : ℕ) (seats : List SeatState) : Type 0 where
  pub many : length seats ≡ n
  pub each : (i : ℕ) (seat : SeatState) → slice_get seats i ≡ Some seat → CountsAt s heat files transcripts i seat

-- new seats, as the heat's own words say it
pub all_new : (heat : HeatState) (words n : ℕ) (seats : List SeatState) → heat ≡ heat_state heat.of words n → seats ≡ replicate n (new_seat heat.of words) → seats ≡ replicate n (new_seat heat.of heat.words)
all_new heat words n seats made new = new ∙ ap (λ (w : ℕ). replicate n (new_seat heat.of w)) (sym (ap (λ (h : HeatState). h.words) made))

pub all_counted : (s : Attributes) (heat : HeatState) (files transcripts : List Text) (n : ℕ) (new : SeatState) (first : List SeatState) (jobs : List CountJob) (ends : List (Result SeatState NoMemory)) (seats : List SeatState)
    → first ≡ replicate n new → AreJobs first jobs → length ends ≡ length jobs
    → ((i : ℕ) (job : CountJob) (end : Result SeatState NoMemory) → slice_get jobs i ≡ Some job → slice_get ends i ≡ Some end → IfOk end (CountsAt s heat files transcripts job.place))
    → map done seats ≡ ends → AllCounted s heat files transcripts n seats
all_counted s heat files transcripts n new first jobs ends seats made are as_many each back = record {
  many = omega (arith, length-map seats done, ap length back, as_many_jobs first jobs new n are made);
  each = gathered s heat files transcripts jobs ends seats back as_many are.places_are each;
}

-- these are all seats of the heat
pub all_seats : (s : Attributes) (heat : HeatState) (files transcripts : List Text) (seats : List SeatState) → length seats ≡ heat.seats
    → ((i : ℕ) (seat : SeatState) → slice_get seats i ≡ Some seat → CountsAt s heat files transcripts i seat) → AreAllSeats heat seats
all_seats s heat files transcripts seats many each = record { as_many = many; each_is_of = λ k d less. (each k (get_or seats k d) (got seats k d less)).belongs }

-- the totals are the counts of all sessions
pub totals_are : (s : Attributes) (words : ℕ) (files transcripts : List Text) (sessions : List (List Exchange)) (seats : List SeatState) → AreOver s files transcripts sessions
    → length seats ≡ length files
    → ((i : ℕ) (seat : SeatState) (file transcript : Text) (ps : List Exchange) → slice_get seats i ≡ Some seat → slice_get files i ≡ Some file → slice_get transcripts i ≡ Some transcript
    → IsOver s file transcript ps → HasCounted words seat.own ps)
    → (word : ℕ) → word < words → total_of seats word ≡ sum_by (count_of word) sessions
totals_are s words [] [] [] [] over many each word less = refl
totals_are s words [] [] [] (x ∷ xs) over many each word less = absurd (omega arith)
totals_are s words [] [] (ps ∷ pss) xs over many each word less = absurd over
totals_are s words [] (t ∷ ts) pss xs over many each word less = absurd over
totals_are s words (f ∷ fs) [] pss xs over many each word less = absurd over
totals_are s words (f ∷ fs) (t ∷ ts) [] xs over many each word less = absurd over
totals_are s words (f ∷ fs) (t ∷ ts) (ps ∷ pss) [] over many each word less = absurd (omega arith)
totals_are s words (f ∷ fs) (t ∷ ts) (ps ∷ pss) (x ∷ xs) over many each word less =
    let first = each 0 x f t ps refl refl refl over.0 word less in
    let rest = totals_are s words fs ts pss xs over.1 (omega arith) (λ i. each (suc i)) word less in
    omega (arith, sum_by-cons (λ (seat : SeatState). at_word seat.own word) x xs, sum_by-cons (count_of word) ps pss, first, rest)

shifted : (f h : ℕ → ℕ) (k n : ℕ) → ((i : ℕ) → i < k + n → f (suc i) ≡ h i) → map f (range_with_len (k + 1) n) ≡ map h (range_with_len k n)
shifted f h k zero same = refl
shifted f h k (suc n) same =
    let next : k + 1 ≡ suc k = omega arith in
    let first : f (k + 1) ≡ h k = ap f next ∙ same k (omega arith) in
    ap (λ (x : ℕ). x ∷ map f (range_with_len (k + 1 + 1) n)) first ∙ ap (λ (l : List ℕ). h k ∷ l) (shifted f h (k + 1) n (λ i less. same i (omega arith)))

-- a number for each attribute
pub asked_long : (s : Attributes) (words : ℕ) (seats : List SeatState) (found : List ℕ) → words ≡ 1 + length s → found ≡ totals words seats → length (told_by found).asked ≡ length s
asked_long s words seats found long is =
    let more : words ≡ suc (length s) = omega arith in
    let all : found ≡ total_of seats 0 ∷ map (total_of seats) (range_with_len 1 (length s)) = is ∙ ap (λ (n : ℕ). totals n seats) more in
    ap (λ (l : List ℕ). length (drop 1 l)) all ∙ length-map-range_with_len (total_of seats) 1 (length s)

-- the totals, told as a demand
pub demand_is : (s : Attributes) (words : ℕ) (sessions : List (List Exchange)) (seats : List SeatState) (found : List ℕ) → words ≡ 1 + length s → found ≡ totals words seats
    → ((word : ℕ) → word < words → total_of seats word ≡ sum_by (count_of word) sessions) → told_by found ≡ demand s sessions
demand_is s words sessions seats found long is each =
    let more : words ≡ suc (length s) = omega arith in
    let all : found ≡ total_of seats 0 ∷ map (total_of seats) (range_with_len 1 (length s)) = is ∙ ap (λ (n : ℕ). totals n seats) more in
    ap told_by all
    ∙ (ap (λ (n : ℕ). demand_state n (map (total_of seats) (range_with_len 1 (length s)))) (each 0 (omega arith))
    ∙ ap (λ (l : List ℕ). demand_state (sum_by hit_replies sessions) l) (shifted (total_of seats) (λ a. sum_by (hits_assigning a) sessions) 0 (length s) (λ i less. each (suc i) (omega arith))))

-- the next job has the next place
pub places_more : (jobs all : List CountJob) (job : CountJob) → all ≡ jobs ++ job ∷ [] → job.place ≡ length jobs → map place_in jobs ≡ range_with_len 0 (length jobs)
    → map place_in all ≡ range_with_len 0 (length all)
places_more jobs all job pushed here are =
    let long : length all ≡ length jobs + 1 = omega (arith, ap length pushed, length-append jobs (job ∷ [])) in
    let next : 0 + length jobs ≡ job.place = omega (arith, here) in
    ap (map place_in) pushed ∙ (map-append place_in jobs (job ∷ []) ∙ (ap (λ (l : List ℕ). l ++ job.place ∷ []) are
    ∙ sym (ap (range_with_len 0) long ∙ (range_more 0 (length jobs) ∙ ap (λ (k : ℕ). range_with_len 0 (length jobs) ++ k ∷ []) next))))
