-- How `heat` ends: as `drill` does, with what the exchanges count behind its output.
use Rattle.std.proofs.Common.{◌≡◌, inl, inr, ℕ, zero, suc, ◌+◌, ◌-◌, ◌<◌, Bool, true, false, List, [], ◌∷◌, ◌++◌, length, map, Some, slice_get, Result, Ok, Err, is_err, refl, sym, ap, ◌∙◌, subst, append_assoc, arith}
use Rattle.std.specs.Prelude.{All, OnOk}
use Rattle.std.specs.List.{flat_map, list_all, range_with_len}
use Rattle.std.proofs.lemmas.Bool.{and_from}
use Rattle.std.proofs.lemmas.Grind.{flat_map-append}
use Rattle.std.proofs.lemmas.List.{append-nil, length-map}
use Rattle.std.proofs.lemmas.List.Elements.{All-cons, All-head, All-tail, All-nil}
use Rattle.be_base.specs.Lists.{BeginsWith}
use Rattle.be_base.specs.Text.{Text}
use Rattle.be_base.specs.declared.limits.TheConstants.{LINE_BYTES}
use Rattle.be_base.proofs.Beginnings.{BeginsWith-along, BeginsWith-same}
use Rattle.be_change.specs.History.{Entry, session_of}
use Rattle.be_change.specs.Opening.{opening_of}
use Rattle.be_change.specs.Requests.{Request, Exchange}
use Rattle.be_demand.specs.Demand.{DemandState, demand, IsOver, AreOver}
use Rattle.be_demand.specs.Whole.{names_are_whole, entry_is_whole, changes_are_whole}
use Rattle.be_demand.proofs.Gathered.{range_more}
use Rattle.be_demand.proofs.WholeNames.{session_whole}
use Rattle.be_demand.proofs.WholeReplies.{legal_is_fit}
use Rattle.be_hub.proofs.Ends.{there}
use Rattle.be_hub.specs.Transcripts.{AreServedLines, IsTranscript, AreServed}
use Rattle.be_io.specs.Lines.{TextLine, lines}
use Rattle.be_io.specs.Sink.{SinkState}
use Rattle.be_model.specs.declared.changes.Row.{Row}
use Rattle.be_model.specs.Schemas.{Attributes}
use Rattle.be_protocol.specs.Readings.{reading}
use Rattle.be_protocol.specs.Transcript.{AnswersEach, requests}
use Rattle.be_server.specs.Output.{WroteOut}
use Rattle.be_server.specs.declared.status.Status.{Status}
use Rattle.be_server.specs.Drill.{EndsAfter, headed, log_text}
use Rattle.be_server.specs.Heat.{IsTranscriptOf, AreServedBy, asked_line, demand_text, heat_text, PrintedHeat, RunsHeat}
use Rattle.be_server.proofs.DrillEnds.{sessions_ended}

-- the requests that were answered are those of the first lines
begins_mapped : (s : Attributes) (all front : List TextLine) → BeginsWith all front → BeginsWith (map (reading s) all) (map (reading s) front)
begins_mapped s all front b = (map (reading s) b.0, ap (map (reading s)) b.1 ∙ mapped front)
  where
    mapped : (xs : List TextLine) → map (reading s) (xs ++ b.0) ≡ map (reading s) xs ++ map (reading s) b.0
    mapped [] = refl
    mapped (x ∷ xs) = ap (λ (l : List Request). reading s x ∷ l) (mapped xs)

asked_first : (s : Attributes) (file : Text) (served : List TextLine) (ended : Bool) (ps : List Exchange) → AreServedLines s file served → AnswersEach ended (map (reading s) served) (requests ps)
    → BeginsWith (map (reading s) (lines LINE_BYTES true file)) (requests ps)
asked_first s file served ended ps read each = BeginsWith-along (map (reading s) (lines LINE_BYTES true file)) (map (reading s) served) (requests ps) (first read) (answered ended each)
  where
    first : AreServedLines s file served → BeginsWith (map (reading s) (lines LINE_BYTES true file)) (map (reading s) served)
    first (inl all) = subst (λ (ls : List TextLine). BeginsWith (map (reading s) ls) (map (reading s) served)) all.0 (BeginsWith-same (map (reading s) served))
    first (inr some) = begins_mapped s (lines LINE_BYTES true file) served some.0

    answered : (b : Bool) → AnswersEach b (map (reading s) served) (requests ps) → BeginsWith (map (reading s) served) (requests ps)
    answered true e = e
    answered false e = subst (λ (rs : List Request). BeginsWith rs (requests ps)) e (BeginsWith-same (requests ps))

module _ (s : Attributes) (z : ℕ) (h : List Entry) (shuts : Bool) (names : names_are_whole s ≡ true) (changes : changes_are_whole h ≡ true) where
  is_over : (k : ℕ) (file transcript : Text) (t : IsTranscript s k z h shuts file transcript) → IsOver s file transcript t.exchanges
  is_over k file transcript t = record {
    lines = asked_first s file t.served t.legal.session.end.ended t.exchanges t.read t.legal.each;
    text = t.text;
    fit = legal_is_fit s k z h t.served t.exchanges names changes t.legal;
  }

  -- what is known of each file's transcript, with all their exchanges
  pub record Opened (number : ℕ → ℕ) (files transcripts : List Text) : Type 0 where
    pub sessions : List (List Exchange)
    pub count : length sessions ≡ length files
    pub each : (i : ℕ) (file transcript : List ℕ) (ps : List Exchange) → slice_get files i ≡ Some file → slice_get transcripts i ≡ Some transcript → slice_get sessions i ≡ Some ps
        → IsTranscriptOf s (number i) z h shuts file transcript ps
    pub over : AreOver s files transcripts sessions

  pub opened : (number : ℕ → ℕ) (files transcripts : List Text) → length transcripts ≡ length files
      → ((i : ℕ) (file transcript : List ℕ) → slice_get files i ≡ Some file → slice_get transcripts i ≡ Some transcript → IsTranscript s (number i) z h shuts file transcript)
      → Opened number files transcripts
  opened number [] [] many each = record { sessions = []; count = refl; each = λ i file transcript ps at there here. absurd (cc); over = tt }
  opened number [] (t ∷ ts) many each = absurd (omega arith)
  opened number (f ∷ fs) [] many each = absurd (omega arith)
  opened number (f ∷ fs) (t ∷ ts) many each =
      let first = each 0 f t refl refl in
      let rest = opened (λ i. number (suc i)) fs ts (omega arith) (λ i. each (suc i)) in
      record { sessions = first.exchanges ∷ rest.sessions; count = ap suc rest.count; each = one first rest; over = (is_over (number 0) f t first, rest.over) }
    where
      one : (first : IsTranscript s (number 0) z h shuts f t) (rest : Opened (λ i. number (suc i)) fs ts) (i : ℕ) (file transcript : List ℕ) (ps : List Exchange)
          → slice_get (f ∷ fs) i ≡ Some file → slice_get (t ∷ ts) i ≡ Some transcript → slice_get (first.exchanges ∷ rest.sessions) i ≡ Some ps → IsTranscriptOf s (number i) z h shuts file transcript ps
      one first rest zero file transcript ps at there here =
          let same_file : f ≡ file = cc in
          let same_text : t ≡ transcript = cc in
          let same : first.exchanges ≡ ps = cc in
          let told : IsTranscriptOf s (number 0) z h shuts f t ps = (first, same) in
          subst (λ (x : Text). IsTranscriptOf s (number 0) z h shuts x transcript ps) same_file (subst (λ (x : Text). IsTranscriptOf s (number 0) z h shuts f x ps) same_text told)
      one first rest (suc i) file transcript ps at there here = rest.each i file transcript ps at there here

all_at : {X : Type 0} (p : X → Bool) (xs : List X) → ((i : ℕ) (x : X) → slice_get xs i ≡ Some x → p x ≡ true) → list_all p xs ≡ true
all_at p [] each = refl
all_at p (x ∷ xs) each = and_from (p x) (list_all p xs) (each 0 x refl) (all_at p xs (λ i. each (suc i)))

-- no name in the list has an LF: each change was answered to one of the sessions
pub changes_whole : (s : Attributes) (h : List Entry) (shuts : Bool) (files transcripts : List Text) → AreServed s [] h shuts files transcripts → changes_are_whole h ≡ true
changes_whole s h shuts files transcripts served = all_at entry_is_whole h (λ p e at.
    let of = served.sessions p e (omega arith) at in
    let i = session_of e - 1 in
    let file = there files i (omega (arith, of.0, of.1)) in
    let transcript = there transcripts i (omega (arith, of.0, of.1, served.count)) in
    let t = served.each i file.0 transcript.0 file.1 transcript.1 in
    session_whole s (i + 1) 0 h t.served t.exchanges p e t.legal at (omega (arith, of.0)))

-- the exchanges of all sessions, of which the transcripts are the texts, and which are counted
pub served_by : (s : Attributes) (opening h : List Entry) (shuts : Bool) (files transcripts : List Text) → names_are_whole s ≡ true → changes_are_whole h ≡ true → AreServed s opening h shuts files transcripts
    → (sessions : List (List Exchange)) × AreServedBy s opening h shuts files transcripts sessions × AreOver s files transcripts sessions
served_by s opening h shuts files transcripts names changes served =
    let all = opened s (length opening) h shuts names changes (λ i. i + 1) files transcripts served.count served.each in
    (all.sessions, record { served = served; count = all.count; each = all.each }, all.over)

-- what was printed, by how the output ended
pub heat_ended : (Kept : Type 0) (s : Attributes) (rows : List Row) (scripts : List Text) (shuts : Bool) (list : List Entry) (transcripts : List Text) (sessions : List (List Exchange)) (d : DemandState) (text : Text) (before after : SinkState)
    (status : Status) → AreServedBy s (opening_of rows) list shuts scripts transcripts sessions → d ≡ demand s sessions → text ≡ log_text s list ++ demand_text s d
    → EndsAfter (WroteOut before after (headed 1 transcripts ++ text)) shuts status → RunsHeat Kept s rows scripts before after status
heat_ended K s rows scripts shuts list transcripts sessions d text before after status served counted is ends =
    sessions_ended K (λ b result. PrintedHeat s rows scripts b before after result) (WroteOut before after (heat_text s transcripts list (demand s sessions))) shuts status
    (λ b result same written. record {
      list = list;
      transcripts = transcripts;
      sessions = sessions;
      served = subst (λ (x : Bool). AreServedBy s (opening_of rows) list x scripts transcripts sessions) same served;
      written = written;
    })
    (subst (λ (x : Text). EndsAfter (WroteOut before after x) shuts status) whole ends)
  where
    whole : headed 1 transcripts ++ text ≡ heat_text s transcripts list (demand s sessions)
    whole =
        ap (λ (x : Text). headed 1 transcripts ++ x) (is ∙ ap (λ (y : DemandState). log_text s list ++ demand_text s y) counted)
        ∙ sym (append_assoc (headed 1 transcripts) (log_text s list) (demand_text s (demand s sessions)))

-- one line more
pub asked_more : (s : Attributes) (d : DemandState) (first text text' : Text) (place : ℕ) → text ≡ first ++ flat_map (asked_line s d) (range_with_len 0 place) → text' ≡ text ++ asked_line s d place
    → text' ≡ first ++ flat_map (asked_line s d) (range_with_len 0 (place + 1))
asked_more s d first text text' place was is =
    let here : place ≡ 0 + place = omega arith in
    is ∙ (ap (λ (x : Text). x ++ asked_line s d place) was ∙ (append_assoc first (flat_map (asked_line s d) (range_with_len 0 place)) (asked_line s d place)
    ∙ ap (λ (x : Text). first ++ x) (ap (λ (x : Text). flat_map (asked_line s d) (range_with_len 0 place) ++ x) (sym (append-nil (asked_line s d place)) ∙ ap (λ (n : ℕ). flat_map (asked_line s d) (n ∷ [])) here)
    ∙ (sym (flat_map-append (asked_line s d) (range_with_len 0 place) ((0 + place) ∷ [])) ∙ ap (flat_map (asked_line s d)) (sym (range_more 0 place))))))

-- what holds of each of some files holds of each of their copies
module _ {X Y : Type 0} (f : X → Y) where
  pub all_copied : (P : Y → Type 0) (xs ys : List X) → map f xs ≡ map f ys → All (λ y. P (f y)) ys → All (λ x. P (f x)) xs
  all_copied P [] ys same all = All-nil (λ x. P (f x))
  all_copied P (x ∷ xs) [] same all = absurd (cc)
  all_copied P (x ∷ xs) (y ∷ ys) same all =
      let first : f y ≡ f x = cc in
      let rest : map f xs ≡ map f ys = cc in
      All-cons (λ x. P (f x)) x xs (subst P first (All-head (λ y. P (f y)) y ys all)) (all_copied P xs ys rest (All-tail (λ y. P (f y)) y ys all))

-- a call that didn't fail kept its word
pub ok_kept : {T E : Type 0} (P : Type 0) (r : Result T E) (failed : Bool) → OnOk r P → failed ≡ is_err r → failed ≡ false → P
ok_kept P (Ok x) failed kept is none = kept
ok_kept P (Err e) failed kept is none = absurd (cc)
