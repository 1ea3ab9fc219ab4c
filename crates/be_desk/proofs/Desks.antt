-- What the desk draws, takes and answers.
use Rattle.std.proofs.Common.{◌≡◌, ◌≢◌, ℕ, ◌+◌, ◌-◌, ◌<◌, ◌≤◌, ◌==◌, ◌⊎◌, Bool, true, false, cond, List, [], ◌∷◌, ◌++◌, length, Some, slice_get, max, refl, sym, ap, ◌∙◌, subst, arith, length-append}
use Rattle.std.proofs.lemmas.List.{append-nil}
use Rattle.be_base.specs.Lists.{BeginsWith}
use Rattle.be_base.specs.Text.{Text}
use Rattle.be_base.specs.declared.limits.TheConstants.{COUNT_END, LOG_CHANGES}
use Rattle.be_base.proofs.Beginnings.{BeginsWith-along, BeginsWith-length, BeginsWith-same}
use Rattle.be_model.specs.declared.preds.Pred.{Pred}
use Rattle.be_model.specs.Lies.{conj_lies}
use Rattle.be_model.specs.Schemas.{Attributes}
use Rattle.be_change.specs.History.{Entry, subscribed, unsubscribed, left, session_of, entries_of, has_left, stand, live, is_live_name, is_live_name_of, Opens, MayFollow, IsWellFormed}
use Rattle.be_change.specs.Made.{row_made, change_named}
use Rattle.be_change.specs.Requests.{Request, subscribe, unsubscribe, quit}
use Rattle.be_change.specs.Sound.{MayAppend, Sound}
use Rattle.be_change.specs.Walk.{IsChangeOf, HasNameAt, HasNameOfAnotherAt}
use Rattle.be_board.specs.declared.answers.Answer.{Answer}
use Rattle.be_board.specs.declared.answers.Answer.TheVariants.{Done, Held, Dup, NoName, Other, Split, NoMemory}
use Rattle.be_board.specs.Word.{own_in, top}
use Rattle.be_board.specs.Changes.{Answers, Accepts, RefusedAt}
use Rattle.be_published.specs.States.{GlassState, knowing}
use Rattle.be_published.specs.Reads.{Learns, Meets}
use Rattle.be_desk.specs.Desks.{DeskState}
use Rattle.be_desk.specs.Seats.{SeatState, word_of}
use Rattle.be_desk.specs.Changes.{serial_in, Agrees, IsRift, Stays, Grew, Puts, Took, IsRefusal, Changed, Continues}
use Rattle.be_desk.proofs.Records.{get_last}

-- a list that goes on where another ends, and is no longer, is that one
pub same_list : (known published : List Entry) → BeginsWith known published → length known ≤ length published → known ≡ published
same_list known published more short = step more.0 more.1 (omega (arith, short, ap (λ (l : List Entry). length l) more.1, length-append published more.0))
  where
    step : (rest : List Entry) → known ≡ published ++ rest → length rest ≤ 0 → known ≡ published
    step [] is le = is ∙ append-nil published
    step (e ∷ es) is le = absurd (omega (arith, le))

-- a reader that learns what was told and looks then knows a list that goes on where both end
pub looked : (g1 g2 g3 : GlassState) (told : List Entry) (n : ℕ) → g2 ≡ knowing g2.known g1 → Learns g1.known told g2.known → Meets g2 g3 n
    → (g3 ≡ knowing g3.known g1) × BeginsWith g3.known g1.known × BeginsWith g3.known told
looked g1 g2 g3 told n same l m = (
  m.counts ∙ ap (knowing g3.known) same,
  BeginsWith-along g3.known g2.known g1.known m.known l.before,
  BeginsWith-along g3.known g2.known told m.known l.told,
)

-- the seat, its reader having looked, agrees with the desk
pub agreed : (d : DeskState) (s : SeatState) (front written made serial stood : ℕ) → d.published ≡ d.list → BeginsWith s.glass.known d.published → front ≡ length s.glass.known → written ≡ length d.published
    → made ≡ top s.own → front ≤ written → made ≤ written → serial ≡ serial_in s → stood ≡ stand s.session d.list → serial ≡ stood → Agrees d s
agreed d s front written made serial stood settled more is_front is_written is_made short within is_serial is_stood same = record {
  published = settled;
  known = same_list s.glass.known d.published more (omega (arith, is_front, is_written, short)) ∙ settled;
  within = omega (arith, is_made, within, is_written, ap (λ (l : List Entry). length l) settled);
  stands = sym is_stood ∙ (sym same ∙ is_serial);
}

-- the numbers that bound a serial
pub few_below : (serial long made written few : ℕ) → serial ≤ long → long ≡ made → made ≤ written → written ≡ few → few ≤ LOG_CHANGES → serial < 9223372036854775808
few_below serial long made written few a b c d e = omega (arith, a, b, c, d, e)

-- what is told has one change more than what was known, and so it is known then
pub told_all : (before told known h : List Entry) (e : Entry) → BeginsWith known told → length known ≡ max (length before) (length told) → before ≡ h → told ≡ h ++ e ∷ [] → known ≡ told
told_all before told known h e more long was is =
    same_list known told more (omega (arith, long, ap (λ (l : List Entry). length l) was, ap (λ (l : List Entry). length l) is, length-append h (e ∷ [])))
