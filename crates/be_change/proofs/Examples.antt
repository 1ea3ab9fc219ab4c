-- The definitions on examples: lists that are well formed and lists that aren't, what is live and found, and replies.
use Rattle.std.proofs.Common.{◌≡◌, ◌==◌, inl, inr, ap, ℕ, Bool, true, false, cond, Some, None, List, [], ◌∷◌, ◌++◌, refl, arith, lit≤}
use Rattle.std.specs.Prelude.{ℤ, pos, codes}
use Rattle.std.proofs.lemmas.List.Elements.{All-nil, All-cons}
use Rattle.be_model.specs.declared.ops.Op.TheVariants.{Eq}
use Rattle.be_model.specs.declared.preds.Pred.{Pred}
use Rattle.be_model.specs.declared.changes.Row.{Row}
use Rattle.be_model.specs.declared.schemas.Domain.TheVariants.{Int}
use Rattle.be_model.specs.Schemas.{Attributes}
use Rattle.be_model.specs.Domains.{bits}
use Rattle.be_model.specs.Costs as costs
use Rattle.be_model.specs.Matching.{Assignments}
use Rattle.be_change.specs.History.{Text, Entry, subscribed, unsubscribed, left, session_of, Opens, live, hits, stand, IsWellFormed}
use Rattle.be_change.specs.Requests.{Note, note, Exchange, refused, subscribe, unsubscribe, publish, costing, listing, sending, fetching, dumping, tailing, quit, bad, long, refusal, ok, held, bye, dup, none, other, hit, cost, listed, sent, notes, dumped, tailed, split, no_memory, shut}
use Rattle.be_change.specs.Walk.{Walk, beginning_at, Answers, IsNoteFor, IsLegalSession}
use Rattle.be_change.specs.Made.{row_made, made}
use Rattle.be_change.specs.Box.{KeepsBox}
use Rattle.be_change.proofs.Forms.{no_opening}

-- attribute 0 is a number from 0 to 10
abbrev schema : Attributes
schema = record { name = codes "price"; domain = Int (pos 0) (pos 10) } ∷ []

abbrev a : Text
a = codes "a"

abbrev b : Text
b = codes "b"

abbrev c : Text
c = codes "c"

-- attribute 0 is 5
abbrev is_five : List Pred
is_five = record { attr = record { 0 = 0 }; op = Eq (pos 5) } ∷ []

abbrev event : ℤ → Assignments
event v = (record { 0 = 0 }, v ∷ []) ∷ []

abbrev sub_a : Entry
sub_a = subscribed 1 0 (row_made 1 0 a [])

abbrev sub_b : Entry
sub_b = subscribed 2 0 (row_made 2 1 b is_five)

-- two subscriptions; the first is removed, its name is used again, and the second session leaves
abbrev history : List Entry
history = sub_a ∷ sub_b ∷ unsubscribed 1 1 a ∷ subscribed 2 1 (row_made 2 3 a []) ∷ left 2 2 ∷ []

-- no entry of session 1 or 2 is of the opening
no_first : (h : List Entry) (e : Entry) → session_of e ≡ 1 → session_of e ≡ 0 → Opens h e
no_first h e is = no_opening h e (λ z. omega arith)

no_second : (h : List Entry) (e : Entry) → session_of e ≡ 2 → session_of e ≡ 0 → Opens h e
no_second h e is = no_opening h e (λ z. omega arith)

well_formed : IsWellFormed history
well_formed = (
  record { opening = no_first _ _ refl; serial = refl; present = refl; allowed = (refl, refl, refl) },
  (
    record { opening = no_second _ _ refl; serial = refl; present = refl; allowed = (refl, refl, refl) },
    (
      record { opening = no_first _ _ refl; serial = refl; present = refl; allowed = refl },
      (
        record { opening = no_second _ _ refl; serial = refl; present = refl; allowed = (refl, refl, refl) },
        (record { opening = no_second _ _ refl; serial = refl; present = refl; allowed = tt }, tt),
      ),
    ),
  ),
)

-- two rows of an opening, and a session's row behind them
abbrev opening : List Entry
opening = subscribed 0 0 (row_made 0 0 a []) ∷ subscribed 0 1 (row_made 0 1 b is_five) ∷ []

abbrev opened : List Entry
opened = opening ++ subscribed 1 0 (row_made 1 2 c []) ∷ []

well_formed_opened : IsWellFormed opened
well_formed_opened = (
  record { opening = λ z. record { sub = refl; first = refl }; serial = refl; present = refl; allowed = (refl, refl, refl) },
  (
    record { opening = λ z. record { sub = refl; first = refl }; serial = refl; present = refl; allowed = (refl, refl, refl) },
    (record { opening = no_first _ _ refl; serial = refl; present = refl; allowed = (refl, refl, refl) }, tt),
  ),
)

-- an entry of session 0 behind another session's
opening_behind : IsWellFormed (sub_a ∷ subscribed 0 0 (row_made 0 1 b []) ∷ []) → ⊥
opening_behind w = let e : false ≡ true = (w.1.0.opening refl).first in cc

-- session 0 removes nothing, and doesn't leave
opening_removed : IsWellFormed (subscribed 0 0 (row_made 0 0 a []) ∷ unsubscribed 0 1 a ∷ []) → ⊥
opening_removed w = let e : false ≡ true = (w.1.0.opening refl).sub in cc

opening_left : IsWellFormed (left 0 0 ∷ []) → ⊥
opening_left w = let e : false ≡ true = (w.0.opening refl).sub in cc

-- the serials of the opening are 0, 1, 2, .. too
opening_skipped : IsWellFormed (subscribed 0 1 (row_made 0 0 a []) ∷ []) → ⊥
opening_skipped w = omega (arith, w.0.serial)

-- the first serial isn't 0
serial_skipped : IsWellFormed (subscribed 1 1 (row_made 1 0 a []) ∷ []) → ⊥
serial_skipped w = omega (arith, w.0.serial)

-- an entry after the session's Bye
entry_after_bye : IsWellFormed (left 1 0 ∷ subscribed 1 1 (row_made 1 1 a []) ∷ []) → ⊥
entry_after_bye w = let e : true ≡ false = w.1.0.present in cc

-- the name is live
name_live_already : IsWellFormed (sub_a ∷ subscribed 2 0 (row_made 2 1 a []) ∷ []) → ⊥
name_live_already w = let e : true ≡ false = w.1.0.allowed.0 in cc

-- no row has the name
name_not_live : IsWellFormed (sub_a ∷ unsubscribed 1 1 b ∷ []) → ⊥
name_not_live w = let e : false ≡ true = w.1.0.allowed in cc

-- the row with the name is another session's
name_of_another : IsWellFormed (sub_a ∷ unsubscribed 2 0 a ∷ []) → ⊥
name_of_another w = let e : false ≡ true = w.1.0.allowed in cc

-- the id isn't the place
id_not_place : IsWellFormed (subscribed 1 0 (row_made 1 7 a []) ∷ []) → ⊥
id_not_place w = omega (arith, w.0.allowed.1)

-- the row is another session's
row_of_another : IsWellFormed (subscribed 1 0 (row_made 2 0 a []) ∷ []) → ⊥
row_of_another w = omega (arith, w.0.allowed.2)

found_both : hits (sub_a ∷ sub_b ∷ []) (event (pos 5)) ≡ a ∷ b ∷ []
found_both = refl

found_one : hits (sub_a ∷ sub_b ∷ []) (event (pos 4)) ≡ a ∷ []
found_one = refl

found_after_unsub : hits (sub_a ∷ sub_b ∷ unsubscribed 1 1 a ∷ []) (event (pos 5)) ≡ b ∷ []
found_after_unsub = refl

found_after_bye : hits (sub_a ∷ sub_b ∷ left 2 1 ∷ []) (event (pos 5)) ≡ a ∷ []
found_after_bye = refl

live_at_end : live history ≡ []
live_at_end = refl

-- by rising id, not by name
found_in_order : hits (sub_a ∷ sub_b ∷ unsubscribed 1 1 a ∷ subscribed 2 1 (row_made 2 3 a []) ∷ []) (event (pos 5)) ≡ b ∷ a ∷ []
found_in_order = refl

stands : stand 1 history ≡ 2
stands = refl

stands_left : stand 2 history ≡ 9223372036854775808
stands_left = refl

-- a session that was told of `seen` entries, and had `serial` changes accepted, the last as number `own`
abbrev at : ℕ → ℕ → ℕ → Walk
at seen own serial = record { seen = seen; own = own; serial = serial; ended = false }

abbrev two : List Entry
two = sub_a ∷ sub_b ∷ []

accepted_told : Answers schema 1 two (subscribe a []) (ok 1) (beginning_at 0) (at 1 1 1)
accepted_told = (record { later = omega arith; later_own = omega arith; entry = sub_a; stands = refl; is_it = (refl, refl, refl, refl, refl, refl) }, refl)

-- what was seen already can't be accepted anew
accepted_old : Answers schema 2 two (subscribe b is_five) (ok 2) (at 2 0 0) (at 2 2 1) → ⊥
accepted_old s = omega (arith, s.0.later)

accepted_held : Answers schema 2 two (subscribe b is_five) (held 2) (beginning_at 0) (at 0 2 1)
accepted_held = (record { later = omega arith; later_own = omega arith; entry = sub_b; stands = refl; is_it = (refl, refl, refl, refl, refl, refl) }, refl)

-- HELD isn't told: nothing was seen
held_not_told : Answers schema 2 two (subscribe b is_five) (held 2) (beginning_at 0) (at 2 2 1) → ⊥
held_not_told s = omega (arith, ap (λ (w : Walk). w.seen) s.1)

removed_told : Answers schema 1 history (unsubscribe a) (ok 3) (at 1 1 1) (at 3 3 2)
removed_told = (record { later = omega arith; later_own = omega arith; entry = unsubscribed 1 1 a; stands = refl; is_it = (refl, refl, refl) }, refl)

name_taken : Answers schema 2 two (subscribe a []) (dup 2 0) (beginning_at 0) (at 2 0 0)
name_taken = (record { covers = omega arith; covers_own = omega arith; within = omega arith }, (row_made 1 0 a [], refl, refl), refl)

-- nothing is live in an empty list
name_not_taken : Answers schema 2 two (subscribe a []) (dup 0 0) (beginning_at 0) (beginning_at 0) → ⊥
name_not_taken s = absurd cc s.1.1

nothing_to_remove : Answers schema 1 history (unsubscribe a) (none 3) (at 1 1 1) (at 3 1 1)
nothing_to_remove = (record { covers = omega arith; covers_own = omega arith; within = omega arith }, refl, refl)

-- the answer covers less than what was seen
too_old : Answers schema 1 history (unsubscribe b) (none 0) (at 1 1 1) (at 0 1 1) → ⊥
too_old s = omega (arith, s.0.covers)

not_mine : Answers schema 2 two (unsubscribe a) (other 1 0) (beginning_at 0) (at 1 0 0)
not_mine = (record { covers = omega arith; covers_own = omega arith; within = omega arith }, (row_made 1 0 a [], refl, refl, λ e. omega arith), refl)

read_newest : Answers schema 1 two (publish (event (pos 5))) (hit 2 (a ∷ b ∷ [])) (at 1 1 1) (at 2 1 1)
read_newest = (record { covers = omega arith; within = omega arith }, refl, refl)

read_own : Answers schema 1 two (publish (event (pos 5))) (hit 1 (a ∷ [])) (at 1 1 1) (at 1 1 1)
read_own = (record { covers = omega arith; within = omega arith }, refl, refl)

-- always nothing
read_nothing : Answers schema 1 two (publish (event (pos 5))) (hit 0 []) (at 1 1 1) (at 1 1 1) → ⊥
read_nothing s = omega (arith, s.0.covers)

listed_own : Answers schema 2 two listing (listed 2 (b ∷ [])) (beginning_at 0) (at 2 0 0)
listed_own = (record { covers = omega arith; within = omega arith }, refl, refl)

told_left : Answers schema 2 history quit (bye 5) (at 4 4 2) (record { seen = 4; own = 4; serial = 3; ended = true })
told_left = (record { later = omega arith; later_own = omega arith; entry = left 2 2; stands = refl; is_it = (refl, refl) }, refl)

-- SHUT is no answer to a change, and OK none to a QUIT
shut_to_change : Answers schema 1 two (subscribe a []) shut (beginning_at 0) (beginning_at 0) → ⊥
shut_to_change s = s

ok_to_quit : Answers schema 1 history quit (ok 5) (beginning_at 0) (at 5 5 1) → ⊥
ok_to_quit s = s

bad_to_long : Answers schema 1 two (refused long) (refusal bad) (beginning_at 0) (beginning_at 0) → ⊥
bad_to_long s = absurd cc s.0

-- a read behind what was seen shows a split
shows_split : Answers schema 1 two (subscribe b []) (split 2 1) (at 2 1 1) (record { seen = 2; own = 1; serial = 1; ended = true })
shows_split = (inl (omega arith, omega arith), refl)

no_split : Answers schema 1 two (subscribe b []) (split 2 2) (at 2 1 1) (record { seen = 2; own = 1; serial = 1; ended = true }) → ⊥
no_split (inl s, t) = omega (arith, s.1)
no_split (inr s, t) = omega (arith, s.0)

abbrev exchanges : List Exchange
exchanges = (subscribe a [], ok 1) ∷ (publish (event (pos 5)), hit 1 (a ∷ [])) ∷ (refused bad, refusal bad) ∷ (unsubscribe a, ok 2) ∷ (quit, bye 3) ∷ []

made_by_one : made [] 1 exchanges ≡ sub_a ∷ unsubscribed 1 1 a ∷ left 1 2 ∷ []
made_by_one = refl

-- behind an opening the places go on, and the serials begin at 0
made_behind : made opening 1 ((subscribe c [], ok 3) ∷ (quit, bye 4) ∷ []) ≡ opened ++ left 1 1 ∷ []
made_behind = refl

-- a session that was told of the opening is answered over it
told_opening : IsLegalSession schema 1 2 opening ((publish (event (pos 5)), hit 2 (a ∷ b ∷ [])) ∷ [])
told_opening = record { end = at 2 0 0; legal = (refl, at 2 0 0, (record { covers = omega arith; within = omega arith }, refl, refl), refl); only = inl refl }

-- before the opening there was nothing to see
before_opening : IsLegalSession schema 1 2 opening ((publish (event (pos 5)), hit 0 []) ∷ []) → ⊥
before_opening l = omega (arith, l.legal.2.0.covers)

cost_told : Answers schema 1 two (costing (event (pos 5))) (cost 2 (costs.cost 1 2)) (beginning_at 0) (at 2 0 0)
unfolding bits
cost_told = (record { covers = omega arith; within = omega arith }, record { some = lit≤ tt; visits = lit≤ tt; found = lit≤ tt; tested = lit≤ tt }, refl)

-- fewer rows were tested than were found
cost_too_few : Answers schema 1 two (costing (event (pos 5))) (cost 2 (costs.cost 1 1)) (beginning_at 0) (at 2 0 0) → ⊥
cost_too_few t = omega (arith, t.1.found)

-- no node was visited
cost_of_nothing : Answers schema 1 two (costing (event (pos 5))) (cost 2 (costs.cost 0 2)) (beginning_at 0) (at 2 0 0) → ⊥
cost_of_nothing t = omega (arith, t.1.some)

-- the root, and five ranges on the way to the row of `b`
cost_too_many : Answers schema 1 two (costing (event (pos 5))) (cost 2 (costs.cost 7 2)) (beginning_at 0) (at 2 0 0) → ⊥
unfolding bits
cost_too_many t = omega (arith, t.1.visits)

sent_told : Answers schema 1 two (sending (event (pos 5))) (sent 2 1 1) (beginning_at 0) (at 2 0 0)
sent_told = (record { covers = omega arith; within = omega arith }, refl, refl)

-- a hit was neither put nor dropped
sent_too_few : Answers schema 1 two (sending (event (pos 5))) (sent 2 1 0) (beginning_at 0) (at 2 0 0) → ⊥
sent_too_few t = omega (arith, t.1)

-- SEND tells what it saw
sent_moves_nothing : Answers schema 1 two (sending (event (pos 5))) (sent 2 1 1) (beginning_at 0) (beginning_at 0) → ⊥
sent_moves_nothing t = omega (arith, ap (λ (w : Walk). w.seen) t.2)

abbrev letter : Note
letter = note 1 a (event (pos 5))

for_first : IsNoteFor 1 two letter
for_first = record { within = lit≤ tt; id = 0; row = row_made 1 0 a []; stands = refl; owner = refl; named = refl; satisfied = refl }

fetched : Answers schema 1 two (fetching 1) (notes (letter ∷ [])) (at 2 1 1) (at 2 1 1)
fetched = (lit≤ tt, All-cons (IsNoteFor 1 two) letter [] for_first (All-nil (IsNoteFor 1 two)), refl)

-- more letters than were asked for
fetched_beyond : Answers schema 1 two (fetching 1) (notes (letter ∷ letter ∷ [])) (at 2 1 1) (at 2 1 1) → ⊥
fetched_beyond t = omega (arith, t.0)

-- a letter for the row of another session
fetched_of_another : Answers schema 2 two (fetching 1) (notes (letter ∷ [])) (at 2 0 0) (at 2 0 0) → ⊥
fetched_of_another t = let x = t.1 0 letter (omega arith) in which (0 == x.id) x.row x.stands x.owner
  where
    which : (there : Bool) (row : Row) → cond there (Some (row_made 1 0 a [])) None ≡ Some row → row.session.0 ≡ 2 → ⊥
    which true row e of = let same : row_made 1 0 a [] ≡ row = cc in omega (arith, ap (λ (r : Row). r.session.0) same)
    which false row e of = absurd cc

-- FETCH takes no memory, and enters no copy
fetch_no_memory : Answers schema 1 two (fetching 1) no_memory (at 2 1 1) (at 2 1 1) → ⊥
fetch_no_memory t = t

fetch_shut : Answers schema 1 two (fetching 1) shut (at 2 1 1) (at 2 1 1) → ⊥
fetch_shut t = t

dumped_all : Answers schema 1 two dumping (dumped 2 (row_made 1 0 a [] ∷ row_made 2 1 b is_five ∷ [])) (beginning_at 0) (at 2 0 0)
dumped_all = (record { covers = omega arith; within = omega arith }, refl, refl)

-- a row is missing
dumped_too_few : Answers schema 1 two dumping (dumped 2 (row_made 1 0 a [] ∷ [])) (beginning_at 0) (at 2 0 0) → ⊥
dumped_too_few t = absurd cc t.1

-- the rows of a longer list than the count says
dumped_count_off : Answers schema 1 two dumping (dumped 1 (row_made 1 0 a [] ∷ row_made 2 1 b is_five ∷ [])) (beginning_at 0) (at 1 0 0) → ⊥
dumped_count_off t = absurd cc t.1

tailed_rest : Answers schema 1 two (tailing 1 5) (tailed 2 1 (sub_b ∷ [])) (beginning_at 0) (at 2 0 0)
tailed_rest = (record { covers = omega arith; within = omega arith }, refl, refl, refl)

tailed_none : Answers schema 1 two (tailing 9 1) (tailed 2 9 []) (beginning_at 0) (at 2 0 0)
tailed_none = (record { covers = omega arith; within = omega arith }, refl, refl, refl)

-- more changes than were asked for
tailed_beyond : Answers schema 1 two (tailing 0 1) (tailed 2 0 (sub_a ∷ sub_b ∷ [])) (beginning_at 0) (at 2 0 0) → ⊥
tailed_beyond t = absurd cc t.2

-- from another place than was asked for
tailed_elsewhere : Answers schema 1 two (tailing 1 5) (tailed 2 0 (sub_a ∷ sub_b ∷ [])) (beginning_at 0) (at 2 0 0) → ⊥
tailed_elsewhere t = omega (arith, t.1)

-- a read that is refused moves nothing
shut_to_reads : Answers schema 1 two dumping shut (at 2 1 1) (at 2 1 1) × Answers schema 1 two (costing []) shut (at 2 1 1) (at 2 1 1) × Answers schema 1 two (tailing 0 1) shut (at 2 1 1) (at 2 1 1)
shut_to_reads = (refl, refl, refl)

-- a letter to the session of each row that is hit, but none to the opening
boxed : KeepsBox opened ((sending (event (pos 5)), sent 3 1 2) ∷ (fetching 5, notes (note 3 c (event (pos 5)) ∷ [])) ∷ (fetching 5, notes []) ∷ []) [] []
boxed = (refl, (refl, (refl, refl)))

-- there was room for the letter
boxed_too_few : KeepsBox opened ((sending (event (pos 5)), sent 3 0 3) ∷ []) [] [] → ⊥
boxed_too_few k = omega (arith, k.0)

-- a letter that was put isn't given
boxed_lost : KeepsBox opened ((sending (event (pos 5)), sent 3 1 2) ∷ (fetching 5, notes []) ∷ []) [] [] → ⊥
boxed_lost k = absurd cc k.1.0
