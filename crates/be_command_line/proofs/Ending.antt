-- What the kit's parser makes of all words: exactly what these definitions make of them.
use Rattle.std.proofs.Common.{arith, suc, ◌≡◌, inl, inr, refl, sym, ap, subst, ◌∙◌, List, [], ◌∷◌, Option, Some, None, true, false, Bool}
use Rattle.std.specs.List.{All, fold}
use Rattle.std.specs.Option.{is_some}
use Rattle.std.specs.Str.{IsUtf8}
use Rattle.be_base.specs.Text.{Text}
use Rattle.clap.specs.Faults.{check_fault, defaults_fault, entered_fault, fault_of, settle_fault, turn_fault, walk_fault}
use Rattle.clap.specs.Kinds.{Kinds, or_else}
use Rattle.clap.specs.Simple.{built, entered}
use Rattle.clap.specs.Walk.{Held, Row, Walk, finished, has_row, nothing_held, settled, walk, walked}
use Rattle.clap.proofs.OnLiterals.{clap_on_literals}
use Rattle.be_command_line.specs.Arguments.{Arguments, Progress, arguments, arguments_from, ended, nothing_read}
use Rattle.be_command_line.proofs.Classes.{class_of}
use Rattle.be_command_line.specs.Read.{seen}
use Rattle.be_command_line.specs.CommandLine.{app, load_id, word_id}
use Rattle.be_command_line.proofs.Rules.{rules, shape}
use Rattle.be_command_line.proofs.Stepping.{Pending, none, of_word, of_load, Place, open_at, plain_at, file_at, walk_at, doomed_at, rows_at, HasRead, Reads, Refuses, missing, step}

-- no argument has a default
no_defaults : (rows : List Row) → defaults_fault rows rules ≡ []
unfolding defaults_fault
no_defaults rows = go (has_row word_id rows) refl (has_row load_id rows) refl
  where
    go : (b : Bool) → has_row word_id rows ≡ b → (d : Bool) → has_row load_id rows ≡ d → defaults_fault rows rules ≡ []
    go true e true f = simp (e, f)
    go true e false f = simp (e, f)
    go false e true f = simp (e, f)
    go false e false f = simp (e, f)

finished_is : (h : Held) → finished rules h ≡ (settled rules h).rows
finished_is h = go (has_row word_id rows) refl (has_row load_id rows) refl
  where
    rows : List Row
    rows = (settled rules h).rows

    go : (b : Bool) → has_row word_id rows ≡ b → (d : Bool) → has_row load_id rows ≡ d → finished rules h ≡ rows
    go true e true f = simp (e, f)
    go true e false f = simp (e, f)
    go false e true f = simp (e, f)
    go false e false f = simp (e, f)

-- what fails behind the last word
abbrev rest_fault : Walk → Kinds
rest_fault w =
    or_else (entered_fault (built app) w.stopped)
    (or_else (settle_fault shape.rules shape.args_override_self w.held)
    (or_else (defaults_fault (settled shape.rules w.held).rows shape.rules)
    (check_fault shape (finished shape.rules w.held) (is_some (entered (built app) w.stopped)))))

abbrev walked_all : Walk → List Text → Walk
walked_all w words = fold (walked rules []) w words

-- what fails from here on
abbrev fault_from : Walk → List Text → Kinds
fault_from w words = or_else (walk_fault shape [] w words) (rest_fault (walked_all w words))

-- the parser ended with these arguments
pub record HasEnded (a : Arguments) (w : Walk) : Type 0 where
  pub stopped : w.stopped ≡ None
  pub words : seen word_id (finished rules w.held) ≡ a.words
  pub loads : seen load_id (finished rules w.held) ≡ a.loads

abbrev pub IsMet : Option Arguments → Kinds → Walk → Type 0
IsMet None fault w = fault ≡ [] → ⊥
IsMet (Some a) fault w = (fault ≡ []) × HasEnded a w

open_end : (rows : List Row) (p : Pending) (behind : Bool) → rest_fault (walk_at (open_at rows p behind)) ≡ []
open_end rows none behind = rw (no_defaults rows) refl
open_end rows (of_word v) behind = rw (no_defaults (rows_at (open_at rows (of_word v) behind))) refl
open_end rows (of_load v) behind = rw (no_defaults (rows_at (open_at rows (of_load v) behind))) refl

plain_end : (rows : List Row) (p : Pending) (behind : Bool) → rest_fault (walk_at (plain_at rows p behind)) ≡ []
plain_end rows none behind = rw (no_defaults rows) refl
plain_end rows (of_word v) behind = rw (no_defaults (rows_at (open_at rows (of_word v) behind))) refl
plain_end rows (of_load v) behind = rw (no_defaults (rows_at (open_at rows (of_load v) behind))) refl

end_met : (a : Progress) (place : Place) → HasRead a place → IsMet (ended a.next a) (fault_from (walk_at place) []) (walk_at place)
unfolding walk_fault
end_met a (open_at rows p behind) r = rw r.next (
  open_end rows p behind,
  record {
    stopped = refl;
    words = ap (seen word_id) (finished_is (walk_at (open_at rows p behind)).held) ∙ r.words;
    loads = ap (seen load_id) (finished_is (walk_at (open_at rows p behind)).held) ∙ r.loads;
  },
)
end_met a (plain_at rows p behind) r = rw r.next (
  plain_end rows p behind,
  record {
    stopped = refl;
    words = ap (seen word_id) (finished_is (walk_at (plain_at rows p behind)).held) ∙ r.words;
    loads = ap (seen load_id) (finished_is (walk_at (plain_at rows p behind)).held) ∙ r.loads;
  },
)
end_met a (file_at rows) r = rw r.next (missing (fault_from (walk_at (file_at rows)) []) refl)

-- a `--load` without its FILE fails, with the next word or at the end
doomed : (rows : List Row) (words : List Text) → fault_from (doomed_at rows) words ≡ [] → ⊥
unfolding walk_fault
doomed rows [] passes = missing (fault_from (doomed_at rows) []) refl passes
doomed rows (word ∷ words) passes = missing (fault_from (doomed_at rows) (word ∷ words)) refl passes

is_first : (a b c : Kinds) → or_else (or_else a b) c ≡ [] → a ≡ []
is_first [] b c e = refl
is_first (k ∷ ks) b c e = absurd cc

-- the first word and then the others
fault_next : (w : Walk) (word : Text) (words : List Text) → fault_from w (word ∷ words)
    ≡ or_else (or_else (turn_fault shape [] w word) (walk_fault shape [] (walked rules [] w word) words)) (rest_fault (walked_all (walked rules [] w word) words))
unfolding walk_fault
fault_next w word words = refl

met_next : (a : Progress) (place : Place) (word : Text) (words : List Text) (s : Reads a place word)
    → IsMet (arguments_from s.after words) (fault_from (walk_at s.there) words) (walked_all (walk_at s.there) words)
    → IsMet (arguments_from a (word ∷ words)) (fault_from (walk_at place) (word ∷ words)) (walked_all (walk_at place) (word ∷ words))
met_next a place word words s met = rw (s.reads, fault_next (walk_at place) word words, s.passes) (subst (λ (w : Walk). IsMet (arguments_from s.after words) (fault_from w words) (walked_all w words)) (sym s.walks) met)

met_refused : (a : Progress) (place : Place) (word : Text) (words : List Text) (s : Refuses a place word)
    → IsMet (arguments_from a (word ∷ words)) (fault_from (walk_at place) (word ∷ words)) (walked_all (walk_at place) (word ∷ words))
met_refused a place word words s = rw s.refuses (λ passes.
    let turn = turn_fault shape [] (walk_at place) word in
    let next = walked rules [] (walk_at place) word in
    let rest : Kinds → Kinds = λ k. or_else (or_else k (walk_fault shape [] next words)) (rest_fault (walked_all next words)) in
    let whole : rest turn ≡ [] = sym (fault_next (walk_at place) word words) ∙ passes in
    elim s.fails [
      | inl fails ↦ fails (is_first turn (walk_fault shape [] next words) (rest_fault (walked_all next words)) whole)
      | inr late ↦
          let later : fault_from next words ≡ [] = sym (ap rest late.0) ∙ whole in
          doomed late.1 words (subst (λ (w : Walk). fault_from w words ≡ []) late.2 later)
    ])

all_met : (a : Progress) (place : Place) (words : List Text) → All IsUtf8 words → HasRead a place
    → IsMet (arguments_from a words) (fault_from (walk_at place) words) (walked_all (walk_at place) words)
all_met a place [] utf8 r = end_met a place r
all_met a place (word ∷ words) utf8 r = elim (step a place word (class_of word (utf8 0 [] (omega arith))) r) [
  | inl s ↦ met_next a place word words s (all_met s.after s.there words (λ k d below. utf8 (suc k) d (omega arith)) s.read)
  | inr s ↦ met_refused a place word words s
]

-- the parser takes exactly the words that have arguments, and gives these
pub words_met : (words : List Text) → All IsUtf8 words → IsMet (arguments words) (fault_of app words) (walk rules [] nothing_held words)
unfolding clap_on_literals
words_met words utf8 = all_met nothing_read (open_at [] none false) words utf8 (record { next = refl; words = refl; loads = refl })
