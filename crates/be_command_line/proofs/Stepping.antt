-- One word: what these definitions and the kit's parser make of it.
use Rattle.std.proofs.Common.{◌≡◌, ◌⊎◌, inl, inr, refl, sym, ap, ◌∙◌, List, [], ◌∷◌, ◌++◌, Option, Some, None, true, false, Bool, codes}
use Rattle.be_base.specs.Text.{Text}
use Rattle.clap.specs.Faults.{turn_fault}
use Rattle.clap.specs.Walk.{Row, Waiting, idle, option, positional, Walk, reading_by, settled_rows, walked}
use Rattle.clap.specs.Kinds.{Kinds}
use Rattle.clap.specs.declared.error.kind.ErrorKind.TheVariants as kind
use Rattle.clap.specs.declared.parser.matches.ValueSource.TheVariants.{CommandLine}
use Rattle.be_command_line.specs.Arguments.{Progress, Next, any, file, plain, with_load, with_next_word, with_word}
use Rattle.be_command_line.specs.Read.{seen}
use Rattle.be_command_line.proofs.Classes.{Class, separates, loads, names_load, unknown, placed, Placed, Unknown}
use Rattle.be_command_line.proofs.Rows.{seen_more, seen_other}
use Rattle.be_command_line.specs.CommandLine.{load_id, word_id}
use Rattle.be_command_line.proofs.Rules.{load_rule, rules, shape, word_rule}

-- the use that the next word settles
pub data Pending : Type 0 where
  none : Pending
  of_word : Text → Pending
  of_load : Text → Pending

abbrev pub raw : Pending → Option (Text × List Text)
raw none = None
raw (of_word v) = Some (word_id, v ∷ [])
raw (of_load v) = Some (load_id, v ∷ [])

-- where the parser stands
pub data Place : Type 0 where
  -- before any separator, behind a word by its place or not
  open_at : List Row → Pending → Bool → Place
  -- behind the separator
  plain_at : List Row → Pending → Bool → Place
  -- behind `--load`
  file_at : List Row → Place

abbrev waiting_at : Bool → Waiting
waiting_at true = positional
waiting_at false = idle

abbrev walk_of : List Row → Option (Text × List Text) → Waiting → Bool → Walk
walk_of rows pending waiting trailing = record {
  held = record { rows = rows; pending = pending; skip = 0 };
  waiting = waiting;
  position = 1;
  is_trailing = trailing;
  stopped = None;
}

abbrev pub walk_at : Place → Walk
walk_at (open_at rows p behind) = walk_of rows (raw p) (waiting_at behind) false
walk_at (plain_at rows p behind) = walk_of rows (raw p) (waiting_at behind) true
walk_at (file_at rows) = walk_of rows (Some (load_id, [])) (option load_id) false

-- behind `--load --`, where no word can help
abbrev pub doomed_at : List Row → Walk
doomed_at rows = walk_of rows (Some (load_id, [])) (option load_id) true

abbrev pub rows_at : Place → List Row
rows_at (open_at rows p behind) = settled_rows rules (raw p) rows
rows_at (plain_at rows p behind) = settled_rows rules (raw p) rows
rows_at (file_at rows) = rows

abbrev pub next_at : Place → Next
next_at (open_at rows p behind) = any
next_at (plain_at rows p behind) = plain
next_at (file_at rows) = file

-- the parser has seen what was read
pub record HasRead (a : Progress) (place : Place) : Type 0 where
  pub next : a.next ≡ next_at place
  pub words : seen word_id (rows_at place) ≡ a.words
  pub loads : seen load_id (rows_at place) ≡ a.loads

-- both read on
pub record Reads (a : Progress) (place : Place) (word : Text) : Type 0 where
  pub after : Progress
  pub there : Place
  pub reads : with_next_word a.next word a ≡ Some after
  pub passes : turn_fault shape [] (walk_at place) word ≡ []
  pub walks : walked rules [] (walk_at place) word ≡ walk_at there
  pub read : HasRead after there

-- both refuse, the parser with the next word or at the end
pub record Refuses (a : Progress) (place : Place) (word : Text) : Type 0 where
  pub refuses : with_next_word a.next word a ≡ None
  pub fails : (turn_fault shape [] (walk_at place) word ≡ [] → ⊥)
      ⊎ ((turn_fault shape [] (walk_at place) word ≡ []) × (rows : List Row) × (walked rules [] (walk_at place) word ≡ doomed_at rows))

abbrev pub Steps : Progress → Place → Text → Type 0
Steps a place word = Reads a place word ⊎ Refuses a place word

-- a word by its place is one more value of its argument, and the FILEs stay
word_seen : (rows : List Row) (word : Text) → seen word_id (settled_rows rules (raw (of_word word)) rows) ≡ seen word_id rows ++ word ∷ []
word_seen rows word = seen_more word_id (reading_by word_rule) CommandLine (word ∷ []) rows refl

loads_stay : (rows : List Row) (word : Text) → seen load_id (settled_rows rules (raw (of_word word)) rows) ≡ seen load_id rows
loads_stay rows word = seen_other word_id load_id (reading_by word_rule) CommandLine (word ∷ []) rows refl

load_seen : (rows : List Row) (value : Text) → seen load_id (settled_rows rules (raw (of_load value)) rows) ≡ seen load_id rows ++ value ∷ []
load_seen rows value = seen_more load_id (reading_by load_rule) CommandLine (value ∷ []) rows refl

words_stay : (rows : List Row) (value : Text) → seen word_id (settled_rows rules (raw (of_load value)) rows) ≡ seen word_id rows
words_stay rows value = seen_other load_id word_id (reading_by load_rule) CommandLine (value ∷ []) rows refl

plain_passes : (rows : List Row) (p : Pending) (behind : Bool) (word : Text) → turn_fault shape [] (walk_at (plain_at rows p behind)) word ≡ []
plain_passes rows none behind word = refl
plain_passes rows (of_word v) behind word = refl
plain_passes rows (of_load v) behind word = refl

plain_walks : (rows : List Row) (p : Pending) (behind : Bool) (word : Text)
    → walked rules [] (walk_at (plain_at rows p behind)) word ≡ walk_at (plain_at (settled_rows rules (raw p) rows) (of_word word) true)
unfolding walked
plain_walks rows none behind word = refl
plain_walks rows (of_word v) behind word = refl
plain_walks rows (of_load v) behind word = refl

-- a word by its place, behind the separator
plain_step : (a : Progress) (rows : List Row) (p : Pending) (behind : Bool) (word : Text) → HasRead a (plain_at rows p behind) → Reads a (plain_at rows p behind) word
plain_step a rows p behind word r = record {
  after = with_word word a;
  there = plain_at (settled_rows rules (raw p) rows) (of_word word) true;
  reads = rw r.next refl;
  passes = plain_passes rows p behind word;
  walks = plain_walks rows p behind word;
  read = record {
    next = r.next;
    words = word_seen (settled_rows rules (raw p) rows) word ∙ ap (λ (ws : List Text). ws ++ word ∷ []) r.words;
    loads = loads_stay (settled_rows rules (raw p) rows) word ∙ r.loads;
  };
}

-- a word by its place, before any separator
placed_passes : (rows : List Row) (p : Pending) (behind : Bool) (word : Text) → Placed word → turn_fault shape [] (walk_at (open_at rows p behind)) word ≡ []
placed_passes rows none true word w = simp (w.separator, w.long, w.short)
placed_passes rows none false word w = simp (w.separator, w.long, w.short)
placed_passes rows (of_word v) true word w = simp (w.separator, w.long, w.short)
placed_passes rows (of_word v) false word w = simp (w.separator, w.long, w.short)
placed_passes rows (of_load v) true word w = simp (w.separator, w.long, w.short)
placed_passes rows (of_load v) false word w = simp (w.separator, w.long, w.short)

placed_walks : (rows : List Row) (p : Pending) (behind : Bool) (word : Text) → Placed word
    → walked rules [] (walk_at (open_at rows p behind)) word ≡ walk_at (open_at (settled_rows rules (raw p) rows) (of_word word) true)
unfolding walked
placed_walks rows none true word w = simp (w.separator, w.long, w.short)
placed_walks rows none false word w = simp (w.separator, w.long, w.short)
placed_walks rows (of_word v) true word w = simp (w.separator, w.long, w.short)
placed_walks rows (of_word v) false word w = simp (w.separator, w.long, w.short)
placed_walks rows (of_load v) true word w = simp (w.separator, w.long, w.short)
placed_walks rows (of_load v) false word w = simp (w.separator, w.long, w.short)

placed_step : (a : Progress) (rows : List Row) (p : Pending) (behind : Bool) (word : Text) → Placed word → HasRead a (open_at rows p behind) → Reads a (open_at rows p behind) word
placed_step a rows p behind word w r = record {
  after = with_word word a;
  there = open_at (settled_rows rules (raw p) rows) (of_word word) true;
  reads = rw r.next (simp (w.separator, w.load, w.named, w.undashed));
  passes = placed_passes rows p behind word w;
  walks = placed_walks rows p behind word w;
  read = record {
    next = r.next;
    words = word_seen (settled_rows rules (raw p) rows) word ∙ ap (λ (ws : List Text). ws ++ word ∷ []) r.words;
    loads = loads_stay (settled_rows rules (raw p) rows) word ∙ r.loads;
  };
}

-- the separator
separator_step : (a : Progress) (rows : List Row) (p : Pending) (behind : Bool) → HasRead a (open_at rows p behind) → Reads a (open_at rows p behind) (codes "--")
unfolding walked
separator_step a rows p true r = record {
  after = record a { next = plain };
  there = plain_at rows p true;
  reads = rw r.next refl;
  passes = refl;
  walks = refl;
  read = record { next = refl; words = r.words; loads = r.loads };
}
separator_step a rows p false r = record {
  after = record a { next = plain };
  there = plain_at rows p false;
  reads = rw r.next refl;
  passes = refl;
  walks = refl;
  read = record { next = refl; words = r.words; loads = r.loads };
}

-- `--load`
loads_passes : (rows : List Row) (p : Pending) (behind : Bool) → turn_fault shape [] (walk_at (open_at rows p behind)) (codes "--load") ≡ []
loads_passes rows none true = refl
loads_passes rows none false = refl
loads_passes rows (of_word v) true = refl
loads_passes rows (of_word v) false = refl
loads_passes rows (of_load v) true = refl
loads_passes rows (of_load v) false = refl

loads_walks : (rows : List Row) (p : Pending) (behind : Bool) → walked rules [] (walk_at (open_at rows p behind)) (codes "--load") ≡ walk_at (file_at (settled_rows rules (raw p) rows))
unfolding walked
loads_walks rows p true = refl
loads_walks rows p false = refl

loads_step : (a : Progress) (rows : List Row) (p : Pending) (behind : Bool) → HasRead a (open_at rows p behind) → Reads a (open_at rows p behind) (codes "--load")
loads_step a rows p behind r = record {
  after = record a { next = file };
  there = file_at (settled_rows rules (raw p) rows);
  reads = rw r.next refl;
  passes = loads_passes rows p behind;
  walks = loads_walks rows p behind;
  read = record { next = refl; words = r.words; loads = r.loads };
}

-- `--load=FILE`
named_passes : (rows : List Row) (p : Pending) (behind : Bool) (value : Text) → turn_fault shape [] (walk_at (open_at rows p behind)) (codes "--load=" ++ value) ≡ []
named_passes rows none true value = refl
named_passes rows none false value = refl
named_passes rows (of_word v) true value = refl
named_passes rows (of_word v) false value = refl
named_passes rows (of_load v) true value = refl
named_passes rows (of_load v) false value = refl

named_walks : (rows : List Row) (p : Pending) (behind : Bool) (value : Text)
    → walked rules [] (walk_at (open_at rows p behind)) (codes "--load=" ++ value)
    ≡ walk_at (open_at (settled_rows rules (raw (of_load value)) (settled_rows rules (raw p) rows)) none false)
unfolding walked
named_walks rows p true value = refl
named_walks rows p false value = refl

named_step : (a : Progress) (rows : List Row) (p : Pending) (behind : Bool) (value : Text) → HasRead a (open_at rows p behind)
    → Reads a (open_at rows p behind) (codes "--load=" ++ value)
named_step a rows p behind value r = record {
  after = with_load value a;
  there = open_at (settled_rows rules (raw (of_load value)) (settled_rows rules (raw p) rows)) none false;
  reads = rw r.next refl;
  passes = named_passes rows p behind value;
  walks = named_walks rows p behind value;
  read = record {
    next = refl;
    words = words_stay (settled_rows rules (raw p) rows) value ∙ r.words;
    loads = load_seen (settled_rows rules (raw p) rows) value ∙ ap (λ (ws : List Text). ws ++ value ∷ []) r.loads;
  };
}

-- an option that isn't there, wherever a word may be one
unknown_fails : (rows : List Row) (p : Pending) (behind : Bool) (word : Text) → Unknown word → turn_fault shape [] (walk_at (open_at rows p behind)) word ≡ [] → ⊥
unknown_fails rows p true word u passes =
    let refused = u.refused false (record { rows = rows; pending = raw p; skip = 0 }) refl in
    let fails : turn_fault shape [] (walk_at (open_at rows p true)) word ≡ kind.UnknownArgument ∷ [] = simp (u.separator, refused) in
    let clash : kind.UnknownArgument ∷ [] ≡ [] = sym fails ∙ passes in absurd cc
unknown_fails rows p false word u passes =
    let refused = u.refused false (record { rows = rows; pending = raw p; skip = 0 }) refl in
    let fails : turn_fault shape [] (walk_at (open_at rows p false)) word ≡ kind.UnknownArgument ∷ [] = simp (u.separator, refused) in
    let clash : kind.UnknownArgument ∷ [] ≡ [] = sym fails ∙ passes in absurd cc

unknown_file_fails : (rows : List Row) (word : Text) → Unknown word → turn_fault shape [] (walk_at (file_at rows)) word ≡ [] → ⊥
unknown_file_fails rows word u passes =
    let refused = u.refused false (record { rows = rows; pending = Some (load_id, []); skip = 0 }) refl in
    let fails : turn_fault shape [] (walk_at (file_at rows)) word ≡ kind.UnknownArgument ∷ [] = simp (u.separator, refused) in
    let clash : kind.UnknownArgument ∷ [] ≡ [] = sym fails ∙ passes in absurd cc

open_step : (a : Progress) (rows : List Row) (p : Pending) (behind : Bool) (word : Text) → Class word → HasRead a (open_at rows p behind) → Steps a (open_at rows p behind) word
open_step a rows p behind _ separates r = inl (separator_step a rows p behind r)
open_step a rows p behind _ loads r = inl (loads_step a rows p behind r)
open_step a rows p behind _ (names_load value) r = inl (named_step a rows p behind value r)
open_step a rows p behind _ (unknown word u) r = inr (record {
  refuses = rw r.next (simp (u.separator, u.load, u.named, u.dashed));
  fails = inl (unknown_fails rows p behind word u);
})
open_step a rows p behind _ (placed word w) r = inl (placed_step a rows p behind word w r)

placed_file : (a : Progress) (rows : List Row) (word : Text) → Placed word → HasRead a (file_at rows) → Reads a (file_at rows) word
unfolding walked
placed_file a rows word w r = record {
  after = with_load word a;
  there = open_at rows (of_load word) false;
  reads = rw r.next (simp w.undashed);
  passes = simp (w.separator, w.long, w.short);
  walks = simp (w.separator, w.long, w.short);
  read = record {
    next = refl;
    words = words_stay rows word ∙ r.words;
    loads = load_seen rows word ∙ ap (λ (ws : List Text). ws ++ word ∷ []) r.loads;
  };
}

-- a FILE is missing where the next word is an option
pub missing : (k : Kinds) → k ≡ kind.InvalidValue ∷ [] → k ≡ [] → ⊥
missing k is passes = let clash : kind.InvalidValue ∷ [] ≡ [] = sym is ∙ passes in absurd cc

file_step : (a : Progress) (rows : List Row) (word : Text) → Class word → HasRead a (file_at rows) → Steps a (file_at rows) word
unfolding walked
file_step a rows _ separates r = inr (record { refuses = rw r.next refl; fails = inr (refl, rows, refl) })
file_step a rows _ loads r = inr (record { refuses = rw r.next refl; fails = inl (missing (turn_fault shape [] (walk_at (file_at rows)) (codes "--load")) refl) })
file_step a rows _ (names_load value) r = inr (record { refuses = rw r.next refl; fails = inl (missing (turn_fault shape [] (walk_at (file_at rows)) (codes "--load=" ++ value)) refl) })
file_step a rows _ (unknown word u) r = inr (record { refuses = rw r.next (simp u.dashed); fails = inl (unknown_file_fails rows word u) })
file_step a rows _ (placed word w) r = inl (placed_file a rows word w r)

pub step : (a : Progress) (place : Place) (word : Text) → Class word → HasRead a place → Steps a place word
step a (open_at rows p behind) word class r = open_step a rows p behind word class r
step a (plain_at rows p behind) word class r = inl (plain_step a rows p behind word r)
step a (file_at rows) word class r = file_step a rows word class r
