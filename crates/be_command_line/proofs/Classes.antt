-- What a word is, both as these definitions and as the kit's parser read it.
use Rattle.std.proofs.Common.{subst, ◌≡◌, ◌⊎◌, inl, inr, ℕ, refl, sym, ap, ◌∙◌, List, [], ◌∷◌, ◌++◌, length, take, drop, get_or, Some, None, true, false, Bool, codes, true≢false}
use Rattle.std.specs.List.{position_or_len, before_first, after_first}
use Rattle.std.specs.Str.{IsUtf8, bytes_eq, chars, encode_utf8_all, is_utf8}
use Rattle.std.specs.Prelude.{slice_get, ◌==◌}
use Rattle.std.specs.Char.{encode_utf8}
use Rattle.std.proofs.lemmas.Str.{is_utf8-from_IsUtf8}
use Rattle.std.proofs.lemmas.Bool.{and_parts, cases_lt, eqb-true}
use Rattle.std.proofs.lemmas.List.{take_all, take-append-drop}
use Rattle.std.proofs.lemmas.List.Sums.{passes_at_first, split_at_first}
use Rattle.be_base.specs.Text.{Text, same_text}
use Rattle.be_base.proofs.SameText.{equal_from_same_text}
use Rattle.clap.specs.Lexer.{long_of, short_of}
use Rattle.clap.specs.Faults.{flag_word_fault, flags_fault}
use Rattle.clap.specs.Walk.{Held}
use Rattle.clap.specs.declared.error.kind.ErrorKind.TheVariants as kind
use Rattle.be_command_line.specs.Arguments.{is_dashed, load_in}
use Rattle.be_command_line.specs.CommandLine.{load_id}
use Rattle.be_command_line.proofs.Rules.{rules}

-- a word that begins with `-`, and is no option of the command
pub record Unknown (word : Text) : Type 0 where
  pub dashed : is_dashed word ≡ true
  pub separator : same_text word (codes "--") ≡ false
  pub load : same_text word (codes "--load") ≡ false
  pub named : load_in word ≡ None
  pub refused : (again : Bool) (h : Held) → h.skip ≡ 0 → flag_word_fault rules again (long_of word) word h ≡ kind.UnknownArgument ∷ []

-- a word that stands by its place
pub record Placed (word : Text) : Type 0 where
  pub undashed : is_dashed word ≡ false
  pub separator : same_text word (codes "--") ≡ false
  pub load : same_text word (codes "--load") ≡ false
  pub named : load_in word ≡ None
  pub long : long_of word ≡ None
  pub short : short_of word ≡ None

pub data Class : Text → Type 0 where
  separates : Class (codes "--")
  loads : Class (codes "--load")
  names_load : (file : Text) → Class (codes "--load=" ++ file)
  unknown : (word : Text) → Unknown word → Class word
  placed : (word : Text) → Placed word → Class word

abbrev is_equals : ℕ → Bool
is_equals b = b == 61

-- what stands before the first `=` is the word, or an `=` stands behind it
split : (word : Text) → (before_first is_equals word ≡ word) ⊎ ((value : Text) × (word ≡ before_first is_equals word ++ 61 ∷ value))
split word = elim (cases_lt (position_or_len is_equals word) (length word)) [
  | inl inside ↦
      let at : get_or word (position_or_len is_equals word) 0 ≡ 61 = eqb-true (get_or word (position_or_len is_equals word) 0) 61 (passes_at_first is_equals word 0 inside) in
      inr (after_first is_equals word, split_at_first is_equals word 0 inside ∙ ap (λ (b : ℕ). before_first is_equals word ++ b ∷ after_first is_equals word) at)
  | inr past ↦ inl (take_all (position_or_len is_equals word) word past)
]

not_true : (b : Bool) → (b ≡ true → ⊥) → b ≡ false
not_true true h = absurd (h refl)
not_true false h = refl

no_value : (b : ℕ) (t : Text) → bytes_eq load_id (before_first is_equals (b ∷ t)) ≡ false → bytes_eq (take 7 (45 ∷ 45 ∷ b ∷ t)) (codes "--load=") ≡ false
no_value b t other = not_true (bytes_eq (take 7 (45 ∷ 45 ∷ b ∷ t)) (codes "--load=")) (λ same.
    let is : take 5 (b ∷ t) ≡ codes "load=" = equal_from_same_text (take 5 (b ∷ t)) (codes "load=") same in
    let whole : b ∷ t ≡ codes "load=" ++ drop 5 (b ∷ t) = sym (take-append-drop 5 (b ∷ t)) ∙ ap (λ (w : Text). w ++ drop 5 (b ∷ t)) is in
    true≢false (sym (ap (λ (w : Text). bytes_eq load_id (before_first is_equals w)) whole) ∙ other))

-- the name of a long option is another one
other_long : (b : ℕ) (t : Text) → bytes_eq load_id (before_first is_equals (b ∷ t)) ≡ false → Unknown (45 ∷ 45 ∷ b ∷ t)
other_long b t other = record {
  dashed = refl;
  separator = refl;
  load = not_true (same_text (b ∷ t) load_id) (λ same.
      let is : b ∷ t ≡ load_id = equal_from_same_text (b ∷ t) load_id same in
      true≢false (sym (ap (λ (w : Text). bytes_eq load_id (before_first is_equals w)) is) ∙ other));
  named = rw (no_value b t other) refl;
  refused = λ again h none. simp other;
}

-- a text behind its first character has a first one too
first_char : (b : ℕ) (t : Text) → IsUtf8 (45 ∷ b ∷ t) → (c : ℕ) × (slice_get (chars (b ∷ t)) 0 ≡ Some c)
unfolding is_utf8 chars encode_utf8
first_char b t utf8 = go (chars (b ∷ t)) refl
  where
    spelled : bytes_eq (encode_utf8_all (45 ∷ chars (b ∷ t))) (45 ∷ b ∷ t) ≡ true
    spelled = (and_parts _ (bytes_eq (encode_utf8_all (45 ∷ chars (b ∷ t))) (45 ∷ b ∷ t)) (is_utf8-from_IsUtf8 (45 ∷ b ∷ t) utf8)).1

    go : (cs : List ℕ) → chars (b ∷ t) ≡ cs → (c : ℕ) × (slice_get (chars (b ∷ t)) 0 ≡ Some c)
    go [] e = absurd (true≢false (sym (subst (λ (cs : List ℕ). bytes_eq (encode_utf8_all (45 ∷ cs)) (45 ∷ b ∷ t) ≡ true) e spelled)))
    go (c ∷ cs) e = (c, simp e)

-- short options, of which there is none
short : (b : ℕ) (t : Text) → IsUtf8 (45 ∷ b ∷ t) → (b == 45) ≡ false → Unknown (45 ∷ b ∷ t)
unfolding flags_fault
short b t utf8 e =
    let char = first_char b t utf8 in
    record {
      dashed = refl;
      separator = simp e;
      load = simp e;
      named = simp e;
      refused = λ again h none. simp (e, none, char.1);
    }

-- an option, or the separator
long : (t : Text) → Class (45 ∷ 45 ∷ t)
long [] = separates
long (b ∷ t) = go (bytes_eq load_id (before_first is_equals (b ∷ t))) refl
  where
    go : (same : Bool) → bytes_eq load_id (before_first is_equals (b ∷ t)) ≡ same → Class (45 ∷ 45 ∷ b ∷ t)
    go false e = unknown (45 ∷ 45 ∷ b ∷ t) (other_long b t e)
    go true e =
        let is : load_id ≡ before_first is_equals (b ∷ t) = equal_from_same_text load_id (before_first is_equals (b ∷ t)) e in
        elim (split (b ∷ t)) [
          | inl whole ↦ subst (λ (w : Text). Class (45 ∷ 45 ∷ w)) (is ∙ whole) loads
          | inr (value, parts) ↦ subst (λ (w : Text). Class (45 ∷ 45 ∷ w)) (ap (λ (w : Text). w ++ 61 ∷ value) is ∙ sym parts) (names_load value)
        ]

-- a word that begins with another byte
undashed : (b : ℕ) (t : Text) → (b == 45) ≡ false → Placed (b ∷ t)
undashed b [] e = record { undashed = refl; separator = simp e; load = simp e; named = simp e; long = simp e; short = simp e }
undashed b (c ∷ t) e = record { undashed = e; separator = simp e; load = simp e; named = simp e; long = simp e; short = simp e }

behind_dash : (t : Text) → IsUtf8 (45 ∷ t) → Class (45 ∷ t)
behind_dash [] utf8 = placed (codes "-") (record { undashed = refl; separator = refl; load = refl; named = refl; long = refl; short = refl })
behind_dash (b ∷ t) utf8 = go (b == 45) refl
  where
    go : (dash : Bool) → (b == 45) ≡ dash → Class (45 ∷ b ∷ t)
    go true e = subst (λ (c : ℕ). Class (45 ∷ c ∷ t)) (sym (eqb-true b 45 e)) (long t)
    go false e = unknown (45 ∷ b ∷ t) (short b t utf8 e)

pub class_of : (word : Text) → IsUtf8 word → Class word
class_of [] utf8 = placed [] (record { undashed = refl; separator = refl; load = refl; named = refl; long = refl; short = refl })
class_of (b ∷ t) utf8 = go (b == 45) refl
  where
    go : (dash : Bool) → (b == 45) ≡ dash → Class (b ∷ t)
    go true e =
        let is : b ≡ 45 = eqb-true b 45 e in
        subst (λ (c : ℕ). Class (c ∷ t)) (sym is) (behind_dash t (subst (λ (c : ℕ). IsUtf8 (c ∷ t)) is utf8))
    go false e = placed (b ∷ t) (undashed b t e)
