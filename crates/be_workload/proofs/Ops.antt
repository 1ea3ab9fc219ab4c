-- What is drawn behind an attribute is a comparison, with its tokens.
use Rattle.std.proofs.Common.{◌≡◌, ℕ, ◌+◌, ◌<◌, ◌≤◌, ◌==◌, true, ltb, min, List, [], ◌∷◌, ◌++◌, length, map, Some, append_assoc, append-nil, refl, ap, ◌∙◌, arith, codes, decimal}
use Rattle.std.proofs.lemmas.Bool.{cond_both, and_from, lt-ltb}
use Rattle.std.proofs.lemmas.List.Elements.{All-nil, All-cons}
use Rattle.be_base.specs.Text.{Text, IsWord, is_word_byte}
use Rattle.be_base.specs.Tokens.{Lexeme, word, less_or_equal, equal, greater_or_equal, tokens}
use Rattle.be_base.specs.Sets.{set_text, set_tokens}
use Rattle.be_base.proofs.Decimals.{IsWord-decimal}
use Rattle.be_base.proofs.SetTokens.{Ends, set_then}
use Rattle.be_base.proofs.Joined.{word_then, word_space, space_then, less_or_equal_space, equal_space, greater_or_equal_space}
use Rattle.be_expr.specs.Grammar.{WrittenOp, compared as compared_with, between as between_ends, among, op_tokens, op_is_written}
use Rattle.be_expr.specs.Expressions.{words_of}
use Rattle.be_expr.proofs.CanonicalTokens.{IsWord-between, IsWord-and, IsWord-in}
use Rattle.be_workload.specs.Drawing.{Script, draw, put_value, between, in_set, compared}
use Rattle.be_workload.proofs.Attributes.{are_small}
use Rattle.be_workload.proofs.Plain.{IsPlain, plain_append, plain_within, value_plain}

-- the script grew by a piece of this kind
pub record Adds (P : Text → Type 0) (s t : Script) : Type 0 where
  pub piece : Text
  pub grown : t.text ≡ s.text ++ piece
  pub kind : P piece

-- a draw writes nothing, and is below its bound
pub draw_small : (k : ℕ) (s : Script) → 0 < k → (draw k s).0 < k
unfolding draw
draw_small k s h = omega arith

-- a comparison of drawn values, behind a space
pub record IsOp (piece : Text) : Type 0 where
  pub op : WrittenOp
  pub lexed : (rest : Text) (us : List Lexeme) → Ends rest → tokens rest ≡ Some us → tokens (piece ++ rest) ≡ Some (op_tokens op ++ us)
  pub spaced : (rest : Text) → Ends (piece ++ rest)
  pub written : op_is_written op ≡ true
  pub values : List ℕ
  pub words : words_of op ≡ map decimal values
  pub small : are_small values ≡ true
  pub few : length values ≤ 3
  pub plain : IsPlain 32 piece

value_word : (v : ℕ) → v < 1000 → IsWord (decimal v)
value_word v h = IsWord-decimal v (omega arith)

small_one : (v : ℕ) → v < 1000 → are_small (v ∷ []) ≡ true
small_one v h = and_from (ltb v 1000) true (lt-ltb v 1000 h) refl

small_two : (v w : ℕ) → v < 1000 → w < 1000 → are_small (v ∷ w ∷ []) ≡ true
small_two v w h k = and_from (ltb v 1000) (are_small (w ∷ [])) (lt-ltb v 1000 h) (small_one w k)

-- a value behind a text that begins with a space
comparison : (front : Text) (operator : Lexeme) (v : ℕ) → v < 1000 → op_is_written (compared_with operator (decimal v)) ≡ true
    → IsPlain 4 (32 ∷ front) → ((rest : Text) (ts : List Lexeme) → tokens rest ≡ Some ts → tokens (front ++ rest) ≡ Some (operator ∷ ts))
    → IsOp (32 ∷ front ++ decimal v)
unfolding is_word_byte
comparison front operator v h written plain before = record {
  op = compared_with operator (decimal v);
  lexed = λ rest us ends e.
      ap tokens (append_assoc (32 ∷ front) (decimal v) rest)
      ∙ space_then (front ++ (decimal v ++ rest)) (operator ∷ word (decimal v) ∷ us)
      (before (decimal v ++ rest) (word (decimal v) ∷ us) (word_then (decimal v) rest us (value_word v h) ends e));
  spaced = λ rest. refl;
  written = written;
  values = v ∷ [];
  words = refl;
  small = small_one v h;
  few = omega arith;
  plain = plain_within 7 32 (32 ∷ front ++ decimal v) (omega arith) (plain_append 4 3 (32 ∷ front) (decimal v) plain (value_plain v h));
}

equal_op : (v : ℕ) → v < 1000 → IsOp (codes " = " ++ decimal v)
equal_op v h = comparison (codes "= ") equal v h refl (record { bytes = refl; short = omega arith }) equal_space

less_op : (v : ℕ) → v < 1000 → IsOp (codes " <= " ++ decimal v)
less_op v h = comparison (codes "<= ") less_or_equal v h refl (record { bytes = refl; short = omega arith }) less_or_equal_space

greater_op : (v : ℕ) → v < 1000 → IsOp (codes " >= " ++ decimal v)
greater_op v h = comparison (codes ">= ") greater_or_equal v h refl (record { bytes = refl; short = omega arith }) greater_or_equal_space

ends_joined : (v w rest : Text) → (codes " between " ++ v ++ codes " and " ++ w) ++ rest ≡ 32 ∷ (codes "between" ++ 32 ∷ (v ++ 32 ∷ (codes "and" ++ 32 ∷ (w ++ rest))))
ends_joined v w rest = simp append_assoc

between_op : (v w : ℕ) → v < 1000 → w < 1000 → IsOp (codes " between " ++ decimal v ++ codes " and " ++ decimal w)
unfolding is_word_byte
between_op v w h k = record {
  op = between_ends (decimal v) (decimal w);
  lexed = λ rest us ends e.
      let high = word_then (decimal w) rest us (value_word w k) ends e in
      let joined = word_space (codes "and") (decimal w ++ rest) (word (decimal w) ∷ us) IsWord-and high in
      let low = word_space (decimal v) (codes "and" ++ 32 ∷ (decimal w ++ rest)) (word (codes "and") ∷ word (decimal w) ∷ us) (value_word v h) joined in
      ap tokens (ends_joined (decimal v) (decimal w) rest)
      ∙ space_then (codes "between" ++ 32 ∷ (decimal v ++ 32 ∷ (codes "and" ++ 32 ∷ (decimal w ++ rest)))) (op_tokens (between_ends (decimal v) (decimal w)) ++ us)
      (word_space (codes "between") (decimal v ++ 32 ∷ (codes "and" ++ 32 ∷ (decimal w ++ rest))) (word (decimal v) ∷ word (codes "and") ∷ word (decimal w) ∷ us) IsWord-between low);
  spaced = λ rest. refl;
  written = refl;
  values = v ∷ w ∷ [];
  words = refl;
  small = small_two v w h k;
  few = omega arith;
  plain = plain_within 20 32 (codes " between " ++ decimal v ++ codes " and " ++ decimal w) (omega arith)
      (plain_append 17 3 (codes " between " ++ decimal v ++ codes " and ") (decimal w)
      (plain_append 12 5 (codes " between " ++ decimal v) (codes " and ")
      (plain_append 9 3 (codes " between ") (decimal v) (record { bytes = refl; short = omega arith }) (value_plain v h))
      (record { bytes = refl; short = omega arith }))
      (value_plain w k));
}

-- a set as it is drawn
abbrev set_drawn : Text → Text → Text → Text
set_drawn x y z = ((codes " in {" ++ x) ++ (codes "," ++ y)) ++ ((codes "," ++ z) ++ codes "}")

set_assoc : (b c e x y z rest : Text) → (((b ++ x) ++ (c ++ y)) ++ ((c ++ z) ++ e)) ++ rest ≡ b ++ (((x ++ ((c ++ y) ++ ((c ++ z) ++ []))) ++ e) ++ rest)
set_assoc b c e x y z rest = simp (append_assoc, append-nil)

drawn_assoc : (t p q r e : Text) → (((t ++ p) ++ q) ++ r) ++ e ≡ t ++ ((p ++ q) ++ (r ++ e))
drawn_assoc t p q r e = simp append_assoc

set_op : (x y z : ℕ) → x < 1000 → y < 1000 → z < 1000 → IsOp (set_drawn (decimal x) (decimal y) (decimal z))
unfolding is_word_byte
set_op x y z h k l = record {
  op = among (map decimal (x ∷ y ∷ z ∷ []));
  lexed = λ rest us ends e.
      let words = All-cons (λ v. IsWord (decimal v)) x (y ∷ z ∷ []) (value_word x h)
      (All-cons (λ v. IsWord (decimal v)) y (z ∷ []) (value_word y k)
      (All-cons (λ v. IsWord (decimal v)) z [] (value_word z l) (All-nil (λ v. IsWord (decimal v))))) in
      let set = set_then decimal x (y ∷ z ∷ []) rest us words e in
      ap tokens (set_assoc (codes " in {") (codes ",") (codes "}") (decimal x) (decimal y) (decimal z) rest)
      ∙ space_then (codes "in" ++ 32 ∷ (set_text decimal (x ∷ y ∷ z ∷ []) ++ rest)) (word (codes "in") ∷ (set_tokens (map decimal (x ∷ y ∷ z ∷ [])) ++ us))
      (word_space (codes "in") (set_text decimal (x ∷ y ∷ z ∷ []) ++ rest) (set_tokens (map decimal (x ∷ y ∷ z ∷ [])) ++ us) IsWord-in set);
  spaced = λ rest. refl;
  written = refl;
  values = x ∷ y ∷ z ∷ [];
  words = refl;
  small = and_from (ltb x 1000) (are_small (y ∷ z ∷ [])) (lt-ltb x 1000 h) (small_two y z k l);
  few = omega arith;
  plain = plain_within 17 32 (set_drawn (decimal x) (decimal y) (decimal z)) (omega arith)
      (plain_append 12 5 ((codes " in {" ++ decimal x) ++ (codes "," ++ decimal y)) ((codes "," ++ decimal z) ++ codes "}")
      (plain_append 8 4 (codes " in {" ++ decimal x) (codes "," ++ decimal y)
      (plain_append 5 3 (codes " in {") (decimal x) (record { bytes = refl; short = omega arith }) (value_plain x h))
      (plain_append 1 3 (codes ",") (decimal y) (record { bytes = refl; short = omega arith }) (value_plain y k)))
      (plain_append 4 1 (codes "," ++ decimal z) (codes "}")
      (plain_append 1 3 (codes ",") (decimal z) (record { bytes = refl; short = omega arith }) (value_plain z l))
      (record { bytes = refl; short = omega arith })));
}

-- a drawn value behind a text
value_adds : (front : Text) (s : Script) → ((v : ℕ) → v < 1000 → IsOp (front ++ decimal v)) → Adds IsOp s (put_value front s)
unfolding draw
value_adds front s is = record { piece = front ++ decimal (draw 1000 s).0; grown = refl; kind = is (draw 1000 s).0 (omega arith) }

between_adds : (s : Script) → Adds IsOp s (between s)
unfolding draw between
between_adds s =
    let x = draw 1000 s in
    let more = draw 50 x.1 in
    record {
      piece = codes " between " ++ decimal x.0 ++ codes " and " ++ decimal (min 999 (x.0 + more.0));
      grown = refl;
      kind = between_op x.0 (min 999 (x.0 + more.0)) (draw_small 1000 s (omega arith)) (omega arith);
    }

set_adds : (s : Script) → Adds IsOp s (in_set s)
unfolding draw in_set
set_adds s =
    let x = draw 1000 s in
    let y = draw 1000 x.1 in
    let z = draw 1000 y.1 in
    record {
      piece = set_drawn (decimal x.0) (decimal y.0) (decimal z.0);
      grown = drawn_assoc s.text (codes " in {" ++ decimal x.0) (codes "," ++ decimal y.0) (codes "," ++ decimal z.0) (codes "}");
      kind = set_op x.0 y.0 z.0 (draw_small 1000 s (omega arith)) (draw_small 1000 x.1 (omega arith)) (draw_small 1000 y.1 (omega arith));
    }

-- each kind of comparison
pub compared_adds : (kind : ℕ) (s : Script) → Adds IsOp s (compared kind s)
compared_adds kind s =
    cond_both (kind == 0) _ _ (Adds IsOp s) (λ _. value_adds (codes " = ") s equal_op) (λ _.
    cond_both (kind == 1) _ _ (Adds IsOp s) (λ _. between_adds s) (λ _.
    cond_both (kind == 2) _ _ (Adds IsOp s) (λ _. value_adds (codes " <= ") s less_op) (λ _.
    cond_both (kind == 3) _ _ (Adds IsOp s) (λ _. value_adds (codes " >= ") s greater_op) (λ _. set_adds s))))
