-- What is drawn as an expression is a condition of the schema.
use Rattle.std.proofs.Common.{◌≡◌, ℕ, zero, suc, ◌+◌, ◌*◌, ◌<◌, ◌≤◌, ◌&&◌, Bool, true, false, not, cond, ltb, List, [], ◌∷◌, ◌++◌, length, length-append, map, Some, None, Ok, append_assoc, append-nil, refl, sym, ap, ◌∙◌, arith, codes, decimal}
use Rattle.std.specs.List.{list_all, find}
use Rattle.std.specs.Option.{is_none}
use Rattle.std.proofs.lemmas.Bool.{and_from, and_parts}
use Rattle.std.proofs.lemmas.Bool.Decides.{nat_tests}
use Rattle.std.proofs.lemmas.List.{length-map}
use Rattle.std.proofs.lemmas.List.Folds.{list_all-append}
use Rattle.be_base.specs.Text.{Text, is_word_byte}
use Rattle.be_base.specs.Tokens.{Lexeme, word, tokens}
use Rattle.be_base.proofs.SetTokens.{Ends}
use Rattle.be_base.proofs.Joined.{word_then, word_space, space_then}
use Rattle.be_model.specs.declared.preds.Pred.{Pred}
use Rattle.be_model.specs.Schemas.{numbered, is_attr}
use Rattle.be_model.specs.SetTexts.{has_outside, some_outside}
use Rattle.be_expr.specs.Build.{is_fine}
use Rattle.be_expr.specs.Grammar.{WrittenPred, op_tokens, pred_tokens, condition_tokens, op_is_written, are_written}
use Rattle.be_expr.specs.Expressions.{words_of, is_unknown, is_outside, has_many_values, fault_in, meant_pred, condition, judged, meaning}
use Rattle.be_expr.proofs.BuiltPreds.{fine_parts}
use Rattle.be_expr.proofs.CanonicalTokens.{IsWord-and}
use Rattle.be_expr.proofs.Grammar.{tokens_are_read}
use Rattle.be_workload.specs.Drawing.{Script, draw, put, predicate, predicates, expression}
use Rattle.be_workload.specs.Asked.{schema}
use Rattle.be_workload.proofs.Attributes.{attribute_text, attributes, values_inside}
use Rattle.be_workload.proofs.Ops.{Adds, IsOp, draw_small, compared_adds}
use Rattle.be_workload.proofs.Plain.{IsPlain, plain_append, plain_within}

abbrev is_grammatical : WrittenPred → Bool
is_grammatical p = is_attr p.attr && op_is_written p.op

-- a predicate of the schema
record IsPredicate (piece : Text) : Type 0 where
  pred : WrittenPred
  lexed : (rest : Text) (us : List Lexeme) → Ends rest → tokens rest ≡ Some us → tokens (piece ++ rest) ≡ Some (pred_tokens pred ++ us)
  grammatical : is_grammatical pred ≡ true
  fine : is_fine schema pred ≡ true
  plain : IsPlain 34 piece

at_most : (n : ℕ) → n ≤ 3 → ltb 64 n ≡ false
at_most n h = grind (arith, nat_tests)

three_parts : (a b c : Bool) → a ≡ false → b ≡ false → c ≡ false → (not a && not b && not c) ≡ true
three_parts a b c h k l = rw (h, k, l) refl

-- an attribute and a comparison behind it
op_is_predicate : (k : ℕ) (piece : Text) → k < 10 → IsOp piece → IsPredicate (attribute_text k ++ piece)
op_is_predicate k piece at o =
    let a = attributes k at in
    let p : WrittenPred = record { attr = attribute_text k; op = o.op } in
    let outside : is_outside schema p ≡ false =
    ap (λ found. some_outside schema found (words_of o.op)) a.named ∙ ap (has_outside schema (numbered k)) o.words ∙ values_inside k o.values at o.small in
    let many : has_many_values p ≡ false = ap (λ (ws : List Text). ltb 64 (length ws)) o.words ∙ ap (λ (n : ℕ). ltb 64 n) (length-map o.values decimal) ∙ at_most (length o.values) o.few in
    record {
      pred = p;
      lexed = λ rest us ends e.
          ap tokens (append_assoc (attribute_text k) piece rest)
          ∙ word_then (attribute_text k) (piece ++ rest) (op_tokens o.op ++ us) a.word (o.spaced rest) (o.lexed rest us ends e);
      grammatical = and_from (is_attr (attribute_text k)) (op_is_written o.op) a.is_attribute o.written;
      fine = three_parts (is_unknown schema p) (is_outside schema p) (has_many_values p) (ap is_none a.named) outside many;
      plain = plain_append 2 32 (attribute_text k) piece a.plain o.plain;
    }

predicate_adds : (s : Script) → Adds IsPredicate s (predicate s)
unfolding draw predicate
predicate_adds s =
    let attr = draw 10 s in
    let kind = draw 5 (put (attribute_text attr.0) attr.1) in
    let op = compared_adds kind.0 kind.1 in
    record {
      piece = attribute_text attr.0 ++ op.piece;
      grown = op.grown ∙ append_assoc s.text (attribute_text attr.0) op.piece;
      kind = op_is_predicate attr.0 op.piece (draw_small 10 s (omega arith)) op.kind;
    }

-- a predicate and so many more, joined
record ArePredicates (n : ℕ) (piece : Text) : Type 0 where
  first : WrittenPred
  more : List WrittenPred
  count : length more ≡ n
  lexed : (rest : Text) (us : List Lexeme) → Ends rest → tokens rest ≡ Some us → tokens (piece ++ rest) ≡ Some (condition_tokens (first ∷ more) ++ us)
  grammatical : are_written (first ∷ more) ≡ true
  fine : list_all (is_fine schema) (first ∷ more) ≡ true
  plain : IsPlain (34 + n * 39) piece

one_predicate : (piece : Text) → IsPredicate piece → ArePredicates 0 piece
one_predicate piece p = record {
  first = p.pred;
  more = [];
  count = refl;
  lexed = p.lexed;
  grammatical = and_from (is_grammatical p.pred) true p.grammatical refl;
  fine = and_from (is_fine schema p.pred) true p.fine refl;
  plain = p.plain;
}

-- one more predicate, last
condition_tokens-snoc : (p : WrittenPred) (ps : List WrittenPred) (q : WrittenPred)
    → condition_tokens (p ∷ (ps ++ q ∷ [])) ≡ condition_tokens (p ∷ ps) ++ word (codes "and") ∷ pred_tokens q
condition_tokens-snoc p [] q = refl
condition_tokens-snoc p (r ∷ rs) q =
    ap (λ (ts : List Lexeme). pred_tokens p ++ word (codes "and") ∷ ts) (condition_tokens-snoc r rs q)
    ∙ sym (append_assoc (pred_tokens p) (word (codes "and") ∷ condition_tokens (r ∷ rs)) (word (codes "and") ∷ pred_tokens q))

list_all-snoc : (test : WrittenPred → Bool) (ps : List WrittenPred) (q : WrittenPred) → list_all test ps ≡ true → test q ≡ true → list_all test (ps ++ q ∷ []) ≡ true
list_all-snoc test ps q h k = list_all-append test ps (q ∷ []) ∙ and_from (list_all test ps) (test q && true) h (and_from (test q) true k refl)

and_joined : (a b rest : Text) → ((a ++ codes " and ") ++ b) ++ rest ≡ a ++ 32 ∷ (codes "and" ++ 32 ∷ (b ++ rest))
and_joined a b rest = append_assoc (a ++ codes " and ") b rest ∙ append_assoc a (codes " and ") (b ++ rest)

one_more : (n : ℕ) (piece next : Text) → ArePredicates n piece → IsPredicate next → ArePredicates (suc n) ((piece ++ codes " and ") ++ next)
unfolding is_word_byte
one_more n piece next ps p = record {
  first = ps.first;
  more = ps.more ++ p.pred ∷ [];
  count = omega (arith, length-append ps.more (p.pred ∷ []), ps.count);
  lexed = λ rest us ends e.
      let after = p.lexed rest us ends e in
      let joined = word_space (codes "and") (next ++ rest) (pred_tokens p.pred ++ us) IsWord-and after in
      ap tokens (and_joined piece next rest)
      ∙ ps.lexed (32 ∷ (codes "and" ++ 32 ∷ (next ++ rest))) (word (codes "and") ∷ (pred_tokens p.pred ++ us)) refl
      (space_then (codes "and" ++ 32 ∷ (next ++ rest)) (word (codes "and") ∷ (pred_tokens p.pred ++ us)) joined)
      ∙ ap (λ (ts : List Lexeme). Some ts) (sym (append_assoc (condition_tokens (ps.first ∷ ps.more)) (word (codes "and") ∷ pred_tokens p.pred) us))
      ∙ ap (λ (ts : List Lexeme). Some (ts ++ us)) (sym (condition_tokens-snoc ps.first ps.more p.pred));
  grammatical = list_all-snoc is_grammatical (ps.first ∷ ps.more) p.pred ps.grammatical p.grammatical;
  fine = list_all-snoc (is_fine schema) (ps.first ∷ ps.more) p.pred ps.fine p.fine;
  plain = plain_within ((34 + n * 39) + 5 + 34) (34 + suc n * 39) ((piece ++ codes " and ") ++ next) (omega arith)
      (plain_append ((34 + n * 39) + 5) 34 (piece ++ codes " and ") next
      (plain_append (34 + n * 39) 5 piece (codes " and ") ps.plain (record { bytes = refl; short = omega arith })) p.plain);
}

predicates_add : (n : ℕ) (s : Script) → Adds (ArePredicates n) s (predicates n s)
predicates_add zero s =
    let p = predicate_adds s in
    record { piece = p.piece; grown = p.grown; kind = one_predicate p.piece p.kind }
predicates_add (suc n) s =
    let ps = predicates_add n s in
    let p = predicate_adds (put (codes " and ") (predicates n s)) in
    record {
      piece = (ps.piece ++ codes " and ") ++ p.piece;
      grown = p.grown ∙ ap (λ (t : Text). (t ++ codes " and ") ++ p.piece) ps.grown ∙ all_joined s.text ps.piece p.piece;
      kind = one_more n ps.piece p.piece ps.kind p.kind;
    }
  where
    all_joined : (t a b : Text) → ((t ++ a) ++ codes " and ") ++ b ≡ t ++ ((a ++ codes " and ") ++ b)
    all_joined t a b = simp append_assoc

-- nothing is found that no fine predicate is
none_found : (test : WrittenPred → Bool) (ps : List WrittenPred) → ((p : WrittenPred) → is_fine schema p ≡ true → test p ≡ false)
    → list_all (is_fine schema) ps ≡ true → find test ps ≡ None
none_found test [] clear h = refl
none_found test (p ∷ ps) clear h =
    let parts = and_parts (is_fine schema p) (list_all (is_fine schema) ps) h in
    ap (λ b. cond b (Some p) (find test ps)) (clear p parts.0) ∙ none_found test ps clear parts.1

few : (n : ℕ) → n ≤ 32 → ltb 32 n ≡ false
few n h = grind (arith, nat_tests)

no_fault : (ps : List WrittenPred) → length ps ≤ 32 → list_all (is_fine schema) ps ≡ true → fault_in schema ps ≡ None
no_fault ps short h =
    let unknown = none_found (is_unknown schema) ps (λ p f. (fine_parts schema p f).0) h in
    let outside = none_found (is_outside schema) ps (λ p f. (fine_parts schema p f).1) h in
    let many = none_found has_many_values ps (λ p f. (fine_parts schema p f).2) h in
    rw (unknown, outside, few (length ps) short, many) refl

-- a text that is a condition of the schema
pub record IsCondition (piece : Text) : Type 0 where
  pub conj : List Pred
  pub words : List Lexeme
  pub lexed : tokens piece ≡ Some words
  pub read : condition schema (Some words) ≡ Ok conj
  pub plain : IsPlain 160 piece

predicates_are_condition : (n : ℕ) (piece : Text) → n < 4 → ArePredicates n piece → IsCondition piece
predicates_are_condition n piece small k =
    let ps = k.first ∷ k.more in
    record {
      conj = map (meant_pred schema) ps;
      words = condition_tokens ps;
      lexed = ap tokens (sym (append-nil piece)) ∙ k.lexed [] [] refl refl ∙ ap (λ (ts : List Lexeme). Some ts) (append-nil (condition_tokens ps));
      read = ap (meaning schema) (tokens_are_read ps k.grammatical) ∙ ap (judged (map (meant_pred schema) ps)) (no_fault ps (omega (arith, k.count)) k.fine);
      plain = plain_within (34 + n * 39) 160 piece (omega arith) k.plain;
    }

pub expression_adds : (s : Script) → Adds IsCondition s (expression s)
unfolding draw expression
expression_adds s =
    let more = draw 4 s in
    let ps = predicates_add more.0 more.1 in
    record { piece = ps.piece; grown = ps.grown; kind = predicates_are_condition more.0 ps.piece (draw_small 4 s (omega arith)) ps.kind }
