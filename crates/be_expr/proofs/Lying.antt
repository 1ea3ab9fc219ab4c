-- A condition that was read lies in the schema.
use Rattle.std.proofs.Common.{◌≡◌, ℤ, not, Bool, true, false, nat_lt, if◌then◌else◌, List, [], ◌∷◌, length, map, Option, Some, None, option_map, option_and_then, Ok, Err, MatchOption, IsSome, refl, sym, ◌∙◌, ap}
use Rattle.std.specs.List.{list_all}
use Rattle.std.specs.Option.{is_none, option_map_or}
use Rattle.std.proofs.lemmas.Bool.{and_parts, and_from}
use Rattle.be_base.specs.Tokens.{Lexeme, less, less_or_equal, not_equal, greater_or_equal, greater}
use Rattle.be_base.specs.declared.names.AttrNo.{AttrNo}
use Rattle.be_model.specs.declared.schemas.Attribute.{Attribute}
use Rattle.be_model.specs.declared.preds.Pred.{Pred}
use Rattle.be_model.specs.Domains.{Range, bounds_of, is_within}
use Rattle.be_model.specs.Schemas.{Attributes, numbered, attribute_named, attribute_at, range_of}
use Rattle.be_model.specs.SetTexts.{known, has_outside}
use Rattle.be_model.specs.Lies.{values_in, lies_in, lies_within, pred_lies, conj_lies}
use Rattle.be_model.proofs.SetsLie.{all_known_within, rising_within, attribute_is_there}
use Rattle.be_expr.specs.declared.faults.ExprFault.{ExprFault}
use Rattle.be_expr.specs.declared.faults.ExprFault.TheVariants.{NoMemory}
use Rattle.be_expr.specs.declared.faults.Faults.{Faults}
use Rattle.be_expr.specs.Faults.{faults_of, first_fault, preds_in}
use Rattle.be_expr.specs.Readings.{written}
use Rattle.be_expr.specs.Parts.{is_all}
use Rattle.be_expr.specs.Grammar.{WrittenOp, compared, between, among, not_among, WrittenPred}
use Rattle.be_expr.specs.Expressions.{words_of, fault_in, comparison, meant_op, pred_on, meant_pred, judged, meaning, condition, Reads}
use Rattle.be_expr.specs.Build.{is_fine, are_fine, built_preds}
use Rattle.be_expr.proofs.BuiltPreds.{fine_parts}
use Rattle.be_expr.proofs.Meanings.{fine_without_fault, no_fault_if_fine, no_fault, reads_met}
use Rattle.be_expr.proofs.Joining.{preds_are_written, written_if_preds, all_is_written}

comparison_has : (operator : Lexeme) (v : ℤ) → values_in (comparison operator v) ≡ v ∷ []
comparison_has less v = refl
comparison_has less_or_equal v = refl
comparison_has not_equal v = refl
comparison_has greater_or_equal v = refl
comparison_has greater v = refl
comparison_has _ v = refl

op_within : (s : Attributes) (a : AttrNo) (x : Attribute) (op : WrittenOp) → attribute_at s a ≡ Some x → has_outside s a (words_of op) ≡ false
    → lies_within (bounds_of x.domain) (values_in (meant_op (known s a) op)) ≡ true
op_within s a x (compared operator v) at h = ap (lies_within (bounds_of x.domain)) (comparison_has operator (known s a v)) ∙ all_known_within s a x (v ∷ []) at h
op_within s a x (between v w) at h = all_known_within s a x (v ∷ w ∷ []) at h
op_within s a x (among vs) at h = rising_within (is_within (bounds_of x.domain)) (map (known s a) vs) (all_known_within s a x vs at h)
op_within s a x (not_among vs) at h = rising_within (is_within (bounds_of x.domain)) (map (known s a) vs) (all_known_within s a x vs at h)

pred_on_lies : (s : Attributes) (a : AttrNo) (op : WrittenOp) → (x : Attribute) × (attribute_at s a ≡ Some x) → has_outside s a (words_of op) ≡ false → pred_lies s (pred_on s a op) ≡ true
pred_on_lies s a op there h =
    let range : range_of s a ≡ Some (bounds_of there.0.domain) = ap (option_map (λ (x : Attribute). bounds_of x.domain)) there.1 in
    ap (λ (r : Option Range). lies_in r (values_in (meant_op (known s a) op))) range ∙ op_within s a there.0 op there.1 h

fine_lies_if : (s : Attributes) (p : WrittenPred) (o : Option AttrNo) → attribute_named s p.attr ≡ o → is_fine s p ≡ true → pred_lies s (meant_pred s p) ≡ true
fine_lies_if s p None e h =
    let differ : true ≡ false = sym (ap (λ (o : Option AttrNo). is_none o) e) ∙ (fine_parts s p h).0 in absurd (cc)
fine_lies_if s p (Some a) e h =
    ap (λ (o : Option AttrNo). pred_lies s (option_map_or (λ b. pred_on s b p.op) o (pred_on s (numbered 0) p.op))) e
    ∙ pred_on_lies s a p.op (attribute_is_there s p.attr a e)
    (sym (ap (λ (o : Option AttrNo). option_map_or (λ b. has_outside s b (words_of p.op)) o false) e) ∙ (fine_parts s p h).1)

all_fine_lie : (s : Attributes) (ps : List WrittenPred) → list_all (is_fine s) ps ≡ true → conj_lies s (map (meant_pred s) ps) ≡ true
all_fine_lie s [] h = refl
all_fine_lie s (p ∷ ps) h =
    let parts = and_parts (is_fine s p) (list_all (is_fine s) ps) h in
    and_from (pred_lies s (meant_pred s p)) (conj_lies s (map (meant_pred s) ps)) (fine_lies_if s p (attribute_named s p.attr) refl parts.0) (all_fine_lie s ps parts.1)

judged_lies : (s : Attributes) (ps : List WrittenPred) (o : Option ExprFault) (conj : List Pred) → fault_in s ps ≡ o → judged (map (meant_pred s) ps) o ≡ Ok conj → conj_lies s conj ≡ true
judged_lies s ps None conj e h =
    let is : map (meant_pred s) ps ≡ conj = cc in
    sym (ap (conj_lies s) is) ∙ all_fine_lie s ps (and_parts (list_all (is_fine s) ps) (not (nat_lt 32 (length ps))) (fine_without_fault s ps e)).0
judged_lies s ps (Some fault) conj e h = absurd (cc)

-- a condition that was read lies in the schema
pub meaning_lies : (s : Attributes) (o : Option (List WrittenPred)) (conj : List Pred) → meaning s o ≡ Ok conj → conj_lies s conj ≡ true
meaning_lies s None conj h = absurd (cc)
meaning_lies s (Some ps) conj h = judged_lies s ps (fault_in s ps) conj refl h

built_without_fault : (s : Attributes) (ps : List WrittenPred) (meant : List Pred) (o : Option ExprFault) → fault_in s ps ≡ o → judged (map (meant_pred s) ps) o ≡ Ok meant
    → ¬ (None ≡ built_preds s ps)
built_without_fault s ps meant (Some fault) e h none = absurd (cc)
built_without_fault s ps meant None e h none =
    let built : None ≡ Some (map (meant_pred s) ps) = none ∙ ap (λ (b : Bool). if b then Some (map (meant_pred s) ps) else None) (fine_without_fault s ps e) in
    absurd (cc)

meant_is_built : (s : Attributes) (p : Option (List WrittenPred)) (meant : List Pred) → meaning s p ≡ Ok meant → ¬ (None ≡ option_and_then (built_preds s) p)
meant_is_built s None meant h none = absurd (cc)
meant_is_built s (Some ps) meant h none = built_without_fault s ps meant (fault_in s ps) refl h none

-- a condition other than `all` is built
condition_is_built : (s : Attributes) (o : Option (List Lexeme)) (meant : List Pred) → option_map_or is_all o false ≡ false → condition s o ≡ Ok meant
    → ¬ (None ≡ option_and_then (built_preds s) (option_and_then preds_in o))
condition_is_built s o meant all h none = meant_is_built s (option_and_then preds_in o) meant (ap (meaning s) (sym (written_if_preds o all)) ∙ h) none

meant_if : (s : Attributes) (ps : List WrittenPred) (conj : List Pred) (b : Bool) → are_fine s ps ≡ b → Some conj ≡ (if b then Some (map (meant_pred s) ps) else None)
    → meaning s (Some ps) ≡ Ok conj
meant_if s ps conj true e h =
    let is : map (meant_pred s) ps ≡ conj = cc in
    ap (judged (map (meant_pred s) ps)) (no_fault_if_fine s ps e) ∙ ap (λ c. Ok c) is
meant_if s ps conj false e h = absurd (cc)

built_if : (s : Attributes) (o : Option (List Lexeme)) (conj : List Pred) (p : Option (List WrittenPred)) → option_and_then preds_in o ≡ p → Some conj ≡ option_and_then (built_preds s) p
    → condition s o ≡ Ok conj
built_if s o conj None e h = absurd (cc)
built_if s o conj (Some ps) e h = ap (meaning s) (preds_are_written o ps e) ∙ meant_if s ps conj (are_fine s ps) refl h

-- what was built is what the text means
pub reads_built : (s : Attributes) (o : Option (List Lexeme)) (conj : List Pred) → Some conj ≡ option_and_then (built_preds s) (option_and_then preds_in o)
    → (condition s o ≡ Ok conj) × (conj_lies s conj ≡ true)
reads_built s o conj h =
    let read = built_if s o conj (option_and_then preds_in o) refl h in
    (read, meaning_lies s (option_and_then written o) conj read)

-- `all`
pub reads_all : (s : Attributes) (o : Option (List Lexeme)) (conj : List Pred) → option_map_or is_all o false ≡ true → conj ≡ [] → condition s o ≡ Ok conj
reads_all s o conj all is = ap (meaning s) (all_is_written o all) ∙ ap (λ c. Ok c) (sym is)

fine_if : (s : Attributes) (w : Option (List WrittenPred)) (faults : Faults) → Some faults ≡ option_map (faults_of s) w → None ≡ first_fault faults
    → Reads (Err NoMemory) (meaning s w)
fine_if s None faults h first = absurd (cc)
fine_if s (Some ps) faults h first = (map (meant_pred s) ps, ap (judged (map (meant_pred s) ps)) (no_fault s ps faults h first))

-- what a scan says of a text
pub reads_scanned : (s : Attributes) (o : Option (List Lexeme)) (faults : Faults) (first : Option ExprFault) → Some faults ≡ option_map (faults_of s) (option_and_then written o)
    → first ≡ first_fault faults → MatchOption first (Reads {T = List Pred} (Err NoMemory) (condition s o)) (λ fault. Reads {T = List Pred} (Err fault) (condition s o))
reads_scanned s o faults None h e = fine_if s (option_and_then written o) faults h e
reads_scanned s o faults (Some fault) h e = reads_met s (option_and_then written o) faults fault h e

-- a text that is neither built nor `all` has a fault
pub unbuilt_has_fault : (s : Attributes) (o : Option (List Lexeme)) (first : Option ExprFault) → MatchOption first (Reads {T = List Pred} (Err NoMemory) (condition s o)) (λ fault. Reads {T = List Pred} (Err fault) (condition s o))
    → option_map_or is_all o false ≡ false → None ≡ option_and_then (built_preds s) (option_and_then preds_in o) → IsSome first
unbuilt_has_fault s o None h all none = absurd (condition_is_built s o h.0 all h.1 none)
unbuilt_has_fault s o (Some fault) h all none = refl
