-- What is read, by the faults that were met and by what is built.
use Rattle.std.proofs.Common.{◌≡◌, ℕ, ◌&&◌, not, Bool, true, false, cond, List, [], ◌∷◌, length, map, find, nat_lt, Option, Some, None, option_map, option_and_then, Result, Err, refl, sym, ◌∙◌, ap, if◌then◌else◌}
use Rattle.std.specs.List.{list_all}
use Rattle.std.specs.Option.{option_or}
use Rattle.std.proofs.lemmas.Bool.{and_from, and_parts, not_from_false, not-true}
use Rattle.be_base.specs.declared.names.AttrNo.{AttrNo}
use Rattle.be_model.specs.declared.preds.Pred.{Pred}
use Rattle.be_model.specs.Schemas.{Attributes, attribute_named}
use Rattle.be_expr.specs.declared.faults.ExprFault.{ExprFault}
use Rattle.be_expr.specs.declared.faults.ExprFault.TheVariants.{Bad, Attr, Dom, Many, NoMemory}
use Rattle.be_expr.specs.declared.faults.Faults.{Faults}
use Rattle.be_expr.specs.Grammar.{WrittenPred}
use Rattle.be_expr.specs.Expressions.{words_of, is_unknown, is_outside, has_many_values, unknown_attr, outside_domain, large_set, too_many, fault_in, meant_pred, judged, meaning, Reads}
use Rattle.be_expr.specs.Faults.{faults_of, first_fault}
use Rattle.be_expr.specs.Build.{is_fine, are_fine}
use Rattle.be_expr.proofs.BuiltPreds.{fine_parts}
use Rattle.be_expr.proofs.Gathered.{faults_by_first, outside_has_attr}

none_of_both : (x y : Option ExprFault) → option_or x y ≡ None → (x ≡ None) × (y ≡ None)
none_of_both None y h = (refl, h)
none_of_both (Some x) y h = absurd (cc)

known_if : (g : WrittenPred → ExprFault) (p : WrittenPred) (b : Bool) → option_map g (cond b (Some p) None) ≡ None → b ≡ false
known_if g p true h = absurd (cc)
known_if g p false h = refl

inside_if : (attr : WrittenPred → Option AttrNo) (p : WrittenPred) (o : Option AttrNo) (b : Bool) → attr p ≡ o → (b ≡ true → o ≡ None → ⊥)
    → option_map (λ a. Dom a) (option_and_then attr (cond b (Some p) None)) ≡ None → b ≡ false
inside_if attr p o false e there h = refl
inside_if attr p None true e there h = absurd (there refl refl)
inside_if attr p (Some a) true e there h = let differ : Some (Dom a) ≡ None = ap (option_map (λ x. Dom x)) (sym e) ∙ h in absurd (cc)

all_are_fine : (s : Attributes) (ps : List WrittenPred) → unknown_attr s ps ≡ None → outside_domain s ps ≡ None → large_set ps ≡ None → list_all (is_fine s) ps ≡ true
all_are_fine s [] u o l = refl
all_are_fine s (p ∷ ps) u o l =
    let split = faults_by_first s p ps in
    let unknown = none_of_both (unknown_attr s (p ∷ [])) (unknown_attr s ps) (sym (ap (λ (f : Faults). f.unknown) split) ∙ u) in
    let outside = none_of_both (outside_domain s (p ∷ [])) (outside_domain s ps) (sym (ap (λ (f : Faults). f.outside) split) ∙ o) in
    let large = none_of_both (large_set (p ∷ [])) (large_set ps) (sym (ap (λ (f : Faults). f.large_set) split) ∙ l) in
    and_from (is_fine s p) (list_all (is_fine s) ps)
    (and_from (not (is_unknown s p) && not (is_outside s p)) (not (has_many_values p))
    (and_from (not (is_unknown s p)) (not (is_outside s p))
    (not_from_false (is_unknown s p) (known_if (λ (q : WrittenPred). Attr q.attr) p (is_unknown s p) unknown.0))
    (not_from_false (is_outside s p) (inside_if (λ (q : WrittenPred). attribute_named s q.attr) p (attribute_named s p.attr) (is_outside s p) refl (outside_has_attr s p) outside.0)))
    (not_from_false (has_many_values p) (known_if (λ (q : WrittenPred). Many (length (words_of q.op))) p (has_many_values p) large.0)))
    (all_are_fine s ps unknown.1 outside.1 large.1)

few_if : (n : ℕ) (b : Bool) (large : Option ExprFault) → nat_lt 32 n ≡ b → (if b then Some (Many n) else large) ≡ None → (nat_lt 32 n ≡ false) × (large ≡ None)
few_if n true large e h = absurd (cc)
few_if n false large e h = (e, h)

-- without a fault, each predicate is fine
pub fine_without_fault : (s : Attributes) (ps : List WrittenPred) → fault_in s ps ≡ None → are_fine s ps ≡ true
fine_without_fault s ps h =
    let outer = none_of_both (unknown_attr s ps) _ h in
    let inner = none_of_both (outside_domain s ps) (too_many ps) outer.1 in
    let few = few_if (length ps) (nat_lt 32 (length ps)) _ refl inner.1 in
    and_from (list_all (is_fine s) ps) (not (nat_lt 32 (length ps))) (all_are_fine s ps outer.0 inner.0 few.1) (not_from_false (nat_lt 32 (length ps)) few.0)

none_found : (s : Attributes) (test : WrittenPred → Bool) (ps : List WrittenPred) → ((p : WrittenPred) → is_fine s p ≡ true → test p ≡ false)
    → list_all (is_fine s) ps ≡ true → find test ps ≡ None
none_found s test [] clear h = refl
none_found s test (p ∷ ps) clear h =
    let parts = and_parts (is_fine s p) (list_all (is_fine s) ps) h in
    ap (λ b. cond b (Some p) (find test ps)) (clear p parts.0) ∙ none_found s test ps clear parts.1

abbrev faults_met : Bool → Option WrittenPred → (WrittenPred → Option AttrNo) → Option WrittenPred → Option WrittenPred → ℕ → Option ExprFault
faults_met many unknown attr outside large n =
    option_or (option_map (λ (p : WrittenPred). Attr p.attr) unknown)
    (option_or (option_map (λ a. Dom a) (option_and_then attr outside)) (if many then Some (Many n) else option_map (λ (p : WrittenPred). Many (length (words_of p.op))) large))

-- where each predicate is fine, there is no fault
pub no_fault_if_fine : (s : Attributes) (ps : List WrittenPred) → are_fine s ps ≡ true → fault_in s ps ≡ None
no_fault_if_fine s ps h =
    let parts = and_parts (list_all (is_fine s) ps) (not (nat_lt 32 (length ps))) h in
    let unknown = none_found s (is_unknown s) ps (λ p f. (fine_parts s p f).0) parts.0 in
    let outside = none_found s (is_outside s) ps (λ p f. (fine_parts s p f).1) parts.0 in
    let large = none_found s has_many_values ps (λ p f. (fine_parts s p f).2) parts.0 in
    let few = not-true (nat_lt 32 (length ps)) parts.1 in
    let attr : WrittenPred → Option AttrNo = λ p. attribute_named s p.attr in
    ap (λ o. faults_met (nat_lt 32 (length ps)) o attr (find (is_outside s) ps) (find has_many_values ps) (length ps)) unknown
    ∙ ap (λ o. faults_met (nat_lt 32 (length ps)) None attr o (find has_many_values ps) (length ps)) outside
    ∙ ap (λ o. faults_met (nat_lt 32 (length ps)) None attr None o (length ps)) large
    ∙ ap (λ many. faults_met many None attr None None (length ps)) few

-- no fault of a text is want of memory
maybe_attr : (o : Option WrittenPred) → option_map (λ (p : WrittenPred). Attr p.attr) o ≡ Some NoMemory → ⊥
maybe_attr None h = cc
maybe_attr (Some p) h = cc

maybe_dom : (o : Option AttrNo) → option_map (λ a. Dom a) o ≡ Some NoMemory → ⊥
maybe_dom None h = cc
maybe_dom (Some a) h = cc

maybe_many : (n : ℕ) (b : Bool) (o : Option WrittenPred) → (if b then Some (Many n) else option_map (λ (p : WrittenPred). Many (length (words_of p.op))) o) ≡ Some NoMemory → ⊥
maybe_many n true o h = cc
maybe_many n false None h = cc
maybe_many n false (Some p) h = cc

either_no_memory : (x y : Option ExprFault) → (x ≡ Some NoMemory → ⊥) → (y ≡ Some NoMemory → ⊥) → option_or x y ≡ Some NoMemory → ⊥
either_no_memory None y p q h = q h
either_no_memory (Some x) y p q h = p h

fault_is_of_text : (s : Attributes) (ps : List WrittenPred) → fault_in s ps ≡ Some NoMemory → ⊥
fault_is_of_text s ps =
    either_no_memory (unknown_attr s ps) _ (maybe_attr (find (is_unknown s) ps))
    (either_no_memory (outside_domain s ps) _ (maybe_dom _) (maybe_many (length ps) (nat_lt 32 (length ps)) (find has_many_values ps)))

reads_fault : (fault : ExprFault) (read : Result (List Pred) ExprFault) → read ≡ Err fault → (fault ≡ NoMemory → ⊥) → Reads (Err fault) read
reads_fault Bad read h other = h
reads_fault (Attr name) read h other = h
reads_fault (Dom a) read h other = h
reads_fault (Many n) read h other = h
reads_fault NoMemory read h other = absurd (other refl)

-- a text without a reading
pub reads_bad : (s : Attributes) (o : Option (List WrittenPred)) → None ≡ option_map (faults_of s) o → Reads (Err Bad) (meaning s o)
reads_bad s None h = refl
reads_bad s (Some ps) h = absurd (cc)

met_is : (s : Attributes) (ps : List WrittenPred) (faults : Faults) → Some faults ≡ option_map (faults_of s) (Some ps) → faults ≡ faults_of s ps
met_is s ps faults h = cc

-- a text with a fault
pub reads_met : (s : Attributes) (o : Option (List WrittenPred)) (faults : Faults) (fault : ExprFault) → Some faults ≡ option_map (faults_of s) o → Some fault ≡ first_fault faults
    → Reads (Err fault) (meaning s o)
reads_met s None faults fault h first = absurd (cc)
reads_met s (Some ps) faults fault h first =
    let is : fault_in s ps ≡ Some fault = sym (first ∙ ap first_fault (met_is s ps faults h)) in
    reads_fault fault (meaning s (Some ps)) (ap (judged (map (meant_pred s) ps)) is) (λ e. fault_is_of_text s ps (is ∙ ap (λ (f : ExprFault). Some f) e))

pub no_fault : (s : Attributes) (ps : List WrittenPred) (faults : Faults) → Some faults ≡ option_map (faults_of s) (Some ps) → None ≡ first_fault faults → fault_in s ps ≡ None
no_fault s ps faults h first = sym (first ∙ ap first_fault (met_is s ps faults h))
