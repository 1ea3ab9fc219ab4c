-- What notes make of a copy's list, and of what is pending.
use Rattle.std.proofs.Common.{◌≡◌, ◌+◌, Bool, true, cond, List, [], ◌∷◌, ◌++◌, length, refl, ap, sym, ◌∙◌, subst, arith, eq-eqb, length-append, fold, append_assoc}
use Rattle.std.proofs.lemmas.Bool.{and_from}
use Rattle.std.proofs.lemmas.List.{append-nil}
use Rattle.std.specs.Arc.{arc_value}
use Rattle.be_base.specs.Lists.{BeginsWith}
use Rattle.be_base.proofs.Beginnings.{BeginsWith-same, BeginsWith-along}
use Rattle.be_model.specs.Schemas.{Attributes}
use Rattle.be_change.specs.History.{Entry, subscribed, unsubscribed, left}
use Rattle.be_change.specs.Entries.{entry_of}
use Rattle.be_change.specs.Sound.{Sound, MayAppend}
use Rattle.be_change.proofs.Forms.{sound_last}
use Rattle.be_copy.specs.declared.edits.Edit.{Edit}
use Rattle.be_copy.specs.declared.edits.Edit.TheVariants.{Change, Reshape}
use Rattle.be_copy.specs.Edits.{fits, absorbed}
use Rattle.be_model.specs.declared.paths.Step.{Step}
use Rattle.be_published.specs.Notes.{Noted, Leads, Reshapes, edited, stepped, leads_to, EndsWith, noted, steps_in, ArePending}

-- the edit is a change
abbrev pub IsChange : Edit → Type 0
IsChange (Change c) = Unit {0}
IsChange (Reshape step) = ⊥

-- an entry that may come next fits
pub may_fit : (s : Attributes) (h : List Entry) (e : Entry) → MayAppend s h e → fits s h e ≡ true
may_fit s h (subscribed k n row) m = and_from _ _ (eq-eqb row.id.0 (length h) m.follows.allowed.1) m.lies
may_fit s h (unsubscribed k n name) m = refl
may_fit s h (left k n) m = refl

module _ {A : Type 0} where
  snoc_same : (a b : List A) (x y : A) → a ++ x ∷ [] ≡ b ++ y ∷ [] → x ≡ y
  snoc_same [] [] x y e = cc
  snoc_same [] (b ∷ []) x y e = absurd cc
  snoc_same [] (b ∷ c ∷ bs) x y e = absurd cc
  snoc_same (a ∷ []) [] x y e = absurd cc
  snoc_same (a ∷ c ∷ as') [] x y e = absurd cc
  snoc_same (a ∷ as') (b ∷ bs) x y e = snoc_same as' bs x y cc

-- a list that goes one further than its beginning, and ends with x
one_further : (a b rest f : List Entry) (x : Entry) → f ≡ b ++ x ∷ [] → f ≡ a ++ rest → length f ≡ length a + 1 → f ≡ a ++ x ∷ []
one_further a b [] f x e s n = absurd (omega (arith, ap length s, ap length (append-nil a)))
one_further a b (y ∷ []) f x e s n = let same : y ≡ x = snoc_same a b y x (sym s ∙ e) in s ∙ ap (λ (z : Entry). a ++ z ∷ []) same
one_further a b (y ∷ z ∷ rest) f x e s n = absurd (omega (arith, ap length s, length-append a (y ∷ z ∷ rest)))

-- a copy that absorbs the next change has the list that the note names
pub absorbed_next : (s : Attributes) (h next : List Entry) (edit : Edit) → IsChange edit → EndsWith edit next → BeginsWith next h → length next ≡ length h + 1 → Sound s next → absorbed s h edit ≡ next
absorbed_next s h next (Change c) is ends starts len sound =
    let e = entry_of (arc_value c) in
    let further : next ≡ h ++ e ∷ [] = one_further h ends.0 starts.0 next e ends.1 starts.1 len in
    let fit : fits s h e ≡ true = may_fit s h e (sound_last s h e (subst (λ (l : List Entry). Sound s l) further sound)) in
    ap (λ (b : Bool). cond b (h ++ e ∷ []) h) fit ∙ sym further
absorbed_next s h next (Reshape step) is ends starts len sound = absurd is

-- of which the schema is known by another name, and the list by the copy's front
pub next_taken : (sch s : Attributes) (h front next : List Entry) (edit : Edit) → IsChange edit → s ≡ sch → front ≡ h → EndsWith edit next → BeginsWith next front → length next ≡ length front + 1 → Sound sch next
    → absorbed s h edit ≡ next
next_taken sch s h front next edit is same list ends starts len sound =
    absorbed_next s h next edit is ends (subst (λ (l : List Entry). BeginsWith next l) list starts) (len ∙ ap (λ (l : List Entry). length l + 1) list) (subst (λ (a : Attributes). Sound a next) (sym same) sound)

pub noted_next : (h next : List Entry) (edit : Edit) → IsChange edit → length next ≡ length h + 1 → noted h (leads_to edit next) ≡ next
noted_next h next (Change c) is len = ap (λ (b : Bool). cond b next h) (eq-eqb _ _ len)
noted_next h next (Reshape step) is len = absurd is

fold-snoc : (a : List Entry) (xs : List Noted) (x : Noted) → fold noted a (xs ++ x ∷ []) ≡ noted (fold noted a xs) x
fold-snoc a [] x = refl
fold-snoc a (y ∷ ys) x = fold-snoc (noted a y) ys x

noted_edit : (front f : List Entry) (edit : Edit) → f ≡ edited front edit → noted front (leads_to edit f) ≡ f
noted_edit front f (Change c) e = ap (λ (b : Bool). cond b f front) (eq-eqb _ _ (ap length e ∙ length-append front (entry_of (arc_value c) ∷ [])))
noted_edit front f (Reshape step) e = sym e

edited_begins : (front f : List Entry) (edit : Edit) → f ≡ edited front edit → BeginsWith f front
edited_begins front f (Change c) e = (entry_of (arc_value c) ∷ [], e)
edited_begins front f (Reshape step) e = subst (λ (l : List Entry). BeginsWith l front) (sym e) (BeginsWith-same front)

steps_in-append : (xs ys : List Noted) → steps_in (xs ++ ys) ≡ steps_in xs ++ steps_in ys
steps_in-append [] ys = refl
steps_in-append (Leads next ∷ xs) ys = steps_in-append xs ys
steps_in-append (Reshapes step ∷ xs) ys = ap (λ (l : List Step). step ∷ l) (steps_in-append xs ys)

stepped_in : (steps : List Step) (edit : Edit) (f : List Entry) → steps ++ steps_in (leads_to edit f ∷ []) ≡ stepped steps edit
stepped_in steps (Change c) f = append-nil steps
stepped_in steps (Reshape step) f = refl

-- one more note keeps that
pub append_kept : (here there front f f2 : List Entry) (made steps steps' : List Step) (all mid late now : List Noted) (n : Noted) (edit : Edit)
    → ArePending here made all front steps → mid ++ late ≡ all → late ≡ [] → now ≡ mid ++ n ∷ [] → there ≡ here → n ≡ leads_to edit f2 → f2 ≡ f → f ≡ edited front edit → steps' ≡ stepped steps edit
    → ArePending there made now f steps'
append_kept here there front f f2 made steps steps' all mid late now n edit was settled none handed same again_made again grown more =
    let mids : mid ≡ all = sym (append-nil mid) ∙ (ap (λ (l : List Noted). mid ++ l) (sym none) ∙ settled) in
    let lead : n ≡ leads_to edit f = again_made ∙ ap (leads_to edit) again in
    let folds : fold noted there now ≡ f =
    ap (fold noted there) handed ∙ (fold-snoc there mid n ∙ (ap (λ (a : List Entry). noted (fold noted a mid) n) same ∙ (ap (λ (l : List Noted). noted (fold noted here l) n) mids ∙ (ap (λ (a : List Entry). noted a n) was.0 ∙ (ap (noted front) lead ∙ noted_edit front f edit grown))))) in
    let ins : steps_in now ≡ steps_in all ++ steps_in (leads_to edit f ∷ []) =
    ap steps_in handed ∙ (steps_in-append mid (n ∷ []) ∙ (ap (λ (l : List Noted). steps_in l ++ steps_in (n ∷ [])) mids ∙ ap (λ (x : Noted). steps_in all ++ steps_in (x ∷ [])) lead)) in (
      folds,
      subst (λ (p : List Entry). BeginsWith f p) (sym same) (BeginsWith-along f front here (edited_begins front f edit grown) was.1),
      more
          ∙ (sym (stepped_in steps edit f)
          ∙ (ap (λ (l : List Step). l ++ steps_in (leads_to edit f ∷ [])) was.2 ∙ (append_assoc made (steps_in all) (steps_in (leads_to edit f ∷ [])) ∙ ap (λ (l : List Step). made ++ l) (sym ins)))),
    )
