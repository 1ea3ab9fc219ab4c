-- A change at a place of a list, and a list that follows a leader's after one more change.
use Rattle.std.proofs.Common.{◌≡◌, ◌≢◌, inl, inr, ℕ, ◌<◌, ◌==◌, ◌&&◌, Bool, true, false, cond, List, [], ◌∷◌, ◌++◌, length, Option, Some, None, Ok, Err, refl, sym, ap, ◌∙◌, subst, arith}
use Rattle.std.specs.Prelude.{slice_get, IfSome}
use Rattle.std.specs.List.{list_all}
use Rattle.std.proofs.lemmas.Bool.{and_from, eq-eqb}
use Rattle.std.proofs.lemmas.List.Folds.{list_all-append}
use Rattle.be_model.specs.Lies.{entry_lies}
use Rattle.be_model.specs.Schemas.{Attributes}
use Rattle.be_change.specs.History.{Entry, subscribed, unsubscribed, left, session_of, is_opening, MayFollow}
use Rattle.be_change.proofs.Forms.{formed_append}
use Rattle.be_copy.specs.Edits.{fits, with_entry}
use Rattle.be_follow.specs.declared.faults.FeedKind.{FeedKind}
use Rattle.be_follow.specs.declared.faults.FeedKind.TheVariants.{Fork, Unfit}
use Rattle.be_follow.specs.declared.stands.Stands.{Stands}
use Rattle.be_follow.specs.Feeds.{Places}
use Rattle.be_follow.specs.Placing.{list_or_fault, IsFollowed}
use Rattle.be_follow.specs.Stands.{stand_in, stand_by}
use Rattle.be_follow.proofs.Standing.{stands_on}

-- the change was compared with the one that stands there
pub placed_again : (h : List Entry) (i : ℕ) (e : Entry) (o : Option FeedKind) → i < length h → (o ≡ None → slice_get h i ≡ Some e)
    → IfSome o (λ kind. (kind ≡ Fork) × (slice_get h i ≡ Some e → ⊥)) → Places h i e (list_or_fault h o)
placed_again h i e None low same other = record {
  gap = λ over. absurd (omega (arith, low, over));
  again = λ l. inl (same refl, refl);
  next = λ is. absurd (omega (arith, low, is));
}
placed_again h i e (Some kind) low same other = record {
  gap = λ over. absurd (omega (arith, low, over));
  again = λ l. inr (other.1, ap (λ (k : FeedKind). Err k) other.0);
  next = λ is. absurd (omega (arith, low, is));
}

-- it can't come next
pub placed_unfit : (h : List Entry) (i : ℕ) (e : Entry) → i ≡ length h → (MayFollow h e → ⊥) → Places h i e (Err Unfit)
placed_unfit h i e at unfit = record {
  gap = λ over. absurd (omega (arith, at, over));
  again = λ low. absurd (omega (arith, at, low));
  next = λ is. inr (unfit, refl);
}

-- it was put last
pub placed_last : (h h' : List Entry) (i : ℕ) (e : Entry) → i ≡ length h → MayFollow h e → h' ≡ h ++ e ∷ [] → Places h i e (Ok h')
placed_last h h' i e at may put = record {
  gap = λ over. absurd (omega (arith, at, over));
  again = λ low. absurd (omega (arith, at, low));
  next = λ is. inl (may, ap (λ (l : List Entry). Ok l) put);
}

-- what may follow and lies in the schema is appended
pub may_fit : (s : Attributes) (h : List Entry) (e : Entry) → MayFollow h e → entry_lies s e ≡ true → fits s h e ≡ true
may_fit s h (subscribed k n row) m lies = and_from (row.id.0 == length h) (entry_lies s (subscribed k n row)) (eq-eqb row.id.0 (length h) m.allowed.1) lies
may_fit s h (unsubscribed k n name) m lies = refl
may_fit s h (left k n) m lies = refl

pub taken_last : (s : Attributes) (h h' : List Entry) (e : Entry) → MayFollow h e → entry_lies s e ≡ true → h' ≡ with_entry s h e → h' ≡ h ++ e ∷ []
taken_last s h h' e m lies put = put ∙ ap (λ (b : Bool). cond b (h ++ e ∷ []) h) (may_fit s h e m lies)

and_true : (b : Bool) → (b && true) ≡ b
and_true true = refl
and_true false = refl

-- a list that follows a leader's after one more change
pub followed_on : (h h' : List Entry) (e : Entry) (opening opening' : Bool) (stands room stands' : Stands) → IsFollowed h opening stands → MayFollow h e → h' ≡ h ++ e ∷ []
    → opening' ≡ (opening && is_opening e) → ((k : ℕ) → stand_in room k ≡ stand_in stands k) → stand_in stands' (session_of e) ≡ stand_by e
    → ((k : ℕ) → k ≢ session_of e → stand_in stands' k ≡ stand_in room k) → IsFollowed h' opening' stands'
followed_on h h' e opening opening' stands room stands' f may put opens same own others =
    subst (λ (l : List Entry). IsFollowed l opening' stands') (sym put) (record {
      formed = formed_append h e f.formed may;
      opens = opens ∙ ap (λ (b : Bool). b && is_opening e) f.opens ∙ sym (list_all-append is_opening h (e ∷ []) ∙ ap (λ (b : Bool). list_all is_opening h && b) (and_true (is_opening e)));
      stand = stands_on room stands' h e (λ k. same k ∙ f.stand k) may.present may.serial own others;
    })
