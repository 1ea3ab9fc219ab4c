-- What bytes mean is one thing.
use Rattle.std.proofs.Common.{◌≡◌, inl, inr, ℕ, ◌<◌, Bool, true, false, List, [], ◌∷◌, length, nat_lt, Option, Some, None, Result, refl, sym, ap, ◌∙◌, subst, arith}
use Rattle.std.proofs.lemmas.Bool.Decides.{nat_tests}
use Rattle.be_model.specs.Schemas.{Attributes}
use Rattle.be_change.specs.History.{Entry}
use Rattle.be_follow.specs.declared.faults.FeedKind.{FeedKind}
use Rattle.be_follow.specs.Feeds.{PlainSaid, nothing, at, faulty, said, Chooses, Places, Judges, Fed, none_fed, fed_after_line, TakesLineAt, TakesLines}
use Rattle.be_follow.specs.Laws.{FeedsMeanOne}

one_choice : {X P : Type 0} {first second a b : X} → Chooses P first second a → Chooses P first second b → a ≡ b
one_choice (inl p) (inl q) = p.1 ∙ sym q.1
one_choice (inr p) (inr q) = p.1 ∙ sym q.1
one_choice (inl p) (inr q) = absurd (q.0 p.0)
one_choice (inr p) (inl q) = absurd (p.0 q.0)

one_place : (h : List Entry) (i : ℕ) (e : Entry) (a b : Result (List Entry) FeedKind) → Places h i e a → Places h i e b → a ≡ b
one_place h i e a b p q = by_order (nat_lt i (length h)) refl (nat_lt (length h) i) refl
  where
    by_order : (t : Bool) → nat_lt i (length h) ≡ t → (u : Bool) → nat_lt (length h) i ≡ u → a ≡ b
    by_order true low u over = let l : i < length h = grind (arith, nat_tests) in one_choice (p.again l) (q.again l)
    by_order false low true over = let o : length h < i = grind (arith, nat_tests) in p.gap o ∙ sym (q.gap o)
    by_order false low false over = let e : i ≡ length h = grind (arith, nat_tests) in one_choice (p.next e) (q.next e)

one_verdict : (h : List Entry) (x : PlainSaid) (a b : Result (List Entry) FeedKind) → Judges h x a → Judges h x b → a ≡ b
one_verdict h nothing a b p q = p ∙ sym q
one_verdict h (at i e) a b p q = one_place h i e a b p q
one_verdict h faulty a b p q = p ∙ sym q

one_line : (s : Attributes) (o : Option FeedKind) (f a b : Fed) (line : List ℕ) → TakesLineAt o s f line a → TakesLineAt o s f line b → a ≡ b
one_line s (Some kind) f a b line p q = p ∙ sym q
one_line s None f a b line p q = p.2 ∙ ap (fed_after_line f) (one_verdict f.list (said s line) p.0 q.0 p.1 q.1) ∙ sym q.2

one_reading : (s : Attributes) (ls : List (List ℕ)) (f a b : Fed) → TakesLines s f ls a → TakesLines s f ls b → a ≡ b
one_reading s [] f a b p q = p ∙ sym q
one_reading s (l ∷ ls) f a b p q =
    one_reading s ls q.0 a b (subst (λ (m : Fed). TakesLines s m ls a) (one_line s f.fault f p.0 q.0 l p.1 q.1) p.2) q.2

pub feeds_mean_one : FeedsMeanOne
feeds_mean_one s bytes f g p q = one_reading s _ none_fed f g p q
