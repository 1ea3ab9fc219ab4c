-- What a board alone answers in a counted run.
use Rattle.std.proofs.Common.{◌≡◌, ℕ, ◌+◌, ◌^◌, ◌<◌, true, false, List, refl, sym, ◌∙◌, subst}
use Rattle.be_base.specs.Text.{Text}
use Rattle.be_model.specs.declared.preds.Pred.{Pred}
use Rattle.be_model.specs.declared.costs.Cost.{Cost}
use Rattle.be_model.specs.Bounds.{IsWithinBound}
use Rattle.be_model.specs.Matching.{Assignments}
use Rattle.be_model.specs.Schemas.{Attributes}
use Rattle.be_change.specs.History.{Entry, live, is_live_name}
use Rattle.be_change.specs.Requests.{Request, subscribe, costing}
use Rattle.be_change.specs.Walk.{HasNameAt, live_rows}
use Rattle.be_change.proofs.Names.{found_live}
use Rattle.be_board.specs.declared.answers.Answer.{Answer}
use Rattle.be_board.specs.declared.answers.Answer.TheVariants.{Done, Held, Dup, NoName, Other, Split, NoMemory}
use Rattle.be_board.specs.Changes.{Asked}
use Rattle.be_board.specs.State.{BoardState}
use Rattle.be_server.specs.declared.sums.Sums.{Sums}
use Rattle.be_server.specs.Sums.{MayCount}

-- a subscription under a new name is made, or memory was wanting
pub made_or_wanting : (b b' : BoardState) (name : Text) (conj : List Pred) (answer : Answer) → b.alone ≡ true → is_live_name name (live b.word.known) ≡ false → Asked b b' (subscribe name conj) answer
    → ((n : ℕ) → answer ≡ Done n → ⊥) → (answer ≡ NoMemory → ⊥) → ⊥
made_or_wanting b b' name conj (Done n) alone free a made wanting = made n refl
made_or_wanting b b' name conj (Held n) alone free a made wanting = a.alone alone
made_or_wanting b b' name conj (Dup m id) alone free a made wanting =
    let same : b'.word.known ≡ b.word.known = a.alone alone in
    let named = subst (λ (h : List Entry). HasNameAt (live h) id name) same a.answers.1 in
    let clash : true ≡ false = sym (found_live (live b.word.known) id name named) ∙ free in absurd cc
made_or_wanting b b' name conj (NoName m) alone free a made wanting = a.answers
made_or_wanting b b' name conj (Other m id) alone free a made wanting = a.answers
made_or_wanting b b' name conj (Split i j) alone free a made wanting = a.alone alone
made_or_wanting b b' name conj NoMemory alone free a made wanting = wanting refl

-- 64 bits count what a search cost
pub cost_fits : (s : Attributes) (h : List Entry) (sums : Sums) (r : Request) (e : Assignments) (c : Cost) → r ≡ costing e → MayCount s r h sums → IsWithinBound s e (live_rows h) c
    → (sums.cost.visits + c.visits < 2 ^ 64) × (sums.cost.tested + c.tested < 2 ^ 64)
cost_fits s h sums r e c is may within = (subst (λ (q : Request). MayCount s q h sums) is may) c within
