-- A board that is asked to leave again, and what a silent leave makes of a session.
use Rattle.std.proofs.Common.{◌≡◌, ℕ, ◌-◌, ◌≤◌, List, [], ◌∷◌, ◌++◌, length, Some, refl, sym, ap, ◌∙◌, subst, arith}
use Rattle.be_base.proofs.Beginnings.{BeginsWith-length}
use Rattle.be_change.specs.History.{Entry}
use Rattle.be_change.specs.Made.{change_named}
use Rattle.be_change.specs.Requests.{quit}
use Rattle.be_change.specs.Walk.{IsChangeOf}
use Rattle.be_board.specs.declared.answers.Answer.{Answer}
use Rattle.be_board.specs.declared.answers.Answer.TheVariants.{Done, Held, Dup, NoName, Other, Split, NoMemory}
use Rattle.be_board.specs.Changes.{Accepts, Answers, AnswersAlone, Asked, CountsSplit}
use Rattle.be_board.specs.State.{BoardState, GoesOn}
use Rattle.be_board.specs.Word.{Word, own_in, top}
use Rattle.be_board.proofs.Going.{GoesOn-along}
use Rattle.be_session.proofs.BearsOut.{own_same}

-- an answer from an earlier word on, from which nothing was accepted
accepts_from : (b c : BoardState) (w : Word) (n : ℕ) → GoesOn b c → c.word.own ≡ b.word.own → (a : Accepts c.word w quit n) → (x : Accepts b.word w quit n) × (x.entry ≡ a.entry)
accepts_from b c w n goes own a =
    let longer : length b.word.known ≤ length c.word.known = BeginsWith-length c.word.known b.word.known goes.known in (
      record {
        entry = a.entry;
        is_it = subst (λ (k : ℕ). IsChangeOf k (length (own_in b.word)) (n - 1) quit a.entry) goes.session
            (subst (λ (l : List (ℕ × Entry)). IsChangeOf c.word.session (length l) (n - 1) quit a.entry) (own_same b.word c.word goes.session own) a.is_it);
        own = a.own ∙ ap (λ (l : List (ℕ × Entry)). l ++ (n - 1, a.entry) ∷ []) own;
        later = omega (arith, longer, a.later);
        later_own = omega (arith, a.later_own, ap top own);
      },
      refl,
    )

answers_from : (b c : BoardState) (w : Word) (answer : Answer) → GoesOn b c → c.word.own ≡ b.word.own → Answers c.word w quit answer → Answers b.word w quit answer
answers_from b c w (Done n) goes own q =
    let x = accepts_from b c w n goes own q.0 in (x.0, q.1, q.2 ∙ ap (λ (e : Entry). Some e) (sym x.1))
answers_from b c w (Held n) goes own q = ((accepts_from b c w n goes own q.0).0, q.1)
answers_from b c w (Dup m id) goes own q = absurd q
answers_from b c w (NoName m) goes own q = absurd q
answers_from b c w (Other m id) goes own q = absurd q
answers_from b c w (Split i j) goes own q = (q.0 ∙ own, q.1)
answers_from b c w NoMemory goes own q = q ∙ own

alone_from : (b c : BoardState) (w : Word) (answer : Answer) → GoesOn b c → c.word.own ≡ b.word.own → c.word.known ≡ b.word.known → Answers c.word w quit answer → AnswersAlone c.word w quit answer → AnswersAlone b.word w quit answer
alone_from b c w (Done n) goes own known q a =
    a
    ∙ (ap (λ (h : List Entry). h ++ change_named c.word.session (length (own_in c.word)) (length h) quit) known
    ∙ (ap (λ (l : List (ℕ × Entry)). b.word.known ++ change_named c.word.session (length l) (length b.word.known) quit) (own_same b.word c.word goes.session own)
    ∙ ap (λ (k : ℕ). b.word.known ++ change_named k (length (own_in b.word)) (length b.word.known) quit) goes.session))
alone_from b c w (Held n) goes own known q a = absurd a
alone_from b c w (Dup m id) goes own known q a = absurd q
alone_from b c w (NoName m) goes own known q a = absurd q
alone_from b c w (Other m id) goes own known q a = absurd q
alone_from b c w (Split i j) goes own known q a = absurd a
alone_from b c w NoMemory goes own known q a = a ∙ known

-- memory was wanting, and it was asked again
pub asked_again : (b c d : BoardState) (answer : Answer) → Asked b c quit NoMemory → Asked c d quit answer → Asked b d quit answer
asked_again b c d answer p q = record {
  goes = GoesOn-along b c d p.goes q.goes;
  letters = record { notes = q.letters.notes ∙ p.letters.notes; box = q.letters.box ∙ p.letters.box; puts = q.letters.puts ∙ p.letters.puts; fulls = q.letters.fulls ∙ p.letters.fulls };
  reads = record { reads = q.reads.reads ∙ p.reads.reads; shuts = q.reads.shuts ∙ p.reads.shuts };
  formed = q.formed;
  answers = answers_from b c d.word answer p.goes p.answers q.answers;
  split = subst (λ k. CountsSplit answer k d.counts.splits) p.split q.split;
  alone = λ alone. alone_from b c d.word answer p.goes p.answers (p.alone alone) q.answers (q.alone (p.goes.alone ∙ alone));
}
