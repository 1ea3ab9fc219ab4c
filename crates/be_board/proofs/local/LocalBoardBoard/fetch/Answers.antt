-- The first letter is given, and the others stay.
use Rattle.std.proofs.Common.{refl, subst}
use Rattle.be_model.specs.Letters.{plain_letter}
use Rattle.std.specs.Prelude.{All}
use Rattle.be_board.specs.Letters.{IsLetterFor}
use Rattle.be_board.specs.Local.{IsLocalLetter}
use Rattle.be_board.proofs.LocalStates.{fetches_view, letter_taken, notes_local}
use Rattle.be_board.proofs.local.LocalBoardBoard.fetch.Goals as goal

pub invariant_of-self : goal.invariant_of-self
invariant_of-self g c =
    (letter_taken (g.I.Index.schema c.self.inside.copy.index) c.self.inside.copy.list c.self.inside.letters c.take.new.self (plain_letter c.in-Some.letter) c.in-Some.ensures.first c.self.invariant).1

pub returns-in-Some-clause-fetches : goal.returns-in-Some-clause-fetches
returns-in-Some-clause-fetches g c =
    let l = plain_letter c.in-Some.letter in
    let taken = letter_taken (g.I.Index.schema c.self.inside.copy.index) c.self.inside.copy.list c.self.inside.letters c.take.new.self l c.in-Some.ensures.first c.self.invariant in
    fetches_view g.I.Index.schema _ c.args.self.now _ l c.self.view_is refl (record { list = refl; letters = c.in-Some.ensures.first; reads = refl; fulls = refl; empties = refl }) taken.0.delivered

pub returns-in-Some-clause-letter : goal.returns-in-Some-clause-letter
returns-in-Some-clause-letter g c =
    let l = plain_letter c.in-Some.letter in
    let taken = letter_taken (g.I.Index.schema c.self.inside.copy.index) c.self.inside.copy.list c.self.inside.letters c.take.new.self l c.in-Some.ensures.first c.self.invariant in
    subst (λ v. IsLetterFor (g.I.Index.schema v.index) 1 l) c.self.view_is taken.0.fit

pub returns-in-Some-clause-holds : goal.returns-in-Some-clause-holds
returns-in-Some-clause-holds g c =
    notes_local (g.I.Index.schema c.args.self.now.index) c.args.self.now.list c.args.self.now.letters
    (subst (λ v. All (IsLocalLetter (g.I.Index.schema v.index) v.list) v.letters) c.self.view_is c.self.invariant)
