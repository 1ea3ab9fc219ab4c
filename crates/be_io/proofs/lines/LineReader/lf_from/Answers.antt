-- What is searched is the unread bytes without those that were searched before.
use Rattle.std.proofs.Common.{drop, sym, ap, subst, ◌∙◌}
use Rattle.std.proofs.lemmas.List.{take_rest}
use Rattle.be_io.specs.Lines.{has_lf}
use Rattle.be_io.specs.Reading.{IsFirstLf}
use Rattle.be_io.proofs.LfLemmas.{IsFirstLf-later, has_lf-later}
use Rattle.be_io.proofs.lines.LineReader.lf_from.Goals as goal

pub returns-in_err-found : goal.returns-in_err-found
returns-in_err-found c =
    let part = take_rest c.unread.result.now c.args.scanned ∙ ap (λ u. drop c.args.scanned u) (c.unread.ensures ∙ ap (λ r. r.unread) c.self.view_is) in
    rw c.from_residual.ensures (has_lf-later c.args.self.now.unread c.args.scanned c.requires.clean (sym (ap has_lf part) ∙ c.in_err-found.ensures))

pub returns : goal.returns
returns c =
    let part = take_rest c.unread.result.now c.args.scanned ∙ ap (λ u. drop c.args.scanned u) (c.unread.ensures ∙ ap (λ r. r.unread) c.self.view_is) in
    IsFirstLf-later c.args.self.now.unread c.args.scanned c.in_ok-found.found c.requires.within c.requires.clean (subst (λ p. IsFirstLf p c.in_ok-found.found) part c.in_ok-found.ensures)
