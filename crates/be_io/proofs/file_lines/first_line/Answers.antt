use Rattle.std.proofs.Common.{drop, length, sym, ap, ◌∙◌, ◌∷◌, ◌+◌}
use Rattle.std.proofs.lemmas.List.{take_rest}
use Rattle.std.proofs.Math.Seq.{drop-length}
use Rattle.be_io.specs.FileLines.{file_lines}
use Rattle.be_io.proofs.FileLineLemmas.{file_lines-ClosedLine, file_lines-open}
use Rattle.be_io.proofs.file_lines.first_line.Goals as goal

pub returns-in-Some-clause-lines : goal.returns-in-Some-clause-lines
returns-in-Some-clause-lines c =
    let text = c.args.text.now in
    let place = c.in-Some.place in
    file_lines-ClosedLine text _ (drop (place + 1) text) c.in-Some.ensures.1
    ∙ ap (λ l. l ∷ file_lines (drop (place + 1) text)) (sym c.without_cr.ensures)
    ∙ ap (λ rest. c.without_cr.result.now ∷ file_lines rest) (sym (take_rest text (place + 1)))

pub returns-in-None-clause-lines : goal.returns-in-None-clause-lines
returns-in-None-clause-lines c =
    let text = c.args.text.now in
    file_lines-open text c.in-None.ensures c.requires
    ∙ ap (λ rest. text ∷ file_lines rest) (sym (take_rest text (length text) ∙ drop-length text))
