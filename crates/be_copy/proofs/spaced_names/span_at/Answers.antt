-- A text behind the first begins where the one before it ends.
use Rattle.std.proofs.Common.{Some, sym, ap, ◌∙◌, arith}
use Rattle.std.proofs.lemmas.Option.{slice_get-get_or}
use Rattle.be_copy.proofs.TextRuns.{later_within, later_text}
use Rattle.be_copy.proofs.spaced_names.span_at.Goals as goal

pub returns-else-place-eq0-clause-within : goal.returns-else-place-eq0-clause-within
returns-else-place-eq0-clause-within c = λ bytes are.
    let end = c.in_ok-end.field-0.now in
    later_within c.args.ends.now bytes c.args.place end are (slice_get-get_or c.args.ends.now c.args.place end c.in_ok-end.ensures.lookup.3.0 ∙ ap (λ n. Some n) (sym c.in_ok-end.ensures.lookup.1)) (omega (arith, c.if-place-eq0.false))

pub returns-else-place-eq0-clause-text : goal.returns-else-place-eq0-clause-text
returns-else-place-eq0-clause-text c = λ bytes are.
    let end = c.in_ok-end.field-0.now in
    later_text c.args.ends.now bytes c.args.place end are (slice_get-get_or c.args.ends.now c.args.place end c.in_ok-end.ensures.lookup.3.0 ∙ ap (λ n. Some n) (sym c.in_ok-end.ensures.lookup.1)) (omega (arith, c.if-place-eq0.false))
