use Rattle.std.proofs.Common.{sym, ◌∙◌}
use Rattle.std.proofs.lemmas.Bool.Decides.{Decides-int_eq}
use Rattle.std.proofs.lemmas.Slice.Eq.{slice_eq-Decides}
use Rattle.be_model.proofs.values.Values.same_as.Goals as goal

pub returns : goal.returns
returns c =
    let own = c.as_slice.ensures.numbers in
    let other = c.as_slice-2.ensures.numbers in
    let same = slice_eq-Decides Decides-int_eq c.as_slice.result.now c.as_slice-2.result.now c.eq.result c.eq.ensures in
    (λ t. sym own ∙ same.0 t ∙ other, λ e. same.1 (own ∙ e ∙ sym other))
