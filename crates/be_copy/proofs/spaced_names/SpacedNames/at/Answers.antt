-- Behind the last place there is no text.
use Rattle.std.proofs.Common.{List, [], length, get_or, ap, sym, ◌∙◌, arith}
use Rattle.std.proofs.lemmas.List.{get_or_past}
use Rattle.be_base.specs.Text.{Text}
use Rattle.be_copy.proofs.TextRuns.{as_many}
use Rattle.be_copy.proofs.spaced_names.SpacedNames.at.Goals as goal

pub returns-in-None : goal.returns-in-None
returns-in-None c =
    let many = as_many 0 c.self.inside.ends.items c.self.inside.bytes.items in
    sym (ap (λ (texts : List Text). get_or texts c.args.place []) (sym c.self.view_is) ∙ get_or_past _ c.args.place [] (omega (arith, many, c.in-None.ensures.none, ap length c.deref.ensures.value)))
