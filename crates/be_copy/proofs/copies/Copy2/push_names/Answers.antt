-- The texts are those of the list's entries.
use Rattle.std.proofs.Common.{◌≡◌, ◌++◌, List, ap, ◌∙◌, subst}
use Rattle.std.specs.Prelude.{OnOk}
use Rattle.be_base.specs.Text.{Text}
use Rattle.be_copy.specs.Hits.{all_texts_at}
use Rattle.be_copy.proofs.HitIds.{all_there}
use Rattle.be_copy.proofs.copies.Copy2.push_names.Goals as goal

pub returns-in-Some-clause-put : goal.returns-in-Some-clause-put
returns-in-Some-clause-put g c =
    let ids = c.args.ids.now in
    let same = ap (λ (texts : List Text). all_texts_at texts ids) c.in-Some.ensures ∙ all_there c.args.self.now.list ids in
    subst (λ text. OnOk c.push_texts.result (c.push_texts.new.names.items ≡ c.args.names.now.items ++ text)) same c.push_texts.ensures.put
