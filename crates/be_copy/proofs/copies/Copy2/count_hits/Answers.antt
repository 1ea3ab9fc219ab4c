-- There are as many ids as rows that the event satisfies.
use Rattle.std.proofs.Common.{◌≡◌, [], length, ap, ◌∙◌, rules}
use Rattle.be_model.specs.ByIds.{rows_of}
use Rattle.be_model.specs.Matching.{satisfied}
use Rattle.be_change.specs.History.{live}
use Rattle.be_copy.proofs.HitIds.{as_many_ids}
use Rattle.be_copy.proofs.copies.Copy2.count_hits.Goals as goal

pub returns-clause-count : goal.returns-clause-count
returns-clause-count g c =
    let e = c.args.event.now in
    let none : c.clear.new.self.ids ≡ [] = search rules in
    let same : g.I.Index.rows c.index.result.now ≡ live c.args.self.now.list = search rules in
    ap length c.ids.ensures
    ∙ as_many_ids (satisfied e (rows_of (g.I.Index.rows c.index.result.now))) c.clear.new.self.ids c.find.new.found.ids none c.in_ok-find.ensures.found
    ∙ ap (λ m. length (satisfied e (rows_of m))) same
