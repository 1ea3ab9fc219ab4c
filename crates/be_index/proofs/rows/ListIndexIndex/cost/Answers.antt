-- The cost is within the bound.
use Rattle.std.proofs.Common.{◌≡◌, ℕ, sym, ap, ◌∙◌, subst}
use Rattle.std.specs.List.{count_by}
use Rattle.be_model.specs.Bounds.{IsWithinBound, is_covered}
use Rattle.be_model.specs.ByIds.{rows_of}
use Rattle.be_model.specs.Costs.{cost}
use Rattle.be_index.specs.Rows.{PlainIndex}
use Rattle.be_index.proofs.Searches.{plain_bound}
use Rattle.be_index.proofs.rows.ListIndexIndex.cost.Goals as goal

pub returns-clause-bound : goal.returns-clause-bound
returns-clause-bound c =
    let i = c.args.self.now in
    let e = c.args.event.now in
    let counted : c.count_covered.result ≡ count_by (is_covered e) (rows_of i.rows) =
    c.count_covered.ensures ∙ ap (λ (j : PlainIndex). count_by (is_covered e) (rows_of j.rows)) c.self.view_is in
    λ _. subst (λ (n : ℕ). IsWithinBound i.schema e (rows_of i.rows) (cost 1 n)) (sym counted) (plain_bound i.schema e i.rows)
