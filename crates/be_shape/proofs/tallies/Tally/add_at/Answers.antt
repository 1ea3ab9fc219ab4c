use Rattle.std.proofs.Common.{◌≡◌, Some, option_map, sym, ap, ◌∙◌, subst}
use Rattle.be_model.specs.declared.changes.Row.{Row}
use Rattle.be_shape.specs.declared.listings.RowAttrs.{RowAttrs}
use Rattle.be_shape.specs.Listed.{attrs_of}
use Rattle.be_shape.specs.Common.{Notes, is_listed}
use Rattle.be_shape.proofs.tallies.Tally.add_at.Goals as goal

pub returns-clause-counts : goal.returns-clause-counts
returns-clause-counts c =
    let listed : c.attrs.result ≡ attrs_of c.args.row.now.conj = some_same (sym c.attrs.ensures ∙ ap (option_map (λ (row : Row). attrs_of row.conj)) c.requires) in
    subst (λ (l : RowAttrs). Notes 253 (λ a. is_listed a l) c.args.self.now.counts c.add.new.self.counts) listed c.add.ensures.counts
  where
    some_same : {x y : RowAttrs} → Some x ≡ Some y → x ≡ y
    some_same h = cc
