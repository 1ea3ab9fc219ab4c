-- A row whose id all ids are below.
use Rattle.std.proofs.Common.{◌≡◌, ℕ, ◌+◌, ◌<◌, [], ◌∷◌, ◌++◌, refl, sym, ap, ◌∙◌, subst, arith}
use Rattle.be_model.specs.declared.changes.Row.{Row}
use Rattle.be_model.specs.Rows.{id_of}
use Rattle.be_model.specs.ByIds.{ByIds, AllBelow, put_by_id}
use Rattle.be_model.proofs.RisingIds.{AllBelow-snoc, put_greatest}

pub below_next : (row : Row) (m m' : ByIds) → AllBelow (id_of row) m → m' ≡ put_by_id row m → AllBelow (id_of row + 1) m'
below_next row m m' below put =
    let more : id_of row < id_of row + 1 = omega arith in
    subst (AllBelow (id_of row + 1)) (sym (put ∙ put_greatest (id_of row) row m (λ i. id_of row) below)) (AllBelow-snoc (id_of row) m (id_of row, row) below more)
