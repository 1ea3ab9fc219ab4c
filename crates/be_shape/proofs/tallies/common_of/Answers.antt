use Rattle.std.proofs.Common.{◌<◌, refl, arith}
use Rattle.be_base.specs.declared.limits.TheConstants.{EARLY_ROWS}
use Rattle.be_shape.proofs.Commons.{told_common}
use Rattle.be_shape.proofs.tallies.common_of.Goals as goal

pub returns : goal.returns
returns c =
    let less : c.count_many-many.result < EARLY_ROWS = omega (arith, c.if-many-ge-EARLY_ROWS.false) in
    told_common c.args.leaf.now _ c.count_many-many.result c.common_by.result c.count_many-many.ensures less refl c.common_by.ensures
