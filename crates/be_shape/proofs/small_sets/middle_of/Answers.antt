use Rattle.std.proofs.Common.{◌≡◌, ℤ, IfSome, pos, get_or, rules, subst, w64, FitsSigned, to_z, of_z}
use Rattle.std.proofs.lemmas.Int.{to_z-of_z}
use Rattle.be_shape.specs.Lanes.{raised}
use Rattle.be_shape.specs.Listed.{low_part}
use Rattle.be_shape.proofs.SetTests.{two_told, three_told}
use Rattle.be_shape.proofs.small_sets.middle_of.Goals as goal

pub returns-in-len2-clause-set : goal.returns-in-len2-clause-set
returns-in-len2-clause-set c =
    let ys = c.as_slice.result.now in
    two_told c.args.xs.now ys (to_z w64 (of_z w64 (get_or ys 0 (pos 0)))) c.bits_of-in-len2.result c.as_slice.ensures.numbers c.in-len2.len_at_least c.in-len2.len_below c.bits_of-in-len2.ensures

pub returns-in-len3-clause-set : goal.returns-in-len3-clause-set
returns-in-len3-clause-set c =
    let ys = c.as_slice.result.now in
    let x = get_or ys 1 (pos 0) in
    let o = c.bits_of-in-len3.result in
    let fits : FitsSigned w64 x = search rules in
    let kept : to_z w64 (of_z w64 x) ≡ x = to_z-of_z w64 x fits in
    three_told c.args.xs.now ys o c.as_slice.ensures.numbers c.in-len3.len_at_least c.in-len3.len_below
    (subst (λ (v : ℤ). IfSome o (λ m. m ≡ low_part (raised v))) kept c.bits_of-in-len3.ensures)
