use Rattle.std.proofs.Common.{◌≡◌, ℤ, pos, get_or, rules, subst, w64, FitsSigned, to_z, of_z, IfSome}
use Rattle.std.proofs.lemmas.Int.{to_z-of_z}
use Rattle.be_shape.specs.Gaps.{AreTwo, AreThree}
use Rattle.be_shape.specs.Lanes.{slot_of, free}
use Rattle.be_shape.proofs.GapSets.{two_gaps, three_gaps}
use Rattle.be_shape.proofs.gaps.gaps_of_set.Goals as goal

pub returns-in-len2 : goal.returns-in-len2
returns-in-len2 c =
    let ys = c.as_slice.result.now in
    let ends = c.args.ends in
    let x = get_or ys 0 (pos 0) in
    let z = get_or ys 1 (pos 0) in
    let xs : FitsSigned w64 x = search rules in
    let zs : FitsSigned w64 z = search rules in
    let o = c.gaps_of_two.result in
    let x1 = to_z w64 (of_z w64 x) in
    let at : IfSome o (λ gaps. AreTwo x z ends × (gaps ≡ (slot_of (ends.1, ends.0), free))) =
    subst (λ (v : ℤ). IfSome o (λ gaps. AreTwo v z ends × (gaps ≡ (slot_of (ends.1, ends.0), free)))) (to_z-of_z w64 x xs)
    (subst (λ (v : ℤ). IfSome o (λ gaps. AreTwo x1 v ends × (gaps ≡ (slot_of (ends.1, ends.0), free)))) (to_z-of_z w64 z zs) c.gaps_of_two.ensures) in
    two_gaps c.args.xs.now ys ends o c.as_slice.ensures.numbers c.in-len2.len_at_least c.in-len2.len_below at

pub returns-in-len3 : goal.returns-in-len3
returns-in-len3 c =
    let ys = c.as_slice.result.now in
    let ends = c.args.ends in
    let x = get_or ys 0 (pos 0) in
    let y = get_or ys 1 (pos 0) in
    let z = get_or ys 2 (pos 0) in
    let fx : FitsSigned w64 x = search rules in
    let fy : FitsSigned w64 y = search rules in
    let fz : FitsSigned w64 z = search rules in
    let o = c.gaps_of_three.result in
    let x1 = to_z w64 (of_z w64 x) in
    let y1 = to_z w64 (of_z w64 y) in
    let at : IfSome o (λ gaps. AreThree x y z ends × (gaps ≡ (slot_of (y, ends.0), slot_of (ends.1, y)))) =
    subst (λ (v : ℤ). IfSome o (λ gaps. AreThree v y z ends × (gaps ≡ (slot_of (y, ends.0), slot_of (ends.1, y))))) (to_z-of_z w64 x fx)
    (subst (λ (v : ℤ). IfSome o (λ gaps. AreThree x1 v z ends × (gaps ≡ (slot_of (v, ends.0), slot_of (ends.1, v))))) (to_z-of_z w64 y fy)
    (subst (λ (v : ℤ). IfSome o (λ gaps. AreThree x1 y1 v ends × (gaps ≡ (slot_of (y1, ends.0), slot_of (ends.1, y1))))) (to_z-of_z w64 z fz) c.gaps_of_three.ensures)) in
    three_gaps c.args.xs.now ys ends o c.as_slice.ensures.numbers c.in-len3.len_at_least c.in-len3.len_below at
