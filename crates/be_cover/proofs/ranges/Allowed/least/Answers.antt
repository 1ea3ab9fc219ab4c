use Rattle.std.proofs.Common.{◌≡◌, ◌≤◌, ℤ, List, pos, length, get_or, true, Some, rules, subst, sym, ap, ◌∙◌, arith, w64, FitsSigned, to_z, of_z}
use Rattle.std.proofs.lemmas.Int.{to_z-of_z}
use Rattle.be_cover.specs.Ranges.{is_in, rise_apart, IsLeast}
use Rattle.be_cover.proofs.Least.{least_at_first}
use Rattle.be_cover.proofs.ranges.Allowed.least.Goals as goal

pub returns-in-len1-up : goal.returns-in-len1-up
returns-in-len1-up c =
    let ranges = c.args.self.now in
    let first = get_or c.as_slice.result.now 0 (pos 0, pos 0) in
    let fits : FitsSigned w64 first.0 = search rules in
    let kept : to_z w64 (of_z w64 first.0) ≡ first.0 = to_z-of_z w64 first.0 fits in
    let same : c.as_slice.result.now ≡ ranges = c.as_slice.ensures.value ∙ c.self.view_is in
    let up : rise_apart ranges ≡ true = ap rise_apart (sym c.self.view_is) ∙ c.self.invariant in
    let some : 1 ≤ length ranges = omega (arith, ap length same) in
    let least = least_at_first ranges (pos 0, pos 0) some up in
    let value : to_z w64 (of_z w64 first.0) ≡ (get_or ranges 0 (pos 0, pos 0)).0 = kept ∙ ap (λ (ys : List (ℤ × ℤ)). (get_or ys 0 (pos 0, pos 0)).0) same in
    subst (λ v. IsLeast (is_in ranges) (Some v)) (sym value) least
