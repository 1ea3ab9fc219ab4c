use Rattle.std.proofs.Common.{rules, ◌≡◌, Some, ℤ, ap, ◌∙◌, w32, to_z, of_z}
use Rattle.be_door.specs.AcceptErrors.{is_passing}
use Rattle.be_door.proofs.accept_errors.is_passing.Goals as goal

pub returns-in-Some : goal.returns-in-Some
returns-in-Some c =
    let n : ℤ = c.in-Some.number in
    let kept : to_z w32 (of_z w32 n) ≡ n = search rules in
    let tested : c.is_among.result ≡ is_passing (Some n) = c.is_among.ensures ∙ ap (λ (m : ℤ). is_passing (Some m)) kept in
    tested ∙ ap is_passing c.in-Some.ensures
