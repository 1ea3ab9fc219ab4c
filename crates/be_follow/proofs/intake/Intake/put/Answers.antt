-- The bytes came behind the line.
use Rattle.std.proofs.Common.{rules, ◌≡◌, ◌-◌, ◌++◌, length, take, min, sym, ap, ◌∙◌, subst}
use Rattle.std.specs.Arc.{arc_value}
use Rattle.be_follow.specs.Followers.{IntakeState, with_list, kept_bytes, Follows}
use Rattle.be_follow.proofs.Taken.{follows_part}
use Rattle.be_follow.proofs.intake.Intake.put.Goals as goal

pub returns-clause-put : goal.returns-clause-put
returns-clause-put c = λ h bytes f.
    let v : IntakeState = record { schema = arc_value c.self.inside.schema; lines = c.self.inside.lines; fault = c.self.inside.fault; rest = c.self.inside.rest.items } in
    let is : v ≡ c.args.self.now = c.self.view_is in
    let put : c.extend_from_slice.new.self.items ≡ v.rest ++ take (min (length c.args.part.now) (kept_bytes - length v.rest)) c.args.part.now = search rules in
    follows_part bytes c.args.part.now (with_list h v) c.extend_from_slice.new.self.items c.requires.part (ap (λ (x : IntakeState). x.fault) is ∙ c.requires.sound) put (subst (λ (x : IntakeState). Follows bytes (with_list h x)) (sym is) f)
