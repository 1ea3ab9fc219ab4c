use Rattle.std.proofs.Common.{refl}
use Rattle.be_mirror.proofs.feeding.give_beside.Goals as goal

pub returns-clause-given : goal.returns-clause-given
returns-clause-given g c =
    let e = c.put_pieces-end.ensures in
    (e.later c.args.giver.now ((refl, refl, refl, refl), refl), e.put.0, e.put.1)
