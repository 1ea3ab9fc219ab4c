-- The session of the change has its new stand, and each other session its old one.
use Rattle.std.specs.BTreeMap.{get}
use Rattle.std.specs.Ordering.{nat_cmp}
use Rattle.be_change.specs.Entries.{entry_of}
use Rattle.be_desk.proofs.StandSteps.{serial_few, stands_put}
use Rattle.be_desk.proofs.stands.Stands.put.Goals as goal

pub returns-in-Ok-clause-put : goal.returns-in-Ok-clause-put
returns-in-Ok-clause-put c = λ h few may stands.
    let e = entry_of c.args.change.now in
    stands_put (get nat_cmp c.args.self.now.by_session) (get nat_cmp c.insert.new.self) h e c.session_of.result.0 c.stand_after.result c.session_of.ensures
    (c.stand_after.ensures (serial_few h e may few)) may c.in-Ok.ensures.updates.0 stands
