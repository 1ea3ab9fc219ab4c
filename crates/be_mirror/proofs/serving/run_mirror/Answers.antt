use Rattle.std.proofs.Common.{length, rules}
use Rattle.be_mirror.specs.Links.{Listened}
use Rattle.be_mirror.proofs.serving.run_mirror.Goals as goal

pub returns-clause-mirrored : goal.returns-clause-mirrored
returns-clause-mirrored g c =
    let listened : Listened (g.D.Door.state c.args.door.now) (g.D.Door.state c.listen.new.self) c.args.port c.args.links (length c.args.glasses.items) = search (rules, c.in-Ok.ensures.listens, c.len.ensures, c.requires.few) in
    c.mirror-mirrored.ensures.mirrored (g.D.Door.state c.args.door.now) c.args.port c.args.links listened

pub returns-clause-door : goal.returns-clause-door
returns-clause-door g c =
    let listened : Listened (g.D.Door.state c.args.door.now) (g.D.Door.state c.listen.new.self) c.args.port c.args.links (length c.args.glasses.items) = search (rules, c.in-Ok.ensures.listens, c.len.ensures, c.requires.few) in
    c.mirror-mirrored.ensures.door (g.D.Door.state c.args.door.now) c.args.port c.args.links listened

pub returns-clause-fault : goal.returns-clause-fault
returns-clause-fault g c =
    let listened : Listened (g.D.Door.state c.args.door.now) (g.D.Door.state c.listen.new.self) c.args.port c.args.links (length c.args.glasses.items) = search (rules, c.in-Ok.ensures.listens, c.len.ensures, c.requires.few) in
    c.mirror-mirrored.ensures.fault (g.D.Door.state c.args.door.now) c.args.port c.args.links listened
