-- One more link was served.
use Rattle.be_io.specs.Outside.{link_state}
use Rattle.be_mirror.proofs.ReadLinks.{one_served_as}
use Rattle.be_mirror.proofs.links.serve_next.Goals as goal

pub returns-clause-served : goal.returns-clause-served
returns-clause-served g c =
    let told = link_state g.L.Source g.L.Sink in
    let s = g.J.Naming.schema in
    let work = c.args.work in
    let link = c.serve-end.new.link in
    let e = c.serve-end.ensures in
    one_served_as told _ s work.session c.serve-end.new.self work.count work.ends.items _ link (told c.args.link) c.serve-end.result c.requires.served (λ u. u.1) e.grows c.requires.unused e.beside.whole e.ends c.give_back.new.count c.push_reserved.new.self.items
    c.give_back.ensures.back c.push_reserved.ensures.items
