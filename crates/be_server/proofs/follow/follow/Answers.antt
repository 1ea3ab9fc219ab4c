-- The input was answered, or the files were refused.
use Rattle.std.proofs.Common.{Some, refl}
use Rattle.be_io.specs.Outside.{link_state}
use Rattle.be_command_line.specs.Words.{follow}
use Rattle.be_server.specs.Outside.{objects, passage}
use Rattle.be_server.specs.Follow.{follow_files}
use Rattle.be_server.proofs.Promise.{promised, none_taken}
use Rattle.be_server.proofs.FollowEnds.{follow_status, follow_ended, follow_refused}
use Rattle.be_server.proofs.follow.follow.Goals as goal

pub status_of-requires : goal.status_of-requires
status_of-requires g c = follow_status _ _ _ _ _ c.serve_pair.result c.serve_pair.ensures.ends

pub returns-in-Ok : goal.returns-in-Ok
returns-in-Ok g c door =
    let p = passage g.F.Shelf g.S.Source g.K.Sink g.D.Door.state (link_state g.L.Source g.L.Sink) (objects c.args.shelf.now c.args.input.now c.args.out.now door) (objects c.load_feed.new.shelf c.serve_pair.new.input c.serve_pair.new.out door) in
    let f = c.in-Ok.follower in
    let loads = c.in-Ok.ensures.loads in
    promised p (Some (follow c.args.schema.now c.args.file.now)) c.status_of.result
    (follow_ended p (follow_files p.before.content c.args.schema.now c.args.file.now) f.schema f.fed.list c.serve_pair.result c.status_of.result loads.0 loads.1 loads.2 c.serve_pair.ensures.ends c.status_of.ensures)
    c.serve_pair.ensures.within c.load_feed.ensures.asked refl

pub returns-in-Err : goal.returns-in-Err
returns-in-Err g c door =
    let p = passage g.F.Shelf g.S.Source g.K.Sink g.D.Door.state (link_state g.L.Source g.L.Sink) (objects c.args.shelf.now c.args.input.now c.args.out.now door) (objects c.load_feed.new.shelf c.args.input.now c.args.out.now door) in
    promised p (Some (follow c.args.schema.now c.args.file.now)) c.in-Err.status
    (follow_refused p (follow_files p.before.content c.args.schema.now c.args.file.now) c.in-Err.status (refl, refl) c.in-Err.ensures.loads) (none_taken p.before.link.source.taken) c.load_feed.ensures.asked refl
