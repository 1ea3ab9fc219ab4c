-- The reply tells what the read found, or why there is none.
use Rattle.std.proofs.Common.{rules, List, refl, sym, subst}
use Rattle.be_model.specs.Bounds.{IsWithinBound}
use Rattle.be_change.specs.History.{Entry}
use Rattle.be_change.specs.Requests as asked
use Rattle.be_change.specs.Walk.{live_rows}
use Rattle.be_mirror.proofs.Stepping.{read_replies, unread_replies}
use Rattle.be_mirror.proofs.reads.cost.Goals as goal

pub returns-in-Ok : goal.returns-in-Ok
returns-in-Ok g c =
    let s = g.J.Naming.schema in
    let e = c.args.event.now in
    let n = c.in-Ok.n in
    read_replies s (asked.costing e) (asked.cost n c.in-Ok.cost) n c.args.glass.now c.cost.new.self refl c.in-Ok.ensures.read c.in-Ok.ensures.read.counts
    (λ k w at front. (at, subst (λ (l : List Entry). IsWithinBound s e (live_rows l) c.in-Ok.cost) (sym front) c.in-Ok.ensures.bound, refl))

pub returns-in-Err : goal.returns-in-Err
returns-in-Err g c =
    let s = g.J.Naming.schema in
    let e = c.args.event.now in
    let replies = unread_replies s (asked.costing e) c.args.glass.now c.cost.new.self c.in-Err.refused refl c.in-Err.ensures.refused in
    search rules
