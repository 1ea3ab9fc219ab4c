use Rattle.std.proofs.Common.{◌≡◌, ◌≢◌, List, length, Err, IfErr, rules, arith, sym, subst}
use Rattle.std.specs.List.{All}
use Rattle.std.specs.Option.{is_some}
use Rattle.be_base.specs.Lists.{BeginsWith}
use Rattle.be_change.specs.History.{Entry}
use Rattle.be_published.specs.States.{GlassState}
use Rattle.be_hub.proofs.Pairs.{ok_said}
use Rattle.be_io.specs.Outside.{link_state}
use Rattle.be_mirror.specs.declared.feeding.FeedEnd.TheVariants as feed
use Rattle.be_mirror.specs.Serving.{DoorAfterMirrorFault, IsSomeBeyond}
use Rattle.be_mirror.specs.declared.serving.MirrorFault.TheVariants as fault
use Rattle.be_mirror.proofs.AllRead.{counts_are}
use Rattle.be_mirror.proofs.MirrorServed.{links_read, no_shade, door_left}
use Rattle.be_mirror.proofs.serving.mirror.Goals as goal

pub settle_links-requires-clause-all : goal.settle_links-requires-clause-all
settle_links-requires-clause-all g c =
    let ends = c.in_ok-ends.field-0 in
    let many = ok_said _ c.run_beside-ends.result.0 ends c.in_ok-ends.was c.run_beside-ends.ensures.count in
    let served = ok_said _ c.run_beside-ends.result.0 ends c.in_ok-ends.was c.run_beside-ends.ensures.ends in
    counts_are (link_state g.L.Source g.L.Sink) (λ end. end.session) (λ end. end.count) (λ end. end.ends.items) g.J.Naming.schema (g.D.Door.state c.args.door.now) ends.items served
    (omega (arith, many, c.in_ok-jobs.ensures.count, c.requires.workers)) (omega (arith, many, c.in_ok-jobs.ensures.count, c.requires.few.0))

pub returns-clause-mirrored : goal.returns-clause-mirrored
returns-clause-mirrored g c before port links is =
    let ends = c.in_ok-ends.field-0 in
    let left = c.in_ok-sessions.field-0 in
    let said = c.in_ok-sessions.ensures in
    let h = c.run_beside-ends.new.feeder.took.fed.list in
    let served = ok_said _ c.run_beside-ends.result.0 ends c.in_ok-ends.was c.run_beside-ends.ensures.ends in
    let some : c.run_beside-ends.result.1 ≢ feed.NoMemory = search (rules, c.eq.ensures, c.if-eq.false) in
    record {
      fed = c.run_beside-ends.new.feeder.took.fed;
      feeds = c.run_beside-ends.ensures.feeds some;
      len = c.len.ensures;
      served = links_read before (g.D.Door.state c.args.door.now) (g.D.Door.state c.settle_links.new.door) port links (length c.args.glasses.items) is
          (link_state g.L.Source g.L.Sink) (λ end. end.session) (λ end. end.count) (λ end. end.ends.items) g.J.Naming.schema h (is_some left.shade) ends.items served
          left.sessions.items said.sessions (subst (λ (k : List Entry). All (λ (x : GlassState). BeginsWith k x.known) left.sessions.items) (c.run_beside-ends.ensures.shown some) c.in_ok-show_all.ensures.shown) (λ none. said.shade (no_shade left.shade none)) said.none_lacked left.sums said.sums said.none_refused said.settled said.links;
    }

pub returns-in_err-show_all-clause-fault : goal.returns-in_err-show_all-clause-fault
returns-in_err-show_all-clause-fault g c before port links is =
    let beyond = c.in_err-show_all.field-0.0 in
    let ends = c.in_ok-ends.field-0 in
    let left = c.in_ok-sessions.field-0 in
    let said = c.in_ok-sessions.ensures in
    let served = ok_said _ c.run_beside-ends.result.0 ends c.in_ok-ends.was c.run_beside-ends.ensures.ends in
    let after = g.D.Door.state c.settle_links.new.door in
    let gives : c.from_residual-in_err-show_all.result ≡ Err (fault.Ahead beyond) = search rules in
    subst (λ r. IfErr r (λ x. DoorAfterMirrorFault before after port links (length c.args.glasses.items) x)) (sym gives)
    (door_left before (g.D.Door.state c.args.door.now) after port links (length c.args.glasses.items) is (link_state g.L.Source g.L.Sink) (λ end. end.session) (λ end. end.count) (λ end. end.ends.items)
    g.J.Naming.schema beyond ends.items served left.sums said.sums said.none_refused said.settled said.links)

pub returns-in_err-show_all-clause-ahead : goal.returns-in_err-show_all-clause-ahead
returns-in_err-show_all-clause-ahead g c beyond is =
    let gives : c.from_residual-in_err-show_all.result ≡ Err (fault.Ahead c.in_err-show_all.field-0.0) = search rules in
    let same : c.in_err-show_all.field-0.0 ≡ beyond = cc in
    let some : c.run_beside-ends.result.1 ≢ feed.NoMemory = search (rules, c.eq.ensures, c.if-eq.false) in
    record {
      end = c.run_beside-ends.result.1;
      fed = c.run_beside-ends.new.feeder.took.fed;
      feeds = c.run_beside-ends.ensures.feeds some;
      knows = subst (λ h. IsSomeBeyond h beyond) (c.run_beside-ends.ensures.shown some)
          (subst (IsSomeBeyond c.run_beside-ends.new.feeder.published) same c.in_err-show_all.ensures.beyond);
    }
