use Rattle.std.proofs.Common.{◌+◌, ◌-◌, ◌≤◌, length, take, Err, refl, sym, ap, subst, ◌∙◌, arith}
use Rattle.be_base.specs.Lists.{BeginsWith}
use Rattle.be_base.proofs.Beginnings.{BeginsWith-along}
use Rattle.be_base.specs.declared.limits.TheConstants.{SOURCE_BYTES}
use Rattle.be_io.specs.Outside.{source_state}
use Rattle.be_protocol.proofs.LinesGoing.{rises-along, spent}
use Rattle.be_follow.specs.Followers.{FollowerState}
use Rattle.be_mirror.proofs.FeedGoing.{takes_as, fed_none, fed_on, rises_none, ends_on, feeds, stops, few, short_on, within_all, err_one, ok_no_err, front_length, front_short, still_long}
use Rattle.be_mirror.specs.declared.feeding.FeedEnd.{FeedEnd}
use Rattle.be_mirror.specs.declared.feeding.FeedEnd.TheVariants as feed
use Rattle.be_mirror.proofs.feeding.put_pieces.Goals as goal

pub loop-left-init : goal.loop-left-init
loop-left-init g c =
    let new = c.requires.new in
    record {
      fed = fed_none g.O.Outlet.schema (source_state g.S.Source c.args.source.now) c.args.ledger.now new.1 (ap (λ (f : FollowerState). f.schema) new.0);
      sound = ap (λ (f : FollowerState). f.fed.fault) new.0;
      bound = omega arith;
      faults = refl;
      taken = rises_none (g.S.Source.taken c.args.source.now) (g.S.Source.taken c.args.source.now) refl;
      beside = refl;
      stood = ap (λ l. length l) (sym c.requires.empty);
      begins = subst (λ l. BeginsWith c.args.ledger.now.fed.list l) (sym c.requires.empty) (c.args.ledger.now.fed.list, refl);
      fits = c.requires.sound;
      later = λ first is. is;
      room = omega (arith, c.in-Ok.ensures.len, c.in-Ok.buffer.ok.0);
    }

pub returns-then-load-clause-feeds : goal.returns-then-load-clause-feeds
returns-then-load-clause-feeds g c =
    let i = c.loop-left.invariant in
    λ _. feeds g.O.Outlet.schema (source_state g.S.Source c.args.source.now) (source_state g.S.Source c.loop-left.source) _ c.loop-left.ledger i.fed (i.sound, i.faults)
    (few c.loop-left.left (source_state g.S.Source c.args.source.now) (source_state g.S.Source c.loop-left.source) (omega (arith, c.loop-left-test.true)) i.bound i.taken) tt

pub returns-then-load-clause-within : goal.returns-then-load-clause-within
returns-then-load-clause-within g c = let i = c.loop-left.invariant in within_all c.loop-left.left (g.S.Source.taken c.args.source.now) (g.S.Source.taken c.loop-left.source) i.taken

pub returns-then-load-clause-beside : goal.returns-then-load-clause-beside
returns-then-load-clause-beside g c = c.loop-left.invariant.beside

pub returns-clause-feeds : goal.returns-clause-feeds
returns-clause-feeds g c =
    let i = c.loop-left.invariant in
    λ _. feeds g.O.Outlet.schema (source_state g.S.Source c.args.source.now) (source_state g.S.Source c.loop-left.source) _ c.loop-left.ledger i.fed (i.sound, spent (g.S.Source.taken c.args.source.now) (g.S.Source.taken c.loop-left.source) (SOURCE_BYTES - c.loop-left.left) i.taken (omega (arith, c.loop-left-test.false)), i.faults) tt tt

pub returns-clause-within : goal.returns-clause-within
returns-clause-within g c = let i = c.loop-left.invariant in within_all c.loop-left.left (g.S.Source.taken c.args.source.now) (g.S.Source.taken c.loop-left.source) i.taken

pub returns-clause-beside : goal.returns-clause-beside
returns-clause-beside g c = c.loop-left.invariant.beside

pub slice_bounds-read_piece-end : goal.slice_bounds-read_piece-end
slice_bounds-read_piece-end g c = front_length c.min-most.result c.deref_mut.result.now (omega (arith, c.min-most.ensures, ap (λ l. length l) c.deref_mut.ensures.value, c.loop-left.invariant.room))

pub read_piece-requires-clause-some : goal.read_piece-requires-clause-some
read_piece-requires-clause-some g c =
    let long = front_length c.min-most.result c.deref_mut.result.now (omega (arith, c.min-most.ensures, ap (λ l. length l) c.deref_mut.ensures.value, c.loop-left.invariant.room)) in
    omega (arith, long, c.min-most.ensures, c.loop-left-test.true)

pub loop-left-preserved : goal.loop-left-preserved
loop-left-preserved g c =
    let i = c.loop-left.invariant in
    let e = takes_as c.in-Ok-read_piece.is c.read_piece.ensures.takes in
    let count = c.in-Ok-read_piece.count in
    let short = front_short c.min-most.result c.deref_mut.result.now in
    let few : count ≤ c.loop-left.left = omega (arith, e.taken.1, short, c.min-most.ensures) in
    record {
      fed = fed_on (length (take c.min-most.result c.deref_mut.result.now)) g.O.Outlet.schema i.fed.bytes (source_state g.S.Source c.args.source.now) (source_state g.S.Source c.read_piece.new.source) c.read_piece.new.ledger
          (e.fed (λ wanting. ok_no_err wanting) g.O.Outlet.schema (source_state g.S.Source c.args.source.now) i.fed);
      sound = e.sound.1;
      bound = omega (arith, i.bound);
      faults = e.sound.0 ∙ i.faults;
      taken = rises-along (g.S.Source.taken c.args.source.now) (g.S.Source.taken c.loop-left.source) (g.S.Source.taken c.read_piece.new.source) (SOURCE_BYTES - c.loop-left.left) count (SOURCE_BYTES - (c.loop-left.left - count)) i.taken e.taken.2 (omega (arith, few, i.bound));
      beside = c.read_piece.ensures.beside ∙ i.beside;
      stood = c.in-Ok-put_new.ensures.stands;
      begins = c.put_new.ensures.begins;
      fits = c.put_new.ensures.sound;
      later = λ first is. c.put_new.ensures.later first (i.later first is);
      room = still_long _ c.loop-left.buffer.items c.loop-left.buffer.len (sym c.loop-left.buffer.ok.0) ∙ (c.loop-left.buffer.ok.0 ∙ i.room);
    }

pub returns-in-Err-clause-feeds : goal.returns-in-Err-clause-feeds
returns-in-Err-clause-feeds g c = λ not_wanting.
    let i = c.loop-left.invariant in
    let before = source_state g.S.Source c.args.source.now in
    let middle = source_state g.S.Source c.loop-left.source in
    let after = source_state g.S.Source c.read_piece.new.source in
    let e = takes_as c.in-Err.is c.read_piece.ensures.takes in
    let most = length (take c.min-most.result c.deref_mut.result.now) in
    let on = e.fed (λ wanting. not_wanting (err_one (Err c.in-Err.end) c.in-Err.end feed.NoMemory refl wanting)) g.O.Outlet.schema before i.fed in
    feeds g.O.Outlet.schema before after c.in-Err.end c.read_piece.new.ledger (fed_on most g.O.Outlet.schema i.fed.bytes before after c.read_piece.new.ledger on)
    (ends_on before middle after i.fed.bytes (SOURCE_BYTES - c.loop-left.left) c.in-Err.end c.read_piece.new.ledger.fed i.fed.given i.faults i.taken (e.ends not_wanting))
    (short_on c.loop-left.left before middle after c.in-Err.end (omega (arith, c.loop-left-test.true)) i.bound i.taken
    (λ is. e.still (ap (λ (x : FeedEnd). Err x) is)) (λ is. e.stays (ap (λ (x : FeedEnd). Err x) is)))
    (stops most g.O.Outlet.schema before middle after c.loop-left.ledger c.read_piece.new.ledger i.fed on i.sound (omega (arith, front_short c.min-most.result c.deref_mut.result.now, c.min-most.ensures)) c.in-Err.end)

pub returns-in-Err-clause-within : goal.returns-in-Err-clause-within
returns-in-Err-clause-within g c =
    let i = c.loop-left.invariant in
    let more = c.read_piece.ensures.takes.within in
    let short = front_short c.min-most.result c.deref_mut.result.now in (
      (SOURCE_BYTES - c.loop-left.left) + more.0,
      omega (arith, more.1, short, c.min-most.ensures, i.bound),
      rises-along (g.S.Source.taken c.args.source.now) (g.S.Source.taken c.loop-left.source) (g.S.Source.taken c.read_piece.new.source) (SOURCE_BYTES - c.loop-left.left) more.0 ((SOURCE_BYTES - c.loop-left.left) + more.0) i.taken more.2 refl,
    )

pub returns-in-Err-clause-beside : goal.returns-in-Err-clause-beside
returns-in-Err-clause-beside g c = c.read_piece.ensures.beside ∙ c.loop-left.invariant.beside

pub returns-in-Err-clause-put : goal.returns-in-Err-clause-put
returns-in-Err-clause-put g c =
    let i = c.loop-left.invariant in
    let e = c.read_piece.ensures.takes in
    (e.schema ∙ i.fed.schema, BeginsWith-along c.read_piece.new.ledger.fed.list c.loop-left.ledger.fed.list (g.O.Outlet.list c.loop-left.outlet) e.grows i.begins, i.fits)

pub put_new-requires-clause-begins : goal.put_new-requires-clause-begins
put_new-requires-clause-begins g c =
    BeginsWith-along c.read_piece.new.ledger.fed.list c.loop-left.ledger.fed.list (g.O.Outlet.list c.loop-left.outlet) c.read_piece.ensures.takes.grows c.loop-left.invariant.begins

pub returns-in-Err-put_new-clause-within : goal.returns-in-Err-put_new-clause-within
returns-in-Err-put_new-clause-within g c =
    let i = c.loop-left.invariant in
    let more = c.read_piece.ensures.takes.within in
    let short = front_short c.min-most.result c.deref_mut.result.now in (
      (SOURCE_BYTES - c.loop-left.left) + more.0,
      omega (arith, more.1, short, c.min-most.ensures, i.bound),
      rises-along (g.S.Source.taken c.args.source.now) (g.S.Source.taken c.loop-left.source) (g.S.Source.taken c.read_piece.new.source) (SOURCE_BYTES - c.loop-left.left) more.0 ((SOURCE_BYTES - c.loop-left.left) + more.0) i.taken more.2 refl,
    )

pub returns-in-Err-put_new-clause-later : goal.returns-in-Err-put_new-clause-later
returns-in-Err-put_new-clause-later g c = λ first is. c.put_new.ensures.later first (c.loop-left.invariant.later first is)
