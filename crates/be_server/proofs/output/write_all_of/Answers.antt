use Rattle.std.proofs.Common.{◌≡◌, ◌+◌, ◌++◌, ◌∷◌, [], drop, map, Err, Ok, ap, subst, arith, rules}
use Rattle.be_io.specs.Outside.{sink_state}
use Rattle.be_io.specs.Sink.{Wrote}
use Rattle.be_io.proofs.WroteLemmas.{Wrote-append}
use Rattle.be_server.specs.Drill.{under, headed}
use Rattle.be_server.proofs.DrillEnds.{next_of, none_left, headed_next, headed_stopped, headed_all}
use Rattle.be_server.proofs.output.write_all_of.Goals as goal

pub returns-in_err-write_under : goal.returns-in_err-write_under
returns-in_err-write_under g c =
    let i = c.loop-transcript.invariant in
    let n = c.loop-transcript.number + 1 in
    let ts = c.args.transcripts.now in
    let rest = drop (c.loop-transcript.transcript-index + 1) ts in
    let next : drop c.loop-transcript.transcript-index ts ≡ c.transcript-item.result ∷ rest = next_of ts c.loop-transcript.transcript-index c.transcript-item.result c.loop-transcript-test.true c.transcript-item.is in
    let all = map (λ t. t.items) ts in
    let is : Err c.in_err-write_under.field-0.0 ≡ c.from_residual.result = search rules in
    subst (Wrote (sink_state g.K.Sink c.args.out.now) (sink_state g.K.Sink c.write_under.new.out) (headed 1 all ++ c.args.log.now)) is
    (headed_stopped i.1.0 n c.transcript-item.result.items (map (λ t. t.items) rest) (headed 1 all) c.args.log.now (sink_state g.K.Sink c.args.out.now) (sink_state g.K.Sink c.loop-transcript.out) (sink_state g.K.Sink c.write_under.new.out)
    c.in_err-write_under.field-0.0 (subst (λ l. i.1.0 ++ headed n (map (λ t. t.items) l) ≡ headed 1 all) next i.1.2) i.1.1
    (subst (λ x. Wrote (sink_state g.K.Sink c.loop-transcript.out) (sink_state g.K.Sink c.write_under.new.out) (under n x) (Err c.in_err-write_under.field-0.0)) c.as_slice.ensures.value c.in_err-write_under.ensures))

pub loop-transcript-preserved : goal.loop-transcript-preserved
loop-transcript-preserved g c =
    let i = c.loop-transcript.invariant in
    let n = c.loop-transcript.number + 1 in
    let ts = c.args.transcripts.now in
    let rest = drop (c.loop-transcript.transcript-index + 1) ts in
    let next : drop c.loop-transcript.transcript-index ts ≡ c.transcript-item.result ∷ rest = next_of ts c.loop-transcript.transcript-index c.transcript-item.result c.loop-transcript-test.true c.transcript-item.is in
    let all = map (λ t. t.items) ts in (
      ap (λ x. x + 1) i.0,
      (
        i.1.0 ++ under n c.transcript-item.result.items,
        Wrote-append (sink_state g.K.Sink c.args.out.now) (sink_state g.K.Sink c.loop-transcript.out) (sink_state g.K.Sink c.write_under.new.out) i.1.0 (under n c.transcript-item.result.items) (Ok tt) i.1.1
            (subst (λ x. Wrote (sink_state g.K.Sink c.loop-transcript.out) (sink_state g.K.Sink c.write_under.new.out) (under n x) (Ok tt)) c.as_slice.ensures.value c.in_ok-write_under.ensures),
        headed_next i.1.0 n c.transcript-item.result.items (map (λ t. t.items) rest) (headed 1 all) (subst (λ l. i.1.0 ++ headed n (map (λ t. t.items) l) ≡ headed 1 all) next i.1.2),
      ),
    )

pub returns : goal.returns
returns g c =
    let i = c.loop-transcript.invariant in
    let n = c.loop-transcript.number + 1 in
    let ts = c.args.transcripts.now in
    let none : drop c.loop-transcript.transcript-index ts ≡ [] = none_left ts c.loop-transcript.transcript-index (omega (arith, c.loop-transcript-test.false)) in
    let all = map (λ t. t.items) ts in
    headed_all i.1.0 (headed 1 all) c.args.log.now (sink_state g.K.Sink c.args.out.now) (sink_state g.K.Sink c.loop-transcript.out) (sink_state g.K.Sink c.write_all.new.sink) c.write_all.result
    (subst (λ l. i.1.0 ++ headed n (map (λ t. t.items) l) ≡ headed 1 all) none i.1.2) i.1.1 c.write_all.ensures.wrote
