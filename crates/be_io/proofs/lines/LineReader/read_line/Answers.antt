-- What the loop keeps, from the start over a pass to an answer.
use Rattle.std.proofs.Common.{refl, [], length, arith, ◌≡◌, ℕ, ◌+◌, ◌≤◌, sym, ap, subst, ◌∙◌}
use Rattle.std.proofs.lemmas.Result.{err_from_is_err_and}
use Rattle.be_io.specs.Reader.{ReaderState}
use Rattle.be_io.specs.Reading.{IsReading}
use Rattle.be_io.specs.Buffer.{Takes}
use Rattle.be_io.proofs.ReadingLemmas.{IsReading-start, IsReading-counted, IsReading-skip, IsReading-fill, IsReading-close, IsReading-finish, IsReading-broken, IsReading-unbroken, IsReading-ahead}
use Rattle.be_io.proofs.lines.LineReader.read_line.Goals as goal

pub loop-len-init : goal.loop-len-init
loop-len-init g c = record {
  reading = IsReading-start c.args.self.now (g.S.Source.left c.args.src.now) c.requires.shows_none;
  bound = c.requires.bound;
  faults = refl;
  taken = omega arith;
  beside = refl;
  ahead = λ _. refl;
}

pub close-requires-clause-counted : goal.close-requires-clause-counted
close-requires-clause-counted g c = IsReading-counted c.loop-len.invariant.reading c.requires.counted

pub returns-in-Some-clause-line : goal.returns-in-Some-clause-line
returns-in-Some-clause-line g c = IsReading-close c.loop-len.invariant.reading c.requires.open c.in-Some.ensures c.close.ensures.line c.close.ensures.after

pub overflow_add-skipped : goal.overflow_add-skipped
overflow_add-skipped g c =
    let skip = IsReading-skip c.loop-len.invariant.reading c.in_default.ensures c.skip.ensures.exact c.skip.ensures.after in
    let counted : c.loop-len.skipped + c.skip.result + length c.skip.new.self.unread ≤ c.skip.new.self.taken = IsReading-counted skip c.requires.counted in
    let before : c.loop-len.self.taken ≡ c.args.self.now.taken + length c.loop-len.invariant.reading.given = ap (λ (r : ReaderState). r.taken) c.loop-len.invariant.reading.same in
    omega arith

pub returns-in_err-fill-clause-broken : goal.returns-in_err-fill-clause-broken
returns-in_err-fill-clause-broken g c =
    let skip = IsReading-skip c.loop-len.invariant.reading c.in_default.ensures c.skip.ensures.exact c.skip.ensures.after in
    let broken = IsReading-broken skip c.in_err-fill.ensures.broken.1 in
    let is = c.in_err-fill.ensures.broken.0 in
    let p = err_from_is_err_and c.from_residual.result c.from_residual.ensures.1 in
    rw (p.1, p.2) (ap (λ (r : ReaderState). r.stopped) is, ap (λ (r : ReaderState). r.text) is, ap (λ (r : ReaderState). r.ended) is ∙ ap (λ (r : ReaderState). r.ended) skip.same ∙ c.requires.open, broken)

pub returns-in_err-fill-clause-unbroken : goal.returns-in_err-fill-clause-unbroken
returns-in_err-fill-clause-unbroken g c =
    let skip = IsReading-skip c.loop-len.invariant.reading c.in_default.ensures c.skip.ensures.exact c.skip.ensures.after in
    let unbroken = IsReading-unbroken skip in
    let p = err_from_is_err_and c.from_residual.result c.from_residual.ensures.1 in
    rw (p.1) unbroken

pub returns-in_err-fill-clause-ahead : goal.returns-in_err-fill-clause-ahead
returns-in_err-fill-clause-ahead g c =
    let skip = IsReading-skip c.loop-len.invariant.reading c.in_default.ensures c.skip.ensures.exact c.skip.ensures.after in
    λ ahead. IsReading-ahead skip ahead

pub returns-in_err-fill-clause-last : goal.returns-in_err-fill-clause-last
returns-in_err-fill-clause-last g c =
    let skip = IsReading-skip c.loop-len.invariant.reading c.in_default.ensures c.skip.ensures.exact c.skip.ensures.after in
    λ _. IsReading-unbroken skip

pub finish-requires : goal.finish-requires
finish-requires g c =
    let skip = IsReading-skip c.loop-len.invariant.reading c.in_default.ensures c.skip.ensures.exact c.skip.ensures.after in
    let fill = IsReading-fill skip c.in_ok-fill.ensures.after c.in_ok-fill.ensures.takes in
    record { counted = IsReading-counted fill c.requires.counted }

pub returns-then-branch-eq0-clause-line : goal.returns-then-branch-eq0-clause-line
returns-then-branch-eq0-clause-line g c =
    let skip = IsReading-skip c.loop-len.invariant.reading c.in_default.ensures c.skip.ensures.exact c.skip.ensures.after in
    let zero = c.if-branch-eq0.true in
    let after = subst (λ k. c.fill.new.self ≡ record c.skip.new.self { unread = c.fill.new.self.unread; text = []; taken = c.skip.new.self.taken + k }) zero c.in_ok-fill.ensures.after in
    let takes = subst (λ k. Takes c.skip.new.self.unread c.fill.new.self.unread (g.S.Source.left c.loop-len.src) (g.S.Source.left c.fill.new.src) k) zero c.in_ok-fill.ensures.takes in
    IsReading-finish (g.S.Source.left c.fill.new.src) skip after takes c.finish.ensures.line c.finish.ensures.after

pub returns-then-branch-eq0-clause-ahead : goal.returns-then-branch-eq0-clause-ahead
returns-then-branch-eq0-clause-ahead g c =
    let skip = IsReading-skip c.loop-len.invariant.reading c.in_default.ensures c.skip.ensures.exact c.skip.ensures.after in
    λ ahead. IsReading-ahead skip ahead

pub returns-then-branch-eq0-clause-last : goal.returns-then-branch-eq0-clause-last
returns-then-branch-eq0-clause-last g c =
    let skip = IsReading-skip c.loop-len.invariant.reading c.in_default.ensures c.skip.ensures.exact c.skip.ensures.after in
    λ _. IsReading-unbroken skip

pub loop-len-preserved : goal.loop-len-preserved
loop-len-preserved g c =
    let skip = IsReading-skip c.loop-len.invariant.reading c.in_default.ensures c.skip.ensures.exact c.skip.ensures.after in
    let fill = IsReading-fill skip c.in_ok-fill.ensures.after c.in_ok-fill.ensures.takes in
    let before : c.loop-len.self.taken ≡ c.args.self.now.taken + length c.loop-len.invariant.reading.given = ap (λ (r : ReaderState). r.taken) c.loop-len.invariant.reading.same in
    let after : c.fill.new.self.taken ≡ c.skip.new.self.taken + c.in_ok-fill.field-0 = ap (λ (r : ReaderState). r.taken) c.in_ok-fill.ensures.after in
    let P : ℕ → Type 0 = λ n. IsReading c.args.self.now c.fill.new.self (g.S.Source.left c.args.src.now) (g.S.Source.left c.fill.new.src) (c.loop-len.skipped + c.skip.result) n in record {
      reading = subst P (sym c.unread_len-scanned.ensures) fill;
      bound = omega (arith, c.in_ok-fill.ensures.bound, after, c.skip.ensures.taken);
      faults = c.in_ok-fill.ensures.sound ∙ c.loop-len.invariant.faults;
      taken = omega (arith, c.in_ok-fill.ensures.taken, c.loop-len.invariant.taken, before, after, c.skip.ensures.taken);
      beside = c.fill.ensures.beside ∙ c.loop-len.invariant.beside;
      ahead = λ ahead. IsReading-ahead skip ahead;
    }
