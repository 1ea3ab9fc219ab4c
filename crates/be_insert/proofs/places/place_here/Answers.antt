use Rattle.std.proofs.Common.{◌≡◌, ◌++◌, ◌∷◌, [], IfErr, sym, subst, rules}
use Rattle.std.specs.Prelude.{IsPermutation}
use Rattle.std.specs.Arc.{arc_value}
use Rattle.be_shape.specs.Plain.{plain, rows_below}
use Rattle.be_insert.specs.Filled.{IsFilled}
use Rattle.be_insert.specs.Refusals.{back}
use Rattle.be_shape.specs.Spots.{known_of}
use Rattle.be_insert.proofs.Arranged.{still_right, put_arranged}
use Rattle.be_insert.proofs.Fills.{put_filled}
use Rattle.be_insert.proofs.Settled.{handed_back, put_or_back}
use Rattle.be_insert.proofs.places.place_here.Goals as goal

pub settle-requires : goal.settle-requires
settle-requires c =
    let s = c.args.s.now in
    let k = known_of c.args.k.now in
    let n = plain c.args.n.now in
    subst (IsFilled s k) (sym c.in-Ok.ensures.put)
    (put_filled s k n (arc_value c.args.row) c.requires.right c.requires.here c.requires.inside c.requires.may)

pub returns-in_err-settle-in-Ok-clause-rows : goal.returns-in_err-settle-in-Ok-clause-rows
returns-in_err-settle-in-Ok-clause-rows c =
    let gives : c.from_residual.result ≡ c.settle.result = search rules in
    let n = plain c.args.n.now in
    let m = plain c.settle.new.n in
    let x = arc_value c.args.row in
    subst (λ r. IsPermutation (rows_below n ++ x ∷ []) (rows_below m ++ back r)) (sym gives)
    (put_or_back n (plain c.put_last.new.n) m x c.settle.result c.in-Ok.ensures.put c.settle.ensures.rows)

pub returns-in_err-settle-in-Ok-clause-same : goal.returns-in_err-settle-in-Ok-clause-same
returns-in_err-settle-in-Ok-clause-same c =
    let gives : c.from_residual.result ≡ c.settle.result = search rules in
    subst (λ r. IfErr r (λ e. arc_value e.0 ≡ arc_value c.args.row)) (sym gives)
    (handed_back (plain c.args.n.now) (plain c.put_last.new.n) (arc_value c.args.row) c.settle.result c.in-Ok.ensures.put c.settle.ensures.last)

pub returns-in_ok-settle-in-Ok-clause-right : goal.returns-in_ok-settle-in-Ok-clause-right
returns-in_ok-settle-in-Ok-clause-right c =
    still_right c.args.s.now (known_of c.args.k.now) (plain c.settle.new.n) (plain c.arrange.new.n)
    c.arrange.ensures.rows c.arrange.ensures.rest c.settle.ensures.right

pub returns-in_ok-settle-in-Ok-clause-rows : goal.returns-in_ok-settle-in-Ok-clause-rows
returns-in_ok-settle-in-Ok-clause-rows c =
    let n = plain c.args.n.now in
    let m = plain c.settle.new.n in
    let x = arc_value c.args.row in
    let put = put_or_back n (plain c.put_last.new.n) m x c.settle.result c.in-Ok.ensures.put c.settle.ensures.rows in
    put_arranged (rows_below n ++ x ∷ []) m (plain c.arrange.new.n) c.arrange.ensures.rows c.arrange.ensures.rest
    (subst (λ r. IsPermutation (rows_below n ++ x ∷ []) (rows_below m ++ back r)) c.in_ok-settle-in-Ok.was put)
