use Rattle.std.proofs.Common.{◌≡◌, [], false, sym, ap, ◌∙◌, subst}
use Rattle.std.specs.Arc.{arc_value}
use Rattle.std.proofs.lemmas.Bool.{false≢true}
use Rattle.be_model.specs.Lies.{row_lies}
use Rattle.be_shape.specs.Plain.{plain, rows_below}
use Rattle.be_shape.specs.Shape.{nothing}
use Rattle.be_shape.specs.Right.{IsRight}
use Rattle.be_shape.proofs.Roots.{root_of, root_right}
use Rattle.be_remove.proofs.Groups.{on_some}
use Rattle.be_remove.proofs.Roots.{there_from, by_id, not_there, without_row, root_stays}
use Rattle.be_remove.proofs.takes.take.Goals as goal

pub returns-then-not-lies-clause-there : goal.returns-then-not-lies-clause-there
returns-then-not-lies-clause-there c =
    let t = c.args.t.now in
    let s = arc_value t.schema in
    let row = c.args.row.now in
    let out : row_lies s row ≡ false = ap (λ a. row_lies a row) (sym c.deref.ensures) ∙ sym c.lies.ensures.lies ∙ c.if-not-lies.true in
    (λ p. absurd (false≢true p), λ k. absurd (not_there s (plain t.root) row (root_of t) out k))

pub take_from-requires-clause-right : goal.take_from-requires-clause-right
take_from-requires-clause-right c =
    let t = c.args.t.now in
    let s = arc_value t.schema in
    ([], subst (λ a. IsRight a nothing (plain t.root)) (sym c.deref-2.ensures) (root_right s (plain t.root) (root_of t)))

pub invariant_of-t-2 : goal.invariant_of-t-2
invariant_of-t-2 c =
    let t = c.args.t.now in
    let s = arc_value t.schema in
    let n = plain t.root in
    let m = plain c.take_from.new.n in
    let right = c.take_from.ensures.right [] (subst (λ a. IsRight a nothing n) (sym c.deref-2.ensures) (root_right s n (root_of t))) in
    let k = root_stays s n m c.args.row.now c.take_from.result (root_of t) c.take_from.ensures.taken c.take_from.ensures.none (subst (λ a. IsRight a nothing m) c.deref-2.ensures right) in
    record { alpha_is_share = t.alpha_is_share; lie = k.lie; placed = k.placed; drawn = k.drawn; pruned = k.pruned; settled = k.settled }

pub returns-clause-there : goal.returns-clause-there
returns-clause-there c =
    let t = c.args.t.now in
    let n = plain t.root in
    let row = c.args.row.now in
    by_id (arc_value t.schema) n row (root_of t) (there_from c.take_from.result (rows_below n) (rows_below (plain c.take_from.new.n)) row c.take_from.ensures.taken c.take_from.ensures.lacks)

pub returns-clause-taken : goal.returns-clause-taken
returns-clause-taken c =
    let t = c.args.t.now in
    on_some c.take_from.result c.take_from.ensures.taken (without_row (arc_value t.schema) (plain t.root) (plain c.take_from.new.n) c.args.row.now (root_of t))
