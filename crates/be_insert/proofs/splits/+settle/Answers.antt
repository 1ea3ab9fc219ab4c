use Rattle.std.proofs.Common.{◌≡◌, ℕ, ◌+◌, ◌-◌, ◌∷◌, [], List, cond, leb, true, not, length, take, filter, slice_get, sym, ap, ◌∙◌, subst, arith}
use Rattle.std.specs.List.{list_all, list_any}
use Rattle.std.specs.Arc.{arc_value}
use Rattle.be_base.specs.declared.limits.TheConstants.{LEAF_ROWS}
use Rattle.be_model.specs.declared.changes.Row.{Row}
use Rattle.be_model.specs.Lies.{row_lies}
use Rattle.be_model.specs.Schemas.{Attributes}
use Rattle.be_shape.specs.declared.nodes.Node.{Node}
use Rattle.be_shape.specs.declared.nodes.Node.TheViews.{out-Node}
use Rattle.be_shape.specs.Plain.{plain, node, no_part, no_half, leaf_of, rows_below}
use Rattle.be_shape.specs.Shape.{Known}
use Rattle.be_shape.specs.Children.{known_below, may_pass, with_leaf}
use Rattle.be_shape.proofs.Plains.{plain_out}
use Rattle.be_shape.specs.Spots.{known_of}
use Rattle.be_insert.specs.Filled.{IsFilled, settles}
use Rattle.be_insert.specs.Refusals.{back}
use Rattle.be_insert.proofs.LevelsLeft.{levels_left}
use Rattle.be_insert.proofs.Settled.{Ready, row_lie, leaf_may, ready, finish, last_of, front_stays, without_last, stays_settled}
use Rattle.be_insert.proofs.Steps.{Leaves}
use Rattle.be_insert.proofs.splits.+settle.Goals as goal
use Rattle.be_insert.proofs.splits.+settle.Goals.{After-choose-hop, After-deref_mut-in-Ok, After-attach, After-take_last}

-- the rows of the leaf lie in the schema
lie : (s : Attributes) (k : Known) (n : Node) → IsFilled s k (plain n) → list_all (row_lies s) (out-Node n).leaf ≡ true
lie s k n f = subst (λ l. list_all (row_lies s) l ≡ true) (ap leaf_of (plain_out n)) (row_lie s (leaf_of (plain n)) (leaf_may s (plain n) f.may))

-- what is known once the step is chosen
chosen : (t : ℕ) (c : After-choose-hop t) → Ready c.args.s.now (known_of c.args.k.now) (plain c.args.n.now) c.choose-hop.result
chosen t c =
    let k = known_of c.args.k.now in
    ready c.args.s.now k (plain c.args.n.now) c.choose-hop.result c.count.ensures.form c.requires c.choose-hop.ensures.open (subst (λ l. list_any (may_pass c.args.s.now c.choose-hop.result k.range) l ≡ true) (sym (ap leaf_of (plain_out c.args.n.now))) c.choose-hop.ensures.some)

-- the rows that pass are the new child
drawn : (t : ℕ) (c : After-deref_mut-in-Ok t) → plain c.deref_mut-in-Ok.result.now ≡ node (filter (may_pass c.args.s.now c.choose-hop.result (known_of c.args.k.now).range) (leaf_of (plain c.args.n.now))) no_part no_half no_half
drawn t c =
    ap plain c.deref_mut-in-Ok.ensures.value ∙ c.draw_off.ensures.moved ∙ ap (λ m. node (filter (may_pass c.args.s.now c.choose-hop.result (known_of c.args.k.now).range) (leaf_of m)) no_part no_half no_half) c.in-Ok.ensures.same

-- what is left where the child is settled, or the last row handed back
attached : (t : ℕ) (c : After-attach t) → Ready c.args.s.now (known_of c.args.k.now) (plain c.args.n.now) c.choose-hop.result
    → plain c.deref_mut-in-Ok.result.now ≡ node (filter (may_pass c.args.s.now c.choose-hop.result (known_of c.args.k.now).range) (leaf_of (plain c.args.n.now))) no_part no_half no_half
    → Leaves c.args.s.now (known_of c.args.k.now) (rows_below (plain c.args.n.now)) (plain c.attach.new.n) (back c.settle-done.result)
attached t c z is_b =
    let k = known_of c.args.k.now in
    let hop = c.choose-hop.result in
    let stays = λ (row : Row). not (may_pass c.args.s.now hop k.range row) in
    let is_o : plain c.draw_off.new.n ≡ with_leaf (filter stays (leaf_of (plain c.args.n.now))) (plain c.args.n.now) = c.draw_off.ensures.left ∙ ap (λ m. with_leaf (filter stays (leaf_of m)) m) c.in-Ok.ensures.same in
    let done = c.settle-done.ensures in
    finish c.args.s.now k (known_of c.prepare.new.k) (plain c.args.n.now) (plain c.draw_off.new.n) (plain c.deref_mut-in-Ok.result.now) (plain c.settle-done.new.n) (plain c.attach.new.n) hop c.settle-done.result c.requires c.choose-hop.ensures.open z c.in-Ok.ensures.entered is_o is_b c.attach.ensures done.right done.rows done.many

-- what is left where there is no memory
refused : (t : ℕ) (c : After-take_last t) → Leaves c.args.s.now (known_of c.args.k.now) (rows_below (plain c.args.n.now)) (plain c.take_last.new.n) (arc_value c.take_last.result ∷ [])
refused t c =
    let same = c.in-Err.ensures.same in
    without_last c.args.s.now (known_of c.args.k.now) (plain c.args.n.now) (plain c.take_last.new.n) (arc_value c.take_last.result) c.requires (c.take_last.ensures.rest ∙ ap (λ m. with_leaf (take (length (leaf_of m) - 1) (leaf_of m)) m) same)
    (ap (λ m. slice_get (leaf_of m) (length (leaf_of m) - 1)) (sym same) ∙ c.take_last.ensures.row)

pub is_overfull-requires-clause-lie : goal.is_overfull-requires-clause-lie
is_overfull-requires-clause-lie t c = lie c.args.s.now (known_of c.args.k.now) c.args.n.now c.requires

pub choose-hop-requires-clause-lie : goal.choose-hop-requires-clause-lie
choose-hop-requires-clause-lie t c = lie c.args.s.now (known_of c.args.k.now) c.args.n.now c.requires

-- nothing is done where the leaf is settled
pub returns-then-not-is_overfull-clause-right : goal.returns-then-not-is_overfull-clause-right
returns-then-not-is_overfull-clause-right t c =
    let s = c.args.s.now in
    let k = known_of c.args.k.now in
    let n = c.args.n.now in
    (stays_settled s k (plain n) c.requires (sym c.if-not-is_overfull.true ∙ c.is_overfull.ensures ∙ ap (λ l. not (settles s k l)) (sym (ap leaf_of (plain_out n))))).right

pub draw_off-requires-clause-lie : goal.draw_off-requires-clause-lie
draw_off-requires-clause-lie t c =
    subst (λ m. list_all (row_lies c.args.s.now) (leaf_of m) ≡ true) (sym c.in-Ok.ensures.same) (chosen t (goal.at.draw_off-requires-clause-lie t c).After-choose-hop).lie

pub draw_off-requires-clause-before : goal.draw_off-requires-clause-before
draw_off-requires-clause-before t c =
    let s = c.args.s.now in
    let k = known_of c.args.k.now in
    let n = plain c.args.n.now in
    let hop = c.choose-hop.result in
    let first = c.first_loose-first.result in
    subst (λ m. list_all (λ row. not (may_pass s hop k.range row)) (take first (leaf_of m)) ≡ true) (sym c.in-Ok.ensures.same)
    (front_stays s k (leaf_of n) hop first (c.first_loose-first.ensures.first ∙ ap (λ (l : List Row). cond (leb (length l) (LEAF_ROWS + 1)) 0 (length l - 1)) (sym (ap leaf_of (plain_out c.args.n.now)))) c.requires.filled c.choose-hop.ensures.open)

pub draw_off-requires-clause-few : goal.draw_off-requires-clause-few
draw_off-requires-clause-few t c =
    let z = chosen t (goal.at.draw_off-requires-clause-few t c).After-choose-hop in
    omega (arith, z.passes.few, ap (λ m. length (filter (may_pass c.args.s.now c.choose-hop.result (known_of c.args.k.now).range) (leaf_of m))) c.in-Ok.ensures.same)

pub settle-done-requires : goal.settle-done-requires
settle-done-requires t c =
    let at = goal.at.settle-done-requires t c in
    let s = c.args.s.now in
    let z = chosen t at.After-choose-hop in
    let f = c.decreases in
    let e = ap (levels_left s) c.in-Ok.ensures.entered in (
      omega (arith, z.fewer, e, f),
      subst (λ i. IsFilled s i (plain c.deref_mut-in-Ok.result.now)) (sym c.in-Ok.ensures.entered) (subst (IsFilled s (known_below s c.choose-hop.result (known_of c.args.k.now))) (sym (drawn t at.After-deref_mut-in-Ok)) z.filled),
    )

pub returns-in-Ok-clause-right : goal.returns-in-Ok-clause-right
returns-in-Ok-clause-right t c =
    let at = goal.at.returns-in-Ok-clause-right t c in
    (attached t at.After-attach (chosen t at.After-choose-hop) (drawn t at.After-deref_mut-in-Ok)).right

pub returns-in-Ok-clause-rows : goal.returns-in-Ok-clause-rows
returns-in-Ok-clause-rows t c =
    let at = goal.at.returns-in-Ok-clause-rows t c in
    (attached t at.After-attach (chosen t at.After-choose-hop) (drawn t at.After-deref_mut-in-Ok)).same

pub returns-in-Ok-clause-last : goal.returns-in-Ok-clause-last
returns-in-Ok-clause-last t c =
    let at = goal.at.returns-in-Ok-clause-last t c in
    let done = c.settle-done.ensures in
    last_of c.args.s.now (known_of c.args.k.now) (plain c.args.n.now) (plain c.deref_mut-in-Ok.result.now) c.choose-hop.result c.settle-done.result (chosen t at.After-choose-hop) (drawn t at.After-deref_mut-in-Ok) done.many done.last

pub returns-in-Err-clause-right : goal.returns-in-Err-clause-right
returns-in-Err-clause-right t c = (refused t (goal.at.returns-in-Err-clause-right t c).After-take_last).right

pub returns-in-Err-clause-rows : goal.returns-in-Err-clause-rows
returns-in-Err-clause-rows t c = (refused t (goal.at.returns-in-Err-clause-rows t c).After-take_last).same
