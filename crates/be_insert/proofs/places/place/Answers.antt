use Rattle.std.proofs.Common.{◌≡◌, ◌++◌, ◌∷◌, [], true, sym, ◌∙◌, subst, refl}
use Rattle.std.specs.Prelude.{IsPermutation}
use Rattle.std.specs.Arc.{arc_value}
use Rattle.be_model.specs.Forms.{IsConj}
use Rattle.be_shape.specs.Plain.{plain, rows_below}
use Rattle.be_shape.specs.Shape.{nothing, may_stand}
use Rattle.be_shape.proofs.Plains.{plain_out, plain_roll}
use Rattle.be_shape.proofs.RootPut.{may_stand_from}
use Rattle.be_shape.specs.Right.{IsRight}
use Rattle.be_insert.specs.Refusals.{back}
use Rattle.be_shape.specs.Spots.{known_of}
use Rattle.be_shape.proofs.Roots.{root_right, root_of}
use Rattle.be_insert.proofs.Roots.{placement}
use Rattle.be_insert.proofs.places.place.Goals as goal

pub place_below-requires-clause-right : goal.place_below-requires-clause-right
place_below-requires-clause-right c =
    let t = c.args.t.now in
    let s = arc_value t.schema in
    let a = c.deref-2.result.now in
    subst (λ m. IsRight a (known_of c.root-spot.result) m) (plain_out t.root ∙ sym (plain_roll _))
    (subst (λ k. IsRight a k (plain t.root)) (sym c.root-spot.ensures) (subst (λ b. IsRight b nothing (plain t.root)) (sym c.deref-2.ensures) (root_right s (plain t.root) (root_of t))))

pub place_below-requires-clause-may : goal.place_below-requires-clause-may
place_below-requires-clause-may c =
    let s = arc_value c.args.t.now.schema in
    let row = arc_value c.args.row in
    subst (λ b. may_stand b row ≡ true) (sym c.deref-2.ensures) (may_stand_from s row (subst (λ r. IsConj r.conj) c.deref.ensures c.preds.ensures.form) c.requires.lies c.requires.low)

pub invariant_of-t : goal.invariant_of-t
invariant_of-t c =
    let t = c.args.t.now in
    let s = arc_value t.schema in
    let m = plain c.place_below.new.n in
    let row = arc_value c.args.row in
    let right = subst (λ b. IsRight b nothing m) c.deref-2.ensures (subst (λ k. IsRight c.deref-2.result.now k m) c.root-spot.ensures c.place_below.ensures.right) in
    let rows = subst (λ n. IsPermutation (rows_below n ++ row ∷ []) (rows_below m ++ back c.place_below.result)) (plain_roll _ ∙ sym (plain_out t.root)) c.place_below.ensures.rows in
    let k = (placement s (plain t.root) m row c.place_below.result (root_of t) c.requires.new right rows c.place_below.ensures.same).root in
    record { alpha_is_share = t.alpha_is_share; lie = k.lie; placed = k.placed; drawn = k.drawn; pruned = k.pruned; settled = k.settled }

pub returns : goal.returns
returns c =
    let t = c.args.t.now in
    let s = arc_value t.schema in
    let m = plain c.place_below.new.n in
    let row = arc_value c.args.row in
    let right = subst (λ b. IsRight b nothing m) c.deref-2.ensures (subst (λ k. IsRight c.deref-2.result.now k m) c.root-spot.ensures c.place_below.ensures.right) in
    let rows = subst (λ n. IsPermutation (rows_below n ++ row ∷ []) (rows_below m ++ back c.place_below.result)) (plain_roll _ ∙ sym (plain_out t.root)) c.place_below.ensures.rows in
    let done = placement s (plain t.root) m row c.place_below.result (root_of t) c.requires.new right rows c.place_below.ensures.same in
    record { put = done.put; refused = done.refused; back = c.place_below.ensures.same; schema = refl; alpha = refl }
