use Rattle.std.proofs.Common.{◌≡◌, ◌∷◌, Some, None, sym, ap, ◌∙◌, arith}
use Rattle.be_base.specs.declared.names.AttrNo.{AttrNo}
use Rattle.be_model.specs.declared.paths.Hop.TheVariants.{Part}
use Rattle.be_shape.specs.declared.nodes.Node.TheViews.{out-Node, out-Part}
use Rattle.be_shape.specs.declared.nodes.Part.{Part as PartOf, roll-Part}
use Rattle.be_shape.specs.declared.nodes.Node.TheFolds.{fold-roll-Part}
use Rattle.std.specs.Box.{with_value}
use Rattle.be_shape.specs.Plain.{Plain, plain, plain_node, plain_part, node, parts_as, half_as}
use Rattle.be_shape.specs.Paths.{child, walk}
use Rattle.be_shape.specs.Steps.{is_node, other_child, other_part, replaced}
use Rattle.be_shape.specs.Swaps.{place_on, node_or}
use Rattle.be_shape.proofs.Plains.{plain_out, part_out, plain_roll}
use Rattle.be_shape.proofs.Exchanges.{found, missing, walk_first, walk_none, put_first, put_none}
use Rattle.be_shape.proofs.swaps.+swap_at.Goals as goal

pub index_mut-requires : goal.index_mut-requires
index_mut-requires t c =
    let x = out-Node c.args.n.now in
    let f = found x.parts.items c.in-Some-place_on.place c.in-Part.a (sym (ap (λ ps. place_on c.in-Part.a (parts_as ps)) c.as_slice.ensures.value) ∙ sym c.place_on.ensures ∙ c.in-Some-place_on.is) in
    omega (arith, f.within, x.parts.ok.0)

pub returns-in-Some-place_on-clause-there : goal.returns-in-Some-place_on-clause-there
returns-in-Some-place_on-clause-there t c =
    let x = out-Node c.args.n.now in
    let items = x.parts.items in
    let i = c.in-Some-place_on.place in
    let a = c.in-Part.a in
    let f = found items i a (sym (ap (λ ps. place_on a (parts_as ps)) c.as_slice.ensures.value) ∙ sym c.place_on.ensures ∙ c.in-Some-place_on.is) in
    let q = c.index_mut.result.now in
    let m = plain (out-Part q).root.value in
    let path : c.args.hops.now ≡ Part a ∷ c.in-Some.rest.now = c.in-Some.ensures.cases.0 ∙ ap (λ h. h ∷ c.in-Some.rest.now) c.in-Part.is in
    let below : plain c.deref_mut.result.now ≡ m = ap plain c.deref_mut.ensures.value in
    let there : child (Part a) (plain c.args.n.now) ≡ Some m = ap (child (Part a)) (plain_out c.args.n.now) ∙ f.here q c.index_mut.ensures.value ∙ ap (λ y. Some y.1) (part_out q) in
    c.swap_at.ensures.there ∙ ap is_node (ap (walk c.in-Some.rest.now) below ∙ sym (walk_first c.args.hops.now c.in-Some.rest.now (Part a) (plain c.args.n.now) m path there))

pub returns-in-Some-place_on-clause-taken : goal.returns-in-Some-place_on-clause-taken
returns-in-Some-place_on-clause-taken t c =
    let x = out-Node c.args.n.now in
    let items = x.parts.items in
    let i = c.in-Some-place_on.place in
    let a = c.in-Part.a in
    let f = found items i a (sym (ap (λ ps. place_on a (parts_as ps)) c.as_slice.ensures.value) ∙ sym c.place_on.ensures ∙ c.in-Some-place_on.is) in
    let q = c.index_mut.result.now in
    let m = plain (out-Part q).root.value in
    let path : c.args.hops.now ≡ Part a ∷ c.in-Some.rest.now = c.in-Some.ensures.cases.0 ∙ ap (λ h. h ∷ c.in-Some.rest.now) c.in-Part.is in
    let below : plain c.deref_mut.result.now ≡ m = ap plain c.deref_mut.ensures.value in
    let there : child (Part a) (plain c.args.n.now) ≡ Some m = ap (child (Part a)) (plain_out c.args.n.now) ∙ f.here q c.index_mut.ensures.value ∙ ap (λ y. Some y.1) (part_out q) in
    c.swap_at.ensures.taken ∙ ap (node_or (plain c.args.other.now)) (ap (walk c.in-Some.rest.now) below ∙ sym (walk_first c.args.hops.now c.in-Some.rest.now (Part a) (plain c.args.n.now) m path there))

pub returns-in-Some-place_on-clause-put : goal.returns-in-Some-place_on-clause-put
returns-in-Some-place_on-clause-put t c =
    let x = out-Node c.args.n.now in
    let items = x.parts.items in
    let i = c.in-Some-place_on.place in
    let a = c.in-Part.a in
    let f = found items i a (sym (ap (λ ps. place_on a (parts_as ps)) c.as_slice.ensures.value) ∙ sym c.place_on.ensures ∙ c.in-Some-place_on.is) in
    let q = c.index_mut.result.now in
    let m = plain (out-Part q).root.value in
    let path : c.args.hops.now ≡ Part a ∷ c.in-Some.rest.now = c.in-Some.ensures.cases.0 ∙ ap (λ h. h ∷ c.in-Some.rest.now) c.in-Part.is in
    let below : plain c.deref_mut.result.now ≡ m = ap plain c.deref_mut.ensures.value in
    let there : child (Part a) (plain c.args.n.now) ≡ Some m = ap (child (Part a)) (plain_out c.args.n.now) ∙ f.here q c.index_mut.ensures.value ∙ ap (λ y. Some y.1) (part_out q) in
    let o = plain c.swap_at.new.n in
    let p : PartOf = roll-Part (record { attr = (out-Part q).attr; root = with_value (out-Part q).root c.swap_at.new.n }) in
    let seen = fold-roll-Part Plain (AttrNo × Plain) plain_node plain_part (record { attr = (out-Part q).attr; root = with_value (out-Part q).root c.swap_at.new.n }) ∙ ap (λ y. (y.0, o)) (sym (part_out q)) in
    let set = f.set p q o c.index_mut.ensures.value seen in
    let is_o : o ≡ replaced c.in-Some.rest.now (plain c.args.other.now) m = c.swap_at.ensures.put ∙ ap (replaced c.in-Some.rest.now (plain c.args.other.now)) below in
    plain_roll _ ∙ ap (λ ps. node x.leaf ps (half_as x.low) (half_as x.high)) set ∙ ap (λ y. node x.leaf (other_part a y (parts_as items)) (half_as x.low) (half_as x.high)) is_o
    ∙ sym (ap (other_child (Part a) (replaced c.in-Some.rest.now (plain c.args.other.now) m)) (plain_out c.args.n.now)) ∙ sym (put_first c.args.hops.now c.in-Some.rest.now (Part a) (plain c.args.n.now) m (plain c.args.other.now) path there)

pub returns-in-None-clause-there : goal.returns-in-None-clause-there
returns-in-None-clause-there t c =
    let x = out-Node c.args.n.now in
    let a = c.in-Part.a in
    let path : c.args.hops.now ≡ Part a ∷ c.in-Some.rest.now = c.in-Some.ensures.cases.0 ∙ ap (λ h. h ∷ c.in-Some.rest.now) c.in-Part.is in
    let gone = missing (parts_as x.parts.items) a (sym (ap (λ ps. place_on a (parts_as ps)) c.as_slice.ensures.value) ∙ sym c.place_on.ensures ∙ c.in-None.is) in
    let there : child (Part a) (plain c.args.n.now) ≡ None = ap (child (Part a)) (plain_out c.args.n.now) ∙ gone in
    let none = walk_none c.args.hops.now c.in-Some.rest.now (Part a) (plain c.args.n.now) path there in
    sym (ap is_node none)

pub returns-in-None-clause-taken : goal.returns-in-None-clause-taken
returns-in-None-clause-taken t c =
    let x = out-Node c.args.n.now in
    let a = c.in-Part.a in
    let path : c.args.hops.now ≡ Part a ∷ c.in-Some.rest.now = c.in-Some.ensures.cases.0 ∙ ap (λ h. h ∷ c.in-Some.rest.now) c.in-Part.is in
    let gone = missing (parts_as x.parts.items) a (sym (ap (λ ps. place_on a (parts_as ps)) c.as_slice.ensures.value) ∙ sym c.place_on.ensures ∙ c.in-None.is) in
    let there : child (Part a) (plain c.args.n.now) ≡ None = ap (child (Part a)) (plain_out c.args.n.now) ∙ gone in
    let none = walk_none c.args.hops.now c.in-Some.rest.now (Part a) (plain c.args.n.now) path there in
    sym (ap (node_or (plain c.args.other.now)) none)

pub returns-in-None-clause-put : goal.returns-in-None-clause-put
returns-in-None-clause-put t c =
    let x = out-Node c.args.n.now in
    let a = c.in-Part.a in
    let path : c.args.hops.now ≡ Part a ∷ c.in-Some.rest.now = c.in-Some.ensures.cases.0 ∙ ap (λ h. h ∷ c.in-Some.rest.now) c.in-Part.is in
    let gone = missing (parts_as x.parts.items) a (sym (ap (λ ps. place_on a (parts_as ps)) c.as_slice.ensures.value) ∙ sym c.place_on.ensures ∙ c.in-None.is) in
    let there : child (Part a) (plain c.args.n.now) ≡ None = ap (child (Part a)) (plain_out c.args.n.now) ∙ gone in
    let none = walk_none c.args.hops.now c.in-Some.rest.now (Part a) (plain c.args.n.now) path there in
    sym (put_none c.args.hops.now c.in-Some.rest.now (Part a) (plain c.args.n.now) (plain c.args.other.now) path there)
