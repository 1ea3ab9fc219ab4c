use Rattle.std.proofs.Common.{◌≡◌, true, false, refl, sym, ◌∙◌, subst}
use Rattle.std.proofs.lemmas.Bool.{false≢true, not_from_false}
use Rattle.be_shape.specs.Shape.{is_used}
use Rattle.be_shape.specs.Spots.{known_of}
use Rattle.be_insert.proofs.Choices.{chosen, no_half, all_stuck, used_of}
use Rattle.be_insert.proofs.leaves.choose.Goals as goal

pub unreachable-requires : goal.unreachable-requires
unreachable-requires c =
    let s = c.args.s.now in
    let k = known_of c.args.k.now in
    let rows = c.args.leaf.now in
    let none = sym c.half_for.ensures ∙ c.in-None.is in
    false≢true (sym c.requires.loose ∙ all_stuck s k rows (λ a h. subst (λ used. is_used used a ≡ true) c.as_slice.ensures.value (used_of c.as_slice.result.now rows a (c.in-None-pick_attr.ensures.none.0 refl a) h)) (no_half s k.range rows none))

pub returns-in-Some-clause-some : goal.returns-in-Some-clause-some
returns-in-Some-clause-some c =
    chosen c.args.s.now c.args.k.now.range c.args.leaf.now c.in-Some.hop (sym c.half_for.ensures ∙ c.in-Some.is)

pub returns-in-Some-pick_attr-clause-some : goal.returns-in-Some-pick_attr-clause-some
returns-in-Some-pick_attr-clause-some c = c.in-Some-pick_attr.ensures.pick.candidate.some

pub returns-in-Some-pick_attr-clause-open : goal.returns-in-Some-pick_attr-clause-open
returns-in-Some-pick_attr-clause-open c =
    not_from_false (is_used c.args.k.now.used.items c.in-Some-pick_attr.a) (subst (λ used. is_used used c.in-Some-pick_attr.a ≡ false) c.as_slice.ensures.value c.in-Some-pick_attr.ensures.pick.candidate.unused)
