use Rattle.std.proofs.Common.{◌≡◌, cond, true, false, sym, ap, ◌∙◌}
use Rattle.std.specs.List.{remove}
use Rattle.be_shape.specs.Plain.{plain, part_as, parts_as}
use Rattle.be_shape.specs.Less.{is_bare}
use Rattle.be_shape.proofs.Plains.{part_out}
use Rattle.be_remove.proofs.Places.{part_kept}
use Rattle.be_remove.proofs.leaves.drop_part.Goals as goal

pub returns-then-is_bare : goal.returns-then-is_bare
returns-then-is_bare c =
    let ps = c.args.parts.now.items in
    let q = c.index.result.now in
    let bare : is_bare (part_as q).1 ≡ true =
    ap (λ z. is_bare z.1) (part_out q) ∙ ap (λ n. is_bare (plain n)) (sym c.deref.ensures) ∙ sym c.is_bare.ensures ∙ c.if-is_bare.true in
    ap parts_as c.remove.ensures.items ∙ sym (part_kept ps c.args.place q c.requires c.index.ensures ∙ ap (λ b. cond b (parts_as (remove ps c.args.place)) (parts_as ps)) bare)

pub returns-else-is_bare : goal.returns-else-is_bare
returns-else-is_bare c =
    let ps = c.args.parts.now.items in
    let q = c.index.result.now in
    let bare : is_bare (part_as q).1 ≡ false = ap (λ z. is_bare z.1) (part_out q) ∙ ap (λ n. is_bare (plain n)) (sym c.deref.ensures) ∙ sym c.is_bare.ensures ∙ c.if-is_bare.false in
    sym (part_kept ps c.args.place q c.requires c.index.ensures ∙ ap (λ b. cond b (parts_as (remove ps c.args.place)) (parts_as ps)) bare)
