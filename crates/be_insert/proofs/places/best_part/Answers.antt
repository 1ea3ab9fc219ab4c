use Rattle.std.proofs.Common.{◌≡◌, ℕ, ℤ, None, Some, option_map, sym, ap, ◌∙◌, arith}
use Rattle.std.proofs.lemmas.List.{drop_all}
use Rattle.be_shape.specs.Plain.{parts_as}
use Rattle.be_shape.specs.Shape.{attrs_of}
use Rattle.be_insert.specs.Ways.{best_from}
use Rattle.be_insert.proofs.Ways.{best_within}
use Rattle.be_insert.proofs.places.best_part.Goals as goal

pub returns-clause-within : goal.returns-clause-within
returns-clause-within c =
    let s = c.args.s.now in
    let row = c.args.row.now in
    let ps = c.args.parts.now in
    let l = c.loop-part in
    let none_left = drop_all l.part-index ps (omega (arith, c.loop-part-test.false)) in
    let all : l.best ≡ best_from s row 0 None (attrs_of (parts_as ps)) = ap (λ xs. best_from s row l.place l.best (attrs_of (parts_as xs))) (sym none_left) ∙ l.invariant.0 in
    let is : Some (c.in_ok-found.found, c.in_ok-found.field-0-1) ≡ l.best = cc in
    best_within s row ps c.in_ok-found.found (ap (option_map (λ (b : ℕ × ℤ). b.0)) (is ∙ all))
