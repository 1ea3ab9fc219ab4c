use Rattle.std.proofs.Common.{◌≡◌, length, drop, min, ap, ◌∙◌, arith}
use Rattle.std.proofs.lemmas.List.{length-drop}
use Rattle.be_shape.specs.Leaves.{rows_of_places}
use Rattle.be_shape.proofs.LeafRows.{rows_length}
use Rattle.be_shape.proofs.Choices.{all_covered_there}
use Rattle.be_shape.proofs.leaves.Leaf.choose.Goals as goal

pub choose_among-requires-clause-within : goal.choose_among-requires-clause-within
choose_among-requires-clause-within c =
    let ps = c.self.inside.places.items in
    omega (arith, ap length c.as_slice-places.ensures, rows_length ps c.self.invariant.rows, ap length c.self.view_is, c.min-many.ensures, c.len.ensures, c.requires)

pub choose_among-requires-else-is_exact-clause-within : goal.choose_among-requires-else-is_exact-clause-within
choose_among-requires-else-is_exact-clause-within c =
    let ps = c.self.inside.places.items in
    omega (arith, ap length c.as_slice-places.ensures, rows_length ps c.self.invariant.rows, ap length c.self.view_is, c.min-many.ensures, c.len.ensures, c.requires)

pub returns-then-is_exact-clause-places : goal.returns-then-is_exact-clause-places
returns-then-is_exact-clause-places c =
    let rows = c.args.self.now in
    let end : c.min-many.result ≡ min 32 (length (drop c.args.from rows)) = omega (arith, c.min-many.ensures, c.len.ensures, length-drop c.args.from rows, c.requires) in
    all_covered_there c.args.e.now c.again-sight.result rows (rows_of_places c.as_slice-places.result.now) c.args.from c.min-many.result _ c.again-sight.ensures (ap rows_of_places c.as_slice-places.ensures ∙ c.self.view_is) end c.choose_among.ensures.places

pub returns-else-is_exact-clause-places : goal.returns-else-is_exact-clause-places
returns-else-is_exact-clause-places c =
    let rows = c.args.self.now in
    let end : c.min-many.result ≡ min 32 (length (drop c.args.from rows)) = omega (arith, c.min-many.ensures, c.len.ensures, length-drop c.args.from rows, c.requires) in
    all_covered_there c.args.e.now c.again-sight.result rows (rows_of_places c.as_slice-places.result.now) c.args.from c.min-many.result _ c.again-sight.ensures (ap rows_of_places c.as_slice-places.ensures ∙ c.self.view_is) end c.choose_among-else-is_exact.ensures.places
