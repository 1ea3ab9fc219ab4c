use Rattle.std.proofs.Common.{◌≡◌, ◌+◌, ◌++◌, ◌∷◌, [], true, rules, drop, sym, ap, ◌∙◌, arith}
use Rattle.std.specs.List.{list_all}
use Rattle.be_model.specs.Schemas.{Attributes}
use Rattle.be_shape.specs.declared.nodes.Node.{Node}
use Rattle.be_shape.specs.declared.nodes.Node.TheViews.{out-Node, the_lemmas}
use Rattle.be_shape.specs.Plain.{plain, part_as, parts_of, parts_as, rows_below, rows_in_parts}
use Rattle.be_shape.specs.Shape.{may_stand}
use Rattle.be_shape.proofs.Lists.{all_front, all_back}
use Rattle.be_adjust.specs.Fits.{stays, fit}
use Rattle.be_adjust.proofs.Fitting.{fit_some, fit_none, fit_both, rows_apart}
use Rattle.be_adjust.proofs.NodeRows.{parts_rows, low_rows, high_rows, rows_out}
use Rattle.be_adjust.proofs.fits.+fits.Goals as goal

-- the rows below the halves may stand in the tree
halves_may : (s : Attributes) (m : Node) → list_all (may_stand s) (rows_below (plain m)) ≡ true → (list_all (may_stand s) (low_rows m) ≡ true) × (list_all (may_stand s) (high_rows m) ≡ true)
halves_may s m may =
    let front = (out-Node m).leaf ++ parts_rows m in
    let all : list_all (may_stand s) (front ++ low_rows m ++ high_rows m) ≡ true = sym (ap (list_all (may_stand s)) (rows_out m)) ∙ may in
    (all_back (may_stand s) front (low_rows m) (all_front (may_stand s) (front ++ low_rows m) (high_rows m) all), all_back (may_stand s) (front ++ low_rows m) (high_rows m) all)

pub fit_node-fit_half-requires : goal.fit_node-fit_half-requires
fit_node-fit_half-requires t c =
    (search (rules, the_lemmas), ((halves_may c.args.s.now c.args.m.now c.requires.may).0, (c.requires.rise, (c.requires.bounded, c.requires.rising))))

pub fit_node-fit_half-requires-2 : goal.fit_node-fit_half-requires-2
fit_node-fit_half-requires-2 t c =
    (search (rules, the_lemmas), ((halves_may c.args.s.now c.args.m.now c.requires.may).1, (c.requires.rise, (c.requires.bounded, c.requires.rising))))

pub fit_node-returns-in_err-left-2 : goal.fit_node-returns-in_err-left-2
fit_node-returns-in_err-left-2 t c =
    let p = stays c.args.s.now c.args.hop c.args.range (plain c.args.n.now) in
    let m = c.args.m.now in
    let leaf = (out-Node m).leaf in
    let first : fit p c.args.most (leaf ++ parts_rows m) ≡ c.fit_parts.result = fit_both p c.args.most leaf (parts_rows m) (sym c.fit_leaf.ensures) c.in_ok-left.was (c.fit_parts.ensures ∙ ap (λ ps. fit p c.in_ok-left.left (rows_in_parts (parts_as ps))) c.as_slice.ensures.value) in
    let none = fit_none p c.args.most (leaf ++ parts_rows m ++ low_rows m) (high_rows m) (fit_none p c.args.most (leaf ++ parts_rows m) (low_rows m) (first ∙ c.in_err-left-2.was)) in
    c.from_residual-in_err-left-2.ensures ∙ sym (ap (fit p c.args.most) (rows_out m) ∙ none)

pub fit_node-returns-in_err-left-3 : goal.fit_node-returns-in_err-left-3
fit_node-returns-in_err-left-3 t c =
    let p = stays c.args.s.now c.args.hop c.args.range (plain c.args.n.now) in
    let m = c.args.m.now in
    let leaf = (out-Node m).leaf in
    let first : fit p c.args.most (leaf ++ parts_rows m) ≡ c.fit_parts.result = fit_both p c.args.most leaf (parts_rows m) (sym c.fit_leaf.ensures) c.in_ok-left.was (c.fit_parts.ensures ∙ ap (λ ps. fit p c.in_ok-left.left (rows_in_parts (parts_as ps))) c.as_slice.ensures.value) in
    let second : fit p c.args.most (leaf ++ parts_rows m ++ low_rows m) ≡ c.fit_half.result = fit_both p c.args.most (leaf ++ parts_rows m) (low_rows m) first c.in_ok-left-2.was c.fit_half.ensures in
    let none = fit_none p c.args.most (leaf ++ parts_rows m ++ low_rows m) (high_rows m) (second ∙ c.in_err-left-3.was) in
    c.from_residual-in_err-left-3.ensures ∙ sym (ap (fit p c.args.most) (rows_out m) ∙ none)

pub fit_node-returns : goal.fit_node-returns
fit_node-returns t c =
    let p = stays c.args.s.now c.args.hop c.args.range (plain c.args.n.now) in
    let m = c.args.m.now in
    let leaf = (out-Node m).leaf in
    let first : fit p c.args.most (leaf ++ parts_rows m) ≡ c.fit_parts.result = fit_both p c.args.most leaf (parts_rows m) (sym c.fit_leaf.ensures) c.in_ok-left.was (c.fit_parts.ensures ∙ ap (λ ps. fit p c.in_ok-left.left (rows_in_parts (parts_as ps))) c.as_slice.ensures.value) in
    let second : fit p c.args.most (leaf ++ parts_rows m ++ low_rows m) ≡ c.fit_half.result = fit_both p c.args.most (leaf ++ parts_rows m) (low_rows m) first c.in_ok-left-2.was c.fit_half.ensures in
    sym (ap (fit p c.args.most) (rows_out m) ∙ fit_both p c.args.most (leaf ++ parts_rows m ++ low_rows m) (high_rows m) second c.in_ok-left-3.was c.fit_half-2.ensures)

pub fit_parts-fit_part-requires : goal.fit_parts-fit_part-requires
fit_parts-fit_part-requires t c =
    let s = c.args.s.now in
    let items = c.args.parts.now in
    let i = c.loop-part.part-index in
    let q = c.part-item.result in
    let rest = rows_in_parts (parts_as (drop (i + 1) items)) in
    let next = rows_apart items i q (omega (arith, c.loop-part-test.true)) c.part-item.is in
    let may = all_front (may_stand s) (rows_in_parts (parts_of (part_as q ∷ []))) rest (sym (ap (list_all (may_stand s)) next) ∙ c.loop-part.invariant.1) in
    (search (rules, the_lemmas), (may, (c.requires.rise, (c.requires.bounded, c.requires.rising))))

pub fit_parts-loop-part-preserved : goal.fit_parts-loop-part-preserved
fit_parts-loop-part-preserved t c =
    let s = c.args.s.now in
    let p = stays s c.args.hop c.args.range (plain c.args.n.now) in
    let items = c.args.parts.now in
    let i = c.loop-part.part-index in
    let q = c.part-item.result in
    let first = rows_in_parts (parts_of (part_as q ∷ [])) in
    let rest = rows_in_parts (parts_as (drop (i + 1) items)) in
    let next = rows_apart items i q (omega (arith, c.loop-part-test.true)) c.part-item.is in (
      sym (ap (fit p c.loop-part.left) next ∙ fit_some p c.loop-part.left c.in_ok-left.left first rest (sym c.fit_part.ensures ∙ c.in_ok-left.was)) ∙ c.loop-part.invariant.0,
      all_back (may_stand s) first rest (sym (ap (list_all (may_stand s)) next) ∙ c.loop-part.invariant.1),
    )
