use Rattle.std.proofs.Common.{◌≡◌, true, [], length, sym, ap, ◌∙◌, subst, arith}
use Rattle.std.specs.List.{list_all}
use Rattle.be_model.specs.Lies.{row_lies}
use Rattle.be_shape.specs.Plain.{plain, leaf_of}
use Rattle.be_shape.specs.Shape.{known, nothing}
use Rattle.be_shape.specs.NodeList.{known_along}
use Rattle.be_shape.specs.Steps.{can_split_off, split_off, replaced}
use Rattle.be_shape.proofs.Replacements.{right_along}
use Rattle.std.proofs.lemmas.Result.{on_ok_weaker, on_err_weaker}
use Rattle.be_shape.proofs.Reshaping.{stands_in, ended, changed_is, range_there, taken_out, put_back, put_own}
use Rattle.be_insert.proofs.Settled.{row_lie, leaf_may}
use Rattle.be_insert.proofs.SplitOff.{stands}
use Rattle.be_insert.proofs.split_steps.split_at.Goals as goal

pub walk_range-range-requires : goal.walk_range-range-requires
walk_range-range-requires c = stands_in c.args.s.now (plain c.args.root.now) c.requires.right

pub split_off-done-requires-clause-lie : goal.split_off-done-requires-clause-lie
split_off-done-requires-clause-lie c =
    let s = c.args.s.now in
    let n = plain c.args.root.now in
    let hops = c.args.hops.now in
    let e = ended (can_split_off s c.args.hop) s hops n c.requires.stands in
    let r = right_along s hops nothing n e.here c.requires.right e.there in
    let is = taken_out hops n e.here (plain c.make-here.result) (plain c.swap_at.new.other) e.there c.swap_at.ensures.taken in
    subst (λ m. list_all (row_lies s) (leaf_of m) ≡ true) (sym is) (row_lie s (leaf_of e.here) (leaf_may s e.here r.may))

pub split_off-done-requires-clause-few : goal.split_off-done-requires-clause-few
split_off-done-requires-clause-few c =
    let s = c.args.s.now in
    let n = plain c.args.root.now in
    let hops = c.args.hops.now in
    let e = ended (can_split_off s c.args.hop) s hops n c.requires.stands in
    let r = right_along s hops nothing n e.here c.requires.right e.there in
    let is = taken_out hops n e.here (plain c.make-here.result) (plain c.swap_at.new.other) e.there c.swap_at.ensures.taken in
    let z = stands s (known_along s hops nothing) e.here c.args.hop r e.passes in
    omega (arith, z.few, ap (λ m. length (leaf_of m)) is)

pub returns-clause-done : goal.returns-clause-done
returns-clause-done c =
    let s = c.args.s.now in
    let n = plain c.args.root.now in
    let hops = c.args.hops.now in
    let hop = c.args.hop in
    let e = ended (can_split_off s hop) s hops n c.requires.stands in
    let is = taken_out hops n e.here (plain c.make-here.result) (plain c.swap_at.new.other) e.there c.swap_at.ensures.taken in
    let at = range_there s hops n e.here c.walk_range-range.result e.there c.walk_range-range.ensures.range in
    let o = plain c.split_off-done.new.n in
    on_ok_weaker c.split_off-done.result (λ made. put_back hops n e.here (plain c.make-here.result) o (plain c.swap_at.new.n) (plain c.swap_at-2.new.n) e.there c.swap_at.ensures.put c.swap_at-2.ensures.put
    ∙ ap (λ m. replaced hops m n) (made ∙ ap (split_off s hop (known c.walk_range-range.result [])) is ∙ ap (λ r. split_off s hop (known r []) e.here) at) ∙ sym (changed_is (split_off s hop) s hops n e.here e.there)) c.split_off-done.ensures.done

pub returns-clause-refused : goal.returns-clause-refused
returns-clause-refused c =
    let s = c.args.s.now in
    let n = plain c.args.root.now in
    let hops = c.args.hops.now in
    let e = ended (can_split_off s c.args.hop) s hops n c.requires.stands in
    let is = taken_out hops n e.here (plain c.make-here.result) (plain c.swap_at.new.other) e.there c.swap_at.ensures.taken in
    on_err_weaker c.split_off-done.result (λ same. put_own hops n e.here (plain c.make-here.result) (plain c.split_off-done.new.n) (plain c.swap_at.new.n) (plain c.swap_at-2.new.n) e.there c.swap_at.ensures.put c.swap_at-2.ensures.put (same ∙ is)) c.split_off-done.ensures.refused
