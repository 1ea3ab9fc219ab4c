use Rattle.std.proofs.Common.{◌≡◌, true, ℕ, ◌+◌, ◌<◌, List, length, get_or, drop, Some, option_and_then, sym, ap, subst, ◌∙◌}
use Rattle.std.proofs.lemmas.List.{drop_more}
use Rattle.be_model.specs.declared.paths.Hop.{Hop}
use Rattle.be_model.specs.declared.paths.Hop.TheVariants.{Part}
use Rattle.be_model.specs.Schemas.{Attributes, numbered}
use Rattle.be_shape.specs.Plain.{Plain, plain}
use Rattle.be_shape.specs.Shape.{NodeRange, known, everywhere, is_placed_at}
use Rattle.be_shape.specs.Paths.{child, walk, range_below, range_along}
use Rattle.be_shape.specs.Ranges.{is_bounded, is_rising, may_step, StandsIn}
use Rattle.be_shape.proofs.Placed.{steps}
use Rattle.be_shape.proofs.walks.walk_range.Goals as goal

walk_on : (hops : List Hop) (i : ℕ) (d : Hop) (n m : Plain) → i < length hops → Some m ≡ child (get_or hops i d) n → walk (drop (i + 1) hops) m ≡ walk (drop i hops) n
walk_on hops i d n m l is =
    sym (ap (λ hs. walk hs n) (drop_more hops i d l) ∙ ap (option_and_then (walk (drop (i + 1) hops))) (sym is))

range_on : (s : Attributes) (hops : List Hop) (i : ℕ) (d : Hop) (r t : NodeRange) → i < length hops → t ≡ range_below s (get_or hops i d) r → range_along s (drop (i + 1) hops) t ≡ range_along s (drop i hops) r
range_on s hops i d r t l is =
    ap (range_along s (drop (i + 1) hops)) is ∙ sym (ap (λ hs. range_along s hs r) (drop_more hops i d l))

stands : (s : Attributes) (hop : Hop) (r t : NodeRange) (n m : Plain) → StandsIn s r n → Some m ≡ child hop n → t ≡ range_below s hop r → is_bounded t ≡ true → (may_step hop r ≡ true → is_rising t ≡ true) → StandsIn s t m
stands s hop r t n m st is range bounded rising =
    let z = steps s hop r n m st (sym is) in
    record {
      used = z.used;
      placed = subst (λ x. everywhere (is_placed_at s) s (known x z.used) m ≡ true) (sym range) z.placed;
      bounded = bounded;
      rising = rising z.may;
    }

pub loop-hop-preserved : goal.loop-hop-preserved
loop-hop-preserved c =
    let s = c.args.s.now in
    let hops = c.args.hops.now in
    let i = c.loop-hop.hop-index in
    let d = Part (numbered 0) in
    let n = plain c.loop-hop.at.now in
    let m = plain c.in_ok-below.below.now in
    let r = c.loop-hop.range in
    let t = c.child_range-range.result in
    let e = c.child_range-range.ensures in (
      walk_on hops i d n m c.loop-hop-test.true c.in_ok-below.ensures ∙ c.loop-hop.invariant.0,
      range_on s hops i d r t c.loop-hop-test.true e.range ∙ c.loop-hop.invariant.1,
      stands s (get_or hops i d) r t n m c.loop-hop.invariant.2 c.in_ok-below.ensures e.range e.bounded e.rising,
    )
