use Rattle.std.proofs.Common.{◌≡◌, ◌<◌, ◌≤◌, ◌+◌, length, set, sym, ap, subst, ◌∙◌, arith}
use Rattle.std.proofs.lemmas.List.{length-set}
use Rattle.be_shape.proofs.SightValues.{AreNoted, noted_none, noted_put, noted_beyond, told_all}
use Rattle.be_shape.proofs.sights.fill.Goals as goal
use Rattle.be_shape.proofs.sights.fill.Goals.{then-a-lt-SEEN, else-a-lt-SEEN}

pub loop-item-init : goal.loop-item-init
loop-item-init c = (c.told-seen, subst (λ hs. AreNoted hs c.args.items.now 0) (sym c.requires.none) (noted_none c.args.items.now))

pub loop-item-preserved : goal.loop-item-preserved
loop-item-preserved c =
    let e = c.args.items.now in
    let table = c.loop-item.seen in
    let i = c.loop-item.item-index in
    let x = c.item-item.result in
    let was = c.loop-item.invariant in
    let below : i < length e = c.loop-item-test.true in
    elim c.if-a-lt-SEEN.branch [
      | then-a-lt-SEEN w ↦
          let x1 = w.seen_of.result in
          let few : x.0.0 < 256 = omega (arith, w.if-a-lt-SEEN.true, c.from-a.ensures) in
          subst (λ hs. (length hs ≡ 256) × AreNoted hs e (i + 1)) (sym (w.seen-is ∙ ap (λ n. set table n x1) c.from-a.ensures))
          (length-set table x.0.0 x1 ∙ was.0, noted_put table e i x x1 was.0 c.requires.rise below c.item-item.is few w.seen_of.ensures was.1)
      | else-a-lt-SEEN w ↦
          let far : 256 ≤ x.0.0 = omega (arith, w.if-a-lt-SEEN.false, c.from-a.ensures) in
          subst (λ hs. (length hs ≡ 256) × AreNoted hs e (i + 1)) (sym w.seen-is) (was.0, noted_beyond table e i x below c.item-item.is far was.1)
    ]

pub returns : goal.returns
returns c =
    let table = c.loop-item.seen in
    let e = c.args.items.now in
    let i = c.loop-item.item-index in
    let end : length e ≤ i = omega (arith, c.loop-item-test.false) in
    record { size = c.loop-item.invariant.0; told = told_all table e i end c.loop-item.invariant.1 }
