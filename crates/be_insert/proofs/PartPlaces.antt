-- A part put among parts that rise.
use Rattle.std.proofs.Common.{◌≡◌, ◌+◌, suc, Bool, true, false, cond, ltb, List, [], ◌∷◌, refl, ap, ◌∙◌, arith}
use Rattle.std.specs.List.{insert}
use Rattle.be_base.specs.declared.names.AttrNo.{AttrNo}
use Rattle.be_shape.specs.declared.nodes.Part.{Part}
use Rattle.be_shape.specs.Plain.{Plain, part, part_as, parts_of, parts_as}
use Rattle.be_shape.specs.Children.{with_part}
use Rattle.be_insert.specs.Rooms.{part_place}

pub parts_put : (ps : List Part) (p : Part) (a : AttrNo) (m : Plain) → part_as p ≡ (a, m) → parts_as (insert ps (part_place a (parts_as ps)) p) ≡ with_part a m (parts_as ps)
parts_put [] p a m h = ap (λ q. part q.0 q.1 (parts_of [])) h
parts_put (q ∷ ps) p a m h = by_test (ltb a.0 (part_as q).0.0) refl (parts_put ps p a m h)
  where
    by_test : (b : Bool) → ltb a.0 (part_as q).0.0 ≡ b → parts_as (insert ps (part_place a (parts_as ps)) p) ≡ with_part a m (parts_as ps)
        → parts_as (insert (q ∷ ps) (cond b 0 (part_place a (parts_as ps) + 1)) p) ≡ cond b (part a m (parts_as (q ∷ ps))) (part (part_as q).0 (part_as q).1 (with_part a m (parts_as ps)))
    by_test true e r = ap (λ z. part z.0 z.1 (parts_as (q ∷ ps))) h
    by_test false e r =
        let j : part_place a (parts_as ps) + 1 ≡ suc (part_place a (parts_as ps)) = omega arith in
        ap (λ i. parts_as (insert (q ∷ ps) i p)) j ∙ ap (λ z. part (part_as q).0 (part_as q).1 z) r
