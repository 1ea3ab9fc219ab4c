-- A node in the place of another: what is at the end of a path then, and what is the same.
use Rattle.std.proofs.Common.{◌≡◌, ◌<◌, ℕ, suc, Bool, true, false, cond, eqb, ◌+◌, List, [], ◌∷◌, length, get_or, Option, Some, None, option_map, option_and_then, refl, sym, ap, ◌∙◌, subst, arith}
use Rattle.std.specs.List.{slice_set}
use Rattle.be_base.specs.declared.names.AttrNo.{AttrNo}
use Rattle.be_model.specs.declared.paths.Hop.{Hop}
use Rattle.be_shape.specs.declared.nodes.Part.{Part as PartOf}
use Rattle.be_shape.specs.Plain.{Plain, Parts, no_part, part, part_as, parts_as}
use Rattle.be_shape.specs.Paths.{part_on, child, walk}
use Rattle.be_shape.specs.Steps.{other_part, other_child, change_child, replaced}
use Rattle.be_shape.specs.Swaps.{place_on}

-- the part at its place
pub record Found (ps : List PartOf) (i : ℕ) (a : AttrNo) : Type 0 where
  pub within : i < length ps
  pub here : (q : PartOf) → q ≡ get_or ps i q → part_on a (parts_as ps) ≡ Some (part_as q).1
  pub set : (p q : PartOf) (o : Plain) → q ≡ get_or ps i q → part_as p ≡ ((part_as q).0, o) → parts_as (slice_set ps i p) ≡ other_part a o (parts_as ps)

less : (i : ℕ) (o : Option ℕ) → option_map (λ j. j + 1) o ≡ Some i → (j : ℕ) × (o ≡ Some j) × (i ≡ suc j)
less i None h = absurd (cc)
less i (Some j) h = let e : j + 1 ≡ i = cc in (j, refl, omega (arith, e))

pub found : (ps : List PartOf) (i : ℕ) (a : AttrNo) → place_on a (parts_as ps) ≡ Some i → Found ps i a
found [] i a h = absurd (cc)
found (r ∷ ps) i a h = by_test (eqb (part_as r).0.0 a.0) refl h (λ j e. found ps j a e)
  where
    by_test : (t : Bool) → eqb (part_as r).0.0 a.0 ≡ t → cond t (Some 0) (option_map (λ j. j + 1) (place_on a (parts_as ps))) ≡ Some i → ((j : ℕ) → place_on a (parts_as ps) ≡ Some j → Found ps j a) → Found (r ∷ ps) i a
    by_test true t e more =
        let z : 0 ≡ i = cc in
        let root = (part_as r).1 in
        let rest = parts_as ps in
        subst (λ j. Found (r ∷ ps) j a) z
        (record {
          within = omega arith;
          here = λ q w. ap (λ b. cond b (Some root) (part_on a rest)) t ∙ ap (λ y. Some (part_as y).1) (sym w);
          set = λ p q o w v. ap (λ y. part y.0 y.1 rest) v ∙ ap (λ y. part (part_as y).0 o rest) w ∙ sym (ap (λ b. cond b (part (part_as r).0 o rest) (part (part_as r).0 root (other_part a o rest))) t);
        })
    by_test false t e more =
        let l = less i (place_on a (parts_as ps)) e in
        let f = more l.0 l.1 in
        let root = (part_as r).1 in
        let rest = parts_as ps in
        subst (λ j. Found (r ∷ ps) j a) (sym l.2)
        (record {
          within = let w = f.within in omega arith;
          here = λ q w. ap (λ b. cond b (Some root) (part_on a rest)) t ∙ f.here q w;
          set = λ p q o w v. ap (part (part_as r).0 root) (f.set p q o w v) ∙ sym (ap (λ b. cond b (part (part_as r).0 o rest) (part (part_as r).0 root (other_part a o rest))) t);
        })

pub missing : (parts : Parts) (a : AttrNo) → place_on a parts ≡ None → part_on a parts ≡ None
missing no_part a h = refl
missing (part b root more) a h = by_test (eqb b.0 a.0) h (missing more a)
  where
    none : (o : Option ℕ) → option_map (λ j. j + 1) o ≡ None → o ≡ None
    none None e = refl
    none (Some j) e = absurd (cc)

    by_test : (t : Bool) → cond t (Some 0) (option_map (λ j. j + 1) (place_on a more)) ≡ None → (place_on a more ≡ None → part_on a more ≡ None) → cond t (Some root) (part_on a more) ≡ None
    by_test true e f = absurd (cc)
    by_test false e f = f (none (place_on a more) e)

-- a path by its first step
pub walk_first : (hops rest : List Hop) (hop : Hop) (n m : Plain) → hops ≡ hop ∷ rest → child hop n ≡ Some m → walk hops n ≡ walk rest m
walk_first hops rest hop n m e h = ap (λ hs. walk hs n) e ∙ ap (option_and_then (walk rest)) h

pub walk_none : (hops rest : List Hop) (hop : Hop) (n : Plain) → hops ≡ hop ∷ rest → child hop n ≡ None → walk hops n ≡ None
walk_none hops rest hop n e h = ap (λ hs. walk hs n) e ∙ ap (option_and_then (walk rest)) h

pub put_first : (hops rest : List Hop) (hop : Hop) (n m o : Plain) → hops ≡ hop ∷ rest → child hop n ≡ Some m → replaced hops o n ≡ other_child hop (replaced rest o m) n
put_first hops rest hop n m o e h = ap (λ hs. replaced hs o n) e ∙ ap (λ x. change_child hop (replaced rest o) x n) h

pub put_none : (hops rest : List Hop) (hop : Hop) (n o : Plain) → hops ≡ hop ∷ rest → child hop n ≡ None → replaced hops o n ≡ n
put_none hops rest hop n o e h = ap (λ hs. replaced hs o n) e ∙ ap (λ x. change_child hop (replaced rest o) x n) h
