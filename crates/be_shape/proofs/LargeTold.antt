-- What is told of the blocks of a large leaf.
use Rattle.std.proofs.Common.{◌≡◌, ◌⊎◌, inl, inr, ℕ, ◌+◌, ◌-◌, ◌*◌, ◌/◌, ◌<◌, ◌≤◌, zero, suc, List, [], ◌∷◌, ◌++◌, length, take, drop, set, slice_get, get_or, Option, Some, None, refl, sym, ap, subst, ◌∙◌, arith}
use Rattle.std.specs.Global.{Box}
use Rattle.std.specs.List.{remove, swap_remove}
use Rattle.std.proofs.Math.Seq.{take-take, drop-drop}
use Rattle.std.proofs.lemmas.List.{drop-take, length-take, length-take-le, length-set, take-append-le, take-set-le, drop-set-lt, length-append}
use Rattle.std.proofs.lemmas.Bool.{cases_lt}
use Rattle.std.proofs.lemmas.Option.{slice_get_within}
use Rattle.be_model.specs.declared.changes.Row.{Row}
use Rattle.be_shape.specs.declared.columns.Columns.{Columns}
use Rattle.be_shape.specs.Columns.{AreColumnsOf}
use Rattle.be_shape.specs.declared.large.Large.{Large}
use Rattle.be_shape.specs.Large.{TellBlocks, AreForgotten, IsBeside, block_at}
use Rattle.be_shape.specs.Leaves.{rows_of_places}

-- a block below a place and one from a place on
pub block_below : (b m : ℕ) (ps qs : List (Option Row)) → 32 * b + 32 ≤ m → take m qs ≡ take m ps → block_at b qs ≡ block_at b ps
block_below b m ps qs l e = sym (part qs) ∙ ap (drop (32 * b)) (sym (take-take (32 * b + 32) m qs l) ∙ ap (take (32 * b + 32)) e ∙ take-take (32 * b + 32) m ps l) ∙ part ps
  where
    part : (xs : List (Option Row)) → drop (32 * b) (take (32 * b + 32) xs) ≡ block_at b xs
    part xs = drop-take (32 * b) 32 xs

pub block_from : (b m : ℕ) (ps qs : List (Option Row)) → m ≤ 32 * b → drop m qs ≡ drop m ps → block_at b qs ≡ block_at b ps
block_from b m ps qs l e = sym (part qs) ∙ ap (λ xs. take 32 (drop (32 * b - m) xs)) e ∙ part ps
  where
    sum : m + (32 * b - m) ≡ 32 * b
    sum = omega (arith, l)

    part : (xs : List (Option Row)) → take 32 (drop (32 * b - m) (drop m xs)) ≡ block_at b xs
    part xs = ap (take 32) (drop-drop (32 * b - m) m xs ∙ ap (λ n. drop n xs) sum)

-- what is told stays true where the blocks stay the same
pub told_still : (ps qs : List (Option Row)) (cs ds : List (Option (Box Columns))) → 32 * length ds ≤ length qs
    → ((b : ℕ) (c : Box Columns) → slice_get ds b ≡ Some (Some c) → (slice_get cs b ≡ Some (Some c)) × (block_at b qs ≡ block_at b ps))
    → TellBlocks ps cs → TellBlocks qs ds
told_still ps qs cs ds whole same h = record {
  whole = whole;
  told = λ b c at. let s = same b c at in subst (λ block. AreColumnsOf c.value (rows_of_places block)) (sym s.1) (h.told b c s.0);
}

-- among the first is what was among all
pub get_taken : {X : Type 0} (n : ℕ) (xs : List X) (i : ℕ) (x : X) → slice_get (take n xs) i ≡ Some x → (slice_get xs i ≡ Some x) × (i < n)
get_taken zero xs i x e = absurd (cc)
get_taken (suc n) [] i x e = absurd (cc)
get_taken (suc n) (y ∷ xs) zero x e = (e, omega arith)
get_taken (suc n) (y ∷ xs) (suc i) x e = let r = get_taken n xs i x e in (r.0, omega (arith, r.1))

-- a row more
pub told_put : (ps : List (Option Row)) (k : Option Row) (cs : List (Option (Box Columns))) → TellBlocks ps cs → TellBlocks (ps ++ k ∷ []) cs
told_put ps k cs h = told_still ps (ps ++ k ∷ []) cs cs (let w = h.whole in omega (arith, w, length-append ps (k ∷ []))) same h
  where
    same : (b : ℕ) (c : Box Columns) → slice_get cs b ≡ Some (Some c) → (slice_get cs b ≡ Some (Some c)) × (block_at b (ps ++ k ∷ []) ≡ block_at b ps)
    same b c at = (at, block_below b (length ps) ps (ps ++ k ∷ []) (let l = slice_get_within cs b (Some c) at in let w = h.whole in omega (arith, l, w)) (take-append-le (length ps) ps (k ∷ []) (omega arith)))

pub beside_put : (ps : List (Option Row)) (k : Option Row) (large : Option (Box Large)) → IsBeside ps large → IsBeside (ps ++ k ∷ []) large
beside_put ps k None h = h
beside_put ps k (Some b) h = told_put ps k b.value.columns.items h

-- nothing is told
pub told_nothing : (ps : List (Option Row)) → TellBlocks ps []
told_nothing ps = record { whole = omega arith; told = λ b c at. absurd (cc) }

-- nothing is told from a place on
pub told_below : (n : ℕ) (ps qs : List (Option Row)) (cs : List (Option (Box Columns))) → take n qs ≡ take n ps → n ≤ length qs → TellBlocks ps cs → TellBlocks qs (take (n / 32) cs)
told_below n ps qs cs e l h = told_still ps qs cs (take (n / 32) cs) (omega (arith, length-take (n / 32) cs, l)) same h
  where
    same : (b : ℕ) (c : Box Columns) → slice_get (take (n / 32) cs) b ≡ Some (Some c) → (slice_get cs b ≡ Some (Some c)) × (block_at b qs ≡ block_at b ps)
    same b c at = let r = get_taken (n / 32) cs b (Some c) at in (r.0, block_below b n ps qs (omega (arith, r.1)) e)

-- a row is taken out
pub told_taken : (i : ℕ) (ps : List (Option Row)) (cs : List (Option (Box Columns))) → i < length ps → TellBlocks ps cs → TellBlocks (remove ps i) (take (i / 32) cs)
told_taken i ps cs l h =
    let n : length (take i ps) ≡ i = length-take-le i ps (omega (arith, l)) in
    told_below i ps (remove ps i) cs (take-append-le i (take i ps) (drop (suc i) ps) (omega (arith, n)) ∙ take-take i i ps (omega arith)) (omega (arith, n, length-append (take i ps) (drop (suc i) ps))) h

-- a column that stands is none that was forgotten
pub get_unset : (cs : List (Option (Box Columns))) (i j : ℕ) (c : Box Columns) → slice_get (set cs i None) j ≡ Some (Some c) → (slice_get cs j ≡ Some (Some c)) × (j ≡ i → ⊥)
get_unset [] i j c e = absurd (cc)
get_unset (x ∷ cs) zero zero c e = absurd (cc)
get_unset (x ∷ cs) zero (suc j) c e = (e, λ f. absurd (omega (arith, f)))
get_unset (x ∷ cs) (suc i) zero c e = (e, λ f. absurd (omega (arith, f)))
get_unset (x ∷ cs) (suc i) (suc j) c e = let r = get_unset cs i j c e in (r.0, λ f. r.1 (omega (arith, f)))

pub none_forgotten : (first : ℕ) (cs : List (Option (Box Columns))) → AreForgotten first first cs cs
none_forgotten first cs = record { few = omega arith; was = λ b c at. at; outside = λ b c at from to. absurd (omega (arith, from, to)) }

pub one_forgotten : (first i : ℕ) (cs ds : List (Option (Box Columns))) → AreForgotten first i cs ds → AreForgotten first (i + 1) cs (set ds i None)
one_forgotten first i cs ds h = record {
  few = let f = h.few in omega (arith, f, length-set ds i None);
  was = λ b c at. h.was b c (get_unset ds i b c at).0;
  outside = λ b c at from to. let r = get_unset ds i b c at in by_place b c r.0 r.1 from (cases_lt b i) to;
}
  where
    by_place : (b : ℕ) (c : Box Columns) → slice_get ds b ≡ Some (Some c) → (b ≡ i → ⊥) → first ≤ b → (b < i) ⊎ (i ≤ b) → b < i + 1 → ⊥
    by_place b c at other from (inl below) to = h.outside b c at from below
    by_place b c at other from (inr past) to = other (omega (arith, past, to))

pub all_forgotten : (first i end : ℕ) (cs ds : List (Option (Box Columns))) → (end ≤ i) ⊎ (length ds ≤ i) → AreForgotten first i cs ds → AreForgotten first end cs ds
all_forgotten first i end cs ds far h = record {
  few = h.few;
  was = h.was;
  outside = λ b c at from to. h.outside b c at from (below far b c at to);
}
  where
    below : (end ≤ i) ⊎ (length ds ≤ i) → (b : ℕ) (c : Box Columns) → slice_get ds b ≡ Some (Some c) → b < end → b < i
    below (inl past) b c at to = omega (arith, past, to)
    below (inr past) b c at to = let l = slice_get_within ds b (Some c) at in omega (arith, past, l)

-- a row is taken out, and the last one comes to its place
pub told_pulled : (i : ℕ) (k : Option Row) (ps : List (Option Row)) (cs ds : List (Option (Box Columns))) → AreForgotten (i / 32) (i / 32 + 1) cs ds → TellBlocks ps cs
    → TellBlocks (swap_remove ps i k) (take (length (swap_remove ps i k) / 32) ds)
told_pulled i k ps cs ds f h = told_still ps qs cs (take (length qs / 32) ds) (omega (arith, length-take (length qs / 32) ds)) same h
  where
    n : ℕ
    n = length ps - 1

    last : Option Row
    last = get_or ps n k

    qs : List (Option Row)
    qs = swap_remove ps i k

    size : length qs ≡ n
    size = length-take-le n (set ps i last) (omega (arith, length-set ps i last))

    by_place : (b : ℕ) → 32 * b + 32 ≤ n → (first : b < i / 32 → block_at b (set ps i last) ≡ block_at b ps) → (b < i / 32) ⊎ (i / 32 ≤ b) → (i / 32 ≤ b → i / 32 + 1 ≤ b) → block_at b (set ps i last) ≡ block_at b ps
    by_place b l first (inl below) other = first below
    by_place b l first (inr from) other =
        let past = other from in block_from b (i + 1) ps (set ps i last) (omega (arith, past)) (drop-set-lt (i + 1) ps i last (omega arith))

    same : (b : ℕ) (c : Box Columns) → slice_get (take (length qs / 32) ds) b ≡ Some (Some c) → (slice_get cs b ≡ Some (Some c)) × (block_at b qs ≡ block_at b ps)
    same b c at =
        let r = get_taken (length qs / 32) ds b (Some c) at in
        let l : 32 * b + 32 ≤ n = omega (arith, r.1, size) in
        let outside = f.outside b c r.0 in
        let past : i / 32 ≤ b → i / 32 + 1 ≤ b = λ from. by_end b outside from (cases_lt b (i / 32 + 1)) in
        let front : b < i / 32 → block_at b (set ps i last) ≡ block_at b ps = λ below. block_below b i ps (set ps i last) (omega (arith, below)) (take-set-le i ps i last (omega arith)) in
        (f.was b c r.0, block_below b n (set ps i last) qs l (take-take n n (set ps i last) (omega arith)) ∙ by_place b l front (cases_lt b (i / 32)) past)
      where
        by_end : (x : ℕ) → (i / 32 ≤ x → x < i / 32 + 1 → ⊥) → i / 32 ≤ x → (x < i / 32 + 1) ⊎ (i / 32 + 1 ≤ x) → i / 32 + 1 ≤ x
        by_end x none from (inl to) = absurd (none from to)
        by_end x none from (inr far) = far

-- a window is put in order
pub told_sorted : (w to : ℕ) (ps qs : List (Option Row)) (cs ds : List (Option (Box Columns))) → AreForgotten (w * 16) (w * 16 + 16) cs ds
    → take (w * 512) qs ≡ take (w * 512) ps → drop to qs ≡ drop to ps → length qs ≡ length ps → to ≤ w * 512 + 512 → TellBlocks ps cs → TellBlocks qs ds
told_sorted w to ps qs cs ds f before after size far h = told_still ps qs cs ds (let few = f.few in let w = h.whole in omega (arith, few, w, size)) same h
  where
    by_place : (b : ℕ) → (w * 16 ≤ b → b < w * 16 + 16 → ⊥) → (b < w * 16) ⊎ (w * 16 ≤ b) → (b < w * 16 + 16) ⊎ (w * 16 + 16 ≤ b) → block_at b qs ≡ block_at b ps
    by_place b none (inl below) at = block_below b (w * 512) ps qs (omega (arith, below)) before
    by_place b none (inr from) (inl to_end) = absurd (none from to_end)
    by_place b none (inr from) (inr past) = block_from b to ps qs (omega (arith, past, far)) after

    same : (b : ℕ) (c : Box Columns) → slice_get ds b ≡ Some (Some c) → (slice_get cs b ≡ Some (Some c)) × (block_at b qs ≡ block_at b ps)
    same b c at = (f.was b c at, by_place b (f.outside b c at) (cases_lt b (w * 16)) (cases_lt b (w * 16 + 16)))

-- room for a block more
pub get_appended : (cs : List (Option (Box Columns))) (b : ℕ) (c : Box Columns) → slice_get (cs ++ None ∷ []) b ≡ Some (Some c) → slice_get cs b ≡ Some (Some c)
get_appended [] zero c e = absurd (cc)
get_appended [] (suc b) c e = absurd (cc)
get_appended (x ∷ cs) zero c e = e
get_appended (x ∷ cs) (suc b) c e = get_appended cs b c e

pub told_room : (ps : List (Option Row)) (cs : List (Option (Box Columns))) → 32 * (length cs + 1) ≤ length ps → TellBlocks ps cs → TellBlocks ps (cs ++ None ∷ [])
told_room ps cs l h = told_still ps ps cs (cs ++ None ∷ []) (omega (arith, l, length-append cs (None ∷ []))) (λ b c at. (get_appended cs b c at, refl)) h

-- a block is told of
pub get_set : (cs : List (Option (Box Columns))) (i j : ℕ) (c d : Box Columns) → slice_get (set cs i (Some c)) j ≡ Some (Some d) → (slice_get cs j ≡ Some (Some d)) ⊎ ((j ≡ i) × (c ≡ d))
get_set [] i j c d e = inl e
get_set (x ∷ cs) zero zero c d e = inr (refl, cc)
get_set (x ∷ cs) zero (suc j) c d e = inl e
get_set (x ∷ cs) (suc i) zero c d e = inl e
get_set (x ∷ cs) (suc i) (suc j) c d e = next (get_set cs i j c d e)
  where
    next : (slice_get cs j ≡ Some (Some d)) ⊎ ((j ≡ i) × (c ≡ d)) → (slice_get cs j ≡ Some (Some d)) ⊎ ((suc j ≡ suc i) × (c ≡ d))
    next (inl at) = inl at
    next (inr same) = inr (ap (λ n. suc n) same.0, same.1)

pub told_more : (ps : List (Option Row)) (cs : List (Option (Box Columns))) (i : ℕ) (c : Box Columns) → AreColumnsOf c.value (rows_of_places (block_at i ps)) → TellBlocks ps cs → TellBlocks ps (set cs i (Some c))
told_more ps cs i c is h = record {
  whole = let w = h.whole in omega (arith, w, length-set cs i (Some c));
  told = λ b d at. by_place b d (get_set cs i b c d at);
}
  where
    by_place : (b : ℕ) (d : Box Columns) → (slice_get cs b ≡ Some (Some d)) ⊎ ((b ≡ i) × (c ≡ d)) → AreColumnsOf d.value (rows_of_places (block_at b ps))
    by_place b d (inl at) = h.told b d at
    by_place b d (inr same) = subst (λ n. AreColumnsOf d.value (rows_of_places (block_at n ps))) (sym same.0) (subst (λ x. AreColumnsOf x.value (rows_of_places (block_at i ps))) same.1 is)

-- the block as a slice of its first place and the one after its last
pub block_is : (b : ℕ) (ps : List (Option Row)) → take (b * 32 + 32 - b * 32) (drop (b * 32) ps) ≡ block_at b ps
block_is b ps =
    let size : b * 32 + 32 - b * 32 ≡ 32 = omega arith in
    let from : b * 32 ≡ 32 * b = omega arith in
    ap (λ n. take n (drop (b * 32) ps)) size ∙ ap (λ n. take 32 (drop n ps)) from
