-- What one more count adds.
use Rattle.std.proofs.Common.{◌≡◌, ℕ, suc, zero, ◌+◌, ◌≤◌, ◌++◌, ◌∷◌, List, [], length, All, sym, ap, subst, ◌∙◌, append_assoc, arith}
use Rattle.std.proofs.lemmas.List.{length-append}
use Rattle.std.proofs.lemmas.List.Sums.{sum_by-cons}
use Rattle.std.proofs.lemmas.List.Concat.{flat_map-cons}
use Rattle.be_base.specs.Counts.{raised, last_count}
use Rattle.be_base.specs.declared.names.SessionNo.{SessionNo}
use Rattle.be_door.specs.declared.sums.Sums.{Sums}
use Rattle.be_door.specs.Sums.{plus}
use Rattle.be_door.specs.Counts.{CountState, sums_of, with_counts, all_kept}

added : (a b c d : ℕ) → d ≡ b + c → a + b + c ≡ a + d
added a b c d e = omega arith

raised_on : (a b c d : ℕ) → d ≡ b + c → raised c (raised b a) ≡ raised d a
raised_on a b c d e = omega arith

module _ (L : Type 0) where
  with_cons : (sums : Sums) (count : CountState L) (counts : List (CountState L)) → with_counts (plus sums (sums_of count)) counts ≡ with_counts sums (count ∷ counts)
  with_cons sums count counts =
      let given = added sums.given count.given _ _ (sum_by-cons (λ (c : CountState L). c.given) count counts) in
      let back = added sums.back count.back _ _ (sum_by-cons (λ (c : CountState L). c.back) count counts) in
      let failed = added sums.failed count.failed _ _ (sum_by-cons (λ (c : CountState L). c.failed) count counts) in
      let refused = added sums.refused count.refused _ _ (sum_by-cons (λ (c : CountState L). c.refused) count counts) in
      let reads = raised_on sums.read_faults count.read_faults _ _ (sum_by-cons (λ (c : CountState L). c.read_faults) count counts) in
      let writes = raised_on sums.write_faults count.write_faults _ _ (sum_by-cons (λ (c : CountState L). c.write_faults) count counts) in
      cc

  none_more : (given back failed refused reads writes most : ℕ) → reads ≤ last_count → writes ≤ last_count
      → with_counts {L = L} (record { given = given; back = back; failed = failed; refused = refused; read_faults = reads; write_faults = writes; most = most }) []
      ≡ record { given = given; back = back; failed = failed; refused = refused; read_faults = reads; write_faults = writes; most = most }
  none_more given back failed refused reads writes most few_reads few_writes =
      let g : given + 0 ≡ given = omega arith in
      let b : back + 0 ≡ back = omega arith in
      let f : failed + 0 ≡ failed = omega arith in
      let r : refused + 0 ≡ refused = omega arith in
      let x : raised 0 reads ≡ reads = omega arith in
      let y : raised 0 writes ≡ writes = omega arith in
      cc

  -- no count is left
  pub with_none : (sums : Sums) → sums.read_faults ≤ last_count → sums.write_faults ≤ last_count → with_counts {L = L} sums [] ≡ sums
  with_none sums = none_more sums.given sums.back sums.failed sums.refused sums.read_faults sums.write_faults sums.most

  module _ (all rest : List (CountState L)) (count : CountState L) (is : all ≡ count ∷ rest) where
    pub sums_on : (sums own : Sums) → own ≡ sums_of count → with_counts (plus sums own) rest ≡ with_counts sums all
    sums_on sums own same = ap (λ o. with_counts (plus sums o) rest) same ∙ with_cons sums count rest ∙ ap (with_counts sums) (sym is)

    kept_of : all_kept all ≡ count.kept ++ all_kept rest
    kept_of = ap all_kept is ∙ flat_map-cons (λ (c : CountState L). c.kept) count rest

    pub kept_on : (links own : List (SessionNo × L)) → own ≡ count.kept → (links ++ own) ++ all_kept rest ≡ links ++ all_kept all
    kept_on links own same = append_assoc links own (all_kept rest) ∙ ap (λ o. links ++ (o ++ all_kept rest)) same ∙ ap (λ xs. links ++ xs) (sym kept_of)

    pub room_on : (own : List (SessionNo × L)) (before after : ℕ) → own ≡ count.kept → length (all_kept all) ≤ before → before ≤ after + length own → length (all_kept rest) ≤ after
    room_on own before after same room less = omega (arith, ap length same, ap length kept_of, length-append count.kept (all_kept rest))

    pub first_is : (P : CountState L → Type 0) → All P all → P count
    first_is P h = subst (λ xs. All P xs) is h zero count (omega arith)

    pub rest_is : (P : CountState L → Type 0) → All P all → All P rest
    rest_is P h k d less = subst (λ xs. All P xs) is h (suc k) d (omega arith)
