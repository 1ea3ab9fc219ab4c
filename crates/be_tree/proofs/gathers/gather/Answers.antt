use Rattle.std.proofs.Common.{◌<◌, sym, subst}
use Rattle.std.proofs.lemmas.List.Sorted.{IsPermutation-sym, length_permutation}
use Rattle.be_model.specs.ByIds.{rows_of}
use Rattle.be_model.proofs.RowsByIds.{filter_permuted}
use Rattle.be_shape.specs.Plain.{plain, rows_below, contents}
use Rattle.be_tree.specs.Gathered.{is_wanted, wanted}
use Rattle.be_tree.proofs.gathers.gather.Goals as goal

pub returns-in-Ok-clause-found : goal.returns-in-Ok-clause-found
returns-in-Ok-clause-found c =
    let k = c.args.session in
    let n = plain c.args.t.now.root in
    record {
      found = wanted k (rows_below n);
      put = c.in-Ok.ensures.put;
      exact = IsPermutation-sym (wanted k (rows_below n)) (wanted k (rows_of (contents n))) (filter_permuted (is_wanted k) (rows_below n));
    }

pub returns-in-Err-clause-some : goal.returns-in-Err-clause-some
returns-in-Err-clause-some c =
    let k = c.args.session in
    let n = plain c.args.t.now.root in
    subst (λ l. 0 < l) (sym (length_permutation (wanted k (rows_below n)) (wanted k (rows_of (contents n))) (filter_permuted (is_wanted k) (rows_below n)))) c.in-Err.ensures.refused
