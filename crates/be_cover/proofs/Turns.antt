-- One turn of the walks over numbers.
use Rattle.std.proofs.Common.{◌≡◌, ℕ, ◌+◌, ◌<◌, ℤ, pos, ◌+ℤ◌, ◌-ℤ◌, ◌≤ℤ◌, true, false, not, List, ◌++◌, length, get_or, drop, sym, ap, ◌∙◌, append_assoc, arith}
use Rattle.std.proofs.lemmas.List.{at_drop_more}
use Rattle.std.proofs.lemmas.Bool.{cond-true, cond-false, not-true, not-false}
use Rattle.std.proofs.lemmas.Int.{ints}
use Rattle.be_model.specs.Domains.{Range, is_within}
use Rattle.be_cover.specs.Pieces.{whole, gaps, run_after, run_ended, runs}

abbrev number : List ℤ → ℕ → ℤ
number xs i = get_or xs i (pos 0)

pub gaps_cut : (xs : List ℤ) (i : ℕ) (r : Range) → i < length xs → not (is_within r (number xs i)) ≡ false
    → gaps (drop i xs) r ≡ whole (r.0, number xs i -ℤ pos 1) ++ gaps (drop (i + 1) xs) (number xs i +ℤ pos 1, r.1)
gaps_cut xs i r h k =
    at_drop_more (λ ys. gaps ys r) xs i (pos 0) h
    ∙ cond-true (is_within r (number xs i)) (whole (r.0, number xs i -ℤ pos 1) ++ gaps (drop (i + 1) xs) (number xs i +ℤ pos 1, r.1)) (gaps (drop (i + 1) xs) r) (not-false (is_within r (number xs i)) k)

pub runs_go_on : (xs : List ℤ) (i : ℕ) (r run : Range) → i < length xs → not (is_within r (number xs i)) ≡ false
    → runs (drop i xs) r run ≡ run_ended run (number xs i) ++ runs (drop (i + 1) xs) r (run_after run (number xs i))
runs_go_on xs i r run h k =
    at_drop_more (λ ys. runs ys r run) xs i (pos 0) h
    ∙ cond-true (is_within r (number xs i)) (run_ended run (number xs i) ++ runs (drop (i + 1) xs) r (run_after run (number xs i))) (runs (drop (i + 1) xs) r run) (not-false (is_within r (number xs i)) k)

pub runs_pass : (xs : List ℤ) (i : ℕ) (r run : Range) → i < length xs → not (is_within r (number xs i)) ≡ true → runs (drop i xs) r run ≡ runs (drop (i + 1) xs) r run
runs_pass xs i r run h k =
    at_drop_more (λ ys. runs ys r run) xs i (pos 0) h
    ∙ cond-false (is_within r (number xs i)) (run_ended run (number xs i) ++ runs (drop (i + 1) xs) r (run_after run (number xs i))) (runs (drop (i + 1) xs) r run) (not-true (is_within r (number xs i)) k)

pub ends_of_inside : (r : Range) (x : ℤ) → not (is_within r x) ≡ false → (r.0 ≤ℤ x) × (x ≤ℤ r.1)
ends_of_inside r x h = (grind (arith, ints), grind (arith, ints))

-- where a part was put, the walk goes on behind it
pub gaps_put : (xs : List ℤ) (i : ℕ) (r : Range) (out next : List Range) (a b c d : ℤ) → i < length xs → not (is_within r (number xs i)) ≡ false
    → a ≡ r.0 → b ≡ number xs i -ℤ pos 1 → c ≡ number xs i +ℤ pos 1 → d ≡ r.1 → next ≡ out ++ whole (a, b) → next ++ gaps (drop (i + 1) xs) (c, d) ≡ out ++ gaps (drop i xs) r
gaps_put xs i r out next a b c d h k e f g l put =
    let cut = gaps_cut xs i r h k in
    let rest = gaps (drop (i + 1) xs) (number xs i +ℤ pos 1, r.1) in
    let low = whole (r.0, number xs i -ℤ pos 1) in
    ap (λ ys. ys ++ gaps (drop (i + 1) xs) (c, d)) (put ∙ ap (λ z. out ++ whole (z, b)) e ∙ ap (λ z. out ++ whole (r.0, z)) f)
    ∙ ap (λ z. (out ++ low) ++ gaps (drop (i + 1) xs) (z, d)) g
    ∙ ap (λ z. (out ++ low) ++ gaps (drop (i + 1) xs) (number xs i +ℤ pos 1, z)) l
    ∙ append_assoc out low rest
    ∙ ap (λ ys. out ++ ys) (sym cut)

pub runs_put : (xs : List ℤ) (i : ℕ) (r run after : Range) (out next : List Range) (x : ℤ) → i < length xs → not (is_within r (number xs i)) ≡ false
    → x ≡ number xs i → after ≡ run_after run x → next ≡ out ++ run_ended run x → next ++ runs (drop (i + 1) xs) r after ≡ out ++ runs (drop i xs) r run
runs_put xs i r run after out next x h k e f put =
    let ended = run_ended run (number xs i) in
    let rest = runs (drop (i + 1) xs) r (run_after run (number xs i)) in
    ap (λ ys. ys ++ runs (drop (i + 1) xs) r after) (put ∙ ap (λ z. out ++ run_ended run z) e)
    ∙ ap (λ q. (out ++ ended) ++ runs (drop (i + 1) xs) r q) (f ∙ ap (run_after run) e)
    ∙ append_assoc out ended rest
    ∙ ap (λ ys. out ++ ys) (sym (runs_go_on xs i r run h k))
