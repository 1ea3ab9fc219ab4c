-- What a gathering sink holds after a part of its bytes was handed on.
use Rattle.std.proofs.Common.{◌≡◌, ℕ, ◌+◌, ◌-◌, List, ◌++◌, length, take, drop, Option, Some, None, sym, ap, ◌∙◌, append_assoc}
use Rattle.std.proofs.lemmas.List.{take_rest, take-append-drop, drop-drop}
use Rattle.be_io.specs.Told.{HoldsMore}
use Rattle.be_io.specs.Gathered.{with_kept}

-- the next k bytes were handed on
pub with_kept-handed : (before after : Option (List ℕ)) (bytes : List ℕ) (n k : ℕ) → HoldsMore before after (take k (take (length bytes - n) (drop n bytes))) → with_kept after (drop (n + k) bytes) ≡ with_kept before (drop n bytes)
with_kept-handed None after bytes n k held = ap (λ a. with_kept a (drop (n + k) bytes)) held
with_kept-handed (Some h) after bytes n k held =
    let part : List ℕ = take k (take (length bytes - n) (drop n bytes)) in
    let first : part ≡ take k (drop n bytes) = ap (take k) (take_rest bytes n) in
    let rest : drop (n + k) bytes ≡ drop k (drop n bytes) = sym (drop-drop k n bytes) in
    ap (λ a. with_kept a (drop (n + k) bytes)) held
    ∙ ap Some (append_assoc h part (drop (n + k) bytes) ∙ ap (λ l. h ++ l) (ap (λ l. part ++ l) rest ∙ ap (λ l. l ++ drop k (drop n bytes)) first ∙ take-append-drop k (drop n bytes)))
