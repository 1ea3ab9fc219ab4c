-- A name's bytes give back the array that they are kept in.
use Rattle.std.proofs.Common.{◌≡◌, ℕ, ◌-◌, ◌≤◌, List, ◌++◌, length, take, drop, sym, ◌∙◌, ap, subst}
use Rattle.std.proofs.Math.ListN.{replicate}
use Rattle.be_base.specs.declared.limits.TheConstants.{NAME_BYTES}
use Rattle.std.proofs.lemmas.List.{take-append-drop, length-take-le}

pub length_kept : (len : ℕ) (bytes : List ℕ) → len ≤ NAME_BYTES → length bytes ≡ NAME_BYTES → length (take len bytes) ≡ len
length_kept len bytes within whole = length-take-le len bytes (subst (λ (n : ℕ). len ≤ n) (sym whole) within)

-- the bytes in use, and 0 in the unused places
pub padded : (len : ℕ) (bytes : List ℕ) → len ≤ NAME_BYTES → length bytes ≡ NAME_BYTES → drop len bytes ≡ replicate (NAME_BYTES - len) 0
    → take len bytes ++ replicate (NAME_BYTES - length (take len bytes)) 0 ≡ bytes
padded len bytes within whole rest =
    ap (λ (n : ℕ). take len bytes ++ replicate (NAME_BYTES - n) 0) (length_kept len bytes within whole)
    ∙ ap (λ (unused : List ℕ). take len bytes ++ unused) (sym rest)
    ∙ take-append-drop len bytes
