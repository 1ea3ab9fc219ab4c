-- What one read leaves in the buffer.
use Rattle.std.proofs.Common.{◌≡◌, ℕ, ◌+◌, ◌-◌, ◌≤◌, List, [], ◌++◌, length, take, drop, Option, Some, None, sym, ap, ◌∙◌, arith, length-append}
use Rattle.std.proofs.lemmas.List.{take-append-drop, take-append-le, take-take}
use Rattle.std.proofs.Math.Seq.{take-append-add}
use Rattle.be_io.specs.Told.{GivesBytes, WhereTold}

-- what a source gave is the front of what it had left
pub WhereTold-from_read : (before after : Option (List ℕ)) (buf : List ℕ) (k : ℕ) → GivesBytes before after buf k → WhereTold before after (λ left rest. (left ≡ take k buf ++ rest) × (k ≡ 0 → rest ≡ []))
WhereTold-from_read None None buf k gives = tt
WhereTold-from_read None (Some rest) buf k gives = let wrong = gives.1 in cc
WhereTold-from_read (Some left) None buf k gives = let wrong = gives.1 in cc
WhereTold-from_read (Some left) (Some rest) buf k gives =
    let is : rest ≡ drop k left = cc in
    let same : take k buf ≡ take k left = gives.2.1 in (
      rw is (rw same (sym (take-append-drop k left))),
      λ none. is ∙ ap (λ n. drop n left) none ∙ gives.2.2 none,
    )

-- the first bytes of a buffer of which a part behind them was written
pub take-written : (front part behind : List ℕ) (k : ℕ) → k ≤ length part → take (length front + k) (front ++ (part ++ behind)) ≡ front ++ take k part
take-written front part behind k within =
    take-append-add front (part ++ behind) k ∙ ap (λ p. front ++ p) (take-append-le k part behind within)

-- so many unread bytes, and behind them what one read gave
pub unread-after_read : (unread part behind old : List ℕ) (kept k room : ℕ) → length unread ≡ kept → k ≤ length part → kept + k ≤ room → take (kept + k - 0) (take room (unread ++ (part ++ behind) ++ old)) ≡ unread ++ take k part
unread-after_read unread part behind old kept k room kept_is within fits =
    let whole : List ℕ = unread ++ (part ++ behind) in
    let short : kept + k ≤ length whole = omega (arith, length-append unread (part ++ behind), length-append part behind) in
    let plain : kept + k - 0 ≡ kept + k = omega arith in
    ap (λ n. take n (take room (whole ++ old))) plain ∙ take-take (kept + k) room (whole ++ old) fits ∙ take-append-le (kept + k) whole old short ∙ ap (λ n. take (n + k) whole) (sym kept_is) ∙ take-written unread part behind k within
