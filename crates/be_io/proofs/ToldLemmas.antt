-- Laws of what sinks tell.
use Rattle.std.proofs.Common.{ℕ, ◌+◌, ◌-◌, List, [], ◌++◌, length, take, drop, Option, Some, None, refl, sym, ap, ◌∙◌, append_assoc}
use Rattle.std.proofs.lemmas.List.{append-nil, take_rest}
use Rattle.std.proofs.Math.Seq.{take-add}
use Rattle.be_io.specs.Told.{HoldsMore}

-- nothing was added
pub HoldsMore-nil : (held : Option (List ℕ)) → HoldsMore held held []
HoldsMore-nil None = refl
HoldsMore-nil (Some held) = ap Some (sym (append-nil held))

-- added in two parts
pub HoldsMore-append : (before middle after : Option (List ℕ)) (front back : List ℕ) → HoldsMore before middle front → HoldsMore middle after back → HoldsMore before after (front ++ back)
HoldsMore-append None middle after front back first second = rw first at second
HoldsMore-append (Some held) middle after front back first second =
    (rw first at second) ∙ ap Some (append_assoc held front back)

-- the first n bytes, and then the next k, are the first n + k
pub HoldsMore-take : (before middle after : Option (List ℕ)) (bytes : List ℕ) (n k : ℕ) → HoldsMore before middle (take n bytes) → HoldsMore middle after (take k (take (length bytes - n) (drop n bytes))) → HoldsMore before after (take (n + k) bytes)
HoldsMore-take before middle after bytes n k first second =
    rw (take-add n k bytes) (HoldsMore-append before middle after (take n bytes) (take k (drop n bytes)) first (rw (take_rest bytes n) at second))
