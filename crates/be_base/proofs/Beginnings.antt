-- What a list begins with.
use Rattle.std.proofs.Common.{◌≡◌, ℕ, ◌≤◌, List, [], ◌++◌, length, take, drop, refl, sym, ap, ◌∙◌, arith, append_assoc, length-append}
use Rattle.std.proofs.lemmas.List.{append-nil, nil_from_length, take-append-drop, take-append-le}
use Rattle.std.proofs.Math.Seq.{take-append_seam}
use Rattle.be_base.specs.Lists.{BeginsWith}

pub BeginsWith-same : {X : Type 0} (xs : List X) → BeginsWith xs xs
BeginsWith-same xs = ([], sym (append-nil xs))

pub BeginsWith-append : {X : Type 0} (xs more : List X) → BeginsWith (xs ++ more) xs
BeginsWith-append xs more = (more, refl)

-- the beginning of a beginning
pub BeginsWith-along : {X : Type 0} (a b c : List X) → BeginsWith a b → BeginsWith b c → BeginsWith a c
BeginsWith-along a b c s t = (t.0 ++ s.0, s.1 ∙ ap (λ l. l ++ s.0) t.1 ∙ append_assoc c t.0 s.0)

pub BeginsWith-length : {X : Type 0} (all front : List X) → BeginsWith all front → length front ≤ length all
BeginsWith-length all front s = omega (arith, ap length s.1, length-append front s.0)

-- what a list begins with is its first items
pub BeginsWith-take : {X : Type 0} (all front : List X) → BeginsWith all front → take (length front) all ≡ front
BeginsWith-take all front s = ap (λ l. take (length front) l) s.1 ∙ take-append_seam front s.0

pub take-BeginsWith : {X : Type 0} (n : ℕ) (xs : List X) → BeginsWith xs (take n xs)
take-BeginsWith n xs = (drop n xs, sym (take-append-drop n xs))

-- of two beginnings of one list the shorter begins the longer
pub BeginsWith-shorter : {X : Type 0} (all a b : List X) → BeginsWith all a → BeginsWith all b → length a ≤ length b → BeginsWith b a
BeginsWith-shorter all a b s t short =
    let first : take (length a) b ≡ a =
    sym (ap (λ l. take (length a) l) t.1 ∙ take-append-le (length a) b t.0 short) ∙ BeginsWith-take all a s in
    (drop (length a) b, sym (ap (λ l. l ++ drop (length a) b) (sym first) ∙ take-append-drop (length a) b))

-- a beginning that is as long as the list is the list
pub BeginsWith-whole : {X : Type 0} (all front : List X) → BeginsWith all front → length all ≤ length front → front ≡ all
BeginsWith-whole all front s long =
    let none : length s.0 ≡ 0 = omega (arith, ap length s.1, length-append front s.0) in
    sym (s.1 ∙ ap (λ l. front ++ l) (nil_from_length s.0 none) ∙ append-nil front)
