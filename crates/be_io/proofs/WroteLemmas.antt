-- Texts that are written in two pieces.
use Rattle.std.proofs.Common.{ℕ, ◌+◌, ◌<◌, List, ◌++◌, length, get_or, take, drop, Result, Ok, Err, sym, ap, ◌∙◌, subst, arith, append_assoc, length-append}
use Rattle.std.specs.List.{flat_map}
use Rattle.std.proofs.lemmas.Grind.{flat_map-append}
use Rattle.std.proofs.lemmas.List.{take-append-le, take-append-drop, take_more, flat_map_more}
use Rattle.std.proofs.Math.Seq.{take-append-add}
use Rattle.be_io.specs.Counts.{HasRisen}
use Rattle.be_io.specs.Told.{HoldsMore}
use Rattle.be_io.specs.Sink.{SinkState, TookPart, Wrote}
use Rattle.be_io.specs.declared.faults.SinkFault.{SinkFault}
use Rattle.be_io.specs.declared.faults.SinkFault.TheVariants.{Failed, NoMemory}
use Rattle.be_io.proofs.ToldLemmas.{HoldsMore-append}

TookPart-append : (before middle after : SinkState) (front back : List ℕ) → HoldsMore before.held middle.held front → TookPart middle after back → TookPart before after (front ++ back)
TookPart-append before middle after front back first (k, fewer, second) = (
  length front + k,
  omega (arith, fewer, length-append front back),
  rw (take-append-add front back k) (HoldsMore-append before.held middle.held after.held front (take k back) first second),
)

TookPart-more : (before after : SinkState) (front back : List ℕ) → TookPart before after front → TookPart before after (front ++ back)
TookPart-more before after front back (k, fewer, held) = (
  k,
  omega (arith, fewer, length-append front back),
  rw (take-append-le k front back (omega (arith, fewer))) held,
)

-- a front that was written, and what was written behind it
pub Wrote-append : (before middle after : SinkState) (front back : List ℕ) (result : Result (Unit {0}) SinkFault)
    → Wrote before middle front (Ok tt) → Wrote middle after back result → Wrote before after (front ++ back) result
Wrote-append before middle after front back (Ok u) (held, faults, refusals) (more, faults2, refusals2) =
    (HoldsMore-append before.held middle.held after.held front back held more, faults2 ∙ faults, refusals2 ∙ refusals)
Wrote-append before middle after front back (Err Failed) (held, faults, refusals) (part, risen, refusals2) =
    (TookPart-append before middle after front back held part, subst (λ (n : ℕ). HasRisen n after.faults) faults risen, refusals2 ∙ refusals)
Wrote-append before middle after front back (Err NoMemory) (held, faults, refusals) (part, risen, faults2) =
    (TookPart-append before middle after front back held part, subst (λ (n : ℕ). HasRisen n after.refusals) refusals risen, faults2 ∙ faults)

-- where the front was refused, nothing more of the text was written
pub Wrote-cut : (before after : SinkState) (front back : List ℕ) (fault : SinkFault) → Wrote before after front (Err fault) → Wrote before after (front ++ back) (Err fault)
Wrote-cut before after front back Failed (part, risen, same) = (TookPart-more before after front back part, risen, same)
Wrote-cut before after front back NoMemory (part, risen, same) = (TookPart-more before after front back part, risen, same)

-- both, where the back is refused and still more would follow
pub Wrote-cut_behind : (before middle after : SinkState) (front back more : List ℕ) (fault : SinkFault)
    → Wrote before middle front (Ok tt) → Wrote middle after back (Err fault) → Wrote before after ((front ++ back) ++ more) (Err fault)
Wrote-cut_behind before middle after front back more fault first second =
    Wrote-cut before after (front ++ back) more fault (Wrote-append before middle after front back (Err fault) first second)

-- the next of many pieces
pub Wrote-next : {X : Type 0} (f : X → List ℕ) (xs : List X) (i : ℕ) (d : X) (start : List ℕ) (before now after : SinkState) → i < length xs
    → Wrote before now (start ++ flat_map f (take i xs)) (Ok tt) → Wrote now after (f (get_or xs i d)) (Ok tt) → Wrote before after (start ++ flat_map f (take (i + 1) xs)) (Ok tt)
Wrote-next f xs i d start before now after h first second =
    subst (λ text. Wrote before after text (Ok tt)) (flat_map_more f start (take i xs) (get_or xs i d) ∙ ap (λ ys. start ++ flat_map f ys) (sym (take_more xs i d h)))
    (Wrote-append before now after (start ++ flat_map f (take i xs)) (f (get_or xs i d)) (Ok tt) first second)

-- one of many pieces that is refused
pub Wrote-stopped : {X : Type 0} (f : X → List ℕ) (xs : List X) (i : ℕ) (d : X) (start : List ℕ) (before now after : SinkState) (fault : SinkFault) → i < length xs
    → Wrote before now (start ++ flat_map f (take i xs)) (Ok tt) → Wrote now after (f (get_or xs i d)) (Err fault) → Wrote before after (start ++ flat_map f xs) (Err fault)
Wrote-stopped f xs i d start before now after fault h first second =
    let rest : List ℕ = flat_map f (drop (i + 1) xs) in
    subst (λ text. Wrote before after text (Err fault))
    (ap (λ text. text ++ rest) (flat_map_more f start (take i xs) (get_or xs i d) ∙ ap (λ ys. start ++ flat_map f ys) (sym (take_more xs i d h)))
    ∙ append_assoc start (flat_map f (take (i + 1) xs)) rest
    ∙ ap (λ text. start ++ text) (sym (flat_map-append f (take (i + 1) xs) (drop (i + 1) xs)) ∙ ap (flat_map f) (take-append-drop (i + 1) xs)))
    (Wrote-cut_behind before now after (start ++ flat_map f (take i xs)) (f (get_or xs i d)) rest fault first second)
