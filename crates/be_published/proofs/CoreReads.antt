-- A read of a glass, as an act of the core.
use Rattle.std.proofs.Common.{◌≡◌, ℕ, ◌≤◌, Bool, true, false, not, ◌&&◌, List, length, take, cond, ap, sym, ◌∙◌, subst, arith}
use Rattle.std.specs.Prelude.{nat_le}
use Rattle.std.proofs.lemmas.Bool.{and_from}
use Rattle.std.proofs.lemmas.Bool.Decides.{nat_tests}
use Rattle.be_base.specs.Lists.{BeginsWith}
use Rattle.be_base.proofs.Beginnings.{BeginsWith-take, BeginsWith-length}
use Rattle.be_model.specs.Matching.{Assignments}
use Rattle.be_change.specs.History.{Entry, has_left, hits}
use Rattle.be_core.specs.Acts.{reads}
use Rattle.be_core.specs.World.{State, seen_by, looked, read}
use Rattle.be_core.specs.declared.acts.CoreReply.{CoreReply}
use Rattle.be_core.specs.declared.acts.CoreReply.TheVariants.{Hits, Nothing}
use Rattle.be_core.specs.World.{after_seeing}
use Rattle.be_published.specs.States.{GlassState}
use Rattle.be_published.specs.Reads.{IsReadAt}
use Rattle.be_published.specs.Core.{ReadsAreTheCores}

le_test : (a b : ℕ) → a ≤ b → nat_le a b ≡ true
le_test a b less = grind (arith, nat_tests)

pub reads_are_the_cores : ReadsAreTheCores
reads_are_the_cores g g' n w k e at begins within present seen =
    let rises : seen_by k w.seen ≤ n = subst (λ (m : ℕ). m ≤ n) (sym seen) (subst (λ (m : ℕ). length g.known ≤ m) (sym at.length) (BeginsWith-length g'.known g.known at.known)) in
    let may : (not (has_left k w.list) && (nat_le (seen_by k w.seen) n && nat_le n w.published)) ≡ true =
    and_from _ _ (ap not present) (and_from _ _ (le_test (seen_by k w.seen) n rises) (le_test n w.published within)) in
    let first : take n w.list ≡ g'.known = ap (λ (m : ℕ). take m w.list) at.length ∙ BeginsWith-take w.list g'.known begins in
    ap (λ (b : Bool). cond b (looked k n e w) (w, Nothing)) may ∙ ap (λ (h : List Entry). (after_seeing k n w, Hits n (hits h e))) first
