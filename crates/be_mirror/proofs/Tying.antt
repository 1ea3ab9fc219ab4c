-- Replies and the counts of a glass, from exchange to exchange.
use Rattle.std.proofs.Common.{◌≡◌, inl, inr, ℕ, ◌+◌, Bool, List, [], ◌∷◌, ◌++◌, length, filter, refl, sym, ap, ◌∙◌, subst, arith, length-append}
use Rattle.std.proofs.lemmas.List.Elements.{filter-append}
use Rattle.be_base.specs.Counts.{HasRisenBy}
use Rattle.be_change.specs.Requests.{hit, cost, listed, sent, dumped, tailed, bye, no_memory, shut, Exchange}
use Rattle.be_published.specs.States.{GlassState, one_read}
use Rattle.be_session.specs.Tied.{is_read, is_shut}
use Rattle.be_mirror.specs.Reading.{AreTied}
use Rattle.be_mirror.specs.Sessions.{GlassCounts}

read_tied : (p : Exchange) (g g' : GlassState) → length (filter is_read (p ∷ [])) ≡ 1 → length (filter is_shut (p ∷ [])) ≡ 0 → g' ≡ one_read g'.known g → AreTied (p ∷ []) g g'
read_tied p g g' one none is = record { reads = omega (arith, one, ap (λ (x : GlassState). x.reads) is); shuts = omega (arith, none, ap (λ (x : GlassState). x.shuts) is) }

still_tied : (p : Exchange) (g g' : GlassState) → length (filter is_read (p ∷ [])) ≡ 0 → length (filter is_shut (p ∷ [])) ≡ 0 → g' ≡ g → AreTied (p ∷ []) g g'
still_tied p g g' unread unshut is = record { reads = omega (arith, unread, ap (λ (x : GlassState). x.reads) is); shuts = omega (arith, unshut, ap (λ (x : GlassState). x.shuts) is) }

-- a reply that the glass counted
tied_one : (p : Exchange) (g g' : GlassState) → GlassCounts p.1 g g' → AreTied (p ∷ []) g g'
tied_one (r, hit n names) g g' is = read_tied (r, hit n names) g g' refl refl is
tied_one (r, cost n c) g g' is = read_tied (r, cost n c) g g' refl refl is
tied_one (r, listed n names) g g' is = read_tied (r, listed n names) g g' refl refl is
tied_one (r, sent n put dropped) g g' is = read_tied (r, sent n put dropped) g g' refl refl is
tied_one (r, dumped n rows) g g' is = read_tied (r, dumped n rows) g g' refl refl is
tied_one (r, tailed n place entries) g g' is = read_tied (r, tailed n place entries) g g' refl refl is
tied_one (r, shut) g g' is = record { reads = omega (arith, ap (λ (x : GlassState). x.reads) is); shuts = omega (arith, ap (λ (x : GlassState). x.shuts) is) }
tied_one (r, bye n) g g' (inl is) = record { reads = omega (arith, ap (λ (x : GlassState). x.reads) is); shuts = omega (arith, ap (λ (x : GlassState). x.shuts) is) }
tied_one (r, bye n) g g' (inr is) = record { reads = omega (arith, ap (λ (x : GlassState). x.reads) is); shuts = omega (arith, ap (λ (x : GlassState). x.shuts) is) }
tied_one (r, no_memory) g g' (inl is) = still_tied (r, no_memory) g g' refl refl is
tied_one (r, no_memory) g g' (inr is) = record { reads = omega (arith, ap (λ (x : GlassState). x.reads) is); shuts = omega (arith, ap (λ (x : GlassState). x.shuts) is) }
tied_one (r, reply) g g' is = still_tied (r, reply) g g' refl refl is

risen_along : (a b x y z : ℕ) → HasRisenBy a x y → HasRisenBy b y z → HasRisenBy (a + b) x z
risen_along a b x y z r t = omega (arith, r, t)

both : (test : Exchange → Bool) (ps qs : List Exchange) (x y z : ℕ) → HasRisenBy (length (filter test ps)) x y → HasRisenBy (length (filter test qs)) y z → HasRisenBy (length (filter test (ps ++ qs))) x z
both test ps qs x y z r t =
    let many = ap (λ (l : List Exchange). length l) (filter-append test ps qs) ∙ length-append (filter test ps) (filter test qs) in
    subst (λ (n : ℕ). HasRisenBy n x z) (sym many) (risen_along (length (filter test ps)) (length (filter test qs)) x y z r t)

pub tied_none : (g : GlassState) → AreTied [] g g
tied_none g = record { reads = omega arith; shuts = omega arith }

-- one more exchange
pub tied_on : (ps : List Exchange) (p : Exchange) (a b c : GlassState) → AreTied ps a b → GlassCounts p.1 b c → AreTied (ps ++ p ∷ []) a c
tied_on ps p a b c t counts =
    let one = tied_one p b c counts in
    record { reads = both is_read ps (p ∷ []) a.reads b.reads c.reads t.reads one.reads; shuts = both is_shut ps (p ∷ []) a.shuts b.shuts c.shuts t.shuts one.shuts }
