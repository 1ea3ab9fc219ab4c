-- Replies and the counts of a board, from exchange to exchange.
use Rattle.std.proofs.Common.{◌≡◌, inl, inr, ℕ, ◌+◌, ◌≤◌, Bool, true, false, List, [], ◌∷◌, ◌++◌, length, filter, Option, Some, None, refl, sym, ap, ◌∙◌, subst, arith, length-append}
use Rattle.std.specs.List.{sum_by}
use Rattle.std.proofs.lemmas.List.Elements.{filter-append}
use Rattle.std.proofs.lemmas.List.Sums.{sum_by-append}
use Rattle.be_base.specs.Counts.{raised, HasRisenBy, RisesBy}
use Rattle.be_change.specs.History.{Entry}
use Rattle.be_change.specs.Requests.{sent, Note, Exchange}
use Rattle.be_board.specs.declared.answers.Answer.{Answer}
use Rattle.be_board.specs.declared.answers.Answer.TheVariants.{Done, Held, Dup, NoName, Other, Split, NoMemory}
use Rattle.be_board.specs.Changes.{CountsSplit}
use Rattle.be_board.specs.State.{BoardCounts, BoardState, NoneFalls, CountsPuts}
use Rattle.be_session.specs.Given.{GivesLetters}
use Rattle.be_session.specs.Tied.{is_read, is_shut, is_split, is_short, full_letters, letters_put, TiedSplits, Tied, TiedFull}

risen_along : (a b x y z : ℕ) → HasRisenBy a x y → HasRisenBy b y z → HasRisenBy (a + b) x z
risen_along a b x y z r t = omega (arith, r, t)

risen_then : (a x y z : ℕ) → HasRisenBy a x y → y ≤ z → HasRisenBy a x z
risen_then a x y z r t = omega (arith, r, t)

pub risen_none : (x y : ℕ) → x ≤ y → HasRisenBy 0 x y
risen_none x y l = omega (arith, l)

rises_along : (a b x y z : ℕ) → RisesBy a x y → RisesBy b y z → RisesBy (a + b) x z
rises_along a b x y z r t = omega (arith, r, t)

rises_still : (a x y z : ℕ) → RisesBy a x y → z ≡ y → RisesBy a x z
rises_still a x y z r same = omega (arith, r, same)

rises_more : (a x y z : ℕ) → RisesBy a x y → z ≡ raised 1 y → RisesBy (a + 1) x z
rises_more a x y z r more = omega (arith, r, more)

pub rises_none : (x y : ℕ) → y ≡ x → RisesBy 0 x y
rises_none x y same = omega (arith, same)

many : (test : Exchange → Bool) (ps qs : List Exchange) → length (filter test (ps ++ qs)) ≡ length (filter test ps) + length (filter test qs)
many test ps qs = ap (λ (l : List Exchange). length l) (filter-append test ps qs) ∙ length-append (filter test ps) (filter test qs)

both : (test : Exchange → Bool) (ps qs : List Exchange) (x y z : ℕ) → HasRisenBy (length (filter test ps)) x y → HasRisenBy (length (filter test qs)) y z → HasRisenBy (length (filter test (ps ++ qs))) x z
both test ps qs x y z r t =
    subst (λ (n : ℕ). HasRisenBy n x z) (sym (many test ps qs)) (risen_along (length (filter test ps)) (length (filter test qs)) x y z r t)

both_exact : (test : Exchange → Bool) (ps qs : List Exchange) (x y z : ℕ) → RisesBy (length (filter test ps)) x y → RisesBy (length (filter test qs)) y z → RisesBy (length (filter test (ps ++ qs))) x z
both_exact test ps qs x y z r t =
    subst (λ (n : ℕ). RisesBy n x z) (sym (many test ps qs)) (rises_along (length (filter test ps)) (length (filter test qs)) x y z r t)

pub tied_none : (c : BoardCounts) → Tied false [] [] c c
tied_none c = record { reads = omega arith; shuts = omega arith; splits = omega arith; empties = omega arith }

pub tied_on : (ps qs ws vs : List Exchange) (a b c : BoardCounts) → Tied false ps ws a b → Tied false qs vs b c → Tied false (ps ++ qs) (ws ++ vs) a c
tied_on ps qs ws vs a b c t u = record {
  reads = both is_read ps qs a.reads b.reads c.reads t.reads u.reads;
  shuts = both_exact is_shut ps qs a.shuts b.shuts c.shuts t.shuts u.shuts;
  splits = both_exact is_split ps qs a.splits b.splits c.splits t.splits u.splits;
  empties = both is_short ws vs a.empties b.empties c.empties t.empties u.empties;
}

-- no entry was refused since, and no two numbers that differ were told
pub tied_then : (ps ws : List Exchange) (a b c : BoardCounts) → Tied false ps ws a b → NoneFalls b c → c.shuts ≡ b.shuts → c.splits ≡ b.splits → Tied false ps ws a c
tied_then ps ws a b c t n shuts splits = record {
  reads = risen_then (length (filter is_read ps)) a.reads b.reads c.reads t.reads n.reads;
  shuts = rises_still (length (filter is_shut ps)) a.shuts b.shuts c.shuts t.shuts shuts;
  splits = rises_still (length (filter is_split ps)) a.splits b.splits c.splits t.splits splits;
  empties = risen_then (length (filter is_short ws)) a.empties b.empties c.empties t.empties n.empties;
}

splits_left : (ps : List Exchange) (answer : Answer) (a b c : BoardCounts) → TiedSplits false ps a b → CountsSplit answer b.splits c.splits → TiedSplits true ps a c
splits_left ps (Split i j) a b c t q = inr (rises_more (length (filter is_split ps)) a.splits b.splits c.splits t q)
splits_left ps (Done n) a b c t q = inl (rises_still (length (filter is_split ps)) a.splits b.splits c.splits t q)
splits_left ps (Held n) a b c t q = inl (rises_still (length (filter is_split ps)) a.splits b.splits c.splits t q)
splits_left ps (Dup m id) a b c t q = inl (rises_still (length (filter is_split ps)) a.splits b.splits c.splits t q)
splits_left ps (NoName m) a b c t q = inl (rises_still (length (filter is_split ps)) a.splits b.splits c.splits t q)
splits_left ps (Other m id) a b c t q = inl (rises_still (length (filter is_split ps)) a.splits b.splits c.splits t q)
splits_left ps NoMemory a b c t q = inl (rises_still (length (filter is_split ps)) a.splits b.splits c.splits t q)

-- the session left since, without a reply
pub tied_left : (ps ws : List Exchange) (answer : Answer) (a b c : BoardCounts) → Tied false ps ws a b → NoneFalls b c → c.shuts ≡ b.shuts → CountsSplit answer b.splits c.splits → Tied true ps ws a c
tied_left ps ws answer a b c t n shuts splits = record {
  reads = risen_then (length (filter is_read ps)) a.reads b.reads c.reads t.reads n.reads;
  shuts = rises_still (length (filter is_shut ps)) a.shuts b.shuts c.shuts t.shuts shuts;
  splits = splits_left ps answer a b c t.splits splits;
  empties = risen_then (length (filter is_short ws)) a.empties b.empties c.empties t.empties n.empties;
}

pub full_none : (h : List Entry) (c : BoardCounts) → TiedFull h [] c c
full_none h c = omega arith

pub full_on : (h : List Entry) (ps qs : List Exchange) (a b c : BoardCounts) → TiedFull h ps a b → TiedFull h qs b c → TiedFull h (ps ++ qs) a c
full_on h ps qs a b c t u =
    subst (λ (n : ℕ). HasRisenBy n a.fulls c.fulls) (sym (sum_by-append (full_letters h) ps qs))
    (risen_along (sum_by (full_letters h) ps) (sum_by (full_letters h) qs) a.fulls b.fulls c.fulls t u)

pub full_then : (h : List Entry) (ps : List Exchange) (a b c : BoardCounts) → TiedFull h ps a b → NoneFalls b c → TiedFull h ps a c
full_then h ps a b c t n = risen_then (sum_by (full_letters h) ps) a.fulls b.fulls c.fulls t n.fulls

pub puts_none : (o : Option (List Note)) (c : BoardCounts) → CountsPuts o (sum_by letters_put []) c c
puts_none None c = omega arith
puts_none (Some box) c = refl

-- one exchange that put no letter
pub puts_one : (o : Option (List Note)) (p : Exchange) (c c' : BoardCounts) → letters_put p ≡ 0 → c'.puts ≡ c.puts → CountsPuts o (sum_by letters_put (p ∷ [])) c c'
puts_one None p c c' zero same = omega (arith, zero, same)
puts_one (Some box) p c c' zero same = same

-- only what tells of a read puts letters
pub puts_unread : (o : Option (List Note)) (p : Exchange) (c c' : BoardCounts) → is_read p ≡ false → c'.puts ≡ c.puts → CountsPuts o (sum_by letters_put (p ∷ [])) c c'
puts_unread o p c c' unread same = puts_one o p c c' (none p unread) same
  where
    none : (q : Exchange) → is_read q ≡ false → letters_put q ≡ 0
    none (r, sent n put dropped) e = absurd cc
    none (r, _) e = refl

pub puts_on : (o : Option (List Note)) (ps qs : List Exchange) (b c d : BoardState) → GivesLetters o ps b c → CountsPuts o (sum_by letters_put ps) b.counts c.counts → CountsPuts c.box (sum_by letters_put qs) c.counts d.counts
    → CountsPuts o (sum_by letters_put (ps ++ qs)) b.counts d.counts
puts_on None ps qs b c d g t u =
    let later = subst (λ (o : Option (List Note)). CountsPuts o (sum_by letters_put qs) c.counts d.counts) g.0 u in
    omega (arith, t, later, sum_by-append letters_put ps qs)
puts_on (Some box) ps qs b c d g t u = subst (λ (o : Option (List Note)). CountsPuts o (sum_by letters_put qs) c.counts d.counts) g.2 u ∙ t

pub puts_then : (o : Option (List Note)) (n : ℕ) (a b c : BoardCounts) → CountsPuts o n a b → c.puts ≡ b.puts → CountsPuts o n a c
puts_then None n a b c t same = same ∙ t
puts_then (Some box) n a b c t same = same ∙ t
