-- The rows of a board were maintained between two lines of its session.
use Rattle.std.proofs.Common.{◌≡◌, ◌≢◌, ℕ, suc, ◌+◌, ◌*◌, ◌/◌, ◌%◌, ◌&&◌, Bool, true, false, cond, List, [], ◌∷◌, ◌++◌, length, filter, refl, sym, ap, ◌∙◌, subst, arith, eqb-true}
use Rattle.std.proofs.Math.Nat.{suc-mul}
use Rattle.std.proofs.lemmas.Bool.{eqb-false}
use Rattle.std.specs.List.{list_all, sum_by}
use Rattle.std.proofs.lemmas.List.{append-nil}
use Rattle.std.proofs.lemmas.List.Elements.{filter-append}
use Rattle.be_base.specs.Counts.{RisesBy}
use Rattle.be_model.proofs.Attributes.{and_left, and_right}
use Rattle.be_model.specs.Schemas.{Attributes}
use Rattle.be_change.specs.Requests.{Exchange}
use Rattle.be_protocol.specs.Conduct.{is_sixteenth, TendsIf, Trace}
use Rattle.be_protocol.specs.Ends.{goes_on}
use Rattle.be_protocol.specs.declared.conversing.TheConstants.{REPLIES_TENDED}
use Rattle.be_board.specs.State.{BoardState, GoesOn, HasGoneOn, Tends}
use Rattle.be_board.proofs.Going.{HasGoneOn-along, HasGoneOn-tended}
use Rattle.be_session.specs.Steps.{session_conduct}
use Rattle.be_session.specs.Tied.{letters_put, tends_behind, TiedTends}
use Rattle.be_session.specs.SoFar.{BoardServes, Serves}
use Rattle.be_session.proofs.GivingOn.{letters_then}
use Rattle.be_session.proofs.Tying.{tied_then, puts_then}

-- the board, having counted so many tends
abbrev having_tended : ℕ → BoardState → BoardState
having_tended n b = record b { counts = record b.counts { tends = n } }

tended_board : (s : Attributes) (on : Bool) (ps : List Exchange) (n : ℕ) (b c : BoardState) → HasGoneOn c (having_tended n c) → BoardServes s on ps b c → BoardServes s on ps b (having_tended n c)
tended_board s on ps n b c goes g = record {
  goes = HasGoneOn-along b c (having_tended n c) g.goes goes;
  own = g.own;
  notes = g.notes;
  places = g.places;
  present = g.present;
  borne = λ h bears. let l = g.borne h bears in record { walk = l.walk; legal = l.legal; stands = l.stands; ended = l.ended; full = l.full };
  alone = λ a. let r = g.alone a in record { alone = r.alone; told = r.told; made = r.made; serials = r.serials; keeps = r.keeps; replies = r.replies };
}

-- the session goes on over it
pub serves_tended : (s : Attributes) (on : Bool) (ps : List Exchange) (b c d : BoardState) → Serves s on ps b c → Tends c d → Serves s on ps b d
serves_tended s on ps b c d g t = subst (λ (x : BoardState). Serves s on ps b x) (sym t.3) (by t.0 (HasGoneOn-tended c (having_tended t.0 c) (t.0, t.1, t.2, refl)))
  where
    by : (n : ℕ) → HasGoneOn c (having_tended n c) → Serves s on ps b (having_tended n c)
    by n goes = record {
      board = tended_board s on ps n b c goes g.board;
      tied = tied_then ps ps b.counts c.counts (having_tended n c).counts g.tied goes.counts refl refl;
      puts = puts_then b.box (sum_by letters_put ps) b.counts c.counts (having_tended n c).counts g.puts refl;
      letters = letters_then b.box ps b c (having_tended n c) (λ h bears. bears) (record { notes = refl; box = refl; puts = refl; fulls = refl }) g.letters;
    }

-- of n replies one more is a sixteenth or isn't
one_sixteenth : (n : ℕ) → is_sixteenth (n + 1) ≡ true → 1 + n / REPLIES_TENDED ≡ (n + 1) / REPLIES_TENDED
one_sixteenth n is = let whole : (n + 1) % REPLIES_TENDED ≡ 0 = eqb-true ((n + 1) % REPLIES_TENDED) 0 is in omega (arith, whole)

no_sixteenth : (n : ℕ) → is_sixteenth (n + 1) ≡ false → n / REPLIES_TENDED ≡ (n + 1) / REPLIES_TENDED
no_sixteenth n isnt = let some : (n + 1) % REPLIES_TENDED ≢ 0 = (λ q. eqb-false ((n + 1) % REPLIES_TENDED) 0 isnt q) in omega (arith, some)

-- so many tends were counted since, behind exchanges before which there were n
record CountsTends (n : ℕ) (ps : List Exchange) (b d : BoardState) : Type 0 where
  tends : ℕ
  many : tends + n / REPLIES_TENDED ≡ (n + length ps) / REPLIES_TENDED
  per_tend : d.per_tend ≡ b.per_tend
  risen : RisesBy (tends * b.per_tend) b.counts.tends d.counts.tends

tends_none : (n : ℕ) (b : BoardState) → CountsTends n [] b b
tends_none n b = record { tends = 0; many = omega arith; per_tend = refl; risen = none b.per_tend b.counts.tends }
  where
    none : (r x : ℕ) → RisesBy (0 * r) x x
    none r x = omega arith

rises_then : (k r x y z : ℕ) → RisesBy r x y → RisesBy k y z → RisesBy (k + r) x z
rises_then k r x y z a b = omega (arith, a, b)

-- before exchange p, and the tend behind it where that was due
tends_on : (s : Attributes) (due : Bool) (n : ℕ) (p : Exchange) (ps : List Exchange) (b c d e : BoardState) → is_sixteenth (n + 1) ≡ due → GoesOn b c → TendsIf (session_conduct s) due c d → CountsTends (n + 1) ps d e → CountsTends n (p ∷ ps) b e
tends_on s true n p ps b c d e is goes tends r = record {
  tends = suc r.tends;
  many = one_more (one_sixteenth n is) r.many;
  per_tend = r.per_tend ∙ (same ∙ goes.per_tend);
  risen = subst (λ (x : ℕ). RisesBy x b.counts.tends e.counts.tends) (sym (suc-mul r.tends b.per_tend))
      (rises_then (r.tends * b.per_tend) b.per_tend b.counts.tends d.counts.tends e.counts.tends first (subst (λ (x : ℕ). RisesBy (r.tends * x) d.counts.tends e.counts.tends) (same ∙ goes.per_tend) r.risen));
}
  where
    same : d.per_tend ≡ c.per_tend
    same = ap (λ (x : BoardState). x.per_tend) tends.3

    counted : d.counts.tends ≡ tends.0
    counted = ap (λ (x : BoardState). x.counts.tends) tends.3

    first : RisesBy b.per_tend b.counts.tends d.counts.tends
    first =
        subst (λ (x : ℕ). RisesBy x b.counts.tends d.counts.tends) goes.per_tend
        (subst (λ (x : ℕ). RisesBy c.per_tend x d.counts.tends) goes.tends (subst (λ (x : ℕ). RisesBy c.per_tend c.counts.tends x) (sym counted) tends.2))

    one_more : 1 + n / REPLIES_TENDED ≡ (n + 1) / REPLIES_TENDED → r.tends + (n + 1) / REPLIES_TENDED ≡ ((n + 1) + length ps) / REPLIES_TENDED → suc r.tends + n / REPLIES_TENDED ≡ (n + length (p ∷ ps)) / REPLIES_TENDED
    one_more one rest = omega (arith, one, rest)
tends_on s false n p ps b c d e isnt goes still r = record {
  tends = r.tends;
  many = let none = no_sixteenth n isnt in omega (arith, none, r.many);
  per_tend = r.per_tend ∙ (ap (λ (x : BoardState). x.per_tend) still ∙ goes.per_tend);
  risen =
      subst (λ (x : ℕ). RisesBy (r.tends * x) b.counts.tends e.counts.tends) (ap (λ (x : BoardState). x.per_tend) still ∙ goes.per_tend)
      (subst (λ (x : ℕ). RisesBy (r.tends * d.per_tend) x e.counts.tends) (ap (λ (x : BoardState). x.counts.tends) still ∙ goes.tends) r.risen);
}

-- exchanges none of which ended the session
tends_along : (s : Attributes) (n : ℕ) (ps : List Exchange) (b d : BoardState) → list_all goes_on ps ≡ true → Trace (session_conduct s) n ps b d → CountsTends n ps b d
tends_along s n [] b d on t = subst (λ (x : BoardState). CountsTends n [] b x) (sym t) (tends_none n b)
tends_along s n (p ∷ ps) b e on (c, d, replies, tends, t) =
    tends_on s (is_sixteenth (n + 1)) n p ps b c d e refl replies.steps.goes
    (subst (λ (x : Bool). TendsIf (session_conduct s) (x && is_sixteenth (n + 1)) c d) (and_left (goes_on p) (list_all goes_on ps) on) tends)
    (tends_along s (n + 1) ps d e (and_right (goes_on p) (list_all goes_on ps) on) t)

all_go_on : (ps : List Exchange) → list_all goes_on ps ≡ true → filter goes_on ps ≡ ps
all_go_on [] on = refl
all_go_on (p ∷ ps) on = rw (and_left (goes_on p) (list_all goes_on ps) on, all_go_on ps (and_right (goes_on p) (list_all goes_on ps) on)) refl

pub tends_going : (s : Attributes) (ps : List Exchange) (b d : BoardState) → list_all goes_on ps ≡ true → Trace (session_conduct s) 0 ps b d → TiedTends ps b d
tends_going s ps b d on t =
    let k = tends_along s 0 ps b d on t in
    let whole : k.tends ≡ length ps / REPLIES_TENDED = omega (arith, k.many) in
    subst (λ (x : ℕ). RisesBy (x * b.per_tend) b.counts.tends d.counts.tends) (whole ∙ sym (ap (λ (xs : List Exchange). length xs / REPLIES_TENDED) (all_go_on ps on))) k.risen

-- a call that isn't a tend
pub tends_then : (ps : List Exchange) (b c d : BoardState) → TiedTends ps b c → GoesOn c d → TiedTends ps b d
tends_then ps b c d t goes = subst (λ (x : ℕ). RisesBy (tends_behind ps * b.per_tend) b.counts.tends x) (sym goes.tends) t

-- a reply that ends the session
pub tends_ended : (ps : List Exchange) (p : Exchange) (b c d : BoardState) → goes_on p ≡ false → TiedTends ps b c → GoesOn c d → TiedTends (ps ++ p ∷ []) b d
tends_ended ps p b c d off t goes =
    subst (λ (xs : List Exchange). RisesBy (length xs / REPLIES_TENDED * b.per_tend) b.counts.tends d.counts.tends)
    (sym (filter-append goes_on ps (p ∷ []) ∙ (ap (λ (o : Bool). filter goes_on ps ++ cond o (p ∷ []) []) off ∙ append-nil (filter goes_on ps)))) (tends_then ps b c d t goes)
