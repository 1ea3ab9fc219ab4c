use Rattle.std.proofs.Common.{ℕ, ◌<◌, min, refl, subst, ◌≡◌, sym, arith}
use Rattle.be_base.specs.Counts.{RisesBy}
use Rattle.be_hub.proofs.board.DeskBoardBoard.tend.Goals as goal

-- one tend is counted where it is to tend
one : (tends : ℕ) → 0 < tends → min tends 1 ≡ 1
one tends some = omega (arith, some)

counted : (tends before after : ℕ) → 0 < tends → RisesBy 1 before after → RisesBy (min tends 1) before after
counted tends before after some rise = subst (λ (n : ℕ). RisesBy n before after) (sym (one tends some)) rise

pub returns-in-Some : goal.returns-in-Some
returns-in-Some g c = (c.one_more-self.result, c.one_more-self.ensures.0, counted g.row.TENDS _ _ c.if-this-gt0.true c.one_more-self.ensures.1, refl)

pub returns-in_default : goal.returns-in_default
returns-in_default g c = (c.one_more-self.result, c.one_more-self.ensures.0, counted g.row.TENDS _ _ c.if-this-gt0.true c.one_more-self.ensures.1, refl)
