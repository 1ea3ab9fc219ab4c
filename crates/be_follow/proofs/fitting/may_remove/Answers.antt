-- The owner of the name's first live row is the session exactly where the session has one.
use Rattle.std.proofs.Common.{rules, ◌≡◌, ℕ, true, Some, None, subst}
use Rattle.std.proofs.lemmas.Bool.{eqb-true, eq-eqb}
use Rattle.be_change.specs.History.{live, is_live_name}
use Rattle.be_follow.specs.Placing.{owner_of}
use Rattle.be_follow.proofs.Owning.{first_owned, free_name, owned_is_live, owner}
use Rattle.be_follow.proofs.fitting.may_remove.Goals as goal

pub returns-in-Some : goal.returns-in-Some
returns-in-Some g c =
    let h = g.F.FeedList.list c.args.list.now in
    let k = c.args.session.0 in
    let name = c.args.name.now in
    let first : owner_of name (live h) ≡ Some c.in-Some.owner.0 = search rules in (
      λ e. first_owned k name (live h) (subst (λ (j : ℕ). owner_of name (live h) ≡ Some j) (eqb-true c.in-Some.owner.0 k e) first),
      λ t. eq-eqb c.in-Some.owner.0 k (owner k c.in-Some.owner.0 name h c.log.ensures.form first t),
    )

pub returns-in-None : goal.returns-in-None
returns-in-None g c =
    let h = g.F.FeedList.list c.args.list.now in
    let none : owner_of c.args.name.now (live h) ≡ None = search rules in
    let free = free_name c.args.name.now (live h) none in
    (λ e. absurd cc, λ t. let there : is_live_name c.args.name.now (live h) ≡ true = owned_is_live c.args.session.0 c.args.name.now (live h) t in absurd cc)
