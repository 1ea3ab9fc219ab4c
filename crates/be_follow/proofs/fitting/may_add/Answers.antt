-- A name is free where its row has no owner.
use Rattle.std.proofs.Common.{rules, ◌≡◌, List, length, true, false, None, Some, arith, ap}
use Rattle.std.proofs.lemmas.Bool.{eqb-true, eq-eqb}
use Rattle.be_change.specs.History.{Entry, live, is_live_name}
use Rattle.be_follow.specs.Placing.{owner_of}
use Rattle.be_follow.proofs.Owning.{free_name, first_owned, owned_is_live}
use Rattle.be_follow.proofs.fitting.may_add.Goals as goal

pub returns-in-Some : goal.returns-in-Some
returns-in-Some g c =
    let h = g.F.FeedList.list c.args.list.now in
    let name = c.args.row.now.name in
    let owned : owner_of name (live h) ≡ Some c.in-Some.field-0.0 = search rules in
    let there : is_live_name name (live h) ≡ true = owned_is_live _ name (live h) (first_owned _ name (live h) owned) in
    (λ e. absurd cc, λ a. let free = a.0 in absurd cc)

pub returns-then-row-len : goal.returns-then-row-len
returns-then-row-len g c =
    let h = g.F.FeedList.list c.args.list.now in
    let name = c.args.row.now.name in
    let none : owner_of name (live h) ≡ None = search rules in
    let len : c.len-len.result ≡ length h = omega (arith, c.len-len.ensures.len, ap (λ (l : List Entry). length l) c.log.ensures.list) in
    (λ e. (free_name name (live h) none, omega (arith, len), eqb-true c.args.row.now.session.0 c.args.session.0 e), λ a. eq-eqb c.args.row.now.session.0 c.args.session.0 a.2)
