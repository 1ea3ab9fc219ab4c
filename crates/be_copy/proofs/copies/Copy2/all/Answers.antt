-- By rising id they are all live rows.
use Rattle.std.proofs.Common.{◌≡◌, [], length, refl, ◌∙◌, ap, rules, subst}
use Rattle.be_model.specs.ByIds.{rows_of, PutsEach}
use Rattle.be_change.specs.Entries.{IdsArePlaces}
use Rattle.be_change.specs.History.{live}
use Rattle.be_index.specs.Promise.{IsMap}
use Rattle.be_copy.proofs.InOrder.{in_order, room_kept}
use Rattle.be_copy.proofs.Kept.{kept_map}
use Rattle.be_copy.proofs.copies.Copy2.all.Goals as goal

pub returns-clause-found : goal.returns-clause-found
returns-clause-found g c =
    let h = c.args.self.now.list in
    let listed : c.log.result.now.list ≡ h = search rules in
    let map : IsMap (live h) = kept_map h (live h) c.len.result c.log.result.now.spare refl (c.len.ensures.len ∙ ap length listed) c.len.ensures.most (subst IdsArePlaces listed c.len.ensures.ids) in
    let none : c.clear.new.self.rows ≡ [] = search rules in
    let same : g.I.Index.rows c.index-index.result.now ≡ live h = search rules in
    in_order (live h) c.clear.new.self.rows c.all.new.found.rows c.order.new.self.rows map.rising map.say none
    (subst (λ m. PutsEach (rows_of m) c.clear.new.self.rows c.all.new.found.rows) same c.in_ok-all.ensures.found) c.order.ensures.same c.order.ensures.rising

pub returns-clause-room : goal.returns-clause-room
returns-clause-room g c =
    room_kept c.args.found.now c.clear.new.self c.all.new.found c.order.new.self c.clear.ensures c.in_ok-all.ensures.kept c.order.ensures.same c.order.ensures.spare
