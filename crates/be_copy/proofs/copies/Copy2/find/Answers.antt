-- By rising id they are those that the event satisfies.
use Rattle.std.proofs.Common.{◌≡◌, ℕ, Bool, [], length, refl, ◌∙◌, sym, ap, rules, subst}
use Rattle.be_model.specs.declared.changes.Row.{Row}
use Rattle.be_model.specs.Matching.{satisfies, satisfied}
use Rattle.be_model.specs.ByIds.{rows_of, PutsEach}
use Rattle.be_model.proofs.RowsByIds.{rows_of-filter}
use Rattle.be_model.proofs.RisingIds.{Rising-filter, SayIds-filter}
use Rattle.be_change.specs.Entries.{IdsArePlaces}
use Rattle.be_change.specs.History.{live, hit_rows}
use Rattle.be_index.proofs.Adding.{rows_put}
use Rattle.be_index.specs.Promise.{IsMap}
use Rattle.be_copy.proofs.InOrder.{in_order, room_kept}
use Rattle.be_copy.proofs.Kept.{kept_map}
use Rattle.be_copy.proofs.copies.Copy2.find.Goals as goal

pub returns-clause-found : goal.returns-clause-found
returns-clause-found g c =
    let h = c.args.self.now.list in
    let e = c.args.event.now in
    let p : ℕ × Row → Bool = λ r. satisfies e r.1.conj in
    let listed : c.log.result.now.list ≡ h = search rules in
    let map : IsMap (live h) = kept_map h (live h) c.len.result c.log.result.now.spare refl (c.len.ensures.len ∙ ap length listed) c.len.ensures.most (subst IdsArePlaces listed c.len.ensures.ids) in
    let none : c.clear.new.self.rows ≡ [] = search rules in
    let same : g.I.Index.rows c.index-index.result.now ≡ live h = search rules in
    in_order (hit_rows h e) c.clear.new.self.rows c.find.new.found.rows c.order.new.self.rows (Rising-filter p (live h) map.rising) (SayIds-filter p (live h) map.say) none
    (subst (λ rows. PutsEach rows c.clear.new.self.rows c.find.new.found.rows) (ap (λ m. satisfied e (rows_of m)) same ∙ sym (rows_of-filter (λ row. satisfies e row.conj) (live h))) (rows_put _ _ _ c.in_ok-cost.ensures.found))
    c.order.ensures.same c.order.ensures.rising

pub returns-clause-room : goal.returns-clause-room
returns-clause-room g c =
    room_kept c.args.found.now c.clear.new.self c.find.new.found c.order.new.self c.clear.ensures c.in_ok-cost.ensures.kept c.order.ensures.same c.order.ensures.spare
