-- By rising id they are those that the event satisfies.
use Rattle.std.proofs.Common.{◌≡◌, ℕ, Bool, [], length, refl, ◌∙◌, sym, ap, rules, subst}
use Rattle.be_model.specs.declared.changes.Row.{Row}
use Rattle.be_model.specs.Matching.{satisfies, satisfied}
use Rattle.be_model.specs.Rows.{id_of}
use Rattle.be_model.specs.ByIds.{rows_of}
use Rattle.be_model.proofs.RowsByIds.{rows_of-filter}
use Rattle.be_model.proofs.RisingIds.{Rising-filter, SayIds-filter}
use Rattle.be_change.specs.Entries.{IdsArePlaces}
use Rattle.be_change.specs.History.{live, hit_rows}
use Rattle.be_index.specs.Puts.{PutsItems}
use Rattle.be_index.specs.Promise.{IsMap}
use Rattle.be_copy.proofs.HitIds.{ids_in_order}
use Rattle.be_copy.proofs.Kept.{kept_map}
use Rattle.be_copy.proofs.copies.Copy2.hit_ids.Goals as goal

pub returns-clause-ids : goal.returns-clause-ids
returns-clause-ids g c =
    let h = c.args.self.now.list in
    let e = c.args.event.now in
    let p : ℕ × Row → Bool = λ r. satisfies e r.1.conj in
    let listed : c.log.result.now.list ≡ h = search rules in
    let map : IsMap (live h) = kept_map h (live h) c.len.result c.log.result.now.spare refl (c.len.ensures.len ∙ ap length listed) c.len.ensures.most (subst IdsArePlaces listed c.len.ensures.ids) in
    let none : c.clear.new.self.ids ≡ [] = search rules in
    let same : g.I.Index.rows c.index-index.result.now ≡ live h = search rules in
    ids_in_order (hit_rows h e) c.clear.new.self.ids c.find.new.found.ids c.sort.new.self.ids (Rising-filter p (live h) map.rising) (SayIds-filter p (live h) map.say) none
    (subst (λ rows. PutsItems id_of rows c.clear.new.self.ids c.find.new.found.ids) (ap (λ m. satisfied e (rows_of m)) same ∙ sym (rows_of-filter (λ row. satisfies e row.conj) (live h))) c.in_ok-cost.ensures.found)
    c.sort.ensures.same c.sort.ensures.rising
