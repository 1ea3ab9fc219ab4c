-- The names of the rows by their ids are those of the hits.
use Rattle.std.proofs.Common.{◌≡◌, ◌++◌, ℕ, Bool, [], refl, ◌∙◌, ap, rules}
use Rattle.be_model.specs.declared.changes.Row.{Row}
use Rattle.be_model.specs.Matching.{satisfies}
use Rattle.be_change.proofs.Grows.{rising_live}
use Rattle.be_change.specs.History.{live}
use Rattle.be_copy.specs.Hits.{all_spaced_at}
use Rattle.be_copy.proofs.HitIds.{names_kept, some_hits}
use Rattle.be_copy.proofs.Kept.{kept_listed}
use Rattle.be_copy.proofs.copies.Copy2.hits.Goals as goal

pub returns-in-Ok-clause-names : goal.returns-in-Ok-clause-names
returns-in-Ok-clause-names g c =
    let h = c.args.self.now.list in
    let e = c.args.event.now in
    let p : ℕ × Row → Bool = λ r. satisfies e r.1.conj in
    let empty : c.clear.new.self.items ≡ [] = search rules in
    c.in-Ok.ensures.put ∙ ap (λ was. was ++ all_spaced_at h c.ids.result.now) empty
    ∙ ap (all_spaced_at h) (c.ids.ensures ∙ c.in_ok-cost.ensures.ids)
    ∙ names_kept h p (live h) (kept_listed h (live h) refl) (rising_live h)

pub returns-in-Err-clause-some : goal.returns-in-Err-clause-some
returns-in-Err-clause-some g c =
    some_hits c.args.self.now.list c.args.event.now c.ids.result.now (c.ids.ensures ∙ c.in_ok-cost.ensures.ids) c.in-Err.ensures.some
