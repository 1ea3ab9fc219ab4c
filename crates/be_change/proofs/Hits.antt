-- What an event hits, as rows.
use Rattle.std.proofs.Common.{◌≡◌, List, length, sym, ap, ◌∙◌}
use Rattle.std.proofs.lemmas.List.{length-map}
use Rattle.be_model.specs.declared.changes.Row.{Row}
use Rattle.be_model.specs.Matching.{Assignments, satisfies, satisfied}
use Rattle.be_model.specs.ByIds.{rows_of}
use Rattle.be_model.proofs.RowsByIds.{rows_of-filter}
use Rattle.be_change.specs.History.{Entry, live, hit_rows, hits}
use Rattle.be_change.specs.Walk.{live_rows}

pub rows_of-hit_rows : (h : List Entry) (e : Assignments) → rows_of (hit_rows h e) ≡ satisfied e (live_rows h)
rows_of-hit_rows h e = rows_of-filter (λ row. satisfies e row.conj) (live h)

-- a name for each row that is hit
pub length-hits : (h : List Entry) (e : Assignments) → length (hits h e) ≡ length (satisfied e (live_rows h))
length-hits h e =
    length-map (hit_rows h e) (λ r. r.1.name) ∙ (sym (length-map (hit_rows h e) (λ r. r.1)) ∙ ap (λ (l : List Row). length l) (rows_of-hit_rows h e))
