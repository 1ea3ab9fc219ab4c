use Rattle.std.proofs.Common.{◌≡◌, ◌≤◌, List, ℕ, length, map, sym, ap, subst, ◌∙◌, rules}
use Rattle.std.specs.Arc.{arc_value}
use Rattle.std.specs.Option.{is_some}
use Rattle.be_base.specs.declared.limits.TheConstants.{FILE_BYTES}
use Rattle.be_change.specs.Opening.{opening_of}
use Rattle.be_demand.specs.Jobs.{plain}
use Rattle.be_demand.specs.Whole.{names_are_whole}
use Rattle.be_hub.specs.Transcripts.{AreServed}
use Rattle.be_io.specs.Outside.{sink_state}
use Rattle.be_model.specs.declared.changes.Row.{Row}
use Rattle.be_server.specs.Heat.{RunsHeat}
use Rattle.be_server.proofs.HeatEnds.{all_copied}
use Rattle.be_server.proofs.heat.run_heat.Goals as goal

pub write_heat-requires-clause-short : goal.write_heat-requires-clause-short
write_heat-requires-clause-short g c κs within =
    let copied : map plain c.as_slice-in-Ok-mailed.result.now ≡ map plain c.args.loaded.scripts.items =
    ap (map plain) c.as_slice-in-Ok-mailed.ensures.value ∙ (c.in-Ok-copies_of.ensures ∙ ap (map plain) c.as_slice.ensures.value) in
    all_copied plain (λ (text : List ℕ). length text ≤ FILE_BYTES) c.as_slice-in-Ok-mailed.result.now c.args.loaded.scripts.items copied c.requires.short

pub write_heat-requires-clause-names : goal.write_heat-requires-clause-names
write_heat-requires-clause-names g c κs within = let same : c.deref.result.now ≡ c.args.loaded.schema = search rules in ap names_are_whole same ∙ c.requires.names

pub returns-in-Ok-mailed : goal.returns-in-Ok-mailed
returns-in-Ok-mailed g c =
    let same : c.deref.result.now ≡ c.args.loaded.schema = search rules in
    let shared : arc_value c.in-Ok.schema ≡ c.deref.result.now = search rules in
    let rows = c.args.loaded.rows.items in
    let files = map plain c.as_slice-in-Ok-mailed.result.now in
    let copied : files ≡ map plain c.args.loaded.scripts.items =
    ap (map plain) c.as_slice-in-Ok-mailed.ensures.value ∙ (c.in-Ok-copies_of.ensures ∙ ap (map plain) c.as_slice.ensures.value) in
    let drilled = c.in-Ok-mailed.drilled in
    let served = subst (λ (fs : List (List ℕ)). AreServed c.deref.result.now (opening_of rows) drilled.log.list (is_some drilled.shade) fs (map plain drilled.transcripts.items)) (sym copied)
    (subst (λ s. AreServed s (opening_of rows) drilled.log.list (is_some drilled.shade) (map plain c.args.loaded.scripts.items) (map plain drilled.transcripts.items)) shared c.in-Ok-mailed.ensures.served) in
    subst (λ (fs : List (List ℕ)). RunsHeat (c.write_heat.new.out ≡ c.args.out.now) c.args.loaded.schema rows fs (sink_state g.K.Sink c.args.out.now) (sink_state g.K.Sink c.write_heat.new.out) c.write_heat.result) copied
    (subst (λ s. RunsHeat (c.write_heat.new.out ≡ c.args.out.now) s rows files (sink_state g.K.Sink c.args.out.now) (sink_state g.K.Sink c.write_heat.new.out) c.write_heat.result) same (subst (λ (r : List Row). RunsHeat (c.write_heat.new.out ≡ c.args.out.now) c.deref.result.now r files (sink_state g.K.Sink c.args.out.now) (sink_state g.K.Sink c.write_heat.new.out) c.write_heat.result) (sym c.requires.none)
    (c.write_heat.ensures (subst (λ (r : List Row). AreServed c.deref.result.now (opening_of r) drilled.log.list (is_some drilled.shade) files (map plain drilled.transcripts.items)) c.requires.none served))))
