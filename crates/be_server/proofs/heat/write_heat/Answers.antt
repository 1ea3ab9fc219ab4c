use Rattle.std.proofs.Common.{◌≡◌, ◌++◌, List, [], ℕ, map, sym, ap, subst, ◌∙◌}
use Rattle.std.specs.Option.{is_some}
use Rattle.be_demand.specs.Demand.{AreOver}
use Rattle.be_demand.specs.Jobs.{plain}
use Rattle.be_io.specs.Outside.{sink_state}
use Rattle.be_server.specs.Drill.{log_text}
use Rattle.be_server.specs.Heat.{demand_text}
use Rattle.be_server.proofs.HeatEnds.{changes_whole, served_by, heat_ended, ok_kept}
use Rattle.be_server.proofs.heat.write_heat.Goals as goal

pub returns : goal.returns
returns g c =
    λ served.
    let s = c.args.schema.now in
    let list = c.args.drilled.log.list in
    let files = map plain c.args.files.now in
    let transcripts = map plain c.args.drilled.transcripts.items in
    let shuts = is_some c.args.drilled.shade in
    let by = served_by s [] list shuts files transcripts c.requires.names (changes_whole s list shuts files transcripts served) served in
    let over = subst (λ l. AreOver s files (map plain l) by.0) (sym c.as_slice-transcripts.ensures.value) by.2 in
    let counted = c.in-Ok.ensures.exact by.0 over in
    let put : c.append_demand.new.text.items ≡ c.in-Ok-text_of_log.text.items ++ demand_text s c.in-Ok.demand = ok_kept _ c.append_demand.result c.is_err.result c.append_demand.ensures c.is_err.ensures.value c.if-is_err.false in
    let text : c.as_slice.result.now ≡ log_text s list ++ demand_text s c.in-Ok.demand = c.as_slice.ensures.value ∙ (put ∙ ap (λ (l : List ℕ). l ++ demand_text s c.in-Ok.demand) c.in-Ok-text_of_log.ensures) in
    heat_ended _ s [] files shuts list transcripts by.0 c.in-Ok.demand c.as_slice.result.now (sink_state g.K.Sink c.args.out.now) (sink_state g.K.Sink c.write_behind.new.out) c.write_behind.result by.1 counted text c.write_behind.ensures
