-- The script goes on line by line.
use Rattle.std.proofs.Common.{◌≡◌, List, length, rules, ap, sym, subst, ◌∙◌}
use Rattle.be_io.specs.Lines as line
use Rattle.be_model.specs.Schemas.{Attributes}
use Rattle.std.proofs.lemmas.List.{nil_from_length}
use Rattle.be_change.specs.History.{Entry}
use Rattle.be_change.specs.Requests.{Request}
use Rattle.be_protocol.specs.Readings.{reading}
use Rattle.be_workload.specs.Asked as made
use Rattle.be_server.specs.Sums.{no_script_sums, MayCount, CountsRequest}
use Rattle.be_server.proofs.ScriptSteps.{Serving, serve_begin, serve_goes_on, serve_first, serve_may, serve_step, serve_end}
use Rattle.be_server.proofs.counting.count_script.Goals as goal

pub loop-rest-init : goal.loop-rest-init
loop-rest-init g c =
    let requests = made.asked_by_lines c.args.script.now in
    let begun = subst (λ (h : List Entry). Serving requests h requests no_script_sums) (sym c.requires.empty) (serve_begin requests c.requires.countable) in
    record { serving = subst (Serving requests c.args.board.board.list requests) (sym c.none.ensures) begun; schema = c.requires.index }

pub answer-requires-clause-present : goal.answer-requires-clause-present
answer-requires-clause-present g c =
    serve_goes_on (made.asked_by_lines c.args.script.now) (made.asked_by_lines c.loop-rest.rest.now) c.loop-rest.counting.board.board.list c.loop-rest.counting.sums c.loop-rest.invariant.serving

pub answer-requires-clause-may : goal.answer-requires-clause-may
answer-requires-clause-may g c =
    let requests = made.asked_by_lines c.args.script.now in
    let list = c.loop-rest.counting.board.board.list in
    let sums = c.loop-rest.counting.sums in
    let l = c.first_line.result.0.now in
    let after = c.first_line.result.1.now in
    let first = serve_first requests list sums c.loop-rest.rest.now l after c.first_line.ensures.lines c.loop-rest.invariant.serving in
    let may = serve_may requests list sums (reading made.schema (line.text l)) (made.asked_by_lines after) first in
    subst (λ (s : Attributes). MayCount s (reading s (line.text l)) list sums) (sym c.requires.schema) may

pub loop-rest-preserved : goal.loop-rest-preserved
loop-rest-preserved g c =
    let requests = made.asked_by_lines c.args.script.now in
    let list = c.loop-rest.counting.board.board.list in
    let sums = c.loop-rest.counting.sums in
    let next = c.answer.new.self in
    let l = c.first_line.result.0.now in
    let after = c.first_line.result.1.now in
    let first = serve_first requests list sums c.loop-rest.rest.now l after c.first_line.ensures.lines c.loop-rest.invariant.serving in
    let counts = subst (λ (s : Attributes). CountsRequest s (reading s (line.text l)) list sums next.board.board.list next.sums) c.requires.schema c.in_ok-answer.ensures.counted in
    record {
      serving = serve_step requests list sums (reading made.schema (line.text l)) (made.asked_by_lines after) next.board.board.list next.sums first counts;
      schema = c.in_ok-answer.ensures.schema ∙ c.loop-rest.invariant.schema;
    }

pub returns : goal.returns
returns g c =
    let requests = made.asked_by_lines c.args.script.now in
    let list = c.loop-rest.counting.board.board.list in
    let sums = c.loop-rest.counting.sums in
    let none : length c.loop-rest.rest.now ≡ 0 = search rules in
    let left = ap made.asked_by_lines (nil_from_length c.loop-rest.rest.now none) in
    serve_end requests list sums (subst (λ (rs : List Request). Serving requests list rs sums) left c.loop-rest.invariant.serving)
