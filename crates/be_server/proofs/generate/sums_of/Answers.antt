-- The lines of the script are those that a session would read.
use Rattle.std.proofs.Common.{ℕ, List, length, ap, subst, ◌∙◌, IfOk}
use Rattle.be_change.specs.Requests.{Request}
use Rattle.be_workload.specs.Asked as made
use Rattle.be_server.specs.Sums.{published, AreScriptSums}
use Rattle.be_server.proofs.ScriptSteps.{events_counted}
use Rattle.be_server.proofs.generate.sums_of.Goals as goal

pub returns : goal.returns
returns c =
    let requests = made.script_requests c.args.number c.args.subs c.args.events in
    let read = c.workloads_are_read.ensures in
    let text = c.as_slice-2.ensures.value ∙ c.in_ok-workload.ensures.script in
    let asked = ap made.asked_by_lines text ∙ read.short c.args.number c.args.subs c.args.events c.requires.subs in
    let count = events_counted c.args.subs c.args.events requests (read.scripts c.args.number c.args.subs c.args.events c.requires.subs) in
    let sums = subst (λ (rs : List Request). IfOk c.count_script.result (AreScriptSums made.schema rs (length (published rs)))) asked c.count_script.ensures in
    subst (λ (n : ℕ). IfOk c.count_script.result (AreScriptSums made.schema requests n)) count sums
