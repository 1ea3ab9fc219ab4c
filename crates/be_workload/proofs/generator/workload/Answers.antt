-- The texts are those of the draws, one after the other.
use Rattle.std.proofs.Common.{◌≡◌, ap, ◌∙◌}
use Rattle.be_workload.specs.Drawing.{Script, subscriptions, events}
use Rattle.be_workload.specs.Workload.{start}
use Rattle.be_workload.proofs.generator.workload.Goals as goal

pub returns : goal.returns
returns c =
    let a = c.args in
    let subs : c.subscriptions.new.self ≡ subscriptions a.subs (start a.number) = c.in_ok-subscriptions.ensures ∙ ap (subscriptions a.subs) c.start-script.ensures in
    let all : c.events.new.self ≡ events a.events (subscriptions a.subs (start a.number)) = c.in_ok-events.ensures ∙ ap (events a.events) subs in
    record {
      schema = c.in_ok-from_slice.ensures.items;
      script = c.into_text.ensures ∙ ap (λ (s : Script). s.text) all;
    }
