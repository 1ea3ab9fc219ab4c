use Rattle.std.proofs.Common.{◌≡◌, ap, subst, ◌∙◌, All, rules}
use Rattle.be_model.specs.Matching.{Assignments}
use Rattle.be_event.specs.Events.{event}
use Rattle.be_event.specs.Writing.{event_text, IsSpelled}
use Rattle.be_event.proofs.RoundTrip.{spelled_is_read}
use Rattle.be_event.proofs.writing.write_event.Goals as goal

pub returns-clause-read : goal.returns-clause-read
returns-clause-read c =
    let s = c.args.schema.now in
    let spelled : All (IsSpelled s) c.args.e.now = subst (λ (items : Assignments). All (IsSpelled s) items) c.items.ensures.items c.in_ok-put_items.ensures.spelled in
    let text : c.put_items.new.text.items ≡ event_text s c.args.e.now = search rules in
    ap (event s) text ∙ spelled_is_read s c.args.e.now c.count.ensures.form c.items.ensures.form c.requires spelled
