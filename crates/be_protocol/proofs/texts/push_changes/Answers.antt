-- Each of the changes lies in the schema.
use Rattle.std.proofs.Common.{◌≡◌, ◌<◌, length, get_or, sym, ap, ◌∙◌, subst}
use Rattle.std.specs.Arc.{arc_value}
use Rattle.std.proofs.lemmas.List.{get_or-map, length-map}
use Rattle.std.proofs.lemmas.List.Sums.{AllPass-from_list_all}
use Rattle.be_model.specs.Entries.{entry_of}
use Rattle.be_model.specs.Lies.{entry_lies}
use Rattle.be_change.specs.Entries.{entries_in}
use Rattle.be_protocol.proofs.texts.push_changes.Goals as goal

pub push_change-requires : goal.push_change-requires
push_change-requires c =
    let s = c.args.schema.now in
    let changes = c.args.changes.now in
    let i = c.loop-i.i in
    let change = c.index-changes-i.result in
    let entry = entry_of (arc_value change) in
    let there : get_or (entries_in changes) i entry ≡ entry_of (arc_value (get_or changes i change)) = get_or-map (λ x. entry_of (arc_value x)) changes i change entry c.loop-i-test.true in
    let within : i < length (entries_in changes) = subst (λ n. i < n) (sym (length-map changes (λ x. entry_of (arc_value x)))) c.loop-i-test.true in
    ap (λ x. entry_lies s (entry_of x)) c.deref.ensures ∙ ap (λ x. entry_lies s (entry_of (arc_value x))) c.index-changes-i.is
    ∙ ap (entry_lies s) (sym there) ∙ AllPass-from_list_all (entry_lies s) (entries_in changes) c.requires.lies i entry within
