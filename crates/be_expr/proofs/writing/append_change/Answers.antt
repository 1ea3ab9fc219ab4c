use Rattle.std.proofs.Common.{sym, subst, rules, ◌≡◌}
use Rattle.std.proofs.lemmas.Result.{on_ok_weaker}
use Rattle.be_base.specs.Text.{IsName}
use Rattle.be_model.specs.Entries.{entry_of}
use Rattle.be_expr.specs.Changes.{change_text, IsReadBack}
use Rattle.be_expr.proofs.ChangesRead.{unsub_is_read, bye_is_read}
use Rattle.be_expr.proofs.writing.append_change.Goals as goal

pub returns-in_ok-put_head-in-Unsub-clause-read : goal.returns-in_ok-put_head-in-Unsub-clause-read
returns-in_ok-put_head-in-Unsub-clause-read c =
    let s = c.args.schema.now in
    let u = c.in-Unsub in
    let is : c.deref-in-Unsub.result.now ≡ u.name.value = search rules in
    on_ok_weaker c.put_part.result
    (λ _. subst (λ change. IsReadBack s (change_text s (entry_of change)) (entry_of change)) (sym u.is) (unsub_is_read s u.session.0 u.serial u.name.value (subst IsName is c.bytes.ensures.form)))
    c.put_part.ensures

pub returns-in-Bye-clause-read : goal.returns-in-Bye-clause-read
returns-in-Bye-clause-read c =
    let s = c.args.schema.now in
    on_ok_weaker c.put_head-in-Bye.result
    (λ _. subst (λ change. IsReadBack s (change_text s (entry_of change)) (entry_of change)) (sym c.in-Bye.is) (bye_is_read s c.in-Bye.session.0 c.in-Bye.serial))
    c.put_head-in-Bye.ensures
