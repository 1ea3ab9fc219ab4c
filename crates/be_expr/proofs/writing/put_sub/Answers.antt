use Rattle.std.proofs.lemmas.Result.{on_ok_weaker}
use Rattle.be_expr.proofs.ChangesRead.{sub_is_read}
use Rattle.be_expr.proofs.writing.put_sub.Goals as goal

pub returns-clause-read : goal.returns-clause-read
returns-clause-read c =
    on_ok_weaker c.append_expr.result
    (λ read. sub_is_read c.args.schema.now c.args.session.0 c.args.serial c.args.row.now c.bytes.ensures.form read)
    c.append_expr.ensures.read
