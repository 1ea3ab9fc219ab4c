use Rattle.std.proofs.Common.{sym}
use Rattle.std.proofs.lemmas.Result.{on_ok_weaker}
use Rattle.std.proofs.lemmas.List.Elements.{All-same}
use Rattle.be_expr.specs.Writing.{IsSpelled}
use Rattle.be_expr.proofs.CanonicalMeaning.{spelled_is_read}
use Rattle.be_expr.proofs.writing.append_expr.Goals as goal

pub returns-clause-read : goal.returns-clause-read
returns-clause-read c =
    let s = c.args.schema.now in
    on_ok_weaker c.put_preds.result
    (λ spelled. spelled_is_read s c.args.c.now c.count.ensures.form c.preds.ensures.form c.requires
    (All-same (IsSpelled s) c.args.c.now c.preds.result.now (sym c.preds.ensures.preds) spelled))
    c.put_preds.ensures.spelled
