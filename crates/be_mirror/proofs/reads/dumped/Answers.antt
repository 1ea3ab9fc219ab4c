-- The reply tells what the read found, or why there is none.
use Rattle.std.proofs.Common.{rules, ◌≡◌, true, All, Err, refl, sym, ap, ◌∙◌, subst}
use Rattle.be_model.specs.Lies.{row_lies}
use Rattle.be_model.specs.Rows.{rows_in}
use Rattle.be_model.specs.Schemas.{Attributes}
use Rattle.be_model.specs.declared.changes.Row.{Row}
use Rattle.be_change.specs.Requests as asked
use Rattle.be_change.specs.Walk.{live_rows}
use Rattle.be_protocol.specs.Replies.{reply_text}
use Rattle.be_session.proofs.LiveLies.{live_lies}
use Rattle.be_mirror.proofs.Stepping.{read_replies, spent_replies, unbuilt_replies}
use Rattle.be_mirror.proofs.reads.dumped.Goals as goal

pub returns-in_err-n-clause-refused : goal.returns-in_err-n-clause-refused
returns-in_err-n-clause-refused g c =
    let gives : c.from_residual.result ≡ Err c.in_err-n.field-0.0 = search rules in
    unbuilt_replies g.J.Naming.schema asked.dumping c.args.glass.now c.all.new.self c.from_residual.result c.in_err-n.field-0.0 gives refl c.in_err-n.ensures.refused

pub write_rows-requires-clause-lies : goal.write_rows-requires-clause-lies
write_rows-requires-clause-lies g c =
    let h = c.all.new.self.known in
    subst (All (λ (row : Row). row_lies c.args.schema.now row ≡ true)) (sym (c.rows.ensures ∙ c.in_ok-n.ensures.found))
    (subst (λ (s : Attributes). All (λ (row : Row). row_lies s row ≡ true) (live_rows h)) (sym c.requires) (live_lies g.J.Naming.schema h c.front.ensures.sound.lies))

pub returns-in-Ok-clause-told : goal.returns-in-Ok-clause-told
returns-in-Ok-clause-told g c =
    let s = g.J.Naming.schema in
    let h = c.all.new.self.known in
    let n = c.in_ok-n.n in
    let rows : rows_in c.rows.result.now ≡ live_rows h = c.rows.ensures ∙ c.in_ok-n.ensures.found in (
      asked.dumped n (live_rows h),
      read_replies s asked.dumping (asked.dumped n (live_rows h)) n c.args.glass.now c.all.new.self refl c.in_ok-n.ensures.read c.in_ok-n.ensures.read.counts
          (λ k w at front. (at, ap live_rows (sym front), refl)),
      c.in-Ok.ensures ∙ (ap (λ l. reply_text c.args.schema.now (asked.dumped n l)) rows ∙ ap (λ (t : Attributes). reply_text t (asked.dumped n (live_rows h))) c.requires),
    )

pub returns-in-Err-clause-refused : goal.returns-in-Err-clause-refused
returns-in-Err-clause-refused g c = spent_replies g.J.Naming.schema asked.dumping c.in_ok-n.n c.args.glass.now c.all.new.self refl c.in_ok-n.ensures.read
