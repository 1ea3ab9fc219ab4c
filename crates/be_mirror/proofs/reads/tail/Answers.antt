-- The reply tells what the read found, or why there is none.
use Rattle.std.proofs.Common.{rules, ◌≡◌, ◌++◌, true, List, Err, refl, sym, ap, ◌∙◌, subst}
use Rattle.be_model.specs.Schemas.{Attributes}
use Rattle.be_change.specs.Entries.{entries_in}
use Rattle.be_change.specs.History.{Entry}
use Rattle.be_change.specs.Requests as asked
use Rattle.be_change.specs.Sound.{all_lie}
use Rattle.be_change.specs.Walk.{tail_from}
use Rattle.be_protocol.specs.Replies.{reply_text}
use Rattle.be_session.proofs.LiveLies.{tail_lies}
use Rattle.be_mirror.proofs.Stepping.{read_replies, spent_replies, unbuilt_replies}
use Rattle.be_mirror.proofs.reads.tail.Goals as goal

pub returns-in_err-n-clause-refused : goal.returns-in_err-n-clause-refused
returns-in_err-n-clause-refused g c =
    let gives : c.from_residual.result ≡ Err c.in_err-n.field-0.0 = search rules in
    unbuilt_replies g.J.Naming.schema (asked.tailing c.args.place c.args.max) c.args.glass.now c.tail.new.self c.from_residual.result c.in_err-n.field-0.0 gives refl c.in_err-n.ensures.refused

pub write_changes-requires-clause-lies : goal.write_changes-requires-clause-lies
write_changes-requires-clause-lies g c =
    let h = c.tail.new.self.known in
    subst (λ es. all_lie c.args.schema.now es ≡ true)
    (sym (ap entries_in c.as_slice-changes.ensures.value ∙ (c.in_ok-n.ensures.put ∙ ap (λ (l : List Entry). l ++ tail_from c.args.place c.args.max h) (ap entries_in c.clear-2.ensures.items))))
    (subst (λ (s : Attributes). all_lie s (tail_from c.args.place c.args.max h) ≡ true) (sym c.requires) (tail_lies g.J.Naming.schema c.args.place c.args.max h c.front.ensures.sound.lies))

pub returns-in-Ok-clause-told : goal.returns-in-Ok-clause-told
returns-in-Ok-clause-told g c =
    let s = g.J.Naming.schema in
    let h = c.tail.new.self.known in
    let n = c.in_ok-n.n in
    let entries : List Entry = tail_from c.args.place c.args.max h in (
      asked.tailed n c.args.place entries,
      read_replies s (asked.tailing c.args.place c.args.max) (asked.tailed n c.args.place entries) n c.args.glass.now c.tail.new.self refl c.in_ok-n.ensures.read c.in_ok-n.ensures.read.counts
          (λ k w at front. (at, refl, ap (tail_from c.args.place c.args.max) (sym front), refl)),
      c.in-Ok.ensures
          ∙ (ap (λ es. reply_text c.args.schema.now (asked.tailed n c.args.place es)) (ap entries_in c.as_slice-changes.ensures.value ∙ (c.in_ok-n.ensures.put ∙ ap (λ (l : List Entry). l ++ tail_from c.args.place c.args.max h) (ap entries_in c.clear-2.ensures.items)))
          ∙ ap (λ (t : Attributes). reply_text t (asked.tailed n c.args.place entries)) c.requires),
    )

pub returns-in-Err-clause-refused : goal.returns-in-Err-clause-refused
returns-in-Err-clause-refused g c =
    spent_replies g.J.Naming.schema (asked.tailing c.args.place c.args.max) c.in_ok-n.n c.args.glass.now c.tail.new.self refl c.in_ok-n.ensures.read
