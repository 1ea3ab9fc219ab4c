-- The reply tells what the read found, or why there is none.
use Rattle.std.proofs.Common.{rules, ◌≡◌, List, length, Err, refl, sym, ap, ◌∙◌}
use Rattle.std.proofs.lemmas.List.{length-map}
use Rattle.be_change.specs.History.{Entry, hit_rows, hits}
use Rattle.be_change.specs.Requests as asked
use Rattle.be_mirror.proofs.Stepping.{read_replies, spent_replies, unbuilt_replies}
use Rattle.be_mirror.proofs.reads.hits.Goals as goal

pub returns-in_err-n-clause-refused : goal.returns-in_err-n-clause-refused
returns-in_err-n-clause-refused g c =
    let gives : c.from_residual.result ≡ Err c.in_err-n.field-0.0 = search rules in
    unbuilt_replies g.J.Naming.schema (asked.publish c.args.event.now) c.args.glass.now c.hits.new.self c.from_residual.result c.in_err-n.field-0.0 gives refl c.in_err-n.ensures.refused

pub returns-in-Ok-clause-told : goal.returns-in-Ok-clause-told
returns-in-Ok-clause-told g c =
    let s = g.J.Naming.schema in
    let e = c.args.event.now in
    let h = c.hits.new.self.known in
    let n = c.in_ok-n.n in
    let rows = hit_rows h e in
    let count : length (hits h e) ≡ c.count.result = length-map rows (λ r. r.1.name) ∙ sym (length-map rows (λ r. r.0)) ∙ ap length (sym c.in_ok-n.ensures.ids) ∙ sym c.count.ensures in
    let text = sym (c.as_slice-names.ensures.value ∙ c.in_ok-n.ensures.names) in (
      asked.hit n (hits h e),
      read_replies s (asked.publish e) (asked.hit n (hits h e)) n c.args.glass.now c.hits.new.self refl c.in_ok-n.ensures.read c.in_ok-n.ensures.read.counts
          (λ k w at front. (at, ap (λ (l : List Entry). hits l e) (sym front), refl)),
      c.in-Ok.ensures s (hits h e) count text,
    )

pub returns-in-Err-clause-refused : goal.returns-in-Err-clause-refused
returns-in-Err-clause-refused g c =
    spent_replies g.J.Naming.schema (asked.publish c.args.event.now) c.in_ok-n.n c.args.glass.now c.hits.new.self refl c.in_ok-n.ensures.read
