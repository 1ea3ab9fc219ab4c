-- The names of the found rows are the hits.
use Rattle.std.proofs.Common.{◌≡◌, ℕ, List, OnOk, length, ap, ◌∙◌, subst}
use Rattle.be_base.specs.Text.{Text}
use Rattle.be_model.specs.Rows.{rows_in}
use Rattle.be_change.specs.History.{hit_rows, hits}
use Rattle.be_change.specs.Requests.{hit}
use Rattle.be_protocol.specs.Replies.{reply_text}
use Rattle.be_protocol.specs.Texts.{names_in}
use Rattle.be_protocol.proofs.ReplyTexts.{names_in-rows_of}
use Rattle.be_follow.proofs.reads.Room.hits.Goals as goal

pub returns : goal.returns
returns g c = λ s.
    let h = c.args.follower.now.fed.list in
    let e = c.args.event.now in
    let names : names_in (rows_in c.rows.result.now) ≡ hits h e = ap names_in (c.rows.ensures ∙ c.in_ok-find.ensures.found) ∙ names_in-rows_of (hit_rows h e) in
    subst (λ (ns : List Text). OnOk c.write_names.result (c.write_names.new.reply.items ≡ reply_text s (hit (length h) ns))) names
    (subst (λ (n : ℕ). OnOk c.write_names.result (c.write_names.new.reply.items ≡ reply_text s (hit n (names_in (rows_in c.rows.result.now))))) c.len.ensures.len (c.write_names.ensures s))
