use Rattle.std.proofs.Common.{◌≡◌, true, false, ap, ◌∙◌, arith, rules}
use Rattle.be_protocol.specs.Replies.{first_lines, closing_line}
use Rattle.be_demand.specs.Texts.{goes_on, says_hit}
use Rattle.be_demand.proofs.Blocks.{block_step}
use Rattle.be_demand.proofs.ReplyLines.{reply_block, last_says}
use Rattle.be_demand.proofs.replies.tell_reply.Goals as goal

pub loop-cut-init : goal.loop-cut-init
loop-cut-init c = record {
  within = omega arith;
  block = λ s r rest h is. (first_lines s r, reply_block s r c.args.text.now rest h is);
}

pub returns-then-not-goes_on-clause-told : goal.returns-then-not-goes_on-clause-told
returns-then-not-goes_on-clause-told c = λ s r rest h is.
    let cut = c.cut_line-cut.result in
    let b = c.loop-cut.invariant.block s r rest h is in
    let step = block_step cut.ended c.loop-cut.rest.now cut.line.now cut.rest.now b.0 (closing_line r) rest b.1 c.cut_line-cut.ensures.line in
    let no : goes_on cut.line.now ≡ false = search (rules, c.goes_on.ensures, c.if-not-goes_on.true) in
    let over = step.over no in
    (c.starts_with.ensures.value ∙ (ap says_hit over.0 ∙ last_says r), over.1)

pub loop-cut-preserved : goal.loop-cut-preserved
loop-cut-preserved c =
    let cut = c.cut_line-cut.result in
    record {
      within = omega (arith, c.loop-cut.invariant.within, c.cut_line-cut.ensures.shorter);
      block = λ s r rest h is.
          let b = c.loop-cut.invariant.block s r rest h is in
          let step = block_step cut.ended c.loop-cut.rest.now cut.line.now cut.rest.now b.0 (closing_line r) rest b.1 c.cut_line-cut.ensures.line in
          let yes : goes_on cut.line.now ≡ true = search (rules, c.goes_on.ensures, c.if-not-goes_on.false) in
          step.on yes;
    }
