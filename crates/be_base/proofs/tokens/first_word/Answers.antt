use Rattle.be_base.proofs.Lexing.{word_scanned}
use Rattle.be_base.proofs.tokens.first_word.Goals as goal

pub returns : goal.returns
returns c =
    let k = c.word_len.ensures in
    word_scanned c.word_len.result c.args.text.now c.split_at.result.0.now c.split_at.result.1.now c.split_at.ensures.front c.split_at.ensures.back c.requires k.word k.rest
