-- A scan begins after the blanks.
use Rattle.std.proofs.Common.{ap, rules}
use Rattle.std.proofs.lemmas.List.{nil_from_length}
use Rattle.be_base.specs.Tokens.{tokens}
use Rattle.be_base.specs.declared.tokens.Scan.TheVariants.{End}
use Rattle.be_base.proofs.FirstTokenLemmas.{Scans-IsAfterBlanks}
use Rattle.be_base.proofs.tokens.next_token.Goals as goal

pub returns-in_default : goal.returns-in_default
returns-in_default c = Scans-IsAfterBlanks c.args.text.now c.after_blanks-text.result.now End c.after_blanks-text.ensures (ap tokens (nil_from_length c.after_blanks-text.result.now c.in_default.ensures.cases))

pub returns-then-is_word_byte : goal.returns-then-is_word_byte
returns-then-is_word_byte c = Scans-IsAfterBlanks c.args.text.now c.after_blanks-text.result.now c.first_word.result c.after_blanks-text.ensures c.first_word.ensures

pub returns : goal.returns
returns c = Scans-IsAfterBlanks c.args.text.now c.after_blanks-text.result.now c.first_mark.result c.after_blanks-text.ensures (search rules)
