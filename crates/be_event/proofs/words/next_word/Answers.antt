use Rattle.std.proofs.Common.{◌≡◌, ◌<◌, length, arith}
use Rattle.std.proofs.lemmas.Bool.Decides.{nat_tests}
use Rattle.be_event.proofs.WordLemmas.{same_words, shorter_after, word_found, no_words}
use Rattle.be_event.proofs.words.next_word.Goals as goal

pub returns : goal.returns
returns c =
    let some : 0 < length c.after_blanks-text.result.now = grind (arith, nat_tests, c.is_empty.ensures) in
    word_found c.word_len.result c.args.text.now c.after_blanks-text.result.now c.split_at.result.0.now c.split_at.result.1.now
    (same_words c.args.text.now c.after_blanks-text.result.now c.after_blanks-text.ensures) (shorter_after c.args.text.now c.after_blanks-text.result.now c.after_blanks-text.ensures) c.after_blanks-text.ensures.first some
    c.word_len.ensures.within c.word_len.ensures.word c.word_len.ensures.rest c.split_at.ensures.front c.split_at.ensures.back

pub returns-then-is_empty : goal.returns-then-is_empty
returns-then-is_empty c =
    let none : length c.after_blanks-text.result.now ≡ 0 = grind (arith, nat_tests, c.is_empty.ensures, c.if-is_empty.true) in
    no_words c.args.text.now c.after_blanks-text.result.now c.after_blanks-text.ensures none
