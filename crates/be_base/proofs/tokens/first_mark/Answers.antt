use Rattle.std.proofs.Common.{arith}
use Rattle.be_base.proofs.Lexing.{tokens_less_or_equal, tokens_greater_or_equal, tokens_not_equal}
use Rattle.be_base.proofs.FirstTokenLemmas.{no_token, at_bang}
use Rattle.be_base.proofs.tokens.first_mark.Goals as goal
use Rattle.be_base.proofs.tokens.first_mark.Goals.{in_default-via-in-33+in-None, in_default-via-in_default}

pub returns-in-60-Some : goal.returns-in-60-Some
returns-in-60-Some c = rw (c.in-60-Some.is-0, c.in-60-Some.ensures) (tokens_less_or_equal c.in-60-Some.after.now, omega arith)

pub returns-in-62-Some : goal.returns-in-62-Some
returns-in-62-Some c = rw (c.in-62-Some.is-0, c.in-62-Some.ensures) (tokens_greater_or_equal c.in-62-Some.after.now, omega arith)

pub returns-in-33-Some : goal.returns-in-33-Some
returns-in-33-Some c = rw (c.in-33-Some.is-0, c.in-33-Some.ensures) (tokens_not_equal c.in-33-Some.after.now, omega arith)

pub returns-in_default : goal.returns-in_default
returns-in_default c =
    elim c.in_default.branch [
      | in_default-via-in-33+in-None w ↦ at_bang c.args.first c.args.rest.now w.in_default.is-0 w.in_default.ensures
      | in_default-via-in_default w ↦
          let h = w.in_default.is-0 in
          no_token c.args.first c.args.rest.now c.requires.not_word c.requires.not_blank h.0.0.0.0.0.0.1 h.0.0.0.0.0.1 h.0.0.0.0.1 h.0.0.0.1 h.0.0.1 h.0.1 h.1
    ]
