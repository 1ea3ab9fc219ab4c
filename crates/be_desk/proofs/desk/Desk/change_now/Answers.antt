use Rattle.std.proofs.Common.{arith}
use Rattle.be_desk.specs.Asks.{request_of}
use Rattle.be_desk.proofs.Answering.{answers}
use Rattle.be_desk.proofs.CoreRuns.{is_run_of_core}
use Rattle.be_desk.proofs.desk.Desk.change_now.Goals as goal

pub returns-clause-answers : goal.returns-clause-answers
returns-clause-answers g c =
    answers c.args.self.now c.decide-answer.new.self c.args.seat.now c.decide-answer.new.seat (request_of c.args.ask) c.decide-answer.result c.decide-answer.ensures.changed

pub returns-clause-core : goal.returns-clause-core
returns-clause-core g c =
    is_run_of_core c.args.self.now c.decide-answer.new.self c.args.seat.now c.decide-answer.new.seat c.args.ask c.decide-answer.result
    (record { begins = c.len.ensures.begins; one = omega (arith, c.len.ensures.len, c.len.ensures.held) }) c.len-2.ensures.sound.formed c.decide-answer.ensures.steps c.decide-answer.ensures.patience c.decide-answer.ensures.seat c.few.ensures c.decide-answer.ensures.changed
