use Rattle.be_model.proofs.ReadBack.{int_is_word, values_are_read}
use Rattle.be_model.proofs.schemas.Domain.write_value.Goals as goal

pub returns-in_err-extend_from_slice-in-Int-clause-word :
    goal.returns-in_err-extend_from_slice-in-Int-clause-word
returns-in_err-extend_from_slice-in-Int-clause-word c = int_is_word c.args.self.now c.in-Int.lo c.in-Int.hi c.args.v c.in-Int.is c.requires.valid c.requires.within

pub returns-in_err-extend_from_slice-in-Int-clause-read :
    goal.returns-in_err-extend_from_slice-in-Int-clause-read
returns-in_err-extend_from_slice-in-Int-clause-read c = values_are_read c.args.self.now c.args.v c.requires.valid c.requires.within

pub returns-in_err-extend_from_slice-in-Sym-clause-read :
    goal.returns-in_err-extend_from_slice-in-Sym-clause-read
returns-in_err-extend_from_slice-in-Sym-clause-read c = values_are_read c.args.self.now c.args.v c.requires.valid c.requires.within

pub returns-in_ok-extend_from_slice-in-Int-clause-word :
    goal.returns-in_ok-extend_from_slice-in-Int-clause-word
returns-in_ok-extend_from_slice-in-Int-clause-word c = int_is_word c.args.self.now c.in-Int.lo c.in-Int.hi c.args.v c.in-Int.is c.requires.valid c.requires.within

pub returns-in_ok-extend_from_slice-in-Int-clause-read :
    goal.returns-in_ok-extend_from_slice-in-Int-clause-read
returns-in_ok-extend_from_slice-in-Int-clause-read c = values_are_read c.args.self.now c.args.v c.requires.valid c.requires.within

pub returns-in_ok-extend_from_slice-in-Sym-clause-read :
    goal.returns-in_ok-extend_from_slice-in-Sym-clause-read
returns-in_ok-extend_from_slice-in-Sym-clause-read c = values_are_read c.args.self.now c.args.v c.requires.valid c.requires.within
