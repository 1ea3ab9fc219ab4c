-- What was put is the last row, which is taken out.
use Rattle.std.proofs.Common.{sym, subst, arith}
use Rattle.be_copy.specs.Registers.{IsRegister as IsFiled}
use Rattle.be_change.specs.History.{live}
use Rattle.be_desk.proofs.Filing.{is_new, put_last, one_more}
use Rattle.be_desk.proofs.register.Register.take_back.Goals as goal

pub overflow_sub-self : goal.overflow_sub-self
overflow_sub-self c = omega (arith, c.requires.filed.count, one_more c.args.list.now.list c.args.row.now)

pub returns : goal.returns
returns c =
    let h = c.args.list.now.list in
    let row = c.args.row.now in record {
      filed = c.drop_row.ensures.undone (live h) (is_new h row c.requires.next) (subst (IsFiled c.args.self.now.filed) (sym (put_last h row c.requires.next)) c.requires.filed.filed);
      count = omega (arith, c.requires.filed.count, one_more h row);
    }
