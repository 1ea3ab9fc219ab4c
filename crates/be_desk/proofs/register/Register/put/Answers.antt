-- The row is filed and counted, or nothing is.
use Rattle.std.proofs.Common.{subst, arith, rules}
use Rattle.be_copy.specs.Registers.{IsRegister as IsFiled}
use Rattle.be_change.specs.History.{live}
use Rattle.be_desk.specs.Registers.{IsRegister}
use Rattle.be_desk.proofs.Filing.{is_new, put_last, one_more, live_few}
use Rattle.be_desk.proofs.register.Register.put.Goals as goal

pub overflow_add-self : goal.overflow_add-self
overflow_add-self c = omega (arith, c.requires.filed.count, live_few c.args.list.now.list, c.len.ensures.len, c.len.ensures.most)

pub returns-clause-put : goal.returns-clause-put
returns-clause-put c =
    let h = c.args.list.now.list in
    let row = c.args.row.now in record {
      filed = subst (IsFiled c.put.new.self) (put_last h row c.requires.next) (c.in_ok-put.ensures.put (live h) (is_new h row c.requires.next) c.requires.filed.filed);
      count = omega (arith, c.requires.filed.count, one_more h row);
    }

pub returns-in_err-put-clause-refused : goal.returns-in_err-put-clause-refused
returns-in_err-put-clause-refused c =
    let h = c.args.list.now.list in
    let same : IsRegister (record { filed = c.put.new.self; count = c.args.self.now.count }) (live h) = record { filed = c.in_err-put.ensures.refused (live h) (is_new h c.args.row.now c.requires.next) c.requires.filed.filed; count = c.requires.filed.count } in
    search (rules, same)
