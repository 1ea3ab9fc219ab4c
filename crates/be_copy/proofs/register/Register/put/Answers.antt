-- The row is filed, or taken out again.
use Rattle.std.proofs.Common.{subst, sym}
use Rattle.be_copy.specs.Places.{is_listed}
use Rattle.be_copy.specs.Bitmaps.{is_noted}
use Rattle.be_copy.specs.Registers.{session_of_row, key_of_row, AreFiled}
use Rattle.be_copy.proofs.Filed.{filed_put, filed_undone}
use Rattle.be_copy.proofs.register.Register.put.Goals as goal

pub returns-in-Ok-clause-put : goal.returns-in-Ok-clause-put
returns-in-Ok-clause-put c = λ m new filed. record {
  sessions = filed_put session_of_row (is_noted c.args.self.now.sessions.blocks.entries) (is_noted c.put.new.self.blocks.entries) c.args.row.now c.args.row.now.session.0 m (λ i. c.args.row.now.session.0) new c.in_ok-put.ensures.put filed.sessions;
  names = filed_put key_of_row (is_listed c.args.self.now.names.pairs.keys) (is_listed c.put-2.new.self.pairs.keys) c.args.row.now c.name_key.result m c.name_key.ensures new c.in-Ok.ensures.put filed.names;
}

pub returns-in-Err-clause-refused : goal.returns-in-Err-clause-refused
returns-in-Err-clause-refused c = λ m new filed.
    let row = c.args.row.now in record {
      sessions = filed_undone session_of_row (is_noted c.put.new.self.blocks.entries) (is_noted c.drop_pair.new.self.blocks.entries) row row.session.0 m (λ i. row.session.0) new c.drop_pair.ensures
          (filed_put session_of_row (is_noted c.args.self.now.sessions.blocks.entries) (is_noted c.put.new.self.blocks.entries) row row.session.0 m (λ i. row.session.0) new c.in_ok-put.ensures.put filed.sessions);
      names = subst (λ (pairs : _). AreFiled key_of_row (is_listed pairs) m) (sym c.in-Err.ensures.refused) filed.names;
    }
