-- The row is taken out.
use Rattle.be_copy.specs.Places.{is_listed}
use Rattle.be_copy.specs.Bitmaps.{is_noted}
use Rattle.be_copy.specs.Registers.{session_of_row, key_of_row}
use Rattle.be_copy.proofs.Filed.{filed_drop, filed_undone}
use Rattle.be_copy.proofs.register.Register.drop_row.Goals as goal

pub returns-clause-removed : goal.returns-clause-removed
returns-clause-removed c = λ m there filed.
    let r = c.args.self.now in
    let row = c.args.row.now in record {
      sessions = filed_drop session_of_row (is_noted r.sessions.blocks.entries) (is_noted c.drop_pair.new.self.blocks.entries) row row.session.0 m (λ i. row.session.0) c.drop_pair.ensures there filed.sessions;
      names = filed_drop key_of_row (is_listed r.names.pairs.keys) (is_listed c.drop_pair-2.new.self.pairs.keys) row c.name_key.result m c.name_key.ensures c.drop_pair-2.ensures there filed.names;
    }

pub returns-clause-undone : goal.returns-clause-undone
returns-clause-undone c = λ m new filed.
    let r = c.args.self.now in
    let row = c.args.row.now in record {
      sessions = filed_undone session_of_row (is_noted r.sessions.blocks.entries) (is_noted c.drop_pair.new.self.blocks.entries) row row.session.0 m (λ i. row.session.0) new c.drop_pair.ensures filed.sessions;
      names = filed_undone key_of_row (is_listed r.names.pairs.keys) (is_listed c.drop_pair-2.new.self.pairs.keys) row c.name_key.result m c.name_key.ensures new c.drop_pair-2.ensures filed.names;
    }
