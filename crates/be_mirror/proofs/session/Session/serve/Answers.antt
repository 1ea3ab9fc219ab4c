-- A session of reads is a conversation.
use Rattle.be_mirror.proofs.Showing.{session_ended, session_grew}
use Rattle.be_mirror.proofs.session.Session.serve.Goals as goal

pub returns-clause-ends : goal.returns-clause-ends
returns-clause-ends g c = session_ended _ _ g.J.Naming.schema c.args.self.now c.converse.new.replier _ _ c.converse.result (λ u. u) c.converse.ensures.ends

pub returns-clause-grows : goal.returns-clause-grows
returns-clause-grows g c = session_grew _ g.J.Naming.schema c.args.self.now c.converse.new.replier _ _ c.converse.result (λ u. u.1) c.converse.ensures.ends
