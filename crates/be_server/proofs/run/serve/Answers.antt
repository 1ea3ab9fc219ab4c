-- The session of a run, with the list that it left.
use Rattle.std.proofs.Common.{rules, ◌≡◌, inl, refl}
use Rattle.be_server.proofs.RunSession.{ran_over}
use Rattle.be_server.proofs.run.serve.Goals as goal

pub returns-in_default-clause-ends : goal.returns-in_default-clause-ends
returns-in_default-clause-ends g c = inl (refl, refl)

pub returns-in_default-try_clone-clause-ends : goal.returns-in_default-try_clone-clause-ends
returns-in_default-try_clone-clause-ends g c = inl (refl, refl)

pub returns-in_default-open-clause-ends : goal.returns-in_default-open-clause-ends
returns-in_default-open-clause-ends g c = inl (refl, refl)

pub returns-clause-ends : goal.returns-clause-ends
returns-clause-ends g c =
    let same : c.deref.result.now ≡ c.args.loaded.schema = search rules in
    ran_over _ ((c.serve_pair-end.new.input ≡ c.args.input.now) × (c.serve_pair-end.new.out ≡ c.args.out.now)) c.args.loaded.schema _ _ c.args.loaded.rows.items _ _ _ _ c.serve_pair-end.result
    (λ u. (u.0, u.1)) c.in-Ok-open.ensures c.log.ensures.keeps (search rules) same c.serve_pair-end.ensures.ends
