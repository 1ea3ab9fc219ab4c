use Rattle.std.proofs.Common.{◌≡◌, ◌<◌, ◌++◌, ◌∷◌, ℕ}
use Rattle.be_mail.specs.Passes.{Passes}
use Rattle.be_mail.specs.Settled.{AreSums, IsKept}
use Rattle.be_mail.proofs.mail.Mail.settle.Given as goal

abbrev pub invariant-loop-other : goal.invariant-loop-other
invariant-loop-other g l =
    (goal.iterator-loop-other g).can_next l.other-iterator ×
    (goal.iterator-loop-other g).is_finite l.other-iterator ×
    ((q : Passes) × (l.fn.passes.items ≡ (q ∷ l.yielded) ++ l.other-iterator.rest.items) × AreSums l.self (q ∷ l.yielded) l.sum.items)

abbrev pub invariant-loop-place : goal.invariant-loop-place
invariant-loop-place g l =
    AreSums l.self l.fn.passes.items l.sum.items × ((mailbox : ℕ) → mailbox < l.place → IsKept g.S.Post.schema g.S.Post.seats g.S.Post.found l.self l.fn.passes.items mailbox)
