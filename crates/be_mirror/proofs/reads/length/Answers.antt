-- The length that is told is that of what is known then.
use Rattle.std.proofs.Common.{List, inl, inr, sym, ap, subst}
use Rattle.be_base.specs.Lists.{BeginsWith}
use Rattle.be_base.proofs.Beginnings.{BeginsWith-same}
use Rattle.be_change.specs.History.{Entry}
use Rattle.be_published.specs.States.{GlassState}
use Rattle.be_mirror.proofs.Stepping.{quit_replies}
use Rattle.be_mirror.proofs.reads.length.Goals as goal

pub returns-in-Some : goal.returns-in-Some
returns-in-Some g c =
    let read = c.in-Some.ensures.read in
    quit_replies g.J.Naming.schema c.in-Some.n c.args.glass.now c.look.new.self read.known read.length (inl read.counts)

pub returns-in-None : goal.returns-in-None
returns-in-None g c =
    let before = c.args.glass.now in
    let after = c.look.new.self in
    let shut = c.in-None.ensures.refused in
    quit_replies g.J.Naming.schema c.front.result before after
    (subst (λ (l : List Entry). BeginsWith l before.known) (sym (ap (λ (x : GlassState). x.known) shut)) (BeginsWith-same before.known)) c.front.ensures.front (inr shut)
