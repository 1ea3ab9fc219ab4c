use Rattle.std.proofs.Common.{sym, ◌∙◌, subst}
use Rattle.be_mail.specs.Settled.{AreAll, AreKept, TakenWerePut}
use Rattle.worked_parts.proofs.SeatPasses.{three_pushed, three_seats, first_took}
use Rattle.worked_parts.proofs.mail.close.Goals as goal

pub settle-requires : goal.settle-requires
settle-requires g c =
    let mail = c.args.hub.now.mail in
    let p = c.args.c.passes in
    let q = c.args.b.passes in
    let r = c.args.a.passes in
    let of = sym c.args.hub.now.named in
    let items = three_pushed _ _ _ _ p q r c.new-all.ensures.items c.in_ok-push.ensures.items c.in_ok-push-2.ensures.items c.in_ok-push-3.ensures.items in
    subst (AreAll mail) (sym items) (three_seats mail p q r c.requires.boxes (c.args.c.named ∙ of) (c.args.b.named ∙ of) (c.args.a.named ∙ of) c.requires.seats.2 c.requires.seats.1 c.requires.seats.0)

pub returns-clause-kept : goal.returns-clause-kept
returns-clause-kept g c =
    let items = three_pushed _ _ _ _ c.args.c.passes c.args.b.passes c.args.a.passes c.new-all.ensures.items c.in_ok-push.ensures.items c.in_ok-push-2.ensures.items c.in_ok-push-3.ensures.items in
    subst (AreKept g.S.Post.schema g.S.Post.seats g.S.Post.found c.args.hub.now.mail) items c.settle.ensures.kept

pub returns-clause-taken : goal.returns-clause-taken
returns-clause-taken g c =
    let items = three_pushed _ _ _ _ c.args.c.passes c.args.b.passes c.args.a.passes c.new-all.ensures.items c.in_ok-push.ensures.items c.in_ok-push-2.ensures.items c.in_ok-push-3.ensures.items in
    subst TakenWerePut items c.settle.ensures.taken

pub returns-clause-early : goal.returns-clause-early
returns-clause-early g c = first_took c.args.c.passes c.args.b.passes c.args.a.passes c.args.c.early c.args.b.early c.args.a.early (returns-clause-taken g c)
