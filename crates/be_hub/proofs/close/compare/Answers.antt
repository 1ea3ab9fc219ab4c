use Rattle.std.proofs.Common.{length, map, sym, ap, ◌∙◌, subst}
use Rattle.std.specs.List.{All}
use Rattle.be_mail.specs.Passes.{AreOfSeat}
use Rattle.be_mail.specs.Settled.{TakenWerePut}
use Rattle.be_mail.specs.Settled as mail
use Rattle.be_desk.specs.Closing.{AreAllSeats, AreKept, IsStray}
use Rattle.be_hub.proofs.Closing.{keeps_all, none_said}
use Rattle.be_hub.proofs.close.compare.Goals as goal

pub check_records-requires : goal.check_records-requires
check_records-requires g c = record { all = subst (AreAllSeats g.J.BoxNames.boxes) (sym c.deref.ensures.value) c.requires.all }

pub returns-in-None-clause-keeps : goal.returns-in-None-clause-keeps
returns-in-None-clause-keeps g c =
    let kept = none_said c.in-Ok.found (AreKept g.J.BoxNames.boxes c.args.desk.now.list c.deref.result.now) (λ stray. IsStray c.args.desk.now.list c.deref.result.now stray) c.in-None.is c.in-Ok.ensures in
    keeps_all g.J.BoxNames.boxes c.args.desk.now.list c.args.desk.now.published c.args.seats.items c.len.ensures.sound.formed c.len.ensures.begins c.in_ok-passes.ensures.shown
    (subst (AreKept g.J.BoxNames.boxes c.args.desk.now.list) c.deref.ensures.value kept) (subst TakenWerePut c.in_ok-passes.ensures.passes c.settle.ensures.taken)

pub returns-in-None-clause-letters : goal.returns-in-None-clause-letters
returns-in-None-clause-letters g c = record {
  form = subst (All AreOfSeat) c.in_ok-passes.ensures.passes c.in_ok-passes.ensures.form;
  kept = subst (λ n. mail.AreKept g.S.Post.schema n g.S.Post.found g.J.BoxNames.boxes (map (λ s. s.passes) c.args.seats.items)) (sym c.seats.ensures.boxes ∙ ap (λ m. length m) c.requires.mail)
      (subst (λ qs. mail.AreKept g.S.Post.schema g.S.Post.seats g.S.Post.found g.J.BoxNames.boxes qs) c.in_ok-passes.ensures.passes
      (subst (λ m. mail.AreKept g.S.Post.schema g.S.Post.seats g.S.Post.found m c.in_ok-passes.passes.items) c.requires.mail c.settle.ensures.kept));
  taken = subst TakenWerePut c.in_ok-passes.ensures.passes c.settle.ensures.taken;
}
