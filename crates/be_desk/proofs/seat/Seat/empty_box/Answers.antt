-- One letter more was taken out.
use Rattle.std.proofs.Common.{length}
use Rattle.be_model.specs.Letters.{plain_letter}
use Rattle.be_mail.specs.Letters.{posting}
use Rattle.be_desk.proofs.Emptied.{takes_more}
use Rattle.be_desk.proofs.seat.Seat.empty_box.Goals as goal

pub loop-preserved : goal.loop-preserved
loop-preserved g c =
    let t = c.in-Some.ensures.taken in
    takes_more g.J.Naming.schema (length g.J.BoxNames.boxes) c.loop.counter c.args.self.now c.loop.self c.take.new.self c.loop.invariant c.take.ensures.seat (posting t.0 (plain_letter c.in-Some.field-0.0)) t.1 t.2
