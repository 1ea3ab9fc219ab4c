use Rattle.std.proofs.Common.{◌≡◌, length, map}
use Rattle.crossbeam_queue.specs.Passes.{IsPassOf, ruled_capacity}
use Rattle.be_base.specs.declared.limits.TheConstants.{BOX_LETTERS}
use Rattle.be_mail.specs.Boxes.{name_of, AreRowsUpTo}
use Rattle.be_mail.proofs.Rows.{IsRoot}
use Rattle.be_mail.proofs.make.add_mailbox.Given as goal

abbrev pub invariant-loop-seat : goal.invariant-loop-seat
invariant-loop-seat g l =
    IsPassOf l.mailbox l.root × (ruled_capacity l.mailbox ≡ BOX_LETTERS) × (length l.boxes.items ≡ l.place) × (l.seat-end ≡ g.S.Post.seats)
    × IsRoot g.S.Post.seats l.place l.seat l.root × AreRowsUpTo l.seat g.S.Post.seats (map name_of l.boxes.items) (name_of l.mailbox) l.rows.items
