-- What was delivered stays so as the list grows.
use Rattle.std.proofs.Common.{◌≡◌, List, take, ap, ◌∙◌, arith}
use Rattle.std.proofs.lemmas.List.{take-append-le}
use Rattle.be_base.specs.Lists.{BeginsWith}
use Rattle.be_base.proofs.Beginnings.{BeginsWith-length}
use Rattle.be_model.specs.ByIds.{row_at}
use Rattle.be_model.specs.Letters.{PlainLetter}
use Rattle.be_model.specs.Rows.{id_of}
use Rattle.be_change.specs.History.{Entry, live}
use Rattle.be_board.specs.Word.{IsDelivered}

pub delivered_along : (h h' : List Entry) (l : PlainLetter) → BeginsWith h' h → IsDelivered h l → IsDelivered h' l
delivered_along h h' l longer d =
    let same : take l.n h' ≡ take l.n h = ap (λ (x : List Entry). take l.n x) longer.1 ∙ take-append-le l.n h longer.0 d.within in
    record { within = omega (arith, d.within, BeginsWith-length h' h longer); stands = ap (λ (x : List Entry). row_at (id_of l.row) (live x)) same ∙ d.stands }
