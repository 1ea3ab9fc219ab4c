-- Names of nothing, from which a caller picks others.
use Rattle.std.specs.Prelude.{List, [], ⊤}
use Rattle.atomic_table.specs.Seated.{TableId}
use Rattle.be_model.specs.Schemas.{Attributes}
use Rattle.be_mail.specs.Mailbox.{BoxId, Mailbox}

abbrev pub no_attributes : Attributes
no_attributes = []

abbrev pub always_found : BoxId → Mailbox → Type 0
always_found mailbox state = ⊤

abbrev pub no_boxes : List TableId
no_boxes = []
