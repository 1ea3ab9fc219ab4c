use Rattle.std.proofs.Common.{◌<◌, length, arith}
use Rattle.be_event.specs.SchemaTexts.{words}
use Rattle.be_event.specs.Declarations.{names_declared}
use Rattle.be_event.proofs.SchemaForms.{room_left, count_declared}
use Rattle.be_event.proofs.schema_texts.check.Goals as goal

pub push-requires : goal.push-requires
push-requires c =
    let few = room_left (names_declared c.as_slice.result.now) (words c.first_line.result.0.now) c.in-Declares.name c.in-Declares.ensures in
    let count = count_declared c.as_slice.result.now in
    let room : length c.as_slice.result.now < 256 = omega arith in
    (omega arith, rw c.as_slice.ensures.value at room)
