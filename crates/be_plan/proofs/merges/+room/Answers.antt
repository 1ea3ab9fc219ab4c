use Rattle.std.proofs.Common.{◌≡◌, ◌+◌, length, Some, None, sym, ap, ◌∙◌, arith}
use Rattle.be_shape.specs.declared.nodes.Node.TheViews.{out-Node}
use Rattle.be_shape.specs.Plain.{plain, parts_as, half_as, rows_below, rows_in_parts, rows_in_half}
use Rattle.be_shape.proofs.RowCounts.{node_rows}
use Rattle.be_plan.specs.Merges.{left_after}
use Rattle.be_plan.proofs.Rooms.{left_on, left_more}
use Rattle.be_plan.proofs.merges.+room.Goals as goal

pub room_under-returns-in_err-room-2 : goal.room_under-returns-in_err-room-2
room_under-returns-in_err-room-2 t c =
    let x = out-Node c.args.n.now in
    let a = c.len.result in
    let b = length (rows_in_parts (parts_as c.as_slice.result.now)) in
    let l = length (rows_in_half (half_as x.low)) + length (rows_in_half (half_as x.high)) in
    let ab = left_on c.args.room a b (Some c.in_ok-room.room) None c.in_ok-room.ensures c.in_err-room-2.ensures in
    let whole : a + b + l ≡ length (rows_below (plain c.args.n.now)) = omega (arith, node_rows c.args.n.now, c.len.ensures, ap (λ ps. length (rows_in_parts (parts_as ps))) c.as_slice.ensures.value) in
    c.from_residual-in_err-room-2.ensures ∙ sym (left_more c.args.room (a + b) l (sym ab)) ∙ ap (left_after c.args.room) whole

pub room_under-returns-in_err-room-3 : goal.room_under-returns-in_err-room-3
room_under-returns-in_err-room-3 t c =
    let x = out-Node c.args.n.now in
    let a = c.len.result in
    let b = length (rows_in_parts (parts_as c.as_slice.result.now)) in
    let l = length (rows_in_half (half_as x.low)) in
    let h = length (rows_in_half (half_as x.high)) in
    let ab = left_on c.args.room a b (Some c.in_ok-room.room) (Some c.in_ok-room-2.room) c.in_ok-room.ensures c.in_ok-room-2.ensures in
    let abl = left_on c.args.room (a + b) l (Some c.in_ok-room-2.room) None ab c.in_err-room-3.ensures in
    let whole : a + b + l + h ≡ length (rows_below (plain c.args.n.now)) = omega (arith, node_rows c.args.n.now, c.len.ensures, ap (λ ps. length (rows_in_parts (parts_as ps))) c.as_slice.ensures.value) in
    c.from_residual-in_err-room-3.ensures ∙ sym (left_more c.args.room (a + b + l) h (sym abl)) ∙ ap (left_after c.args.room) whole

pub room_under-returns : goal.room_under-returns
room_under-returns t c =
    let x = out-Node c.args.n.now in
    let a = c.len.result in
    let b = length (rows_in_parts (parts_as c.as_slice.result.now)) in
    let l = length (rows_in_half (half_as x.low)) in
    let h = length (rows_in_half (half_as x.high)) in
    let ab = left_on c.args.room a b (Some c.in_ok-room.room) (Some c.in_ok-room-2.room) c.in_ok-room.ensures c.in_ok-room-2.ensures in
    let abl = left_on c.args.room (a + b) l (Some c.in_ok-room-2.room) (Some c.in_ok-room-3.room) ab c.in_ok-room-3.ensures in
    let all = left_on c.args.room (a + b + l) h (Some c.in_ok-room-3.room) c.room_under_half-2.result abl c.room_under_half-2.ensures in
    let whole : a + b + l + h ≡ length (rows_below (plain c.args.n.now)) = omega (arith, node_rows c.args.n.now, c.len.ensures, ap (λ ps. length (rows_in_parts (parts_as ps))) c.as_slice.ensures.value) in
    all ∙ ap (left_after c.args.room) whole
