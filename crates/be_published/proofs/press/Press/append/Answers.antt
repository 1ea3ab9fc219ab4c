-- The pending notes lead to the whole, with one more too.
use Rattle.std.proofs.Common.{◌≡◌, ◌++◌, List, [], drop, ap, sym, ◌∙◌}
use Rattle.std.specs.Option.{option_to_list}
use Rattle.be_published.proofs.Pending.{append_kept}
use Rattle.be_published.proofs.press.Press.append.Goals as goal

pub invariant_of-self-2 : goal.invariant_of-self-2
invariant_of-self-2 g c = (
  append_kept (g.T.Sheet.list c.self.inside.writer.desk.shown.value) (g.T.Sheet.list c.handed.new.writer.desk.shown.value) c.self.inside.front c.in-Ok.front c.again.result
      c.self.inside.reshaped.items c.self.inside.steps.items c.take_note.new.steps.items
      _ _ (option_to_list c.is_settled.new.late) _ _ c.args.edit
      c.self.invariant.0 c.is_settled.ensures.notes (ap option_to_list (c.is_settled.ensures.none c.if-not-is_settled.false)) c.handed.ensures.notes (ap (λ d. g.T.Sheet.list d.shown.value) (c.handed.ensures.desk ∙ c.is_settled.ensures.desk)) c.make-note.ensures c.again.ensures c.in-Ok.ensures.edited
      c.take_note.ensures.steps,
  c.take_note.ensures.loose c.self.inside.reshaped.items c.self.invariant.1,
)
