-- The change is the next, so the copy's list is the one that the note names.
use Rattle.std.proofs.Common.{◌≡◌, ◌+◌, length, sym, ap, subst, ◌∙◌, arith}
use Rattle.be_copy.specs.declared.edits.Edit.{Edit}
use Rattle.be_published.specs.Notes.{noted, leads_to}
use Rattle.be_published.proofs.Pending.{IsChange, next_taken, noted_next}
use Rattle.be_published.proofs.page.Page.take_in.Goals as goal

pub invariant_of-self-in-Change : goal.invariant_of-self-in-Change
invariant_of-self-in-Change g c =
    let is : IsChange c.note.inside.edit = subst (λ (e : Edit). IsChange e) (sym c.in-Change.is) tt in
    let len : length c.note.inside.front ≡ length c.self.inside.front + 1 = omega (arith, c.len-here.ensures.length, c.len-there.ensures.length) in
    let taken = next_taken g.J.Naming.schema (g.I.Index.schema c.self.inside.copy.index) c.self.inside.copy.list c.self.inside.front c.note.inside.front c.note.inside.edit is c.self.invariant.1 c.self.invariant.0 c.note.invariant c.begins.ensures len c.len-there.ensures.sound in
    (c.again.ensures ∙ sym (c.in_ok-absorb-in-Change.ensures.list ∙ taken), c.absorb.ensures.schema ∙ c.self.invariant.1, c.absorb.ensures.bounded ∙ c.self.invariant.2)

pub returns-in_ok-absorb-in-Change : goal.returns-in_ok-absorb-in-Change
returns-in_ok-absorb-in-Change g c =
    let is : IsChange c.note.inside.edit = subst (λ (e : Edit). IsChange e) (sym c.in-Change.is) tt in
    let h = c.self.inside.copy.list in
    let next = c.note.inside.front in
    let len : length next ≡ length c.self.inside.front + 1 = omega (arith, c.len-here.ensures.length, c.len-there.ensures.length) in
    let taken = next_taken g.J.Naming.schema (g.I.Index.schema c.self.inside.copy.index) h c.self.inside.front next c.note.inside.edit is c.self.invariant.1 c.self.invariant.0 c.note.invariant c.begins.ensures len c.len-there.ensures.sound in
    c.in_ok-absorb-in-Change.ensures.list ∙ (taken
    ∙ (sym (noted_next h next c.note.inside.edit is (len ∙ ap (λ l. length l + 1) c.self.invariant.0))
    ∙ (ap (λ v. noted v.list (leads_to c.note.inside.edit next)) c.self.view_is ∙ ap (noted c.args.self.now.list) c.note.view_is)))
