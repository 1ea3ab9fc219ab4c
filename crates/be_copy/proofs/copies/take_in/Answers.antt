-- The copy is right after one more change.
use Rattle.std.proofs.Common.{◌≡◌, ◌++◌, ◌∷◌, [], true, length, rules}
use Rattle.std.specs.Arc.{arc_value}
use Rattle.be_change.specs.History.{after_entry}
use Rattle.be_change.specs.Entries.{entry_of}
use Rattle.be_copy.specs.Edits.{fits}
use Rattle.be_copy.proofs.Kept.{kept_after}
use Rattle.be_copy.proofs.copies.take_in.Goals as goal

pub returns-clause-kept : goal.returns-clause-kept
returns-clause-kept g c =
    let s = g.I.Index.schema c.args.index.now in
    let h = c.args.log.now.list in
    let rows = g.I.Index.rows c.args.index.now in
    let e = entry_of (arc_value c.args.change.now) in
    let fit : fits s h e ≡ true = search rules in
    let grown : c.append.new.log.list ≡ h ++ e ∷ [] = search rules in
    let become : g.I.Index.rows c.change_rows.new.index ≡ after_entry rows (length h) e = search rules in
    kept_after s (g.I.Index.schema c.change_rows.new.index) h c.append.new.log.list rows (g.I.Index.rows c.change_rows.new.index) c.args.register.now c.change_rows.new.register e
    c.requires.kept fit c.change_rows.ensures.schema grown become c.change_rows.ensures.filed
