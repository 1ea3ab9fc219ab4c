use Rattle.std.proofs.Common.{◌≡◌, true, false, is_some, Ok, refl, sym, ap, ◌∙◌}
use Rattle.be_base.specs.TextLists.{is_among_texts}
use Rattle.be_model.proofs.NamePlaces.{is_some-place_of}
use Rattle.be_load_files.specs.Tables.{row_names}
use Rattle.be_load_files.proofs.read.Table.put_new.Goals as goal

pub returns-then-is_some : goal.returns-then-is_some
returns-then-is_some c =
    let t = c.args.self.now in
    let among : is_among_texts c.args.name (row_names t.rows.items) ≡ true =
    ap (is_among_texts c.args.name) (sym c.requires) ∙ sym (is_some-place_of t.names c.args.name) ∙ ap is_some (sym c.find.ensures.exact) ∙ sym c.is_some.ensures ∙ c.if-is_some.true in
    rw among refl

pub returns : goal.returns
returns c =
    let t = c.args.self.now in
    let apart : is_among_texts c.args.name (row_names t.rows.items) ≡ false =
    ap (is_among_texts c.args.name) (sym c.requires) ∙ sym (is_some-place_of t.names c.args.name) ∙ ap is_some (sym c.find.ensures.exact) ∙ sym c.is_some.ensures ∙ c.if-is_some.false in
    (rw apart (ap (λ r. Ok r) (sym c.in_ok-put.ensures.row)), c.in_ok-put.ensures.names)
