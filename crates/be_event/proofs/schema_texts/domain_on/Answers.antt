use Rattle.std.proofs.Common.{◌≡◌, true, false, is_some, codes}
use Rattle.be_base.specs.Text.{same_text}
use Rattle.be_event.specs.SchemaTexts.{words, sym_domain}
use Rattle.be_event.proofs.SchemaForms.{says_symbols}
use Rattle.be_event.proofs.schema_texts.domain_on.Goals as goal

pub returns-then-are_symbols : goal.returns-then-are_symbols
returns-then-are_symbols c =
    let some : is_some (sym_domain (words c.args.text.now)) ≡ true = cc in
    let other : same_text c.args.kind.now (codes "int") ≡ false = cc in
    let symbols : same_text c.args.kind.now (codes "sym") ≡ true = cc in
    says_symbols c.args.kind.now (words c.args.text.now) c.in_ok-words.words other symbols some c.in_ok-words.ensures
