use Rattle.std.proofs.Common.{◌≡◌, false}
use Rattle.be_event.specs.SchemaTexts.{words, is_remark}
use Rattle.be_event.specs.Declarations.{names_declared}
use Rattle.be_event.proofs.SchemaForms.{says_no_domain, says_fault, says_attribute}
use Rattle.be_event.proofs.schema_texts.judge.Goals as goal

pub returns-in_default-domain_flaws : goal.returns-in_default-domain_flaws
returns-in_default-domain_flaws c =
    let shown : is_remark c.in-Some.kind.now ≡ false = cc in
    says_no_domain (names_declared c.args.names.now) (words c.args.line.now) (words c.in-Some.rest.now) (words c.in-Some-next_word.rest.now) c.in-Some.kind.now c.in-Some-next_word.name.now c.in-Ok.name
    c.in-Some.ensures.0 c.in-Some-next_word.ensures.0 shown c.in-Ok.ensures.exact c.in_default-domain_flaws.ensures

pub returns-in-Some-kind_of : goal.returns-in-Some-kind_of
returns-in-Some-kind_of c =
    let shown : is_remark c.in-Some.kind.now ≡ false = cc in
    says_fault (names_declared c.args.names.now) (words c.args.line.now) (words c.in-Some.rest.now) (words c.in-Some-next_word.rest.now) c.in-Some.kind.now c.in-Some-next_word.name.now c.in-Ok.name
    c.in-Some-domain_flaws.flaws c.in-Some-kind_of.kind c.in-Some.ensures.0 c.in-Some-next_word.ensures.0 shown c.in-Ok.ensures.exact c.in-Some-domain_flaws.ensures c.in-Some-kind_of.ensures

pub returns-in-None : goal.returns-in-None
returns-in-None c =
    let shown : is_remark c.in-Some.kind.now ≡ false = cc in
    says_attribute (names_declared c.args.names.now) (words c.args.line.now) (words c.in-Some.rest.now) (words c.in-Some-next_word.rest.now) c.in-Some.kind.now c.in-Some-next_word.name.now c.in-Ok.name
    c.in-Some-domain_flaws.flaws c.in-Some.ensures.0 c.in-Some-next_word.ensures.0 shown c.in-Ok.ensures.exact c.in-Some-domain_flaws.ensures c.in-None.ensures
