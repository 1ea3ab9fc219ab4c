use Rattle.std.proofs.Common.{◌≡◌, true, false, codes, ap, sym, ◌∙◌, subst}
use Rattle.be_base.specs.Text.{same_text}
use Rattle.be_base.specs.Tokens.{tokens}
use Rattle.be_expr.specs.Parts.{plain_front}
use Rattle.be_expr.specs.Expressions.{Reads}
use Rattle.be_expr.specs.Changes.{entry_read}
use Rattle.be_expr.proofs.Entering.{sub_kind, unsub_kind, bye_kind, no_kind}
use Rattle.be_expr.proofs.changes.read_kind.Goals as goal

pub returns-then-eq-clause-exact : goal.returns-then-eq-clause-exact
returns-then-eq-clause-exact c =
    let kind = c.args.front.kind.now in
    let sub : same_text kind (codes "SUB") ≡ true = ap (same_text kind) (sym c.as_slice.ensures) ∙ sym c.eq.ensures ∙ c.if-eq.true in
    subst (Reads (entry_read c.read_sub.result))
    (sym (sub_kind c.args.schema.now c.args.id.0 (plain_front c.args.front) (tokens c.args.text.now) sub))
    c.read_sub.ensures.exact

pub returns-then-eq-2-clause-exact : goal.returns-then-eq-2-clause-exact
returns-then-eq-2-clause-exact c =
    let kind = c.args.front.kind.now in
    let sub : same_text kind (codes "SUB") ≡ false = ap (same_text kind) (sym c.as_slice.ensures) ∙ sym c.eq.ensures ∙ c.if-eq.false in
    let unsub : same_text kind (codes "UNSUB") ≡ true = ap (same_text kind) (sym c.as_slice-else-eq.ensures) ∙ sym c.eq-else-eq.ensures ∙ c.if-eq-2.true in
    subst (Reads (entry_read c.read_unsub.result))
    (sym (unsub_kind c.args.schema.now c.args.id.0 (plain_front c.args.front) (tokens c.args.text.now) sub unsub))
    c.read_unsub.ensures.exact

pub returns-then-eq-3-clause-exact : goal.returns-then-eq-3-clause-exact
returns-then-eq-3-clause-exact c =
    let kind = c.args.front.kind.now in
    let sub : same_text kind (codes "SUB") ≡ false = ap (same_text kind) (sym c.as_slice.ensures) ∙ sym c.eq.ensures ∙ c.if-eq.false in
    let unsub : same_text kind (codes "UNSUB") ≡ false = ap (same_text kind) (sym c.as_slice-else-eq.ensures) ∙ sym c.eq-else-eq.ensures ∙ c.if-eq-2.false in
    let bye : same_text kind (codes "BYE") ≡ true = ap (same_text kind) (sym c.as_slice-else-eq-2.ensures) ∙ sym c.eq-else-eq-2.ensures ∙ c.if-eq-3.true in
    subst (Reads (entry_read c.read_bye.result))
    (sym (bye_kind c.args.schema.now c.args.id.0 (plain_front c.args.front) (tokens c.args.text.now) sub unsub bye))
    c.read_bye.ensures.exact

pub returns-else-eq-3-clause-exact : goal.returns-else-eq-3-clause-exact
returns-else-eq-3-clause-exact c =
    let kind = c.args.front.kind.now in
    let sub : same_text kind (codes "SUB") ≡ false = ap (same_text kind) (sym c.as_slice.ensures) ∙ sym c.eq.ensures ∙ c.if-eq.false in
    let unsub : same_text kind (codes "UNSUB") ≡ false = ap (same_text kind) (sym c.as_slice-else-eq.ensures) ∙ sym c.eq-else-eq.ensures ∙ c.if-eq-2.false in
    let bye : same_text kind (codes "BYE") ≡ false = ap (same_text kind) (sym c.as_slice-else-eq-2.ensures) ∙ sym c.eq-else-eq-2.ensures ∙ c.if-eq-3.false in
    no_kind c.args.schema.now c.args.id.0 (plain_front c.args.front) (tokens c.args.text.now) sub unsub bye
