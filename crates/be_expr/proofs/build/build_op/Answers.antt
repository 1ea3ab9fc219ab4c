use Rattle.std.proofs.Common.{ℤ, List, option_and_then, refl, sym, ◌∙◌, ap}
use Rattle.be_base.specs.Tokens.{tokens}
use Rattle.be_base.specs.Readers.{following}
use Rattle.be_base.specs.Sets.{read_values}
use Rattle.be_model.specs.declared.ops.Op.TheVariants.{OneOf, NoneOf}
use Rattle.be_expr.specs.declared.parts.Opening.{Opening}
use Rattle.be_expr.specs.Grammar.{among, not_among}
use Rattle.be_expr.specs.Parts.{plain_opening, with_values}
use Rattle.be_expr.specs.Build.{built_op}
use Rattle.be_expr.proofs.BuiltValues.{set_is_built, no_set_built}
use Rattle.be_expr.proofs.build.build_op.Goals as goal

pub returns-in_default-2-clause-op : goal.returns-in_default-2-clause-op
returns-in_default-2-clause-op c =
    let s = c.args.schema.now in
    let a = c.args.attr in
    let left = tokens c.args.text.now in
    let none = sym (ap (following (λ (vs : List ℤ). vs)) c.in_default-2.is) ∙ c.in_ok-values-in-Among.ensures.values in
    no_set_built s a (λ vs. OneOf vs) among (option_and_then read_values left) (λ r. refl) none
    ∙ sym (ap (λ (opening : Opening). option_and_then (built_op s a) (with_values (plain_opening opening) left)) c.in-Among.is)

pub returns-in_default-3-clause-op : goal.returns-in_default-3-clause-op
returns-in_default-3-clause-op c =
    let s = c.args.schema.now in
    let a = c.args.attr in
    let left = tokens c.args.text.now in
    let none = sym (ap (following (λ (vs : List ℤ). vs)) c.in_default-3.is) ∙ c.in_ok-values-in-NotAmong.ensures.values in
    no_set_built s a (λ vs. NoneOf vs) not_among (option_and_then read_values left) (λ r. refl) none
    ∙ sym (ap (λ (opening : Opening). option_and_then (built_op s a) (with_values (plain_opening opening) left)) c.in-NotAmong.is)

pub returns-in-Some-2-clause-op : goal.returns-in-Some-2-clause-op
returns-in-Some-2-clause-op c =
    let s = c.args.schema.now in
    let a = c.args.attr in
    let left = tokens c.args.text.now in
    let read = sym (ap (following (λ (vs : List ℤ). vs)) c.in-Some-2.is) ∙ c.in_ok-values-in-Among.ensures.values in
    set_is_built s a (λ vs. OneOf vs) among c.in-Some-2.values (option_and_then read_values left) (tokens c.in-Some-2.rest.now) (λ r. refl) read
    ∙ sym (ap (λ (opening : Opening). option_and_then (built_op s a) (with_values (plain_opening opening) left)) c.in-Among.is)

pub returns-in-Some-3-clause-op : goal.returns-in-Some-3-clause-op
returns-in-Some-3-clause-op c =
    let s = c.args.schema.now in
    let a = c.args.attr in
    let left = tokens c.args.text.now in
    let read = sym (ap (following (λ (vs : List ℤ). vs)) c.in-Some-3.is) ∙ c.in_ok-values-in-NotAmong.ensures.values in
    set_is_built s a (λ vs. NoneOf vs) not_among c.in-Some-3.values (option_and_then read_values left) (tokens c.in-Some-3.rest.now) (λ r. refl) read
    ∙ sym (ap (λ (opening : Opening). option_and_then (built_op s a) (with_values (plain_opening opening) left)) c.in-NotAmong.is)
