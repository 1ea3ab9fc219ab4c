use Rattle.std.proofs.Common.{◌≡◌, ◌<◌, Some, None, get_or, IfSome, refl, sym, ap, subst, ◌∙◌}
use Rattle.std.proofs.Math.ListN.{set}
use Rattle.std.specs.Option.{option_or}
use Rattle.be_event.specs.Scan.{IsGiven}
use Rattle.be_event.proofs.Notes.{finds_unknown, finds_outside, finds_again, finds_new}
use Rattle.be_event.proofs.found.Found.note.Goals as goal

pub returns-in_default : goal.returns-in_default
returns-in_default c = λ s items values named given f.
    finds_unknown s items c.args.name.now values c.args.given c.args.self.now _ (sym c.in_default.is ∙ named) (subst (λ o. IsGiven s o c.args.given values) c.in_default.is given)
    refl (c.or-self.ensures ∙ ap (option_or c.args.self.now.faults.many) c.large_set.ensures) c.or-self-in_default.ensures refl refl refl f

pub returns-then-given : goal.returns-then-given
returns-then-given c = λ s items values named given f.
    finds_outside s items c.args.name.now values c.in-Some.attr c.args.given c.args.self.now _ (sym c.in-Some.is ∙ named) (subst (λ o. IsGiven s o c.args.given values) c.in-Some.is given)
    c.if-given.true refl (c.or-self.ensures ∙ ap (option_or c.args.self.now.faults.many) c.large_set.ensures) refl c.or-self-then-given.ensures refl refl f

pub returns-in-Some-sources : goal.returns-in-Some-sources
returns-in-Some-sources c = λ s items values named given f.
    let few = subst (λ o. IfSome o (λ a. a.0 < 256)) c.in-Some.is c.requires in
    let had : get_or c.args.self.now.sources c.in-Some.attr.0 None ≡ Some c.in-Some-sources.field-0 = cc in
    finds_again s items c.args.name.now values c.in-Some.attr c.args.given c.in-Some-sources.field-0 c.args.self.now _ (sym c.in-Some.is ∙ named) few
    (subst (λ o. IsGiven s o c.args.given values) c.in-Some.is given)
    c.if-given.false had refl (c.or-self.ensures ∙ ap (option_or c.args.self.now.faults.many) c.large_set.ensures) refl refl c.or-self-in-Some-sources.ensures refl f

pub returns-in-None : goal.returns-in-None
returns-in-None c = λ s items values named given f.
    let few = subst (λ o. IfSome o (λ a. a.0 < 256)) c.in-Some.is c.requires in
    let had : get_or c.args.self.now.sources c.in-Some.attr.0 None ≡ None = cc in
    let put : set c.args.self.now.sources c.from-place.result (Some c.args.given.source) ≡ set c.args.self.now.sources c.in-Some.attr.0 (Some c.args.given.source) = cc in
    finds_new s items c.args.name.now values c.in-Some.attr c.args.given c.args.self.now _ (sym c.in-Some.is ∙ named) few
    (subst (λ o. IsGiven s o c.args.given values) c.in-Some.is given)
    c.if-given.false had refl (c.or-self.ensures ∙ ap (option_or c.args.self.now.faults.many) c.large_set.ensures) refl refl refl put f
