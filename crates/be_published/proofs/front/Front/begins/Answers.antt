-- Both are beginnings of what both have seen.
use Rattle.std.proofs.Common.{◌≡◌, ◌≤◌, List, length, ap, subst}
use mathlib.Core.List.{IsPrefix}
use Rattle.be_base.proofs.Beginnings.{BeginsWith-shorter}
use Rattle.be_change.specs.History.{Entry}
use Rattle.be_published.proofs.Adding.{begins_from}
use Rattle.be_published.proofs.front.Front.begins.Goals as goal

pub returns : goal.returns
returns g c =
    let both = c.learn.new.self.log in
    let a = c.self.inside.seen.log in
    let b = c.other.inside.seen.log in
    let this : IsPrefix a both = subst (λ (l : List Entry). IsPrefix l both) (ap (λ s. s.log) c.again-both.ensures) c.learn.ensures.2 in
    let less : length a ≤ length b = rw (c.self.view_is, c.other.view_is) c.requires in
    rw (← c.self.view_is, ← c.other.view_is) (BeginsWith-shorter both a b (begins_from a both this) (begins_from b both c.learn.ensures.3) less)
