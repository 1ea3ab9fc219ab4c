-- The text is that of the change, and ends where the bytes do.
use Rattle.std.proofs.Common.{◌≡◌, ◌+◌, ◌++◌, ◌∷◌, [], List, ℕ, length, length-append, sym, ap, ap₂, ◌∙◌, subst, arith}
use Rattle.be_change.specs.Entries.{entry_of}
use Rattle.be_copy.specs.Hits.{spaced_of}
use Rattle.be_copy.specs.Runs.{AreEnds, cut_at}
use Rattle.be_copy.proofs.TextRuns.{cut_on}
use Rattle.be_copy.proofs.spaced_names.put_text.Goals as goal

pub returns-clause-ends : goal.returns-clause-ends
returns-clause-ends c =
    let text = spaced_of (entry_of c.args.change.now) in
    let bytes = c.args.bytes.now.items in
    let long : c.len.result ≡ 0 + length bytes + length text = omega (arith, c.len.ensures, c.push_name.new.bytes.ok.0, ap (λ (l : List ℕ). length l) c.push_name.ensures, length-append bytes text) in
    let is = cut_on 0 c.args.ends.now.items bytes text c.len.result c.requires.ends long in
    subst (λ (l : List ℕ). AreEnds 0 l c.push_name.new.bytes.items) (sym c.push_reserved.ensures.items) (subst (AreEnds 0 (c.args.ends.now.items ++ c.len.result ∷ [])) (sym c.push_name.ensures) is.1)

pub returns-clause-texts : goal.returns-clause-texts
returns-clause-texts c =
    let text = spaced_of (entry_of c.args.change.now) in
    let bytes = c.args.bytes.now.items in
    let long : c.len.result ≡ 0 + length bytes + length text = omega (arith, c.len.ensures, c.push_name.new.bytes.ok.0, ap (λ (l : List ℕ). length l) c.push_name.ensures, length-append bytes text) in
    let is = cut_on 0 c.args.ends.now.items bytes text c.len.result c.requires.ends long in
    ap₂ (cut_at 0) c.push_reserved.ensures.items c.push_name.ensures ∙ is.0
