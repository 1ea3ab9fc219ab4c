-- A part of a line was taken, or the rest of one with its LF, or nothing behind a faulty line.
use Rattle.std.proofs.Common.{rules, ◌≡◌, true, ◌∷◌, [], ◌++◌, List, ℕ, length, take, is_some, sym, ap, ◌∙◌, subst, arith, append_assoc}
use Rattle.std.proofs.lemmas.List.{take_all}
use Rattle.be_io.specs.Reading.{IsFirstLf}
use Rattle.be_follow.specs.Followers.{IntakeState, with_list, Follows}
use Rattle.be_follow.proofs.Taken.{follows_ignored, follows_lf, to_first_lf}
use Rattle.be_follow.proofs.intake.Intake.take_line.Goals as goal

pub returns-then-is_some-clause-taken : goal.returns-then-is_some-clause-taken
returns-then-is_some-clause-taken g c =
    let piece = c.args.piece.now in
    let f = with_list (g.F.FeedList.list c.args.list.now) c.args.self.now in
    let bad : is_some c.args.self.now.fault ≡ true = ap (λ (x : IntakeState). is_some x.fault) (sym c.self.view_is) ∙ sym c.is_some.ensures ∙ c.if-is_some.true in (
      c.requires.some,
      omega arith,
      λ bytes k. subst (λ (x : List ℕ). Follows (bytes ++ x) f) (sym (take_all (length piece) piece (omega arith))) (follows_ignored bytes piece f bad k),
    )

pub returns-in-Ok-end_line-clause-taken : goal.returns-in-Ok-end_line-clause-taken
returns-in-Ok-end_line-clause-taken g c =
    let piece = c.args.piece.now in
    let place = c.in-Some.place in
    let first : IsFirstLf piece place = c.in-Some.ensures in
    let h = g.F.FeedList.list c.args.list.now in
    let after = with_list (g.F.FeedList.list c.end_line.new.list) c.end_line.new.self in (
      omega arith,
      omega (arith, first.0),
      λ bytes f.
          let put : Follows (bytes ++ take place piece) (with_list h c.put-2.new.self) = c.in-Ok-put.ensures.put h bytes f in
          subst (λ (x : List ℕ). Follows x after) (append_assoc bytes (take place piece) (10 ∷ []) ∙ ap (λ (x : List ℕ). bytes ++ x) (sym (to_first_lf piece place first)))
          (follows_lf (bytes ++ take place piece) (with_list h c.put-2.new.self) after (search rules) c.end_line.ensures.schema.0 c.in-Ok-end_line.ensures.ended.0 c.in-Ok-end_line.ensures.ended.1 put),
    )
