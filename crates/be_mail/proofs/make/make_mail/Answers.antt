use Rattle.std.proofs.Common.{[], length, map, sym, ap, subst, arith}
use Rattle.be_mail.specs.Boxes.{name_of, HaveRoom, AreRows}
use Rattle.be_mail.proofs.make.make_mail.Goals as goal

pub loop-place-init : goal.loop-place-init
loop-place-init g c =
    let none = c.new-boxes.ensures.items in (
      ap length none,
      subst HaveRoom (sym none) (λ w b h. absurd (omega arith)),
      subst (λ bs. AreRows g.S.Post.seats bs c.in_ok-rows.rows.items) (sym (ap (map name_of) none)) (subst (λ n. AreRows n [] c.in_ok-rows.rows.items) c.requires.named c.in_ok-rows.ensures),
    )
