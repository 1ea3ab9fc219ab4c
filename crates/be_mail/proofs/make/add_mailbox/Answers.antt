use Rattle.std.proofs.Common.{◌≡◌, ◌<◌, ℕ, ◌-◌, ◌+◌, true, [], ◌∷◌, length, map, set, refl, sym, ap, ◌∙◌, subst, arith}
use Rattle.std.proofs.lemmas.List.{length-map, map-append}
use Rattle.std.specs.Prelude.{vec_len}
use Rattle.crossbeam_queue.proofs.Lists.{at_index}
use Rattle.std.proofs.lemmas.List.Elements.{All-push}
use Rattle.be_base.specs.declared.limits.TheConstants.{BOX_LETTERS}
use Rattle.crossbeam_queue.specs.Passes.{ruled_capacity}
use Rattle.be_mail.specs.Mailbox.{box_id}
use Rattle.be_mail.specs.Rule.{hand, no_puts}
use Rattle.be_mail.specs.Boxes.{IsNewHand, name_of, HaveRoom, AreRows, AreRowsUpTo}
use Rattle.be_mail.proofs.Rows.{begins_row, ends_row, next_row, may_hand_out, handed, next_root}
use Rattle.be_mail.proofs.make.add_mailbox.Goals as goal

pub loop-seat-init : goal.loop-seat-init
loop-seat-init g c =
    let m = c.in_ok-mailbox.ensures in
    let seats : ℕ = g.S.Post.seats in
    let rows : vec_len c.args.rows.now ≡ seats = let o = c.args.rows.now.ok.0 in let r = c.requires.rows.count in omega arith in (
      m.pass.0,
      m.room,
      c.requires.place,
      c.len-seat-end.ensures ∙ rows,
      record { takes = true; shows = m.pass.1 ∙ (let e : seats ≡ seats - 0 = omega arith in λ i. hand (box_id (sym m.pass.0.0 i) c.args.place) (no_puts 0 (e i)) true []); keeps = λ _. refl },
      begins_row seats _ (name_of c.in_ok-mailbox.mailbox) _ c.requires.rows,
    )

pub another-pass-requires-clause-rule : goal.another-pass-requires-clause-rule
another-pass-requires-clause-rule g c =
    let i = c.loop-seat.invariant in
    may_hand_out g.S.Post.schema g.S.Post.seats g.S.Post.found c.loop-seat.root.id c.args.place c.loop-seat.seat c.loop-seat.root (let h = c.loop-seat-test.true in let e = i.3 in omega arith) i.4

pub loop-seat-preserved : goal.loop-seat-preserved
loop-seat-preserved g c =
    let i = c.loop-seat.invariant in
    let seats : ℕ = g.S.Post.seats in
    let seat : ℕ = c.loop-seat.seat in
    let names = map name_of c.args.boxes.now.items in
    let m : length names ≡ c.args.place = length-map c.args.boxes.now.items name_of ∙ c.requires.place in
    let less : seat < seats = let h = c.loop-seat-test.true in let e = i.3 in omega arith in
    let root = c.loop-seat.root in
    let e = c.another-pass.ensures in
    let pass = c.another-pass.result in
    let here = at_index c.loop-seat.rows.items seat c.index_mut.result.now (let r = i.5.count in omega arith) c.index_mut.ensures.value in
    let new = handed seats c.args.place seat root pass less i.4 (e.queue.1.0 ∙ sym i.0.0) e.queue.1.1 e.rule.1 in
    let row = next_row seat seats names (name_of c.in_ok-mailbox.mailbox) c.loop-seat.rows.items c.index_mut.result.now pass i.5 here e.queue.1.0 (subst (λ w. IsNewHand seat w pass) (sym m) new) in (
      (e.queue.0.0 ∙ i.0.0, e.queue.0.2 ∙ i.0.1),
      i.1,
      i.2,
      i.3,
      next_root seats c.args.place seat root c.another-pass.new.pass less i.4 e.queue.0.0 e.rule.0,
      subst (λ r. AreRowsUpTo (seat + 1) seats names (name_of c.in_ok-mailbox.mailbox) (set c.loop-seat.rows.items seat r)) (sym c.in_ok-push.ensures) row,
    )

pub returns-clause-room : goal.returns-clause-room
returns-clause-room g c = subst HaveRoom (sym c.in_ok-push-2.ensures.items) (All-push (λ b. ruled_capacity b ≡ BOX_LETTERS) c.args.boxes.now.items c.in_ok-mailbox.mailbox c.requires.room c.in_ok-mailbox.ensures.room)

pub returns-clause-rows : goal.returns-clause-rows
returns-clause-rows g c =
    let i = c.loop-seat.invariant in
    let seats : ℕ = g.S.Post.seats in
    let mailbox = c.in_ok-mailbox.mailbox in
    let all : c.loop-seat.seat ≡ seats = let a = c.loop-seat.auto in let b = c.loop-seat-test.false in let e = i.3 in omega arith in
    let names = map name_of c.args.boxes.now.items in
    subst (λ bs. AreRows seats bs c.loop-seat.rows.items) (sym (ap (map name_of) c.in_ok-push-2.ensures.items ∙ map-append name_of c.args.boxes.now.items (mailbox ∷ [])))
    (ends_row seats names (name_of mailbox) c.loop-seat.rows.items (subst (λ n. AreRowsUpTo n seats names (name_of mailbox) c.loop-seat.rows.items) all i.5))
