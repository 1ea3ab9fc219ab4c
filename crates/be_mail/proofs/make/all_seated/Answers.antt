use Rattle.std.proofs.Common.{◌≡◌, ◌+◌, ◌<◌, [], ◌∷◌, ◌++◌, length, map, refl, sym, ap, ◌∙◌, subst, append_assoc, arith}
use Rattle.std.proofs.lemmas.List.{length-map, length-append}
use Rattle.std.proofs.lemmas.List.FromFn.{map-range_with_len_more}
use lib.ListN.{get_elem?}
use mathlib.Core.Option.{some}
use Rattle.be_mail.specs.Boxes.{name_of}
use Rattle.be_mail.specs.Passes.{new_passes, box_of}
use Rattle.be_mail.proofs.Places.{at_middle, within}
use Rattle.be_mail.proofs.make.all_seated.Goals as goal

pub seated-requires : goal.seated-requires
seated-requires g c =
    let i = c.loop-row.invariant in
    let all = i.2 ∙ ap (λ l. c.loop-row.yielded ++ l) c.in-Some.ensures.steps.0 in
    let here : get_elem? c.args.rows.items c.loop-row.seat ≡ some c.in-Some.row = subst (λ n. get_elem? c.args.rows.items n ≡ some c.in-Some.row) i.3 (subst (λ l. get_elem? l (length c.loop-row.yielded) ≡ some c.in-Some.row) (sym all) (at_middle c.loop-row.yielded c.in-Some.row c.next.new.self.rest.items)) in
    let row = c.requires.rows.each c.loop-row.seat c.in-Some.row here in
    let h = within c.args.rows.items c.loop-row.seat c.in-Some.row here in
    let r = c.requires.rows.count in
    let n : length c.in-Some.row ≡ g.S.Post.seats = sym (length-map c.in-Some.row box_of) ∙ ap length row.boxes ∙ length-map c.args.boxes.now.items name_of ∙ c.requires.seats.1 in
    let less : c.loop-row.seat < length c.in-Some.row = omega arith in
    (less, record { boxes = refl; each = row.each })

pub loop-row-preserved : goal.loop-row-preserved
loop-row-preserved g c =
    let i = c.loop-row.invariant in
    let names = map name_of c.args.boxes.now.items in
    let all = i.2 ∙ ap (λ l. c.loop-row.yielded ++ l) c.in-Some.ensures.steps.0 in
    let here : get_elem? c.args.rows.items c.loop-row.seat ≡ some c.in-Some.row = subst (λ n. get_elem? c.args.rows.items n ≡ some c.in-Some.row) i.3 (subst (λ l. get_elem? l (length c.loop-row.yielded) ≡ some c.in-Some.row) (sym all) (at_middle c.loop-row.yielded c.in-Some.row c.next.new.self.rest.items)) in
    let seated = c.seated.ensures ∙ ap (λ l. new_passes l c.loop-row.seat) (c.requires.rows.each c.loop-row.seat c.in-Some.row here).boxes in (
      tt,
      tt,
      all ∙ sym (append_assoc c.loop-row.yielded (c.in-Some.row ∷ []) c.next.new.self.rest.items),
      length-append c.loop-row.yielded (c.in-Some.row ∷ []) ∙ ap (λ n. n + 1) i.3,
      c.in_ok-push.ensures.items ∙ (λ k. i.4 k ++ seated k ∷ []) ∙ sym (map-range_with_len_more (new_passes names) 0 c.loop-row.seat c.loop-row.seat (omega arith)),
    )
