use Rattle.std.proofs.Common.{◌≡◌, ◌++◌, List, ℤ, All, codes, append_assoc, ◌∙◌, ap, sym, subst, true}
use Rattle.std.proofs.lemmas.List.{take_all}
use Rattle.std.specs.List.{flat_map}
use Rattle.std.proofs.lemmas.List.Elements.{All-more, All-cons}
use Rattle.std.proofs.lemmas.List.Sums.{AllPass-from_list_all}
use Rattle.be_base.specs.declared.names.AttrNo.{AttrNo}
use Rattle.be_model.specs.Lies.{item_lies, event_lies}
use Rattle.be_model.specs.Matching.{Assignments}
use Rattle.std.proofs.lemmas.Bool.{and_parts}
use Rattle.be_event.specs.Writing.{item_text, event_text, IsSpelled}
use Rattle.be_model.proofs.Pieces.{joined_more}
use Rattle.be_event.proofs.writing.put_items.Goals as goal

pub put_item-requires-in-loop-item : goal.put_item-requires-in-loop-item
put_item-requires-in-loop-item c =
    let s = c.args.schema.now in
    let lie = (and_parts (item_lies s c.in-Some.first.now) (event_lies s c.in-Some.rest.now) (subst (λ (items : Assignments). event_lies s items ≡ true) c.in-Some.ensures.cases.0 c.requires)).1 in
    ap (item_lies s) c.item-item.is ∙ AllPass-from_list_all (item_lies s) c.in-Some.rest.now lie c.loop-item.item-index c.item-item.result c.loop-item-test.true

pub loop-item-preserved : goal.loop-item-preserved
loop-item-preserved c =
    let s = c.args.schema.now in
    record {
      written = joined_more (λ item. codes " " ++ item_text s item) c.in-Some.rest.now c.loop-item.item-index c.item-item.result _ _ _
          c.loop-item-test.true c.loop-item.invariant.written
          (c.in_ok-put_item-2.ensures.written
          ∙ ap (λ text. text ++ item_text s c.item-item.result) c.in_ok-extend_from_slice-2.ensures.items
          ∙ append_assoc c.loop-item.text.items (codes " ") (item_text s c.item-item.result)
          ∙ ap (λ (item : AttrNo × List ℤ). c.loop-item.text.items ++ (codes " " ++ item_text s item)) c.item-item.is);
      spelled = All-more (IsSpelled s) c.in-Some.rest.now c.loop-item.item-index c.item-item.result
          c.loop-item-test.true c.loop-item.invariant.spelled (subst (IsSpelled s) c.item-item.is c.in_ok-put_item-2.ensures.spelled);
    }

pub returns-clause-written : goal.returns-clause-written
returns-clause-written c =
    let s = c.args.schema.now in
    let f = λ (item : AttrNo × List ℤ). codes " " ++ item_text s item in
    c.loop-item.invariant.written
    ∙ ap (λ items. c.put_item.new.text.items ++ flat_map f items) (take_all c.loop-item.item-index c.in-Some.rest.now c.loop-item-test.false)
    ∙ ap (λ text. text ++ flat_map f c.in-Some.rest.now) c.in_ok-put_item.ensures.written
    ∙ append_assoc c.args.text.now.items (item_text s c.in-Some.first.now) (flat_map f c.in-Some.rest.now)
    ∙ ap (λ items. c.args.text.now.items ++ event_text s items) (sym c.in-Some.ensures.cases.0)

pub returns-clause-spelled : goal.returns-clause-spelled
returns-clause-spelled c =
    let s = c.args.schema.now in
    let rest : All (IsSpelled s) c.in-Some.rest.now = subst (λ (items : Assignments). All (IsSpelled s) items) (take_all c.loop-item.item-index c.in-Some.rest.now c.loop-item-test.false) c.loop-item.invariant.spelled in
    subst (λ (items : Assignments). All (IsSpelled s) items) (sym c.in-Some.ensures.cases.0) (All-cons (IsSpelled s) c.in-Some.first.now c.in-Some.rest.now c.in_ok-put_item.ensures.spelled rest)
