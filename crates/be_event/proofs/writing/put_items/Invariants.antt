use Rattle.std.proofs.Common.{◌≡◌, ◌++◌, take, All, codes}
use Rattle.std.specs.List.{flat_map}
use Rattle.be_event.specs.Writing.{item_text, IsSpelled}
use Rattle.be_event.proofs.writing.put_items.Given as goal

abbrev pub invariant-loop-item : goal.invariant-loop-item
invariant-loop-item l = record {
  written : l.text.items ≡ l.initial.text.items ++ flat_map (λ item. codes " " ++ item_text l.schema item) (take l.item-index l.rest);
  spelled : All (IsSpelled l.schema) (take l.item-index l.rest);
}
