use Rattle.std.proofs.Common.{◌≡◌, take, true, min}
use Rattle.std.specs.List.{list_all}
use Rattle.be_base.specs.Numbers.{is_digit, decimal_value}
use Rattle.be_base.proofs.numbers.digits_up_to.Given as goal

abbrev pub invariant-loop-b : goal.invariant-loop-b
invariant-loop-b l = record {
  digits : list_all is_digit (take l.b-index l.text) ≡ true;
  capped : l.value ≡ min (decimal_value (take l.b-index l.text)) l.cap;
}
