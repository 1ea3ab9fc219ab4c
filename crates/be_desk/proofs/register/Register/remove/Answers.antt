-- The one row of the name is taken out.
use Rattle.std.proofs.Common.{◌≡◌, ℕ, Option, Some, None, sym, ◌∙◌, arith}
use Rattle.be_model.specs.declared.changes.Row.{Row}
use Rattle.be_model.specs.Rows.{id_of}
use Rattle.be_change.specs.History.{live}
use Rattle.be_desk.proofs.Named.{named_is}
use Rattle.be_desk.proofs.Filing.{is_unsubbed, unsubbed, unsubbed_less}
use Rattle.be_desk.proofs.register.Register.remove.Goals as goal

-- what is found of one name is one row
one_found : (o : Option (ℕ × Row)) (id : ℕ) (row : Row) (r : ℕ × Row) → o ≡ Some (id, row) → o ≡ Some r → id ≡ r.0
one_found o id row r is also = let both : Some (id, row) ≡ Some r = sym is ∙ also in same (id, row) r both
  where
    same : (x y : ℕ × Row) → Some x ≡ Some y → x.0 ≡ y.0
    same x y e = cc

none_found : (o : Option (ℕ × Row)) (r : ℕ × Row) → o ≡ None → o ≡ Some r → ⊥
none_found None r none some = absurd cc
none_found (Some x) r none some = absurd cc

pub unreachable-requires : goal.unreachable-requires
unreachable-requires c =
    let h = c.args.list.now.list in
    let is = is_unsubbed h c.args.session.0 c.args.name.now c.requires.formed c.requires.there in
    none_found _ is.found c.in_default.ensures (sym (named_is c.args.name.now (live h)) ∙ is.named_so)

pub overflow_sub-self : goal.overflow_sub-self
overflow_sub-self c =
    let h = c.args.list.now.list in
    omega (arith, c.requires.filed.count, unsubbed_less h c.args.session.0 c.args.name.now (is_unsubbed h c.args.session.0 c.args.name.now c.requires.formed c.requires.there))

pub returns : goal.returns
returns c = λ n.
    let h = c.args.list.now.list in
    let k = c.args.session.0 in
    let name = c.args.name.now in
    let is = is_unsubbed h k name c.requires.formed c.requires.there in
    let id : c.in-Some.id ≡ id_of is.row = one_found _ c.in-Some.id _ is.found c.in-Some.ensures (sym (named_is name (live h)) ∙ is.named_so) ∙ is.id_is in record {
      filed = unsubbed c.args.self.now.filed (record { sessions = c.drop_pair.new.self; names = c.drop_pair-2.new.self }) h k c.in-Some.id c.key-key.result name is id c.key-key.ensures
          c.drop_pair.ensures c.drop_pair-2.ensures c.requires.filed.filed;
      count = omega (arith, c.requires.filed.count, unsubbed_less h k name is);
    }
