-- The next id is that of a row, which is the first that is wanted, or is passed.
use Rattle.std.proofs.Common.{◌≡◌, ℕ, ◌≤◌, ◌<◌, true, false, List, find, Option, Some, None, option_map, slice_get, refl, sym, ap, ◌∙◌, arith}
use Rattle.std.specs.Arc.{arc_value}
use Rattle.be_model.specs.declared.changes.Row.{Row}
use Rattle.be_model.specs.Rows.{id_of}
use Rattle.be_model.specs.ByIds.{ByIds}
use Rattle.be_change.specs.Entries.{row_in}
use Rattle.be_change.specs.History.{Entry, live}
use Rattle.be_index.specs.Promise.{IsMap}
use Rattle.be_copy.specs.declared.register.Register.{Register as Filed}
use Rattle.be_copy.specs.declared.wanted.Wanted.{Wanted}
use Rattle.be_copy.specs.Registers.{IsRegister as IsFiled, is_found}
use Rattle.be_copy.specs.Wanted.{wants}
use Rattle.be_copy.proofs.Firsts.{IsLookedUp, NoneBelow, find_at, lent_is, looked_up, none_at_all, none_passed, passed_row, wants_anywhere}
use Rattle.be_copy.proofs.Kept.{kept_listed, kept_map}
use Rattle.be_desk.proofs.register.Register.find.Goals as goal

abbrev no_row : Option Row
no_row = None

-- a row that stands in the list is lent
is_lent : {X : Type 0} (f : X → Row) (o : Option X) (found : Option Row) (row : Row) → option_map f o ≡ found → found ≡ Some row → o ≡ None → ⊥
is_lent f None found row got at none = let clash : no_row ≡ Some row = got ∙ at in absurd cc
is_lent f (Some x) found row got at none = absurd cc

-- the wanted row that the list lends at the next id is found there
first_at : (f : Filed) (h : List Entry) (m : ByIds) (w : Wanted) (from id : ℕ) (lent : Row) → IsFiled f m → IsMap m → NoneBelow (wants w) from m → ((i : ℕ) → from ≤ i → i < id → is_found f w i ≡ false)
    → (at : IsLookedUp h m id) → lent ≡ at.row → wants w (id_of lent, lent) ≡ true → find (wants w) m ≡ Some (id, lent)
first_at f h m w from id lent filed map none skipped at is wanted =
    let here : wants w (id, at.row) ≡ true = ap (λ (x : Row). wants w (id, x)) (sym is) ∙ wants_anywhere w id (id_of lent) lent ∙ wanted in
    find_at (wants w) m id at.row map.rising at.there here (none_passed f m w from id filed none skipped) ∙ ap (λ (x : Row). Some (id, x)) (sym is)

pub unreachable-requires : goal.unreachable-requires
unreachable-requires c =
    let h = c.args.list.now.list in
    let map = kept_map h (live h) c.len.result c.args.list.now.spare refl c.len.ensures.len c.len.ensures.most c.len.ensures.ids in
    let at = looked_up c.args.self.now.filed h (live h) c.args.wanted c.in-Some.id c.requires.filed.filed (kept_listed h (live h) refl) map c.in-Some.ensures.1 in
    is_lent (λ x. arc_value x.now) c.row.result (row_in (slice_get h c.in-Some.id)) at.row c.row.ensures at.listed c.in_default-row.is

pub returns-then-takes : goal.returns-then-takes
returns-then-takes c =
    let f = c.args.self.now.filed in
    let h = c.args.list.now.list in
    let w = c.args.wanted in
    let map = kept_map h (live h) c.len.result c.args.list.now.spare refl c.len.ensures.len c.len.ensures.most c.len.ensures.ids in
    let next = c.in-Some.ensures in
    let at = looked_up f h (live h) w c.in-Some.id c.requires.filed.filed (kept_listed h (live h) refl) map next.1 in
    let lent : arc_value c.in-Some-row.row.now ≡ at.row = lent_is (λ x. arc_value x.now) c.row.result (row_in (slice_get h c.in-Some.id)) c.in-Some-row.row at.row c.in-Some-row.is c.row.ensures at.listed in
    let wanted : wants w (id_of (arc_value c.in-Some-row.row.now), arc_value c.in-Some-row.row.now) ≡ true =
    ap (λ (r : Row). wants w (id_of r, r)) (sym c.deref.ensures) ∙ sym c.takes.ensures ∙ c.if-takes.true in
    first_at f h (live h) w c.loop-id.from c.in-Some.id (arc_value c.in-Some-row.row.now) c.requires.filed.filed map c.loop-id.invariant next.2 at lent wanted

pub overflow_add-from : goal.overflow_add-from
overflow_add-from c =
    let h = c.args.list.now.list in
    let map = kept_map h (live h) c.len.result c.args.list.now.spare refl c.len.ensures.len c.len.ensures.most c.len.ensures.ids in
    let at = looked_up c.args.self.now.filed h (live h) c.args.wanted c.in-Some.id c.requires.filed.filed (kept_listed h (live h) refl) map c.in-Some.ensures.1 in
    omega (arith, at.low)

pub loop-id-smaller : goal.loop-id-smaller
loop-id-smaller c =
    let h = c.args.list.now.list in
    let map = kept_map h (live h) c.len.result c.args.list.now.spare refl c.len.ensures.len c.len.ensures.most c.len.ensures.ids in
    let at = looked_up c.args.self.now.filed h (live h) c.args.wanted c.in-Some.id c.requires.filed.filed (kept_listed h (live h) refl) map c.in-Some.ensures.1 in
    omega (arith, at.low, c.in-Some.ensures.0)

pub loop-id-preserved : goal.loop-id-preserved
loop-id-preserved c =
    let f = c.args.self.now.filed in
    let h = c.args.list.now.list in
    let w = c.args.wanted in
    let map = kept_map h (live h) c.len.result c.args.list.now.spare refl c.len.ensures.len c.len.ensures.most c.len.ensures.ids in
    let next = c.in-Some.ensures in
    let at = looked_up f h (live h) w c.in-Some.id c.requires.filed.filed (kept_listed h (live h) refl) map next.1 in
    let lent : arc_value c.in-Some-row.row.now ≡ at.row = lent_is (λ x. arc_value x.now) c.row.result (row_in (slice_get h c.in-Some.id)) c.in-Some-row.row at.row c.in-Some-row.is c.row.ensures at.listed in
    let passed : wants w (id_of (arc_value c.in-Some-row.row.now), arc_value c.in-Some-row.row.now) ≡ false =
    ap (λ (r : Row). wants w (id_of r, r)) (sym c.deref.ensures) ∙ sym c.takes.ensures ∙ c.if-takes.false in
    passed_row f h (live h) w c.loop-id.from c.in-Some.id (arc_value c.in-Some-row.row.now) c.requires.filed.filed c.loop-id.invariant next.2 at lent passed

pub returns : goal.returns
returns c =
    let h = c.args.list.now.list in
    let map = kept_map h (live h) c.len.result c.args.list.now.spare refl c.len.ensures.len c.len.ensures.most c.len.ensures.ids in
    none_at_all c.args.self.now.filed (live h) c.args.wanted c.loop-id.from c.requires.filed.filed map c.loop-id.invariant c.in_default.ensures
