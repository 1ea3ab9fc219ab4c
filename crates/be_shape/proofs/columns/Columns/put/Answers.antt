use Rattle.std.proofs.Common.{◌&&◌, refl}
use Rattle.be_shape.specs.declared.columns.Columns.{Columns}
use Rattle.be_shape.specs.Columns.{entry_at}
use Rattle.be_shape.proofs.BlockColumns.{IsPut, told_next, entry_from, all_free}
use Rattle.be_shape.proofs.columns.Columns.put.Goals as goal

pub returns-clause-told : goal.returns-clause-told
returns-clause-told c = λ rows row at tells was.
    let now = c.args.self.now in
    let x = c.args.entry in
    let n = c.args.at in
    let d : Columns = record { attr = now.attr; hull = c.hull_of-self.result; single = now.single && (c.is_free.result && c.is_free-2.result); first = c.put.new.self; second = c.put-2.new.self; third = c.put-3.new.self; ids = c.write.new.numbers } in
    let put : IsPut now d n x = record {
      attr = refl;
      there = entry_from x _ _ _ _ (entry_at d n) refl c.put.ensures.there c.put-2.ensures.there c.put-3.ensures.there c.write.ensures.there;
      others = λ i other. entry_from (entry_at now i) _ _ _ _ (entry_at d i) refl (c.put.ensures.others i other) (c.put-2.ensures.others i other) (c.put-3.ensures.others i other) (c.write.ensures.others i other);
      hull_old = c.hull_of-self.ensures.first;
      hull_new = c.hull_of-self.ensures.second;
      single = all_free now.single c.is_free.result c.is_free-2.result x.slots.second x.slots.third c.is_free.ensures c.is_free-2.ensures;
    } in
    told_next now d rows row n x at tells put was
