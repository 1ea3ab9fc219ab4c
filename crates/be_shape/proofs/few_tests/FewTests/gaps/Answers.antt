use Rattle.be_shape.proofs.GapSets.{only_set}
use Rattle.be_shape.proofs.few_tests.FewTests.gaps.Goals as goal

pub returns-in-len1 : goal.returns-in-len1
returns-in-len1 c =
    let t = c.self.inside in
    only_set c.args.conj.now c.args.told c.args.self.now t.count t.first_attr t.first (t.second_attr, t.second) (t.third_attr, t.third) c.pred-item.result c.preds.result.now c.ends_of.result c.gaps_of.result c.self.view_is
    (c.is_one.ensures c.if-not-is_one.false) (c.is_few.ensures c.if-not-is_few.false) c.preds.ensures.preds c.in-len1.len_at_least c.in-len1.len_below c.pred-item.is (record { low = c.slot_fits.ensures.low; more = c.slot_fits.ensures.more }) c.ends_of.ensures c.gaps_of.ensures
