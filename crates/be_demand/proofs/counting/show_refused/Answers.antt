use Rattle.be_demand.proofs.Refused.{attr_shown, dom_shown, twice_shown, many_shown}
use Rattle.be_demand.proofs.counting.show_refused.Goals as goal

pub returns-in-Attr : goal.returns-in-Attr
returns-in-Attr c = attr_shown c.args.refusal.now c.in-Attr.name c.in-Attr.is c.bytes.ensures.form

pub returns-in-Many : goal.returns-in-Many
returns-in-Many c = many_shown c.args.refusal.now c.in-Many.count c.in-Many.is

pub returns-in-Dom : goal.returns-in-Dom
returns-in-Dom c = dom_shown c.args.refusal.now c.in-Dom.name c.in-Dom.is c.bytes-in-Dom.ensures.form

pub returns-in-Twice : goal.returns-in-Twice
returns-in-Twice c = twice_shown c.args.refusal.now c.in-Twice.name c.in-Twice.is c.bytes-in-Twice.ensures.form
