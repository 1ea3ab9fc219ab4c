use Rattle.be_model.proofs.ReadBack.{names_are_found}
use Rattle.be_model.proofs.schemas.Schema.write_name.Goals as goal

pub returns-in_err-extend_from_slice-clause-found :
    goal.returns-in_err-extend_from_slice-clause-found
returns-in_err-extend_from_slice-clause-found c = names_are_found c.args.self.now c.args.a c.attribute.ensures.form c.requires

pub returns-clause-found : goal.returns-clause-found
returns-clause-found c = names_are_found c.args.self.now c.args.a c.attribute.ensures.form c.requires
