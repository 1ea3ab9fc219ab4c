use Rattle.be_model.specs.Schemas.{names_of_attributes}
use Rattle.be_model.proofs.NamePlaces.{is_some-place_of}
use Rattle.be_model.proofs.schemas.Schema.has.Goals as goal

pub returns : goal.returns
returns c = let e = is_some-place_of (names_of_attributes c.args.self.now) c.args.name.now in cc (c.self.invariant.1)
