-- The schema is what the text is.
use Rattle.be_demand.proofs.WholeNames.{schema_whole}
use Rattle.be_server.proofs.files.load_schema.Goals as goal

pub returns-clause-names : goal.returns-clause-names
returns-clause-names g c = schema_whole c.as_slice.result.now c.in_ok-schema.schema c.in_ok-schema.ensures
