use Rattle.std.proofs.Common.{refl}
use Rattle.be_base.proofs.NameForms.{made}
use Rattle.be_base.proofs.names.Name.of_bytes.Goals as goal

pub invariant_of-result : goal.invariant_of-result
invariant_of-result c = made c.args.text.now _ _ c.requires c.copy_from_slice.ensures.after refl
