use Rattle.std.proofs.Common.{◌≡◌, [], ◌∷◌, ◌++◌, length, arith}
use Rattle.be_base.specs.TextLists.{place_of}
use Rattle.be_model.proofs.NamePlaces.{put_known, put_new}
use Rattle.be_model.proofs.name_lists.Names.push.Goals as goal

pub invariant_of-self-then-known : goal.invariant_of-self-then-known
invariant_of-self-then-known c =
    let at : c.find.result ≡ place_of c.args.name c.self.inside.names.items = cc in
    let new : c.push.new.self.items ≡ c.self.inside.names.items ++ c.args.name ∷ [] = grind arith in
    put_known c.find.result c.self.inside.places c.self.inside.differ c.self.inside.names.items c.push.new.self.items c.args.name
    c.self.invariant c.bytes.ensures.form at c.if-known.ensures new

pub invariant_of-self-in-Ok : goal.invariant_of-self-in-Ok
invariant_of-self-in-Ok c =
    let at : c.find.result ≡ place_of c.args.name c.self.inside.names.items = cc in
    let new : c.push.new.self.items ≡ c.self.inside.names.items ++ c.args.name ∷ [] = grind arith in
    let place : c.len-place.result ≡ length c.self.inside.names.items = omega arith in
    put_new c.find.result c.len-place.result c.self.inside.places c.insert.new.self c.self.inside.differ c.self.inside.names.items c.push.new.self.items c.args.name
    c.self.invariant c.bytes.ensures.form at c.if-known.ensures place c.in-Ok.ensures.updates new
