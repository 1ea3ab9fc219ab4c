-- Replies of one line.
use Rattle.std.proofs.Common.{◌≡◌, List, [], ◌++◌, refl, ap, ◌∙◌}
use Rattle.std.specs.List.{flat_map}
use Rattle.be_base.specs.Text.{Text}
use Rattle.be_model.specs.Schemas.{Attributes}
use Rattle.be_protocol.specs.Replies.{first_lines, closing_line, with_lf, reply_text}
use Rattle.be_protocol.specs.declared.short.Short.{Short}
use Rattle.be_protocol.specs.declared.short.Short.TheVariants.{Ok, Held, Bye, Dup, NoName, Other, Costs, Sent, Split, Refused, NoMemory, Shut}
use Rattle.be_protocol.specs.Short.{plain_reply}
use Rattle.be_protocol.proofs.ReplyTexts.{reply_parts}

none_before : (s : Attributes) (reply : Short) → first_lines s (plain_reply reply) ≡ []
none_before s (Ok n) = refl
none_before s (Held n) = refl
none_before s (Bye n) = refl
none_before s (Dup m id) = refl
none_before s (NoName m) = refl
none_before s (Other m id) = refl
none_before s (Costs n c) = refl
none_before s (Sent n put dropped) = refl
none_before s (Split seen written) = refl
none_before s (Refused r) = refl
none_before s NoMemory = refl
none_before s Shut = refl

-- a short reply is its last line alone
pub one_line : (s : Attributes) (reply : Short) → reply_text s (plain_reply reply) ≡ with_lf (closing_line (plain_reply reply))
one_line s reply =
    reply_parts s (plain_reply reply) ∙ ap (λ (ls : List Text). flat_map with_lf ls ++ with_lf (closing_line (plain_reply reply))) (none_before s reply)
