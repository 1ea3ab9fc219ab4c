-- Short replies as plain data.
use Rattle.be_base.specs.declared.names.NoRead.{NoRead}
use Rattle.be_base.specs.declared.names.NoRead.TheVariants as unread
use Rattle.be_change.specs.Requests.{Reply, refusal, ok, held, bye, dup, none, other, cost, sent, split, no_memory, shut}
use Rattle.be_protocol.specs.declared.short.Short.{Short}
use Rattle.be_protocol.specs.declared.short.Short.TheVariants.{Ok, Held, Bye, Dup, NoName, Other, Costs, Sent, Split, Refused, NoMemory, Shut}
use Rattle.be_protocol.specs.Requests.{plain_refusal}

abbrev pub plain_reply : Short → Reply
plain_reply (Ok n) = ok n
plain_reply (Held n) = held n
plain_reply (Bye n) = bye n
plain_reply (Dup m id) = dup m id
plain_reply (NoName m) = none m
plain_reply (Other m id) = other m id
plain_reply (Costs n c) = cost n c
plain_reply (Sent n put dropped) = sent n put dropped
plain_reply (Split seen written) = split seen written
plain_reply (Refused r) = refusal (plain_refusal r)
plain_reply NoMemory = no_memory
plain_reply Shut = shut

-- the reply that a refused read makes
abbrev pub short_of : NoRead → Short
short_of unread.Shut = Shut
short_of unread.NoMemory = NoMemory
