-- The reply to a change that was asked for.
use Rattle.be_change.specs.Requests.{Reply, ok, held, bye, dup, none, other, split, no_memory}
use Rattle.be_board.specs.declared.answers.Answer.{Answer}
use Rattle.be_board.specs.declared.answers.Answer.TheVariants.{Done, Held, Dup, NoName, Other, Split, NoMemory}

-- to a SUB or UNSUB
abbrev pub reply_of : Answer → Reply
reply_of (Done n) = ok n
reply_of (Held n) = held n
reply_of (Dup m id) = dup m id
reply_of (NoName m) = none m
reply_of (Other m id) = other m id
reply_of (Split seen written) = split seen written
reply_of NoMemory = no_memory

-- and to a QUIT
abbrev pub quit_reply : Answer → Reply
quit_reply (Done n) = bye n
quit_reply answer = reply_of answer
