-- Letters that a board put, and the reply to SEND.
use Rattle.std.proofs.Common.{◌≡◌, ℕ, ◌+◌, true, List, [], ◌∷◌, length, take, filter, Option, Some, None, is_some, refl, sym, ap, ◌∙◌, subst, arith}
use Rattle.std.proofs.lemmas.List.{append-nil}
use Rattle.be_base.proofs.Beginnings.{BeginsWith-take}
use Rattle.be_base.specs.declared.names.NoRead.{NoRead}
use Rattle.be_base.specs.declared.names.NoRead.TheVariants.{Shut, NoMemory}
use Rattle.be_model.specs.Matching.{Assignments}
use Rattle.be_model.specs.Schemas.{Attributes}
use Rattle.be_change.specs.Box.{with_letters}
use Rattle.be_change.specs.History.{Entry, ByIds, is_of, hit_rows, hits}
use Rattle.be_change.specs.Requests.{sending, sent, Note, Exchange}
use Rattle.be_board.specs.declared.answers.Sent.{Sent}
use Rattle.be_board.specs.Letters.{Sends, RefusesSend, Posts}
use Rattle.be_board.specs.State.{BoardState, LeavesLetters, CountsPuts, WhereBox}
use Rattle.be_session.specs.Bearing.{Bears}
use Rattle.be_session.specs.Given.{GivesLetters}
use Rattle.be_protocol.specs.Short.{plain_reply, short_of}
use Rattle.be_session.specs.Steps.{Replies}
use Rattle.be_session.proofs.Looking.{looks, tied_one, refused_read, wanted_memory}

-- an entry was refused, or memory was wanting after the read or before it
pub refused_send : (s : Attributes) (e : Assignments) (b b' : BoardState) (no : NoRead) → Sends b b' → LeavesLetters b b' → RefusesSend b b' no → Replies s (sending e, plain_reply (short_of no)) b b'
refused_send s e b b' Shut q letters f = refused_read s (sending e) b b' Shut refl q.goes letters q.splits f
refused_send s e b b' NoMemory q letters f = wanted_memory s (sending e) b b' refl (record { goes = q.goes; own = q.own; letters = letters; splits = q.splits; alone = q.alone }) f
