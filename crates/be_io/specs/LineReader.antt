-- The fields of a reader of lines.
use Rattle.std.specs.Prelude.{◌≡◌, ◌+◌, ◌≤◌, true, [], length, take}
use Rattle.be_base.specs.declared.limits.TheConstants.{FILE_BYTES, READ_BYTES, SOURCE_BYTES}
use Rattle.be_io.specs.Reader.{ReaderState}
use Rattle.be_io.specs.declared.lines.LineReader.TheInside.{Inside}

abbrev pub reader_state : Inside → ReaderState
reader_state r = record {
  limit = r.limit;
  unread = r.buffer.unread;
  text = take r.text_len r.buffer.used;
  taken = r.taken;
  ended = r.ended;
  stopped = r.stopped;
}

-- the buffer has room for a line and one read, and the text is the front of what was used last
pub record IsSound (r : Inside) : Type 0 where
  pub limit : r.limit ≤ FILE_BYTES
  pub room : r.buffer.room ≡ r.limit + READ_BYTES
  pub fits : length r.buffer.unread ≤ r.limit + READ_BYTES
  pub text : r.text_len ≤ length r.buffer.used
  pub counted : length r.buffer.unread ≤ r.taken
  pub bound : r.taken ≤ SOURCE_BYTES
  pub done : r.ended ≡ true → r.buffer.unread ≡ []
