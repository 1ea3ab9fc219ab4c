-- A buffer of bytes that wait to be used.
use Rattle.std.specs.Prelude.{◌≡◌, ℕ, ◌-◌, ◌≤◌, ◌++◌, List, [], length, take, drop, vec_len, Option}
use Rattle.be_io.specs.Told.{WhereTold}
use Rattle.be_io.specs.declared.buffer.Buffer.TheInside.{Inside}

pub record BufferState : Type 0 where
  -- how many bytes it has room for
  pub room : ℕ
  -- the bytes that were used last
  pub used : List ℕ
  -- the bytes that were read and aren't used yet
  pub unread : List ℕ

abbrev pub buffer_state : Inside → BufferState
buffer_state b = record {
  room = vec_len b.bytes;
  used = take (b.start - b.shown) (drop b.shown b.bytes.items);
  unread = take (b.end - b.start) (drop b.start b.bytes.items);
}

-- the used bytes stand before the unread ones
pub record InOrder (b : Inside) : Type 0 where
  pub shown : b.shown ≤ b.start
  pub start : b.start ≤ b.end
  pub end : b.end ≤ vec_len b.bytes

-- the next k bytes of the source came behind the unread ones, and none only at the source's end
abbrev pub Takes : List ℕ → List ℕ → Option (List ℕ) → Option (List ℕ) → ℕ → Type 0
Takes old new before after k =
    (given : List ℕ) × (length given ≡ k) × (new ≡ old ++ given)
    × WhereTold before after (λ left rest. (left ≡ given ++ rest) × (k ≡ 0 → rest ≡ []))
