-- What a buffer shows after its unread bytes were used.
use Rattle.std.proofs.Common.{◌≡◌, ℕ, ◌+◌, ◌-◌, ◌≤◌, List, length, take, drop, vec_len, ap, ◌∙◌, arith, length-take}
use Rattle.std.proofs.lemmas.List.{take-take}
use Rattle.be_io.specs.declared.buffer.Buffer.TheInside.{Inside}
use Rattle.be_io.specs.Buffer.{BufferState, InOrder, buffer_state}
use Rattle.be_io.proofs.LfLemmas.{drop-part}

pub buffer_state-used : (b : Inside) (now : BufferState) (count : ℕ) → InOrder b → buffer_state b ≡ now → count ≤ length now.unread
    → buffer_state (record b { shown = b.start; start = b.start + count }) ≡ record now { used = take count now.unread; unread = drop count now.unread }
buffer_state-used b now count order is few =
    let behind : List ℕ = drop b.start b.bytes.items in
    let within : b.start + count ≤ b.end = omega (arith, few, ap (λ s. length s.unread) is, length-take (b.end - b.start) behind, order.start) in
    let all : b.start + count - b.start ≡ count = omega arith in
    let used : take (b.start + count - b.start) behind ≡ take count (take (b.end - b.start) behind) =
    rw (all, take-take count (b.end - b.start) behind (omega arith)) in
    ap (λ (u : List ℕ). record { room = vec_len b.bytes; used = u; unread = take (b.end - (b.start + count)) (drop (b.start + count) b.bytes.items) }) used
    ∙ ap (λ (u : List ℕ). record { room = vec_len b.bytes; used = take count (take (b.end - b.start) behind); unread = u }) (drop-part b.bytes.items b.start b.end count within)
    ∙ ap (λ (s : BufferState). record s { used = take count s.unread; unread = drop count s.unread }) is
