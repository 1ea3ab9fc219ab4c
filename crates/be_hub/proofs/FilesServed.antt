-- A session over a file.
use Rattle.std.proofs.Common.{◌≡◌, ℕ, ◌≤◌, inl, inr, List, [], Some, ap, ◌∙◌, subst, arith}
use Rattle.be_base.specs.declared.limits.TheConstants.{FILE_BYTES}
use Rattle.be_io.specs.Memory.{MemSourceState, MemSinkState}
use Rattle.be_io.specs.Outside.{LinkState}
use Rattle.be_model.specs.Schemas.{Attributes}
use Rattle.be_board.specs.State.{BoardState}
use Rattle.be_protocol.specs.declared.ends.SessionEnd.{SessionEnd}
use Rattle.be_protocol.specs.declared.ends.SessionEnd.TheVariants.{Eof, Quit, ReadFault, WriteFault, Spent, Split, NoMemory}
use Rattle.be_session.specs.Served.{SessionEnds, BoardLeft}
use Rattle.be_desk.specs.Boards.{board_of}
use Rattle.be_desk.specs.Seats.{SeatState}
use Rattle.be_hub.specs.Quiet.{new_file, IsQuietSource}
use Rattle.be_hub.specs.Files.{file_link, IsFileEnd, FileServed}

-- no call failed, and no more was read than a file has
pub record IsCalm (after : LinkState) : Type 0 where
  pub reads : after.source.faults ≡ 0
  pub writes : after.sink.faults ≡ 0
  pub taken : after.source.taken ≤ FILE_BYTES

ends_calm : (P : Type 0) (s : Attributes) (file : List ℕ) (after : LinkState) (b b' : BoardState) (end : SessionEnd) → IsCalm after → SessionEnds P s (file_link file) after b b' end → IsFileEnd end
ends_calm P s file after b b' Eof calm e = tt
ends_calm P s file after b b' Quit calm e = tt
ends_calm P s file after b b' (Split x y) calm e = tt
ends_calm P s file after b b' NoMemory calm e = tt
ends_calm P s file after b b' ReadFault calm e = absurd (omega (arith, e.0, calm.reads))
ends_calm P s file after b b' WriteFault calm e = absurd (omega (arith, e.0, calm.writes))
ends_calm P s file after b b' Spent calm e = absurd (omega (arith, e.0, calm.taken))

pub ends_weaker : (P Q : Type 0) (s : Attributes) (before after : LinkState) (b b' : BoardState) (end : SessionEnd) → (P → Q) → SessionEnds P s before after b b' end → SessionEnds Q s before after b b' end
ends_weaker P Q s before after b b' Eof f e = e
ends_weaker P Q s before after b b' Quit f e = e
ends_weaker P Q s before after b b' (Split x y) f e = e
ends_weaker P Q s before after b b' ReadFault f e = e
ends_weaker P Q s before after b b' WriteFault f e = e
ends_weaker P Q s before after b b' Spent f e = e
ends_weaker P Q s before after b b' NoMemory f (inl u) = inl (f u)
ends_weaker P Q s before after b b' NoMemory f (inr e) = inr e

pub file_served : (P : Type 0) (s s' : Attributes) (file : List ℕ) (seat seat' : SeatState) (out : List ℕ) (end : SessionEnd) (before after : LinkState) (b b' : BoardState) → s' ≡ s → before ≡ file_link file → b ≡ board_of 0 s 0 seat
    → b' ≡ board_of 0 s 0 seat' → (P → (seat' ≡ seat) × (out ≡ [])) → after.sink.held ≡ Some out → IsCalm after → SessionEnds P s' before after b b' end → BoardLeft b b' → FileServed s file seat seat' out end
file_served P s s' file seat seat' out end before after b b' schema is was now same wrote calm ends board =
    let here : SessionEnds P s (file_link file) after (board_of 0 s 0 seat) (board_of 0 s 0 seat') end =
    subst (λ (x : Attributes). SessionEnds P x (file_link file) after (board_of 0 s 0 seat) (board_of 0 s 0 seat') end) schema
    (subst (λ (x : LinkState). SessionEnds P s' x after (board_of 0 s 0 seat) (board_of 0 s 0 seat') end) is
    (subst (λ (x : BoardState). SessionEnds P s' before after x (board_of 0 s 0 seat') end) was
    (subst (λ (x : BoardState). SessionEnds P s' before after b x end) now ends))) in
    record {
      after = after;
      session = ends_weaker P ((seat' ≡ seat) × (out ≡ [])) s (file_link file) after (board_of 0 s 0 seat) (board_of 0 s 0 seat') end same here;
      wrote = wrote;
      board = subst (λ (x : BoardState). BoardLeft x (board_of 0 s 0 seat')) was (subst (λ (x : BoardState). BoardLeft b x) now board);
      quiet = ends_calm P s file after (board_of 0 s 0 seat) (board_of 0 s 0 seat') end calm here;
    }

-- what the two objects of a new link tell
abbrev pub told : MemSourceState → MemSinkState → LinkState
told source sink = record {
  source = record { left = Some source.left; faults = 0; taken = source.taken; whole = Some source.whole };
  sink = record { held = Some sink.held; faults = 0; refusals = sink.refusals; kept_back = 0 };
}

pub link_is : (source : MemSourceState) (sink : MemSinkState) (file : List ℕ) → source ≡ new_file file → sink.held ≡ [] → sink.refusals ≡ 0 → told source sink ≡ file_link file
link_is source sink file is held refusals =
    ap (λ (x : MemSourceState). told x sink) is ∙ (λ i. record {
      source = record { left = Some file; faults = 0; taken = 0; whole = Some file };
      sink = record { held = Some (held i); faults = 0; refusals = refusals i; kept_back = 0 };
    })

pub few_taken : (source source' : MemSourceState) → IsQuietSource source → source ≡ source' → source'.taken ≤ FILE_BYTES
few_taken source source' quiet is = subst (λ (x : MemSourceState). x.taken ≤ FILE_BYTES) is (omega (arith, quiet.parts, quiet.few))

pub board_same : (per_tend : ℕ) (s : Attributes) (m n : ℕ) (seat seat' : SeatState) → m ≡ n → seat ≡ seat' → board_of per_tend s m seat ≡ board_of per_tend s n seat'
board_same per_tend s m n seat seat' a b = ap (λ (k : ℕ). board_of per_tend s k seat) a ∙ ap (board_of per_tend s n) b
