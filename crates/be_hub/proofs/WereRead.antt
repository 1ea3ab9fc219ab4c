-- Where no link has a fault, all were read.
use Rattle.std.proofs.Common.{◌≡◌, ℕ, zero, suc, ◌+◌, ◌<◌, inr, Bool, false, List, length, sym, ap, ◌∙◌, arith}
use Rattle.be_base.specs.declared.names.SessionNo.{SessionNo}
use Rattle.be_io.specs.Outside.{LinkState}
use Rattle.be_model.specs.Schemas.{Attributes}
use Rattle.be_change.specs.History.{Entry}
use Rattle.be_door.specs.declared.sums.Sums.{Sums}
use Rattle.be_protocol.specs.Conversation.{Terms}
use Rattle.be_protocol.specs.declared.ends.SessionEnd.{SessionEnd}
use Rattle.be_protocol.specs.declared.ends.SessionEnd.TheVariants.{Eof, Quit, ReadFault, WriteFault, Spent, Split, NoMemory}
use Rattle.be_hub.specs.Files.{IsRead}
use Rattle.be_base.specs.Counts.{raised, HasRisenBy}
use Rattle.be_door.specs.Door.{DoorState}
use Rattle.be_hub.specs.Serving.{legal_terms, IsServedUnder, ServedLink, IsServedLink, AreFaultless, LinksAreServed, WereRead, served_door, IsTried}
use Rattle.be_hub.proofs.Places.{all_from_places, at_of_all}
use Rattle.be_hub.proofs.Shuts.{none_at}

-- without a fault of any link its session ended by the input's end or by a QUIT
pub read_by : (t : Terms) (sums : Sums) (link : LinkState) (end : SessionEnd) → IsServedUnder t sums link end → AreFaultless sums → IsRead end
read_by t sums link Eof l none = tt
read_by t sums link Quit l none = tt
read_by t sums link ReadFault l none = absurd (omega (arith, l.counted, none.0))
read_by t sums link WriteFault l none = absurd (omega (arith, l.counted, none.1))
read_by t sums link Spent l none = absurd (omega (arith, l.counted, none.2))
read_by t sums link (Split i j) l none = absurd l.ends
read_by t sums link NoMemory l none = absurd l.ends

-- where none failed, all were given out
pub all_given : (given failed links : ℕ) → given + failed ≡ links → (0 < failed → ⊥) → given ≡ links
all_given given zero links is never = omega (arith, is)
all_given given (suc n) links is never = absurd (never (omega arith))

module _ {L : Type 0} (told : L → LinkState) (s : Attributes) (opening h : List Entry) (shuts : Bool) (seats links : ℕ) (sums : Sums) (keeps : Bool) (kept : List (SessionNo × L)) where
  pub were_read : (l : LinksAreServed told s opening h shuts seats links sums keeps kept) → shuts ≡ false → AreFaultless sums → WereRead links sums l.served
  were_read l is none =
      let all : sums.given ≡ links = all_given sums.given sums.failed links l.came_back.1 (λ some. absurd (omega (arith, l.failed some, none.0))) in
      record {
        given = all;
        back = l.came_back.0 ∙ all;
        each = all_from_places (λ (x : ServedLink). IsRead x.end × (x.told.shut ≡ false)) l.served
            (λ i x at. (
              read_by (legal_terms s x.session x.known x.seen h x.told) sums x.link x.end (at_of_all (IsServedLink s h sums) l.served i x l.each at).legal none,
              none_at (λ (y : ServedLink). y.told.shut) l.served i x (sym l.some_shut ∙ is) at,
            ));
      }

-- a door that was settled was tried
pub served_tried : {L : Type 0} (door door' : DoorState L) (port links workers : ℕ) (sums : Sums) (kept : List (SessionNo × L)) → door' ≡ served_door door port links workers sums kept → IsTried door door' port
served_tried door door' port links workers sums kept is = record {
  tries = ap (λ d. d.tries) is;
  port_is = ap (λ d. d.port) is;
  listens = inr (ap (λ d. d.listens) is);
  keeps = ap (λ d. d.keeps) is;
  read_faults = none_fell door.read_faults door'.read_faults sums.read_faults (ap (λ d. d.read_faults) is);
  write_faults = none_fell door.write_faults door'.write_faults sums.write_faults (ap (λ d. d.write_faults) is);
}
  where
    none_fell : (a b n : ℕ) → b ≡ raised n a → HasRisenBy 0 a b
    none_fell a b n is = omega (arith, is)
