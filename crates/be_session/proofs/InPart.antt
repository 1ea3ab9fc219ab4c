-- A reply that was written whole is one of which all was written.
use Rattle.std.proofs.Common.{◌≡◌, inl, inr, ◌-◌, List, [], ◌∷◌, ℕ, length, take, Option, Some, None, refl, sym, subst}
use Rattle.std.proofs.lemmas.List.{append-nil}
use Rattle.be_base.specs.Lists.{BeginsWith}
use Rattle.be_model.specs.Schemas.{Attributes}
use Rattle.be_change.specs.Requests.{Reply, notes, Note, Exchange}
use Rattle.be_protocol.specs.Conduct.{RepliesSoFar}
use Rattle.be_protocol.specs.Replies.{reply_text}
use Rattle.be_board.specs.State.{BoardState}
use Rattle.be_session.specs.Fetching.{note_lines}
use Rattle.be_session.specs.Given.{letters_of, GivesLetters, GivesInPart, TakenInPart}
use Rattle.be_session.specs.Steps.{RepliesInPart, session_conduct}
use Rattle.be_session.proofs.FetchingEnds.{notes_text, begins_lines, end_line}
use Rattle.be_session.proofs.Said.{tied_in_part}

-- the letters of a whole reply were all taken
taken_none : (s : Attributes) (reply : Reply) → letters_of reply ≡ [] → TakenInPart s [] reply (reply_text s reply) []
taken_none s reply without = record { taken = []; letters = without; given = (reply_text s reply, refl) }

taken_whole : (s : Attributes) (reply : Reply) → TakenInPart s [] reply (reply_text s reply) []
taken_whole s (notes letters) = record {
  taken = letters;
  letters = sym (append-nil letters);
  given = subst (λ (t : List ℕ). BeginsWith t (note_lines s (take (length letters - 1) letters))) (sym (notes_text s letters)) (begins_lines s (length letters - 1) letters (end_line (length letters)));
}
taken_whole s reply = taken_none s reply refl

letters_whole : (o : Option (List Note)) (s : Attributes) (p : Exchange) (b b' : BoardState) → GivesLetters o (p ∷ []) b b' → GivesInPart o s [] p (reply_text s p.1) b b'
letters_whole None s p b b' g = (g.0, g.1, taken_whole s p.1)
letters_whole (Some box) s p b b' g = (g.0, [], g.1, g.2, g.3, taken_whole s p.1)

-- this much was written of a reply
pub in_part : (s : Attributes) (p : Exchange) (part : List ℕ) (b b' : BoardState) → RepliesSoFar (session_conduct s) p part b b' → RepliesInPart s p part b b'
in_part s p part b b' (inr q) = q
in_part s p part b b' (inl (q, is)) =
    subst (λ (out : List ℕ). RepliesInPart s p out b b') (sym is) (record { steps = q.steps; tied = tied_in_part p b b' q.steps.goes.counts.empties q.tied; puts = q.puts; letters = letters_whole b.box s p b b' q.letters })
