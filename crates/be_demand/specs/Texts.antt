-- How replies are told apart in the text of many.
use Rattle.std.specs.Prelude.{◌≡◌, ℕ, ◌++◌, ◌||◌, Bool, true, false, not, List, nat_eq, codes}
use Rattle.std.specs.List.{list_all, starts_with}
use Rattle.be_base.specs.Text.{Text}
use Rattle.be_io.specs.Lines.{has_lf}
use Rattle.be_model.specs.Schemas.{Attributes}
use Rattle.be_change.specs.Requests.{Reply, hit}
use Rattle.be_protocol.specs.Replies.{reply_lines, reply_text}

abbrev pub begins_with : Text → Text → Bool
begins_with line front = starts_with nat_eq line front

-- a line that isn't the last one of its reply: a letter, a row or a change
abbrev pub goes_on : Text → Bool
goes_on line = begins_with line (codes "NOTE ") || begins_with line (codes "ROW ") || begins_with line (codes "AT ")

abbrev pub says_hit : Text → Bool
says_hit line = begins_with line (codes "HIT ")

abbrev pub is_hit : Reply → Bool
is_hit (hit n names) = true
is_hit _ = false

-- the line has no LF within
abbrev pub is_whole : Text → Bool
is_whole line = not (has_lf line)

-- no line of the reply has an LF within
abbrev pub HasLines : Attributes → Reply → Type 0
HasLines s r = list_all is_whole (reply_lines s r) ≡ true

-- what is told of the reply that a text begins with: whether it is a HIT, and the text after it
abbrev pub TellsFirst : List ℕ → Bool → List ℕ → Type 0
TellsFirst text is_one after =
    (s : Attributes) (r : Reply) (rest : List ℕ) → HasLines s r → text ≡ reply_text s r ++ rest → (is_one ≡ is_hit r) × (after ≡ rest)
