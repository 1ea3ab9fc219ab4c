-- Whole plain lines, and what they ask for.
use Rattle.std.proofs.Common.{◌≡◌, ℕ, zero, suc, ◌-◌, ◌≤◌, ◌==◌, ◌&&◌, Bool, true, false, cond, ltb, leb, List, [], ◌∷◌, ◌++◌, length, take, get_or, map, append_assoc, append-nil, refl, sym, ap, ◌∙◌, arith}
use Rattle.std.specs.List.{list_all, flat_map}
use Rattle.std.proofs.lemmas.Bool.{and_from, and_parts, le-leb}
use Rattle.std.proofs.lemmas.Bool.Decides.{nat_tests}
use Rattle.std.proofs.lemmas.Grind.{flat_map-append}
use Rattle.std.proofs.lemmas.List.{map-append}
use Rattle.std.proofs.lemmas.List.Folds.{list_all-append}
use Rattle.be_base.specs.Text.{Text}
use Rattle.be_base.specs.declared.limits.TheConstants.{LINE_BYTES}
use Rattle.be_base.proofs.Lexing.{list_all_head}
use Rattle.be_io.specs.Lines as line
use Rattle.be_io.specs.Lines.{has_lf, without_cr, closed_line, lines}
use Rattle.be_io.proofs.FileLineLemmas.{file_lines-ClosedLine}
use Rattle.be_io.proofs.LineLemmas.{lines-ClosedLine}
use Rattle.be_change.specs.Requests.{Request}
use Rattle.be_protocol.specs.Readings.{reading}
use Rattle.be_protocol.specs.Replies.{with_lf}
use Rattle.be_workload.specs.Asked.{schema, text_asks, asked_by_lines}
use Rattle.be_workload.proofs.Plain.{is_plain, IsPlain}

abbrev pub is_plain_line : Text → Bool
is_plain_line l = leb (length l) LINE_BYTES && list_all is_plain l

abbrev read_as : Text → Request
read_as l = reading schema (line.text l)

-- whole lines that ask for these
pub record AreLines (text : Text) (requests : List Request) : Type 0 where
  pub lines_in : List Text
  pub joined : text ≡ flat_map with_lf lines_in
  pub plain : list_all is_plain_line lines_in ≡ true
  pub read : map read_as lines_in ≡ requests

pub no_lines : AreLines [] []
no_lines = record { lines_in = []; joined = refl; plain = refl; read = refl }

pub one_line : (l : Text) (most : ℕ) (request : Request) → most ≤ LINE_BYTES → IsPlain most l → reading schema (line.text l) ≡ request → AreLines (with_lf l) (request ∷ [])
one_line l most request le plain read = record {
  lines_in = l ∷ [];
  joined = sym (append-nil (with_lf l));
  plain = and_from (is_plain_line l) true (and_from (leb (length l) LINE_BYTES) (list_all is_plain l) (le-leb (length l) LINE_BYTES (omega (arith, plain.short))) plain.bytes) refl;
  read = ap (λ (r : Request). r ∷ []) read;
}

pub lines_append : (a b : Text) (rs qs : List Request) → AreLines a rs → AreLines b qs → AreLines (a ++ b) (rs ++ qs)
lines_append a b rs qs h k = record {
  lines_in = h.lines_in ++ k.lines_in;
  joined = ap (λ (t : Text). t ++ b) h.joined ∙ ap (λ (t : Text). flat_map with_lf h.lines_in ++ t) k.joined ∙ sym (flat_map-append with_lf h.lines_in k.lines_in);
  plain = list_all-append is_plain_line h.lines_in k.lines_in ∙ and_from (list_all is_plain_line h.lines_in) (list_all is_plain_line k.lines_in) h.plain k.plain;
  read = map-append read_as h.lines_in k.lines_in ∙ ap (λ (xs : List Request). xs ++ map read_as k.lines_in) h.read ∙ ap (λ (xs : List Request). rs ++ xs) k.read;
}

plain_no_lf : (b : ℕ) → is_plain b ≡ true → (b == 10) ≡ false
plain_no_lf b h = grind (arith, nat_tests)

plain_no_cr : (b : ℕ) → is_plain b ≡ true → (b == 13) ≡ false
plain_no_cr b h = grind (arith, nat_tests)

no_lf : (l : Text) → list_all is_plain l ≡ true → has_lf l ≡ false
no_lf [] h = refl
no_lf (b ∷ l) h =
    let k = list_all_head is_plain b l h in
    rw (plain_no_lf b k.0) (no_lf l k.1)

no_cr_at : (l : Text) (k : ℕ) → list_all is_plain l ≡ true → (get_or l k 0 == 13) ≡ false
no_cr_at [] k h = refl
no_cr_at (b ∷ l) zero h = plain_no_cr b (list_all_head is_plain b l h).0
no_cr_at (b ∷ l) (suc k) h = no_cr_at l k (list_all_head is_plain b l h).1

no_cr : (l : Text) → list_all is_plain l ≡ true → without_cr l ≡ l
no_cr l h = ap (λ b. cond b (take (length l - 1) l) l) (no_cr_at l (length l - 1) h)

within : (n m : ℕ) → leb n m ≡ true → ltb m n ≡ false
within n m h = grind (arith, nat_tests)

plain_closed : (l : Text) → is_plain_line l ≡ true → closed_line LINE_BYTES l ≡ line.text l
plain_closed l h =
    let parts = and_parts (leb (length l) LINE_BYTES) (list_all is_plain l) h in
    ap (λ b. cond b (line.long (length l)) (line.text (without_cr l))) (within (length l) LINE_BYTES parts.0)
    ∙ ap (λ (t : Text). line.text t) (no_cr l parts.1)

asked_each : (ls : List Text) → list_all is_plain_line ls ≡ true → text_asks (flat_map with_lf ls) ≡ map read_as ls
asked_each [] h = refl
asked_each (l ∷ ls) h =
    let parts = and_parts (is_plain_line l) (list_all is_plain_line ls) h in
    let rest = flat_map with_lf ls in
    let plain = (and_parts (leb (length l) LINE_BYTES) (list_all is_plain l) parts.0).1 in
    let first = lines-ClosedLine LINE_BYTES true (with_lf l ++ rest) l rest (no_lf l plain, append_assoc l (10 ∷ []) rest) in
    ap (map (reading schema)) first
    ∙ ap (λ (x : line.TextLine). reading schema x ∷ text_asks rest) (plain_closed l parts.0)
    ∙ ap (λ (rs : List Request). read_as l ∷ rs) (asked_each ls parts.1)

-- the lines of the text ask for them
pub lines_ask : (text : Text) (requests : List Request) → AreLines text requests → text_asks text ≡ requests
lines_ask text requests k = ap text_asks k.joined ∙ asked_each k.lines_in k.plain ∙ k.read

by_lines_each : (ls : List Text) → list_all is_plain_line ls ≡ true → asked_by_lines (flat_map with_lf ls) ≡ map read_as ls
by_lines_each [] h = refl
by_lines_each (l ∷ ls) h =
    let parts = and_parts (is_plain_line l) (list_all is_plain_line ls) h in
    let rest = flat_map with_lf ls in
    let plain = (and_parts (leb (length l) LINE_BYTES) (list_all is_plain l) parts.0).1 in
    let first = file_lines-ClosedLine (with_lf l ++ rest) l rest (no_lf l plain, append_assoc l (10 ∷ []) rest) in
    ap (map read_as) first
    ∙ ap (λ (t : Text). read_as t ∷ asked_by_lines rest) (no_cr l plain)
    ∙ ap (λ (rs : List Request). read_as l ∷ rs) (by_lines_each ls parts.1)

-- none of them is long
pub lines_are_short : (text : Text) (requests : List Request) → AreLines text requests → asked_by_lines text ≡ requests
lines_are_short text requests k = ap asked_by_lines k.joined ∙ by_lines_each k.lines_in k.plain ∙ k.read
