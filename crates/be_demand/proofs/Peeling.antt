-- The first exchange of those over a file and its transcript.
use Rattle.std.proofs.Common.{◌≡◌, ℕ, ◌<◌, inl, inr, Bool, true, List, [], ◌∷◌, ◌++◌, length, map, refl, sym, ap, ◌∙◌, arith, length-append}
use Rattle.std.specs.List.{flat_map}
use Rattle.be_base.specs.Text.{Text}
use Rattle.be_base.specs.declared.limits.TheConstants.{LINE_BYTES}
use Rattle.be_io.specs.Lines.{lines, read_line, line_of}
use Rattle.be_io.specs.Reader.{NextLine}
use Rattle.be_io.proofs.LineLemmas.{lines-ClosedLine, lines-OpenLine}
use Rattle.be_model.specs.Schemas.{Attributes}
use Rattle.be_change.specs.Requests.{Refusal, Request, refused, Reply, refusal, ok, held, bye, dup, none, other, hit, cost, listed, sent, notes, dumped, tailed, split, no_memory, shut, Exchange}
use Rattle.be_protocol.specs.Readings.{reading}
use Rattle.be_protocol.specs.Replies.{with_lf, reply_text, first_lines, closing_line}
use Rattle.be_protocol.specs.Transcript.{requests, texts}
use Rattle.be_demand.specs.Texts.{is_hit, HasLines, TellsFirst}
use Rattle.be_demand.specs.Demand.{IsFit, IsOver}

-- the lines of a text are its first line, and those of the rest
lines_next : (ended : Bool) (bytes line rest : Text) → NextLine ended bytes line rest → lines LINE_BYTES true bytes ≡ read_line LINE_BYTES ended line ∷ lines LINE_BYTES true rest
lines_next ended bytes line rest (inl closed) =
    lines-ClosedLine LINE_BYTES true bytes line rest closed.1 ∙ ap (λ (b : Bool). read_line LINE_BYTES b line ∷ lines LINE_BYTES true rest) (sym closed.0)
lines_next ended bytes line rest (inr last) =
    lines-OpenLine LINE_BYTES bytes line rest last.1 ∙ ap (λ (r : Text). line_of LINE_BYTES line ∷ lines LINE_BYTES true r) (sym last.1.3)
    ∙ ap (λ (b : Bool). read_line LINE_BYTES b line ∷ lines LINE_BYTES true rest) (sym last.0)

some_lines : (ls : List Text) (last : Text) → 0 < length (flat_map with_lf (ls ++ last ∷ []))
some_lines [] last = omega (arith, length-append (with_lf last) [], length-append last (10 ∷ []))
some_lines (l ∷ ls) last = omega (arith, length-append (with_lf l) (flat_map with_lf (ls ++ last ∷ [])), length-append l (10 ∷ []))

-- no reply is left, so no exchange
pub no_replies : (s : Attributes) (file transcript : Text) (ps : List Exchange) → IsOver s file transcript ps → length transcript ≡ 0 → ps ≡ []
no_replies s file transcript [] over empty = refl
no_replies s file transcript (p ∷ ps) over empty =
    absurd (omega (arith, empty, ap length over.text, length-append (reply_text s p.1) (texts s ps), some_lines (first_lines s p.1) (closing_line p.1)))

-- no line is left, so no exchange
pub no_lines : (s : Attributes) (file transcript : Text) (ps : List Exchange) → IsOver s file transcript ps → length file ≡ 0 → ps ≡ []
no_lines s file transcript [] over empty = refl
no_lines s [] transcript (p ∷ ps) over empty = let e = over.lines.1 in absurd (cc)
no_lines s (b ∷ file) transcript (p ∷ ps) over empty = absurd (omega arith)

has_lines : (s : Attributes) (r : Request) (reply : Reply) → IsFit s r reply → ((t : Refusal) → r ≡ refused t → HasLines s (refusal t)) → HasLines s reply
has_lines s r (refusal t) fit named = named t fit
has_lines s r (hit n names) fit named = fit
has_lines s r (listed n names) fit named = fit
has_lines s r (notes letters) fit named = fit
has_lines s r (dumped n rows) fit named = fit
has_lines s r (tailed n start entries) fit named = fit
has_lines s r (ok n) fit named = fit
has_lines s r (held n) fit named = fit
has_lines s r (bye n) fit named = fit
has_lines s r (dup m id) fit named = fit
has_lines s r (none m) fit named = fit
has_lines s r (other m id) fit named = fit
has_lines s r (cost n c) fit named = fit
has_lines s r (sent n put dropped) fit named = fit
has_lines s r (split a b) fit named = fit
has_lines s r no_memory fit named = fit
has_lines s r shut fit named = fit

-- the first of them, whose request and reply were read, and the others
pub record Peeled (s : Attributes) (lines_left replies_left : List ℕ) (request : Request) (is_one : Bool) (ps : List Exchange) : Type 0 where
  pub first : Exchange
  pub rest : List Exchange
  pub all : ps ≡ first ∷ rest
  pub asked : first.0 ≡ request
  pub told : is_one ≡ is_hit first.1
  pub over : IsOver s lines_left replies_left rest

pub peel : (s : Attributes) (ended : Bool) (file line file' transcript transcript' : Text) (request : Request) (is_one : Bool) (ps : List Exchange) → IsOver s file transcript ps
    → NextLine ended file line file' → reading s (read_line LINE_BYTES ended line) ≡ request → ((t : Refusal) → request ≡ refused t → HasLines s (refusal t)) → 0 < length transcript
    → TellsFirst transcript is_one transcript' → Peeled s file' transcript' request is_one ps
peel s ended file line file' transcript transcript' request is_one [] over next read named some tells = absurd (omega (arith, ap length over.text))
peel s ended file line file' transcript transcript' request is_one (p ∷ ps) over next read named some tells =
    let first = read_line LINE_BYTES ended line in
    let others = lines LINE_BYTES true file' in
    let both : reading s first ∷ map (reading s) others ≡ p.0 ∷ (requests ps ++ over.lines.0) = sym (ap (map (reading s)) (lines_next ended file line file' next)) ∙ over.lines.1 in
    let head : reading s first ≡ p.0 = cc in
    let tail : map (reading s) others ≡ requests ps ++ over.lines.0 = cc in
    let asked : p.0 ≡ request = sym head ∙ read in
    let lines_of = has_lines s p.0 p.1 over.fit.0 (λ t e. named t (sym asked ∙ e)) in
    let told = tells s p.1 (texts s ps) lines_of over.text in
    record {
      first = p;
      rest = ps;
      all = refl;
      asked = asked;
      told = told.0;
      over = record { lines = (over.lines.0, tail); text = told.1; fit = over.fit.1 };
    }
