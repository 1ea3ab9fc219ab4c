-- What is known of a reader within a call.
use Rattle.std.proofs.Common.{◌≡◌, ℕ, ◌+◌, ◌<◌, ◌≤◌, ◌==◌, ◌||◌, inl, inr, Bool, true, false, List, [], ◌∷◌, ◌++◌, length, take, drop, nat_lt, Option, Some, None, refl, sym, ap, subst, ◌∙◌, arith, append_assoc, add-zero, length-take, length-append, if◌then◌else◌}
use Rattle.std.proofs.lemmas.List.{append-nil, take_all, take_at, nil_from_length}
use Rattle.std.proofs.lemmas.Bool.{or_parts}
use Rattle.std.proofs.lemmas.Bool.Decides.{nat_tests}
use Rattle.be_io.specs.declared.lines.Line.{Line}
use Rattle.be_io.specs.declared.lines.Line.TheVariants.{Text, Long, End}
use Rattle.be_io.specs.Lines.{has_lf, without_cr}
use Rattle.be_io.specs.Told.{WhereTold}
use Rattle.be_io.specs.Reader.{ReaderState, NextLine, GivesLine, BreaksOff, text_of}
use Rattle.be_io.specs.Reading.{IsFirstLf, IsReading, answer_of, shown}
use Rattle.be_io.specs.Buffer.{Takes}
use Rattle.be_io.proofs.LfLemmas.{has_lf-append, has_lf-none}

WhereTold-same : (left : Option (List ℕ)) → WhereTold left left (λ before after. before ≡ after)
WhereTold-same None = tt
WhereTold-same (Some left) = refl

WhereTold-map : (before after : Option (List ℕ)) (P Q : List ℕ → List ℕ → Type 0) → ((left rest : List ℕ) → P left rest → Q left rest) → WhereTold before after P → WhereTold before after Q
WhereTold-map None None P Q step told = tt
WhereTold-map None (Some rest) P Q step told = told
WhereTold-map (Some left) None P Q step told = told
WhereTold-map (Some left) (Some rest) P Q step told = step left rest told

WhereTold-join : (before middle after : Option (List ℕ)) (P Q R : List ℕ → List ℕ → Type 0) → ((left between rest : List ℕ) → P left between → Q between rest → R left rest) → WhereTold before middle P → WhereTold middle after Q → WhereTold before after R
WhereTold-join None None None P Q R step first second = tt
WhereTold-join None None (Some rest) P Q R step first second = second
WhereTold-join None (Some between) after P Q R step first second = absurd first
WhereTold-join (Some left) None after P Q R step first second = absurd first
WhereTold-join (Some left) (Some between) None P Q R step first second = second
WhereTold-join (Some left) (Some between) (Some rest) P Q R step first second = step left between rest first second

-- nothing was read yet
pub IsReading-start : (old : ReaderState) (left : Option (List ℕ)) → old.text ≡ [] → IsReading old old left left 0 0
IsReading-start old left shows_none = record {
  given = [];
  begun = [];
  same = ap (λ (text : List ℕ). record old { text = text }) shows_none ∙ ap (λ (n : ℕ). record old { text = []; taken = n }) (sym (add-zero old.taken));
  parts = append-nil old.unread;
  told = WhereTold-same left;
  skipped_is = refl;
  passed = refl;
  long = λ h. refl;
  within = omega arith;
  clean = refl;
}

-- no LF stands among the unread bytes that were all searched
pub IsReading-none : (old new : ReaderState) (before after : Option (List ℕ)) (skipped : ℕ) → IsReading old new before after skipped (length new.unread) → has_lf new.unread ≡ false
IsReading-none old new before after skipped reading =
    ap has_lf (sym (take_all (length new.unread) new.unread (omega arith))) ∙ reading.clean

pub IsReading-counted : {old new : ReaderState} {before after : Option (List ℕ)} {skipped scanned : ℕ} → IsReading old new before after skipped scanned → length old.unread ≤ old.taken → skipped + length new.unread ≤ new.taken
IsReading-counted {old} {new} {before} {after} {skipped} {scanned} reading counted =
    let taken : new.taken ≡ old.taken + length reading.given = ap (λ r. r.taken) reading.same in
    omega (arith, ap length reading.parts, length-append old.unread reading.given, length-append reading.begun new.unread, reading.skipped_is)

IsReading-skip_by : (old a b : ReaderState) (before after : Option (List ℕ)) (skipped scanned n : ℕ) (t : Bool) → (t ≡ true → skipped ≡ 0 → a.limit < length a.unread) → (t ≡ false → skipped ≡ 0) → IsReading old a before after skipped scanned → has_lf a.unread ≡ false → n ≡ (if t then length a.unread else 0) → b ≡ (if t then record a { unread = [] } else a) → IsReading old b before after (skipped + n) (length b.unread)
IsReading-skip_by old a b before after skipped scanned n true over within reading none n_is b_is =
    let P : ReaderState → Type 0 = λ r. IsReading old r before after (skipped + n) (length r.unread) in
    let far = over refl in
    subst P (sym b_is) record {
      given = reading.given;
      begun = reading.begun ++ a.unread;
      same = ap (λ (s : ReaderState). record s { unread = [] }) reading.same;
      parts = reading.parts ∙ sym (append-nil (reading.begun ++ a.unread));
      told = reading.told;
      skipped_is = length-append reading.begun a.unread ∙ (let e : length reading.begun + length a.unread ≡ skipped + n = omega (arith, reading.skipped_is) in e);
      passed = has_lf-none reading.begun a.unread reading.passed none;
      long = λ (h : skipped + n ≤ a.limit). let small : skipped ≡ 0 = reading.long (omega arith) in let wrong : a.limit < length a.unread = far small in absurd (omega arith);
      within = omega arith;
      clean = refl;
    }
IsReading-skip_by old a b before after skipped scanned n false over within reading none n_is b_is =
    let P : ReaderState → Type 0 = λ r. IsReading old r before after (skipped + n) (length r.unread) in
    subst P (sym b_is) record {
      given = reading.given;
      begun = reading.begun;
      same = reading.same;
      parts = reading.parts;
      told = reading.told;
      skipped_is = (let e : length reading.begun ≡ skipped + n = omega (arith, reading.skipped_is) in e);
      passed = reading.passed;
      long = λ (h : skipped + n ≤ a.limit). let e : skipped ≡ 0 = within refl in omega arith;
      within = omega arith;
      clean = ap has_lf (take_all (length a.unread) a.unread (omega arith)) ∙ none;
    }

is_over : (skipped limit len : ℕ) → (nat_lt 0 skipped || nat_lt limit len) ≡ true → skipped ≡ 0 → limit < len
is_over skipped limit len h e = grind (arith, nat_tests)

is_within : (skipped limit len : ℕ) → (nat_lt 0 skipped || nat_lt limit len) ≡ false → skipped ≡ 0
is_within skipped limit len h = grind (arith, nat_tests)

-- after the unread bytes were passed over where they belong to a line over the limit
pub IsReading-skip : {old a b : ReaderState} {before after : Option (List ℕ)} {skipped scanned n : ℕ} → IsReading old a before after skipped scanned → has_lf a.unread ≡ false → n ≡ (if nat_lt 0 skipped || nat_lt a.limit (length a.unread) then length a.unread else 0) → b ≡ (if nat_lt 0 skipped || nat_lt a.limit (length a.unread) then record a { unread = [] } else a) → IsReading old b before after (skipped + n) (length b.unread)
IsReading-skip {old} {a} {b} {before} {after} {skipped} {scanned} {n} =
    IsReading-skip_by old a b before after skipped scanned n (nat_lt 0 skipped || nat_lt a.limit (length a.unread)) (is_over skipped a.limit (length a.unread)) (is_within skipped a.limit (length a.unread))

-- after one more read
pub IsReading-fill : {old b c : ReaderState} {before middle after : Option (List ℕ)} {skipped k : ℕ} → IsReading old b before middle skipped (length b.unread) → c ≡ record b { unread = c.unread; text = []; taken = b.taken + k } → Takes b.unread c.unread middle after k → IsReading old c before after skipped (length b.unread)
IsReading-fill {old} {b} {c} {before} {middle} {after} {skipped} {k} reading c_is takes =
    let more = takes.0 in
    let limit : c.limit ≡ b.limit = ap (λ r. r.limit) c_is in
    let count : old.taken + length reading.given + k ≡ old.taken + length (reading.given ++ more) = omega (arith, takes.1, length-append reading.given more) in
    let joined : length c.unread ≡ length b.unread + length more = ap length takes.2 ∙ length-append b.unread more in record {
      given = reading.given ++ more;
      begun = reading.begun;
      same = c_is ∙ ap (λ (s : ReaderState). record s { unread = c.unread; text = []; taken = s.taken + k }) reading.same ∙ ap (λ (n : ℕ). record old { unread = c.unread; text = []; taken = n }) count;
      parts = sym (append_assoc old.unread reading.given more) ∙ ap (λ front. front ++ more) reading.parts ∙ append_assoc reading.begun b.unread more ∙ ap (λ rest. reading.begun ++ rest) (sym takes.2);
      told = WhereTold-join before middle after (λ left rest. left ≡ reading.given ++ rest) (λ left rest. (left ≡ more ++ rest) × (k ≡ 0 → rest ≡ [])) (λ left rest. left ≡ reading.given ++ more ++ rest) (λ left between rest first second. first ∙ ap (λ l. reading.given ++ l) second.0 ∙ sym (append_assoc reading.given more rest)) reading.told takes.3;
      skipped_is = reading.skipped_is;
      passed = reading.passed;
      long = λ (h : skipped ≤ c.limit). reading.long (omega arith);
      within = omega arith;
      clean = ap has_lf (ap (λ u. take (length b.unread) u) takes.2 ∙ take_at b.unread more (length b.unread) refl) ∙ IsReading-none old b before middle skipped reading;
    }

-- all that was left at first, by its parts
bytes_are : (old new : ReaderState) (before after : Option (List ℕ)) (skipped scanned : ℕ) (reading : IsReading old new before after skipped scanned) (left rest : List ℕ) → left ≡ reading.given ++ rest → old.unread ++ left ≡ reading.begun ++ new.unread ++ rest
bytes_are old new before after skipped scanned reading left rest is =
    ap (λ l. old.unread ++ l) is ∙ sym (append_assoc old.unread reading.given rest) ∙ ap (λ front. front ++ rest) reading.parts

GivesLine-by : (new : ReaderState) (line : Line) (total : ℕ) (whole tail bytes rest : List ℕ) (t : Bool) → nat_lt new.limit total ≡ t → line ≡ (if t then Long total else Text) → new.text ≡ text_of new.ended (if t then [] else tail) → length whole ≡ total → (total ≤ new.limit → whole ≡ tail) → NextLine new.ended bytes whole rest → GivesLine new line bytes rest
GivesLine-by new line total whole tail bytes rest true test line_is text_is total_is same next =
    let P : Line → Type 0 = λ l. GivesLine new l bytes rest in
    subst P (sym line_is) (whole, total_is, grind (arith, nat_tests), next)
GivesLine-by new line total whole tail bytes rest false test line_is text_is total_is same next =
    let P : Line → Type 0 = λ l. GivesLine new l bytes rest in
    let short : total ≤ new.limit = grind (arith, nat_tests) in
    let within : length whole ≤ new.limit = omega arith in
    subst P (sym line_is) (whole, within, text_is ∙ ap (λ l. text_of new.ended l) (sym (same short)), next)

-- a line of so many bytes, of which the tail stood in the buffer, as an answer
GivesLine-answer : (new : ReaderState) (line : Line) (total : ℕ) (whole tail bytes rest : List ℕ) → line ≡ answer_of new.limit total → new.text ≡ text_of new.ended (shown new.limit total tail) → length whole ≡ total → (total ≤ new.limit → whole ≡ tail) → NextLine new.ended bytes whole rest → GivesLine new line bytes rest
GivesLine-answer new line total whole tail bytes rest =
    GivesLine-by new line total whole tail bytes rest (nat_lt new.limit total) refl

-- the tail is the whole line where nothing of it was passed over
whole_is : (begun tail : List ℕ) (skipped limit len : ℕ) → length begun ≡ skipped → (skipped ≤ limit → skipped ≡ 0) → skipped + len ≤ limit → begun ++ tail ≡ tail
whole_is begun tail skipped limit len skipped_is long within =
    let few : skipped ≡ 0 = long (omega arith) in
    ap (λ b. b ++ tail) (nil_from_length begun (skipped_is ∙ few))

-- the line before the first LF
pub IsReading-close : {old a new : ReaderState} {before after : Option (List ℕ)} {skipped scanned len : ℕ} {line : Line} → IsReading old a before after skipped scanned → old.ended ≡ false → IsFirstLf a.unread len → line ≡ answer_of a.limit (skipped + len) → new ≡ record a { unread = drop (len + 1) a.unread; text = without_cr (shown a.limit (skipped + len) (take len a.unread)) } → WhereTold before after (λ left rest. GivesLine new line (old.unread ++ left) (new.unread ++ rest))
IsReading-close {old} {a} {new} {before} {after} {skipped} {scanned} {len} {line} reading open_now lf line_is new_is =
    let begun = reading.begun in
    let tail : List ℕ = take len a.unread in
    let behind : List ℕ = drop (len + 1) a.unread in
    let inside : len < length a.unread = lf.0 in
    let whole_len : length (begun ++ tail) ≡ skipped + len = length-append begun tail ∙ (let e : length begun + length tail ≡ skipped + len = omega (arith, reading.skipped_is, length-take len a.unread) in e) in
    let ended : new.ended ≡ false = ap (λ r. r.ended) new_is ∙ ap (λ r. r.ended) reading.same ∙ open_now in
    let limit : new.limit ≡ a.limit = ap (λ r. r.limit) new_is in
    let rest_is : new.unread ≡ behind = ap (λ r. r.unread) new_is in
    WhereTold-map before after (λ left rest. left ≡ reading.given ++ rest) (λ left rest. GivesLine new line (old.unread ++ left) (new.unread ++ rest)) (λ left rest is.
    GivesLine-answer new line (skipped + len) (begun ++ tail) tail (old.unread ++ left) (new.unread ++ rest) (line_is ∙ ap (λ n. answer_of n (skipped + len)) (sym limit)) (ap (λ r. r.text) new_is ∙ ap (λ n. without_cr (shown n (skipped + len) tail)) (sym limit) ∙ ap (λ e. text_of e (shown new.limit (skipped + len) tail)) (sym ended)) whole_len (λ h. whole_is begun tail skipped new.limit len reading.skipped_is (λ (few : skipped ≤ new.limit). reading.long (omega arith)) h) (inl (ended, (has_lf-none begun tail reading.passed lf.1.0, bytes_are old a before after skipped scanned reading left rest is ∙ ap (λ u. begun ++ u ++ rest) lf.1.1 ∙ ap (λ f. f ++ rest) (sym (append_assoc begun tail (10 ∷ behind))) ∙ append_assoc (begun ++ tail) (10 ∷ behind) rest ∙ ap (λ u. begun ++ tail ++ 10 ∷ (u ++ rest)) (sym rest_is))))) reading.told

-- the end of the input, or the line before it
answer_by : (new : ReaderState) (line : Line) (total : ℕ) (whole bytes rest tail : List ℕ) (t : Bool) → (total == 0) ≡ t → line ≡ (if t then End else answer_of new.limit total) → new.text ≡ text_of new.ended (shown new.limit total tail) → length whole ≡ total → (total ≤ new.limit → whole ≡ tail) → new.ended ≡ true → has_lf whole ≡ false → bytes ≡ whole → rest ≡ [] → GivesLine new line bytes rest
answer_by new line total whole bytes rest tail true test line_is text_is total_is same ended none bytes_is rest_is =
    let P : Line → Type 0 = λ l. GivesLine new l bytes rest in
    let nothing : total ≡ 0 = grind (arith, nat_tests) in
    subst P (sym line_is) (ended, bytes_is ∙ nil_from_length whole (total_is ∙ nothing), rest_is)
answer_by new line total whole bytes rest tail false test line_is text_is total_is same ended none bytes_is rest_is =
    let some : 0 < total = grind (arith, nat_tests) in
    let some_bytes : 0 < length whole = omega arith in
    GivesLine-answer new line total whole tail bytes rest line_is text_is total_is same (inr (ended, (none, some_bytes, bytes_is, rest_is)))

-- the last line
pub IsReading-finish : {old b c new : ReaderState} {before middle : Option (List ℕ)} (after : Option (List ℕ)) {skipped : ℕ} {line : Line} → IsReading old b before middle skipped (length b.unread) → c ≡ record b { unread = c.unread; text = []; taken = b.taken + 0 } → Takes b.unread c.unread middle after 0 → line ≡ (if skipped + length c.unread == 0 then End else answer_of c.limit (skipped + length c.unread)) → new ≡ record c { unread = []; text = shown c.limit (skipped + length c.unread) c.unread; ended = true } → WhereTold before after (λ left rest. GivesLine new line (old.unread ++ left) (new.unread ++ rest))
IsReading-finish {old} {b} {c} {new} {before} {middle} after {skipped} {line} reading c_is takes line_is new_is =
    let begun = reading.begun in
    let limit : new.limit ≡ b.limit = ap (λ r. r.limit) new_is ∙ ap (λ r. r.limit) c_is in
    let same : new.limit ≡ c.limit = ap (λ r. r.limit) new_is in
    let rest_is : new.unread ≡ [] = ap (λ r. r.unread) new_is in
    let ended : new.ended ≡ true = ap (λ r. r.ended) new_is in
    let nothing : takes.0 ≡ [] = nil_from_length takes.0 takes.1 in
    let tail : c.unread ≡ b.unread = takes.2 ∙ ap (λ l. b.unread ++ l) nothing ∙ append-nil b.unread in
    let none : has_lf (begun ++ c.unread) ≡ false = has_lf-none begun c.unread reading.passed (ap has_lf tail ∙ IsReading-none old b before middle skipped reading) in
    let whole_len : length (begun ++ c.unread) ≡ skipped + length c.unread = length-append begun c.unread ∙ ap (λ n. n + length c.unread) reading.skipped_is in
    WhereTold-join before middle after (λ left rest. left ≡ reading.given ++ rest) (λ left rest. (left ≡ takes.0 ++ rest) × (0 ≡ 0 → rest ≡ [])) (λ left rest. GivesLine new line (old.unread ++ left) (new.unread ++ rest)) (λ left between rest first second.
    let gone : rest ≡ [] = second.1 refl in
    let empty : between ≡ [] = second.0 ∙ ap (λ l. l ++ rest) nothing ∙ gone in
    answer_by new line (skipped + length c.unread) (begun ++ c.unread) (old.unread ++ left) (new.unread ++ rest) c.unread (skipped + length c.unread == 0) refl (line_is ∙ ap (λ n. if skipped + length c.unread == 0 then End else answer_of n (skipped + length c.unread)) (sym same)) (ap (λ r. r.text) new_is ∙ ap (λ n. shown n (skipped + length c.unread) c.unread) (sym same) ∙ ap (λ e. text_of e (shown new.limit (skipped + length c.unread) c.unread)) (sym ended)) whole_len (λ h. whole_is begun c.unread skipped new.limit (length c.unread) reading.skipped_is (λ (few : skipped ≤ new.limit). reading.long (omega arith)) h) ended none (bytes_are old b before middle skipped (length b.unread) reading left between first ∙ ap (λ l. begun ++ b.unread ++ l) empty ∙ append-nil (begun ++ b.unread) ∙ ap (λ u. begun ++ u) (sym tail)) (ap (λ u. u ++ rest) rest_is ∙ gone)) reading.told takes.3

-- what was taken before a fault has no LF
pub IsReading-broken : {old b : ReaderState} {before middle after : Option (List ℕ)} {skipped : ℕ} → IsReading old b before middle skipped (length b.unread) → after ≡ middle → WhereTold before after (λ left rest. BreaksOff (old.unread ++ left) rest)
IsReading-broken {old} {b} {before} {middle} {after} {skipped} reading after_is =
    let P : Option (List ℕ) → Type 0 = λ m. WhereTold before m (λ left rest. BreaksOff (old.unread ++ left) rest) in
    subst P (sym after_is) (WhereTold-map before middle (λ left rest. left ≡ reading.given ++ rest) (λ left rest. BreaksOff (old.unread ++ left) rest) (λ left rest is. (reading.begun ++ b.unread, has_lf-none reading.begun b.unread reading.passed (IsReading-none old b before middle skipped reading), bytes_are old b before middle skipped (length b.unread) reading left rest is)) reading.told)

pub IsReading-unbroken : {old b : ReaderState} {before middle : Option (List ℕ)} {skipped : ℕ} → IsReading old b before middle skipped (length b.unread) → has_lf old.unread ≡ false
IsReading-unbroken {old} {b} {before} {middle} {skipped} reading =
    (or_parts (has_lf old.unread) (has_lf reading.given) (sym (has_lf-append old.unread reading.given) ∙ ap has_lf reading.parts ∙ has_lf-none reading.begun b.unread reading.passed (IsReading-none old b before middle skipped reading))).0

-- no read follows where a whole line was there already
pub IsReading-ahead : {old b : ReaderState} {before middle : Option (List ℕ)} {skipped : ℕ} {P : Type 0} → IsReading old b before middle skipped (length b.unread) → has_lf old.unread ≡ true → P
IsReading-ahead {old} {b} {before} {middle} {skipped} {P} reading ahead =
    let none : has_lf old.unread ≡ false = IsReading-unbroken reading in
    absurd cc
