-- What is known of a request that was read: no name in a refusal has an LF, and an event's attributes are the schema's.
use Rattle.std.proofs.Common.{◌≡◌, ℕ, ℤ, zero, suc, ◌+◌, ◌<◌, ◌==◌, ◌&&◌, true, false, not, List, [], ◌∷◌, length, Option, Some, None, refl, sym, ap, ◌∙◌, subst, arith}
use Rattle.std.specs.Prelude.{decimal}
use Rattle.std.specs.List.{list_all}
use Rattle.std.proofs.lemmas.Bool.{and_parts, and_from, or_from, false_from_ne_true, eqb-true}
use Rattle.std.proofs.lemmas.Bool.Decides.{nat_tests}
use Rattle.std.proofs.lemmas.List.Elements.{All-cons, All-nil}
use Rattle.be_base.specs.Text.{Text, IsName, is_word_byte}
use Rattle.be_base.specs.declared.names.AttrNo.{AttrNo}
use Rattle.be_io.specs.Lines.{has_lf}
use Rattle.be_model.specs.Domains.{Range}
use Rattle.be_model.specs.Lies.{lies_in, item_lies, event_lies}
use Rattle.be_model.specs.Matching.{Assignments}
use Rattle.be_model.specs.Schemas.{Attributes, range_of}
use Rattle.be_model.proofs.InSchema.{range_below}
use Rattle.be_change.specs.Requests as asked
use Rattle.be_protocol.specs.Requests.{plain_refusal, plain_request, request_lies}
use Rattle.be_protocol.specs.declared.requests.Refusal.{Refusal}
use Rattle.be_protocol.specs.declared.requests.Refusal.TheVariants.{Bad, Long, Attr, Dom, Twice, Many}
use Rattle.be_protocol.specs.declared.requests.Request.{Request}
use Rattle.be_protocol.specs.declared.requests.Request.TheVariants.{Subscribe, Unsubscribe, Publish, Costing, Listing, Sending, Fetching, Dumping, Tailing, Quit, Refused}
use Rattle.be_demand.specs.Counts.{adds_to, is_asked, HaveWords, HasWords}
use Rattle.be_demand.specs.Texts.{is_whole, HasLines}
use Rattle.be_demand.proofs.Adding.{one_if}
use Rattle.be_demand.proofs.WholeTexts.{plain_number}

not_lf : (b : ℕ) → is_word_byte b ≡ true → (b == 10) ≡ false
unfolding is_word_byte
not_lf b h = false_from_ne_true (b == 10) (λ e. let same : b ≡ 10 = eqb-true b 10 e in let none : is_word_byte 10 ≡ false = refl in let some = ap is_word_byte (sym same) ∙ h in absurd (cc))

plain_word : (text : Text) → list_all is_word_byte text ≡ true → has_lf text ≡ false
plain_word [] h = refl
plain_word (b ∷ text) h =
    let p = and_parts (is_word_byte b) (list_all is_word_byte text) h in or_from (b == 10) (has_lf text) (not_lf b p.0) (plain_word text p.1)

pub name_whole : (name : Text) → IsName name → is_whole name ≡ true
name_whole name is = ap not (plain_word name is.bytes)

abbrev ShowsLines : Refusal → Type 0
ShowsLines r = (s : Attributes) → HasLines s (asked.refusal (plain_refusal r))

one_line : (text : Text) → is_whole text ≡ true → (is_whole text && true) ≡ true
one_line text h = and_from (is_whole text) true h refl

pub attr_shown : (r : Refusal) (name : Text) → r ≡ Attr name → IsName name → ShowsLines r
attr_shown r name is named = subst ShowsLines (sym is) (λ s. one_line name (name_whole name named))

pub dom_shown : (r : Refusal) (name : Text) → r ≡ Dom name → IsName name → ShowsLines r
dom_shown r name is named = subst ShowsLines (sym is) (λ s. one_line name (name_whole name named))

pub twice_shown : (r : Refusal) (name : Text) → r ≡ Twice name → IsName name → ShowsLines r
twice_shown r name is named = subst ShowsLines (sym is) (λ s. one_line name (name_whole name named))

pub many_shown : (r : Refusal) (count : ℕ) → r ≡ Many count → ShowsLines r
many_shown r count is = subst ShowsLines (sym is) (λ s. one_line (decimal count) (ap not (plain_number count)))

-- the refusal that a request is
pub refused_shown : (request : Request) (r : Refusal) → request ≡ Refused r → ShowsLines r → (s : Attributes) (t : asked.Refusal) → plain_request request ≡ asked.refused t → HasLines s (asked.refusal t)
refused_shown request r is shown s t e =
    let same : plain_refusal r ≡ t = inside (plain_refusal r) t (sym (ap plain_request is) ∙ e) in
    subst (λ u. HasLines s (asked.refusal u)) same (shown s)
  where
    inside : (a b : asked.Refusal) → asked.refused a ≡ asked.refused b → a ≡ b
    inside a b e = cc

item_below : (s : Attributes) (item : AttrNo × List ℤ) → item_lies s item ≡ true → 1 + item.0.0 < 1 + length s
item_below s item h = by_range (range_of s item.0) refl h
  where
    by_range : (o : Option Range) → range_of s item.0 ≡ o → lies_in o item.1 ≡ true → 1 + item.0.0 < 1 + length s
    by_range None e l = absurd (cc)
    by_range (Some r) e l = omega (arith, range_below s item.0 r e)

event_below : (s : Attributes) (e : Assignments) → event_lies s e ≡ true → HaveWords (1 + length s) e
event_below s [] h = All-nil (λ (item : AttrNo × List ℤ). 1 + item.0.0 < 1 + length s)
event_below s (item ∷ items) h =
    let p = and_parts (item_lies s item) (event_lies s items) h in
    All-cons (λ (item : AttrNo × List ℤ). 1 + item.0.0 < 1 + length s) item items (item_below s item p.0) (event_below s items p.1)

pub has_words : (s : Attributes) (request : Request) → request_lies s request ≡ true → HasWords (1 + length s) (plain_request request)
has_words s (Publish event) h = event_below s event h
has_words s (Subscribe x) h = tt
has_words s (Unsubscribe x) h = tt
has_words s (Costing x) h = tt
has_words s Listing h = tt
has_words s (Sending x) h = tt
has_words s (Fetching x y) h = tt
has_words s Dumping h = tt
has_words s (Tailing x y z) h = tt
has_words s Quit h = tt
has_words s (Refused r) h = tt
