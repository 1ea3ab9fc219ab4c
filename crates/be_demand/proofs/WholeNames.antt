-- No name has an LF: of a schema that a text is, and of the changes that sessions were answered.
use Rattle.std.proofs.Common.{◌≡◌, ◌⊎◌, inl, inr, ℕ, ℤ, zero, suc, ◌+◌, ◌-◌, ◌==◌, Bool, true, false, cond, ◌&&◌, List, [], ◌∷◌, ◌++◌, map, Option, Some, None, option_map, option_and_then, Result, Ok, Err, codes, slice_get, refl, sym, ap, ◌∙◌, subst, arith}
use Rattle.std.specs.List.{All, list_all}
use Rattle.std.proofs.lemmas.Bool.{and_parts, and_from}
use Rattle.std.proofs.lemmas.Bool.Decides.{nat_tests}
use Rattle.std.proofs.lemmas.List.Elements.{All-append, All-cons, All-head, All-nil, All-tail}
use Rattle.std.proofs.lemmas.List.Folds.{list_all-append}
use Rattle.be_base.specs.Text.{Text, same_text, name_of}
use Rattle.be_base.specs.Numbers.{int_of, count_of}
use Rattle.be_base.specs.Tokens.{Lexeme, word, tokens}
use Rattle.be_base.specs.declared.names.NameFault.{NameFault}
use Rattle.be_base.proofs.NameForms.{IsName-from_name_of}
use Rattle.be_io.specs.FileLines.{file_lines}
use Rattle.be_io.specs.Lines as line
use Rattle.be_model.specs.declared.preds.Pred.{Pred}
use Rattle.be_model.specs.declared.schemas.Attribute.{Attribute}
use Rattle.be_model.specs.declared.schemas.Domain.{Domain}
use Rattle.be_model.specs.declared.schemas.Domain.TheVariants.{Int, Sym}
use Rattle.be_model.specs.Matching.{Assignments}
use Rattle.be_model.specs.Schemas.{Attributes, is_name, attribute_of, names_of_attributes}
use Rattle.be_change.specs.History.{Entry, subscribed, unsubscribed, left, session_of, places_from, places_of}
use Rattle.be_change.specs.Requests.{Request, refused, subscribe, unsubscribe, publish, costing, listing, sending, fetching, dumping, tailing, quit, Reply, refusal, ok, held, bye, dup, none, other, hit, cost, listed, sent, notes, dumped, tailed, split, no_memory, shut, Exchange}
use Rattle.be_change.specs.Walk.{Walk, IsChangeOf, IsAcceptedAt, Answers, IsLegal, place_accepted, accepted, beginning_at, HasOnly}
use Rattle.be_expr.specs.declared.faults.ExprFault.{ExprFault}
use Rattle.be_expr.specs.Expressions.{condition}
use Rattle.be_expr.specs.Named.{naming, named}
use Rattle.be_event.specs.declared.events.EventFault.{EventFault}
use Rattle.be_event.specs.declared.schema_texts.SchemaFault.TheVariants.{Line}
use Rattle.be_event.specs.declared.schema_texts.SchemaKind.{SchemaKind}
use Rattle.be_event.specs.Events.{event_of}
use Rattle.be_event.specs.SchemaTexts.{words, declares_nothing, int_domain, sym_domain, domain_of, declared, kind_of, attribute_or_fault, judge, declaration, after_declaration, schema_from, schema_of}
use Rattle.be_protocol.specs.Readings.{subscribe_or_refused, subscription_asked, unsubscribe_or_refused, removal_asked, asking_of, of_event, number_asked, fetching_at_most, fetch, tailing_at_most, tail, alone, Command, commands, commanded_by, request_of, reading, wait_in, within}
use Rattle.be_protocol.specs.Transcript.{requests, AnswersEach, AreExchanges}
use Rattle.be_demand.specs.Texts.{is_whole}
use Rattle.be_demand.specs.Whole.{words_are_whole, attribute_is_whole, names_are_whole, entry_is_whole}
use Rattle.be_demand.proofs.Refused.{name_whole}

named_whole : (text : Text) → is_name (name_of text) ≡ true → is_whole text ≡ true
named_whole text is = go (name_of text) refl is
  where
    go : (r : Result Text NameFault) → name_of text ≡ r → is_name r ≡ true → is_whole text ≡ true
    go (Ok name) e is = name_whole text (IsName-from_name_of text name e).1
    go (Err fault) e is = absurd cc

words_whole : (ws : List Text) → list_all (λ w. is_name (name_of w)) ws ≡ true → list_all is_whole ws ≡ true
words_whole [] all = refl
words_whole (w ∷ ws) all =
    let p = and_parts (is_name (name_of w)) (list_all (λ x. is_name (name_of x)) ws) all in
    and_from (is_whole w) (list_all is_whole ws) (named_whole w p.0) (words_whole ws p.1)

bounds_whole : (o : Option ℤ) (lo : ℤ) (d : Domain) → option_map (λ h. Int lo h) o ≡ Some d → words_are_whole d ≡ true
bounds_whole None lo d h = absurd cc
bounds_whole (Some hi) lo d h = let same : Int lo hi ≡ d = cc in ap words_are_whole (sym same)

ints_whole : (o : Option ℤ) (hi : Text) (d : Domain) → option_and_then (λ l. option_map (λ h. Int l h) (int_of hi)) o ≡ Some d → words_are_whole d ≡ true
ints_whole None hi d h = absurd cc
ints_whole (Some lo) hi d h = bounds_whole (int_of hi) lo d h

int_whole : (ws : List Text) (d : Domain) → int_domain ws ≡ Some d → words_are_whole d ≡ true
int_whole (lo ∷ hi ∷ []) d h = ints_whole (int_of lo) hi d h
int_whole ws d h = absurd cc

sym_whole : (ws : List Text) (d : Domain) → sym_domain ws ≡ Some d → words_are_whole d ≡ true
sym_whole [] d h = absurd cc
sym_whole (w ∷ ws) d h = go (list_all (λ x. is_name (name_of x)) (w ∷ ws)) refl h
  where
    go : (b : Bool) → list_all (λ x. is_name (name_of x)) (w ∷ ws) ≡ b → cond b (Some (Sym (w ∷ ws))) None ≡ Some d → words_are_whole d ≡ true
    go true is e = let same : Sym (w ∷ ws) ≡ d = cc in ap words_are_whole (sym same) ∙ words_whole (w ∷ ws) is
    go false is e = absurd cc

domain_whole : (a b : Bool) (ws : List Text) (d : Domain) → cond a (int_domain ws) (cond b (sym_domain ws) None) ≡ Some d → words_are_whole d ≡ true
domain_whole true b ws d h = int_whole ws d h
domain_whole false true ws d h = sym_whole ws d h
domain_whole false false ws d h = absurd cc

line_whole : (kind name : Text) (ws : List Text) (a : Attribute) → declared (kind ∷ name ∷ ws) ≡ Some a → attribute_is_whole a ≡ true
line_whole kind name ws a h = go (is_name (name_of name)) refl h
  where
    with_domain : is_whole name ≡ true → (o : Option Domain) → domain_of kind ws ≡ o → option_map (attribute_of name) o ≡ Some a → attribute_is_whole a ≡ true
    with_domain is None e m = absurd cc
    with_domain is (Some d) e m =
        let same : attribute_of name d ≡ a = cc in
        ap attribute_is_whole (sym same) ∙ and_from (is_whole name) (words_are_whole d) is (domain_whole (same_text kind (codes "int")) (same_text kind (codes "sym")) ws d e)

    go : (b : Bool) → is_name (name_of name) ≡ b → cond b (option_map (attribute_of name) (domain_of kind ws)) None ≡ Some a → attribute_is_whole a ≡ true
    go true is m = with_domain (named_whole name is) (domain_of kind ws) refl m
    go false is m = absurd cc

declared_whole : (ws : List Text) (a : Attribute) → declared ws ≡ Some a → attribute_is_whole a ≡ true
declared_whole [] a h = absurd cc
declared_whole (kind ∷ []) a h = absurd cc
declared_whole (kind ∷ name ∷ ws) a h = line_whole kind name ws a h

judge_whole : (names : List Text) (ws : List Text) (a : Attribute) → declaration names ws ≡ Ok a → attribute_is_whole a ≡ true
judge_whole names ws a h = go (declared ws) refl h
  where
    told : (x : Attribute) (o : Option SchemaKind) → attribute_or_fault x o ≡ Ok a → x ≡ a
    told x None e = cc
    told x (Some kind) e = absurd cc

    go : (o : Option Attribute) → declared ws ≡ o → judge names o ≡ Ok a → attribute_is_whole a ≡ true
    go None is e = absurd cc
    go (Some x) is e = ap attribute_is_whole (sym (told x (kind_of names x) e)) ∙ declared_whole ws x is

lines_whole : (lines : List Text) (n : ℕ) (s whole : Attributes) → names_are_whole s ≡ true → schema_from n s lines ≡ Ok whole → names_are_whole whole ≡ true
lines_whole [] n s whole so h = let same : s ≡ whole = cc in ap names_are_whole (sym same) ∙ so
lines_whole (l ∷ lines) n s whole so h = go (λ m x. lines_whole lines m x whole) (declares_nothing (words l)) h
  where
    Rest : Type 0
    Rest = (m : ℕ) (x : Attributes) → names_are_whole x ≡ true → schema_from m x lines ≡ Ok whole → names_are_whole whole ≡ true

    next : Rest → (r : Result Attribute SchemaKind) → declaration (names_of_attributes s) (words l) ≡ r → after_declaration n r (λ a. schema_from (n + 1) (s ++ a ∷ []) lines) ≡ Ok whole → names_are_whole whole ≡ true
    next rest (Err kind) is e = absurd cc
    next rest (Ok a) is e =
        rest (n + 1) (s ++ a ∷ [])
        (list_all-append attribute_is_whole s (a ∷ []) ∙ and_from (names_are_whole s) (attribute_is_whole a && true) so (and_from (attribute_is_whole a) true (judge_whole (names_of_attributes s) (words l) a is) refl)) e

    go : Rest → (b : Bool) → cond b (schema_from (n + 1) s lines) (after_declaration n (declaration (names_of_attributes s) (words l)) (λ a. schema_from (n + 1) (s ++ a ∷ []) lines)) ≡ Ok whole → names_are_whole whole ≡ true
    go rest true e = rest (n + 1) s so e
    go rest false e = next rest (declaration (names_of_attributes s) (words l)) refl e

-- of a schema that a text is
pub schema_whole : (text : Text) (s : Attributes) → schema_of text ≡ Ok s → names_are_whole s ≡ true
schema_whole text s h = lines_whole (file_lines text) 1 [] s refl h

-- the name that a request would put into the list
abbrev pub NameWhole : Request → Type 0
NameWhole (subscribe name conj) = is_whole name ≡ true
NameWhole (unsubscribe name) = is_whole name ≡ true
NameWhole r = Unit {0}

asks_whole : (ask : Assignments → Request) → ((e : Assignments) → NameWhole (ask e)) → (s : Attributes) (ts : Option (List Lexeme)) → NameWhole (of_event ask s ts)
asks_whole ask each s ts = go (event_of s ts)
  where
    go : (r : Result Assignments EventFault) → NameWhole (asking_of ask s r)
    go (Ok e) = each e
    go (Err fault) = tt

subscription_whole : (s : Attributes) (ts : Option (List Lexeme)) → NameWhole (subscription_asked s ts)
subscription_whole s (Some (word name ∷ ts)) = go (name_of name) refl (condition s (Some ts))
  where
    go : (r : Result Text NameFault) → name_of name ≡ r → (c : Result (List Pred) ExprFault) → NameWhole (subscribe_or_refused s (naming r c))
    go (Ok n) is (Ok conj) = let k = IsName-from_name_of name n is in subst (λ x. is_whole x ≡ true) (sym k.0) (name_whole name k.1)
    go (Ok n) is (Err fault) = tt
    go (Err fault) is c = tt
subscription_whole s ts = tt

removal_whole : (ts : Option (List Lexeme)) → NameWhole (removal_asked ts)
removal_whole (Some (word name ∷ [])) = go (name_of name) refl
  where
    go : (r : Result Text NameFault) → name_of name ≡ r → NameWhole (unsubscribe_or_refused r)
    go (Ok n) is = let k = IsName-from_name_of name n is in subst (λ x. is_whole x ≡ true) (sym k.0) (name_whole name k.1)
    go (Err fault) is = tt
removal_whole ts = tt

within_whole : (wait : Option ℕ) (r : Request) → NameWhole r → NameWhole (within wait r)
within_whole (Some millis) r so = so
within_whole None r so = tt

fetch_whole : (ts : Option (List Lexeme)) → NameWhole (fetch ts)
fetch_whole (Some (word max ∷ ts)) = within_whole (wait_in ts) (fetching_at_most (number_asked (count_of max))) (go (number_asked (count_of max)))
  where
    go : (o : Option ℕ) → NameWhole (fetching_at_most o)
    go (Some n) = tt
    go None = tt
fetch_whole ts = tt

tail_whole : (ts : Option (List Lexeme)) → NameWhole (tail ts)
tail_whole (Some (word place ∷ word max ∷ ts)) =
    within_whole (wait_in ts) (tailing_at_most (count_of place) (number_asked (count_of max))) (go (count_of place) (number_asked (count_of max)))
  where
    go : (a b : Option ℕ) → NameWhole (tailing_at_most a b)
    go (Some m) (Some n) = tt
    go None b = tt
    go (Some m) None = tt
tail_whole ts = tt

alone_whole : (r : Request) → NameWhole r → (ts : Option (List Lexeme)) → NameWhole (alone r ts)
alone_whole r so (Some []) = so
alone_whole r so (Some (t ∷ ts)) = tt
alone_whole r so None = tt

abbrev AskWhole : List Command → Type 0
AskWhole [] = Unit {0}
AskWhole (c ∷ cs) = ((s : Attributes) (ts : Option (List Lexeme)) → NameWhole (c.asks s ts)) × AskWhole cs

commanded_whole : (cs : List Command) → AskWhole cs → (s : Attributes) (name : Text) (ts : Option (List Lexeme)) → NameWhole (commanded_by cs s name ts)
commanded_whole [] all s name ts = tt
commanded_whole (c ∷ cs) all s name ts = go (all.0 s ts) (commanded_whole cs all.1 s name ts) (same_text name c.name)
  where
    go : NameWhole (c.asks s ts) → NameWhole (commanded_by cs s name ts) → (b : Bool) → NameWhole (cond b (c.asks s ts) (commanded_by cs s name ts))
    go this others true = this
    go this others false = others

commands_whole : AskWhole commands
commands_whole = (
  subscription_whole,
  (
    (λ s. removal_whole),
    (
      asks_whole publish (λ e. tt),
      (
        asks_whole costing (λ e. tt),
        (
          (λ s. alone_whole listing tt),
          (asks_whole sending (λ e. tt), ((λ s. fetch_whole), ((λ s. alone_whole dumping tt), ((λ s. tail_whole), ((λ s. alone_whole quit tt), tt))))),
        ),
      ),
    ),
  ),
)

request_whole : (s : Attributes) (ts : Option (List Lexeme)) → NameWhole (request_of s ts)
request_whole s (Some (word name ∷ ts)) = commanded_whole commands commands_whole s name (Some ts)
request_whole s ts = tt

-- of what a line asks
pub reading_whole : (s : Attributes) (l : line.TextLine) → NameWhole (reading s l)
reading_whole s (line.text bytes) = request_whole s (tokens bytes)
reading_whole s (line.long n) = tt

-- of the entry at this place
abbrev pub PlaceWhole : List Entry → ℕ → Type 0
PlaceWhole h p = (e : Entry) → slice_get h p ≡ Some e → entry_is_whole e ≡ true

accepted_whole : (k : ℕ) (h : List Entry) (w : Walk) (r : Request) (n : ℕ) → NameWhole r → IsAcceptedAt k h w r n → All (PlaceWhole h) (place_accepted (ok n))
accepted_whole k h w r n so a = All-cons (PlaceWhole h) _ [] (λ e at. let same : a.entry ≡ e = one (sym a.stands ∙ at) in ap entry_is_whole (sym same) ∙ go r a.entry (n - 1) so a.is_it) (All-nil (PlaceWhole h))
  where
    one : {x y : Entry} → Some x ≡ Some y → x ≡ y
    one e = cc

    go : (r : Request) (e : Entry) (place : ℕ) → NameWhole r → IsChangeOf k w.serial place r e → entry_is_whole e ≡ true
    go (subscribe name conj) (subscribed j m row) place so is = ap is_whole is.4 ∙ so
    go (unsubscribe name) (unsubscribed j m gone) place so is = ap is_whole is.2 ∙ so
    go quit (left j m) place so is = refl
    go r e place so is = absurd is

answer_whole : (s : Attributes) (k : ℕ) (h : List Entry) (r : Request) (t : Reply) (w w' : Walk) → NameWhole r → Answers s k h r t w w' → All (PlaceWhole h) (place_accepted t)
answer_whole s k h (subscribe name conj) (ok n) w w' so a = accepted_whole k h w (subscribe name conj) n so a.0
answer_whole s k h (unsubscribe name) (ok n) w w' so a = accepted_whole k h w (unsubscribe name) n so a.0
answer_whole s k h r (ok n) w w' so a = absurd a
answer_whole s k h (subscribe name conj) (held n) w w' so a = accepted_whole k h w (subscribe name conj) n so a.0
answer_whole s k h (unsubscribe name) (held n) w w' so a = accepted_whole k h w (unsubscribe name) n so a.0
answer_whole s k h quit (held n) w w' so a = accepted_whole k h w quit n so a.0
answer_whole s k h r (held n) w w' so a = absurd a
answer_whole s k h quit (bye n) w w' so a = accepted_whole k h w quit n so a.0
answer_whole s k h r (bye n) w w' so a = absurd a
answer_whole s k h r t w w' so a = All-nil (PlaceWhole h)

-- the entries that a session's replies accepted
pub legal_whole : (s : Attributes) (k : ℕ) (h : List Entry) (ps : List Exchange) (w w' : Walk) → IsLegal s k h ps w w' → All NameWhole (requests ps) → All (PlaceWhole h) (accepted ps)
legal_whole s k h [] w w' l so = All-nil (PlaceWhole h)
legal_whole s k h (p ∷ ps) w w' l so =
    All-append (PlaceWhole h) (place_accepted p.1) (accepted ps) (answer_whole s k h p.0 p.1 w l.1 (All-head NameWhole p.0 (requests ps) so) l.2)
    (legal_whole s k h ps l.1 w' l.3 (All-tail NameWhole p.0 (requests ps) so))

same_number : (k : ℕ) → (k == k) ≡ true
same_number k = grind (arith, nat_tests)

-- what holds of the places of a session holds of the place of each entry of it
all_places : (P : ℕ → Type 0) (k n : ℕ) (h : List Entry) (i : ℕ) (e : Entry) → All P (places_from k n h) → slice_get h i ≡ Some e → session_of e ≡ k → P (n + i)
all_places P k n [] i e all at is = absurd cc
all_places P k n (x ∷ xs) zero e all at is =
    let same : x ≡ e = cc in
    let here : (session_of x == k) ≡ true = ap (λ (y : Entry). session_of y == k) same ∙ (ap (λ m. m == k) is ∙ same_number k) in
    let none : n ≡ n + 0 = omega arith in
    subst P none (All-head P n (places_from k (n + 1) xs) (subst (λ b. All P (cond b (n ∷ places_from k (n + 1) xs) (places_from k (n + 1) xs))) here all))
all_places P k n (x ∷ xs) (suc i) e all at is = let next : (n + 1) + i ≡ n + suc i = omega arith in subst P next (all_places P k (n + 1) xs i e (behind (session_of x == k) all) at is)
  where
    behind : (b : Bool) → All P (cond b (n ∷ places_from k (n + 1) xs) (places_from k (n + 1) xs)) → All P (places_from k (n + 1) xs)
    behind true a = All-tail P n (places_from k (n + 1) xs) a
    behind false a = a

front_all : {X : Type 0} (P : X → Type 0) (xs ys : List X) → All P (xs ++ ys) → All P xs
front_all P [] ys all = All-nil P
front_all P (x ∷ xs) ys all = All-cons P x xs (All-head P x (xs ++ ys) all) (front_all P xs ys (All-tail P x (xs ++ ys) all))

lines_asked : (s : Attributes) (ls : List line.TextLine) → All NameWhole (map (reading s) ls)
lines_asked s [] = All-nil NameWhole
lines_asked s (l ∷ ls) = All-cons NameWhole (reading s l) (map (reading s) ls) (reading_whole s l) (lines_asked s ls)

answered_whole : (b : Bool) (asked answered : List Request) → AnswersEach b asked answered → All NameWhole asked → All NameWhole answered
answered_whole true asked answered e all = front_all NameWhole answered e.0 (subst (All NameWhole) e.1 all)
answered_whole false asked answered e all = subst (All NameWhole) (sym e) all

-- the entries of a session that was answered
pub session_whole : (s : Attributes) (k z : ℕ) (h : List Entry) (ls : List line.TextLine) (ps : List Exchange) (p : ℕ) (e : Entry) → AreExchanges s k z h ls ps → slice_get h p ≡ Some e → session_of e ≡ k → entry_is_whole e ≡ true
session_whole s k z h ls ps p e x at is = all_places (PlaceWhole h) k 0 h p e (go x.session.only) at is e (subst (λ n. slice_get h n ≡ Some e) from_zero at)
  where
    from_zero : p ≡ 0 + p
    from_zero = omega arith

    all : All (PlaceWhole h) (accepted ps)
    all = legal_whole s k h ps (beginning_at z) x.session.end x.session.legal (answered_whole x.session.end.ended (map (reading s) ls) (requests ps) x.each (lines_asked s ls))

    go : HasOnly k h ps x.session.end → All (PlaceWhole h) (places_of k h)
    go (inl same) = subst (All (PlaceWhole h)) (sym same) all
    go (inr silent) =
        subst (All (PlaceWhole h)) (sym silent.2)
        (All-append (PlaceWhole h) (accepted ps) (silent.0 ∷ []) all
        (All-cons (PlaceWhole h) silent.0 [] (λ d there. let same : left k x.session.end.serial ≡ d = cc (silent.1.stands, there) in ap entry_is_whole (sym same)) (All-nil (PlaceWhole h))))
