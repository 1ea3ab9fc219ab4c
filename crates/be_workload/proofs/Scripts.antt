-- No line of a drawn script is refused.
use Rattle.std.proofs.Common.{◌≡◌, ℕ, zero, suc, ◌+◌, ◌^◌, ◌<◌, ◌≤◌, List, [], ◌∷◌, ◌++◌, length, length-append, Some, Ok, append_assoc, append-nil, refl, sym, ap, subst, ◌∙◌, arith, codes, decimal}
use Rattle.std.specs.List.{All}
use Rattle.std.proofs.lemmas.List.Elements.{All-nil, All-push}
use Rattle.be_base.specs.Text.{Text, IsName, IsWord, is_word_byte}
use Rattle.be_base.specs.Tokens.{word, tokens}
use Rattle.be_base.proofs.Decimals.{IsWord-decimal}
use Rattle.be_base.proofs.Joined.{IsWord-from_name, word_space}
use Rattle.be_base.proofs.NameForms.{name_of-Ok}
use Rattle.be_io.specs.Lines as line
use Rattle.be_model.specs.declared.preds.Pred.{Pred}
use Rattle.be_model.specs.Matching.{Assignments}
use Rattle.be_change.specs.Requests.{Request, subscribe, publish, costing}
use Rattle.be_expr.specs.Expressions.{condition}
use Rattle.be_expr.specs.Named.{naming}
use Rattle.be_protocol.specs.Readings.{reading, request_of, subscribe_or_refused, asking_of}
use Rattle.be_protocol.specs.Replies.{with_lf}
use Rattle.be_workload.specs.Drawing.{Script, put, subscription, subscriptions, items, event, events, event_text}
use Rattle.be_event.specs.SchemaTexts.{schema_of}
use Rattle.be_workload.specs.Workload.{start, schema_text, script_text}
use Rattle.be_workload.specs.Asked.{schema, text_asks, asked_by_lines, name_of_sub, subscriptions_to, publishing, IsOfSchema, AreRequests, AreRead}
use Rattle.be_workload.proofs.Ops.{Adds}
use Rattle.be_workload.proofs.Conditions.{IsCondition, expression_adds}
use Rattle.be_workload.proofs.Items.{IsEventText, items_draw, items_are_event}
use Rattle.be_workload.proofs.Lines.{AreLines, no_lines, one_line, lines_append, lines_ask, lines_are_short}
use Rattle.be_workload.proofs.Plain.{IsPlain, plain_append, number_plain}

sub_name : (i : ℕ) → i < 10 ^ 18 → IsName (name_of_sub i)
unfolding is_word_byte
sub_name i h =
    let w = IsWord-decimal i (omega arith) in
    record { some = omega arith; short = omega (arith, (number_plain i (omega arith)).short); bytes = w.bytes }

IsWord-SUB : IsWord (codes "SUB")
unfolding is_word_byte
IsWord-SUB = record { some = omega arith; bytes = refl }

IsWord-PUB : IsWord (codes "PUB")
unfolding is_word_byte
IsWord-PUB = record { some = omega arith; bytes = refl }

IsWord-COST : IsWord (codes "COST")
unfolding is_word_byte
IsWord-COST = record { some = omega arith; bytes = refl }

abbrev sub_line : ℕ → Text → Text
sub_line i piece = (codes "SUB s" ++ decimal i ++ codes " ") ++ piece

sub_joined : (i : ℕ) (piece : Text) → sub_line i piece ≡ codes "SUB" ++ 32 ∷ (name_of_sub i ++ 32 ∷ piece)
sub_joined i piece = simp append_assoc

-- a SUB line is a subscription
sub_read : (i : ℕ) (piece : Text) (k : IsCondition piece) → i < 10 ^ 18 → reading schema (line.text (sub_line i piece)) ≡ subscribe (name_of_sub i) k.conj
sub_read i piece k small =
    let name = sub_name i small in
    let named = word_space (name_of_sub i) piece k.words (IsWord-from_name (name_of_sub i) name) k.lexed in
    ap (λ (t : Text). request_of schema (tokens t)) (sub_joined i piece)
    ∙ ap (request_of schema) (word_space (codes "SUB") (name_of_sub i ++ 32 ∷ piece) (word (name_of_sub i) ∷ k.words) IsWord-SUB named)
    ∙ ap (λ n. subscribe_or_refused schema (naming n (condition schema (Some k.words)))) (name_of-Ok (name_of_sub i) name)
    ∙ ap (λ c. subscribe_or_refused schema (naming (Ok (name_of_sub i)) c)) k.read

sub_plain : (i : ℕ) (piece : Text) → i < 10 ^ 18 → IsPlain 160 piece → IsPlain 185 (sub_line i piece)
sub_plain i piece small k =
    plain_append 25 160 (codes "SUB s" ++ decimal i ++ codes " ") piece
    (plain_append 24 1 (codes "SUB s" ++ decimal i) (codes " ")
    (plain_append 5 19 (codes "SUB s") (decimal i) (record { bytes = refl; short = omega arith }) (number_plain i (omega arith)))
    (record { bytes = refl; short = omega arith })) k

-- so many lines of subscriptions
record AreSubs (n : ℕ) (piece : Text) : Type 0 where
  conjs : List (List Pred)
  count : length conjs ≡ n
  lines : AreLines piece (subscriptions_to 0 conjs)

subscribing-snoc : (k : ℕ) (conjs : List (List Pred)) (conj : List Pred)
    → subscriptions_to k (conjs ++ conj ∷ []) ≡ subscriptions_to k conjs ++ subscribe (name_of_sub (k + length conjs)) conj ∷ []
subscribing-snoc k [] conj = ap (λ (n : ℕ). subscribe (name_of_sub n) conj ∷ []) (none k)
  where
    none : (n : ℕ) → n ≡ n + 0
    none n = omega arith
subscribing-snoc k (c ∷ conjs) conj =
    ap (λ (rs : List Request). subscribe (name_of_sub k) c ∷ rs) (subscribing-snoc (k + 1) conjs conj)
    ∙ ap (λ (n : ℕ). subscribe (name_of_sub k) c ∷ (subscriptions_to (k + 1) conjs ++ subscribe (name_of_sub n) conj ∷ [])) (next k (length conjs))
  where
    next : (n m : ℕ) → (n + 1) + m ≡ n + suc m
    next n m = omega arith

one_more_sub : (n : ℕ) (piece next : Text) → n < 10 ^ 18 → AreSubs n piece → IsCondition next → AreSubs (suc n) (piece ++ with_lf (sub_line n next))
one_more_sub n piece next small k c =
    let line = one_line (sub_line n next) 185 (subscribe (name_of_sub n) c.conj) (omega arith) (sub_plain n next small c.plain) (sub_read n next c small) in
    let at : n ≡ 0 + length k.conjs = omega (arith, k.count) in
    let are = ap (λ (m : ℕ). subscriptions_to 0 k.conjs ++ subscribe (name_of_sub m) c.conj ∷ []) at ∙ sym (subscribing-snoc 0 k.conjs c.conj) in
    record {
      conjs = k.conjs ++ c.conj ∷ [];
      count = omega (arith, length-append k.conjs (c.conj ∷ []), k.count);
      lines = subst (AreLines (piece ++ with_lf (sub_line n next))) are (lines_append piece (with_lf (sub_line n next)) (subscriptions_to 0 k.conjs) (subscribe (name_of_sub n) c.conj ∷ []) k.lines line);
    }

-- a line is written behind what was written
subscription_adds : (i : ℕ) (s : Script) → Adds (λ line. (piece : Text) × (line ≡ with_lf (sub_line i piece)) × IsCondition piece) s (subscription i s)
unfolding subscription
subscription_adds i s =
    let e = expression_adds (put (codes "SUB s" ++ decimal i ++ codes " ") s) in
    record {
      piece = with_lf (sub_line i e.piece);
      grown = ap (λ (t : Text). t ++ codes "\n") (e.grown ∙ append_assoc s.text (codes "SUB s" ++ decimal i ++ codes " ") e.piece) ∙ append_assoc s.text (sub_line i e.piece) (codes "\n");
      kind = (e.piece, refl, e.kind);
    }

subscriptions_add : (n : ℕ) (s : Script) → n ≤ 10 ^ 18 → Adds (AreSubs n) s (subscriptions n s)
subscriptions_add zero s few = record { piece = []; grown = sym (append-nil s.text); kind = record { conjs = []; count = refl; lines = no_lines } }
subscriptions_add (suc n) s few =
    let front = subscriptions_add n s (omega arith) in
    let last = subscription_adds n (subscriptions n s) in
    record {
      piece = front.piece ++ last.piece;
      grown = last.grown ∙ ap (λ (t : Text). t ++ last.piece) front.grown ∙ append_assoc s.text front.piece last.piece;
      kind = subst (λ (t : Text). AreSubs (suc n) (front.piece ++ t)) (sym last.kind.1) (one_more_sub n front.piece last.kind.0 (omega arith) front.kind last.kind.2);
    }

-- a PUB line and a COST line
pub_read : (text : Text) (k : IsEventText text) → reading schema (line.text (codes "PUB " ++ text)) ≡ publish k.event
pub_read text k =
    ap (request_of schema) (word_space (codes "PUB") text k.words IsWord-PUB k.lexed)
    ∙ ap (asking_of publish schema) k.read

cost_read : (text : Text) (k : IsEventText text) → reading schema (line.text (codes "COST " ++ text)) ≡ costing k.event
cost_read text k =
    ap (request_of schema) (word_space (codes "COST") text k.words IsWord-COST k.lexed)
    ∙ ap (asking_of costing schema) k.read

abbrev event_lines : Text → Text
event_lines text = with_lf (codes "PUB " ++ text) ++ with_lf (codes "COST " ++ text)

record AreEvents (n : ℕ) (piece : Text) : Type 0 where
  events : List Assignments
  count : length events ≡ n
  lines : AreLines piece (publishing events)
  of_schema : All IsOfSchema events

publishing-snoc : (es : List Assignments) (e : Assignments) → publishing (es ++ e ∷ []) ≡ publishing es ++ publish e ∷ costing e ∷ []
publishing-snoc [] e = refl
publishing-snoc (x ∷ es) e = ap (λ (rs : List Request). publish x ∷ costing x ∷ rs) (publishing-snoc es e)

one_more_event : (n : ℕ) (piece text : Text) → AreEvents n piece → IsEventText text → AreEvents (suc n) (piece ++ event_lines text)
one_more_event n piece text k c =
    let told = one_line (codes "PUB " ++ text) 74 (publish c.event) (omega arith) (plain_append 4 70 (codes "PUB ") text (record { bytes = refl; short = omega arith }) c.plain) (pub_read text c) in
    let cost = one_line (codes "COST " ++ text) 75 (costing c.event) (omega arith) (plain_append 5 70 (codes "COST ") text (record { bytes = refl; short = omega arith }) c.plain) (cost_read text c) in
    let both = lines_append (with_lf (codes "PUB " ++ text)) (with_lf (codes "COST " ++ text)) (publish c.event ∷ []) (costing c.event ∷ []) told cost in
    record {
      events = k.events ++ c.event ∷ [];
      count = omega (arith, length-append k.events (c.event ∷ []), k.count);
      lines = subst (AreLines (piece ++ event_lines text)) (sym (publishing-snoc k.events c.event))
          (lines_append piece (event_lines text) (publishing k.events) (publish c.event ∷ costing c.event ∷ []) k.lines both);
      of_schema = All-push IsOfSchema k.events c.event k.of_schema c.of_schema;
    }

lines_assoc : (p n c text : Text) → (((p ++ text) ++ (n ++ c)) ++ text) ++ n ≡ ((p ++ text) ++ n) ++ ((c ++ text) ++ n)
lines_assoc p n c text = simp append_assoc

lines_joined : (text : Text) → codes "PUB " ++ text ++ codes "\nCOST " ++ text ++ codes "\n" ≡ event_lines text
lines_joined text = lines_assoc (codes "PUB ") (codes "\n") (codes "COST ") text

event_adds : (s : Script) → Adds (λ lines. (text : Text) × (lines ≡ event_lines text) × IsEventText text) s (event s)
unfolding event
event_adds s =
    let drawn = items_draw 10 s (omega arith) in
    let text = event_text (items 10 s).event in
    record {
      piece = event_lines text;
      grown = ap (λ (t : Text). t ++ (codes "PUB " ++ text ++ codes "\nCOST " ++ text ++ codes "\n")) drawn.written ∙ ap (λ (t : Text). s.text ++ t) (lines_joined text);
      kind = (text, refl, items_are_event (items 10 s).event drawn.items_are);
    }

events_add : (n : ℕ) (s : Script) → Adds (AreEvents n) s (events n s)
events_add zero s = record { piece = []; grown = sym (append-nil s.text); kind = record { events = []; count = refl; lines = no_lines; of_schema = All-nil IsOfSchema } }
events_add (suc n) s =
    let front = events_add n s in
    let last = event_adds (events n s) in
    record {
      piece = front.piece ++ last.piece;
      grown = last.grown ∙ ap (λ (t : Text). t ++ last.piece) front.grown ∙ append_assoc s.text front.piece last.piece;
      kind = subst (λ (t : Text). AreEvents (suc n) (front.piece ++ t)) (sym last.kind.1) (one_more_event n front.piece last.kind.0 front.kind last.kind.2);
    }

-- the text of a script, with the requests of its lines
record IsScript (subs event_count : ℕ) (text : Text) : Type 0 where
  front : Text
  back : Text
  parts : text ≡ front ++ back
  subscribed : AreSubs subs front
  published : AreEvents event_count back

script_drawn : (number subs event_count : ℕ) → subs ≤ 10 ^ 18 → IsScript subs event_count (script_text number subs event_count)
script_drawn number subs event_count few =
    let first = subscriptions_add subs (start number) few in
    let then = events_add event_count (subscriptions subs (start number)) in
    record {
      front = first.piece;
      back = then.piece;
      parts = then.grown ∙ ap (λ (t : Text). t ++ then.piece) first.grown;
      subscribed = first.kind;
      published = then.kind;
    }

script_lines : (subs event_count : ℕ) (text : Text) (k : IsScript subs event_count text) → AreLines text (subscriptions_to 0 k.subscribed.conjs ++ publishing k.published.events)
script_lines subs event_count text k =
    subst (λ (t : Text). AreLines t (subscriptions_to 0 k.subscribed.conjs ++ publishing k.published.events)) (sym k.parts)
    (lines_append k.front k.back (subscriptions_to 0 k.subscribed.conjs) (publishing k.published.events) k.subscribed.lines k.published.lines)

script_read : (subs event_count : ℕ) (text : Text) → IsScript subs event_count text → AreRequests subs event_count (text_asks text)
script_read subs event_count text k = record {
  conjs = k.subscribed.conjs;
  events = k.published.events;
  each = lines_ask text (subscriptions_to 0 k.subscribed.conjs ++ publishing k.published.events) (script_lines subs event_count text k);
  conj_for_each = k.subscribed.count;
  event_for_each = k.published.count;
  of_schema = k.published.of_schema;
}

script_short : (subs event_count : ℕ) (text : Text) → IsScript subs event_count text → asked_by_lines text ≡ text_asks text
script_short subs event_count text k =
    let lines = script_lines subs event_count text k in
    let requests = subscriptions_to 0 k.subscribed.conjs ++ publishing k.published.events in
    lines_are_short text requests lines ∙ sym (lines_ask text requests lines)

schema_reads : schema_of schema_text ≡ Ok schema
unfolding is_word_byte
schema_reads = refl

pub workloads_read : AreRead
workloads_read = record {
  schema_read = schema_reads;
  scripts = λ number subs event_count few. script_read subs event_count (script_text number subs event_count) (script_drawn number subs event_count (omega arith));
  short = λ number subs event_count few. script_short subs event_count (script_text number subs event_count) (script_drawn number subs event_count (omega arith));
}
