-- A leader's line is within the limit.
use Rattle.std.proofs.Common.{◌≡◌, ℕ, ◌+◌, ◌*◌, ◌<◌, ◌≤◌, ◌≤ℤ◌, ℤ, pos, negsuc, Bool, true, false, List, [], ◌∷◌, ◌++◌, length, get_or, nat_lt, Option, Some, All, codes, refl, sym, ap, subst, arith, length-append}
use Rattle.std.specs.Prelude.{decimal, unsigned_abs}
use Rattle.std.specs.Fmt.{signed_decimal}
use Rattle.std.specs.List.{flat_map, join_by, list_all}
use Rattle.std.specs.Option.{option_map_or}
use Rattle.std.proofs.lemmas.Bool.{and_parts}
use Rattle.std.proofs.lemmas.Bool.Decides.{nat_tests}
use Rattle.std.specs.Int.Signed.{le_z}
use Rattle.std.proofs.lemmas.Int.{ints}
use Rattle.std.proofs.Math.Nat.{mul-suc}
use Rattle.std.proofs.lemmas.Fmt.{length-decimal-le, length_signed_le}
use Rattle.std.proofs.lemmas.List.{get_or_past}
use Rattle.std.proofs.lemmas.List.Elements.{All-head, All-tail, All-weaker}
use Rattle.std.proofs.lemmas.Option.{get_or_from_slice_get, slice_get_within}
use Rattle.std.proofs.lemmas.List.Sums.{AllPass-from_list_all}
use Rattle.be_base.specs.Sets.{set_text}
use Rattle.be_base.specs.Text.{Text, IsName}
use Rattle.be_base.specs.declared.names.AttrNo.{AttrNo}
use Rattle.be_base.specs.declared.limits.TheConstants.{COUNT_END, FEED_LINE_BYTES}
use Rattle.be_model.specs.declared.ops.Op.{Op}
use Rattle.be_model.specs.declared.ops.Op.TheVariants.{Lt, Le, Eq, Ne, Ge, Gt, Between, OneOf, NoneOf}
use Rattle.be_model.specs.declared.preds.Pred.{Pred}
use Rattle.be_model.specs.declared.schemas.Attribute.{Attribute}
use Rattle.be_model.specs.declared.schemas.Domain.{Domain}
use Rattle.be_model.specs.declared.schemas.Domain.TheVariants.{Int, Sym}
use Rattle.be_model.specs.Domains.{Range, bounds_of, is_within}
use Rattle.be_model.specs.Forms.{OpForm, IsConj}
use Rattle.be_model.specs.Lies.{values_in, pred_lies, conj_lies, entry_lies}
use Rattle.be_model.specs.Schemas.{Attributes, IsSchema, attribute_at}
use Rattle.be_model.specs.Texts.{value_text, value_text_at, name_at, NamesAreNames, WordsAreNames}
use Rattle.be_model.proofs.InSchema.{attribute_of_range, IsSound, range_sound, range_of_pred}
use Rattle.be_change.specs.History.{Entry, subscribed, unsubscribed, left}
use Rattle.be_expr.specs.Changes.{head_text, change_text}
use Rattle.be_expr.specs.Writing.{op_text, pred_text, expr_text}
use Rattle.be_protocol.specs.Replies.{number, part}
use Rattle.be_follow.specs.Laws.{IsWritten}

-- the words of a domain are short, and there is none past them
word_short : (words : List Text) (n : ℕ) → All IsName words → length (get_or words n []) ≤ 64
word_short words n names = by_place (nat_lt n (length words)) refl
  where
    by_place : (b : Bool) → nat_lt n (length words) ≡ b → length (get_or words n []) ≤ 64
    by_place true below = let low : n < length words = grind (arith, nat_tests) in (names n [] low).short
    by_place false past =
        let high : length words ≤ n = grind (arith, nat_tests) in
        let none : length (get_or words n []) ≡ 0 = ap (λ (w : Text). length w) (get_or_past words n [] high) in
        omega (arith, none)

number_short : (lo hi v : ℤ) → negsuc 2147483647 ≤ℤ lo → hi ≤ℤ pos 2147483647 → lo ≤ℤ v → v ≤ℤ hi → length (signed_decimal v) ≤ 64
number_short lo hi (pos n) a b c d =
    let low : n < 4294967296 = omega (arith, ints, a, b, c, d) in
    let few : length (signed_decimal (pos n)) ≤ 14 = length_signed_le 13 (pos n) (omega (arith, low)) (omega (arith, low)) in
    omega (arith, few)
number_short lo hi (negsuc n) a b c d =
    let low : n < 4294967296 = omega (arith, ints, a, b, c, d) in
    let few : length (signed_decimal (negsuc n)) ≤ 14 = length_signed_le 13 (negsuc n) (omega (arith, low)) (omega (arith, low)) in
    omega (arith, few)

value_short : (d : Domain) (r : Range) (v : ℤ) → bounds_of d ≡ r → IsSound r → WordsAreNames d → is_within r v ≡ true → length (value_text d v) ≤ 64
value_short (Int lo hi) r v is sound names within =
    let bounds : is_within (lo, hi) v ≡ true = subst (λ (x : Range). is_within x v ≡ true) (sym is) within in
    let held : IsSound (lo, hi) = subst IsSound (sym is) sound in
    let k = and_parts (le_z lo v) (le_z v hi) bounds in
    let low : lo ≤ℤ v = omega (arith, ints, k.0) in
    let high : v ≤ℤ hi = omega (arith, ints, k.1) in
    number_short lo hi v held.low held.high low high
value_short (Sym words) r v is sound names within = word_short words (unsigned_abs v) names

names_at : (s : Attributes) (a : AttrNo) (x : Attribute) → NamesAreNames s → attribute_at s a ≡ Some x → IsName x.name × WordsAreNames x.domain
names_at s a x names e =
    subst (λ (y : Attribute). IsName y.name × WordsAreNames y.domain) (get_or_from_slice_get s a.0 x x e) (names a.0 x (slice_get_within s a.0 x e))

-- the texts of a predicate's name and values
pub record IsShort (s : Attributes) (p : Pred) : Type 0 where
  pub name : length (name_at s p.attr) ≤ 64
  pub values : All (λ v. length (value_text_at s p.attr v) ≤ 64) (values_in p.op)

pred_shorts : (s : Attributes) (p : Pred) → IsSchema s → NamesAreNames s → pred_lies s p ≡ true → IsShort s p
pred_shorts s p valid names lies =
    let r = range_of_pred s p lies in
    let x = attribute_of_range s p.attr r.0 r.1 in
    let sound = range_sound s p.attr r.0 valid r.1 in
    let named = names_at s p.attr x.0 names x.1 in
    record {
      name = subst (λ (o : Option Attribute). length (option_map_or (λ (y : Attribute). y.name) o []) ≤ 64) (sym x.1) named.0.short;
      values = All-weaker (λ v. is_within r.0 v ≡ true) (λ v. length (value_text_at s p.attr v) ≤ 64)
          (λ v h. subst (λ (o : Option Attribute). length (option_map_or (λ (y : Attribute). value_text y.domain v) o []) ≤ 64) (sym x.1) (value_short x.0.domain r.0 v x.2 sound named.1 h))
          (values_in p.op) (AllPass-from_list_all (is_within r.0) (values_in p.op) r.2);
    }

-- what is joined is as long as its pieces, each with what stands before it
pieces_short : {X : Type 0} (f : X → Text) (sep : Text) (b : ℕ) (xs : List X) → All (λ x. length (f x) + length sep ≤ b) xs → length (flat_map (λ y. sep ++ f y) xs) ≤ b * length xs
pieces_short f sep b [] all = omega arith
pieces_short {X} f sep b (x ∷ xs) all =
    let one : length (f x) + length sep ≤ b = All-head (λ (y : X). length (f y) + length sep ≤ b) x xs all in
    let more = pieces_short f sep b xs (All-tail (λ (y : X). length (f y) + length sep ≤ b) x xs all) in
    let len : length ((sep ++ f x) ++ flat_map (λ y. sep ++ f y) xs) ≡ length (sep ++ f x) + length (flat_map (λ y. sep ++ f y) xs) = length-append (sep ++ f x) (flat_map (λ y. sep ++ f y) xs) in
    let len2 : length (sep ++ f x) ≡ length sep + length (f x) = length-append sep (f x) in
    let times : b * length (x ∷ xs) ≡ b * length xs + b = mul-suc b (length xs) in
    omega (arith, one, more, len, len2, times)

joined_short : {X : Type 0} (f : X → Text) (sep : Text) (b : ℕ) (xs : List X) → All (λ x. length (f x) + length sep ≤ b) xs → length (join_by f sep xs) ≤ b * length xs
joined_short f sep b [] all = omega arith
joined_short {X} f sep b (x ∷ xs) all =
    let whole = pieces_short f sep b (x ∷ xs) all in
    let len : length ((sep ++ f x) ++ flat_map (λ y. sep ++ f y) xs) ≡ length (sep ++ f x) + length (flat_map (λ y. sep ++ f y) xs) = length-append (sep ++ f x) (flat_map (λ y. sep ++ f y) xs) in
    let len2 : length (sep ++ f x) ≡ length sep + length (f x) = length-append sep (f x) in
    let len3 : length (f x ++ flat_map (λ y. sep ++ f y) xs) ≡ length (f x) + length (flat_map (λ y. sep ++ f y) xs) = length-append (f x) (flat_map (λ y. sep ++ f y) xs) in
    omega (arith, whole, len, len2, len3)

set_short : (value : ℤ → Text) (vs : List ℤ) → length vs ≤ 64 → All (λ v. length (value v) ≤ 64) vs → length (set_text value vs) ≤ 4162
set_short value vs few all =
    let joined : length (join_by value (codes ",") vs) ≤ 65 * length vs =
    joined_short value (codes ",") 65 vs (All-weaker (λ v. length (value v) ≤ 64) (λ v. length (value v) + 1 ≤ 65) (λ v h. omega (arith, h)) vs all) in
    let len = length-append (codes "{" ++ join_by value (codes ",") vs) (codes "}") in
    let len2 = length-append (codes "{") (join_by value (codes ",") vs) in
    omega (arith, joined, few, len, len2)

one_short : (value : ℤ → Text) (head : Text) (v : ℤ) → length head ≤ 10 → length (value v) ≤ 64 → length (head ++ value v) ≤ 4170
one_short value head v few h = omega (arith, length-append head (value v), few, h)

op_short : (value : ℤ → Text) (op : Op) → OpForm op → All (λ v. length (value v) ≤ 64) (values_in op) → length (op_text value op) ≤ 4170
op_short value (Lt v) form all = one_short value (codes "< ") v (omega arith) (All-head (λ x. length (value x) ≤ 64) v [] all)
op_short value (Le v) form all = one_short value (codes "<= ") v (omega arith) (All-head (λ x. length (value x) ≤ 64) v [] all)
op_short value (Eq v) form all = one_short value (codes "= ") v (omega arith) (All-head (λ x. length (value x) ≤ 64) v [] all)
op_short value (Ne v) form all = one_short value (codes "!= ") v (omega arith) (All-head (λ x. length (value x) ≤ 64) v [] all)
op_short value (Ge v) form all = one_short value (codes ">= ") v (omega arith) (All-head (λ x. length (value x) ≤ 64) v [] all)
op_short value (Gt v) form all = one_short value (codes "> ") v (omega arith) (All-head (λ x. length (value x) ≤ 64) v [] all)
op_short value (Between v w) form all =
    let first = All-head (λ x. length (value x) ≤ 64) v (w ∷ []) all in
    let second = All-head (λ x. length (value x) ≤ 64) w [] (All-tail (λ x. length (value x) ≤ 64) v (w ∷ []) all) in
    omega (arith, first, second, length-append (codes "between ") (value v), length-append (codes "between " ++ value v) (codes " and "), length-append ((codes "between " ++ value v) ++ codes " and ") (value w))
op_short value (OneOf vs) form all = omega (arith, set_short value vs form.few all, length-append (codes "in ") (set_text value vs))
op_short value (NoneOf vs) form all = omega (arith, set_short value vs form.few all, length-append (codes "not in ") (set_text value vs))

pred_short : (s : Attributes) (p : Pred) → IsSchema s → NamesAreNames s → OpForm p.op → pred_lies s p ≡ true → length (pred_text s p) ≤ 4235
pred_short s p valid names form lies =
    let k = pred_shorts s p valid names lies in
    let value = value_text_at s p.attr in
    let op = op_short value p.op form k.values in
    omega (arith, k.name, op, length-append (name_at s p.attr) (codes " "), length-append (name_at s p.attr ++ codes " ") (op_text value p.op))

preds_short : (s : Attributes) (ps : List Pred) → IsSchema s → NamesAreNames s → All (λ (p : Pred). OpForm p.op) ps → list_all (pred_lies s) ps ≡ true → All (λ (p : Pred). length (pred_text s p) + 5 ≤ 4240) ps
preds_short s ps valid names forms lies = λ i d low. let short = pred_short s (get_or ps i d) valid names (forms i d low) (AllPass-from_list_all (pred_lies s) ps lies i d low) in omega (arith, short)

expr_short : (s : Attributes) (conj : List Pred) → IsSchema s → NamesAreNames s → IsConj conj → conj_lies s conj ≡ true → length (expr_text s conj) ≤ 135680
expr_short s [] valid names form lies = omega arith
expr_short s (p ∷ ps) valid names form lies =
    let joined : length (join_by (pred_text s) (codes " and ") (p ∷ ps)) ≤ 4240 * length (p ∷ ps) = joined_short (pred_text s) (codes " and ") 4240 (p ∷ ps) (preds_short s (p ∷ ps) valid names form.forms lies) in
    let few : length (p ∷ ps) ≤ 32 = form.few in
    omega (arith, joined, few)

count_short : (n : ℕ) → n < COUNT_END → length (decimal n) ≤ 19
count_short n low = length-decimal-le 19 n (omega arith) (omega (arith, low)) (omega (arith, low))

head_short : (kind : Text) (k n : ℕ) → length kind ≤ 5 → k < COUNT_END → n < COUNT_END → length (head_text kind k n) ≤ 45
head_short kind k n few hk hn =
    omega (
      arith,
      few,
      count_short k hk,
      count_short n hn,
      length-append kind (codes " "),
      length-append (kind ++ codes " ") (decimal k),
      length-append ((kind ++ codes " ") ++ decimal k) (codes " "),
      length-append (((kind ++ codes " ") ++ decimal k) ++ codes " ") (decimal n),
    )

change_short : (s : Attributes) (e : Entry) → IsSchema s → NamesAreNames s → IsWritten e → entry_lies s e ≡ true → length (change_text s e) ≤ 136000
change_short s (subscribed k n row) valid names w lies =
    let head = head_short (codes "SUB") k n (omega arith) w.session w.serial in
    let cond = expr_short s row.conj valid names w.form.1 lies in
    let name : length row.name ≤ 64 = w.form.0.short in
    let front = head_text (codes "SUB") k n in
    omega (
      arith,
      head,
      cond,
      name,
      length-append front (codes " "),
      length-append (front ++ codes " ") row.name,
      length-append ((front ++ codes " ") ++ row.name) (codes " "),
      length-append (((front ++ codes " ") ++ row.name) ++ codes " ") (expr_text s row.conj),
    )
change_short s (unsubscribed k n name) valid names w lies =
    let head = head_short (codes "UNSUB") k n (omega arith) w.session w.serial in
    let short : length name ≤ 64 = w.form.short in
    omega (arith, head, short, length-append (head_text (codes "UNSUB") k n) (codes " "), length-append (head_text (codes "UNSUB") k n ++ codes " ") name)
change_short s (left k n) valid names w lies = let head = head_short (codes "BYE") k n (omega arith) w.session w.serial in omega (arith, head)

pub line_short : (s : Attributes) (place : ℕ) (e : Entry) → IsSchema s → NamesAreNames s → place < COUNT_END → IsWritten e → entry_lies s e ≡ true
    → nat_lt FEED_LINE_BYTES (length ((codes "AT" ++ number place) ++ part (change_text s e))) ≡ false
line_short s place e valid names low w lies =
    let text : length (change_text s e) ≤ 136000 = change_short s e valid names w lies in
    let digits : length (decimal place) ≤ 19 = count_short place low in
    let len : length ((codes "AT" ++ number place) ++ part (change_text s e)) ≡ length (codes "AT" ++ number place) + length (part (change_text s e)) = length-append (codes "AT" ++ number place) (part (change_text s e)) in
    let len2 : length (codes "AT" ++ number place) ≡ 2 + length (number place) = length-append (codes "AT") (number place) in
    let few : length ((codes "AT" ++ number place) ++ part (change_text s e)) ≤ 262144 = omega (arith, text, digits, len, len2) in
    grind (arith, nat_tests)

pub ended_short : (n count : ℕ) → n < COUNT_END → count < COUNT_END → nat_lt FEED_LINE_BYTES (length ((codes "TAILED" ++ number n) ++ number count)) ≡ false
ended_short n count low low2 =
    let digits : length (decimal n) ≤ 19 = count_short n low in
    let digits2 : length (decimal count) ≤ 19 = count_short count low2 in
    let len : length ((codes "TAILED" ++ number n) ++ number count) ≡ length (codes "TAILED" ++ number n) + length (number count) = length-append (codes "TAILED" ++ number n) (number count) in
    let len2 : length (codes "TAILED" ++ number n) ≡ 6 + length (number n) = length-append (codes "TAILED") (number n) in
    let few : length ((codes "TAILED" ++ number n) ++ number count) ≤ 262144 = omega (arith, digits, digits2, len, len2) in
    grind (arith, nat_tests)
