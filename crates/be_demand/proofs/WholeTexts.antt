-- Texts of conditions, events and changes have no LF, where the names in them have none.
use Rattle.std.proofs.Common.{◌≡◌, ℕ, ℤ, pos, negsuc, zero, suc, true, false, List, [], ◌∷◌, ◌++◌, get_or, Option, Some, None, codes, refl, arith}
use Rattle.std.specs.Prelude.{decimal, unsigned_abs}
use Rattle.std.specs.Fmt.{signed_decimal}
use Rattle.std.specs.List.{list_all, flat_map, join_by}
use Rattle.std.specs.Option.{option_map_or}
use Rattle.std.proofs.lemmas.Bool.{and_parts, not-true}
use Rattle.be_base.specs.Sets.{set_text}
use Rattle.be_base.specs.Text.{Text}
use Rattle.be_base.specs.declared.names.AttrNo.{AttrNo}
use Rattle.be_io.specs.Lines.{has_lf}
use Rattle.be_io.proofs.LfLemmas.{has_lf-none}
use Rattle.be_model.specs.declared.ops.Op.{Op}
use Rattle.be_model.specs.declared.ops.Op.TheVariants.{Lt, Le, Eq, Ne, Ge, Gt, Between, OneOf, NoneOf}
use Rattle.be_model.specs.declared.preds.Pred.{Pred}
use Rattle.be_model.specs.declared.schemas.Attribute.{Attribute}
use Rattle.be_model.specs.declared.schemas.Domain.{Domain}
use Rattle.be_model.specs.declared.schemas.Domain.TheVariants.{Int, Sym}
use Rattle.be_model.specs.Matching.{Assignments}
use Rattle.be_model.specs.Schemas.{Attributes, attribute_at}
use Rattle.be_model.specs.Texts.{name_at, value_text, value_text_at}
use Rattle.be_model.proofs.Attributes.{all_at}
use Rattle.be_change.specs.History.{Entry, subscribed, unsubscribed, left}
use Rattle.be_expr.specs.Changes.{head_text, change_text}
use Rattle.be_expr.specs.Writing.{op_text, pred_text, expr_text}
use Rattle.be_event.specs.Writing.{given_text, item_text, event_text}
use Rattle.be_load_files.proofs.Bytes.{decimal_without}
use Rattle.be_demand.specs.Texts.{is_whole}
use Rattle.be_demand.specs.Whole.{words_are_whole, attribute_is_whole, names_are_whole, entry_is_whole}

-- the text has no LF
abbrev pub Plain : Text → Type 0
Plain text = has_lf text ≡ false

pub plain_both : (xs ys : Text) → Plain xs → Plain ys → Plain (xs ++ ys)
plain_both xs ys h k = has_lf-none xs ys h k

pub plain_whole : (text : Text) → is_whole text ≡ true → Plain text
plain_whole text h = not-true (has_lf text) h

pub plain_number : (n : ℕ) → Plain (decimal n)
plain_number n = decimal_without 10 n (omega arith)

plain_value_number : (v : ℤ) → Plain (signed_decimal v)
plain_value_number (pos n) = plain_number n
plain_value_number (negsuc n) = plain_number (suc n)

pub plain_joined : {X : Type 0} (f : X → Text) (sep : Text) (xs : List X) → Plain sep → ((x : X) → Plain (f x)) → Plain (join_by f sep xs)
plain_joined f sep [] h k = refl
plain_joined {X} f sep (x ∷ xs) h k = plain_both (f x) (flat_map (λ y. sep ++ f y) xs) (k x) (rest xs)
  where
    rest : (ys : List X) → Plain (flat_map (λ y. sep ++ f y) ys)
    rest [] = refl
    rest (y ∷ ys) = plain_both (sep ++ f y) (flat_map (λ y. sep ++ f y) ys) (plain_both sep (f y) h (k y)) (rest ys)

plain_word : (words : List Text) (i : ℕ) → list_all is_whole words ≡ true → Plain (get_or words i [])
plain_word [] i h = refl
plain_word (w ∷ words) zero h = plain_whole w (and_parts (is_whole w) (list_all is_whole words) h).0
plain_word (w ∷ words) (suc i) h = plain_word words i (and_parts (is_whole w) (list_all is_whole words) h).1

plain_value_of : (d : Domain) (v : ℤ) → words_are_whole d ≡ true → Plain (value_text d v)
plain_value_of (Int lo hi) v h = plain_value_number v
plain_value_of (Sym words) v h = plain_word words (unsigned_abs v) h

module _ (s : Attributes) (whole : names_are_whole s ≡ true) where
  pub plain_name : (a : AttrNo) → Plain (name_at s a)
  plain_name a = by_option (attribute_at s a) refl
    where
      by_option : (o : Option Attribute) → attribute_at s a ≡ o → Plain (option_map_or (λ (x : Attribute). x.name) o [])
      by_option None e = refl
      by_option (Some x) e = plain_whole x.name (and_parts (is_whole x.name) (words_are_whole x.domain) (all_at attribute_is_whole s a.0 x whole e)).0

  pub plain_value : (a : AttrNo) (v : ℤ) → Plain (value_text_at s a v)
  plain_value a v = by_option (attribute_at s a) refl
    where
      by_option : (o : Option Attribute) → attribute_at s a ≡ o → Plain (option_map_or (λ (x : Attribute). value_text x.domain v) o [])
      by_option None e = refl
      by_option (Some x) e = plain_value_of x.domain v (and_parts (is_whole x.name) (words_are_whole x.domain) (all_at attribute_is_whole s a.0 x whole e)).1

  plain_set : (a : AttrNo) (vs : List ℤ) → Plain (set_text (value_text_at s a) vs)
  plain_set a vs = plain_both (codes "{" ++ join_by (value_text_at s a) (codes ",") vs) (codes "}") (plain_both (codes "{") (join_by (value_text_at s a) (codes ",") vs) refl (plain_joined (value_text_at s a) (codes ",") vs refl (plain_value a))) refl

  plain_given : (a : AttrNo) (vs : List ℤ) → Plain (given_text (value_text_at s a) vs)
  plain_given a [] = plain_set a []
  plain_given a (v ∷ []) = plain_value a v
  plain_given a (v ∷ w ∷ vs) = plain_set a (v ∷ w ∷ vs)

  plain_item : (item : AttrNo × List ℤ) → Plain (item_text s item)
  plain_item item =
      plain_both (name_at s item.0 ++ codes "=") (given_text (value_text_at s item.0) item.1) (plain_both (name_at s item.0) (codes "=") (plain_name item.0) refl) (plain_given item.0 item.1)

  pub plain_event : (e : Assignments) → Plain (event_text s e)
  plain_event [] = refl
  plain_event (item ∷ items) = plain_joined (item_text s) (codes " ") (item ∷ items) refl plain_item

  plain_op : (a : AttrNo) (op : Op) → Plain (op_text (value_text_at s a) op)
  plain_op a (Lt v) = plain_value a v
  plain_op a (Le v) = plain_value a v
  plain_op a (Eq v) = plain_value a v
  plain_op a (Ne v) = plain_value a v
  plain_op a (Ge v) = plain_value a v
  plain_op a (Gt v) = plain_value a v
  plain_op a (Between v w) =
      plain_both (codes "between " ++ value_text_at s a v ++ codes " and ") (value_text_at s a w)
      (plain_both (codes "between " ++ value_text_at s a v) (codes " and ") (plain_value a v) refl) (plain_value a w)
  plain_op a (OneOf vs) = plain_set a vs
  plain_op a (NoneOf vs) = plain_set a vs

  plain_pred : (p : Pred) → Plain (pred_text s p)
  plain_pred p =
      plain_both (name_at s p.attr ++ codes " ") (op_text (value_text_at s p.attr) p.op) (plain_both (name_at s p.attr) (codes " ") (plain_name p.attr) refl) (plain_op p.attr p.op)

  pub plain_expr : (ps : List Pred) → Plain (expr_text s ps)
  plain_expr [] = refl
  plain_expr (p ∷ ps) = plain_joined (pred_text s) (codes " and ") (p ∷ ps) refl plain_pred

  plain_head : (kind : Text) (k n : ℕ) → Plain kind → Plain (head_text kind k n)
  plain_head kind k n h =
      plain_both (kind ++ codes " " ++ decimal k ++ codes " ") (decimal n)
      (plain_both (kind ++ codes " " ++ decimal k) (codes " ") (plain_both (kind ++ codes " ") (decimal k) (plain_both kind (codes " ") h refl) (plain_number k)) refl) (plain_number n)

  pub plain_change : (e : Entry) → entry_is_whole e ≡ true → Plain (change_text s e)
  plain_change (subscribed k n row) h =
      let head = head_text (codes "SUB") k n in
      plain_both (head ++ codes " " ++ row.name ++ codes " ") (expr_text s row.conj)
      (plain_both (head ++ codes " " ++ row.name) (codes " ") (plain_both (head ++ codes " ") row.name (plain_both head (codes " ") (plain_head (codes "SUB") k n refl) refl) (plain_whole row.name h)) refl)
      (plain_expr row.conj)
  plain_change (unsubscribed k n name) h =
      let head = head_text (codes "UNSUB") k n in
      plain_both (head ++ codes " ") name (plain_both head (codes " ") (plain_head (codes "UNSUB") k n refl) refl) (plain_whole name h)
  plain_change (left k n) h = plain_head (codes "BYE") k n refl
