-- A change, by the parts of its text.
use Rattle.std.proofs.Common.{◌≡◌, ℕ, Bool, true, false, List, [], ◌∷◌, Option, Some, None, option_map, option_and_then, Result, Err, codes, refl, sym, ◌∙◌, ap, if◌then◌else◌}
use Rattle.std.specs.Option.{option_map_or}
use Rattle.be_base.specs.Text.{Text, same_text}
use Rattle.be_base.specs.Numbers.{count_of}
use Rattle.be_base.specs.Tokens.{Lexeme, word}
use Rattle.be_base.specs.Readers.{Read}
use Rattle.be_model.specs.Schemas.{Attributes}
use Rattle.be_model.specs.Entries.{Entry}
use Rattle.be_expr.specs.declared.faults.ExprFault.{ExprFault}
use Rattle.be_expr.specs.declared.faults.ExprFault.TheVariants.{Bad}
use Rattle.be_expr.specs.Parts.{PlainFront, front_of, read_number, read_front}
use Rattle.be_expr.specs.Changes.{subscription, removal, leave, change_by, change_of, change_in}

abbrev front_then : Attributes → ℕ → PlainFront × List Lexeme → Result Entry ExprFault
front_then s id r = change_in s id r.0 (Some r.1)

numbers_by : (s : Attributes) (id : ℕ) (kind serial : Text) (k n : Option ℕ) (ts : List Lexeme) → count_of serial ≡ n
    → change_by s id kind k n ts
    ≡ option_map_or (front_then s id) (option_map (front_of kind)
    (option_and_then (λ (first : ℕ × List Lexeme). option_map (λ (second : ℕ × List Lexeme). ((first.0, second.0), second.1)) (read_number first.1)) (option_map (λ m. (m, word serial ∷ ts)) k))) (Err Bad)
numbers_by s id kind serial None n ts e = refl
numbers_by s id kind serial (Some k) None ts e =
    sym (ap (λ (m : Option ℕ). option_map_or (front_then s id) (option_map (front_of kind) (option_map (λ (second : ℕ × List Lexeme). ((k, second.0), second.1)) (option_map (λ i. (i, ts)) m))) (Err Bad)) e)
numbers_by s id kind serial (Some k) (Some n) ts e =
    sym (ap (λ (m : Option ℕ). option_map_or (front_then s id) (option_map (front_of kind) (option_map (λ (second : ℕ × List Lexeme). ((k, second.0), second.1)) (option_map (λ i. (i, ts)) m))) (Err Bad)) e)

no_serial : (s : Attributes) (id : ℕ) (kind : Text) (k : Option ℕ) (ts : List Lexeme) → read_number ts ≡ None
    → Err Bad
    ≡ option_map_or (front_then s id) (option_map (front_of kind)
    (option_and_then (λ (first : ℕ × List Lexeme). option_map (λ (second : ℕ × List Lexeme). ((first.0, second.0), second.1)) (read_number first.1)) (option_map (λ m. (m, ts)) k))) (Err Bad)
no_serial s id kind None ts e = refl
no_serial s id kind (Some k) ts e =
    sym (ap (λ (r : Read ℕ). option_map_or (front_then s id) (option_map (front_of kind) (option_map (λ (second : ℕ × List Lexeme). ((k, second.0), second.1)) r)) (Err Bad)) e)

by_front : (s : Attributes) (id : ℕ) (ts : List Lexeme) → change_of s id (Some ts) ≡ option_map_or (front_then s id) (read_front ts) (Err Bad)
by_front s id (word kind ∷ word session ∷ word serial ∷ ts) = numbers_by s id kind serial (count_of session) (count_of serial) ts refl
by_front s id (word kind ∷ word session ∷ []) = no_serial s id kind (count_of session) [] refl
by_front s id (word kind ∷ word session ∷ t ∷ ts) = no_serial s id kind (count_of session) (t ∷ ts) refl
by_front s id _ = refl

change_by_front : (s : Attributes) (id : ℕ) (o : Option (List Lexeme)) → change_of s id o ≡ option_map_or (front_then s id) (option_and_then read_front o) (Err Bad)
change_by_front s id None = refl
change_by_front s id (Some ts) = by_front s id ts

behind_front : (s : Attributes) (id : ℕ) (front : PlainFront) (rest : Option (List Lexeme)) → option_map_or (front_then s id) (option_map (λ ts. (front, ts)) rest) (Err Bad) ≡ change_in s id front rest
behind_front s id front None = refl
behind_front s id front (Some ts) = refl

-- a change with this front
pub front_first : (s : Attributes) (id : ℕ) (front : PlainFront) (o rest : Option (List Lexeme)) → option_map (λ ts. (front, ts)) rest ≡ option_and_then read_front o
    → change_of s id o ≡ change_in s id front rest
front_first s id front o rest h =
    change_by_front s id o ∙ ap (λ (r : Read PlainFront). option_map_or (front_then s id) r (Err Bad)) (sym h) ∙ behind_front s id front rest

pub no_front_first : (s : Attributes) (id : ℕ) (o : Option (List Lexeme)) → None ≡ option_and_then read_front o → change_of s id o ≡ Err Bad
no_front_first s id o h = change_by_front s id o ∙ ap (λ (r : Read PlainFront). option_map_or (front_then s id) r (Err Bad)) (sym h)

abbrev kind_of : Bool → Bool → Bool → Result Entry ExprFault → Result Entry ExprFault → Result Entry ExprFault → Result Entry ExprFault
kind_of a b c x y z = if a then x else (if b then y else (if c then z else Err Bad))

-- a change by the word of its kind
pub sub_kind : (s : Attributes) (id : ℕ) (f : PlainFront) (o : Option (List Lexeme)) → same_text f.kind (codes "SUB") ≡ true
    → change_in s id f o ≡ option_map_or (subscription s id f.session f.serial) o (Err Bad)
sub_kind s id f None a = refl
sub_kind s id f (Some ts) a =
    ap (λ (x : Bool). kind_of x (same_text f.kind (codes "UNSUB")) (same_text f.kind (codes "BYE")) (subscription s id f.session f.serial ts) (removal f.session f.serial ts) (leave f.session f.serial ts)) a

pub unsub_kind : (s : Attributes) (id : ℕ) (f : PlainFront) (o : Option (List Lexeme)) → same_text f.kind (codes "SUB") ≡ false → same_text f.kind (codes "UNSUB") ≡ true
    → change_in s id f o ≡ option_map_or (removal f.session f.serial) o (Err Bad)
unsub_kind s id f None a b = refl
unsub_kind s id f (Some ts) a b =
    ap (λ (x : Bool). kind_of x (same_text f.kind (codes "UNSUB")) (same_text f.kind (codes "BYE")) (subscription s id f.session f.serial ts) (removal f.session f.serial ts) (leave f.session f.serial ts)) a
    ∙ ap (λ (x : Bool). if x then removal f.session f.serial ts else (if same_text f.kind (codes "BYE") then leave f.session f.serial ts else Err Bad)) b

bye_if : (s : Attributes) (id : ℕ) (f : PlainFront) (ts : List Lexeme) (c : Bool) → same_text f.kind (codes "SUB") ≡ false → same_text f.kind (codes "UNSUB") ≡ false → same_text f.kind (codes "BYE") ≡ c
    → change_in s id f (Some ts) ≡ (if c then leave f.session f.serial ts else Err Bad)
bye_if s id f ts c a b e =
    ap (λ (x : Bool). kind_of x (same_text f.kind (codes "UNSUB")) (same_text f.kind (codes "BYE")) (subscription s id f.session f.serial ts) (removal f.session f.serial ts) (leave f.session f.serial ts)) a
    ∙ ap (λ (x : Bool). if x then removal f.session f.serial ts else (if same_text f.kind (codes "BYE") then leave f.session f.serial ts else Err Bad)) b
    ∙ ap (λ (x : Bool). if x then leave f.session f.serial ts else Err Bad) e

pub bye_kind : (s : Attributes) (id : ℕ) (f : PlainFront) (o : Option (List Lexeme)) → same_text f.kind (codes "SUB") ≡ false → same_text f.kind (codes "UNSUB") ≡ false → same_text f.kind (codes "BYE") ≡ true
    → change_in s id f o ≡ option_map_or (leave f.session f.serial) o (Err Bad)
bye_kind s id f None a b e = refl
bye_kind s id f (Some ts) a b e = bye_if s id f ts true a b e

pub no_kind : (s : Attributes) (id : ℕ) (f : PlainFront) (o : Option (List Lexeme)) → same_text f.kind (codes "SUB") ≡ false → same_text f.kind (codes "UNSUB") ≡ false → same_text f.kind (codes "BYE") ≡ false
    → change_in s id f o ≡ Err Bad
no_kind s id f None a b e = refl
no_kind s id f (Some ts) a b e = bye_if s id f ts false a b e
