-- The ends of sessions at all seats.
use Rattle.std.proofs.Common.{◌≡◌, Bool, true, false, ◌||◌, List, [], ◌∷◌, Some, None, refl}
use Rattle.std.specs.Prelude.{if◌then◌else◌, find}
use Rattle.std.specs.List.{All, list_any}
use Rattle.std.proofs.lemmas.List.Elements.{All-cons, All-nil}
use Rattle.be_protocol.specs.declared.ends.SessionEnd.{SessionEnd}
use Rattle.be_protocol.specs.declared.ends.SessionEnd.TheVariants.{Eof, Quit, ReadFault, WriteFault, Spent, Split, NoMemory}
use Rattle.be_hub.specs.Files.{lacks_memory, is_split_end}
use Rattle.be_hub.specs.Settling.{IsUnbroken}

-- where no session lacked memory and none ended by a SPLIT
unbroken_all : (xs : List SessionEnd) → list_any lacks_memory xs ≡ false → list_any is_split_end xs ≡ false → All IsUnbroken xs
unbroken_all [] m s = All-nil IsUnbroken
unbroken_all (x ∷ xs) m s = go (lacks_memory x) refl (is_split_end x) refl m s (unbroken_all xs)
  where
    here : (y : SessionEnd) → lacks_memory y ≡ false → is_split_end y ≡ false → IsUnbroken y
    here Eof a b = tt
    here Quit a b = tt
    here ReadFault a b = tt
    here WriteFault a b = tt
    here Spent a b = tt
    here (Split i j) a b = absurd cc
    here NoMemory a b = absurd cc

    go : (a : Bool) → lacks_memory x ≡ a → (b : Bool) → is_split_end x ≡ b → (a || list_any lacks_memory xs) ≡ false → (b || list_any is_split_end xs) ≡ false
        → (list_any lacks_memory xs ≡ false → list_any is_split_end xs ≡ false → All IsUnbroken xs) → All IsUnbroken (x ∷ xs)
    go true is b it m s rest = absurd cc
    go false is true it m s rest = absurd cc
    go false is false it m s rest = All-cons IsUnbroken x xs (here x is it) (rest m s)

pub all_unbroken : {E : Type 0} (ends_in : E → List SessionEnd) (ends : List E) → list_any (λ e. list_any lacks_memory (ends_in e)) ends ≡ false → find (λ e. list_any is_split_end (ends_in e)) ends ≡ None
    → All (λ e. All IsUnbroken (ends_in e)) ends
all_unbroken ends_in [] m s = All-nil (λ e. All IsUnbroken (ends_in e))
all_unbroken {E} ends_in (e ∷ es) m s = go (list_any lacks_memory (ends_in e)) refl (list_any is_split_end (ends_in e)) refl m s (all_unbroken ends_in es)
  where
    go : (a : Bool) → list_any lacks_memory (ends_in e) ≡ a → (b : Bool) → list_any is_split_end (ends_in e) ≡ b → (a || list_any (λ x. list_any lacks_memory (ends_in x)) es) ≡ false
        → (if b then Some e else find (λ x. list_any is_split_end (ends_in x)) es) ≡ None
        → (list_any (λ x. list_any lacks_memory (ends_in x)) es ≡ false → find (λ x. list_any is_split_end (ends_in x)) es ≡ None → All (λ x. All IsUnbroken (ends_in x)) es)
        → All (λ x. All IsUnbroken (ends_in x)) (e ∷ es)
    go true is b it m s rest = absurd cc
    go false is true it m s rest = absurd cc
    go false is false it m s rest = All-cons (λ x. All IsUnbroken (ends_in x)) e es (unbroken_all (ends_in e) is it) (rest m s)
