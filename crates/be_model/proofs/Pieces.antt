-- Texts that are put together piece by piece.
use Rattle.std.proofs.Common.{◌≡◌, ℕ, ◌+◌, ◌<◌, List, ◌++◌, length, get_or, take, sym, ap, ◌∙◌}
use Rattle.std.specs.List.{flat_map}
use Rattle.std.proofs.lemmas.List.{take_more, flat_map_more}
use Rattle.be_base.specs.Text.{Text}

-- one more piece is put last
pub joined_more : {X : Type 0} (f : X → Text) (xs : List X) (i : ℕ) (d : X) (start before after : Text)
    → i < length xs → before ≡ start ++ flat_map f (take i xs) → after ≡ before ++ f (get_or xs i d) → after ≡ start ++ flat_map f (take (i + 1) xs)
joined_more f xs i d start before after h b e =
    e ∙ ap (λ text. text ++ f (get_or xs i d)) b
    ∙ flat_map_more f start (take i xs) (get_or xs i d)
    ∙ ap (λ ys. start ++ flat_map f ys) (sym (take_more xs i d h))
