-- What the rows of the kit's parser hold of an argument, as its uses are read.
use Rattle.std.proofs.Common.{◌≡◌, refl, sym, ap, List, [], ◌∷◌, ◌++◌, true, false, Bool, true≢false, ◌∙◌}
use Rattle.std.specs.Str.{bytes_eq}
use Rattle.be_base.proofs.SameText.{equal_from_same_text}
use Rattle.be_command_line.specs.Read.{seen}
use Rattle.clap.specs.Walk.{Row, Text, with_values}
use Rattle.clap.specs.declared.builder.value_parser.Reading.{Reading}
use Rattle.clap.specs.declared.parser.matches.ValueSource.{ValueSource}

pub seen_more : (id : Text) (how : Reading) (s : ValueSource) (values : List Text) (rows : List Row) → bytes_eq id id ≡ true
    → seen id (with_values id how s values rows) ≡ seen id rows ++ values
seen_more id how s values [] same = rw same refl
seen_more id how s values (r ∷ rows) same = go (bytes_eq r.id id) refl (seen_more id how s values rows same)
  where
    go : (b : Bool) → bytes_eq r.id id ≡ b → seen id (with_values id how s values rows) ≡ seen id rows ++ values
        → seen id (with_values id how s values (r ∷ rows)) ≡ seen id (r ∷ rows) ++ values
    go true e more = simp e
    go false e more = simp e more

-- another argument's values stay
pub seen_other : (id other : Text) (how : Reading) (s : ValueSource) (values : List Text) (rows : List Row) → bytes_eq id other ≡ false
    → seen other (with_values id how s values rows) ≡ seen other rows
seen_other id other how s values [] differ = rw differ refl
seen_other id other how s values (r ∷ rows) differ = go (bytes_eq r.id id) refl (bytes_eq r.id other) refl (seen_other id other how s values rows differ)
  where
    go : (b : Bool) → bytes_eq r.id id ≡ b → (d : Bool) → bytes_eq r.id other ≡ d → seen other (with_values id how s values rows) ≡ seen other rows
        → seen other (with_values id how s values (r ∷ rows)) ≡ seen other (r ∷ rows)
    go true e true f more =
        let is : r.id ≡ id = equal_from_same_text r.id id e in
        absurd (true≢false (sym f ∙ ap (λ (t : Text). bytes_eq t other) is ∙ differ))
    go true e false f more = simp (e, f)
    go false e true f more = simp (e, f)
    go false e false f more = simp (e, f) more
