-- A command that the table doesn't have.
use Rattle.std.proofs.Common.{◌≡◌, refl, sym, List, [], ◌∷◌, None, false, All, codes}
use Rattle.std.specs.List.{find}
use Rattle.std.proofs.lemmas.Bool.{false_from_ne_true}
use Rattle.std.proofs.lemmas.List.Elements.{All-head, All-tail, All-cons, All-nil}
use Rattle.be_base.specs.Text.{Text, same_text}
use Rattle.be_base.proofs.SameText.{equal_from_same_text}
use Rattle.be_command_line.specs.Words.{CommandRow, command_rows, command_row, run_of, gen_of, cover_of, drill_of, serve_of, heat_of, follow_of, mirror_of}

-- the command isn't the word of this row
abbrev pub IsOther : Text → CommandRow → Type 0
IsOther command row = command ≡ row.word → ⊥

pub no_row : (command : Text) (rows : List CommandRow) → All (IsOther command) rows → find (λ row. same_text row.word command) rows ≡ None
no_row command [] others = refl
no_row command (row ∷ rows) others =
    let other : IsOther command row = All-head (IsOther command) row rows others in
    let different : same_text row.word command ≡ false = false_from_ne_true (same_text row.word command) (λ same. other (sym (equal_from_same_text row.word command same))) in
    simp (different, no_row command rows (All-tail (IsOther command) row rows others))

-- the command is none of the table's
pub unknown : (command : Text) → (command ≡ codes "run" → ⊥) → (command ≡ codes "gen" → ⊥) → (command ≡ codes "cover" → ⊥) → (command ≡ codes "drill" → ⊥) → (command ≡ codes "serve" → ⊥) → (command ≡ codes "heat" → ⊥) → (command ≡ codes "follow" → ⊥) → (command ≡ codes "mirror" → ⊥) → command_row command ≡ None
unknown command not_run not_gen not_cover not_drill not_serve not_heat not_follow not_mirror =
    no_row command command_rows
    (All-cons (IsOther command) (record { word = codes "run"; request = run_of }) (record { word = codes "gen"; request = gen_of } ∷ record { word = codes "cover"; request = cover_of } ∷ record { word = codes "drill"; request = drill_of } ∷ record { word = codes "serve"; request = serve_of } ∷ record { word = codes "heat"; request = heat_of } ∷ record { word = codes "follow"; request = follow_of } ∷ record { word = codes "mirror"; request = mirror_of } ∷ []) not_run
    (All-cons (IsOther command) (record { word = codes "gen"; request = gen_of }) (record { word = codes "cover"; request = cover_of } ∷ record { word = codes "drill"; request = drill_of } ∷ record { word = codes "serve"; request = serve_of } ∷ record { word = codes "heat"; request = heat_of } ∷ record { word = codes "follow"; request = follow_of } ∷ record { word = codes "mirror"; request = mirror_of } ∷ []) not_gen
    (All-cons (IsOther command) (record { word = codes "cover"; request = cover_of }) (record { word = codes "drill"; request = drill_of } ∷ record { word = codes "serve"; request = serve_of } ∷ record { word = codes "heat"; request = heat_of } ∷ record { word = codes "follow"; request = follow_of } ∷ record { word = codes "mirror"; request = mirror_of } ∷ []) not_cover
    (All-cons (IsOther command) (record { word = codes "drill"; request = drill_of }) (record { word = codes "serve"; request = serve_of } ∷ record { word = codes "heat"; request = heat_of } ∷ record { word = codes "follow"; request = follow_of } ∷ record { word = codes "mirror"; request = mirror_of } ∷ []) not_drill
    (All-cons (IsOther command) (record { word = codes "serve"; request = serve_of }) (record { word = codes "heat"; request = heat_of } ∷ record { word = codes "follow"; request = follow_of } ∷ record { word = codes "mirror"; request = mirror_of } ∷ []) not_serve
    (All-cons (IsOther command) (record { word = codes "heat"; request = heat_of }) (record { word = codes "follow"; request = follow_of } ∷ record { word = codes "mirror"; request = mirror_of } ∷ []) not_heat
    (All-cons (IsOther command) (record { word = codes "follow"; request = follow_of }) (record { word = codes "mirror"; request = mirror_of } ∷ []) not_follow
    (All-cons (IsOther command) (record { word = codes "mirror"; request = mirror_of }) ([]) not_mirror
    (All-nil (IsOther command))))))))))
