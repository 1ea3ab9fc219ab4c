-- The text of a reply, put together from what is written of it.
use Rattle.std.proofs.Common.{◌≡◌, ℕ, [], ◌∷◌, ◌++◌, ap, ◌∙◌}
use Rattle.std.specs.List.{flat_map}
use Rattle.std.proofs.lemmas.Grind.{flat_map-append}
use Rattle.std.proofs.lemmas.List.{append-nil}
use Rattle.std.proofs.lemmas.Simd.{map-map}
use Rattle.be_base.specs.Text.{Text}
use Rattle.be_model.specs.declared.changes.Row.{Row}
use Rattle.be_model.specs.ByIds.{ByIds, rows_of}
use Rattle.be_model.specs.Schemas.{Attributes}
use Rattle.be_change.specs.History.{names_of}
use Rattle.be_change.specs.Requests.{Reply}
use Rattle.be_protocol.specs.Replies.{first_lines, closing_line, with_lf, reply_text}
use Rattle.be_protocol.specs.Texts.{names_in}

-- the first lines, and behind them the last
pub reply_parts : (s : Attributes) (r : Reply) → reply_text s r ≡ flat_map with_lf (first_lines s r) ++ with_lf (closing_line r)
reply_parts s r =
    flat_map-append with_lf (first_lines s r) (closing_line r ∷ []) ∙ ap (λ (t : Text). flat_map with_lf (first_lines s r) ++ t) (append-nil (with_lf (closing_line r)))

-- the names of rows by their ids
pub names_in-rows_of : (l : ByIds) → names_in (rows_of l) ≡ names_of l
names_in-rows_of l = map-map (λ (row : Row). row.name) (λ (r : ℕ × Row). r.1) l
