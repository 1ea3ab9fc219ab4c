-- What a scan of a set tells.
use Rattle.std.proofs.Common.{◌≡◌, Bor, List, ◌∷◌, Option, Some, None, option_map, option_and_then, refl, sym, ap, ◌∙◌}
use Rattle.std.specs.Option.{option_map_or}
use Rattle.be_base.specs.Text.{Text}
use Rattle.be_base.specs.Tokens.{Lexeme, open_brace, tokens, put_token}
use Rattle.be_base.specs.Readers.{Read}
use Rattle.be_base.specs.Sets.{read_values}
use Rattle.be_base.specs.declared.names.AttrNo.{AttrNo}
use Rattle.be_model.specs.Schemas.{Attributes}
use Rattle.be_model.specs.SetTexts.{met_in, met_with}
use Rattle.be_model.specs.declared.set_texts.Met.{Met}
use Rattle.be_event.specs.Grammar.{WrittenValues, set, read_given}
use Rattle.be_event.specs.Scan.{GivenBefore}
use Rattle.be_event.specs.declared.items.Source.TheVariants.{Set}

abbrev with_set : List Text × List Lexeme → WrittenValues × List Lexeme
with_set r = (set r.0, r.1)

by_values : (s : Attributes) (attr : Option AttrNo) (met : Met) (text : Bor Text) (o : Option (List Lexeme)) (ls : List Lexeme) (rest : Option (List Lexeme)) (q : Read (List Text))
    → o ≡ Some (open_brace ∷ ls) → tokens text.now ≡ Some ls → read_values ls ≡ q → option_map (λ ts. (met, ts)) rest ≡ option_map (met_with s attr) q
    → GivenBefore s attr o (record { met = met; source = Set text }) rest
by_values s attr met text o ls None None e t r h = ap (option_and_then read_given) e ∙ ap (option_map with_set) r
by_values s attr met text o ls None (Some q) e t r h = absurd (cc)
by_values s attr met text o ls (Some ts) None e t r h = absurd (cc)
by_values s attr met text o ls (Some ts) (Some q) e t r h =
    let same : met ≡ met_in s attr q.0 = ap (λ (o : Read Met). option_map_or (λ r. r.0) o met) h in
    let left : q.1 ≡ ts = sym (ap (λ (o : Read Met). option_map_or (λ r. r.1) o ts) h) in (
      set q.0,
      ap (option_and_then read_given) e ∙ ap (option_map with_set) r ∙ ap (λ (after : List Lexeme). Some (set q.0, after)) left,
      record {
        count = ap (λ (m : Met). m.count) same;
        outside = ap (λ (m : Met). m.is_outside) same;
        source = λ a there inside. (q.1, ap (option_and_then read_values) t ∙ r);
      },
    )

by_text : (s : Attributes) (attr : Option AttrNo) (met : Met) (text : Bor Text) (o left rest : Option (List Lexeme))
    → o ≡ put_token open_brace left → tokens text.now ≡ left → option_map (λ ts. (met, ts)) rest ≡ option_map (met_with s attr) (option_and_then read_values left)
    → GivenBefore s attr o (record { met = met; source = Set text }) rest
by_text s attr met text o None None e t h = ap (option_and_then read_given) e
by_text s attr met text o None (Some ts) e t h = absurd (cc)
by_text s attr met text o (Some ls) rest e t h = by_values s attr met text o ls rest (read_values ls) e t refl h

-- what is met in a set that stands in front of other tokens
pub set_given : (s : Attributes) (attr : Option AttrNo) (met : Met) (text : Bor Text) (o rest : Option (List Lexeme))
    → o ≡ put_token open_brace (tokens text.now) → option_map (λ ts. (met, ts)) rest ≡ option_map (met_with s attr) (option_and_then read_values (tokens text.now))
    → GivenBefore s attr o (record { met = met; source = Set text }) rest
set_given s attr met text o rest e h = by_text s attr met text o (tokens text.now) rest e refl h
