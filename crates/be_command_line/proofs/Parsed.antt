-- What the parser answers is what these definitions give.
use Rattle.std.proofs.Common.{◌≡◌, inl, inr, zero, suc, refl, sym, ap, ap₂, ◌∙◌, arith, List, [], ◌∷◌, Option, Some, None, Err}
use Rattle.std.specs.List.{All}
use Rattle.std.specs.Str.{IsUtf8}
use Rattle.std.specs.declared.alloc.Global.{Global}
use Rattle.std.specs.declared.string.String.{String}
use Rattle.std.proofs.lemmas.Str.{IsUtf8-string_bytes}
use Rattle.be_base.specs.Text.{Text}
use Rattle.clap.specs.Faults.{fault_of}
use Rattle.clap.specs.Kinds.{HasKind, IsAmong, Kinds}
use Rattle.clap.specs.Matches.{found_of}
use Rattle.clap.specs.Simple.{matches_of}
use Rattle.clap.specs.Values.{kind_of}
use Rattle.clap.specs.Walk.{Row, Walk, nothing_held, rows_of, walk}
use Rattle.clap.specs.declared.error.Error.{Error}
use Rattle.clap.specs.declared.error.kind.ErrorKind.TheVariants as kind
use Rattle.clap.specs.declared.parser.matches.ArgMatches.{ArgMatches}
use Rattle.clap.proofs.OnLiterals.{clap_on_literals}
use Rattle.be_command_line.specs.Arguments.{Arguments, arguments}
use Rattle.be_command_line.specs.CommandLine.{app, load_id, word_id}
use Rattle.be_command_line.specs.Read.{AreArguments, arguments_in, seen}
use Rattle.be_command_line.specs.Words.{word_texts}
use Rattle.be_command_line.specs.declared.words.WordsFault.{WordsFault}
use Rattle.be_command_line.specs.declared.words.WordsFault.TheVariants.{Refused, NoMemory}
use Rattle.be_command_line.proofs.Ending.{HasEnded, IsMet, words_met}
use Rattle.be_command_line.proofs.Rules.{rules}

-- strings are texts
pub are_texts : (words : List (String Global)) → All IsUtf8 (word_texts words)
are_texts [] k d below = absurd (omega arith)
are_texts (word ∷ words) zero d below = IsUtf8-string_bytes word
are_texts (word ∷ words) (suc k) d below = are_texts words k d (omega arith)

taken : (wanted : Option Arguments) (fault : Kinds) (w : Walk) (rows : List Row) → IsMet wanted fault w → fault ≡ []
    → ((a : Arguments) → HasEnded a w → Some a ≡ Some (record { words = seen word_id rows; loads = seen load_id rows }))
    → wanted ≡ Some (record { words = seen word_id rows; loads = seen load_id rows })
taken None fault w rows met passes same = absurd (met passes)
taken (Some a) fault w rows met passes same = same a met.1

-- an answer has the arguments
pub matches_are : (words : List Text) (m : ArgMatches) → All IsUtf8 words → fault_of app words ≡ [] → rows_of (found_of m) ≡ matches_of app words
    → arguments words ≡ Some (arguments_in m)
unfolding clap_on_literals
matches_are words m utf8 passes rows =
    taken (arguments words) (fault_of app words) (walk rules [] nothing_held words) (rows_of (found_of m)) (words_met words utf8) passes
    (λ a end. ap₂ (λ (ws ls : List Text). Some (let b : Arguments = record { words = ws; loads = ls } in b))
    (sym end.words ∙ ap (seen word_id) (sym rows)) (sym end.loads ∙ ap (seen load_id) (sym rows)))

none_fails : (wanted : Option Arguments) (fault : Kinds) (w : Walk) (k : kind.the_data) → IsMet wanted fault w → IsAmong k fault → wanted ≡ None
none_fails None fault w k met among = refl
none_fails (Some a) [] w k met among = absurd among
none_fails (Some a) (x ∷ xs) w k met among = let clash : x ∷ xs ≡ [] = met.0 in absurd cc

answered : (wanted : Option Arguments) (fault : Kinds) (w : Walk) (e : Error) (f : WordsFault) → IsMet wanted fault w → HasKind fault e
    → (f ≡ Refused → kind_of e ≡ kind.OutOfMemory → ⊥) → AreArguments wanted (Err f)
answered wanted fault w e NoMemory met has told = tt
answered wanted fault w e Refused met (inl memory) told = absurd (told refl memory)
answered wanted fault w e Refused met (inr among) told = none_fails wanted fault w (kind_of e) met among

-- a refusal comes where there are none, or where memory was wanting
pub refusal_is : (words : List Text) (e : Error) (f : WordsFault) → All IsUtf8 words → HasKind (fault_of app words) e
    → (f ≡ Refused → kind_of e ≡ kind.OutOfMemory → ⊥) → AreArguments (arguments words) (Err f)
refusal_is words e f utf8 has told = answered (arguments words) (fault_of app words) (walk rules [] nothing_held words) e f (words_met words utf8) has told
