-- Which files a command asks its shelf for: one after another, each only where those before it are good.
use Rattle.std.specs.Prelude.{◌≡◌, ◌++◌, ◌⊎◌, List, [], ◌∷◌, map, Option, Some, None, Ok}
use Rattle.be_base.specs.Text.{Text}
use Rattle.be_model.specs.declared.changes.Row.{Row}
use Rattle.be_model.specs.Schemas.{Attributes}
use Rattle.be_load_files.specs.Tables.{table_of}
use Rattle.be_command_line.specs.Words.{ProgramRequest, run, gen, cover, drill, serve, heat, follow, mirror}
use Rattle.be_server.specs.Drill.{AreScripts}
use Rattle.be_server.specs.Files.{ToldFile, FileReads, IsSchemaOf}
use Rattle.be_server.specs.Outside.{Passage}

-- this file was asked for, or nothing was
abbrev pub MayAsk : Text → List Text → List Text → Type 0
MayAsk name before after = (after ≡ before) ⊎ (after ≡ before ++ name ∷ [])

-- the first of these files was asked for, or nothing was
abbrev pub MayAskFirst : List Text → List Text → List Text → Type 0
MayAskFirst [] before after = after ≡ before
MayAskFirst (name ∷ names) before after = MayAsk name before after

-- the first ones of these files were asked for, in order: some that are there and within the limit, and perhaps the one behind them
pub record AsksInOrder (content : Text → ToldFile) (names before after : List Text) : Type 0 where
  pub read : List Text
  pub rest : List Text
  pub parts : names ≡ read ++ rest
  pub texts : List Text
  pub are_read : AreScripts (map content read) texts
  pub asked : MayAskFirst rest (before ++ read) after

-- behind a good schema: the load file, where there is one, and where it is good or there is none the other files
abbrev pub AsksBehind : (Text → ToldFile) → Attributes → Option Text → List Text → List Text → List Text → Type 0
AsksBehind content s None names before after = AsksInOrder content names before after
AsksBehind content s (Some load) names before after =
    (after ≡ before ++ load ∷ []) ⊎ (((rows : List Row) × FileReads (table_of s) (content load) (Ok rows)) × AsksInOrder content names (before ++ load ∷ []) after)

-- nothing was asked for or the schema alone, or more, and the schema is good
abbrev pub AsksInTurn : (Text → ToldFile) → Text → Option Text → List Text → List Text → List Text → Type 0
AsksInTurn content schema load names before after =
    MayAsk schema before after ⊎ ((s : Attributes) × IsSchemaOf (content schema) s × AsksBehind content s load names (before ++ schema ∷ []) after)

-- what the shelf is asked for by what the words ask
module _ {L : Type 0} (p : Passage L) where
  abbrev pub AsksShelf : Text → Option Text → List Text → Type 0
  AsksShelf schema load names = AsksInTurn p.before.content schema load names p.before.asked p.after.asked

  abbrev pub AsksFor : Option ProgramRequest → Type 0
  AsksFor None = p.after.asked ≡ p.before.asked
  AsksFor (Some (run schema load)) = AsksShelf schema load []
  AsksFor (Some (gen number subs events)) = p.after.asked ≡ p.before.asked
  AsksFor (Some (cover schema file name)) = AsksShelf schema (Some file) []
  AsksFor (Some (drill schema load rounds files)) = AsksShelf schema load files
  AsksFor (Some (serve schema load port seats links)) = AsksShelf schema load []
  AsksFor (Some (heat schema rounds files)) = AsksShelf schema None files
  AsksFor (Some (follow schema file)) = AsksShelf schema None (file ∷ [])
  AsksFor (Some (mirror schema port seats links)) = AsksShelf schema None []
