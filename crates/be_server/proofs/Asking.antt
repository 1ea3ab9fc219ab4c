-- Files are asked for one after another, each where those before it are good.
use Rattle.std.proofs.Common.{◌≡◌, inl, inr, List, [], ◌∷◌, ◌++◌, Option, Some, None, option_map, Result, Ok, Err, refl, sym, ap, subst, ◌∙◌, append-nil, append_assoc}
use Rattle.be_base.specs.Text.{Text}
use Rattle.be_io.specs.Shelf.{Asks}
use Rattle.be_io.specs.declared.faults.ShelfFault.{ShelfFault}
use Rattle.be_io.specs.declared.faults.ShelfFault.TheVariants as shelf
use Rattle.be_model.specs.declared.changes.Row.{Row}
use Rattle.be_model.specs.Schemas.{Attributes}
use Rattle.be_server.specs.Asked.{MayAsk, MayAskFirst, AsksInOrder, AsksBehind, AsksInTurn}
use Rattle.be_server.specs.Drill.{AreScripts}
use Rattle.be_server.specs.Files.{ToldFile, IsSchemaOf, AreRowsOf, run_names}
use Rattle.be_server.proofs.DrillEnds.{same_told}

-- a file was asked for, or nothing where memory ran out
pub asks_file : {T : Type 0} (r : Result T ShelfFault) (old new : List Text) (name : Text) → Asks r old new name → MayAsk name old new
asks_file (Ok bytes) old new name a = inr a
asks_file (Err shelf.Failed) old new name a = inr a
asks_file (Err shelf.Long) old new name a = inr a
asks_file (Err shelf.NoMemory) old new name a = a

-- nothing was asked for
asks_none : (content : Text → ToldFile) (names before after : List Text) → after ≡ before → AsksInOrder content names before after
asks_none content [] before after is = record { read = []; rest = []; parts = refl; texts = []; are_read = tt; asked = is ∙ sym (append-nil before) }
asks_none content (name ∷ names) before after is = record { read = []; rest = name ∷ names; parts = refl; texts = []; are_read = tt; asked = inl (is ∙ sym (append-nil before)) }

-- there was nothing to ask for
none_asked : (content : Text → ToldFile) (before after : List Text) → AsksInOrder content [] before after → after ≡ before
none_asked content before after o = ends o.read o.rest o.parts o.asked
  where
    ends : (read rest : List Text) → [] ≡ read ++ rest → MayAskFirst rest (before ++ read) after → after ≡ before
    ends [] [] parts asked = asked ∙ append-nil before
    ends [] (x ∷ rest) parts asked = absurd cc
    ends (x ∷ read) rest parts asked = absurd cc

-- the schema alone was asked for
pub asks_schema : (content : Text → ToldFile) (schema : Text) (load : Option Text) (names before after : List Text) → MayAsk schema before after → AsksInTurn content schema load names before after
asks_schema content schema load names before after a = inl a

-- and then the load file
pub asks_load : (content : Text → ToldFile) (schema load : Text) (s : Attributes) (before first after : List Text) → first ≡ before ++ schema ∷ [] → IsSchemaOf (content schema) s → MayAsk load first after
    → AsksInTurn content schema (Some load) [] before after
asks_load content schema load s before first after is good (inl same) = inl (inr (same ∙ is))
asks_load content schema load s before first after is good (inr more) = inr (s, good, inl (more ∙ ap (λ (l : List Text). l ++ load ∷ []) is))

-- and then a feed
pub asks_feed : (content : Text → ToldFile) (schema file : Text) (s : Attributes) (before first after : List Text) → first ≡ before ++ schema ∷ [] → IsSchemaOf (content schema) s → MayAsk file first after
    → AsksInTurn content schema None (file ∷ []) before after
asks_feed content schema file s before first after is good a =
    inr (
      s,
      good,
      record {
        read = [];
        rest = file ∷ [];
        parts = refl;
        texts = [];
        are_read = tt;
        asked = subst (λ (l : List Text). MayAsk file l after) (is ∙ sym (append-nil (before ++ schema ∷ []))) a;
      },
    )

-- the files of a run alone were asked for
pub asks_run : (content : Text → ToldFile) (schema : Text) (load : Option Text) (names before after : List Text) → AsksInTurn content schema load [] before after → AsksInTurn content schema load names before after
asks_run content schema load names before after (inl a) = inl a
asks_run content schema None names before after (inr a) = inr (a.0, a.1, asks_none content names (before ++ schema ∷ []) after (none_asked content (before ++ schema ∷ []) after a.2))
asks_run content schema (Some load) names before after (inr a) = inr (a.0, a.1, behind a.2)
  where
    behind : AsksBehind content a.0 (Some load) [] (before ++ schema ∷ []) after → AsksBehind content a.0 (Some load) names (before ++ schema ∷ []) after
    behind (inl more) = inl more
    behind (inr b) = inr (b.0, asks_none content names ((before ++ schema ∷ []) ++ load ∷ []) after (none_asked content ((before ++ schema ∷ []) ++ load ∷ []) after b.1))

-- behind the files of a run, others
pub asks_behind : (content here : Text → ToldFile) (schema : Text) (load : Option Text) (names : List Text) (s : Attributes) (rows : List Row) (before first after : List Text)
    → first ≡ before ++ run_names schema load → IsSchemaOf (content schema) s → AreRowsOf s (option_map content load) rows → ((file : Text) → here file ≡ content file) → AsksInOrder here names first after
    → AsksInTurn content schema load names before after
asks_behind content here schema load names s rows before first after is good are same o = by_load load is are
  where
    order : AsksInOrder content names first after
    order = record {
      read = o.read;
      rest = o.rest;
      parts = o.parts;
      texts = o.texts;
      are_read = subst (λ (l : List ToldFile). AreScripts l o.texts) (same_told here content o.read same) o.are_read;
      asked = o.asked;
    }

    by_load : (load : Option Text) → first ≡ before ++ run_names schema load → AreRowsOf s (option_map content load) rows → AsksInTurn content schema load names before after
    by_load None is are = inr (s, good, subst (λ (l : List Text). AsksInOrder content names l after) is order)
    by_load (Some load) is are =
        inr (s, good, inr ((rows, are.1), subst (λ (l : List Text). AsksInOrder content names l after) (is ∙ sym (append_assoc before (schema ∷ []) (load ∷ []))) order))
