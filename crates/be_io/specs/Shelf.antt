-- What a shelf is asked for, and what it answers.
use Rattle.std.specs.Prelude.{◌≡◌, ℕ, ◌++◌, ◌⊎◌, ◌||◌, Bool, List, [], ◌∷◌, map, Option, Some, None, is_none, Result, Ok, Err, string_bytes, if◌then◌else◌}
use Rattle.std.specs.Str.{bytes_eq}
use Rattle.std.specs.declared.string.String.{String}
use Rattle.std.specs.declared.alloc.Global.{Global}
use Rattle.std.specs.declared.vec.Vec.{Vec}
use Rattle.be_io.specs.declared.faults.ShelfFault.{ShelfFault}
use Rattle.be_io.specs.declared.faults.ShelfFault.TheVariants.{Failed, Long, NoMemory}
use Rattle.be_base.specs.Text.{Text}
use Rattle.be_io.specs.Counts.{HasRisen}
use Rattle.be_io.specs.Calls.{CallState, is_to_fail, after_call, after_fault}

-- the name was asked for after the others. Where memory ran out it may be missing
abbrev pub Asks : {T : Type 0} → Result T ShelfFault → List (List ℕ) → List (List ℕ) → List ℕ → Type 0
Asks (Ok bytes) old new name = new ≡ old ++ name ∷ []
Asks (Err Failed) old new name = new ≡ old ++ name ∷ []
Asks (Err Long) old new name = new ≡ old ++ name ∷ []
Asks (Err NoMemory) old new name = (new ≡ old) ⊎ (new ≡ old ++ name ∷ [])

-- the count of faults rose where the answer is that the call failed, and else stayed
abbrev pub CountsFault : {T : Type 0} → Result T ShelfFault → ℕ → ℕ → Type 0
CountsFault (Ok bytes) before after = after ≡ before
CountsFault (Err Failed) before after = HasRisen before after
CountsFault (Err Long) before after = after ≡ before
CountsFault (Err NoMemory) before after = after ≡ before

-- where the shelf tells of a file, the file is there and this is true of its bytes
abbrev pub HoldsFile : Option (Option (List ℕ)) → (List ℕ → Type 0) → Type 0
HoldsFile None P = Unit {0}
HoldsFile (Some None) P = ⊥
HoldsFile (Some (Some bytes)) P = P bytes

pub record MemFile : Type 0 where
  pub name : List ℕ
  pub bytes : List ℕ

-- a file's name and its bytes
abbrev pub file_of : String Global × Vec ℕ Global → MemFile
file_of file = record { name = string_bytes file.0; bytes = file.1.items }

-- what the file of this name holds, where there is one
abbrev pub content_of : List MemFile → List ℕ → Option (List ℕ)
content_of [] name = None
content_of (file ∷ files) name = if bytes_eq file.name name then Some file.bytes else content_of files name

abbrev pub file_names : List MemFile → List Text
file_names files = map (λ (file : MemFile). file.name) files

pub record ShelfState : Type 0 where
  pub files : List MemFile
  -- the names that were asked for, in order
  pub asked : List (List ℕ)
  pub calls : CallState

-- the next call, for this name, is to fail
abbrev pub is_to_fail_for : ShelfState → List ℕ → Bool
is_to_fail_for shelf name = is_to_fail shelf.calls || is_none (content_of shelf.files name)

-- after a call for this name that failed, and after one that didn't
abbrev pub after_failed_ask : ShelfState → List ℕ → ShelfState
after_failed_ask shelf name = record shelf { asked = shelf.asked ++ name ∷ []; calls = after_fault shelf.calls }

abbrev pub after_ask : ShelfState → List ℕ → ShelfState
after_ask shelf name = record shelf { asked = shelf.asked ++ name ∷ []; calls = after_call shelf.calls }
