-- A workload of subscriptions and events.
use Rattle.std.specs.Prelude.{◌≡◌, ℕ, [], ◌++◌, codes}
use Rattle.be_base.specs.Text.{Text}
use Rattle.be_workload.specs.Drawing.{Script, subscriptions, events}
use Rattle.be_workload.specs.declared.texts.Workload.{Workload}

-- ten attributes of a thousand values
abbrev pub schema_text : Text
schema_text =
    codes "int a0 0 999\n" ++
    codes "int a1 0 999\n" ++
    codes "int a2 0 999\n" ++
    codes "int a3 0 999\n" ++
    codes "int a4 0 999\n" ++
    codes "int a5 0 999\n" ++
    codes "int a6 0 999\n" ++
    codes "int a7 0 999\n" ++
    codes "int a8 0 999\n" ++
    codes "int a9 0 999\n"

-- nothing is written yet, and the state of SplitMix64 is the number
abbrev pub start : ℕ → Script
start number = record { state = number; text = []; event = [] }

abbrev pub script_text : ℕ → ℕ → ℕ → Text
script_text number subs event_count = (events event_count (subscriptions subs (start number))).text

-- exactly these texts
pub record IsWorkload (number subs event_count : ℕ) (w : Workload) : Type 0 where
  pub schema : w.schema.items ≡ schema_text
  pub script : w.script.items ≡ script_text number subs event_count
