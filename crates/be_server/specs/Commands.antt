-- How the program ends, by what its words ask for.
use Rattle.std.specs.Prelude.{◌≡◌, ◌⊎◌, Option, Some, None}
use Rattle.be_command_line.specs.Words.{ProgramRequest, run, gen, cover, drill, serve, heat, follow, mirror}
use Rattle.be_server.specs.declared.status.Status.{Status}
use Rattle.be_server.specs.declared.status.Status.TheVariants.{Words, NoMemory}
use Rattle.be_server.specs.Cover.{CoverEnds}
use Rattle.be_server.specs.Drill.{drill_files, DrillEnds}
use Rattle.be_server.specs.Files.{run_files}
use Rattle.be_server.specs.Follow.{follow_files, FollowEnds}
use Rattle.be_server.specs.Gen.{GenEnds}
use Rattle.be_server.specs.Heat.{HeatEnds}
use Rattle.be_server.specs.Mirror.{MirrorEnds}
use Rattle.be_server.specs.Outside.{Passage}
use Rattle.be_server.specs.Run.{RunEnds}
use Rattle.be_server.specs.Serve.{ServeEnds}

-- words without a reading touch nothing, and of the commands `run`, `follow` and `mirror` alone read the input
module _ {L : Type 0} (p : Passage L) where
  abbrev pub Ends : Option ProgramRequest → Status → Type 0
  Ends None status = ((status ≡ Words) ⊎ (status ≡ NoMemory)) × (p.after.shelf ≡ p.before.shelf) × p.InputKept × p.OutKept
  Ends (Some (run schema load)) status = RunEnds p (run_files p.before.content schema load) status
  Ends (Some (gen number subs events)) status =
      (p.after.shelf ≡ p.before.shelf) × p.InputKept × GenEnds p number subs events status
  Ends (Some (cover schema file name)) status = p.InputKept × CoverEnds p (run_files p.before.content schema (Some file)) name status
  Ends (Some (drill schema load rounds files)) status = p.InputKept × DrillEnds p (drill_files p.before.content schema load files) status
  Ends (Some (serve schema load port seats links)) status =
      p.InputKept × ServeEnds p port seats links (run_files p.before.content schema load) status
  Ends (Some (heat schema rounds files)) status = p.InputKept × HeatEnds p (drill_files p.before.content schema None files) status
  Ends (Some (follow schema file)) status = FollowEnds p (follow_files p.before.content schema file) status
  Ends (Some (mirror schema port seats links)) status = MirrorEnds p port seats links (p.before.content schema) status

  -- the door is as it was, but in `serve` and `mirror`
  abbrev pub LeavesDoorAlone : Option ProgramRequest → Type 0
  LeavesDoorAlone (Some (serve schema load port seats links)) = Unit {0}
  LeavesDoorAlone (Some (mirror schema port seats links)) = Unit {0}
  LeavesDoorAlone request = p.DoorKept
