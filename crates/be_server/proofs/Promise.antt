-- What follows from how a command ends, and its promise.
use Rattle.std.proofs.Common.{◌≡◌, ◌⊎◌, inl, inr, ℕ, List, Bool, Option, Some, None, Err, refl, subst, arith}
use Rattle.be_base.specs.Text.{Text}
use Rattle.be_change.specs.Opening.{opening_of}
use Rattle.be_io.specs.Counts.{HasRisen}
use Rattle.be_io.specs.Outside.{LinkState}
use Rattle.be_io.specs.declared.faults.SinkFault.TheVariants as sink
use Rattle.be_model.specs.declared.changes.Row.{Row}
use Rattle.be_model.specs.Schemas.{Attributes}
use Rattle.be_follow.specs.Reads.{ReadsEnd}
use Rattle.be_protocol.specs.declared.ends.SessionEnd.TheVariants as ends
use Rattle.be_protocol.specs.Conversation.{TakesWithin}
use Rattle.be_command_line.specs.Words.{ProgramRequest, run, gen, cover, drill, serve, heat, follow, mirror}
use Rattle.be_server.specs.declared.status.Status.{Status}
use Rattle.be_server.specs.declared.status.Status.TheVariants.{Words, NoMemory}
use Rattle.be_server.specs.Asked.{AsksFor}
use Rattle.be_server.specs.Commands.{Ends, LeavesDoorAlone}
use Rattle.be_server.specs.Cover.{WroteCover}
use Rattle.be_server.specs.Drill.{ToldFiles, Printing, Ran, SessionsEnd, drill_files, prints_drill}
use Rattle.be_server.specs.Files.{ToldFile, RunFiles, run_files}
use Rattle.be_server.specs.Follow.{FollowFiles, FollowedWith, follow_files}
use Rattle.be_server.specs.Gen.{WroteSums}
use Rattle.be_server.specs.Heat.{prints_heat}
use Rattle.be_server.specs.Mirror as mirrored
use Rattle.be_server.specs.Outside.{Moment, Passage}
use Rattle.be_server.specs.Promise.{RefusesWords, LeavesInput, WantsMemory, Promise}
use Rattle.be_server.specs.Run.{SessionRuns, ServedWith}
use Rattle.be_server.specs.Serve.{RunsServe, RanServe, OutAndDoorKept}
use Rattle.be_server.proofs.EndsExactly.{exact_ends}

-- an input that wasn't read
pub none_taken : (n : ℕ) → TakesWithin n n
none_taken n = (0, omega arith, omega arith)

-- words with a reading aren't refused
module _ {L : Type 0} (p : Passage L) where
  words_stand : (request : ProgramRequest) → Ends p (Some request) Words → ⊥
  words_stand (run schema load) e = e
  words_stand (gen number subs events) e = e.2
  words_stand (cover schema file name) e = e.1
  words_stand (drill schema load rounds files) e = e.1.1.runs
  words_stand (serve schema load port seats links) e = e.1.1.runs
  words_stand (heat schema rounds files) e = e.1.1.runs
  words_stand (follow schema file) e = e
  words_stand (mirror schema port seats links) e = e.1.2.reflects

  refuses_words : (request : Option ProgramRequest) (status : Status) → Ends p request status → RefusesWords request status
  refuses_words None status e = (λ is. refl, λ none. e.0)
  refuses_words (Some request) status e = (λ is. absurd (words_stand request (subst (Ends p (Some request)) is e)), λ none. absurd (some_is request none))
    where
      some_is : (r : ProgramRequest) → Some r ≡ None → ⊥
      some_is r is = cc

  -- memory was wanting, and no write was refused for it
  module _ (quiet : HasRisen p.before.link.sink.refusals p.after.link.sink.refusals → ⊥) where
    run_kept : (files : RunFiles) → (p.InputKept × p.OutKept) ⊎ ServedWith (p.InputKept × p.OutKept) files p.before.link p.after.link ends.NoMemory → p.InputKept × p.OutKept
    run_kept files (inl kept) = kept
    run_kept files (inr served) = by_end served.ends
      where
        by_end : SessionRuns (p.InputKept × p.OutKept) served.schema (opening_of served.rows) p.before.link p.after.link ends.NoMemory → p.InputKept × p.OutKept
        by_end (inl kept) = kept
        by_end (inr cut) = absurd (quiet cut.0)

    follow_kept : (files : FollowFiles) → (p.InputKept × p.OutKept) ⊎ FollowedWith (p.InputKept × p.OutKept) files p.before.link p.after.link ends.NoMemory → p.InputKept × p.OutKept
    follow_kept files (inl kept) = kept
    follow_kept files (inr f) = by_end f.ends
      where
        by_end : ReadsEnd (p.InputKept × p.OutKept) f.schema f.list p.before.link p.after.link ends.NoMemory → p.InputKept × p.OutKept
        by_end (inl kept) = kept
        by_end (inr cut) = absurd (quiet cut.0)

    files_kept : (Prints : Printing) (files : ToldFiles)
        → ((s : Attributes) (rows : List Row) (scripts : List Text) (shuts : Bool) → Prints s rows scripts shuts (Err sink.NoMemory) → HasRisen p.before.link.sink.refusals p.after.link.sink.refusals)
        → p.OutKept ⊎ Ran p.OutKept Prints files NoMemory → p.OutKept
    files_kept Prints files refused (inl kept) = kept
    files_kept Prints files refused (inr r) = by_end r.runs
      where
        by_end : SessionsEnd p.OutKept (Prints r.schema r.rows r.scripts) NoMemory → p.OutKept
        by_end (inl kept) = kept
        by_end (inr printed) = absurd (quiet (refused r.schema r.rows r.scripts printed.0 printed.1))

    serve_kept : (port seats links : ℕ) (files : RunFiles)
        → OutAndDoorKept p port seats links files ⊎ RanServe p.told p.OutKept files port seats links p.before.door p.after.door p.before.link.sink p.after.link.sink NoMemory → p.OutKept
    serve_kept port seats links files (inl kept) = kept.0
    serve_kept port seats links files (inr r) = by_end r.runs
      where
        by_end : RunsServe p.told p.OutKept r.schema r.rows port seats links p.before.door p.after.door p.before.link.sink p.after.link.sink NoMemory → p.OutKept
        by_end (inl kept) = kept.0
        by_end (inr served) = absurd (quiet served.logs.1)

    gen_kept : (number subs events : ℕ) → p.OutKept ⊎ WroteSums number subs events p.before.link.sink p.after.link.sink (Err sink.NoMemory) → p.OutKept
    gen_kept number subs events (inl kept) = kept
    gen_kept number subs events (inr w) = absurd (quiet w.2.1)

    cover_kept : (files : RunFiles) (name : Text) → p.OutKept ⊎ WroteCover files name p.before.link.sink p.after.link.sink (Err sink.NoMemory) → p.OutKept
    cover_kept files name (inl kept) = kept
    cover_kept files name (inr w) = absurd (quiet w.written.1)

    mirror_kept : (port seats links : ℕ) (file : ToldFile) → mirrored.AllKept p port seats links file ⊎ mirrored.MirrorRuns p port seats links file NoMemory → p.OutKept
    mirror_kept port seats links file (inl kept) = kept.1
    mirror_kept port seats links file (inr r) = by_end r.2
      where
        by_end : mirrored.RunsMirror p.told p.InputKept p.OutKept r.0 port seats links p.before.link p.after.link p.before.door p.after.door NoMemory → p.OutKept
        by_end (inl kept) = kept.0
        by_end (inr printed) = absurd (quiet printed.reflects.1)

    kept : (request : Option ProgramRequest) → Ends p request NoMemory → LeavesInput p request × p.OutKept
    kept None e = (e.2, e.3)
    kept (Some (run schema load)) e = run_kept (run_files p.before.content schema load) e.1
    kept (Some (gen number subs events)) e = (e.1, gen_kept number subs events e.2)
    kept (Some (cover schema file name)) e = (e.0, cover_kept (run_files p.before.content schema (Some file)) name e.1.1)
    kept (Some (drill schema load rounds files)) e =
        (e.0, files_kept (prints_drill p) (drill_files p.before.content schema load files) (λ s rows scripts shuts printed. printed.written.1) e.1.1)
    kept (Some (serve schema load port seats links)) e = (e.0, serve_kept port seats links (run_files p.before.content schema load) e.1.1)
    kept (Some (heat schema rounds files)) e =
        (e.0, files_kept (prints_heat p) (drill_files p.before.content schema None files) (λ s rows scripts shuts printed. printed.written.1) e.1.1)
    kept (Some (follow schema file)) e = follow_kept (follow_files p.before.content schema file) e.1
    kept (Some (mirror schema port seats links)) e = (tt, mirror_kept port seats links (p.before.content schema) e.1)

  wants_memory : (request : Option ProgramRequest) (status : Status) → Ends p request status → WantsMemory p request status
  wants_memory request status e is quiet = kept quiet request (subst (Ends p request) is e)

  -- all but four things follow from how a command ends
  pub promised : (request : Option ProgramRequest) (status : Status) → Ends p request status → TakesWithin p.before.link.source.taken p.after.link.source.taken → AsksFor p request → LeavesDoorAlone p request
      → Promise p request status
  promised request status e within asked door = record {
    ends = e;
    exact = exact_ends p request status e;
    words = refuses_words request status e;
    memory = wants_memory request status e;
    within = within;
    asked = asked;
    door = door;
  }

  nothing_asked : (request : Option ProgramRequest) → p.after.asked ≡ p.before.asked → AsksFor p request
  nothing_asked None same = same
  nothing_asked (Some (run schema load)) same = inl (inl same)
  nothing_asked (Some (gen number subs events)) same = same
  nothing_asked (Some (cover schema file name)) same = inl (inl same)
  nothing_asked (Some (drill schema load rounds files)) same = inl (inl same)
  nothing_asked (Some (serve schema load port seats links)) same = inl (inl same)
  nothing_asked (Some (heat schema rounds files)) same = inl (inl same)
  nothing_asked (Some (follow schema file)) same = inl (inl same)
  nothing_asked (Some (mirror schema port seats links)) same = inl (inl same)

  door_left : (request : Option ProgramRequest) → p.DoorKept → LeavesDoorAlone p request
  door_left None kept = kept
  door_left (Some (run schema load)) kept = kept
  door_left (Some (gen number subs events)) kept = kept
  door_left (Some (cover schema file name)) kept = kept
  door_left (Some (drill schema load rounds files)) kept = kept
  door_left (Some (serve schema load port seats links)) kept = tt
  door_left (Some (heat schema rounds files)) kept = kept
  door_left (Some (follow schema file)) kept = kept
  door_left (Some (mirror schema port seats links)) kept = tt

  nothing_ends : (request : Option ProgramRequest) → p.after.shelf ≡ p.before.shelf → p.InputKept → p.OutKept → p.after.door ≡ p.before.door → Ends p request NoMemory
  nothing_ends None quiet input out door = (inr refl, quiet, input, out)
  nothing_ends (Some (run schema load)) quiet input out door = (quiet, inl (input, out))
  nothing_ends (Some (gen number subs events)) quiet input out door = (quiet, input, inl out)
  nothing_ends (Some (cover schema file name)) quiet input out door = (input, (quiet, inl out))
  nothing_ends (Some (drill schema load rounds files)) quiet input out door = (input, (quiet, inl out))
  nothing_ends (Some (serve schema load port seats links)) quiet input out door = (input, (quiet, inl (out, door)))
  nothing_ends (Some (heat schema rounds files)) quiet input out door = (input, (quiet, inl out))
  nothing_ends (Some (follow schema file)) quiet input out door = (quiet, inl (input, out))
  nothing_ends (Some (mirror schema port seats links)) quiet input out door = (quiet, inl (input, out, door))

-- what the outside is told to be where nothing was done
abbrev still : {L : Type 0} → Moment L → (L → LinkState) → (InputKept OutKept DoorKept : Type 0) → Passage L
still m told I O D = record { before = m; after = m; told = told; InputKept = I; OutKept = O; DoorKept = D }

-- nothing was done, for want of memory
pub nothing_done : {L : Type 0} (m : Moment L) (told : L → LinkState) (I O D : Type 0) (request : Option ProgramRequest) → I → O → D → Promise (still m told I O D) request NoMemory
nothing_done m told I O D request i o d =
    let p = still m told I O D in
    promised p request NoMemory (nothing_ends p request refl i o refl) (none_taken m.link.source.taken) (nothing_asked p request refl) (door_left p request d)

-- the words have no reading
pub words_refused : {L : Type 0} (m : Moment L) (told : L → LinkState) (I O D : Type 0) → I → O → D → Promise (still m told I O D) None Words
words_refused m told I O D i o d = promised (still m told I O D) None Words (inl refl, refl, i, o) (none_taken m.link.source.taken) refl d
