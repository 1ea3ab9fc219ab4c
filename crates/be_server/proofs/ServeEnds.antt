-- How `serve` ends: its files are read, its links are served, and what came of it is written.
use Rattle.std.proofs.Common.{◌≡◌, ◌⊎◌, inl, inr, ℕ, ◌<◌, Bool, List, Ok, Err, sym, ap, subst, arith}
use Rattle.be_change.specs.History.{Entry}
use Rattle.be_change.specs.Opening.{opening_of}
use Rattle.be_base.specs.Counts.{raised}
use Rattle.be_door.specs.Door.{DoorState, after_try}
use Rattle.be_door.specs.declared.sums.Sums.{Sums}
use Rattle.be_hub.specs.Serving.{LinksAreServed, WereRead, served_door}
use Rattle.be_hub.proofs.WereRead.{were_read, served_tried}
use Rattle.be_io.specs.Counts.{HasRisen}
use Rattle.be_io.specs.Outside.{LinkState}
use Rattle.be_io.specs.Sink.{SinkState}
use Rattle.be_io.specs.declared.faults.SinkFault.TheVariants as sink
use Rattle.be_model.specs.declared.changes.Row.{Row}
use Rattle.be_model.specs.Schemas.{Attributes}
use Rattle.be_server.specs.Output.{WroteOut}
use Rattle.be_server.specs.declared.status.Status.{Status}
use Rattle.be_server.specs.declared.status.Status.TheVariants.{Done, Words, SchemaBad, LoadBad, FeedBad, NoMemory, ReadFault, LongFile, WriteFault, Spent, Split, Ahead, Stray, Shut}
use Rattle.be_server.specs.Serve.{Logs, Served, RunsServe, ServeRuns, OutAndDoorKept, ServeEnds, serve_text, AreQuiet, EndsServe}
use Rattle.be_server.specs.Files.{RunFiles, IsSchemaOf, AreRowsOf, LoadsRun}
use Rattle.be_server.specs.Outside.{Passage}

module _ {L : Type 0} (told : L → LinkState) (Kept : Type 0) (port seats links : ℕ) (door door' : DoorState L) (before after : SinkState) where
  -- the list was given, and printed so
  pub serve_printed : (s : Attributes) (rows : List Row) (list : List Entry) (sums : Sums) (shuts : Bool) (status : Status) → LinksAreServed told s (opening_of rows) list shuts seats links sums door'.keeps door'.kept
      → door' ≡ served_door door port links seats sums door'.kept → (Kept × (status ≡ NoMemory)) ⊎ Logs s list sums shuts before after status
      → RunsServe told Kept s rows port seats links door door' before after status
  serve_printed s rows list sums shuts status served is (inl kept) =
      subst (RunsServe told Kept s rows port seats links door door' before after) (sym kept.1) (inl (kept.0, inr (served_tried door door' port links seats sums door'.kept is)))
  serve_printed s rows list sums shuts status served is (inr logs) = go status logs
    where
      made : (x : Status) → Logs s list sums shuts before after x → (x ≡ Done → WereRead links sums served.served) → Served told s rows port seats links door door' before after x
      made x l done = record { list = list; sums = sums; shuts = shuts; served = served; door_is = is; logs = l; done = done }

      go : (x : Status) → Logs s list sums shuts before after x → RunsServe told Kept s rows port seats links door door' before after x
      go Done l = made Done l (λ _. were_read told s (opening_of rows) list shuts seats links sums door'.keeps door'.kept served l.1 l.0)
      go (Shut shade) l = made (Shut shade) l (λ no. absurd cc)
      go Spent l = made Spent l (λ no. absurd cc)
      go WriteFault l = made WriteFault l (λ no. absurd cc)
      go ReadFault l = inr (made ReadFault l (λ no. absurd cc))
      go NoMemory l = inr (made NoMemory l (λ no. absurd cc))
      go (Split rift) l = absurd l
      go (Stray stray) l = absurd l
      go (Ahead beyond) l = absurd l
      go Words l = absurd l
      go (SchemaBad line kind) l = absurd l
      go (LoadBad line kind) l = absurd l
      go (FeedBad line kind) l = absurd l
      go LongFile l = absurd l

module _ {L : Type 0} (p : Passage L) (port seats links : ℕ) (files : RunFiles) where
  -- the files were refused
  pub serve_refused : (status : Status) → OutAndDoorKept p port seats links files → LoadsRun files p.before.shelf p.after.shelf (Err status) → ServeEnds p port seats links files status
  serve_refused ReadFault k l = inl (l, k)
  serve_refused LongFile k l = (l.0, k, l.1)
  serve_refused NoMemory k l = (l, inl k)
  serve_refused (SchemaBad line kind) k l = (l.0, k, l.1)
  serve_refused (LoadBad line kind) k l = (l.0, k, l.1)
  serve_refused _ k l = absurd l

  -- the links were served
  pub links_served : (s : Attributes) (rows : List Row) (status : Status) → p.after.shelf ≡ p.before.shelf → IsSchemaOf files.schema s → AreRowsOf s files.load rows
      → RunsServe p.told p.OutKept s rows port seats links p.before.door p.after.door p.before.link.sink p.after.link.sink status → ServeEnds p port seats links files status
  links_served s rows status quiet is are runs = go status runs
    where
      ran : (x : Status) → RunsServe p.told p.OutKept s rows port seats links p.before.door p.after.door p.before.link.sink p.after.link.sink x → ServeRuns p port seats links files x
      ran x r = record { schema = s; rows = rows; is_schema = is; are_rows = are; runs = r }

      go : (x : Status) → RunsServe p.told p.OutKept s rows port seats links p.before.door p.after.door p.before.link.sink p.after.link.sink x → ServeEnds p port seats links files x
      go Done r = (quiet, ran Done r)
      go (Shut shade) r = (quiet, ran (Shut shade) r)
      go Spent r = (quiet, ran Spent r)
      go WriteFault r = (quiet, ran WriteFault r)
      go ReadFault r = inr (quiet, ran ReadFault r)
      go NoMemory r = (quiet, inr (ran NoMemory r))
      go (Split rift) r = (quiet, ran (Split rift) r)
      go (Stray stray) r = (quiet, ran (Stray stray) r)
      go _ r = absurd r

risen_by : (a b n : ℕ) → 0 < n → b ≡ raised n a → HasRisen a b
risen_by a b n some is = omega (arith, some, is)

-- where no fault was counted, the sessions ended so
pub serve_quiet : {L : Type 0} (told : L → LinkState) (Kept : Type 0) (s : Attributes) (rows : List Row) (port seats links : ℕ) (door door' : DoorState L) (before after : SinkState) (status : Status)
    → RunsServe told Kept s rows port seats links door door' before after status → AreQuiet door door' before after → EndsServe status
serve_quiet {L} told K s rows port seats links door door' before after status runs quiet = go status runs
  where
    reads : (x : Status) → (v : Served told s rows port seats links door door' before after x) → 0 < v.sums.read_faults → ⊥
    reads x v some = quiet.reads (risen_by door.read_faults door'.read_faults v.sums.read_faults some (ap (λ (d : DoorState L). d.read_faults) v.door_is))

    writes : (x : Status) → (v : Served told s rows port seats links door door' before after x) → 0 < v.sums.write_faults → ⊥
    writes x v some = quiet.writes (risen_by door.write_faults door'.write_faults v.sums.write_faults some (ap (λ (d : DoorState L). d.write_faults) v.door_is))

    wrote : (v : Served told s rows port seats links door door' before after WriteFault)
        → ((0 < v.sums.write_faults) × WroteOut before after (serve_text s v.sums.given v.list) (Ok tt)) ⊎ WroteOut before after (serve_text s v.sums.given v.list) (Err sink.Failed) → ⊥
    wrote v (inl w) = writes WriteFault v w.0
    wrote v (inr w) = quiet.sink w.1

    read : (K × HasRisen door.read_faults door'.read_faults × (door' ≡ record (after_try door port) { read_faults = door'.read_faults }))
        ⊎ Served told s rows port seats links door door' before after ReadFault → ⊥
    read (inl f) = quiet.reads f.1
    read (inr v) = reads ReadFault v v.logs.0

    go : (x : Status) → RunsServe told K s rows port seats links door door' before after x → EndsServe x
    go Done r = tt
    go NoMemory r = tt
    go (Split rift) r = tt
    go (Stray stray) r = tt
    go (Shut shade) r = tt
    go Spent r = absurd (omega (arith, quiet.bytes, r.logs.2, ap (λ (d : DoorState L). d.most) r.door_is))
    go WriteFault r = absurd (wrote r r.logs.1)
    go ReadFault r = absurd (read r)
    go (Ahead beyond) r = absurd r
    go Words r = absurd r
    go (SchemaBad line kind) r = absurd r
    go (LoadBad line kind) r = absurd r
    go (FeedBad line kind) r = absurd r
    go LongFile r = absurd r
