-- How `mirror` ends: its schema is read, its links are served beside the feed, and what came of it is written.
use Rattle.std.proofs.Common.{◌≡◌, ◌⊎◌, inl, inr, ℕ, ◌<◌, Bool, List, Ok, Err, refl, sym, ap, subst, ◌∙◌, arith}
use Rattle.std.proofs.lemmas.List.Elements.{All-weaker}
use Rattle.be_base.specs.Counts.{raised}
use Rattle.be_base.specs.declared.limits.TheConstants.{SOURCE_BYTES}
use Rattle.be_base.specs.declared.names.SessionNo.{SessionNo}
use Rattle.be_change.specs.History.{Entry}
use Rattle.be_door.specs.Door.{DoorState}
use Rattle.be_door.specs.declared.sums.Sums.{Sums}
use Rattle.be_hub.specs.Files.{IsRead}
use Rattle.be_hub.specs.Serving.{AreFaultless, served_door}
use Rattle.be_hub.proofs.WereRead.{read_by, all_given, served_tried}
use Rattle.be_io.specs.Counts.{HasRisen, HasRisenBy}
use Rattle.be_io.specs.Outside.{LinkState}
use Rattle.be_mirror.specs.Serving.{FeedEnds, Mirrors, IsAhead, LinksAreRead, ReadLink, IsReadLink, list_terms}
use Rattle.be_mirror.specs.declared.feeding.FeedEnd.{FeedEnd}
use Rattle.be_mirror.specs.declared.feeding.FeedEnd.TheVariants as feed
use Rattle.be_mirror.specs.declared.serving.MirrorFault.{MirrorFault}
use Rattle.be_mirror.specs.declared.serving.MirrorFault.TheVariants as fault
use Rattle.be_model.specs.Schemas.{Attributes}
use Rattle.be_published.specs.declared.beyond.Beyond.{Beyond}
use Rattle.be_server.specs.declared.status.Status.{Status}
use Rattle.be_server.specs.declared.status.Status.TheVariants.{Done, Words, SchemaBad, LoadBad, FeedBad, NoMemory, ReadFault, LongFile, WriteFault, Spent, Split, Ahead, Stray, Shut}
use Rattle.be_server.specs.Files.{ToldFile, IsSchemaOf, LoadsSchema}
use Rattle.be_server.specs.Mirror.{mirror_text, Fails, Reflects, MirrorLinksWereRead, Mirrored, RunsMirror, MirrorRuns, AllKept, MirrorEnds, EndsMirror}
use Rattle.be_server.specs.Outside.{Passage}
use Rattle.be_server.specs.Serve.{AreQuiet}
use Rattle.be_server.specs.Status.{status_of_mirror}

module _ {L : Type 0} (told : L → LinkState) where
  were_read : (s : Attributes) (h : List Entry) (shuts : Bool) (links : ℕ) (sums : Sums) (keeps : Bool) (kept : List (SessionNo × L)) → (l : LinksAreRead told s h shuts links sums keeps kept) → AreFaultless sums
      → MirrorLinksWereRead links sums l.served
  were_read s h shuts links sums keeps kept l none =
      let all : sums.given ≡ links = all_given sums.given sums.failed links l.came_back.1 (λ some. absurd (omega (arith, l.failed some, none.0))) in
      record {
        given = all;
        back = l.came_back.0 ∙ all;
        each = All-weaker (IsReadLink s h shuts sums) (λ (x : ReadLink). IsRead x.end) (λ x k. read_by (list_terms s h shuts) sums x.link x.end k none) l.served l.each;
      }

  module _ (InputKept OutKept : Type 0) (s : Attributes) (port seats links : ℕ) (before after : LinkState) (door door' : DoorState L) where
    -- the links were served, and the line was printed so
    pub mirror_printed : (end : FeedEnd) (len : ℕ) (sums : Sums) (shuts : Bool) (status : Status) → Mirrors told s before.source after.source end len links shuts sums door'.keeps door'.kept
        → door' ≡ served_door door port links seats sums door'.kept → (OutKept × (status ≡ NoMemory)) ⊎ Reflects end sums shuts (mirror_text sums.given len) before.sink after.sink status
        → RunsMirror told InputKept OutKept s port seats links before after door door' status
    mirror_printed end len sums shuts status m is (inl kept) =
        subst (RunsMirror told InputKept OutKept s port seats links before after door door') (sym kept.1) (inl (kept.0, inr (served_tried door door' port links seats sums door'.kept is)))
    mirror_printed end len sums shuts status m is (inr r) = go status r
      where
        made : (x : Status) → Reflects end sums shuts (mirror_text sums.given len) before.sink after.sink x → (x ≡ Done → MirrorLinksWereRead links sums m.served.served) → Mirrored told s port seats links before after door door' x
        made x r done = record { end = end; len = len; sums = sums; shuts = shuts; mirrors = m; door_is = is; reflects = r; done = done }

        go : (x : Status) → Reflects end sums shuts (mirror_text sums.given len) before.sink after.sink x → RunsMirror told InputKept OutKept s port seats links before after door door' x
        go Done r = made Done r (λ _. were_read s m.fed.list shuts links sums door'.keeps door'.kept m.served r.1)
        go (Shut shade) r = made (Shut shade) r (λ no. absurd cc)
        go Spent r = made Spent r (λ no. absurd cc)
        go WriteFault r = made WriteFault r (λ no. absurd cc)
        go ReadFault r = inr (made ReadFault r (λ no. absurd cc))
        go (FeedBad line kind) r = made (FeedBad line kind) r (λ no. absurd cc)
        go NoMemory r = inr (made NoMemory r (λ no. absurd cc))
        go (Split rift) r = absurd r
        go (Ahead beyond) r = absurd r
        go (Stray stray) r = absurd r
        go Words r = absurd r
        go (SchemaBad line kind) r = absurd r
        go (LoadBad line kind) r = absurd r
        go LongFile r = absurd r

    -- nothing is printed
    pub mirror_failed : (x : MirrorFault) → OutKept → ((beyond : Beyond) → x ≡ fault.Ahead beyond → IsAhead s before.source after.source beyond) → Fails InputKept door door' port links seats x → RunsMirror told InputKept OutKept s port seats links before after door door' (status_of_mirror x)
    mirror_failed fault.Failed kept ahead f = inl (kept, f)
    mirror_failed (fault.Ahead beyond) kept ahead f = (kept, ahead beyond refl, f)
    mirror_failed fault.NoMemory kept ahead f = inl (kept, f)

    -- where no fault was counted, the run ended so
    pub mirror_quiet : (status : Status) → RunsMirror told InputKept OutKept s port seats links before after door door' status → (HasRisen before.source.faults after.source.faults → ⊥)
        → (HasRisenBy SOURCE_BYTES before.source.taken after.source.taken → ⊥) → AreQuiet door door' before.sink after.sink → EndsMirror status
    mirror_quiet status runs no_fault no_bytes quiet = go status runs
      where
        risen_by : (a b n : ℕ) → 0 < n → b ≡ raised n a → HasRisen a b
        risen_by a b n some is = omega (arith, some, is)

        reads : (x : Status) → (v : Mirrored told s port seats links before after door door' x) → 0 < v.sums.read_faults → ⊥
        reads x v some = quiet.reads (risen_by door.read_faults door'.read_faults v.sums.read_faults some (ap (λ (d : DoorState L). d.read_faults) v.door_is))

        writes : (x : Status) → (v : Mirrored told s port seats links before after door door' x) → 0 < v.sums.write_faults → ⊥
        writes x v some = quiet.writes (risen_by door.write_faults door'.write_faults v.sums.write_faults some (ap (λ (d : DoorState L). d.write_faults) v.door_is))

        ended : (x : Status) → (v : Mirrored told s port seats links before after door door' x) → (end : FeedEnd) → v.end ≡ end → FeedEnds before.source after.source end v.mirrors.fed
        ended x v end is = subst (λ (e : FeedEnd). FeedEnds before.source after.source e v.mirrors.fed) is v.mirrors.feeds.ends

        wrote : Mirrored told s port seats links before after door door' WriteFault → ⊥
        wrote v = elim v.reflects.2 [
          | inl w ↦ writes WriteFault v w.0
          | inr w ↦ quiet.sink w.1
        ]

        read : Mirrored told s port seats links before after door door' ReadFault → ⊥
        read v = elim v.reflects.1 [
          | inl is ↦ no_fault (ended ReadFault v feed.ReadFault is).1
          | inr some ↦ reads ReadFault v some
        ]

        spent : Mirrored told s port seats links before after door door' Spent → ⊥
        spent v = elim v.reflects.3 [
          | inl is ↦ no_bytes (ended Spent v feed.Spent is).1
          | inr most ↦ omega (arith, quiet.bytes, most, ap (λ (d : DoorState L). d.most) v.door_is)
        ]

        go : (x : Status) → RunsMirror told InputKept OutKept s port seats links before after door door' x → EndsMirror x
        go Done r = tt
        go NoMemory r = tt
        go (FeedBad line kind) r = tt
        go (Ahead beyond) r = tt
        go (Shut shade) r = tt
        go Spent r = absurd (spent r)
        go WriteFault r = absurd (wrote r)
        go ReadFault (inl f) = absurd (quiet.reads f.1.1.0)
        go ReadFault (inr v) = absurd (read v)
        go (Split rift) r = absurd r.reflects
        go (Stray stray) r = absurd r.reflects
        go Words r = absurd r.reflects
        go (SchemaBad line kind) r = absurd r.reflects
        go (LoadBad line kind) r = absurd r.reflects
        go LongFile r = absurd r.reflects

module _ {L : Type 0} (p : Passage L) (port seats links : ℕ) (file : ToldFile) where
  -- the schema was refused
  pub mirror_refused : (status : Status) → AllKept p port seats links file → LoadsSchema file p.before.shelf p.after.shelf (Err status) → MirrorEnds p port seats links file status
  mirror_refused ReadFault k l = inl (l, k)
  mirror_refused LongFile k l = (l.0, k, l.1)
  mirror_refused NoMemory k l = (l, inl k)
  mirror_refused (SchemaBad line kind) k l = (l.0, k, l.1)
  mirror_refused _ k l = absurd l

  -- the links were served
  pub links_mirrored : (s : Attributes) (status : Status) → p.after.shelf ≡ p.before.shelf → IsSchemaOf file s
      → RunsMirror p.told p.InputKept p.OutKept s port seats links p.before.link p.after.link p.before.door p.after.door status → MirrorEnds p port seats links file status
  links_mirrored s status quiet is runs = go status runs
    where
      go : (x : Status) → RunsMirror p.told p.InputKept p.OutKept s port seats links p.before.link p.after.link p.before.door p.after.door x → MirrorEnds p port seats links file x
      go ReadFault r = inr (quiet, (s, is, r))
      go NoMemory r = (quiet, inr (s, is, r))
      go Done r = (quiet, (s, is, r))
      go (FeedBad line kind) r = (quiet, (s, is, r))
      go (Ahead beyond) r = (quiet, (s, is, r))
      go (Shut shade) r = (quiet, (s, is, r))
      go Spent r = (quiet, (s, is, r))
      go WriteFault r = (quiet, (s, is, r))
      go (Split rift) r = absurd r.reflects
      go (Stray stray) r = absurd r.reflects
      go Words r = absurd r.reflects
      go (SchemaBad line kind) r = absurd r.reflects
      go (LoadBad line kind) r = absurd r.reflects
      go LongFile r = absurd r.reflects
