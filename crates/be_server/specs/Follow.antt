-- The promise of `follow`: which list it answers from, how it may end, and what was then read and written.
use Rattle.std.specs.Prelude.{◌≡◌, ℕ, ◌≤◌, ◌⊎◌, List, length, Some, None, Result, Ok, Err}
use Rattle.be_base.specs.declared.limits.TheConstants.{FILE_BYTES}
use Rattle.be_event.specs.declared.schema_texts.SchemaFault.TheVariants as schema
use Rattle.be_event.specs.SchemaTexts.{schema_of}
use Rattle.be_follow.specs.declared.faults.FeedKind.{FeedKind}
use Rattle.be_follow.specs.Feeds.{Fed, Means}
use Rattle.be_follow.specs.Followers.{FollowerState}
use Rattle.be_follow.specs.Reads.{ReadsEnd}
use Rattle.be_base.specs.Text.{Text}
use Rattle.be_io.specs.Counts.{HasRisen}
use Rattle.be_io.specs.Outside.{LinkState}
use Rattle.be_io.specs.Shelf.{HoldsFile}
use Rattle.be_model.specs.Schemas.{Attributes}
use Rattle.be_change.specs.History.{Entry}
use Rattle.be_protocol.specs.declared.ends.SessionEnd.{SessionEnd}
use Rattle.be_protocol.specs.declared.ends.SessionEnd.TheVariants as ends
use Rattle.be_server.specs.declared.status.Status.{Status}
use Rattle.be_server.specs.declared.status.Status.TheVariants.{Done, SchemaBad, FeedBad, NoMemory, ReadFault, LongFile, WriteFault, Spent}
use Rattle.be_server.specs.Files.{ToldFile, FileReads, FileIsLong, IsSchemaOf}
use Rattle.be_server.specs.Outside.{Passage}

-- the files of `follow`: a schema, and captured replies of TAIL
pub record FollowFiles : Type 0 where
  pub schema : ToldFile
  pub feed : ToldFile

abbrev pub follow_files : (Text → ToldFile) → Text → Text → FollowFiles
follow_files content schema feed = record { schema = content schema; feed = content feed }

-- the file is within the limit, and this has come of its bytes
abbrev pub HasCome : Attributes → ToldFile → (Fed → Type 0) → Type 0
HasCome s file P = HoldsFile file (λ bytes. (length bytes ≤ FILE_BYTES) × (f : Fed) × Means s bytes f × P f)

-- the list that the file gives without a fault
abbrev pub IsListOf : Attributes → ToldFile → List Entry → Type 0
IsListOf s file h = HasCome s file (λ f. (f.fault ≡ None) × (f.list ≡ h))

-- the first fault of the feed. The schema has none
abbrev pub FeedIsBad : FollowFiles → ℕ → FeedKind → Type 0
FeedIsBad files line kind =
    (s : Attributes) × IsSchemaOf files.schema s × HasCome s files.feed (λ f. (f.fault ≡ Some kind) × (f.lines ≡ line))

-- a file that was read is over the limit
abbrev pub FeedIsLong : FollowFiles → Type 0
FeedIsLong files = FileIsLong files.schema ⊎ ((s : Attributes) × IsSchemaOf files.schema s × FileIsLong files.feed)

-- lines were answered from the list of these files, and that ended so
pub record FollowedWith (Untouched : Type 0) (files : FollowFiles) (before after : LinkState) (end : SessionEnd) : Type 0 where
  pub schema : Attributes
  pub is_schema : IsSchemaOf files.schema schema
  pub list : List Entry
  pub is_list : IsListOf schema files.feed list
  pub ends : ReadsEnd Untouched schema list before after end

-- how it may end
module _ {L : Type 0} (p : Passage L) (files : FollowFiles) where
  abbrev pub FollowServes : SessionEnd → Type 0
  FollowServes end = FollowedWith (p.InputKept × p.OutKept) files p.before.link p.after.link end

  abbrev pub FollowEnds : Status → Type 0
  FollowEnds Done = (p.after.shelf ≡ p.before.shelf) × (FollowServes ends.Eof ⊎ FollowServes ends.Quit)
  FollowEnds (SchemaBad line kind) =
      (p.after.shelf ≡ p.before.shelf) × (p.InputKept × p.OutKept) × FileReads schema_of files.schema (Err (schema.Line line kind))
  FollowEnds (FeedBad line kind) = (p.after.shelf ≡ p.before.shelf) × (p.InputKept × p.OutKept) × FeedIsBad files line kind
  FollowEnds LongFile = (p.after.shelf ≡ p.before.shelf) × (p.InputKept × p.OutKept) × FeedIsLong files
  FollowEnds ReadFault = (HasRisen p.before.shelf p.after.shelf × p.InputKept × p.OutKept) ⊎ ((p.after.shelf ≡ p.before.shelf) × FollowServes ends.ReadFault)
  FollowEnds WriteFault = (p.after.shelf ≡ p.before.shelf) × FollowServes ends.WriteFault
  FollowEnds Spent = (p.after.shelf ≡ p.before.shelf) × FollowServes ends.Spent
  FollowEnds NoMemory = (p.after.shelf ≡ p.before.shelf) × ((p.InputKept × p.OutKept) ⊎ FollowServes ends.NoMemory)
  FollowEnds _ = ⊥

-- what came of the files, or why they are nothing: the schema is judged before the feed is asked for
abbrev pub LoadsFeed : FollowFiles → ℕ → ℕ → Result FollowerState Status → Type 0
LoadsFeed files faults faults' (Ok f) = (faults' ≡ faults) × IsSchemaOf files.schema f.schema × IsListOf f.schema files.feed f.fed.list
LoadsFeed files faults faults' (Err ReadFault) = HasRisen faults faults'
LoadsFeed files faults faults' (Err LongFile) = (faults' ≡ faults) × FeedIsLong files
LoadsFeed files faults faults' (Err NoMemory) = faults' ≡ faults
LoadsFeed files faults faults' (Err (SchemaBad line kind)) = (faults' ≡ faults) × FileReads schema_of files.schema (Err (schema.Line line kind))
LoadsFeed files faults faults' (Err (FeedBad line kind)) = (faults' ≡ faults) × FeedIsBad files line kind
LoadsFeed files faults faults' (Err _) = ⊥

-- a new follower was fed these bytes, in this schema
abbrev pub HasFed : Attributes → List ℕ → Result FollowerState Status → Type 0
HasFed s bytes (Ok f) = (f.schema ≡ s) × Means s bytes f.fed × (f.fed.fault ≡ None)
HasFed s bytes (Err (FeedBad line kind)) = (f : Fed) × Means s bytes f × (f.fault ≡ Some kind) × (f.lines ≡ line)
HasFed s bytes (Err NoMemory) = Unit {0}
HasFed s bytes (Err _) = ⊥

-- what came of the feed, or why it is nothing
abbrev pub LoadsFollower : Attributes → ToldFile → ℕ → ℕ → Result FollowerState Status → Type 0
LoadsFollower s file faults faults' (Ok f) = (faults' ≡ faults) × (f.schema ≡ s) × IsListOf s file f.fed.list
LoadsFollower s file faults faults' (Err ReadFault) = HasRisen faults faults'
LoadsFollower s file faults faults' (Err LongFile) = (faults' ≡ faults) × FileIsLong file
LoadsFollower s file faults faults' (Err NoMemory) = faults' ≡ faults
LoadsFollower s file faults faults' (Err (FeedBad line kind)) = (faults' ≡ faults) × HasCome s file (λ f. (f.fault ≡ Some kind) × (f.lines ≡ line))
LoadsFollower s file faults faults' (Err _) = ⊥
