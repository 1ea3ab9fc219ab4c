-- How `follow` ends, once its files were read and its input was answered.
use Rattle.std.proofs.Common.{◌≡◌, inl, inr, ℕ, ◌≤◌, ◌++◌, [], true, List, length, Some, None, is_some, Result, Ok, Err, refl, sym, ap, subst, ◌∙◌}
use Rattle.be_io.specs.Outside.{LinkState}
use Rattle.be_model.specs.Schemas.{Attributes}
use Rattle.be_change.specs.History.{Entry}
use Rattle.be_base.specs.declared.limits.TheConstants.{FILE_BYTES}
use Rattle.be_base.specs.Text.{Text}
use Rattle.be_io.specs.Shelf.{HoldsFile, CountsFault}
use Rattle.be_io.specs.declared.faults.ShelfFault.{ShelfFault}
use Rattle.be_io.specs.declared.faults.ShelfFault.TheVariants as shelf
use Rattle.be_follow.specs.declared.faults.FeedFault.{FeedFault}
use Rattle.be_follow.specs.declared.faults.FeedFault.TheVariants as feed
use Rattle.be_follow.specs.Feeds.{Fed, Means}
use Rattle.be_follow.specs.Followers.{FollowerState, new_follower, Follows, taken_of, Tells}
use Rattle.be_follow.specs.Reads.{ReadsEnd}
use Rattle.be_protocol.specs.declared.ends.SessionEnd.{SessionEnd}
use Rattle.be_protocol.specs.declared.ends.SessionEnd.TheVariants as ends
use Rattle.be_server.specs.declared.status.Status.{Status}
use Rattle.be_server.specs.declared.status.Status.TheVariants.{Done, SchemaBad, FeedBad, NoMemory, ReadFault, LongFile, WriteFault, Spent}
use Rattle.be_server.specs.Files.{ToldFile, FileIsLong, IsSchemaOf, LoadsSchema}
use Rattle.be_server.specs.Follow.{FollowFiles, follow_files, HasCome, IsListOf, FollowServes, FollowEnds, LoadsFeed, LoadsFollower, HasFed}
use Rattle.be_server.specs.Outside.{Passage}
use Rattle.be_server.specs.Status.{status_of, status_of_shelf, status_of_feed}

-- it has a status
pub follow_status : (U : Type 0) (s : Attributes) (h : List Entry) (before after : LinkState) (end : SessionEnd) → ReadsEnd U s h before after end → is_some (status_of end) ≡ true
follow_status U s h before after ends.Eof r = refl
follow_status U s h before after ends.Quit r = refl
follow_status U s h before after ends.ReadFault r = refl
follow_status U s h before after ends.WriteFault r = refl
follow_status U s h before after ends.Spent r = refl
follow_status U s h before after ends.NoMemory r = refl
follow_status U s h before after (ends.Split seen written) r = absurd r

module _ {L : Type 0} (p : Passage L) (files : FollowFiles) where
  -- the input was answered
  pub follow_ended : (s : Attributes) (h : List Entry) (end : SessionEnd) (status : Status) → p.after.shelf ≡ p.before.shelf → IsSchemaOf files.schema s → IsListOf s files.feed h
      → ReadsEnd (p.InputKept × p.OutKept) s h p.before.link p.after.link end → status_of end ≡ Some status → FollowEnds p files status
  follow_ended s h end status quiet is_schema is_list r is = by_end end r is
    where
      followed_so : (e : SessionEnd) → ReadsEnd (p.InputKept × p.OutKept) s h p.before.link p.after.link e → FollowServes p files e
      followed_so e k = record { schema = s; is_schema = is_schema; list = h; is_list = is_list; ends = k }

      so : (t : Status) → Some t ≡ Some status → FollowEnds p files t → FollowEnds p files status
      so t same e = let one : t ≡ status = cc in subst (FollowEnds p files) one e

      by_end : (e : SessionEnd) → ReadsEnd (p.InputKept × p.OutKept) s h p.before.link p.after.link e → status_of e ≡ Some status → FollowEnds p files status
      by_end ends.Eof k is = so Done is (quiet, inl (followed_so ends.Eof k))
      by_end ends.Quit k is = so Done is (quiet, inr (followed_so ends.Quit k))
      by_end ends.ReadFault k is = so ReadFault is (inr (quiet, followed_so ends.ReadFault k))
      by_end ends.WriteFault k is = so WriteFault is (quiet, followed_so ends.WriteFault k)
      by_end ends.Spent k is = so Spent is (quiet, followed_so ends.Spent k)
      by_end ends.NoMemory k is = so NoMemory is (quiet, inr (followed_so ends.NoMemory k))
      by_end (ends.Split seen written) k is = absurd k

  -- the files were refused
  pub follow_refused : (status : Status) → p.InputKept × p.OutKept → LoadsFeed files p.before.shelf p.after.shelf (Err status) → FollowEnds p files status
  follow_refused ReadFault u l = inl (l, u.0, u.1)
  follow_refused LongFile u l = (l.0, u, l.1)
  follow_refused NoMemory u l = (l, inl u)
  follow_refused (SchemaBad line kind) u l = (l.0, u, l.1)
  follow_refused (FeedBad line kind) u l = (l.0, u, l.1)
  follow_refused _ u l = absurd l

-- there is no schema
pub schema_refused : (content : Text → ToldFile) (schema file : Text) (f f' : ℕ) (status : Status) → LoadsSchema (content schema) f f' (Err status) → LoadsFeed (follow_files content schema file) f f' (Err status)
schema_refused content schema file f f' ReadFault l = l
schema_refused content schema file f f' LongFile l = (l.0, inl l.1)
schema_refused content schema file f f' NoMemory l = l
schema_refused content schema file f f' (SchemaBad line kind) l = l
schema_refused content schema file f f' _ l = absurd l

-- the schema is good
pub feed_loaded : (content : Text → ToldFile) (schema file : Text) (told : ToldFile) (f f' f'' : ℕ) (s : Attributes) (result : Result FollowerState Status) → told ≡ content file → f' ≡ f → IsSchemaOf (content schema) s
    → LoadsFollower s told f' f'' result → LoadsFeed (follow_files content schema file) f f'' result
feed_loaded content schema file told f f' f'' s result same quiet is l =
    loaded result (subst (λ (x : ℕ). LoadsFollower s (content file) x f'' result) quiet (subst (λ (x : ToldFile). LoadsFollower s x f' f'' result) same l))
  where
    loaded : (r : Result FollowerState Status) → LoadsFollower s (content file) f f'' r → LoadsFeed (follow_files content schema file) f f'' r
    loaded (Ok g) l =
        (l.0, subst (λ (x : Attributes). IsSchemaOf (content schema) x) (sym l.1) is, subst (λ (x : Attributes). IsListOf x (content file) g.fed.list) (sym l.1) l.2)
    loaded (Err ReadFault) l = l
    loaded (Err LongFile) l = (l.0, inr (s, is, l.1))
    loaded (Err NoMemory) l = l
    loaded (Err (FeedBad line kind)) l = (l.0, (s, is, l.1))
    loaded (Err _) l = absurd l

-- the feed wasn't read
pub feed_refused : {T : Type 0} (s : Attributes) (file : ToldFile) (f f' : ℕ) (r : Result T ShelfFault) (fault : ShelfFault) → r ≡ Err fault → CountsFault r f f' → (r ≡ Err shelf.Long → FileIsLong file)
    → LoadsFollower s file f f' (Err (status_of_shelf fault))
feed_refused {T} s file f f' r fault is counts long = by_answer r is counts long
  where
    so : (g : ShelfFault) → g ≡ fault → LoadsFollower s file f f' (Err (status_of_shelf g)) → LoadsFollower s file f f' (Err (status_of_shelf fault))
    so g same l = subst (λ (x : ShelfFault). LoadsFollower s file f f' (Err (status_of_shelf x))) same l

    by_answer : (r : Result T ShelfFault) → r ≡ Err fault → CountsFault r f f' → (r ≡ Err shelf.Long → FileIsLong file) → LoadsFollower s file f f' (Err (status_of_shelf fault))
    by_answer (Ok bytes) is counts long = absurd (cc)
    by_answer (Err shelf.Failed) is counts long = so shelf.Failed (cc) counts
    by_answer (Err shelf.Long) is counts long = so shelf.Long (cc) (counts, long refl)
    by_answer (Err shelf.NoMemory) is counts long = so shelf.NoMemory (cc) counts

-- what came of a whole file that was fed to a new follower
came : (s : Attributes) (file : ToldFile) (items : List ℕ) (f : Fed) (P : Fed → Type 0) → HoldsFile file (λ bytes. items ≡ bytes) → length items ≤ FILE_BYTES → Means s items f → P f → HasCome s file P
came s None items f P holds short means p = tt
came s (Some None) items f P holds short means p = absurd holds
came s (Some (Some bytes)) items f P holds short means p =
    (subst (λ (x : List ℕ). length x ≤ FILE_BYTES) holds short, f, subst (λ (x : List ℕ). Means s x f) holds means, p)

-- the feed was read
pub feed_came : (s : Attributes) (file : ToldFile) (f f' : ℕ) (items : List ℕ) (result : Result FollowerState Status) → f' ≡ f → HoldsFile file (λ bytes. items ≡ bytes) → length items ≤ FILE_BYTES
    → HasFed s items result → LoadsFollower s file f f' result
feed_came s file f f' items (Ok g) quiet holds short h =
    (quiet, h.0, came s file items g.fed (λ k. (k.fault ≡ None) × (k.list ≡ g.fed.list)) holds short h.1 (h.2, refl))
feed_came s file f f' items (Err NoMemory) quiet holds short h = quiet
feed_came s file f f' items (Err (FeedBad line kind)) quiet holds short h =
    (quiet, came s file items h.0 (λ k. (k.fault ≡ Some kind) × (k.lines ≡ line)) holds short h.1 (h.2, h.3))
feed_came s file f f' items (Err _) quiet holds short h = absurd h

-- all of it was taken by a new follower
pub fed_whole : (s : Attributes) (items : List ℕ) (old new : FollowerState) → old ≡ new_follower s → Follows [] old → ((bytes : List ℕ) → Follows bytes old → Follows (bytes ++ items) new) → new.schema ≡ old.schema → new.fed.fault ≡ None
    → HasFed s items (Ok new)
fed_whole s items old new is empty took same sound =
    let schema : new.schema ≡ s = same ∙ ap (λ (x : FollowerState). x.schema) is in
    (schema, subst (λ (x : Attributes). Means x items new.fed) schema (took [] empty).means, sound)

-- it was taken up to a fault
pub fed_fault : (s : Attributes) (items : List ℕ) (old new : FollowerState) (fault : FeedFault) → old ≡ new_follower s → Follows [] old
    → ((bytes : List ℕ) → Follows bytes old → Follows (bytes ++ taken_of items (Err fault)) new) → new.schema ≡ old.schema → Tells new.fed items (Err fault) → HasFed s items (Err (status_of_feed fault))
fed_fault s items old new (feed.Bad line kind) is empty took same tells =
    let schema : new.schema ≡ s = same ∙ ap (λ (x : FollowerState). x.schema) is in
    (new.fed, subst (λ (x : Attributes). Means x items new.fed) schema (took [] empty).means, tells.0, sym tells.1)
fed_fault s items old new (feed.NoMemory taken) is empty took same tells = tt
