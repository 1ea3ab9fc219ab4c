-- What the files of a follower hold decides the status.
use Rattle.std.proofs.Common.{◌≡◌, inl, inr, ℕ, ◌<◌, ◌≤◌, List, length, Option, Some, None, Ok, Err, refl, sym, subst, ◌∙◌}
use Rattle.be_base.specs.declared.limits.TheConstants.{FILE_BYTES}
use Rattle.be_change.specs.History.{Entry}
use Rattle.be_event.specs.declared.schema_texts.SchemaFault.TheVariants as schema
use Rattle.be_event.specs.declared.schema_texts.SchemaKind.{SchemaKind}
use Rattle.be_event.specs.SchemaTexts.{schema_of}
use Rattle.be_follow.specs.Feeds.{Fed, Means}
use Rattle.be_follow.specs.declared.faults.FeedKind.{FeedKind}
use Rattle.be_follow.proofs.OneMeaning.{feeds_mean_one}
use Rattle.be_model.specs.Schemas.{Attributes}
use Rattle.be_server.specs.declared.status.Status.{Status}
use Rattle.be_server.specs.declared.status.Status.TheVariants.{Done, Words, SchemaBad, LoadBad, FeedBad, NoMemory, ReadFault, LongFile, WriteFault, Spent, Split, Ahead, Stray, Shut}
use Rattle.be_server.specs.Exact.{FileIsRefused, ToldAs, SchemaDecides, FeedDecides, FollowIsExact, ToldFed, AllIsDone}
use Rattle.be_server.specs.Files.{ToldFile, FileReads, FileIsLong, IsSchemaOf}
use Rattle.be_server.specs.Follow.{FollowFiles, FollowEnds, HasCome, IsListOf, FeedIsBad, FeedIsLong}
use Rattle.be_server.specs.Outside.{Passage}
use Rattle.be_server.proofs.ToldFiles.{told, gone, too_long, one_reading, not_long, not_gone, not_short, long_stays, same_schema, schema_good}

-- one thing comes of a feed
one_fed : (s : Attributes) (file : ToldFile) (P : Fed → Type 0) → HasCome s file P → (f : Fed) → ToldFed s file f → P f
one_fed s file P has f t = go (told file t.0 (λ bytes. (length bytes ≤ FILE_BYTES) × (g : Fed) × Means s bytes g × P g) t.1 has)
  where
    go : (length t.0 ≤ FILE_BYTES) × (g : Fed) × Means s t.0 g × P g → P f
    go (short, g, means, p) = subst P (feeds_mean_one s t.0 g f means t.3) p

fed_is_short : (s : Attributes) (file : ToldFile) (P : Fed → Type 0) → HasCome s file P → (text : List ℕ) → file ≡ Some (Some text) → length text ≤ FILE_BYTES
fed_is_short s file P has text is = (told file text (λ bytes. (length bytes ≤ FILE_BYTES) × (g : Fed) × Means s bytes g × P g) is has).0

fed_is_there : (s : Attributes) (file : ToldFile) (P : Fed → Type 0) → HasCome s file P → file ≡ Some None → ⊥
fed_is_there s file P has none = gone file (λ bytes. (length bytes ≤ FILE_BYTES) × (g : Fed) × Means s bytes g × P g) none has

some_none : (o : Option FeedKind) (kind : FeedKind) → o ≡ Some kind → o ≡ None → ⊥
some_none o kind some none = let clash : Some kind ≡ None = sym some ∙ none in absurd cc

-- the feed is good
feed_good : (s : Attributes) (file : ToldFile) (h : List Entry) {L : Type 0} (p : Passage L) (status : Status) → IsListOf s file h → FeedDecides s file p status
feed_good s file h p status is = record {
  bad = λ f kind t some. absurd (some_none f.fault kind some (one_fed s file (λ g. (g.fault ≡ None) × (g.list ≡ h)) is f t).0);
  long = λ l. absurd (too_long l.0 (fed_is_short s file (λ g. (g.fault ≡ None) × (g.list ≡ h)) is l.0 l.1) l.2);
  missing = λ none. absurd (fed_is_there s file (λ g. (g.fault ≡ None) × (g.list ≡ h)) is none);
}

-- the feed has its first fault there
feed_bad : (s : Attributes) (file : ToldFile) (line : ℕ) (kind : FeedKind) {L : Type 0} (p : Passage L) → HasCome s file (λ f. (f.fault ≡ Some kind) × (f.lines ≡ line)) → FeedDecides s file p (FeedBad line kind)
feed_bad s file line kind p has = record {
  bad = λ f k t some.
      let one = one_fed s file (λ g. (g.fault ≡ Some kind) × (g.lines ≡ line)) has f t in
      let same : Some k ≡ Some kind = sym some ∙ one.0 in
      let lines : f.lines ≡ line = one.1 in
      inl cc;
  long = λ l. absurd (too_long l.0 (fed_is_short s file (λ g. (g.fault ≡ Some kind) × (g.lines ≡ line)) has l.0 l.1) l.2);
  missing = λ none. absurd (fed_is_there s file (λ g. (g.fault ≡ Some kind) × (g.lines ≡ line)) has none);
}

-- the feed is over the limit
feed_long : (s : Attributes) (file : ToldFile) {L : Type 0} (p : Passage L) → FileIsLong file → FeedDecides s file p LongFile
feed_long s file p long = record {
  bad = λ f kind t some. absurd (too_long t.0 t.2 (told file t.0 (λ x. FILE_BYTES < length x) t.1 long));
  long = λ l. inl refl;
  missing = λ none. absurd (long_stays file long none);
}

-- memory was wanting, or the shelf failed
pub follow_refused : {Due : Type 0} (files : FollowFiles) {L : Type 0} (p : Passage L) (status : Status) → FileIsRefused p status → Due → FollowIsExact files p status Due
follow_refused files p status refused due = record {
  schema = record { bad = λ line kind t. inr refused; long = λ t. inr refused; missing = λ none. refused };
  feed = λ s good. record { bad = λ f kind t some. inr refused; long = λ t. inr refused; missing = λ none. refused };
  good = λ s f good t none. due;
}

-- behind a good schema the feed decides so
follow_behind : {Due : Type 0} (files : FollowFiles) {L : Type 0} (p : Passage L) (status : Status) (s : Attributes) → IsSchemaOf files.schema s → FeedDecides s files.feed p status
    → ((f : Fed) → ToldFed s files.feed f → f.fault ≡ None → Due) → FollowIsExact files p status Due
follow_behind files p status s is decides due = record {
  schema = schema_good files.schema s p status is.1;
  feed = λ t good. subst (λ (x : Attributes). FeedDecides x files.feed p status) (same_schema files.schema s t is.1 good) decides;
  good = λ t f good fed none. due f (subst (λ (x : Attributes). ToldFed x files.feed f) (sym (same_schema files.schema s t is.1 good)) fed) none;
}

-- the schema is no schema
follow_schema : {Due : Type 0} (files : FollowFiles) {L : Type 0} (p : Passage L) (status : Status) → ((s : Attributes) → ToldAs schema_of files.schema (Ok s) → ⊥) → SchemaDecides files.schema p status
    → FollowIsExact files p status Due
follow_schema files p status never decides = record {
  schema = decides;
  feed = λ s good. absurd (never s good);
  good = λ s f good t none. absurd (never s good);
}

schema_bad : (file : ToldFile) (l : ℕ) (k : SchemaKind) {L : Type 0} (p : Passage L) → FileReads schema_of file (Err (schema.Line l k)) → SchemaDecides file p (SchemaBad l k)
schema_bad file l k p f = record {
  bad = λ line kind t. let same : Err (schema.Line l k) ≡ Err (schema.Line line kind) = one_reading schema_of file (Err (schema.Line l k)) (Err (schema.Line line kind)) f t in inl cc;
  long = λ t. absurd (not_long schema_of file (Err (schema.Line l k)) f t);
  missing = λ none. absurd (not_gone schema_of file (Err (schema.Line l k)) f none);
}

schema_long : (file : ToldFile) {L : Type 0} (p : Passage L) → FileIsLong file → SchemaDecides file p LongFile
schema_long file p f = record {
  bad = λ line kind t. absurd (not_short schema_of file (Err (schema.Line line kind)) f t);
  long = λ t. inl refl;
  missing = λ none. absurd (long_stays file f none);
}

never_ok : (file : ToldFile) (l : ℕ) (k : SchemaKind) → FileReads schema_of file (Err (schema.Line l k)) → (s : Attributes) → ToldAs schema_of file (Ok s) → ⊥
never_ok file l k f s good = let clash : Err (schema.Line l k) ≡ Ok s = one_reading schema_of file (Err (schema.Line l k)) (Ok s) f good in absurd cc

module _ {L : Type 0} (p : Passage L) (files : FollowFiles) where
  abbrev Exactly : Status → Type 0
  Exactly status = FollowIsExact files p status (AllIsDone p status)

  followed : (status : Status) (s : Attributes) (h : List Entry) → IsSchemaOf files.schema s → IsListOf s files.feed h → AllIsDone p status → Exactly status
  followed status s h is list due = follow_behind files p status s is (feed_good s files.feed h p status list) (λ f t none. due)

  long : FeedIsLong files → Exactly LongFile
  long (inl f) = follow_schema files p LongFile (λ s good. not_short schema_of files.schema (Ok s) f good) (schema_long files.schema p f)
  long (inr (s, is, f)) =
      follow_behind files p LongFile s is (feed_long s files.feed p f)
      (λ g t none. absurd (too_long t.0 t.2 (told files.feed t.0 (λ x. FILE_BYTES < length x) t.1 f)))

  feed_fault : (line : ℕ) (kind : FeedKind) → FeedIsBad files line kind → Exactly (FeedBad line kind)
  feed_fault line kind (s, is, has) =
      follow_behind files p (FeedBad line kind) s is (feed_bad s files.feed line kind p has)
      (λ f t none. absurd (some_none f.fault kind (one_fed s files.feed (λ g. (g.fault ≡ Some kind) × (g.lines ≡ line)) has f t).0 none))

  pub exact_follow : (status : Status) → FollowEnds p files status → Exactly status
  exact_follow Done (_, inl r) = followed Done r.schema r.list r.is_schema r.is_list (λ quiet. inl refl)
  exact_follow Done (_, inr r) = followed Done r.schema r.list r.is_schema r.is_list (λ quiet. inl refl)
  exact_follow Words r = absurd r
  exact_follow (SchemaBad l k) r = follow_schema files p (SchemaBad l k) (never_ok files.schema l k r.2) (schema_bad files.schema l k p r.2)
  exact_follow (LoadBad l k) r = absurd r
  exact_follow (FeedBad line kind) r = feed_fault line kind r.2
  exact_follow NoMemory r = follow_refused files p NoMemory (inr (refl, r.0)) (λ quiet. inr refl)
  exact_follow ReadFault (inl r) = follow_refused files p ReadFault (inl (refl, r.0)) (λ quiet. absurd (quiet.shelf r.0))
  exact_follow ReadFault (inr r) = followed ReadFault r.1.schema r.1.list r.1.is_schema r.1.is_list (λ quiet. absurd (quiet.source r.1.ends.0))
  exact_follow LongFile r = long r.2
  exact_follow WriteFault r = followed WriteFault r.1.schema r.1.list r.1.is_schema r.1.is_list (λ quiet. absurd (quiet.sink r.1.ends.0))
  exact_follow Spent r = followed Spent r.1.schema r.1.list r.1.is_schema r.1.is_list (λ quiet. absurd (quiet.bytes r.1.ends.0))
  exact_follow (Split rift) r = absurd r
  exact_follow (Ahead beyond) r = absurd r
  exact_follow (Stray stray) r = absurd r
  exact_follow (Shut shade) r = absurd r
