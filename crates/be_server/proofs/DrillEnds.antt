-- How `drill` ends: its files are read, its sessions are served, and what came of it is written.
use Rattle.std.proofs.Common.{◌≡◌, inl, inr, ℕ, zero, suc, ◌+◌, ◌<◌, ◌≤◌, Bool, true, false, List, [], ◌∷◌, ◌++◌, length, map, Some, None, slice_get, get_or, take, drop, Result, Ok, Err, refl, sym, ap, ◌∙◌, subst, append_assoc, arith}
use Rattle.std.specs.List.{list_all}
use Rattle.std.specs.Prelude.{if◌then◌else◌}
use Rattle.std.proofs.lemmas.Bool.{and_parts}
use Rattle.std.proofs.lemmas.List.{append-nil, map-append, take_more, take-append-drop}
use Rattle.std.specs.declared.alloc.Global.{Global}
use Rattle.std.specs.declared.vec.Vec.{Vec}
use Rattle.std.specs.Borrow.{Bor}
use Rattle.std.proofs.lemmas.Option.{slice_get-get_or, get_or_from_slice_get}
use Rattle.std.proofs.Math.ListN.{drop_of_length-le}
use Rattle.std.proofs.Math.Seq.{drop-cons}
use Rattle.be_base.specs.Readers.{now_of}
use Rattle.be_base.specs.Text.{Text}
use Rattle.be_base.specs.declared.limits.TheConstants.{FILE_BYTES}
use Rattle.be_expr.specs.Changes.{change_text}
use Rattle.be_io.specs.Shelf.{CountsFault, HoldsFile}
use Rattle.be_io.specs.declared.faults.ShelfFault.{ShelfFault}
use Rattle.be_io.specs.declared.faults.ShelfFault.TheVariants as shelf
use Rattle.be_server.specs.Output.{WroteOut}
use Rattle.be_server.specs.Status.{status_of_shelf}
use Rattle.be_change.specs.Opening.{opening_of}
use Rattle.be_change.specs.History.{Entry}
use Rattle.be_hub.specs.Transcripts.{AreServed}
use Rattle.be_io.specs.Counts.{HasRisen}
use Rattle.be_io.specs.Sink.{SinkState, Wrote}
use Rattle.be_io.specs.declared.faults.SinkFault.{SinkFault}
use Rattle.be_io.specs.declared.faults.SinkFault.TheVariants as sink
use Rattle.be_io.proofs.WroteLemmas.{Wrote-append, Wrote-cut}
use Rattle.be_model.specs.declared.changes.Row.{Row}
use Rattle.be_model.specs.Schemas.{Attributes}
use Rattle.be_server.specs.declared.status.Status.{Status}
use Rattle.be_server.specs.declared.status.Status.TheVariants.{Done, SchemaBad, LoadBad, NoMemory, ReadFault, LongFile, WriteFault, Split, Stray, Shut}
use Rattle.be_server.specs.Asked.{MayAsk, AsksInOrder}
use Rattle.be_server.specs.Files.{ToldFile, FileReads, FileIsLong, IsSchemaOf, AreRowsOf}
use Rattle.be_server.specs.Drill.{ToldFiles, AreScripts, FirstIsLong, LoadsScripts, LoadsDrill, under, headed, log_lines, drill_text, FilesHold, Printed, EndsAfter, SessionsEnd, Printing, Ran, FilesEnd, RunsDrill}
use Rattle.be_server.specs.Outside.{Passage}

-- the sessions' files were refused, behind good ones
pub scripts_refused : (files : ToldFiles) (f f' f'' : ℕ) (s : Attributes) (rows : List Row) (status : Status) → f' ≡ f → IsSchemaOf files.run.schema s → AreRowsOf s files.run.load rows → LoadsScripts files.scripts f' f'' (Err status)
    → LoadsDrill files f f'' (Err status)
scripts_refused files f f' f'' s rows status quiet is are l = go status (subst (λ (x : ℕ). LoadsScripts files.scripts x f'' (Err status)) quiet l)
  where
    go : (x : Status) → LoadsScripts files.scripts f f'' (Err x) → LoadsDrill files f f'' (Err x)
    go ReadFault m = m
    go LongFile m = (m.0, inr (s, rows, is, are, m.1))
    go NoMemory m = m
    go _ m = absurd m

-- one more of the sessions' files was read
pub scripts_more : (files : List ToldFile) (scripts : List Text) (file : ToldFile) (script : Text) → AreScripts files scripts → FileReads (λ text. text) file script → AreScripts (files ++ file ∷ []) (scripts ++ script ∷ [])
scripts_more [] [] file script are reads = (reads, tt)
scripts_more [] (x ∷ xs) file script are reads = absurd are
scripts_more (f ∷ fs) [] file script are reads = absurd are
scripts_more (f ∷ fs) (x ∷ xs) file script are reads = (are.0, scripts_more fs xs file script are.1 reads)

pub scripts_count : (files : List ToldFile) (scripts : List Text) → AreScripts files scripts → length scripts ≡ length files
scripts_count [] [] are = refl
scripts_count [] (x ∷ xs) are = absurd are
scripts_count (f ∷ fs) [] are = absurd are
scripts_count (f ∷ fs) (x ∷ xs) are = omega (arith, scripts_count fs xs are.1)

-- the next one is over the limit
pub next_is_long : (front : List ToldFile) (scripts : List Text) (file : ToldFile) (rest : List ToldFile) → AreScripts front scripts → FileIsLong file → FirstIsLong (front ++ file ∷ rest)
next_is_long [] [] file rest are long = inl long
next_is_long [] (x ∷ xs) file rest are long = absurd are
next_is_long (f ∷ fs) [] file rest are long = absurd are
next_is_long (f ∷ fs) (x ∷ xs) file rest are long = inr (x, are.0, next_is_long fs xs file rest are.1 long)

-- what holds of all elements of a list holds of what stands at a place
pub stands_in : {X : Type 0} (p : X → Bool) (xs : List X) (i : ℕ) (x : X) → list_all p xs ≡ true → slice_get xs i ≡ Some x → p x ≡ true
stands_in p [] i x all at = absurd cc
stands_in p (y ∷ ys) zero x all at = subst (λ z. p z ≡ true) (same y x at) (and_parts (p y) (list_all p ys) all).0
  where
    same : {X : Type 0} (a b : X) → Some a ≡ Some b → a ≡ b
    same a b e = cc
stands_in p (y ∷ ys) (suc i) x all at = stands_in p ys i x (and_parts (p y) (list_all p ys) all).1 at

suc_is : (i : ℕ) → suc i ≡ i + 1
suc_is i = omega arith

-- what is left of a list begins with what stands at the place
pub next_of : {X : Type 0} (xs : List X) (i : ℕ) (x : X) → i < length xs → x ≡ get_or xs i x → drop i xs ≡ x ∷ drop (i + 1) xs
next_of {X} xs i x lt is = subst (λ (k : ℕ). drop i xs ≡ x ∷ drop k xs) (suc_is i) (drop-cons xs i x lt ∙ ap (λ (y : X). y ∷ drop (suc i) xs) (sym is))

-- nothing is left
pub none_left : {X : Type 0} (xs : List X) (i : ℕ) → length xs ≤ i → drop i xs ≡ []
none_left xs i le = drop_of_length-le xs le

-- the names of a list, cut at a place
pub names_at : (xs : List (Bor Text)) (i : ℕ) (x : Bor Text) → i < length xs → x ≡ get_or xs i x → map now_of xs ≡ map now_of (take i xs) ++ x.now ∷ map now_of (drop (i + 1) xs)
names_at xs i x lt is =
    let cut : xs ≡ take i xs ++ x ∷ drop (i + 1) xs = sym (take-append-drop i xs) ∙ ap (λ (l : List (Bor Text)). take i xs ++ l) (next_of xs i x lt is) in
    ap (map now_of) cut ∙ map-append now_of (take i xs) (x ∷ drop (i + 1) xs)

pub names_more : (xs : List (Bor Text)) (i : ℕ) (x : Bor Text) → i < length xs → x ≡ get_or xs i x → map now_of (take (i + 1) xs) ≡ map now_of (take i xs) ++ x.now ∷ []
names_more xs i x lt is =
    let more : take (i + 1) xs ≡ take i xs ++ x ∷ [] = take_more xs i x lt ∙ ap (λ (y : Bor Text). take i xs ++ y ∷ []) (sym is) in
    ap (map now_of) more ∙ map-append now_of (take i xs) (x ∷ [])

-- the next file was refused
pub script_refused : (content : Text → ToldFile) (names front rest : List Text) (name : Text) (scripts : List Text) (f now f' : ℕ) (fault : ShelfFault) → names ≡ front ++ name ∷ rest → AreScripts (map content front) scripts
    → (fault ≡ shelf.Long → FileIsLong (content name)) → now ≡ f → CountsFault {T = Vec ℕ Global} (Err fault) now f' → LoadsScripts (map content names) f f' (Err (status_of_shelf fault))
script_refused content names front rest name scripts f now f' shelf.Failed parts are long quiet counts = subst (λ (x : ℕ). HasRisen x f') quiet counts
script_refused content names front rest name scripts f now f' shelf.Long parts are long quiet counts =
    (counts ∙ quiet, subst FirstIsLong (sym (ap (map content) parts ∙ map-append content front (name ∷ rest))) (next_is_long (map content front) scripts (content name) (map content rest) are (long refl)))
script_refused content names front rest name scripts f now f' shelf.NoMemory parts are long quiet counts = counts ∙ quiet

-- one more file was read
pub script_read : (content : Text → ToldFile) (front : List Text) (name script : Text) (scripts : List Text) → AreScripts (map content front) scripts → HoldsFile (content name) (λ bytes. script ≡ bytes) → length script ≤ FILE_BYTES
    → AreScripts (map content (front ++ name ∷ [])) (scripts ++ script ∷ [])
script_read content front name script scripts are holds short =
    subst (λ (l : List ToldFile). AreScripts l (scripts ++ script ∷ [])) (sym (map-append content front (name ∷ [])))
    (scripts_more (map content front) scripts (content name) script are (told_of (content name) holds))
  where
    told_of : (o : ToldFile) → HoldsFile o (λ bytes. script ≡ bytes) → FileReads (λ text. text) o script
    told_of None h = tt
    told_of (Some None) h = absurd h
    told_of (Some (Some bytes)) h = (subst (λ (x : List ℕ). length x ≤ FILE_BYTES) h short, sym h)

-- how the sessions ended, by how the output ended
pub sessions_ended : (Kept : Type 0) (P : Bool → Result (Unit {0}) SinkFault → Type 0) (Q : Result (Unit {0}) SinkFault → Type 0) (shuts : Bool) (status : Status)
    → ((b : Bool) (result : Result (Unit {0}) SinkFault) → shuts ≡ b → Q result → P b result) → EndsAfter Q shuts status → SessionsEnd Kept P status
sessions_ended K P Q shuts Done prints e = prints false (Ok tt) e.0 e.1
sessions_ended K P Q shuts (Shut shade) prints e = prints true (Ok tt) e.0 e.1
sessions_ended K P Q shuts WriteFault prints e = (shuts, prints shuts (Err sink.Failed) refl e)
sessions_ended K P Q shuts NoMemory prints e = inr (shuts, prints shuts (Err sink.NoMemory) refl e)
sessions_ended K P Q shuts _ prints e = absurd e

-- what was printed, by how the output ended
pub drill_ended : (Kept : Type 0) (s : Attributes) (rows : List Row) (scripts : List Text) (shuts : Bool) (list : List Entry) (transcripts : List Text) (before after : SinkState) (status : Status)
    → AreServed s (opening_of rows) list shuts scripts transcripts → EndsAfter (WroteOut before after (drill_text s transcripts list)) shuts status → RunsDrill Kept s rows scripts before after status
drill_ended K s rows scripts shuts list transcripts before after status served =
    sessions_ended K (λ b result. Printed s rows scripts b before after result) (WroteOut before after (drill_text s transcripts list)) shuts status
    (λ b result same written. record { list = list; transcripts = transcripts; served = subst (λ (x : Bool). AreServed s (opening_of rows) list x scripts transcripts) same served; written = written })

module _ {L : Type 0} (p : Passage L) (Prints : Printing) (files : ToldFiles) where
  -- the files were refused
  pub files_refused : (status : Status) → p.OutKept → LoadsDrill files p.before.shelf p.after.shelf (Err status) → FilesEnd p Prints files status
  files_refused ReadFault k l = (l, k)
  files_refused LongFile k l = (l.0, k, l.1)
  files_refused NoMemory k l = (l, inl k)
  files_refused (SchemaBad line kind) k l = (l.0, k, l.1)
  files_refused (LoadBad line kind) k l = (l.0, k, l.1)
  files_refused _ k l = absurd l

  -- the sessions were served
  pub files_served : (s : Attributes) (rows : List Row) (scripts : List Text) (status : Status) → p.after.shelf ≡ p.before.shelf → FilesHold files s rows scripts
      → SessionsEnd p.OutKept (Prints s rows scripts) status → FilesEnd p Prints files status
  files_served s rows scripts status quiet good runs = go status runs
    where
      ran : (x : Status) → SessionsEnd p.OutKept (Prints s rows scripts) x → Ran p.OutKept Prints files x
      ran x r = record { schema = s; rows = rows; scripts = scripts; good = good; runs = r }

      go : (x : Status) → SessionsEnd p.OutKept (Prints s rows scripts) x → FilesEnd p Prints files x
      go Done r = (quiet, ran Done r)
      go (Shut shade) r = (quiet, ran (Shut shade) r)
      go WriteFault r = (quiet, ran WriteFault r)
      go NoMemory r = (quiet, inr (ran NoMemory r))
      go (Split rift) r = (quiet, ran (Split rift) r)
      go (Stray stray) r = (quiet, ran (Stray stray) r)
      go _ r = absurd r

-- one more transcript behind a text
pub headed_next : (text : Text) (n : ℕ) (t : Text) (ts : List Text) (whole : Text) → text ++ headed n (t ∷ ts) ≡ whole → (text ++ under n t) ++ headed (n + 1) ts ≡ whole
headed_next text n t ts whole is = append_assoc text (under n t) (headed (n + 1) ts) ∙ is

-- it is refused, and more would follow
pub headed_stopped : (text : Text) (n : ℕ) (t : Text) (ts : List Text) (whole log : Text) (before now after : SinkState) (fault : SinkFault) → text ++ headed n (t ∷ ts) ≡ whole → Wrote before now text (Ok tt) → Wrote now after (under n t) (Err fault)
    → Wrote before after (whole ++ log) (Err fault)
headed_stopped text n t ts whole log before now after fault is first second =
    subst (λ (x : Text). Wrote before after x (Err fault))
    (sym (append_assoc (text ++ under n t) (headed (n + 1) ts) log) ∙ ap (λ (x : Text). x ++ log) (headed_next text n t ts whole is))
    (Wrote-cut before after (text ++ under n t) (headed (n + 1) ts ++ log) fault (Wrote-append before now after text (under n t) (Err fault) first second))

-- all transcripts were written, and the list is
pub headed_all : (text whole log : Text) (before now after : SinkState) (result : Result (Unit {0}) SinkFault) → text ++ [] ≡ whole → Wrote before now text (Ok tt) → Wrote now after log result → Wrote before after (whole ++ log) result
headed_all text whole log before now after result is first second =
    subst (λ (x : Text). Wrote before after (x ++ log) result) (sym (append-nil text) ∙ is) (Wrote-append before now after text log result first second)

-- the lines of the changes that are left begin with that of the next one
log_after : (s : Attributes) (h : List Entry) (i : ℕ) (e : Entry) → slice_get h i ≡ Some e → log_lines s (drop i h) ≡ (change_text s e ++ 10 ∷ []) ++ log_lines s (drop (suc i) h)
log_after s [] i e at = absurd cc
log_after s (x ∷ h) zero e at = ap (λ (y : Entry). (change_text s y ++ 10 ∷ []) ++ log_lines s h) (same x e at)
  where
    same : (a b : Entry) → Some a ≡ Some b → a ≡ b
    same a b e = cc
log_after s (x ∷ h) (suc i) e at = log_after s h i e at

log_next : (s : Attributes) (h : List Entry) (i : ℕ) (e : Entry) → slice_get h i ≡ Some e → log_lines s (drop i h) ≡ (change_text s e ++ 10 ∷ []) ++ log_lines s (drop (i + 1) h)
log_next s h i e at = subst (λ (k : ℕ). log_lines s (drop i h) ≡ (change_text s e ++ 10 ∷ []) ++ log_lines s (drop k h)) (suc_is i) (log_after s h i e at)

pub log_more : (s : Attributes) (h : List Entry) (i : ℕ) (e : Entry) (text text' whole : Text) → slice_get h i ≡ Some e → text ++ log_lines s (drop i h) ≡ whole → text' ≡ (text ++ change_text s e) ++ 10 ∷ [] → text' ++ log_lines s (drop (i + 1) h) ≡ whole
log_more s h i e text text' whole at was is =
    ap (λ (x : Text). x ++ log_lines s (drop (i + 1) h)) (is ∙ append_assoc text (change_text s e) (10 ∷ []))
    ∙ append_assoc text (change_text s e ++ 10 ∷ []) (log_lines s (drop (i + 1) h))
    ∙ ap (λ (x : Text). text ++ x) (sym (log_next s h i e at)) ∙ was

pub was_pushed : {X : Type 0} (b : Bool) (now more less : List X) → b ≡ true → now ≡ (if b then more else less) → now ≡ more
was_pushed {X} b now more less ok is = subst (λ (c : Bool). now ≡ (if c then more else less)) ok is

pub take_end : {X : Type 0} (xs : List X) (i : ℕ) → length xs ≤ i → take i xs ≡ xs
take_end xs i le = sym (append-nil (take i xs)) ∙ (ap (λ l. take i xs ++ l) (sym (none_left xs i le)) ∙ take-append-drop i xs)

-- all were asked for and read
pub asks_all : (xs : List (Bor Text)) (i : ℕ) (content : Text → ToldFile) (texts asked now : List Text) → length xs ≤ i → now ≡ asked ++ map now_of (take i xs) → AreScripts (map content (map now_of (take i xs))) texts
    → AsksInOrder content (map now_of xs) asked now
asks_all xs i content texts asked now le was are = record {
  read = map now_of (take i xs);
  rest = [];
  parts = sym (append-nil (map now_of (take i xs)) ∙ ap (map now_of) (take_end xs i le));
  texts = texts;
  are_read = are;
  asked = was;
}

-- a shelf that tells the same of each file
pub same_told : (here content : Text → ToldFile) (names : List Text) → ((file : Text) → here file ≡ content file) → map here names ≡ map content names
same_told here content [] same = refl
same_told here content (n ∷ ns) same = ap (λ (o : ToldFile). o ∷ map here ns) (same n) ∙ ap (λ (l : List ToldFile). content n ∷ l) (same_told here content ns same)

-- what stands at a place of the names, whatever stands in for none
module _ (xs : List (Bor Text)) (i : ℕ) (d : Bor Text) (lt : i < length xs) where
  abbrev name_there : Text
  name_there = (get_or xs i d).now

  there_is : get_or xs i d ≡ get_or xs i (get_or xs i d)
  there_is = sym (get_or_from_slice_get xs i (get_or xs i d) (get_or xs i d) (slice_get-get_or xs i d lt))

  -- the names before the place were asked for and read, and perhaps the one that stands there
  pub asks_at : (content : Text → ToldFile) (texts asked now asked' : List Text) → now ≡ asked ++ map now_of (take i xs) → AreScripts (map content (map now_of (take i xs))) texts → MayAsk name_there now asked' → AsksInOrder content (map now_of xs) asked asked'
  asks_at content texts asked now asked' was are a = record {
    read = map now_of (take i xs);
    rest = name_there ∷ map now_of (drop (i + 1) xs);
    parts = names_at xs i (get_or xs i d) lt there_is;
    texts = texts;
    are_read = are;
    asked = subst (λ (l : List Text). MayAsk name_there l asked') was a;
  }

  pub asked_at : (asked now asked' : List Text) → now ≡ asked ++ map now_of (take i xs) → asked' ≡ now ++ name_there ∷ [] → asked' ≡ asked ++ map now_of (take (i + 1) xs)
  asked_at asked now asked' was a =
      a ∙ (ap (λ (l : List Text). l ++ name_there ∷ []) was ∙ (append_assoc asked (map now_of (take i xs)) (name_there ∷ []) ∙ ap (λ (l : List Text). asked ++ l) (sym (names_more xs i (get_or xs i d) lt there_is))))

  pub refused_at : (content here : Text → ToldFile) (scripts : List Text) (f now f' : ℕ) (fault : ShelfFault) → ((file : Text) → here file ≡ content file) → AreScripts (map content (map now_of (take i xs))) scripts
      → (fault ≡ shelf.Long → FileIsLong (here name_there)) → now ≡ f → CountsFault {T = Vec ℕ Global} (Err fault) now f' → LoadsScripts (map content (map now_of xs)) f f' (Err (status_of_shelf fault))
  refused_at content here scripts f now f' fault same are long quiet counts =
      script_refused content (map now_of xs) (map now_of (take i xs)) (map now_of (drop (i + 1) xs)) name_there scripts f now f' fault (names_at xs i (get_or xs i d) lt there_is) are
      (λ is. subst FileIsLong (same name_there) (long is)) quiet counts

  pub read_at : (content here : Text → ToldFile) (script : Text) (scripts : List Text) → ((file : Text) → here file ≡ content file) → AreScripts (map content (map now_of (take i xs))) scripts
      → HoldsFile (here name_there) (λ bytes. script ≡ bytes) → length script ≤ FILE_BYTES → AreScripts (map content (map now_of (take (i + 1) xs))) (scripts ++ script ∷ [])
  read_at content here script scripts same are holds short =
      subst (λ (l : List Text). AreScripts (map content l) (scripts ++ script ∷ [])) (sym (names_more xs i (get_or xs i d) lt there_is))
      (script_read content (map now_of (take i xs)) name_there script scripts are (subst (λ (o : ToldFile). HoldsFile o (λ bytes. script ≡ bytes)) (same name_there) holds) short)
