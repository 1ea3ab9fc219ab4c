-- All links of a door, served by reads.
use Rattle.std.proofs.Common.{◌≡◌, ℕ, zero, suc, ◌+◌, ◌<◌, ◌≤◌, Bool, true, false, ◌||◌, List, [], ◌∷◌, ◌++◌, length, map, max, fold, sum_by, refl, sym, ap, ◌∙◌, subst, length-append, arith}
use Rattle.std.specs.Prelude.{Result, Ok, IfOk}
use Rattle.std.specs.List.{All, list_any}
use Rattle.std.proofs.lemmas.List.{length-map, map-append}
use Rattle.std.proofs.lemmas.List.Concat.{flat_map-cons}
use Rattle.std.proofs.lemmas.List.Elements.{All-append, All-cons, All-head, All-map, All-nil, All-tail, All-weaker}
use Rattle.std.proofs.lemmas.List.Sums.{sum_by-cons}
use Rattle.be_base.specs.Counts.{raised}
use Rattle.be_base.specs.Lists.{BeginsWith}
use Rattle.be_base.specs.declared.names.SessionNo.{SessionNo}
use Rattle.be_io.specs.Outside.{LinkState}
use Rattle.be_model.specs.Schemas.{Attributes}
use Rattle.be_change.specs.History.{Entry}
use Rattle.be_door.specs.Counts.{CountState, sums_of, with_counts, all_kept}
use Rattle.be_door.specs.Door.{DoorState, IsOf, AreAllCounts}
use Rattle.be_door.specs.Sums.{no_sums}
use Rattle.be_door.specs.declared.sums.Sums.{Sums}
use Rattle.be_hub.specs.Files.{lacks_memory, is_split_end}
use Rattle.be_hub.specs.Links.{IsCounted}
use Rattle.be_hub.specs.Serving.{LinkEnds, told_of}
use Rattle.be_protocol.specs.Conversation.{ConversationEnds}
use Rattle.be_protocol.specs.declared.ends.SessionEnd.{SessionEnd}
use Rattle.be_protocol.specs.declared.ends.SessionEnd.TheVariants.{Eof, Quit, ReadFault, WriteFault, Spent, Split, NoMemory}
use Rattle.be_published.specs.States.{GlassState}
use Rattle.be_mirror.specs.Links.{IsQuiet, WasRead, ReadWorkerServed}
use Rattle.be_mirror.specs.Serving.{ReadLink, IsReadLink, list_terms, number_and_link, ReadLinksAreKept, LinksAreRead}

-- these numbers say what a count's say
record Covers (sums : Sums) {L : Type 0} (c : CountState L) : Type 0 where
  read_faults : 0 < c.read_faults → 0 < sums.read_faults
  write_faults : 0 < c.write_faults → 0 < sums.write_faults
  most : c.most ≤ sums.most

covered : {L : Type 0} (sums : Sums) (c : CountState L) → Covers sums c → (end : SessionEnd) → IsCounted (sums_of c) end → IsCounted sums end
covered sums c v Eof is = tt
covered sums c v Quit is = tt
covered sums c v (Split i j) is = tt
covered sums c v NoMemory is = tt
covered sums c v ReadFault is = v.read_faults is
covered sums c v WriteFault is = v.write_faults is
covered sums c v Spent is = omega (arith, is, v.most)

module _ {X : Type 0} where
  in_sum : (f : X → ℕ) (xs : List X) → All (λ x. f x ≤ sum_by f xs) xs
  in_sum f [] = All-nil (λ x. f x ≤ sum_by f [])
  in_sum f (x ∷ xs) =
      All-cons (λ y. f y ≤ sum_by f (x ∷ xs)) x xs (omega (arith, sum_by-cons f x xs))
      (All-weaker (λ y. f y ≤ sum_by f xs) (λ y. f y ≤ sum_by f (x ∷ xs)) (λ y le. omega (arith, le, sum_by-cons f x xs)) xs (in_sum f xs))

  most_from : (f : X → ℕ) (xs : List X) (a : ℕ) → a ≤ fold (λ most x. max most (f x)) a xs
  most_from f [] a = omega arith
  most_from f (x ∷ xs) a = let r = most_from f xs (max a (f x)) in omega (arith, r)

  in_most : (f : X → ℕ) (xs : List X) (a : ℕ) → All (λ x. f x ≤ fold (λ most x. max most (f x)) a xs) xs
  in_most f [] a = All-nil (λ x. f x ≤ fold (λ most x. max most (f x)) a [])
  in_most f (x ∷ xs) a =
      All-cons (λ y. f y ≤ fold (λ most x. max most (f x)) a (x ∷ xs)) x xs (let r = most_from f xs (max a (f x)) in omega (arith, r)) (in_most f xs (max a (f x)))

  both : (P Q R : X → Type 0) (xs : List X) → ((x : X) → P x → Q x → R x) → All P xs → All Q xs → All R xs
  both P Q R [] f p q = All-nil R
  both P Q R (x ∷ xs) f p q = All-cons R x xs (f x (All-head P x xs p) (All-head Q x xs q)) (both P Q R xs f (All-tail P x xs p) (All-tail Q x xs q))

  sums_same : (f g : X → ℕ) (xs : List X) → All (λ x. f x ≡ g x) xs → sum_by f xs ≡ sum_by g xs
  sums_same f g [] all = refl
  sums_same f g (x ∷ xs) all =
      let rest = sums_same f g xs (All-tail (λ x. f x ≡ g x) x xs all) in
      let here = All-head (λ x. f x ≡ g x) x xs all in
      omega (arith, sum_by-cons f x xs, sum_by-cons g x xs, rest, here)

  some_of : (f g : X → ℕ) (xs : List X) → All (λ x. 0 < f x → 0 < g x) xs → 0 < sum_by f xs → 0 < sum_by g xs
  some_of f g [] all some = absurd (omega (arith, some))
  some_of f g (x ∷ xs) all some = one_of (f x) (g x) (sum_by f xs) (sum_by g xs) (sum_by f (x ∷ xs)) (sum_by g (x ∷ xs)) (sum_by-cons f x xs) (sum_by-cons g x xs)
      (All-head (λ x. 0 < f x → 0 < g x) x xs all) (some_of f g xs (All-tail (λ x. 0 < f x → 0 < g x) x xs all)) some
    where
      one_of : (a b m n k l : ℕ) → k ≡ a + m → l ≡ b + n → (0 < a → 0 < b) → (0 < m → 0 < n) → 0 < k → 0 < l
      one_of zero b m n k l is it here rest some = let r = rest (omega (arith, some, is)) in omega (arith, r, it)
      one_of (suc a) b m n k l is it here rest some = let r = here (omega arith) in omega (arith, r, it)

abbrev Rest : {L : Type 0} → List (CountState L) → CountState L → Type 0
Rest {L} cs c = (c.write_faults ≤ sum_by (λ (x : CountState L). x.write_faults) cs) × (c.most ≤ fold (λ most (x : CountState L). max most x.most) 0 cs)

-- what one worker's numbers say, those of all say
all_covered : {L : Type 0} (cs : List (CountState L)) → All (Covers (with_counts no_sums cs)) cs
all_covered {L} cs =
    both (λ (c : CountState L). c.read_faults ≤ sum_by (λ (x : CountState L). x.read_faults) cs) (Rest cs) (Covers (with_counts no_sums cs)) cs
    (λ c le rest. record { read_faults = raises c.read_faults _ le; write_faults = raises c.write_faults _ rest.0; most = rest.1 })
    (in_sum (λ (x : CountState L). x.read_faults) cs)
    (both (λ (c : CountState L). c.write_faults ≤ sum_by (λ (x : CountState L). x.write_faults) cs) (λ (c : CountState L). c.most ≤ fold (λ most (x : CountState L). max most x.most) 0 cs) (Rest cs) cs (λ c a b. (a, b))
    (in_sum (λ (x : CountState L). x.write_faults) cs) (in_most (λ (x : CountState L). x.most) cs 0))
  where
    raises : (a b : ℕ) → a ≤ b → 0 < a → 0 < raised b 0
    raises a b le some = omega (arith, some, le)

-- an end otherwise than for want of memory, or by two numbers that differ
strict : (s : Attributes) (h : List Entry) (shuts : Bool) (before after : LinkState) (end : SessionEnd) → lacks_memory end ≡ false → is_split_end end ≡ false → ConversationEnds (Unit {0}) (list_terms s h shuts) before after end
    → LinkEnds (list_terms s h shuts) before after end
strict s h shuts before after Eof enough never e = e
strict s h shuts before after Quit enough never e = e
strict s h shuts before after ReadFault enough never e = e
strict s h shuts before after WriteFault enough never e = e
strict s h shuts before after Spent enough never e = e
strict s h shuts before after (Split i j) enough never e = absurd cc
strict s h shuts before after NoMemory enough never e = absurd cc

none_in : {X : Type 0} (p : X → Bool) (xs : List X) → list_any p xs ≡ false → All (λ x. p x ≡ false) xs
none_in p [] never = All-nil (λ x. p x ≡ false)
none_in p (x ∷ xs) never = go (p x) refl never (none_in p xs)
  where
    go : (b : Bool) → p x ≡ b → (b || list_any p xs) ≡ false → (list_any p xs ≡ false → All (λ y. p y ≡ false) xs) → All (λ y. p y ≡ false) (x ∷ xs)
    go true is never rest = absurd cc
    go false is never rest = All-cons (λ y. p y ≡ false) x xs is (rest never)

mapped_back : {X Y : Type 0} (f : X → Y) (P : Y → Type 0) (xs : List X) → All P (map f xs) → All (λ x. P (f x)) xs
mapped_back f P [] all = All-nil (λ x. P (f x))
mapped_back f P (x ∷ xs) all = All-cons (λ x. P (f x)) x xs (All-head P (f x) (map f xs) all) (mapped_back f P xs (All-tail P (f x) (map f xs) all))

-- all results that are so left what is so
pub all_left : {X E : Type 0} (P : X → Type 0) (xs : List X) (rs : List (Result X E)) → map (λ x. Ok x) xs ≡ rs → All (λ r. IfOk r P) rs → All P xs
all_left {X} {E} P xs rs is all = mapped_back {X = X} {Y = Result X E} (λ x. Ok x) (λ r. IfOk r P) xs (subst (All (λ (r : Result X E). IfOk r P)) (sym is) all)

module _ {L : Type 0} (told : L → LinkState) {E : Type 0} (glass_in : E → GlassState) (count_in : E → CountState L) (ends_in : E → List SessionEnd) (s : Attributes) (door : DoorState L) where
  abbrev Served : E → Type 0
  Served e = ReadWorkerServed told s door (glass_in e) (count_in e) (ends_in e)

  pub counts_are : (ends : List E) → All Served ends → door.workers ≡ length ends → 0 < length ends → AreAllCounts door (map count_in ends)
  counts_are ends w many some = record {
    some = omega (arith, many, some);
    as_many = length-map ends count_in ∙ sym many;
    each_is_of = All-map (IsOf door) count_in ends (All-weaker Served (λ e. IsOf door (count_in e)) (λ e x. x.is_of) ends w);
    ended = All-map (λ (c : CountState L). c.ended ≡ true) count_in ends (All-weaker Served (λ e. (count_in e).ended ≡ true) (λ e x. x.ended) ends w);
  }

  -- all links that were served, by workers and then in their order
  all_served : (ends : List E) → All Served ends → List ReadLink
  all_served [] w = []
  all_served (e ∷ es) w = (All-head Served e es w).links.served ++ all_served es (All-tail Served e es w)

  many_in : (e : E) (w : Served e) → length w.links.served ≡ (count_in e).given
  many_in e w =
      sym (length-map w.links.served (λ (x : ReadLink). x.end)) ∙ (ap (λ l. length l) (sym w.links.ends_are) ∙ (sym w.links.back ∙ sym w.all_back))

  many_served : (ends : List E) (w : All Served ends) → length (all_served ends w) ≡ sum_by (λ (c : CountState L). c.given) (map count_in ends)
  unfolding all_served
  many_served [] w = refl
  many_served (e ∷ es) w =
      let here = All-head Served e es w in
      let rest = many_served es (All-tail Served e es w) in
      omega (arith, length-append here.links.served (all_served es (All-tail Served e es w)), many_in e here, rest, sum_by-cons (λ (c : CountState L). c.given) (count_in e) (map count_in es))

  -- what a worker's reader knows at last is a beginning of the list, and no session of it lacked memory
  pub record IsSeen (h : List Entry) (shuts : Bool) (e : E) : Type 0 where
    pub known : BeginsWith h (glass_in e).known
    pub quiet : IsQuiet shuts (glass_in e)
    pub none_lacked : list_any lacks_memory (ends_in e) ≡ false

  module _ (h : List Entry) (shuts : Bool) (sums : Sums) where
    read_by : (e : E) → IsSeen h shuts e → Covers sums (count_in e) → (w : Served e) → All (IsReadLink s h shuts sums) w.links.served
    read_by e seen covers w =
        let ls = w.links.served in
        let lacked = mapped_back (λ (x : ReadLink). x.end) (λ (x : SessionEnd). lacks_memory x ≡ false) ls (subst (All (λ (x : SessionEnd). lacks_memory x ≡ false)) w.links.ends_are (none_in lacks_memory (ends_in e) seen.none_lacked)) in
        let counted = mapped_back (λ (x : ReadLink). x.end) (IsCounted (sums_of (count_in e))) ls (subst (All (IsCounted (sums_of (count_in e)))) w.links.ends_are w.links.counted) in
        both (WasRead s (glass_in e)) (λ (x : ReadLink). (lacks_memory x.end ≡ false) × IsCounted (sums_of (count_in e)) x.end) (IsReadLink s h shuts sums) ls
        (λ x was more. record {
          unused = was.unused;
          is_unused = was.is_unused;
          whole = was.whole;
          ends = strict s h shuts was.unused x.link x.end more.0 was.never_split (was.ends h shuts seen.known seen.quiet);
          counted = covered sums (count_in e) covers x.end more.1;
        })
        w.links.each (both (λ (x : ReadLink). lacks_memory x.end ≡ false) (λ (x : ReadLink). IsCounted (sums_of (count_in e)) x.end) (λ (x : ReadLink). (lacks_memory x.end ≡ false) × IsCounted (sums_of (count_in e)) x.end) ls (λ x a b. (a, b)) lacked counted)

    all_read : (ends : List E) (w : All Served ends) → All (IsSeen h shuts) ends → All (Covers sums) (map count_in ends) → All (IsReadLink s h shuts sums) (all_served ends w)
    unfolding all_served
    all_read [] w seen covers = All-nil (IsReadLink s h shuts sums)
    all_read (e ∷ es) w seen covers =
        let here = All-head Served e es w in
        All-append (IsReadLink s h shuts sums) here.links.served (all_served es (All-tail Served e es w))
        (read_by e (All-head (IsSeen h shuts) e es seen) (All-head (Covers sums) (count_in e) (map count_in es) covers) here)
        (all_read es (All-tail Served e es w) (All-tail (IsSeen h shuts) e es seen) (All-tail (Covers sums) (count_in e) (map count_in es) covers))

  join_kept : (b : Bool) (xs ys : List (SessionNo × L)) (ls ms : List ReadLink) → ReadLinksAreKept told b xs ls → ReadLinksAreKept told b ys ms → ReadLinksAreKept told b (xs ++ ys) (ls ++ ms)
  join_kept true xs ys ls ms p q = map-append (told_of told) xs ys ∙ (ap (λ l. l ++ map (told_of told) ys) p ∙ (ap (λ l. map number_and_link ls ++ l) q ∙ sym (map-append number_and_link ls ms)))
  join_kept false xs ys ls ms p q = ap (λ l. l ++ ys) p ∙ q

  none_kept : (b : Bool) → ReadLinksAreKept told b [] []
  none_kept true = refl
  none_kept false = refl

  all_are_kept : (ends : List E) (w : All Served ends) → ReadLinksAreKept told door.keeps (all_kept (map count_in ends)) (all_served ends w)
  unfolding all_served
  all_are_kept [] w = none_kept door.keeps
  all_are_kept (e ∷ es) w =
      let here = All-head Served e es w in
      subst (λ l. ReadLinksAreKept told door.keeps l (all_served (e ∷ es) w)) (sym (flat_map-cons (λ (c : CountState L). c.kept) (count_in e) (map count_in es)))
      (join_kept door.keeps (count_in e).kept (all_kept (map count_in es)) here.links.served (all_served es (All-tail Served e es w))
      (subst (λ b. ReadLinksAreKept told b (count_in e).kept here.links.served) here.is_of.1 here.links.kept_are)
      (all_are_kept es (All-tail Served e es w)))

  -- all links that were given out came back
  pub all_back : (ends : List E) → All Served ends → (with_counts no_sums (map count_in ends)).back ≡ (with_counts no_sums (map count_in ends)).given
  all_back ends w = ap (λ n. 0 + n) (sums_same (λ (c : CountState L). c.back) (λ (c : CountState L). c.given) (map count_in ends)
      (All-map (λ (c : CountState L). c.back ≡ c.given) count_in ends (All-weaker Served (λ e. (count_in e).back ≡ (count_in e).given) (λ e x. sym x.all_back) ends w)))

  pub links_are_read : (h : List Entry) (shuts : Bool) (links : ℕ) (ends : List E) → All Served ends → All (IsSeen h shuts) ends → (with_counts no_sums (map count_in ends)).refused ≡ 0
      → (with_counts no_sums (map count_in ends)).given + (with_counts no_sums (map count_in ends)).failed ≡ links → LinksAreRead told s h shuts links (with_counts no_sums (map count_in ends)) door.keeps (all_kept (map count_in ends))
  links_are_read h shuts links ends w seen none_refused all_links =
      let counts = map count_in ends in
      record {
        came_back = (all_back ends w, all_links);
        none_refused = none_refused;
        failed = λ some_failed. some_raised _
            (some_of (λ (c : CountState L). c.failed) (λ (c : CountState L). c.read_faults) counts
            (All-map (λ (c : CountState L). 0 < c.failed → 0 < c.read_faults) count_in ends (All-weaker Served (λ e. 0 < (count_in e).failed → 0 < (count_in e).read_faults) (λ e x. x.links.failed) ends w))
            (plus_none _ some_failed));
        served = all_served ends w;
        count = from_none (many_served ends w);
        each = all_read h shuts (with_counts no_sums counts) ends w seen (all_covered counts);
        kept_are = all_are_kept ends w;
      }
    where
      some_raised : (n : ℕ) → 0 < n → 0 < raised n 0
      some_raised n some = omega (arith, some)

      plus_none : (n : ℕ) → 0 < 0 + n → 0 < n
      plus_none n some = omega (arith, some)

      from_none : {a b : ℕ} → a ≡ b → a ≡ 0 + b
      from_none {a} {b} is = omega (arith, is)

  -- so it is of all workers, where their readers were shown what is published
  pub all_seen : (h : List Entry) (shuts : Bool) (ends : List E) (glasses : List GlassState) → glasses ≡ map glass_in ends → All (λ (x : GlassState). BeginsWith h x.known) glasses → (shuts ≡ false → All (λ e. (glass_in e).shuts ≡ 0) ends)
      → list_any (λ e. list_any lacks_memory (ends_in e)) ends ≡ false → All (IsSeen h shuts) ends
  all_seen h shuts ends glasses is shown quiet none =
      both (λ e. BeginsWith h (glass_in e).known) (λ e. IsQuiet shuts (glass_in e) × (list_any lacks_memory (ends_in e) ≡ false)) (IsSeen h shuts) ends (λ e known more. record { known = known; quiet = more.0; none_lacked = more.1 })
      (mapped_back glass_in (λ (x : GlassState). BeginsWith h x.known) ends (subst (All (λ (x : GlassState). BeginsWith h x.known)) is shown))
      (both (λ e. IsQuiet shuts (glass_in e)) (λ e. list_any lacks_memory (ends_in e) ≡ false) (λ e. IsQuiet shuts (glass_in e) × (list_any lacks_memory (ends_in e) ≡ false)) ends (λ e a b. (a, b))
      (λ k d lt none_shut. quiet none_shut k d lt) (none_in (λ e. list_any lacks_memory (ends_in e)) ends none))
