-- What a session of reads says holds on, and one more link was served.
use Rattle.std.proofs.Common.{◌≡◌, ℕ, ◌<◌, ◌≤◌, Bool, true, false, List, [], ◌∷◌, ◌++◌, length, map, max, refl, sym, ap, ◌∙◌, subst, length-append, arith}
use Rattle.std.specs.Prelude.{filter}
use Rattle.std.proofs.lemmas.List.{map-append}
use Rattle.std.proofs.lemmas.List.Elements.{All-nil, All-push, All-weaker}
use Rattle.atomic_table.specs.Seated.{TableId}
use Rattle.be_base.specs.Counts.{raised, HasRisen, HasRisenBy}
use Rattle.be_base.specs.Lists.{BeginsWith}
use Rattle.be_base.specs.declared.limits.TheConstants.{SOURCE_BYTES}
use Rattle.be_base.specs.declared.names.SessionNo.{SessionNo}
use Rattle.be_base.proofs.Beginnings.{BeginsWith-along}
use Rattle.be_io.specs.Outside.{LinkState}
use Rattle.be_model.specs.Schemas.{Attributes}
use Rattle.be_change.specs.History.{Entry}
use Rattle.be_change.specs.Requests.{Exchange}
use Rattle.be_door.specs.Counts.{CountState, new_count, sums_of, after_back}
use Rattle.be_door.specs.Kept.{put_last}
use Rattle.be_door.specs.Links.{IsUnused}
use Rattle.be_hub.specs.Files.{is_split_end}
use Rattle.be_hub.specs.Links.{IsCounted}
use Rattle.be_hub.specs.Serving.{told_of}
use Rattle.be_hub.specs.Transcripts.{ShutsOnly}
use Rattle.be_hub.proofs.Shuts.{none_says}
use Rattle.be_protocol.specs.Conversation.{ConversationEnds}
use Rattle.be_protocol.specs.declared.ends.SessionEnd.{SessionEnd}
use Rattle.be_protocol.specs.declared.ends.SessionEnd.TheVariants.{Eof, Quit, ReadFault, WriteFault, Spent, Split, NoMemory}
use Rattle.be_protocol.proofs.Under.{ends_under, ends_give}
use Rattle.be_published.specs.States.{GlassState}
use Rattle.be_session.specs.Tied.{is_shut}
use Rattle.be_mirror.specs.Links.{IsQuiet, WasRead, ReadLinksServed}
use Rattle.be_mirror.specs.Reading.{mirror_terms, MirrorSessionEnds}
use Rattle.be_mirror.specs.Serving.{ReadLink, list_terms, number_and_link, ReadLinksAreKept}

no_rise : (n before after : ℕ) → HasRisenBy n before after → after ≡ 0 → n ≡ 0
no_rise n before after rise is = omega (arith, rise, is)

none_before : (n before after : ℕ) → HasRisenBy n before after → after ≡ 0 → before ≡ 0
none_before n before after rise is = omega (arith, rise, is)

shuts_only : (shuts : Bool) (ps : List Exchange) (before after : ℕ) → HasRisenBy (length (filter is_shut ps)) before after → (shuts ≡ false → after ≡ 0) → ShutsOnly shuts ps
shuts_only shuts ps before after rise quiet = λ is. none_says ps (no_rise (length (filter is_shut ps)) before after rise (quiet is))

-- no session of a mirror ends by two numbers that differ
conversed : (U : Type 0) (s : Attributes) (before after : LinkState) (g g' : GlassState) (end : SessionEnd) → MirrorSessionEnds U s before after g g' end → ConversationEnds U (mirror_terms s g g') before after end
conversed U s before after g g' Eof e = e
conversed U s before after g g' Quit e = e
conversed U s before after g g' ReadFault e = e
conversed U s before after g g' WriteFault e = e
conversed U s before after g g' Spent e = e
conversed U s before after g g' (Split i j) e = absurd e
conversed U s before after g g' NoMemory e = e

unsplit : (U : Type 0) (s : Attributes) (before after : LinkState) (g g' : GlassState) (end : SessionEnd) → MirrorSessionEnds U s before after g g' end → is_split_end end ≡ false
unsplit U s before after g g' Eof e = refl
unsplit U s before after g g' Quit e = refl
unsplit U s before after g g' ReadFault e = refl
unsplit U s before after g g' WriteFault e = refl
unsplit U s before after g g' Spent e = refl
unsplit U s before after g g' (Split i j) e = absurd e
unsplit U s before after g g' NoMemory e = refl

-- of what a glass knows and counted nothing was lost
pub record Grew (g g' : GlassState) : Type 0 where
  pub known : BeginsWith g'.known g.known
  pub quiet : g'.shuts ≡ 0 → g.shuts ≡ 0

still_read : (s : Attributes) (g g' : GlassState) → Grew g g' → (l : ReadLink) → WasRead s g l → WasRead s g' l
still_read s g g' grew l w = record {
  unused = w.unused;
  is_unused = w.is_unused;
  whole = w.whole;
  never_split = w.never_split;
  ends = λ h shuts begins quiet. w.ends h shuts (BeginsWith-along h g'.known g.known begins grew.known) (λ no. grew.quiet (quiet no));
}

module _ (U : Type 0) (s : Attributes) (before after : LinkState) (g g' : GlassState) (end : SessionEnd) (ends : MirrorSessionEnds U s before after g g' end) where
  grew : (U → g' ≡ g) → BeginsWith g'.known g.known → Grew g g'
  grew same known = record {
    known = known;
    quiet = ends_give U (mirror_terms s g g') (g'.shuts ≡ 0 → g.shuts ≡ 0) before after end (λ u none. ap (λ (x : GlassState). x.shuts) (sym (same u)) ∙ none)
        (λ by lines ps e w. none_before _ g.shuts g'.shuts w.tied.shuts)
        (λ lines ps p out e w. none_before _ g.shuts g'.shuts w.tied.shuts)
        (conversed U s before after g g' end ends);
  }

  over_list : (h : List Entry) (shuts : Bool) → BeginsWith h g'.known → IsQuiet shuts g' → ConversationEnds (Unit {0}) (list_terms s h shuts) before after end
  over_list h shuts begins quiet =
      ends_under U (Unit {0}) (mirror_terms s g g') (list_terms s h shuts).Whole (list_terms s h shuts).InPart (λ u. tt)
      (λ by lines ps asked e w. (w.borne h 0 begins (omega arith), shuts_only shuts ps g.shuts g'.shuts w.tied.shuts quiet))
      (λ lines ps p out asked e w. (w.borne h 0 begins (omega arith), shuts_only shuts (ps ++ p ∷ []) g.shuts g'.shuts w.tied.shuts quiet))
      before after end (conversed U s before after g g' end ends)

  -- the session's end is counted with its link
  new_counted : {L : Type 0} (c : CountState L) (number : SessionNo) (link : L) → IsCounted (sums_of (after_back c number link after)) end
  new_counted c number link = by_end end ends
    where
      reads : (a b d : ℕ) → HasRisen a b → 0 < raised b d
      reads a b d h = omega (arith, h)

      most : (a b d : ℕ) → HasRisenBy SOURCE_BYTES a b → SOURCE_BYTES ≤ max d b
      most a b d h = omega (arith, h)

      by_end : (x : SessionEnd) → MirrorSessionEnds U s before after g g' x → IsCounted (sums_of (after_back c number link after)) x
      by_end Eof e = tt
      by_end Quit e = tt
      by_end (Split i j) e = tt
      by_end NoMemory e = tt
      by_end ReadFault e = reads before.source.faults after.source.faults c.read_faults e.0
      by_end WriteFault e = reads before.sink.faults after.sink.faults c.write_faults e.0
      by_end Spent e = most before.source.taken after.source.taken c.most e.0

module _ {L : Type 0} (told : L → LinkState) where
  -- a count goes on with no fewer of its numbers
  record GoesFurther (c c' : CountState L) : Type 0 where
    read_faults : 0 < c.read_faults → 0 < c'.read_faults
    write_faults : 0 < c.write_faults → 0 < c'.write_faults
    most : c.most ≤ c'.most

  counted_on : (c c' : CountState L) → GoesFurther c c' → (end : SessionEnd) → IsCounted (sums_of c) end → IsCounted (sums_of c') end
  counted_on c c' g Eof is = tt
  counted_on c c' g Quit is = tt
  counted_on c c' g ReadFault is = g.read_faults is
  counted_on c c' g WriteFault is = g.write_faults is
  counted_on c c' g Spent is = omega (arith, is, g.most)
  counted_on c c' g (Split i j) is = tt
  counted_on c c' g NoMemory is = tt

  kept_on : (b : Bool) (kept : List (SessionNo × L)) (ls : List ReadLink) (number : SessionNo) (link : L) (l : ReadLink) → told_of told (number, link) ≡ number_and_link l → ReadLinksAreKept told b kept ls → ReadLinksAreKept told b (put_last b kept number link) (ls ++ l ∷ [])
  kept_on true kept ls number link l same k =
      map-append (told_of told) kept ((number, link) ∷ []) ∙ (ap (λ xs. xs ++ told_of told (number, link) ∷ []) k ∙ (ap (λ x. map number_and_link ls ++ x ∷ []) same ∙ sym (map-append number_and_link ls (l ∷ []))))
  kept_on false kept ls number link l same k = k

  module _ (U : Type 0) (s : Attributes) (g g' : GlassState) (c : CountState L) (ends : List SessionEnd) (number : SessionNo) (link : L) (before : LinkState) (end : SessionEnd) (l : ReadLinksServed told s g c ends) (same : U → g' ≡ g) (known : BeginsWith g'.known g.known)
      (unused : IsUnused before) (whole : (told link).source.whole ≡ before.source.whole) (served : MirrorSessionEnds U s before (told link) g g' end)
    where
      abbrev c' : CountState L
      c' = after_back c number link (told link)

      abbrev new : ReadLink
      new = record { number = number.0; link = told link; end = end }

      further : GoesFurther c c'
      further = record {
        read_faults = λ some. some_raised c.read_faults (told link).source.faults some;
        write_faults = λ some. some_raised c.write_faults (told link).sink.faults some;
        most = omega arith;
      }
        where
          some_raised : (a b : ℕ) → 0 < a → 0 < raised b a
          some_raised a b some = omega (arith, some)

      was_read : WasRead s g' new
      was_read = record { unused = before; is_unused = unused; whole = whole; never_split = unsplit U s before (told link) g g' end served; ends = over_list U s before (told link) g g' end served }

      -- one more link was served
      pub one_served : ReadLinksServed told s g' c' (ends ++ end ∷ [])
      one_served = record {
        back = omega (arith, l.back, length-append ends (end ∷ []));
        served = l.served ++ new ∷ [];
        ends_are = ap (λ es. es ++ end ∷ []) l.ends_are ∙ sym (map-append (λ (x : ReadLink). x.end) l.served (new ∷ []));
        each = All-push (WasRead s g') l.served new (All-weaker (WasRead s g) (WasRead s g') (still_read s g g' (grew U s before (told link) g g' end served same known)) l.served l.each) was_read;
        kept_are = kept_on c.keeps c.kept l.served number link new refl l.kept_are;
        counted = All-push (IsCounted (sums_of c')) ends end (All-weaker (IsCounted (sums_of c)) (IsCounted (sums_of c')) (counted_on c c' further) ends l.counted) (new_counted U s before (told link) g g' end served c number link);
        failed = λ some. further.read_faults (l.failed some);
      }

      pub one_served_as : (count : CountState L) (all : List SessionEnd) → count ≡ c' → all ≡ ends ++ end ∷ [] → ReadLinksServed told s g' count all
      one_served_as count all is are = subst (λ x. ReadLinksServed told s g' x all) (sym is) (subst (λ es. ReadLinksServed told s g' c' es) (sym are) one_served)

  -- nothing was served yet
  pub none_served : (s : Attributes) (g : GlassState) (c : CountState L) (of : TableId) (links : ℕ) (keeps : Bool) (ends : List SessionEnd) → c ≡ new_count of links keeps → ends ≡ [] → ReadLinksServed told s g c ends
  none_served s g c of links keeps ends is none =
      subst (ReadLinksServed told s g c) (sym none)
      (subst (λ x. ReadLinksServed told s g x []) (sym is)
      (record {
        back = refl;
        served = [];
        ends_are = refl;
        each = All-nil (WasRead s g);
        kept_are = none_kept keeps;
        counted = All-nil (IsCounted (sums_of (new_count {L = L} of links keeps)));
        failed = λ some. absurd (omega (arith, some));
      }))
    where
      none_kept : (b : Bool) → ReadLinksAreKept told b [] []
      none_kept true = refl
      none_kept false = refl

  -- an accept leaves what was served
  pub accepted : (s : Attributes) (g : GlassState) (c c' : CountState L) (ends : List SessionEnd) → ReadLinksServed told s g c ends → c'.back ≡ c.back → c'.keeps ≡ c.keeps → c'.kept ≡ c.kept → (0 < c.read_faults → 0 < c'.read_faults)
      → c'.write_faults ≡ c.write_faults → c'.most ≡ c.most → (0 < c'.failed → 0 < c'.read_faults) → ReadLinksServed told s g c' ends
  accepted s g c c' ends l back keeps kept reads writes most failed = record {
    back = back ∙ l.back;
    served = l.served;
    ends_are = l.ends_are;
    each = l.each;
    kept_are = subst (λ b. ReadLinksAreKept told b c'.kept l.served) (sym keeps) (subst (λ k. ReadLinksAreKept told c.keeps k l.served) (sym kept) l.kept_are);
    counted = All-weaker (IsCounted (sums_of c)) (IsCounted (sums_of c')) (counted_on c c' (record { read_faults = reads; write_faults = λ some. omega (arith, some, writes); most = omega (arith, most) })) ends l.counted;
    failed = failed;
  }
