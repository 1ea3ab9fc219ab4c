-- Each step keeps the rule of a mailbox.
use Rattle.std.proofs.Common.{◌≡◌, ◌≢◌, ◌⊎◌, ℕ, zero, suc, ◌+◌, ◌<◌, ◌≤◌, eqb, eq-eqb, ne_eqb, Bool, true, false, true≢false, ◌&&◌, ◌||◌, not, if◌then◌else◌, List, [], ◌∷◌, ◌++◌, length, set, refl, sym, ap, ◌∙◌, subst, inl, inr, ⊎_elim, arith, append_assoc}
use Rattle.std.proofs.lemmas.List.{length-append}
use Rattle.std.proofs.lemmas.List.Elements.{All-nil, All-cons, All-head, All-tail, All-append, All-push, All-weaker, All-contains, Contains-append_right}
use Rattle.std.specs.Prelude.{All, Contains}
use mathlib.Core.Option.{some, some-ne-none}
use mathlib.Core.Logic.{dite}
use native.Mathlib.Decide.{ℕ_discrete}
use lib.ListN.{get_elem?}
use Rattle.crossbeam_queue.specs.Fifo.{Pushes, Pops, Forks, Merges, Learns}
use Rattle.crossbeam_queue.proofs.Lists.{at_set}
use Rattle.be_base.specs.declared.limits.TheConstants.{BOX_LETTERS}
use Rattle.be_model.specs.Schemas.{Attributes}
use Rattle.be_model.specs.Letters.{PlainLetter}
use Rattle.be_mail.specs.Letters.{Posting, IsFor, letters_from}
use Rattle.be_mail.specs.Mailbox.{BoxId, Mailbox, ForEachState}
use Rattle.be_mail.specs.Rule.{SeatPuts, HandState, hand, no_box, idle, no_puts, first_hand, both, BoxState, Shows, Takes, Fits, Delivers, Sees}
use Rattle.be_mail.proofs.Places.{at_end, All-both}
use Rattle.be_mail.proofs.Senders.{letters_from-put, letters_from-other, nobody_put}

-- views

abbrev EachView : (ℕ → HandState → Type 0) → List HandState → Type 0
EachView F views = (p : ℕ) (v : HandState) → get_elem? views p ≡ some v → F p v

each_set : (F : ℕ → HandState → Type 0) (views : List HandState) (p : ℕ) (w : HandState) → F p w → ((j : ℕ) (u : HandState) → j ≢ p → get_elem? views j ≡ some u → F j u) → EachView F (set views p w)
each_set F views p w mine others j u e =
    ⊎_elim
    (λ (t : (j ≡ p) × (w ≡ u)). subst (λ (y : ℕ × HandState). F y.0 y.1) (λ i. (sym t.0 i, t.1 i)) mine)
    (λ (t : (j ≢ p) × (get_elem? views j ≡ some u)). others j u t.0 t.1)
    (at_set views p j w u e)

each_end : (F : ℕ → HandState → Type 0) (views : List HandState) (w : HandState) → EachView F views → F (length views) w → EachView F (views ++ w ∷ [])
each_end F views w before last j u e =
    ⊎_elim
    (λ was. before j u was)
    (λ (t : (j ≡ length views) × (w ≡ u)). subst (λ (y : ℕ × HandState). F y.0 y.1) (λ i. (sym t.0 i, t.1 i)) last)
    (at_end views w u j e)

off : {A : Type 0} → false ≡ true → A
off e = absurd (true≢false (sym e))

-- new seats

pub each_new : (P : SeatPuts → Type 0) (low n : ℕ) → ((seat : ℕ) → low ≤ seat → seat < low + n → P (seat, [])) → All P (no_puts low n)
each_new P low zero all = All-nil P
each_new P low (suc n) all = All-cons P (low, []) (no_puts (suc low) n) (all low (omega arith) (omega arith)) (each_new P (suc low) n (λ seat a b. all seat (omega arith) (omega arith)))

pub new_at : (low n seat : ℕ) → low ≤ seat → seat < low + n → Contains (no_puts low n) (seat, [])
new_at low zero seat a b = absurd (omega arith)
new_at low (suc n) seat a b = ⊎_elim
    (λ (e : low ≡ seat). (0, omega arith, ap (λ k. (k, no_letters)) e))
    (λ (h : suc low ≤ seat). let t = new_at (suc low) n seat h (omega arith) in (suc t.0, (let x = t.1 in omega arith), t.2))
    (first_or_later low seat a)
  where
    no_letters : List PlainLetter
    no_letters = []

    first_or_later : (a b : ℕ) → a ≤ b → (a ≡ b) ⊎ (suc a ≤ b)
    first_or_later a b h = dite (ℕ_discrete a b) (λ e. inl e) (λ ne. inr (omega arith))

-- who has what j had: the heir where j is the one that gives it up, and else who had it
abbrev heir : ℕ → ℕ → ℕ → ℕ → ℕ
heir new gone j was = if eqb j gone then new else was

heir_of : (new gone j was : ℕ) → j ≡ gone → heir new gone j was ≡ new
heir_of new gone j was e = ap (λ b. if b then new else was) (eq-eqb j gone e)

heir_else : (new gone j was : ℕ) → j ≢ gone → heir new gone j was ≡ was
heir_else new gone j was ne = ap (λ b. if b then new else was) (ne_eqb j gone ne)

module _ (schema : Attributes) (seats : ℕ) (found : BoxId → Mailbox → Type 0) where
  pub begins : ForEachState found → Delivers schema seats found [] (first_hand seats ∷ [])
  begins receipts =
      let s : BoxState = record { at = no_box; owner = λ seat. 0; taker = 0; taken = [] } in (
        s,
        record {
          receipts = receipts;
          only = All-nil (IsFor schema seats 0);
          room = omega arith;
          fits = each_end (Fits seats s []) [] (first_hand seats) (λ j u e. absurd (some-ne-none u (sym e)))
              (record {
                puts = each_new (Shows seats s [] 0 no_box) 0 seats (λ seat a b. record { seat = omega arith; place = refl; owner = refl; order = refl });
                takes = λ _. record { place = refl; taker = refl; taken = refl };
              });
        },
      )

  pub puts : (n pass : ℕ) (at : BoxId) (xs : List PlainLetter) (takes : Bool) (taken : List Posting) (x : Posting) → n ≡ BOX_LETTERS → IsFor schema seats at.seat x
      → Pushes (Delivers schema seats found) n pass (hand at ((x.from, xs) ∷ []) takes taken) x (λ w. w ≡ hand at ((x.from, xs ++ x.letter ∷ []) ∷ []) takes taken)
  puts n pass at xs takes taken x capacity fit items views less h here =
      let s : BoxState = h.0 in
      let k = h.1 in
      let v = hand at ((x.from, xs) ∷ []) takes taken in
      let w = hand at ((x.from, xs ++ x.letter ∷ []) ∷ []) takes taken in
      let mine = k.fits pass v here in
      let own = All-head (Shows seats s items pass at) (x.from, xs) [] mine.puts in
      let now : List Posting = items ++ x ∷ [] in
      let same : (s.taken ++ items) ++ x ∷ [] ≡ s.taken ++ now = append_assoc s.taken items (x ∷ []) in
      let F = Fits seats s now in (
        w,
        (
          s,
          record {
            receipts = k.receipts;
            only = subst (All (IsFor schema seats s.at.seat)) same (All-push (IsFor schema seats s.at.seat) (s.taken ++ items) x k.only (subst (λ (a : BoxId). IsFor schema seats a.seat x) own.place fit));
            room = one_more (length items) n (length now) (length-append items (x ∷ [])) capacity less;
            fits = each_set F views pass w
                (record {
                  puts = All-cons (Shows seats s now pass at) (x.from, xs ++ x.letter ∷ []) []
                      (record { seat = own.seat; place = own.place; owner = own.owner; order = ap (letters_from x.from) (sym same) ∙ letters_from-put x.from (s.taken ++ items) x refl ∙ ap (λ l. l ++ x.letter ∷ []) own.order })
                      (All-nil (Shows seats s now pass at));
                  takes = mine.takes;
                })
                (λ j u other e. let theirs = k.fits j u e in record {
                  puts = All-weaker (Shows seats s items j u.at) (Shows seats s now j u.at)
                      (λ y is. record { seat = is.seat; place = is.place; owner = is.owner; order = ap (letters_from y.0) (sym same) ∙ letters_from-other y.0 (s.taken ++ items) x (λ e. other (sym is.owner ∙ ap s.owner (sym e) ∙ own.owner)) ∙ is.order })
                      u.puts theirs.puts;
                  takes = theirs.takes;
                });
          },
        ),
        refl,
      )
    where
      one_more : (before n after : ℕ) → after ≡ before + 1 → n ≡ BOX_LETTERS → before < n → after ≤ BOX_LETTERS
      one_more before n after longer capacity less = omega arith

  pub fetches : (pass : ℕ) (at : BoxId) (es : List SeatPuts) (taken : List Posting)
      → Pops (Delivers schema seats found) pass (hand at es true taken) (λ x w. (w ≡ hand at es true (taken ++ x ∷ [])) × IsFor schema seats at.seat x)
  fetches pass at es taken x items views h here =
      let s : BoxState = h.0 in
      let k = h.1 in
      let mine = k.fits pass (hand at es true taken) here in
      let key = mine.takes refl in
      let w = hand at es true (taken ++ x ∷ []) in
      let s' : BoxState = record { at = s.at; owner = s.owner; taker = s.taker; taken = s.taken ++ x ∷ [] } in
      let same : (s.taken ++ x ∷ []) ++ items ≡ s.taken ++ x ∷ items = append_assoc s.taken (x ∷ []) items in
      let still : (j : ℕ) (a : BoxId) (l : List SeatPuts) → All (Shows seats s (x ∷ items) j a) l → All (Shows seats s' items j a) l = λ j a l all.
      All-weaker (Shows seats s (x ∷ items) j a) (Shows seats s' items j a) (λ y is. record { seat = is.seat; place = is.place; owner = is.owner; order = ap (letters_from y.0) same ∙ is.order }) l all in (
        w,
        (
          s',
          record {
            receipts = k.receipts;
            only = subst (All (IsFor schema seats s.at.seat)) (sym same) k.only;
            room = let r = k.room in omega arith;
            fits = each_set (Fits seats s' items) views pass w
                (record { puts = still pass at es mine.puts; takes = λ _. record { place = key.place; taker = key.taker; taken = ap (λ l. l ++ x ∷ []) key.taken } })
                (λ j u other e. let theirs = k.fits j u e in record { puts = still j u.at u.puts theirs.puts; takes = λ t. absurd (other (sym (theirs.takes t).taker ∙ key.taker)) });
          },
        ),
        (refl, subst (λ (a : BoxId). IsFor schema seats a.seat x) (sym key.place) (All-contains (IsFor schema seats s.at.seat) (s.taken ++ x ∷ items) x k.only (Contains-append_right s.taken (x ∷ items) x (0, omega arith, refl)))),
      )

  -- what a pass shows holds of the whole mailbox
  pub learns : (pass : ℕ) (v : HandState) (e : SeatPuts) (es : List SeatPuts) → v.puts ≡ e ∷ es → Learns (Delivers schema seats found) pass v (Sees schema seats found v)
  learns pass v e es first items views h here =
      let s : BoxState = h.0 in
      let k = h.1 in
      let mine = k.fits pass v here in
      let own = All-head (Shows seats s items pass v.at) e es (subst (All (Shows seats s items pass v.at)) first mine.puts) in
      record {
        taken = s.taken;
        only = subst (λ (a : BoxId). All (IsFor schema seats a.seat) (s.taken ++ items)) (sym own.place) k.only;
        room = k.room;
        puts = All-weaker (Shows seats s items pass v.at) (λ (y : SeatPuts). letters_from y.0 (s.taken ++ items) ≡ y.1) (λ y is. is.order) v.puts mine.puts;
        own = λ t. (mine.takes t).taken;
        receipt = k.receipts v.at (record { taken = s.taken; queued = items });
      }

  -- while nothing was put, the mailbox may get another name
  pub names : (pass : ℕ) (at name : BoxId) → Forks (Delivers schema seats found) pass (hand at (no_puts 0 seats) true []) (hand name (no_puts 0 seats) true []) idle
  names pass at name items views h here =
      let s : BoxState = h.0 in
      let k = h.1 in
      let v = hand at (no_puts 0 seats) true [] in
      let w = hand name (no_puts 0 seats) true [] in
      let mine = k.fits pass v here in
      let key = mine.takes refl in
      let s' : BoxState = record { at = name; owner = s.owner; taker = s.taker; taken = s.taken } in
      let own : (seat : ℕ) → seat < seats → Shows seats s items pass at (seat, []) = λ seat h. All-contains (Shows seats s items pass at) (no_puts 0 seats) (seat, []) mine.puts (new_at 0 seats seat (omega arith) (omega arith)) in
      let nothing : s.taken ++ items ≡ [] = nobody_put seats (s.taken ++ items) (All-weaker (IsFor schema seats s.at.seat) (λ (x : Posting). x.from < seats) (λ x is. is.from) (s.taken ++ items) k.only) (λ seat h. (own seat h).order) in
      let F = Fits seats s' items in (
        s',
        record {
          receipts = k.receipts;
          only = subst (All (IsFor schema seats name.seat)) (sym nothing) (All-nil (IsFor schema seats name.seat));
          room = k.room;
          fits = each_end F (set views pass w) idle
              (each_set F views pass w
              (record {
                puts = All-weaker (Shows seats s items pass at) (Shows seats s' items pass name) (λ y is. record { seat = is.seat; place = refl; owner = is.owner; order = is.order }) (no_puts 0 seats) mine.puts;
                takes = λ _. record { place = refl; taker = key.taker; taken = key.taken };
              })
              (λ q y other e. let theirs = k.fits q y e in record {
                puts = All-weaker (Shows seats s items q y.at) (Shows seats s' items q y.at) (λ z is. absurd (other (sym is.owner ∙ (own z.0 is.seat).owner))) y.puts theirs.puts;
                takes = λ t. absurd (other (sym (theirs.takes t).taker ∙ key.taker));
              }))
              (record { puts = All-nil (Shows seats s' items (length (set views pass w)) no_box); takes = λ t. off t });
        },
      )

  -- the first seat of a pass gets a pass of its own, which takes where `key`
  pub hands_out : (pass : ℕ) (at : BoxId) (low : ℕ) (xs : List PlainLetter) (rest : List SeatPuts) (takes key : Bool) (taken : List Posting) → All (λ (e : SeatPuts). e.0 ≢ low) rest
      → Forks (Delivers schema seats found) pass (hand at ((low, xs) ∷ rest) takes taken) (hand at rest (takes && not key) taken) (hand at ((low, xs) ∷ []) (takes && key) taken)
  hands_out pass at low xs rest takes key taken apart items views h here =
      let s : BoxState = h.0 in
      let k = h.1 in
      let v = hand at ((low, xs) ∷ rest) takes taken in
      let l = hand at rest (takes && not key) taken in
      let r = hand at ((low, xs) ∷ []) (takes && key) taken in
      let new : ℕ = length (set views pass l) in
      let mine = k.fits pass v here in
      let own = All-head (Shows seats s items pass at) (low, xs) rest mine.puts in
      let s' : BoxState = record { at = s.at; owner = λ j. heir new low j (s.owner j); taker = if takes && key then new else s.taker; taken = s.taken } in
      let F = Fits seats s' items in
      let still : (j : ℕ) (a : BoxId) (e : SeatPuts) → e.0 ≢ low → Shows seats s items j a e → Shows seats s' items j a e = λ j a e ne is.
      record { seat = is.seat; place = is.place; owner = heir_else new low e.0 (s.owner e.0) ne ∙ is.owner; order = is.order } in (
        s',
        record {
          receipts = k.receipts;
          only = k.only;
          room = k.room;
          fits = each_end F (set views pass l) r
              (each_set F views pass l
              (record {
                puts = All-both (λ (e : SeatPuts). e.0 ≢ low) (Shows seats s items pass at) (Shows seats s' items pass at) (still pass at) rest apart (All-tail (Shows seats s items pass at) (low, xs) rest mine.puts);
                takes = left_takes takes key s new mine.takes;
              })
              (λ q y other e. let theirs = k.fits q y e in record {
                puts = All-weaker (Shows seats s items q y.at) (Shows seats s' items q y.at) (λ z is. still q y.at z (λ e. other (sym is.owner ∙ ap s.owner e ∙ own.owner)) is) y.puts theirs.puts;
                takes = λ t. let u = theirs.takes t in record { place = u.place; taker = kept_taker takes key s.taker new (λ b. other (sym u.taker ∙ (mine.takes b).taker)) ∙ u.taker; taken = u.taken };
              }))
              (record {
                puts = All-cons (Shows seats s' items new at) (low, xs) [] (record { seat = own.seat; place = own.place; owner = heir_of new low low (s.owner low) refl; order = own.order }) (All-nil (Shows seats s' items new at));
                takes = right_takes takes key s new mine.takes;
              });
        },
      )
    where
      kept_taker : (takes key : Bool) (was new : ℕ) → (takes ≡ true → ⊥) → (if takes && key then new else was) ≡ was
      kept_taker true key was new never = absurd (never refl)
      kept_taker false key was new never = refl

      left_takes : (takes key : Bool) (s : BoxState) (new : ℕ) → (takes ≡ true → Takes s pass at taken) → takes && not key ≡ true
          → Takes (record { at = s.at; owner = λ j. heir new low j (s.owner j); taker = if takes && key then new else s.taker; taken = s.taken }) pass at taken
      left_takes true true s new mine e = off e
      left_takes true false s new mine e = let t = mine refl in record { place = t.place; taker = t.taker; taken = t.taken }
      left_takes false key s new mine e = off e

      right_takes : (takes key : Bool) (s : BoxState) (new : ℕ) → (takes ≡ true → Takes s pass at taken) → takes && key ≡ true
          → Takes (record { at = s.at; owner = λ j. heir new low j (s.owner j); taker = if takes && key then new else s.taker; taken = s.taken }) new at taken
      right_takes true true s new mine e = let t = mine refl in record { place = t.place; taker = refl; taken = t.taken }
      right_takes true false s new mine e = off e
      right_takes false key s new mine e = off e

  pub merges : (pass : ℕ) (v : HandState) (other : ℕ) (u : HandState) → u.at ≡ v.at → Merges (Delivers schema seats found) pass v other u (both v u) idle
  merges pass v other u place items views h here apart there =
      let s : BoxState = h.0 in
      let k = h.1 in
      let w = both v u in
      let mine = k.fits pass v here in
      let was : get_elem? views other ≡ some u = ⊎_elim (λ (x : (other ≡ pass) × (w ≡ u)). absurd (apart x.0)) (λ (x : (other ≢ pass) × (get_elem? views other ≡ some u)). x.1) (at_set views pass other w u there) in
      let theirs = k.fits other u was in
      let s' : BoxState = record { at = s.at; owner = λ j. heir pass other (s.owner j) (s.owner j); taker = heir pass other s.taker s.taker; taken = s.taken } in
      let F = Fits seats s' items in
      let kept : heir pass other pass pass ≡ pass = heir_else pass other pass pass (λ e. apart (sym e)) in
      let still : (j : ℕ) (a : BoxId) → j ≢ other → (e : SeatPuts) → Shows seats s items j a e → Shows seats s' items j a e = λ j a ne e is.
      record { seat = is.seat; place = is.place; owner = heir_else pass other (s.owner e.0) (s.owner e.0) (λ e. ne (sym is.owner ∙ e)) ∙ is.owner; order = is.order } in (
        s',
        record {
          receipts = k.receipts;
          only = k.only;
          room = k.room;
          fits = each_set F (set views pass w) other idle (record { puts = All-nil (Shows seats s' items other no_box); takes = λ t. off t })
              (λ j y not_other e. each_set (λ q z. q ≢ other → F q z) views pass w
              (λ ne. record {
                puts = All-append (Shows seats s' items pass v.at) v.puts u.puts
                    (All-weaker (Shows seats s items pass v.at) (Shows seats s' items pass v.at) (still pass v.at ne) v.puts mine.puts)
                    (All-weaker (Shows seats s items other u.at) (Shows seats s' items pass v.at) (λ z is. record { seat = is.seat; place = sym place ∙ is.place; owner = heir_of pass other (s.owner z.0) (s.owner z.0) is.owner; order = is.order }) u.puts theirs.puts);
                takes = joined v.takes u.takes v.taken u.taken s kept mine.takes theirs.takes;
              })
              (λ q z not_pass e' away. let m = k.fits q z e' in record {
                puts = All-weaker (Shows seats s items q z.at) (Shows seats s' items q z.at) (still q z.at away) z.puts m.puts;
                takes = λ t. let a = m.takes t in record { place = a.place; taker = heir_else pass other s.taker s.taker (λ e. away (sym a.taker ∙ e)) ∙ a.taker; taken = a.taken };
              })
              j y e not_other);
        },
      )
    where
      joined : (t t' : Bool) (xs xs' : List Posting) (s : BoxState) → heir pass other pass pass ≡ pass → (t ≡ true → Takes s pass v.at xs) → (t' ≡ true → Takes s other u.at xs') → t || t' ≡ true
          → Takes (record { at = s.at; owner = λ j. heir pass other (s.owner j) (s.owner j); taker = heir pass other s.taker s.taker; taken = s.taken }) pass v.at (if t' then xs' else xs)
      joined t true xs xs' s kept mine theirs e = let m = theirs refl in record { place = sym place ∙ m.place; taker = heir_of pass other s.taker s.taker m.taker; taken = m.taken }
      joined true false xs xs' s kept mine theirs e = let m = mine refl in record { place = m.place; taker = ap (λ q. heir pass other q q) m.taker ∙ kept; taken = m.taken }
      joined false false xs xs' s kept mine theirs e = off e
