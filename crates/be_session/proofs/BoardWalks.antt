-- A board's answers, one after another, are legal over each list that bears its word out.
use Rattle.std.proofs.Common.{◌≡◌, ℕ, ◌+◌, ◌==◌, Bool, true, false, ◌&&◌, ◌||◌, cond, List, [], ◌∷◌, ◌++◌, length, take, drop, Some, refl, sym, ap, ◌∙◌, subst, arith, length-append, append_assoc}
use Rattle.std.specs.List.{list_any, list_all}
use Rattle.std.proofs.lemmas.Bool.{eq-eqb, eqb-true}
use Rattle.be_model.proofs.Attributes.{and_left}
use Rattle.std.proofs.lemmas.List.{append-nil, length-map, take-append-drop}
use Rattle.std.proofs.lemmas.List.Folds.{list_all-append}
use Rattle.be_base.proofs.Beginnings.{BeginsWith-same, BeginsWith-along}
use Rattle.be_model.specs.declared.changes.Row.{Row}
use Rattle.be_model.specs.ByIds.{ByIds, row_at}
use Rattle.be_model.specs.Schemas.{Attributes}
use Rattle.be_change.specs.History.{Entry, subscribed, unsubscribed, left, session_of, is_leave_of, live, IsWellFormed}
use Rattle.be_change.specs.Made.{made, changes_made, change_made, change_named}
use Rattle.be_change.specs.Requests.{Request, subscribe, unsubscribe, quit, Reply, ok, held, bye, other, split, shut, Exchange}
use Rattle.be_change.specs.Walk.{Walk, beginning_at, Answers, HasNameOfAnotherAt, accepted, place_accepted}
use Rattle.be_change.proofs.Alone.{accepted-append, made-snoc}
use Rattle.be_change.proofs.Extends.{legal-snoc}
use Rattle.be_change.proofs.Forms.{formed_take}
use Rattle.be_change.proofs.Owners.{live_owned}
use Rattle.be_protocol.specs.Runs.{is_opened, comes_in_run, length_told, IsTold, TellsCounts, RemovalMayWant, RemovalsMayWant}
use Rattle.be_board.specs.State.{BoardState}
use Rattle.be_board.specs.Word.{own_of, own_in, Keeps}
use Rattle.be_board.proofs.Going.{GoesOn-same, gone_on, HasGoneOn-along}
use Rattle.be_session.specs.Bearing.{Bears}
use Rattle.be_protocol.specs.Ends.{goes_on}
use Rattle.be_session.specs.Served.{BeginsAlone}
use Rattle.be_session.specs.Steps.{places_in, IsLedOn, StepsAlone, Steps}
use Rattle.be_session.specs.SoFar.{IsLegalSoFar, RunsOver, BoardServes}
use Rattle.be_session.proofs.BearsOut.{bears_kept, bears_before, own_begins, adds_none, adds_along}
use Rattle.be_session.proofs.Tying.{full_none, full_on}

-- a session without an accepted change hasn't left
not_gone : (k : ℕ) (own : List (ℕ × Entry)) → own_of k own ≡ [] → list_any (λ (p : ℕ × Entry). is_leave_of k p.1) own ≡ false
not_gone k [] e = refl
not_gone k (p ∷ ps) e = by_session (not_gone k ps) (session_of p.1 == k) refl e
  where
    no_leave : (x : Entry) → (session_of x == k) ≡ false → is_leave_of k x ≡ false
    no_leave (subscribed j n row) f = refl
    no_leave (unsubscribed j n name) f = refl
    no_leave (left j n) f = f

    by_session : (own_of k ps ≡ [] → list_any (λ (q : ℕ × Entry). is_leave_of k q.1) ps ≡ false) → (b : Bool) → (session_of p.1 == k) ≡ b → cond b (p ∷ own_of k ps) (own_of k ps) ≡ [] → (is_leave_of k p.1 || list_any (λ (q : ℕ × Entry). is_leave_of k q.1) ps) ≡ false
    by_session rest true is f = absurd cc
    by_session rest false is f = rw (no_leave p.1 is, rest f) refl

pub serves_first : (s : Attributes) (b : BoardState) → own_in b.word ≡ [] → BoardServes s true [] b b
serves_first s b first = record {
  goes = gone_on b b (GoesOn-same b);
  own = adds_none b.word b.word refl;
  notes = BeginsWith-same b.word.notes;
  places = ap places_in first;
  present = λ on. not_gone b.word.session b.word.own first;
  borne = λ h bears. record {
    walk = beginning_at (length b.word.known);
    legal = refl;
    stands = record { seen = omega arith; own = omega arith; serial = sym (ap (λ (l : List (ℕ × Entry)). length l) first) };
    ended = refl;
    full = full_none h b.counts;
  };
  alone = λ a. record {
    alone = a.alone;
    told = a.told;
    made = append-nil b.word.known;
    serials = sym (ap (λ (l : List (ℕ × Entry)). length l) first);
    keeps = a.keeps;
    replies = record { plain = refl; counts = tt; removals = tt };
  };
}

-- what bears out the board's later word bears out the earlier one
pub bears_step : (s : Attributes) (h : List Entry) (p : Exchange) (b b' : BoardState) → Steps s p b b' → Bears h b'.word → Bears h b.word
bears_step s h p b b' st bears = bears_before h b.word b'.word st.goes.session st.goes.known (own_begins b.word b'.word st.own) st.notes bears

accepted_snoc : (ps : List Exchange) (p : Exchange) → accepted (ps ++ p ∷ []) ≡ accepted ps ++ place_accepted p.1
accepted_snoc ps p = accepted-append ps (p ∷ []) ∙ ap (λ (l : List ℕ). accepted ps ++ l) (append-nil (place_accepted p.1))

places_on : (s : Attributes) (ps : List Exchange) (p : Exchange) (c d : BoardState) → places_in (own_in c.word) ≡ accepted ps → Steps s p c d → places_in (own_in d.word) ≡ accepted (ps ++ p ∷ [])
places_on s ps p c d e st = st.places ∙ ap (λ (l : List ℕ). l ++ place_accepted p.1) e ∙ sym (accepted_snoc ps p)

-- the changes that a session makes are its own
mine_named : (k n m : ℕ) (r : Request) → list_all (λ (e : Entry). session_of e == k) (change_named k n m r) ≡ true
mine_named k n m (subscribe name conj) = ap (λ (b : Bool). b && true) (eq-eqb k k refl)
mine_named k n m (unsubscribe name) = ap (λ (b : Bool). b && true) (eq-eqb k k refl)
mine_named k n m quit = ap (λ (b : Bool). b && true) (eq-eqb k k refl)
mine_named k n m _ = refl

mine_one : (k n m : ℕ) (p : Exchange) → list_all (λ (e : Entry). session_of e == k) (change_made k n m p) ≡ true
mine_one k n m (r, ok i) = mine_named k n m r
mine_one k n m (r, held i) = mine_named k n m r
mine_one k n m (r, bye i) = mine_named k n m r
mine_one k n m (r, _) = refl

mine_made : (k n m : ℕ) (ps : List Exchange) → list_all (λ (e : Entry). session_of e == k) (changes_made k n m ps) ≡ true
mine_made k n m [] = refl
mine_made k n m (p ∷ ps) =
    let c : List Entry = change_made k n m p in
    list_all-append (λ (e : Entry). session_of e == k) c (changes_made k (n + length c) (m + length c) ps)
    ∙ rw (mine_one k n m p, mine_made k (n + length c) (m + length c) ps) refl

row_passes : (k : ℕ) (l : ByIds) (id : ℕ) (row : Row) → list_all (λ (r : ℕ × Row). r.1.session.0 == k) l ≡ true → row_at id l ≡ Some row → (row.session.0 == k) ≡ true
row_passes k [] id row all e = absurd cc
row_passes k (r ∷ rs) id row all e = by_id (row_passes k rs id row) (r.0 == id) (r.1.session.0 == k) refl refl all e
  where
    by_id : (list_all (λ (x : ℕ × Row). x.1.session.0 == k) rs ≡ true → row_at id rs ≡ Some row → (row.session.0 == k) ≡ true) → (b c : Bool) → (r.0 == id) ≡ b → (r.1.session.0 == k) ≡ c → (c && list_all (λ (x : ℕ × Row). x.1.session.0 == k) rs) ≡ true → cond b (Some r.1) (row_at id rs) ≡ Some row → (row.session.0 == k) ≡ true
    by_id rest b false here own f g = absurd cc
    by_id rest true true here own f g = let same : r.1 ≡ row = cc in ap (λ (x : Row). x.session.0 == k) (sym same) ∙ own
    by_id rest false true here own f g = rest f g

-- no row of another session is live where there was no opening
none_of_another : (k m : ℕ) (h : List Entry) (id : ℕ) (name : List ℕ) → IsWellFormed h → list_all (λ (e : Entry). session_of e == k) h ≡ true → HasNameOfAnotherAt k (live (take m h)) id name → ⊥
none_of_another k m h id name formed all at =
    let split : list_all (λ (e : Entry). session_of e == k) (take m h ++ drop m h) ≡ true = ap (list_all (λ (e : Entry). session_of e == k)) (take-append-drop m h) ∙ all in
    let front : list_all (λ (e : Entry). session_of e == k) (take m h) ≡ true =
    and_left (list_all (λ (e : Entry). session_of e == k) (take m h)) (list_all (λ (e : Entry). session_of e == k) (drop m h)) (sym (list_all-append (λ (e : Entry). session_of e == k) (take m h) (drop m h)) ∙ split) in
    at.3 (eqb-true at.0.session.0 k (row_passes k (live (take m h)) id at.0 (live_owned (λ (j : ℕ). j == k) (take m h) (formed_take m h formed) front) at.1))

-- a reply comes in a run, unless it names another session's row where there was no opening
comes_so : (opened : Bool) (t : Reply) → comes_in_run true t ≡ true → ((m id : ℕ) → t ≡ other m id → opened ≡ true) → comes_in_run opened t ≡ true
comes_so opened (other m id) plain so = so m id refl
comes_so opened (held n) plain so = absurd cc
comes_so opened (split a b) plain so = absurd cc
comes_so opened shut plain so = absurd cc
comes_so opened _ plain so = plain

names_another : (s : Attributes) (k m id : ℕ) (h : List Entry) (r : Request) (w w' : Walk) → Answers s k h r (other m id) w w' → (name : List ℕ) × HasNameOfAnotherAt k (live (take m h)) id name
names_another s k m id h (unsubscribe name) w w' a = (name, a.1)
names_another s k m id h _ w w' a = absurd a

another_opened : (s : Attributes) (k m id : ℕ) (o : List Entry) (ps : List Exchange) (r : Request) (w w' : Walk) → IsWellFormed (made o k ps) → Answers s k (made o k ps) r (other m id) w w' → is_opened o ≡ true
another_opened s k m id [] ps r w w' formed a =
    let named = names_another s k m id (made [] k ps) r w w' a in
    absurd (none_of_another k m (made [] k ps) id named.0 formed (mine_made k 0 0 ps) named.1)
another_opened s k m id (e ∷ es) ps r w w' formed a = refl

counts_push : (n : ℕ) (ps : List Exchange) (p : Exchange) → TellsCounts n ps → IsTold (n + length (accepted (ps ++ p ∷ []))) (length_told p.1) → TellsCounts n (ps ++ p ∷ [])
counts_push n [] p counts told = (told, tt)
counts_push n (q ∷ ps) p counts told =
    let one : List ℕ = accepted (q ∷ []) in
    let rest : List ℕ = accepted (ps ++ p ∷ []) in
    let same : n + length (accepted (q ∷ (ps ++ p ∷ []))) ≡ (n + length one) + length rest =
    omega (arith, ap (λ (l : List ℕ). length l) (accepted-append (q ∷ []) (ps ++ p ∷ [])), length-append one rest) in
    (counts.0, counts_push (n + length one) ps p counts.1 (subst (λ (m : ℕ). IsTold m (length_told p.1)) same told))

removals_push : (o : List Entry) (k : ℕ) (before ps : List Exchange) (p : Exchange) → RemovalsMayWant o k before ps → RemovalMayWant k (made o k (before ++ ps)) p → RemovalsMayWant o k before (ps ++ p ∷ [])
removals_push o k before [] p all last = (subst (λ (qs : List Exchange). RemovalMayWant k (made o k qs) p) (append-nil before) last, tt)
removals_push o k before (q ∷ ps) p all last =
    (all.0, removals_push o k (before ++ q ∷ []) ps p all.1 (subst (λ (qs : List Exchange). RemovalMayWant k (made o k qs) p) (sym (append_assoc before (q ∷ []) ps)) last))

-- the list that a session makes alone, with one more exchange
runs_on : (s : Attributes) (ps : List Exchange) (p : Exchange) (b c d : BoardState) → BoardServes s true ps b c → Steps s p c d → BeginsAlone b → RunsOver s (ps ++ p ∷ []) b d
runs_on s ps p b c d g st a =
    let r : RunsOver s ps b c = g.alone a in
    let q : StepsAlone p c d = st.alone r.alone r.told in
    let k : ℕ = b.word.session in
    let o : List Entry = b.word.known in
    let same : c.word.session ≡ k = g.goes.session in
    let serial : ℕ = length (changes_made k 0 (length o) ps) in
    let change : List Entry = change_made k serial (length (made o k ps)) p in
    let change_is : change ≡ change_made c.word.session (length (own_in c.word)) (length c.word.known) p =
    ap (λ (n : ℕ). change_made k n (length (made o k ps)) p) r.serials
    ∙ ap (λ (h : List Entry). change_made k (length (own_in c.word)) (length h) p) r.made
    ∙ ap (λ (j : ℕ). change_made j (length (own_in c.word)) (length c.word.known) p) (sym same) in
    let made_is : made o k (ps ++ p ∷ []) ≡ d.word.known =
    made-snoc o k ps p
    ∙ (ap (λ (h : List Entry). h ++ change) r.made
    ∙ (ap (λ (e : List Entry). c.word.known ++ e) change_is ∙ sym q.grows)) in
    let keeps : Keeps d.word.known d.word = q.keeps r.keeps in
    let longer : length (made o k (ps ++ p ∷ [])) ≡ length (made o k ps) + length change =
    ap (λ (h : List Entry). length h) (made-snoc o k ps p) ∙ length-append (made o k ps) change in
    let before : length (made o k ps) ≡ length o + serial = length-append o (changes_made k 0 (length o) ps) in
    let after : length (made o k (ps ++ p ∷ [])) ≡ length o + length (changes_made k 0 (length o) (ps ++ p ∷ [])) =
    length-append o (changes_made k 0 (length o) (ps ++ p ∷ [])) in
    let counted : length (own_in d.word) ≡ length (own_in c.word) + length change = q.counted ∙ ap (λ (e : List Entry). length (own_in c.word) + length e) (sym change_is) in
    let serials : length (changes_made k 0 (length o) (ps ++ p ∷ [])) ≡ length (own_in d.word) = omega (arith, longer, before, after, counted, r.serials) in
    let many : length (own_in d.word) ≡ length (accepted (ps ++ p ∷ [])) =
    sym (length-map (own_in d.word) (λ (x : ℕ × Entry). x.0)) ∙ ap (λ (l : List ℕ). length l) (places_on s ps p c d g.places st) in
    let tells : length d.word.known ≡ length o + length (accepted (ps ++ p ∷ [])) =
    sym (ap (λ (h : List Entry). length h) made_is) ∙ (after ∙ ap (λ (n : ℕ). length o + n) (serials ∙ many)) in
    let bears : Bears d.word.known d.word = bears_kept d.word.known d.word keeps in
    let so_far : IsLegalSoFar s d.word.known true ps b c = g.borne d.word.known (bears_step s d.word.known p c d st bears) in
    let led : IsLedOn s d.word.known so_far.walk p c d = st.borne d.word.known so_far.walk bears so_far.stands so_far.ended in
    let comes : comes_in_run (is_opened o) p.1 ≡ true =
    comes_so (is_opened o) p.1 q.plain
    (λ m id is. another_opened s k m id o (ps ++ p ∷ []) p.0 so_far.walk led.next (subst (λ (h : List Entry). IsWellFormed h) (sym made_is) keeps.formed)
    (subst (λ (h : List Entry). Answers s k h p.0 (other m id) so_far.walk led.next) (sym made_is)
    (subst (λ (j : ℕ). Answers s j d.word.known p.0 (other m id) so_far.walk led.next) same
    (subst (λ (t : Reply). Answers s c.word.session d.word.known p.0 t so_far.walk led.next) is led.answers)))) in
    record {
      alone = st.goes.alone ∙ r.alone;
      told = q.told;
      made = made_is;
      serials = serials;
      keeps = keeps;
      replies = record {
        plain = list_all-append (λ (x : Exchange). comes_in_run (is_opened o) x.1) ps (p ∷ []) ∙ rw (r.replies.plain, comes) refl;
        counts = counts_push (length o) ps p r.replies.counts (subst (λ (n : ℕ). IsTold n (length_told p.1)) tells q.tells);
        removals = removals_push o k [] ps p r.replies.removals
            (subst (λ (h : List Entry). RemovalMayWant k h p) (sym r.made) (subst (λ (j : ℕ). RemovalMayWant j c.word.known p) same q.removal));
      };
    }

-- one more exchange
pub serves_step : (s : Attributes) (ps : List Exchange) (p : Exchange) (b c d : BoardState) → BoardServes s true ps b c → Steps s p c d → BoardServes s (goes_on p) (ps ++ p ∷ []) b d
serves_step s ps p b c d g st = record {
  goes = HasGoneOn-along b c d g.goes (gone_on c d st.goes);
  own = adds_along b.word c.word d.word g.goes.session g.own st.own;
  notes = BeginsWith-along d.word.notes c.word.notes b.word.notes st.notes g.notes;
  places = places_on s ps p c d g.places st;
  present = λ on. st.present (g.present refl) on;
  borne = λ h bears.
      let l : IsLegalSoFar s h true ps b c = g.borne h (bears_step s h p c d st bears) in
      let m : IsLedOn s h l.walk p c d = st.borne h l.walk bears l.stands l.ended in
      record {
        walk = m.next;
        legal = legal-snoc s b.word.session h ps p.0 p.1 (beginning_at (length b.word.known)) l.walk m.next l.legal l.ended
            (subst (λ (j : ℕ). Answers s j h p.0 p.1 l.walk m.next) g.goes.session m.answers);
        stands = m.stands;
        ended = m.ended;
        full = full_on h ps (p ∷ []) b.counts c.counts d.counts l.full m.full;
      };
  alone = λ a. runs_on s ps p b c d g st a;
}
