-- What the replies of a session say of its lines: which of them is a QUIT.
use Rattle.std.proofs.Common.{◌≡◌, ℕ, Bool, true, false, not, ◌&&◌, List, [], ◌∷◌, ◌++◌, map, Some, None, refl, sym, ap, ◌∙◌}
use Rattle.std.specs.List.{list_all}
use Rattle.std.proofs.lemmas.Bool.{and_parts, and_from}
use Rattle.std.proofs.lemmas.List.Folds.{list_all-append, list_all-map}
use Rattle.be_io.specs.Lines.{TextLine}
use Rattle.be_model.specs.Schemas.{Attributes}
use Rattle.be_change.specs.Requests.{Request, refused, subscribe, unsubscribe, publish, costing, listing, sending, fetching, dumping, tailing, quit, Reply, refusal, ok, held, bye, dup, none, other, hit, cost, listed, sent, notes, dumped, tailed, split, no_memory, shut, Exchange}
use Rattle.be_protocol.specs.Readings.{reading}
use Rattle.be_protocol.specs.Runs.{comes_in_run, is_quit, HasNoQuit, EndsWithQuit}
use Rattle.be_protocol.specs.Transcript.{requests}
use Rattle.be_protocol.specs.declared.ends.SessionEnd.TheVariants.{Quit, Split}
use Rattle.be_protocol.specs.Ends.{end_after, has_not_ended, goes_on}

-- how a reply ends the session
pub data Ended (r : Request) (t : Reply) : Type 0 where
  by_split : (i j : ℕ) → t ≡ split i j → end_after r t ≡ Some (Split i j) → Ended r t
  by_quit : r ≡ quit → end_after r t ≡ Some Quit → Ended r t
  by_none : is_quit r ≡ false → end_after r t ≡ None → Ended r t

-- no other reply than a SPLIT ends the session where it answers no QUIT
pub ended_of : (r : Request) (t : Reply) → Ended r t
ended_of r (split i j) = by_split i j refl refl
ended_of quit (refusal u) = by_quit refl refl
ended_of quit (ok u) = by_quit refl refl
ended_of quit (held u) = by_quit refl refl
ended_of quit (bye u) = by_quit refl refl
ended_of quit (dup u v) = by_quit refl refl
ended_of quit (none u) = by_quit refl refl
ended_of quit (other u v) = by_quit refl refl
ended_of quit (hit u v) = by_quit refl refl
ended_of quit (cost u v) = by_quit refl refl
ended_of quit (listed u v) = by_quit refl refl
ended_of quit (sent u v w) = by_quit refl refl
ended_of quit (notes u) = by_quit refl refl
ended_of quit (dumped u v) = by_quit refl refl
ended_of quit (tailed u v w) = by_quit refl refl
ended_of quit no_memory = by_quit refl refl
ended_of quit shut = by_quit refl refl
ended_of (refused x) (refusal u) = by_none refl refl
ended_of (refused x) (ok u) = by_none refl refl
ended_of (refused x) (held u) = by_none refl refl
ended_of (refused x) (bye u) = by_none refl refl
ended_of (refused x) (dup u v) = by_none refl refl
ended_of (refused x) (none u) = by_none refl refl
ended_of (refused x) (other u v) = by_none refl refl
ended_of (refused x) (hit u v) = by_none refl refl
ended_of (refused x) (cost u v) = by_none refl refl
ended_of (refused x) (listed u v) = by_none refl refl
ended_of (refused x) (sent u v w) = by_none refl refl
ended_of (refused x) (notes u) = by_none refl refl
ended_of (refused x) (dumped u v) = by_none refl refl
ended_of (refused x) (tailed u v w) = by_none refl refl
ended_of (refused x) no_memory = by_none refl refl
ended_of (refused x) shut = by_none refl refl
ended_of (subscribe x y) (refusal u) = by_none refl refl
ended_of (subscribe x y) (ok u) = by_none refl refl
ended_of (subscribe x y) (held u) = by_none refl refl
ended_of (subscribe x y) (bye u) = by_none refl refl
ended_of (subscribe x y) (dup u v) = by_none refl refl
ended_of (subscribe x y) (none u) = by_none refl refl
ended_of (subscribe x y) (other u v) = by_none refl refl
ended_of (subscribe x y) (hit u v) = by_none refl refl
ended_of (subscribe x y) (cost u v) = by_none refl refl
ended_of (subscribe x y) (listed u v) = by_none refl refl
ended_of (subscribe x y) (sent u v w) = by_none refl refl
ended_of (subscribe x y) (notes u) = by_none refl refl
ended_of (subscribe x y) (dumped u v) = by_none refl refl
ended_of (subscribe x y) (tailed u v w) = by_none refl refl
ended_of (subscribe x y) no_memory = by_none refl refl
ended_of (subscribe x y) shut = by_none refl refl
ended_of (unsubscribe x) (refusal u) = by_none refl refl
ended_of (unsubscribe x) (ok u) = by_none refl refl
ended_of (unsubscribe x) (held u) = by_none refl refl
ended_of (unsubscribe x) (bye u) = by_none refl refl
ended_of (unsubscribe x) (dup u v) = by_none refl refl
ended_of (unsubscribe x) (none u) = by_none refl refl
ended_of (unsubscribe x) (other u v) = by_none refl refl
ended_of (unsubscribe x) (hit u v) = by_none refl refl
ended_of (unsubscribe x) (cost u v) = by_none refl refl
ended_of (unsubscribe x) (listed u v) = by_none refl refl
ended_of (unsubscribe x) (sent u v w) = by_none refl refl
ended_of (unsubscribe x) (notes u) = by_none refl refl
ended_of (unsubscribe x) (dumped u v) = by_none refl refl
ended_of (unsubscribe x) (tailed u v w) = by_none refl refl
ended_of (unsubscribe x) no_memory = by_none refl refl
ended_of (unsubscribe x) shut = by_none refl refl
ended_of (publish x) (refusal u) = by_none refl refl
ended_of (publish x) (ok u) = by_none refl refl
ended_of (publish x) (held u) = by_none refl refl
ended_of (publish x) (bye u) = by_none refl refl
ended_of (publish x) (dup u v) = by_none refl refl
ended_of (publish x) (none u) = by_none refl refl
ended_of (publish x) (other u v) = by_none refl refl
ended_of (publish x) (hit u v) = by_none refl refl
ended_of (publish x) (cost u v) = by_none refl refl
ended_of (publish x) (listed u v) = by_none refl refl
ended_of (publish x) (sent u v w) = by_none refl refl
ended_of (publish x) (notes u) = by_none refl refl
ended_of (publish x) (dumped u v) = by_none refl refl
ended_of (publish x) (tailed u v w) = by_none refl refl
ended_of (publish x) no_memory = by_none refl refl
ended_of (publish x) shut = by_none refl refl
ended_of (costing x) (refusal u) = by_none refl refl
ended_of (costing x) (ok u) = by_none refl refl
ended_of (costing x) (held u) = by_none refl refl
ended_of (costing x) (bye u) = by_none refl refl
ended_of (costing x) (dup u v) = by_none refl refl
ended_of (costing x) (none u) = by_none refl refl
ended_of (costing x) (other u v) = by_none refl refl
ended_of (costing x) (hit u v) = by_none refl refl
ended_of (costing x) (cost u v) = by_none refl refl
ended_of (costing x) (listed u v) = by_none refl refl
ended_of (costing x) (sent u v w) = by_none refl refl
ended_of (costing x) (notes u) = by_none refl refl
ended_of (costing x) (dumped u v) = by_none refl refl
ended_of (costing x) (tailed u v w) = by_none refl refl
ended_of (costing x) no_memory = by_none refl refl
ended_of (costing x) shut = by_none refl refl
ended_of listing (refusal u) = by_none refl refl
ended_of listing (ok u) = by_none refl refl
ended_of listing (held u) = by_none refl refl
ended_of listing (bye u) = by_none refl refl
ended_of listing (dup u v) = by_none refl refl
ended_of listing (none u) = by_none refl refl
ended_of listing (other u v) = by_none refl refl
ended_of listing (hit u v) = by_none refl refl
ended_of listing (cost u v) = by_none refl refl
ended_of listing (listed u v) = by_none refl refl
ended_of listing (sent u v w) = by_none refl refl
ended_of listing (notes u) = by_none refl refl
ended_of listing (dumped u v) = by_none refl refl
ended_of listing (tailed u v w) = by_none refl refl
ended_of listing no_memory = by_none refl refl
ended_of listing shut = by_none refl refl
ended_of (sending x) (refusal u) = by_none refl refl
ended_of (sending x) (ok u) = by_none refl refl
ended_of (sending x) (held u) = by_none refl refl
ended_of (sending x) (bye u) = by_none refl refl
ended_of (sending x) (dup u v) = by_none refl refl
ended_of (sending x) (none u) = by_none refl refl
ended_of (sending x) (other u v) = by_none refl refl
ended_of (sending x) (hit u v) = by_none refl refl
ended_of (sending x) (cost u v) = by_none refl refl
ended_of (sending x) (listed u v) = by_none refl refl
ended_of (sending x) (sent u v w) = by_none refl refl
ended_of (sending x) (notes u) = by_none refl refl
ended_of (sending x) (dumped u v) = by_none refl refl
ended_of (sending x) (tailed u v w) = by_none refl refl
ended_of (sending x) no_memory = by_none refl refl
ended_of (sending x) shut = by_none refl refl
ended_of (fetching x) (refusal u) = by_none refl refl
ended_of (fetching x) (ok u) = by_none refl refl
ended_of (fetching x) (held u) = by_none refl refl
ended_of (fetching x) (bye u) = by_none refl refl
ended_of (fetching x) (dup u v) = by_none refl refl
ended_of (fetching x) (none u) = by_none refl refl
ended_of (fetching x) (other u v) = by_none refl refl
ended_of (fetching x) (hit u v) = by_none refl refl
ended_of (fetching x) (cost u v) = by_none refl refl
ended_of (fetching x) (listed u v) = by_none refl refl
ended_of (fetching x) (sent u v w) = by_none refl refl
ended_of (fetching x) (notes u) = by_none refl refl
ended_of (fetching x) (dumped u v) = by_none refl refl
ended_of (fetching x) (tailed u v w) = by_none refl refl
ended_of (fetching x) no_memory = by_none refl refl
ended_of (fetching x) shut = by_none refl refl
ended_of dumping (refusal u) = by_none refl refl
ended_of dumping (ok u) = by_none refl refl
ended_of dumping (held u) = by_none refl refl
ended_of dumping (bye u) = by_none refl refl
ended_of dumping (dup u v) = by_none refl refl
ended_of dumping (none u) = by_none refl refl
ended_of dumping (other u v) = by_none refl refl
ended_of dumping (hit u v) = by_none refl refl
ended_of dumping (cost u v) = by_none refl refl
ended_of dumping (listed u v) = by_none refl refl
ended_of dumping (sent u v w) = by_none refl refl
ended_of dumping (notes u) = by_none refl refl
ended_of dumping (dumped u v) = by_none refl refl
ended_of dumping (tailed u v w) = by_none refl refl
ended_of dumping no_memory = by_none refl refl
ended_of dumping shut = by_none refl refl
ended_of (tailing x y) (refusal u) = by_none refl refl
ended_of (tailing x y) (ok u) = by_none refl refl
ended_of (tailing x y) (held u) = by_none refl refl
ended_of (tailing x y) (bye u) = by_none refl refl
ended_of (tailing x y) (dup u v) = by_none refl refl
ended_of (tailing x y) (none u) = by_none refl refl
ended_of (tailing x y) (other u v) = by_none refl refl
ended_of (tailing x y) (hit u v) = by_none refl refl
ended_of (tailing x y) (cost u v) = by_none refl refl
ended_of (tailing x y) (listed u v) = by_none refl refl
ended_of (tailing x y) (sent u v w) = by_none refl refl
ended_of (tailing x y) (notes u) = by_none refl refl
ended_of (tailing x y) (dumped u v) = by_none refl refl
ended_of (tailing x y) (tailed u v w) = by_none refl refl
ended_of (tailing x y) no_memory = by_none refl refl
ended_of (tailing x y) shut = by_none refl refl

no_quit : (p : Exchange) → goes_on p ≡ true → not (is_quit p.0) ≡ true
no_quit p on = by_end (ended_of p.0 p.1)
  where
    by_end : Ended p.0 p.1 → not (is_quit p.0) ≡ true
    by_end (by_split i j t e) = let off : false ≡ true = sym (ap has_not_ended e) ∙ on in absurd cc
    by_end (by_quit r e) = let off : false ≡ true = sym (ap has_not_ended e) ∙ on in absurd cc
    by_end (by_none r e) = ap not r

-- the reply that ended the session as a QUIT answers a QUIT
quit_ended : (p : Exchange) → end_after p.0 p.1 ≡ Some Quit → p.0 ≡ quit
quit_ended p is = by_end (ended_of p.0 p.1)
  where
    by_end : Ended p.0 p.1 → p.0 ≡ quit
    by_end (by_split i j t e) = let clash : Some Quit ≡ Some (Split i j) = sym is ∙ e in absurd cc
    by_end (by_quit r e) = r
    by_end (by_none r e) = let clash : Some Quit ≡ None = sym is ∙ e in absurd cc

-- no run has a SPLIT
split_ended : (opened : Bool) (p : Exchange) (i j : ℕ) → end_after p.0 p.1 ≡ Some (Split i j) → comes_in_run opened p.1 ≡ true → ⊥
split_ended opened p i j is comes = by_end (ended_of p.0 p.1)
  where
    by_end : Ended p.0 p.1 → ⊥
    by_end (by_split a b t e) = let clash : false ≡ true = sym (ap (comes_in_run opened) t) ∙ comes in absurd cc
    by_end (by_quit r e) = let clash : Some (Split i j) ≡ Some Quit = sym is ∙ e in absurd cc
    by_end (by_none r e) = let clash : Some (Split i j) ≡ None = sym is ∙ e in absurd cc

-- what the reply to a line says of the line
pub data Last (p : Exchange) : Type 0 where
  quits : p.0 ≡ quit → has_not_ended (end_after p.0 p.1) ≡ false → Last p
  stays : not (is_quit p.0) ≡ true → has_not_ended (end_after p.0 p.1) ≡ true → Last p

pub last_of : (opened : Bool) (p : Exchange) → comes_in_run opened p.1 ≡ true → Last p
last_of opened p comes = by_end (ended_of p.0 p.1)
  where
    by_end : Ended p.0 p.1 → Last p
    by_end (by_split i j t e) = absurd (split_ended opened p i j e comes)
    by_end (by_quit r e) = quits r (ap has_not_ended e)
    by_end (by_none r e) = stays (ap not r) (ap has_not_ended e)

pub last_comes : (opened : Bool) (ps : List Exchange) (p : Exchange) → list_all (λ (q : Exchange). comes_in_run opened q.1) (ps ++ p ∷ []) ≡ true → comes_in_run opened p.1 ≡ true
last_comes opened ps p all =
    let parts = and_parts (list_all (λ (q : Exchange). comes_in_run opened q.1) ps) (comes_in_run opened p.1 && true) (sym (list_all-append (λ (q : Exchange). comes_in_run opened q.1) ps (p ∷ [])) ∙ all) in
    (and_parts (comes_in_run opened p.1) true parts.1).0

pub never_splits : (opened : Bool) (ps : List Exchange) (p : Exchange) (i j : ℕ) → list_all (λ (q : Exchange). comes_in_run opened q.1) (ps ++ p ∷ []) ≡ true → end_after p.0 p.1 ≡ Some (Split i j) → ⊥
never_splits opened ps p i j all is = split_ended opened p i j is (last_comes opened ps p all)

none_asked : (ps : List Exchange) → list_all goes_on ps ≡ true → list_all (λ (r : Request). not (is_quit r)) (requests ps) ≡ true
none_asked [] all = refl
none_asked (p ∷ ps) all =
    let parts = and_parts (goes_on p) (list_all goes_on ps) all in
    and_from (not (is_quit p.0)) (list_all (λ (r : Request). not (is_quit r)) (requests ps)) (no_quit p parts.0) (none_asked ps parts.1)

-- where no reply ended the session no line is a QUIT
pub has_no_quit : (s : Attributes) (ls : List TextLine) (ps : List Exchange) → requests ps ≡ map (reading s) ls → list_all goes_on ps ≡ true → HasNoQuit s ls
has_no_quit s ls ps asked on =
    sym (list_all-map (λ (r : Request). not (is_quit r)) (reading s) ls) ∙ ap (λ (rs : List Request). list_all (λ (r : Request). not (is_quit r)) rs) (sym asked) ∙ none_asked ps on

-- the lines of these exchanges, and the last one
record LinesOf (s : Attributes) (ls : List TextLine) (ps : List Exchange) (p : Exchange) : Type 0 where
  front : List TextLine
  last : TextLine
  parts : ls ≡ front ++ last ∷ []
  first : requests ps ≡ map (reading s) front
  is_last : p.0 ≡ reading s last

lines_of : (s : Attributes) (ls : List TextLine) (ps : List Exchange) (p : Exchange) → requests (ps ++ p ∷ []) ≡ map (reading s) ls → LinesOf s ls ps p
lines_of s [] [] p e = absurd cc
lines_of s (l ∷ []) [] p e = record { front = []; last = l; parts = refl; first = refl; is_last = cc }
lines_of s (l ∷ m ∷ ls) [] p e = absurd cc
lines_of s [] (q ∷ ps) p e = absurd cc
lines_of s (l ∷ ls) (q ∷ ps) p e =
    let later : requests (ps ++ p ∷ []) ≡ map (reading s) ls = cc in
    let here : q.0 ≡ reading s l = cc in
    let k = lines_of s ls ps p later in
    record {
      front = l ∷ k.front;
      last = k.last;
      parts = ap (λ (x : List TextLine). l ∷ x) k.parts;
      first = rw (here, k.first) refl;
      is_last = k.is_last;
    }

-- where the last reply alone answers a QUIT the last line alone is one
pub ends_with_quit : (s : Attributes) (ls : List TextLine) (ps : List Exchange) (p : Exchange) → requests (ps ++ p ∷ []) ≡ map (reading s) ls → list_all goes_on ps ≡ true → p.0 ≡ quit → EndsWithQuit s ls
ends_with_quit s ls ps p asked on is =
    let k = lines_of s ls ps p asked in
    (k.front, k.last, k.parts, has_no_quit s k.front ps k.first on, sym k.is_last ∙ is)

pub quits_at : (s : Attributes) (ls : List TextLine) (ps : List Exchange) (p : Exchange) → requests (ps ++ p ∷ []) ≡ map (reading s) ls → list_all goes_on ps ≡ true → end_after p.0 p.1 ≡ Some Quit → EndsWithQuit s ls
quits_at s ls ps p asked on is = ends_with_quit s ls ps p asked on (quit_ended p is)

-- where the last one doesn't either
pub still_no_quit : (s : Attributes) (ls : List TextLine) (ps : List Exchange) (p : Exchange) → requests (ps ++ p ∷ []) ≡ map (reading s) ls → list_all goes_on ps ≡ true → not (is_quit p.0) ≡ true → HasNoQuit s ls
still_no_quit s ls ps p asked on is =
    let k = lines_of s ls ps p asked in
    let here : not (is_quit (reading s k.last)) ≡ true = ap (λ (r : Request). not (is_quit r)) (sym k.is_last) ∙ is in
    ap (λ (x : List TextLine). list_all (λ (line : TextLine). not (is_quit (reading s line))) x) k.parts
    ∙ list_all-append (λ (line : TextLine). not (is_quit (reading s line))) k.front (k.last ∷ [])
    ∙ and_from (list_all (λ (line : TextLine). not (is_quit (reading s line))) k.front) (not (is_quit (reading s k.last)) && true) (has_no_quit s k.front ps k.first on)
    (and_from (not (is_quit (reading s k.last))) true here refl)
