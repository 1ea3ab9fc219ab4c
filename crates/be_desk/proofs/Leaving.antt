-- The rows of a session that leaves, taken out one after another.
use Rattle.std.proofs.Common.{◌≡◌, ℕ, ◌+◌, ◌≤◌, ◌<◌, ◌==◌, ◌^◌, Bool, true, false, not, List, [], filter, Option, Some, None, slice_get, refl, sym, ap, ◌∙◌, subst, arith}
use Rattle.be_base.specs.declared.limits.TheConstants.{LOG_CHANGES}
use Rattle.be_base.specs.declared.names.SessionNo.{SessionNo}
use Rattle.be_model.specs.declared.changes.Row.{Row}
use Rattle.be_model.specs.Rows.{id_of}
use Rattle.be_model.specs.ByIds.{ByIds, is_of, row_at, without_id}
use Rattle.be_model.proofs.RowsByIds.{found_says}
use Rattle.be_model.proofs.RisingIds.{row_at-below}
use Rattle.be_change.specs.Entries.{row_in}
use Rattle.be_change.specs.History.{Entry, live}
use Rattle.be_change.proofs.Listed.{live_listed}
use Rattle.be_index.specs.Promise.{IsMap}
use Rattle.be_index.proofs.Maps.{filtered_map}
use Rattle.be_copy.specs.declared.register.Register.{Register as Filed}
use Rattle.be_copy.specs.Bitmaps.{is_noted}
use Rattle.be_copy.specs.Registers.{IsRegister as IsFiled, AreOfList, AreWanted, is_keyed, session_of_row}
use Rattle.be_copy.specs.Wanted.{wants}
use Rattle.be_copy.specs.declared.wanted.Wanted.TheVariants.{Of}
use Rattle.be_copy.proofs.Filed.{other_key}
use Rattle.be_copy.proofs.Firsts.{find_none, none_goes, all_go, left_without, only_at, listed_without}
use Rattle.be_desk.specs.declared.register.Register.{Register}
use Rattle.be_desk.specs.Registers.{IsRegister}
use Rattle.be_desk.proofs.Filing.{one_less}

-- where all rows are the session's, none is left
pub leave_all : (r : Register) (h : List Entry) (session : SessionNo) → IsMap (live h) → IsFiled r.filed [] → r.count ≡ 0 → AreWanted (Of session) (live h)
    → IsRegister r (filter (λ x. not (is_of session.0 x)) (live h))
leave_all r h session map filed empty wanted = subst (IsRegister r) (all_go (wants (Of session)) (live h) map.rising wanted) (record { filed = filed; count = empty })

-- these rows are still there
pub record IsLeft (r : Register) (h : List Entry) (k : ℕ) (rows : ByIds) : Type 0 where
  pub filed : IsRegister r rows
  pub map : IsMap rows
  pub listed : AreOfList h rows
  pub rest : filter (λ r. not (is_of k r)) rows ≡ filter (λ r. not (is_of k r)) (live h)

abbrev pub IsLeaving : Register → List Entry → ℕ → Type 0
IsLeaving r h k = (rows : ByIds) × IsLeft r h k rows

pub leave_begins : (r : Register) (h : List Entry) (k : ℕ) → IsMap (live h) → IsRegister r (live h) → IsLeaving r h k
leave_begins r h k map filed = (live h, record { filed = filed; map = map; listed = live_listed h; rest = refl })

-- what stands at an id that is listed under the session
pub record IsNextOf (h : List Entry) (k : ℕ) (rows : ByIds) (id : ℕ) : Type 0 where
  pub row : Row
  pub there : row_at id rows ≡ Some row
  pub listed : row_in (slice_get h id) ≡ Some row
  pub own : id_of row ≡ id
  pub owner : is_of k (id, row) ≡ true

keyed_row : (k : ℕ) (o : Option Row) → is_keyed session_of_row k o ≡ true → (row : Row) × (o ≡ Some row) × ((row.session.0 == k) ≡ true)
keyed_row k None e = absurd cc
keyed_row k (Some row) e = (row, refl, e)

pub next_of : (r : Register) (h : List Entry) (k : ℕ) (rows : ByIds) (id : ℕ) → IsLeft r h k rows → is_noted r.filed.sessions.blocks.entries k id ≡ true → IsNextOf h k rows id
next_of r h k rows id is at =
    let found = keyed_row k (row_at id rows) (sym (is.filed.filed.sessions k id) ∙ at) in
    record { row = found.0; there = found.1; listed = is.listed id found.0 found.1; own = (found_says id rows found.0 is.map.say found.1).1; owner = found.2 }

-- it is counted
pub leave_some : (r : Register) (h : List Entry) (k : ℕ) (rows : ByIds) (id : ℕ) → IsLeft r h k rows → IsNextOf h k rows id → 0 < r.count
leave_some r h k rows id is next = omega (arith, is.filed.count, one_less rows id next.row is.map.rising next.there)

-- a row is taken out, wherever it is filed
abbrev pub Drops : Row → Filed → Filed → Type 0
Drops row f f' = (m : ByIds) → row_at (id_of row) m ≡ Some row → IsFiled f m → IsFiled f' (without_id (id_of row) m)

-- it is taken out
pub leave_goes : (r r' : Register) (h : List Entry) (k : ℕ) (rows : ByIds) (id : ℕ) (lent : Row) → IsLeft r h k rows → (next : IsNextOf h k rows id) → lent ≡ next.row → Drops lent r.filed r'.filed → r'.count + 1 ≡ r.count → IsLeaving r' h k
leave_goes r r' h k rows id lent is next same out less =
    let there : row_at (id_of next.row) rows ≡ Some next.row = ap (λ (i : ℕ). row_at i rows) next.own ∙ next.there in
    let filed : IsFiled r'.filed (without_id (id_of next.row) rows) = (subst (λ (x : Row). Drops x r.filed r'.filed) same out) rows there is.filed.filed in
    let gone : ℕ × Row → Bool = λ (x : ℕ × Row). not (x.0 == id) in (
      without_id id rows,
      record {
        filed = record {
          filed = subst (λ (i : ℕ). IsFiled r'.filed (without_id i rows)) next.own filed;
          count = omega (arith, less, is.filed.count, one_less rows id next.row is.map.rising next.there);
        };
        map = filtered_map gone rows is.map;
        listed = listed_without h rows id is.listed;
        rest = left_without (is_of k) rows id is.map.rising (only_at (is_of k) rows id next.row next.there next.owner) ∙ is.rest;
      },
    )

-- no row of the session is left
pub leave_ends : (r : Register) (h : List Entry) (k : ℕ) → IsLeaving r h k → ((i : ℕ) → 0 ≤ i → i < 2 ^ 64 → is_noted r.filed.sessions.blocks.entries k i ≡ false)
    → IsRegister r (filter (λ r. not (is_of k r)) (live h))
leave_ends r h k leaving none =
    let rows = leaving.0 in
    let is = leaving.1 in
    let other : (i : ℕ) (row : Row) → row_at i rows ≡ Some row → is_of k (i, row) ≡ false =
    λ i row at. let low : i < LOG_CHANGES = row_at-below LOG_CHANGES i rows row is.map.low at in
    other_key session_of_row (is_noted r.filed.sessions.blocks.entries) rows k i row is.filed.filed.sessions (none i (omega arith) (omega (arith, low))) at in
    subst (IsRegister r) (sym (none_goes (is_of k) rows (find_none (is_of k) rows is.map.rising other)) ∙ is.rest) is.filed
