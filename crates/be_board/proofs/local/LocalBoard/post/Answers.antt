-- What was put and what was dropped.
use Rattle.std.proofs.Common.{rules, ◌≡◌, ◌++◌, ◌-◌, ◌≤◌, ℕ, true, length, take, map, refl, sym, ap, ◌∙◌, subst}
use Rattle.std.specs.Prelude.{All}
use Rattle.std.proofs.lemmas.List.{length-map}
use Rattle.std.proofs.lemmas.List.Elements.{All-append}
use Rattle.be_model.specs.ByIds.{rows_of}
use Rattle.be_model.specs.Letters.{plain_letter}
use Rattle.be_model.specs.Lies.{event_lies}
use Rattle.be_model.specs.Rows.{rows_in}
use Rattle.be_change.specs.History.{hit_rows}
use Rattle.be_board.specs.Local.{letters_for, addressed, IsLocalLetter}
use Rattle.be_board.proofs.Posted.{counts_posted, letters_local, posts_view}
use Rattle.be_board.proofs.local.LocalBoard.post.Given as given
use Rattle.be_board.proofs.local.LocalBoard.post.Goals as goal

rows_are : (g : given.Over) (c : goal.After-len g) → rows_in c.rows.result.now ≡ rows_of (hit_rows c.self.inside.copy.list c.args.event.now)
rows_are g c = c.rows.ensures ∙ (c.requires.found ∙ ap (λ v. rows_of (hit_rows v.list c.args.event.now)) (sym c.self.view_is))

letters_are : (g : given.Over) (c : goal.After-len g) → map plain_letter c.in_ok-letters.letters.items ≡ take c.room.result (letters_for c.len-n.result c.args.event.now (rows_of (hit_rows c.self.inside.copy.list c.args.event.now)))
letters_are g c = c.in_ok-letters.ensures ∙ ap (λ rows. take c.room.result (letters_for c.len-n.result c.args.event.now rows)) (rows_are g c)

put_is : (g : given.Over) (c : goal.After-len g) → c.len-put.result ≡ length (take c.room.result (letters_for c.len-n.result c.args.event.now (rows_of (hit_rows c.self.inside.copy.list c.args.event.now))))
put_is g c =
    let many : c.len-put.result ≡ length c.in_ok-letters.letters.items = search rules in
    many ∙ (sym (length-map c.in_ok-letters.letters.items plain_letter) ∙ ap (λ l. length l) (letters_are g c))

found_is : (g : given.Over) (c : goal.After-len g) → c.len.result ≡ length (rows_of (hit_rows c.self.inside.copy.list c.args.event.now))
found_is g c = c.len.ensures ∙ ap (λ l. length l) (c.requires.found ∙ ap (λ v. rows_of (hit_rows v.list c.args.event.now)) (sym c.self.view_is))

pub overflow_sub-result : goal.overflow_sub-result
overflow_sub-result g c =
    let h = c.self.inside.copy.list in
    let e = c.args.event.now in
    let few = (counts_posted c.len-n.result e (rows_of (hit_rows h e)) c.room.result c.len-put.result (length (addressed (rows_of (hit_rows h e))) - c.len-put.result) (put_is g c) refl).put_few in
    subst (λ n. c.len-put.result ≤ n) (sym (found_is g c)) few

pub invariant_of-self : goal.invariant_of-self
invariant_of-self g c =
    let s = g.I.Index.schema c.self.inside.copy.index in
    let h = c.self.inside.copy.list in
    let e = c.args.event.now in
    let lies : event_lies s e ≡ true = subst (λ v. event_lies (g.I.Index.schema v.index) e ≡ true) (sym c.self.view_is) c.requires.lies in
    let new : All (IsLocalLetter s h) (map plain_letter c.in_ok-letters.letters.items) =
    subst (All (IsLocalLetter s h)) (sym (letters_are g c)) (letters_local s h c.len-n.result e c.room.result c.len-n.ensures.form c.len-n.ensures.len lies) in
    subst (All (IsLocalLetter s h)) (sym c.put_all.ensures) (All-append (IsLocalLetter s h) c.self.inside.letters (map plain_letter c.in_ok-letters.letters.items) c.self.invariant new)

pub returns-clause-posts : goal.returns-clause-posts
returns-clause-posts g c =
    let h = c.self.inside.copy.list in
    let e = c.args.event.now in
    let full : c.count_addressed.result - c.len-put.result ≡ length (addressed (rows_of (hit_rows h e))) - c.len-put.result =
    ap (λ (k : ℕ). k - c.len-put.result) (c.count_addressed.ensures ∙ ap (λ rows. length (addressed rows)) (c.rows-2.ensures ∙ (c.requires.found ∙ ap (λ v. rows_of (hit_rows v.list e)) (sym c.self.view_is)))) in
    posts_view g.I.Index.schema _ c.args.self.now _ c.len-n.result c.room.result c.len-put.result (c.count_addressed.result - c.len-put.result) (c.len.result - c.len-put.result) e c.self.view_is
    (record {
      list = refl;
      at = c.len-n.ensures.len;
      fits = c.room.ensures;
      letters = c.put_all.ensures ∙ ap (λ l. c.self.inside.letters ++ l) (letters_are g c);
      many = put_is g c;
      over = full;
      reads = c.saturating_add-self-inside-2.ensures;
      fulls = c.saturating_add-self-inside.ensures;
    })
    (ap (λ (k : ℕ). k - c.len-put.result) (found_is g c))
