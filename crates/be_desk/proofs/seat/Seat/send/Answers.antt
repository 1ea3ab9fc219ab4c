-- Letters for the hits were offered, or none was made.
use Rattle.std.proofs.Common.{rules, ◌≡◌, ℕ, ◌-◌, ◌≤◌, length, map, take, sym, ap, ◌∙◌, subst}
use Rattle.std.specs.Prelude.{All, Err}
use Rattle.std.proofs.lemmas.List.Elements.{All-weaker}
use Rattle.be_model.specs.ByIds.{rows_of}
use Rattle.be_model.specs.Letters.{plain_letter}
use Rattle.be_model.specs.Rows.{rows_in}
use Rattle.be_change.specs.History.{hit_rows}
use Rattle.be_base.specs.declared.limits.TheConstants.{BOX_LETTERS}
use Rattle.be_mail.specs.Letters.{IsFit}
use Rattle.be_mail.specs.Passes.{Passes, Held}
use Rattle.be_board.specs.Local.{letters_for}
use Rattle.be_board.specs.Word.{IsDelivered}
use Rattle.be_desk.specs.Boards.{Offers}
use Rattle.be_desk.proofs.Offered.{IsSound, Posted, made_sound, made_all, sends_refused, refused_send_in, sends_on, posts_on, put_few}
use Rattle.be_desk.proofs.seat.Seat.send.Given as given
use Rattle.be_desk.proofs.seat.Seat.send.Goals as goal
use Rattle.be_desk.proofs.seat.Seat.send.Goals.{After-len-2}

abbrev full : given.Over → Passes → ℕ → Type 0
full g q mailbox = Held g.S.Post.schema g.S.Post.seats g.S.Post.found q mailbox BOX_LETTERS

pub returns-in_err-n-clause-sends : goal.returns-in_err-n-clause-sends
returns-in_err-n-clause-sends g c = sends_refused g.J.Naming.schema c.args.self.now c.find.new.self c.find.ensures.looks

pub returns-in_err-n-clause-refused : goal.returns-in_err-n-clause-refused
returns-in_err-n-clause-refused g c =
    let gives : c.from_residual.result ≡ Err c.in_err-n.field-0.0 = search rules in
    refused_send_in g.J.Naming.schema c.args.self.now c.find.new.self c.find.result c.from_residual.result c.in_err-n.field-0.0 c.in_err-n.was gives c.find.ensures.refused

pub returns-in_default-clause-sends : goal.returns-in_default-clause-sends
returns-in_default-clause-sends g c = sends_refused g.J.Naming.schema c.args.self.now c.find.new.self c.find.ensures.looks

pub returns-in_default-clause-refused : goal.returns-in_default-clause-refused
returns-in_default-clause-refused g c per_tend tends = (c.in_ok-n.ensures.read per_tend tends).shuts

pub post-put-requires-clause-fit : goal.post-put-requires-clause-fit
post-put-requires-clause-fit g c =
    let made : map plain_letter c.in-Ok.letters.items ≡ take c.len.result (letters_for c.in_ok-n.n c.args.event.now (rows_in c.rows.result.now)) = search rules in
    let all = made_sound g.J.Naming.schema c.find.new.self.glass.known c.in_ok-n.n c.args.event.now (rows_in c.rows.result.now) c.len.result (map plain_letter c.in-Ok.letters.items)
    c.count.ensures.sound.formed ((c.in_ok-n.ensures.read 0 0).length) c.requires.lies made (c.rows.ensures ∙ c.in_ok-n.ensures.found) (c.len.ensures ∙ ap (λ l. length l) c.in_ok-n.ensures.found) in
    subst (λ s. All (IsFit s) (map plain_letter c.in-Ok.letters.items)) (sym c.requires.schema)
    (All-weaker (IsSound g.J.Naming.schema c.find.new.self.glass.known) (IsFit g.J.Naming.schema) (λ l one. one.fit) (map plain_letter c.in-Ok.letters.items) all)

pub post-put-requires-clause-delivered : goal.post-put-requires-clause-delivered
post-put-requires-clause-delivered g c =
    let made : map plain_letter c.in-Ok.letters.items ≡ take c.len.result (letters_for c.in_ok-n.n c.args.event.now (rows_in c.rows.result.now)) = search rules in
    let all = made_sound g.J.Naming.schema c.find.new.self.glass.known c.in_ok-n.n c.args.event.now (rows_in c.rows.result.now) c.len.result (map plain_letter c.in-Ok.letters.items)
    c.count.ensures.sound.formed ((c.in_ok-n.ensures.read 0 0).length) c.requires.lies made (c.rows.ensures ∙ c.in_ok-n.ensures.found) (c.len.ensures ∙ ap (λ l. length l) c.in_ok-n.ensures.found) in
    All-weaker (IsSound g.J.Naming.schema c.find.new.self.glass.known) (IsDelivered c.find.new.self.glass.known) (λ l one. one.delivered) (map plain_letter c.in-Ok.letters.items) all

letters_are : (g : given.Over) (c : After-len-2 g) → map plain_letter c.in-Ok.letters.items ≡ letters_for c.in_ok-n.n c.args.event.now (rows_of (hit_rows c.find.new.self.glass.known c.args.event.now))
letters_are g c =
    let made : map plain_letter c.in-Ok.letters.items ≡ take c.len.result (letters_for c.in_ok-n.n c.args.event.now (rows_in c.rows.result.now)) = search rules in
    made_all c.in_ok-n.n c.args.event.now (rows_of (hit_rows c.find.new.self.glass.known c.args.event.now)) (rows_in c.rows.result.now) c.len.result (map plain_letter c.in-Ok.letters.items)
    made (c.rows.ensures ∙ c.in_ok-n.ensures.found) (c.len.ensures ∙ ap (λ l. length l) c.in_ok-n.ensures.found)

posted : (g : given.Over) (c : After-len-2 g) → Posted (full g) g.J.Naming.schema c.args.self.now c.find.new.self c.post-put.new.self c.args.event.now g.J.BoxNames.boxes c.in_ok-n.n c.post-put.result
posted g c = record {
  looks = c.find.ensures.looks;
  read = c.in_ok-n.ensures.read;
  posted = c.post-put.ensures.seat;
  form = c.form.ensures.form;
  boxes_are = c.form.ensures.boxes;
  fulls = c.form.ensures.fulls;
  offers = subst (λ ls. Offers (full g) (length g.J.BoxNames.boxes) ls c.post-put.result c.find.new.self.passes c.post-put.new.self.passes) (letters_are g c) c.post-put.ensures.offers;
}

found_is : (g : given.Over) (c : After-len-2 g) → c.len-2.result ≡ length (rows_of (hit_rows c.find.new.self.glass.known c.args.event.now))
found_is g c = c.len-2.ensures ∙ ap (λ l. length l) c.in_ok-n.ensures.found

pub overflow_sub-result : goal.overflow_sub-result
overflow_sub-result g c =
    subst (λ n. c.post-put.result ≤ n) (sym (found_is g c)) (put_few (full g) g.J.Naming.schema c.args.self.now c.find.new.self c.post-put.new.self c.args.event.now g.J.BoxNames.boxes c.in_ok-n.n c.post-put.result (posted g c))

pub returns-clause-sends : goal.returns-clause-sends
returns-clause-sends g c = sends_on (full g) g.J.Naming.schema c.args.self.now c.find.new.self c.post-put.new.self c.args.event.now g.J.BoxNames.boxes c.in_ok-n.n c.post-put.result (posted g c)

pub returns-clause-posts : goal.returns-clause-posts
returns-clause-posts g c =
    posts_on (full g) g.J.Naming.schema c.args.self.now c.find.new.self c.post-put.new.self c.args.event.now g.J.BoxNames.boxes c.in_ok-n.n c.post-put.result (c.len-2.result - c.post-put.result) (posted g c)
    (ap (λ n. n - c.post-put.result) (found_is g c))

pub returns-clause-offers : goal.returns-clause-offers
returns-clause-offers g c =
    subst (λ h. Offers (full g) (length g.J.BoxNames.boxes) (letters_for c.in_ok-n.n c.args.event.now (rows_of (hit_rows h c.args.event.now))) c.post-put.result c.args.self.now.passes c.post-put.new.self.passes) (sym (ap (λ s. s.glass.known) c.post-put.ensures.seat))
    (subst (λ q. Offers (full g) (length g.J.BoxNames.boxes) (letters_for c.in_ok-n.n c.args.event.now (rows_of (hit_rows c.find.new.self.glass.known c.args.event.now))) c.post-put.result q c.post-put.new.self.passes) (ap (λ s. s.passes) c.find.ensures.seat) ((posted g c).offers))
