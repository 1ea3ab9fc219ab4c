use Rattle.std.proofs.Common.{◌≡◌, length, map, sym, ap, subst, ◌∙◌, arith, rules}
use Rattle.std.specs.Option.{is_some}
use Rattle.std.proofs.lemmas.List.FromFn.{length-map-range_with_len}
use Rattle.be_desk.specs.Seats.{first_seat}
use Rattle.be_door.specs.Counts.{with_counts}
use Rattle.be_door.specs.Door.{after_listen}
use Rattle.be_door.specs.Sums.{no_sums}
use Rattle.be_hub.specs.Serving.{LeavesDoor, served_door}
use Rattle.be_hub.proofs.DoorServed.{seats_at, splits_are, counts_are, all_came_back, links_are_served}
use Rattle.be_hub.proofs.DoorSettled.{kept_is, keeps_is, door_served, all_links, leaves_closing, leaves_settling}
use Rattle.be_hub.proofs.Ends.{all_back}
use Rattle.be_hub.proofs.FilesClosed.{none_is}
use Rattle.be_hub.proofs.LinksBegun.{may_start}
use Rattle.be_hub.proofs.LinksPosted.{ServedWithBoxes}
use Rattle.be_io.specs.Outside.{link_state}
use Rattle.be_hub.proofs.hub.Hub.serve.Goals as goal

pub overflow_cast-len : goal.overflow_cast-len
overflow_cast-len g c =
    let boxes = g.J.BoxNames.boxes in
    let many : length c.args.seats.items ≡ length boxes = ap (λ l. length l) c.requires.seats ∙ length-map-range_with_len (first_seat g.J.Naming.opening boxes) 0 (length boxes) in
    let workers : c.len.result ≡ length boxes = omega (arith, many, c.len.ensures, c.args.seats.ok.0) in
    search (rules, arith, workers, c.requires.few.1)

pub listen-requires-clause-some : goal.listen-requires-clause-some
listen-requires-clause-some g c =
    let boxes = g.J.BoxNames.boxes in
    let many : length c.args.seats.items ≡ length boxes = ap (λ l. length l) c.requires.seats ∙ length-map-range_with_len (first_seat g.J.Naming.opening boxes) 0 (length boxes) in
    let workers : c.len.result ≡ length boxes = omega (arith, many, c.len.ensures, c.args.seats.ok.0) in
    omega (arith, workers, c.requires.few.0)

pub listen-requires-clause-workers : goal.listen-requires-clause-workers
listen-requires-clause-workers g c =
    let boxes = g.J.BoxNames.boxes in
    let many : length c.args.seats.items ≡ length boxes = ap (λ l. length l) c.requires.seats ∙ length-map-range_with_len (first_seat g.J.Naming.opening boxes) 0 (length boxes) in
    let workers : c.len.result ≡ length boxes = omega (arith, many, c.len.ensures, c.args.seats.ok.0) in
    omega (arith, workers, c.requires.few.1)

pub run_door-requires-clause-start : goal.run_door-requires-clause-start
run_door-requires-clause-start g c κs within =
    may_start g.J.Naming.opening g.J.BoxNames.boxes c.args.seats.items c.requires.seats c.requires.few.1

pub settle_links-requires-clause-few : goal.settle_links-requires-clause-few
settle_links-requires-clause-few g c =
    let boxes = g.J.BoxNames.boxes in
    let many : length c.args.seats.items ≡ length boxes = ap (λ l. length l) c.requires.seats ∙ length-map-range_with_len (first_seat g.J.Naming.opening boxes) 0 (length boxes) in
    omega (arith, many, c.in-Ok-run_door.ensures.count, c.requires.few.1)

pub settle_links-requires-clause-all : goal.settle_links-requires-clause-all
settle_links-requires-clause-all g c =
    let boxes = g.J.BoxNames.boxes in
    let many : length c.args.seats.items ≡ length boxes = ap (λ l. length l) c.requires.seats ∙ length-map-range_with_len (first_seat g.J.Naming.opening boxes) 0 (length boxes) in
    let workers : c.len.result ≡ length boxes = omega (arith, many, c.len.ensures, c.args.seats.ok.0) in
    let told = link_state g.L.Source g.L.Sink in
    let d = g.D.Door.state c.args.door.now in
    let d₁ = g.D.Door.state c.listen.new.self in
    let ends = c.in-Ok-run_door.ends.items in
    let count : length ends ≡ length boxes = c.in-Ok-run_door.ensures.count ∙ many in
    let listened : d₁ ≡ after_listen d d₁.«open» c.args.port c.args.links c.len.result = c.in-Ok.ensures.listens in
    counts_are told (λ end. end.seat) (λ end. end.count) (λ end. end.ends.items) (λ end. end.tended) (λ end. end.asked) (λ end. end.between) g.J.Naming.schema boxes g.J.Naming.opening d₁ ends c.args.seats.items c.requires.seats count c.in-Ok-run_door.ensures.ends (ap (λ x. x.workers) listened ∙ workers) c.requires.few.0

pub settle_links-requires-clause-splits : goal.settle_links-requires-clause-splits
settle_links-requires-clause-splits g c =
    let boxes = g.J.BoxNames.boxes in
    let many : length c.args.seats.items ≡ length boxes = ap (λ l. length l) c.requires.seats ∙ length-map-range_with_len (first_seat g.J.Naming.opening boxes) 0 (length boxes) in
    let told = link_state g.L.Source g.L.Sink in
    let d = g.D.Door.state c.args.door.now in
    let d₁ = g.D.Door.state c.listen.new.self in
    let ends = c.in-Ok-run_door.ends.items in
    let count : length ends ≡ length boxes = c.in-Ok-run_door.ensures.count ∙ many in
    splits_are told (λ end. end.seat) (λ end. end.count) (λ end. end.ends.items) (λ end. end.tended) (λ end. end.asked) (λ end. end.between) g.J.Naming.schema boxes g.J.Naming.opening d₁ ends c.args.seats.items c.requires.seats count c.in-Ok-run_door.ensures.ends

pub returns-in-Err-settle_links-clause-fault : goal.returns-in-Err-settle_links-clause-fault
returns-in-Err-settle_links-clause-fault g c =
    let boxes = g.J.BoxNames.boxes in
    let many : length c.args.seats.items ≡ length boxes = ap (λ l. length l) c.requires.seats ∙ length-map-range_with_len (first_seat g.J.Naming.opening boxes) 0 (length boxes) in
    let workers : c.len.result ≡ length boxes = omega (arith, many, c.len.ensures, c.args.seats.ok.0) in
    let told = link_state g.L.Source g.L.Sink in
    let d = g.D.Door.state c.args.door.now in
    let d₁ = g.D.Door.state c.listen.new.self in
    let ends = c.in-Ok-run_door.ends.items in
    let count : length ends ≡ length boxes = c.in-Ok-run_door.ensures.count ∙ many in
    let d₂ = g.D.Door.state c.settle_links.new.door in
    let counts = map (λ end. end.count) ends in
    let listened : d₁ ≡ after_listen d d₁.«open» c.args.port c.args.links (length boxes) = subst (λ n. d₁ ≡ after_listen d d₁.«open» c.args.port c.args.links n) workers c.in-Ok.ensures.listens in
    subst (LeavesDoor d d₂ c.args.port c.args.links (length boxes)) (sym c.from-in-Err-settle_links.ensures)
    (leaves_settling d d₁ d₂ c.args.port c.args.links (length boxes) listened counts (all_came_back told (λ end. end.seat) (λ end. end.count) (λ end. end.ends.items) (λ end. end.tended) (λ end. end.asked) (λ end. end.between) g.J.Naming.schema boxes g.J.Naming.opening d₁ ends c.args.seats.items c.requires.seats count c.in-Ok-run_door.ensures.ends) c.in-Err-settle_links.fault c.in-Err-settle_links.ensures.fault)

pub close-requires : goal.close-requires
close-requires g c =
    let boxes = g.J.BoxNames.boxes in
    let many : length c.args.seats.items ≡ length boxes = ap (λ l. length l) c.requires.seats ∙ length-map-range_with_len (first_seat g.J.Naming.opening boxes) 0 (length boxes) in
    let told = link_state g.L.Source g.L.Sink in
    let d = g.D.Door.state c.args.door.now in
    let d₁ = g.D.Door.state c.listen.new.self in
    let ends = c.in-Ok-run_door.ends.items in
    let count : length ends ≡ length boxes = c.in-Ok-run_door.ensures.count ∙ many in
    let e = c.in-Ok-settle_links.ensures in
    record { all = all_back (λ end. end.seat) boxes ends c.in-Ok-settle_links.left.seats.items e.seats count e.kept (seats_at told (λ end. end.seat) (λ end. end.count) (λ end. end.ends.items) (λ end. end.tended) (λ end. end.asked) (λ end. end.between) g.J.Naming.schema boxes g.J.Naming.opening d₁ ends c.args.seats.items c.requires.seats count c.in-Ok-run_door.ensures.ends) }

pub returns-in-Ok-close-clause-letters : goal.returns-in-Ok-close-clause-letters
returns-in-Ok-close-clause-letters g c =
    let boxes = g.J.BoxNames.boxes in
    let many : length c.args.seats.items ≡ length boxes = ap (λ l. length l) c.requires.seats ∙ length-map-range_with_len (first_seat g.J.Naming.opening boxes) 0 (length boxes) in
    let workers : c.len.result ≡ length boxes = omega (arith, many, c.len.ensures, c.args.seats.ok.0) in
    let told = link_state g.L.Source g.L.Sink in
    let d = g.D.Door.state c.args.door.now in
    let d₁ = g.D.Door.state c.listen.new.self in
    let ends = c.in-Ok-run_door.ends.items in
    let count : length ends ≡ length boxes = c.in-Ok-run_door.ensures.count ∙ many in
    let d₂ = g.D.Door.state c.settle_links.new.door in
    let counts = map (λ end. end.count) ends in
    let listened : d₁ ≡ after_listen d d₁.«open» c.args.port c.args.links (length boxes) = subst (λ n. d₁ ≡ after_listen d d₁.«open» c.args.port c.args.links n) workers c.in-Ok.ensures.listens in
    let e = c.in-Ok-settle_links.ensures in
    let left = c.in-Ok-settle_links.left in
    let list = c.in-Ok-close.field-0.log.list in
    let none : (with_counts no_sums counts).refused ≡ 0 = ap (λ x. x.refused) (sym e.sums) ∙ e.none_refused in
    let closed = c.in-Ok-close.ensures in
    let all = all_back (λ end. end.seat) boxes ends left.seats.items e.seats count e.kept
    (seats_at told (λ end. end.seat) (λ end. end.count) (λ end. end.ends.items) (λ end. end.tended) (λ end. end.asked) (λ end. end.between) g.J.Naming.schema boxes g.J.Naming.opening d₁ ends c.args.seats.items c.requires.seats count c.in-Ok-run_door.ensures.ends) in
    let served = links_are_served told (λ end. end.seat) (λ end. end.count) (λ end. end.ends.items) (λ end. end.tended) (λ end. end.asked) (λ end. end.between) g.J.Naming.schema boxes g.J.Naming.opening d₁ ends c.args.seats.items c.requires.seats count c.in-Ok-run_door.ensures.ends list left.seats.items (is_some left.shade) c.args.links d₂.keeps c.requires.few.0 e.kept e.seats
    (λ is. e.shade.0 (none_is left.shade is)) (λ all. ap is_some (e.shade.1 all)) e.unbroken closed.sound.formed closed.keeps closed.recorded closed.opened (keeps_is d d₁ d₂ c.args.port c.args.links (length boxes) listened counts e.settled)
    none (all_links d d₁ d₂ c.args.port c.args.links (length boxes) listened counts e.settled e.links none) g.S.Post.schema g.S.Post.found closed.letters all in
    let Is = ServedWithBoxes told g.S.Post.schema g.S.Post.found g.J.Naming.schema boxes g.J.Naming.opening list (is_some left.shade) c.args.links d₂.keeps in
    subst (λ x. Is x d₂.kept) (sym e.sums) (subst (λ x. Is (with_counts no_sums counts) x) (sym (kept_is d d₁ d₂ c.args.port c.args.links (length boxes) listened counts e.settled)) served)

pub returns-in-Ok-close-clause-served : goal.returns-in-Ok-close-clause-served
returns-in-Ok-close-clause-served g c = (returns-in-Ok-close-clause-letters g c).0

pub returns-in-Ok-close-clause-door : goal.returns-in-Ok-close-clause-door
returns-in-Ok-close-clause-door g c =
    let boxes = g.J.BoxNames.boxes in
    let many : length c.args.seats.items ≡ length boxes = ap (λ l. length l) c.requires.seats ∙ length-map-range_with_len (first_seat g.J.Naming.opening boxes) 0 (length boxes) in
    let workers : c.len.result ≡ length boxes = omega (arith, many, c.len.ensures, c.args.seats.ok.0) in
    let told = link_state g.L.Source g.L.Sink in
    let d = g.D.Door.state c.args.door.now in
    let d₁ = g.D.Door.state c.listen.new.self in
    let ends = c.in-Ok-run_door.ends.items in
    let count : length ends ≡ length boxes = c.in-Ok-run_door.ensures.count ∙ many in
    let d₂ = g.D.Door.state c.settle_links.new.door in
    let counts = map (λ end. end.count) ends in
    let listened : d₁ ≡ after_listen d d₁.«open» c.args.port c.args.links (length boxes) = subst (λ n. d₁ ≡ after_listen d d₁.«open» c.args.port c.args.links n) workers c.in-Ok.ensures.listens in
    let e = c.in-Ok-settle_links.ensures in
    subst (λ x. d₂ ≡ served_door d c.args.port c.args.links (length boxes) x d₂.kept) (sym e.sums) (door_served d d₁ d₂ c.args.port c.args.links (length boxes) listened counts e.settled)

pub returns-in-Err-close-clause-fault : goal.returns-in-Err-close-clause-fault
returns-in-Err-close-clause-fault g c =
    let boxes = g.J.BoxNames.boxes in
    let many : length c.args.seats.items ≡ length boxes = ap (λ l. length l) c.requires.seats ∙ length-map-range_with_len (first_seat g.J.Naming.opening boxes) 0 (length boxes) in
    let workers : c.len.result ≡ length boxes = omega (arith, many, c.len.ensures, c.args.seats.ok.0) in
    let told = link_state g.L.Source g.L.Sink in
    let d = g.D.Door.state c.args.door.now in
    let d₁ = g.D.Door.state c.listen.new.self in
    let ends = c.in-Ok-run_door.ends.items in
    let count : length ends ≡ length boxes = c.in-Ok-run_door.ensures.count ∙ many in
    let d₂ = g.D.Door.state c.settle_links.new.door in
    let counts = map (λ end. end.count) ends in
    let listened : d₁ ≡ after_listen d d₁.«open» c.args.port c.args.links (length boxes) = subst (λ n. d₁ ≡ after_listen d d₁.«open» c.args.port c.args.links n) workers c.in-Ok.ensures.listens in
    let e = c.in-Ok-settle_links.ensures in
    let none : (with_counts no_sums counts).refused ≡ 0 = ap (λ x. x.refused) (sym e.sums) ∙ e.none_refused in
    subst (LeavesDoor d d₂ c.args.port c.args.links (length boxes)) (sym c.from-in-Err-close.ensures)
    (leaves_closing d d₁ d₂ c.args.port c.args.links (length boxes) listened counts e.settled e.links none (all_came_back told (λ end. end.seat) (λ end. end.count) (λ end. end.ends.items) (λ end. end.tended) (λ end. end.asked) (λ end. end.between) g.J.Naming.schema boxes g.J.Naming.opening d₁ ends c.args.seats.items c.requires.seats count c.in-Ok-run_door.ensures.ends) c.in-Err-close.fault)
