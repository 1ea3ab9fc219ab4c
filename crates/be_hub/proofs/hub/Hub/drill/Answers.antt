use Rattle.std.proofs.Common.{◌≡◌, [], length, map, refl, sym, ap, ◌∙◌, subst}
use Rattle.std.specs.Option.{is_some}
use Rattle.std.specs.List.{All, range_with_len}
use Rattle.std.proofs.lemmas.List.Elements.{All-map}
use Rattle.std.proofs.lemmas.List.FromFn.{length-map-range_with_len}
use Rattle.be_board.specs.Word.{own_in}
use Rattle.be_desk.specs.Seats.{first_seat, word_of}
use Rattle.be_hub.proofs.Ends.{all_back}
use Rattle.be_hub.proofs.FilesClosed.{ends_are, places, are_served, none_is}
use Rattle.be_hub.proofs.hub.Hub.drill.Goals as goal

pub run_files-requires-clause-count : goal.run_files-requires-clause-count
run_files-requires-clause-count g c κs within =
    ap (λ l. length l) c.requires.seats ∙ length-map-range_with_len (first_seat g.J.Naming.opening g.J.BoxNames.boxes) 0 (length c.args.files.items)

pub run_files-requires-clause-first : goal.run_files-requires-clause-first
run_files-requires-clause-first g c κs within =
    subst (All (λ seat. own_in (word_of seat) ≡ [])) (sym c.requires.seats)
    (All-map (λ seat. own_in (word_of seat) ≡ []) (first_seat g.J.Naming.opening g.J.BoxNames.boxes) (range_with_len 0 (length c.args.files.items)) (λ k d lt. refl))

pub left_by-requires : goal.left_by-requires
left_by-requires g c = record {
  ends = ends_are (λ end. end.seat) (λ end. end.transcript.items) (λ end. end.end) (λ file. file.items) g.J.Naming.schema g.J.BoxNames.boxes g.J.Naming.opening c.args.files.items c.in-Ok.run'.ends.items c.args.seats.items
      c.requires.seats c.in-Ok.ensures.count c.in-Ok.ensures.ends;
}

pub close-requires : goal.close-requires
close-requires g c = record {
  all = all_back (λ end. end.seat) g.J.BoxNames.boxes c.in-Ok.run'.ends.items c.in-Ok-left_by.left.seats.items c.in-Ok-left_by.ensures.seats (c.in-Ok.ensures.count ∙ c.requires.count) c.in-Ok-left_by.ensures.kept
      (places (λ end. end.seat) (λ end. end.transcript.items) (λ end. end.end) (λ file. file.items) g.J.Naming.schema g.J.BoxNames.boxes g.J.Naming.opening c.args.files.items c.in-Ok.run'.ends.items c.args.seats.items
      c.requires.seats c.in-Ok.ensures.count c.in-Ok.ensures.ends);
}

pub returns-clause-letters : goal.returns-clause-letters
returns-clause-letters g c =
    are_served (λ end. end.seat) (λ end. end.transcript.items) (λ end. end.end) (λ file. file.items) g.J.Naming.schema g.J.BoxNames.boxes g.J.Naming.opening c.args.files.items c.in-Ok.run'.ends.items c.args.seats.items
    c.requires.seats c.in-Ok.ensures.count c.in-Ok.ensures.ends
    g.S.Post.schema g.S.Post.found c.in_ok-log.field-0.log.list c.in-Ok-left_by.left.seats.items (is_some c.in-Ok-left_by.left.shade) (map (λ t. t.items) c.in-Ok-left_by.left.transcripts.items)
    c.in-Ok-left_by.ensures.read c.in-Ok-left_by.ensures.kept c.in-Ok-left_by.ensures.seats c.in-Ok-left_by.ensures.transcripts
    (λ is. c.in-Ok-left_by.ensures.shade.0 (none_is c.in-Ok-left_by.left.shade is)) (λ all. ap is_some (c.in-Ok-left_by.ensures.shade.1 all))
    c.in_ok-log.ensures.sound.formed c.in_ok-log.ensures.keeps c.in_ok-log.ensures.recorded c.in_ok-log.ensures.opened
    c.in_ok-log.ensures.letters c.requires.count
    (all_back (λ end. end.seat) g.J.BoxNames.boxes c.in-Ok.run'.ends.items c.in-Ok-left_by.left.seats.items c.in-Ok-left_by.ensures.seats (c.in-Ok.ensures.count ∙ c.requires.count) c.in-Ok-left_by.ensures.kept
    (places (λ end. end.seat) (λ end. end.transcript.items) (λ end. end.end) (λ file. file.items) g.J.Naming.schema g.J.BoxNames.boxes g.J.Naming.opening c.args.files.items c.in-Ok.run'.ends.items c.args.seats.items
    c.requires.seats c.in-Ok.ensures.count c.in-Ok.ensures.ends))

pub returns-clause-served : goal.returns-clause-served
returns-clause-served g c = (returns-clause-letters g c).0
