-- What the words ask for is done by its command, which makes the same promise.
use Rattle.std.proofs.Common.{rules, ◌≡◌, Some, None, option_map, map, refl}
use Rattle.be_base.specs.Readers.{now_of}
use Rattle.be_command_line.specs.Words.{run, gen, cover, drill, serve, heat, follow, mirror, words_reading, word_texts}
use Rattle.be_server.proofs.Promise.{nothing_done, words_refused}
use Rattle.be_server.proofs.entry.be_main.Goals as goal

pub returns-in-Ok-Run : goal.returns-in-Ok-Run
returns-in-Ok-Run g c =
    let is : words_reading (word_texts c.args.words.now) ≡ Some (run c.in-Ok-Run.schema.now (option_map now_of c.in-Ok-Run.load)) = search rules in
    rw is (c.run.ensures c.args.door.now)

pub returns-in-Ok-Gen : goal.returns-in-Ok-Gen
returns-in-Ok-Gen g c =
    let is : words_reading (word_texts c.args.words.now) ≡ Some (gen c.in-Ok-Gen.number c.in-Ok-Gen.subs c.in-Ok-Gen.events) = search rules in
    rw is (c.generate.ensures c.args.shelf.now c.args.input.now c.args.door.now)

pub returns-in-Ok-Cover : goal.returns-in-Ok-Cover
returns-in-Ok-Cover g c =
    let is : words_reading (word_texts c.args.words.now) ≡ Some (cover c.in-Ok-Cover.schema.now c.in-Ok-Cover.file.now c.in-Ok-Cover.name.now) = search rules in
    rw is (c.cover.ensures c.args.input.now c.args.door.now)

pub returns-in-Ok-Drill : goal.returns-in-Ok-Drill
returns-in-Ok-Drill g c =
    let is : words_reading (word_texts c.args.words.now) ≡ Some (drill c.in-Ok-Drill.schema.now (option_map now_of c.in-Ok-Drill.load) c.in-Ok-Drill.rounds (map now_of c.as_slice.result.now)) = search rules in
    rw is (c.drill.ensures c.args.input.now c.args.door.now)

pub returns-in-Ok-Serve : goal.returns-in-Ok-Serve
returns-in-Ok-Serve g c =
    let is : words_reading (word_texts c.args.words.now) ≡ Some (serve c.in-Ok-Serve.schema.now (option_map now_of c.in-Ok-Serve.load) c.in-Ok-Serve.port c.in-Ok-Serve.seats c.in-Ok-Serve.links) = search rules in
    rw is (c.serve.ensures c.args.input.now)

pub returns-in-Ok-Heat : goal.returns-in-Ok-Heat
returns-in-Ok-Heat g c =
    let is : words_reading (word_texts c.args.words.now) ≡ Some (heat c.in-Ok-Heat.schema.now c.in-Ok-Heat.rounds (map now_of c.as_slice-in-Ok-Heat.result.now)) = search rules in
    rw is (c.heat.ensures c.args.input.now c.args.door.now)

pub returns-in-Ok-Follow : goal.returns-in-Ok-Follow
returns-in-Ok-Follow g c =
    let is : words_reading (word_texts c.args.words.now) ≡ Some (follow c.in-Ok-Follow.schema.now c.in-Ok-Follow.file.now) = search rules in
    rw is (c.follow.ensures c.args.door.now)

pub returns-in-Ok-Mirror : goal.returns-in-Ok-Mirror
returns-in-Ok-Mirror g c =
    let is : words_reading (word_texts c.args.words.now) ≡ Some (mirror c.in-Ok-Mirror.schema.now c.in-Ok-Mirror.port c.in-Ok-Mirror.seats c.in-Ok-Mirror.links) = search rules in
    rw is c.mirror.ensures

pub returns-in-Err-Refused : goal.returns-in-Err-Refused
returns-in-Err-Refused g c =
    let none : words_reading (word_texts c.args.words.now) ≡ None = search rules in
    rw none (words_refused _ _ _ _ _ refl refl refl)

pub returns-in-Err-NoMemory : goal.returns-in-Err-NoMemory
returns-in-Err-NoMemory g c = nothing_done _ _ _ _ _ (words_reading (word_texts c.args.words.now)) refl refl refl
