-- The words after the program's name: what each command takes.
use Rattle.std.specs.Prelude.{◌≡◌, ℕ, ◌<◌, ◌≤◌, ◌&&◌, List, [], ◌∷◌, length, map, Option, Some, None, option_map, option_and_then, codes, string_bytes, nat_le, find, Result, Ok, Err, if◌then◌else◌}
use Rattle.std.specs.declared.alloc.Global.{Global}
use Rattle.std.specs.declared.string.String.{String}
use Rattle.be_base.specs.Numbers.{count_of}
use Rattle.be_base.specs.Readers.{now_of}
use Rattle.be_base.specs.Text.{Text, same_text, name_of}
use Rattle.be_base.specs.declared.names.NameFault.{NameFault}
use Rattle.be_base.specs.declared.limits.TheConstants.{GENERATED_SUBSCRIPTIONS, GENERATED_EVENTS, LINKS, ROUNDS, SEATS}
use Rattle.be_command_line.specs.declared.words.TheConstants.{PORTS}
use Rattle.be_command_line.specs.Arguments.{Arguments, arguments}
use Rattle.be_command_line.specs.declared.words.Request.{Request as WordsRequest}
use Rattle.be_command_line.specs.declared.words.Request.TheVariants.{Run, Gen, Cover, Drill, Heat, Serve, Follow, Mirror}
use Rattle.be_command_line.specs.declared.words.Service.{Service as WordsService}
use Rattle.be_command_line.specs.declared.words.Sessions.{Sessions as WordsSessions}
use Rattle.be_command_line.specs.declared.words.WordsFault.{WordsFault}
use Rattle.be_command_line.specs.declared.words.WordsFault.TheVariants.{Refused, NoMemory}

pub data ProgramRequest : Type 0 where
  -- one session over the input and the output, with the schema in this file and the opening table in that one
  run : Text → Option Text → ProgramRequest
  -- a generated workload of this number, with so many subscriptions and events
  gen : ℕ → ℕ → ℕ → ProgramRequest
  -- which rows of a load file are covered by the one of this name: the schema's file, the load file, the name
  cover : Text → Text → Text → ProgramRequest
  -- workers over one list, a session a file, beside a maintainer of so many calls: the schema's file, the opening table in that
  -- one, the calls, the sessions' files
  drill : Text → Option Text → ℕ → List Text → ProgramRequest
  -- as a drill without an opening table, with counts of what the answered events ask for
  heat : Text → ℕ → List Text → ProgramRequest
  -- workers over one list, a session a link: the schema's file, the opening table in that one, the port, the seats, the links
  serve : Text → Option Text → ℕ → ℕ → ℕ → ProgramRequest
  -- events answered from a list of changes that another server wrote: the schema's file, and that of the changes
  follow : Text → Text → ProgramRequest
  -- workers over the list that a feed gives, a session of reads a link: the schema's file, the port, the seats, the links
  mirror : Text → ℕ → ℕ → ℕ → ProgramRequest

-- FILE of `--load` stands once or not at all
abbrev pub once_loaded : List Text → Option (Option Text)
once_loaded [] = Some None
once_loaded (file ∷ []) = Some (Some file)
once_loaded _ = None

abbrev pub load_once : (Option Text → ProgramRequest) → List Text → Option ProgramRequest
load_once request loads = option_map request (once_loaded loads)

abbrev pub run_of : List Text → List Text → Option ProgramRequest
run_of (schema ∷ []) loads = load_once (run schema) loads
run_of _ loads = None

-- a count of this number at most
abbrev pub count_within : ℕ → Text → Option ℕ
count_within most text = option_and_then (λ count. if nat_le count most then Some count else None) (count_of text)

-- a count from 1 to this number
abbrev pub count_from_one : ℕ → Text → Option ℕ
count_from_one most text = option_and_then (λ count. if nat_le 1 count then Some count else None) (count_within most text)

abbrev pub gen_of_counts : Option ℕ → Option ℕ → Option ℕ → Option ProgramRequest
gen_of_counts (Some number) (Some subs) (Some events) = Some (gen number subs events)
gen_of_counts _ _ _ = None

abbrev pub gen_of : List Text → List Text → Option ProgramRequest
gen_of (number ∷ subs ∷ events ∷ []) [] =
    gen_of_counts (count_of number) (count_within GENERATED_SUBSCRIPTIONS subs) (count_within GENERATED_EVENTS events)
gen_of _ _ = None

abbrev pub if_named : Result Text NameFault → ProgramRequest → Option ProgramRequest
if_named (Ok name) request = Some request
if_named (Err fault) request = None

abbrev pub cover_of : List Text → List Text → Option ProgramRequest
cover_of (schema ∷ file ∷ name ∷ []) [] = if_named (name_of name) (cover schema file name)
cover_of _ _ = None

-- a file at least, and no more than there may be seats
abbrev pub some_files : List Text → Option (List Text)
some_files files = if nat_le 1 (length files) && nat_le (length files) SEATS then Some files else None

-- what `drill` and `heat` take: the schema's file, the maintainer's calls, and the sessions' files
pub record Sessions : Type 0 where
  pub schema : Text
  pub rounds : ℕ
  pub files : List Text

abbrev pub sessions_with : Text → Option ℕ → Option (List Text) → Option Sessions
sessions_with schema (Some rounds) (Some files) = Some (record { schema = schema; rounds = rounds; files = files })
sessions_with _ _ _ = None

abbrev pub sessions_of : List Text → Option Sessions
sessions_of (schema ∷ rounds ∷ files) = sessions_with schema (count_within ROUNDS rounds) (some_files files)
sessions_of _ = None

abbrev pub drill_of : List Text → List Text → Option ProgramRequest
drill_of words loads = option_and_then (λ load. option_map (λ (s : Sessions). drill s.schema load s.rounds s.files) (sessions_of words)) (once_loaded loads)

abbrev pub heat_of : List Text → List Text → Option ProgramRequest
heat_of words [] = option_map (λ (s : Sessions). heat s.schema s.rounds s.files) (sessions_of words)
heat_of _ _ = None

-- what `serve` and `mirror` take: the schema's file, the port, the seats, the links
pub record Service : Type 0 where
  pub schema : Text
  pub port : ℕ
  pub seats : ℕ
  pub links : ℕ

abbrev pub service_with : Text → Option ℕ → Option ℕ → Option ℕ → Option Service
service_with schema (Some port) (Some seats) (Some links) = Some (record { schema = schema; port = port; seats = seats; links = links })
service_with _ _ _ _ = None

abbrev pub service_of : List Text → Option Service
service_of (schema ∷ port ∷ seats ∷ links ∷ []) =
    service_with schema (count_from_one PORTS port) (count_from_one SEATS seats) (count_from_one LINKS links)
service_of _ = None

abbrev pub serve_of : List Text → List Text → Option ProgramRequest
serve_of words loads = option_and_then (λ load. option_map (λ (s : Service). serve s.schema load s.port s.seats s.links) (service_of words)) (once_loaded loads)

abbrev pub mirror_of : List Text → List Text → Option ProgramRequest
mirror_of words [] = option_map (λ (s : Service). mirror s.schema s.port s.seats s.links) (service_of words)
mirror_of _ _ = None

abbrev pub follow_of : List Text → List Text → Option ProgramRequest
follow_of (schema ∷ file ∷ []) [] = Some (follow schema file)
follow_of _ _ = None

-- a command's word, and what it makes of the words by their places and of the FILEs of `--load`
pub record CommandRow : Type 0 where
  pub word : Text
  pub request : List Text → List Text → Option ProgramRequest

abbrev pub command_rows : List CommandRow
command_rows =
    record { word = codes "run"; request = run_of }
    ∷ record { word = codes "gen"; request = gen_of }
    ∷ record { word = codes "cover"; request = cover_of }
    ∷ record { word = codes "drill"; request = drill_of }
    ∷ record { word = codes "serve"; request = serve_of }
    ∷ record { word = codes "heat"; request = heat_of }
    ∷ record { word = codes "follow"; request = follow_of }
    ∷ record { word = codes "mirror"; request = mirror_of }
    ∷ []

abbrev pub command_row : Text → Option CommandRow
command_row command = find (λ row. same_text row.word command) command_rows

abbrev pub command_request : Text → Arguments → Option ProgramRequest
command_request command a = option_and_then (λ row. row.request a.words a.loads) (command_row command)

-- what the words ask for: the first one is the command
abbrev pub words_reading : List Text → Option ProgramRequest
words_reading [] = None
words_reading (command ∷ words) = option_and_then (command_request command) (arguments words)

abbrev pub word_texts : List (String Global) → List Text
word_texts words = map (λ word. string_bytes word) words

abbrev pub plain_program_request : WordsRequest → ProgramRequest
plain_program_request (Run schema load) = run schema.now (option_map now_of load)
plain_program_request (Gen number subs events) = gen number subs events
plain_program_request (Cover schema file name) = cover schema.now file.now name.now
plain_program_request (Drill schema load rounds files) = drill schema.now (option_map now_of load) rounds (map now_of files.items)
plain_program_request (Heat schema rounds files) = heat schema.now rounds (map now_of files.items)
plain_program_request (Serve schema load port seats links) = serve schema.now (option_map now_of load) port seats links
plain_program_request (Follow schema file) = follow schema.now file.now
plain_program_request (Mirror schema port seats links) = mirror schema.now port seats links

abbrev pub plain_sessions : WordsSessions → Sessions
plain_sessions s = record { schema = s.schema.now; rounds = s.rounds; files = map now_of s.files.items }

abbrev pub plain_service : WordsService → Service
plain_service s = record { schema = s.schema.now; port = s.port; seats = s.seats; links = s.links }

-- the request exactly where the words have a reading, and the refusal exactly where they have none, want of memory aside
abbrev pub IsAnswerTo : List Text → Result WordsRequest WordsFault → Type 0
IsAnswerTo words (Ok request) = words_reading words ≡ Some (plain_program_request request)
IsAnswerTo words (Err Refused) = words_reading words ≡ None
IsAnswerTo words (Err NoMemory) = Unit {0}

-- what a request asks for is within the limits
abbrev pub IsWithin : WordsRequest → Type 0
IsWithin (Gen number subs events) = (subs ≤ GENERATED_SUBSCRIPTIONS) × (events ≤ GENERATED_EVENTS)
IsWithin (Drill schema load rounds files) = (rounds ≤ ROUNDS) × (0 < length files.items) × (length files.items ≤ SEATS)
IsWithin (Heat schema rounds files) = (rounds ≤ ROUNDS) × (0 < length files.items) × (length files.items ≤ SEATS)
IsWithin (Serve schema load port seats links) = (0 < seats) × (seats ≤ SEATS) × (0 < links) × (links ≤ LINKS)
IsWithin (Mirror schema port seats links) = (0 < seats) × (seats ≤ SEATS) × (0 < links) × (links ≤ LINKS)
IsWithin request = Unit {0}
