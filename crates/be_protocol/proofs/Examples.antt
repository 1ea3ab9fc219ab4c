-- Readings of lines and texts of replies, by computation.
use Rattle.std.proofs.Common.{◌≡◌, ℕ, List, length, ap, length-append, [], ◌∷◌, pos, negsuc, true, false, refl, codes, arith}
use Rattle.std.specs.Fmt.{digits}
use Rattle.be_base.specs.Text.{is_word_byte}
use Rattle.be_base.specs.Tokens.{tokens}
use Rattle.be_io.specs.Lines.{text, long, lines}
use Rattle.be_model.specs.declared.schemas.Domain.TheVariants.{Int}
use Rattle.be_model.specs.declared.ops.Op.TheVariants.{Lt, Ge, Ne, Between, OneOf}
use Rattle.be_model.specs.Schemas.{Attributes}
use Rattle.be_change.specs.Requests.{refused, subscribe, unsubscribe, publish, costing, listing, sending, fetching, tailing, quit, bad, given_twice, too_many, note, refusal, ok, bye, dup, none, hit, cost, listed, sent, notes, dumped, tailed, no_memory}
use Rattle.be_change.specs.Requests as asked
use Rattle.be_change.specs.History.{subscribed, unsubscribed}
use Rattle.be_change.specs.Made.{row_made}
use Rattle.be_protocol.specs.Readings.{reading, of_event, fetch, tail}
use Rattle.be_protocol.specs.Replies.{reply_text}
use Rattle.be_protocol.specs.Transcript.{IsCutText}
use Rattle.be_protocol.specs.Runs.{TellsCounts, RemovalsMayWant, HasNoQuit, EndsWithQuit}

abbrev example : Attributes
example =
    record { name = codes "price"; domain = Int (pos 0) (pos 1000) }
    ∷ record { name = codes "qty"; domain = Int (negsuc 4) (pos 5) } ∷ []

a_subscription : reading example (text (codes "SUB a price >= 10")) ≡ subscribe (codes "a") (record { attr = record { 0 = 0 }; op = Ge (pos 10) } ∷ [])
unfolding is_word_byte
a_subscription = refl

blanks_are_free : reading example (text (codes "  SUB  a\tqty!=-5 ")) ≡ subscribe (codes "a") (record { attr = record { 0 = 1 }; op = Ne (negsuc 4) } ∷ [])
unfolding is_word_byte
blanks_are_free = refl

two_tokens : reading example (text (codes "SUB a price < = 10")) ≡ refused bad
unfolding is_word_byte
two_tokens = refl

an_event : reading example (text (codes "PUB price=10")) ≡ publish ((record { 0 = 0 }, pos 10 ∷ []) ∷ [])
unfolding is_word_byte
an_event = refl

a_set_of_values : reading example (text (codes "PUB price={900, 100,900} qty=0")) ≡ publish ((record { 0 = 0 }, pos 100 ∷ pos 900 ∷ []) ∷ (record { 0 = 1 }, pos 0 ∷ []) ∷ [])
unfolding is_word_byte
a_set_of_values = refl

an_empty_set : reading example (text (codes "PUB price={}")) ≡ refused bad
unfolding is_word_byte
an_empty_set = refl

outside_in_a_set : reading example (text (codes "PUB price={1,1001}")) ≡ refused (asked.outside_domain (codes "price"))
unfolding is_word_byte
outside_in_a_set = refl

outside_the_domain : reading example (text (codes "PUB price=1001")) ≡ refused (asked.outside_domain (codes "price"))
unfolding is_word_byte
outside_the_domain = refl

unknown_attribute : reading example (text (codes "PUB cost=1")) ≡ refused (asked.unknown_attribute (codes "cost"))
unfolding is_word_byte
unknown_attribute = refl

unknown_in_a_condition : reading example (text (codes "SUB a price = 1001 and cost = 1")) ≡ refused (asked.unknown_attribute (codes "cost"))
unfolding is_word_byte
unknown_in_a_condition = refl

two_values : reading example (text (codes "PUB price=1 price=2")) ≡ refused (given_twice (codes "price"))
unfolding is_word_byte
two_values = refl

two_predicates : reading example (text (codes "SUB a qty between -1 and 1 and price in {5,3,5}"))
    ≡ subscribe (codes "a") (record { attr = record { 0 = 1 }; op = Between (negsuc 0) (pos 1) } ∷ record { attr = record { 0 = 0 }; op = OneOf (pos 3 ∷ pos 5 ∷ []) } ∷ [])
unfolding is_word_byte
two_predicates = refl

a_removal : reading example (text (codes "UNSUB a")) ≡ unsubscribe (codes "a")
unfolding is_word_byte
a_removal = refl

a_removal_of_two : reading example (text (codes "UNSUB a b")) ≡ refused bad
unfolding is_word_byte
a_removal_of_two = refl

a_list : reading example (text (codes " LIST ")) ≡ listing
unfolding is_word_byte
a_list = refl

a_quit : reading example (text (codes "QUIT")) ≡ quit
unfolding is_word_byte
a_quit = refl

the_empty_event : reading example (text (codes "PUB -")) ≡ publish []
unfolding is_word_byte
the_empty_event = refl

a_cost_line : reading example (text (codes "COST price=1")) ≡ costing ((record { 0 = 0 }, pos 1 ∷ []) ∷ [])
unfolding is_word_byte
a_cost_line = refl

-- commands of letters, rows and changes
a_send : reading example (text (codes "SEND -")) ≡ sending []
unfolding is_word_byte
a_send = refl

a_fetch : reading example (text (codes "FETCH 5")) ≡ fetching 5
unfolding is_word_byte
a_fetch = refl

a_dump : reading example (text (codes "DUMP")) ≡ asked.dumping
unfolding is_word_byte
a_dump = refl

a_tail : reading example (text (codes "TAIL 0 5")) ≡ tailing 0 5
unfolding is_word_byte
a_tail = refl

-- what the words after them will ask for
a_cost : of_event costing example (tokens (codes "price=1")) ≡ costing ((record { 0 = 0 }, pos 1 ∷ []) ∷ [])
unfolding is_word_byte
a_cost = refl

some_letters : fetch (tokens (codes "1000000")) ≡ fetching 1000000
unfolding is_word_byte
some_letters = refl

too_many_letters : fetch (tokens (codes "1000001")) ≡ refused bad
unfolding is_word_byte
too_many_letters = refl

letters_within_a_minute : fetch (tokens (codes "5 60000")) ≡ fetching 5
unfolding is_word_byte
letters_within_a_minute = refl

letters_within_more : fetch (tokens (codes "5 60001")) ≡ refused bad
unfolding is_word_byte
letters_within_more = refl

letters_of_three : fetch (tokens (codes "5 5 5")) ≡ refused bad
unfolding is_word_byte
letters_of_three = refl

too_many_letters_within : fetch (tokens (codes "1000001 5")) ≡ refused bad
unfolding is_word_byte
too_many_letters_within = refl

next_change : tail (tokens (codes "41 0 5000")) ≡ tailing 41 0
unfolding is_word_byte
next_change = refl

next_change_within_more : tail (tokens (codes "41 0 60001")) ≡ refused bad
unfolding is_word_byte
next_change_within_more = refl

some_changes : tail (tokens (codes "007 5")) ≡ tailing 7 5
unfolding is_word_byte
some_changes = refl

changes_without_a_number : tail (tokens (codes "7")) ≡ refused bad
unfolding is_word_byte
changes_without_a_number = refl

lower_case : reading example (text (codes "pub price=1")) ≡ refused bad
unfolding is_word_byte
lower_case = refl

empty_line : reading example (text []) ≡ refused bad
empty_line = refl

long_line : reading example (long 65537) ≡ refused asked.long
long_line = refl

accepted : reply_text example (ok 1) ≡ codes "OK 1\n"
unfolding digits
accepted = refl

found : reply_text example (hit 12 (codes "a" ∷ codes "b-c" ∷ [])) ≡ codes "HIT 12 2 a b-c\n"
unfolding digits
found = refl

found_none : reply_text example (hit 1 []) ≡ codes "HIT 1 0\n"
unfolding digits
found_none = refl

named_twice : reply_text example (dup 3 2) ≡ codes "DUP 3 2\n"
unfolding digits
named_twice = refl

not_live : reply_text example (none 7) ≡ codes "NONE 7\n"
unfolding digits
not_live = refl

its_names : reply_text example (listed 2 (codes "a" ∷ codes "b" ∷ [])) ≡ codes "LIST 2 2 a b\n"
unfolding digits
its_names = refl

has_left : reply_text example (bye 10) ≡ codes "BYE 10\n"
unfolding digits
has_left = refl

its_cost : reply_text example (cost 17 (record { visits = 12; tested = 17 })) ≡ codes "COST 17 12 17\n"
unfolding digits
its_cost = refl

letters_sent : reply_text example (sent 3 1 1) ≡ codes "SENT 3 1 1\n"
unfolding digits
letters_sent = refl

letters : reply_text example (notes (note 1 (codes "a") [] ∷ note 2 (codes "b") ((record { 0 = 0 }, pos 3 ∷ pos 5 ∷ []) ∷ []) ∷ [])) ≡ codes "NOTE 1 a -\nNOTE 2 b price={3,5}\nEND 2\n"
unfolding digits
letters = refl

no_letters : reply_text example (notes []) ≡ codes "END 0\n"
unfolding digits
no_letters = refl

all_rows : reply_text example (dumped 3 (row_made 0 0 (codes "a") [] ∷ row_made 1 2 (codes "b") (record { attr = record { 0 = 0 }; op = Lt (pos 5) } ∷ []) ∷ [])) ≡ codes "ROW a all\nROW b price < 5\n# DUMP 3 2\n"
unfolding digits
all_rows = refl

the_last_changes : reply_text example (tailed 3 1 (subscribed 1 1 (row_made 1 1 (codes "b") (record { attr = record { 0 = 0 }; op = Lt (pos 5) } ∷ [])) ∷ unsubscribed 1 2 (codes "a") ∷ [])) ≡ codes "AT 1 SUB 1 1 b price < 5\nAT 2 UNSUB 1 2 a\nTAILED 3 2\n"
unfolding digits
the_last_changes = refl

no_changes : reply_text example (tailed 3 9 []) ≡ codes "TAILED 3 0\n"
unfolding digits
no_changes = refl

many : reply_text example (refusal (too_many 33)) ≡ codes "MANY 33\n"
unfolding digits
many = refl

without_reading : reply_text example (refusal bad) ≡ codes "BAD\n"
without_reading = refl

without_memory : reply_text example no_memory ≡ codes "NOMEM\n"
without_memory = refl

three_lines : lines 4 true (codes "ab\n\nabcde\nx") ≡ text (codes "ab") ∷ text [] ∷ long 5 ∷ text (codes "x") ∷ []
three_lines = refl

a_line_with_cr : lines 4 true (codes "ab\r\nx\r\r\nabcd\r\ny\r") ≡ text (codes "ab") ∷ text (codes "x\r") ∷ long 5 ∷ text (codes "y\r") ∷ []
a_line_with_cr = refl

rest_is_no_line : lines 4 false (codes "ab\nx") ≡ text (codes "ab") ∷ []
rest_is_no_line = refl

counted : TellsCounts 0 ((subscribe (codes "a") [], ok 1) ∷ (refused bad, refusal bad) ∷ (listing, listed 1 (codes "a" ∷ [])) ∷ (quit, bye 2) ∷ [])
counted = (refl, (tt, (refl, (refl, tt))))

-- a LIST that leaves out the change before it
counted_too_few : TellsCounts 0 ((subscribe (codes "a") [], ok 1) ∷ (listing, listed 0 []) ∷ []) → ⊥
counted_too_few counts = omega (arith, counts.1.0)

-- an OK that tells its place
counted_from_nothing : TellsCounts 0 ((subscribe (codes "a") [], ok 0) ∷ []) → ⊥
counted_from_nothing counts = omega (arith, counts.0)

a_quit_at_the_end : EndsWithQuit example (text (codes "LIST") ∷ text (codes "QUIT") ∷ [])
unfolding is_word_byte
a_quit_at_the_end = (text (codes "LIST") ∷ [], text (codes "QUIT"), refl, refl, refl)

no_quit : HasNoQuit example (text (codes "QUIT now") ∷ text [] ∷ long 70000 ∷ [])
unfolding is_word_byte
no_quit = refl

a_quit_among_them : HasNoQuit example (text (codes "QUIT") ∷ text (codes "LIST") ∷ []) → ⊥
unfolding is_word_byte
a_quit_among_them free = absurd cc

-- an UNSUB of a live name for which memory was wanting, and one of a name that isn't live
wanted : RemovalsMayWant [] 1 [] ((subscribe (codes "a") [], ok 1) ∷ (unsubscribe (codes "a"), no_memory) ∷ [])
wanted = (tt, (refl, tt))

wanted_for_nothing : RemovalsMayWant [] 1 [] ((subscribe (codes "a") [], ok 1) ∷ (unsubscribe (codes "b"), no_memory) ∷ []) → ⊥
wanted_for_nothing wants = absurd cc

-- and one of a row that isn't the session's
wanted_of_another : RemovalsMayWant (subscribed 0 0 (row_made 0 0 (codes "a") []) ∷ []) 1 [] ((unsubscribe (codes "a"), no_memory) ∷ []) → ⊥
wanted_of_another wants = absurd cc

-- a text that is cut within its last reply, and one that isn't cut
cut_within : IsCutText example ((quit, ok 1) ∷ []) (listing, listed 1 (codes "a" ∷ [])) (codes "OK 1\nLIST 1 ")
unfolding digits
cut_within = record { missing = codes "1 a\n"; some = omega arith; is_text = refl; whole = (codes "LIST 1 ", refl) }

not_cut : IsCutText example [] (quit, no_memory) (codes "NOMEM\n") → ⊥
not_cut c = omega (arith, ap (λ (x : List ℕ). length x) c.is_text, length-append (codes "NOMEM\n") c.missing, c.some)
