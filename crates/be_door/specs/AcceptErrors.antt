-- Which errors of an accept pass, by Linux's numbers.
use Rattle.std.specs.Prelude.{ℤ, pos, Bool, false, List, [], ◌∷◌, ◌++◌, Option, Some, None}
use Rattle.std.specs.List.{list_any}
use Rattle.std.specs.Ordering.{int_eq}

-- a signal came, or there is nothing yet: EINTR, EAGAIN
abbrev pub not_yet : List ℤ
not_yet = pos 4 ∷ pos 11 ∷ []

-- memory, descriptors or buffers are wanting: ENOMEM, ENFILE, EMFILE, ENOBUFS
abbrev pub wanting : List ℤ
wanting = pos 12 ∷ pos 23 ∷ pos 24 ∷ pos 105 ∷ []

-- the connection went wrong before it was accepted: ECONNABORTED, or EPERM where a firewall forbids it; and what the network
-- reports of it: ENONET, EPROTO, ENOPROTOOPT, EOPNOTSUPP, ENETDOWN, ENETUNREACH, EHOSTDOWN, EHOSTUNREACH
abbrev pub of_the_connection : List ℤ
of_the_connection = pos 103 ∷ pos 1 ∷ pos 64 ∷ pos 71 ∷ pos 92 ∷ pos 95 ∷ pos 100 ∷ pos 101 ∷ pos 112 ∷ pos 113 ∷ []

-- an error without a number of the system doesn't pass
abbrev pub is_passing : Option ℤ → Bool
is_passing None = false
is_passing (Some number) = list_any (λ x. int_eq x number) (not_yet ++ wanting ++ of_the_connection)
