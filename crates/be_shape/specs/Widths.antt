-- How wide the bounds of predicates are, and the three narrowest.
use Rattle.std.specs.Prelude.{ℕ, ℤ, ◌-ℤ◌, ◌||◌, ◌==◌, Bool, nat_lt, unsigned_abs, if◌then◌else◌}
use Rattle.be_shape.specs.declared.widths.Width.{Width}
use Rattle.be_shape.specs.declared.widths.Narrowest.{Narrowest}

-- how far the ends are apart
abbrev pub width_of : ℤ × ℤ → ℕ
width_of ends = unsigned_abs (ends.1 -ℤ ends.0)

abbrev pub width : ℕ → ℕ → Width
width wide at = record { wide = wide; at = at }

abbrev pub narrowest : Width → Width → Width → Narrowest
narrowest first second third = record { first = first; second = second; third = third }

-- the first three predicates, before any width is known. No bounds of a predicate are so far apart
abbrev pub first_three : Narrowest
first_three = narrowest (width 4294967295 0) (width 4294967295 1) (width 4294967295 2)

-- the three narrowest of these and one more. Of equally wide ones those stay that were there
abbrev pub with_width : Width → Narrowest → Narrowest
with_width w t =
    if nat_lt w.wide t.first.wide then narrowest w t.first t.second
    else (if nat_lt w.wide t.second.wide then narrowest t.first w t.second else (if nat_lt w.wide t.third.wide then narrowest t.first t.second w else t))

-- the predicate at this place is one of them
abbrev pub has_place : ℕ → Narrowest → Bool
has_place at t = (t.first.at == at) || ((t.second.at == at) || (t.third.at == at))
