-- Which live rows are looked for.
use Rattle.std.specs.Prelude.{ℕ, ◌&&◌, Bool}
use Rattle.be_model.specs.declared.changes.Row.{Row}
use Rattle.be_change.specs.History.{is_of, has_name}
use Rattle.be_copy.specs.Keys.{name_key}
use Rattle.be_copy.specs.declared.wanted.Wanted.{Wanted}
use Rattle.be_copy.specs.declared.wanted.Wanted.TheVariants.{Named, Own, Of}

abbrev pub wants : Wanted → ℕ × Row → Bool
wants (Named name) r = has_name name.now r
wants (Own session name) r = is_of session.0 r && has_name name.now r
wants (Of session) r = is_of session.0 r

-- under which number the wanted rows stand, of names or of sessions
abbrev pub key_of : Wanted → ℕ
key_of (Named name) = name_key name.now
key_of (Own session name) = name_key name.now
key_of (Of session) = session.0
