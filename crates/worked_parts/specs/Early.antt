-- What the seats of these tests say of the letters that they put.
use Rattle.std.specs.Prelude.{◌<◌}
use Rattle.be_model.specs.Letters.{PlainLetter}

-- it is one of the 400 that a seat puts
abbrev pub IsEarly : PlainLetter → Type 0
IsEarly letter = letter.n < 400
