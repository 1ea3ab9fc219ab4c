-- The numbers that a rift shows.
use Rattle.be_desk.specs.Numbers.{Numbers, numbers}
use Rattle.be_desk.specs.declared.rift.Rift.{Rift}

abbrev pub numbers_of : Rift → Numbers
numbers_of r = numbers r.seen r.written
