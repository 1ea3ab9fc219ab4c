-- The faults of a line, and how they are printed.
use Rattle.std.specs.Prelude.{ℕ, codes}
use Rattle.be_base.specs.Text.{Text}
use Rattle.be_expr.specs.declared.faults.ExprFault.{ExprFault}
use Rattle.be_expr.specs.declared.faults.ExprFault.TheVariants as expr
use Rattle.be_load_files.specs.declared.faults.TableKind.{TableKind}
use Rattle.be_load_files.specs.declared.faults.TableKind.TheVariants.{Form, Attr, Dom, Many, Twice}
use Rattle.be_load_files.specs.declared.faults.TableFault.{TableFault}
use Rattle.be_load_files.specs.declared.faults.TableFault.TheVariants.{Line, NoMemory}

-- as it is printed
abbrev pub kind_name : TableKind → Text
kind_name Form = codes "Form"
kind_name Attr = codes "Attr"
kind_name Dom = codes "Dom"
kind_name Many = codes "Many"
kind_name Twice = codes "Twice"

-- the fault of a name and a condition as a fault of their line. Want of memory is no fault of a line
abbrev pub fault_at : ℕ → ExprFault → TableFault
fault_at n expr.Bad = Line n Form
fault_at n (expr.Attr name) = Line n Attr
fault_at n (expr.Dom a) = Line n Dom
fault_at n (expr.Many count) = Line n Many
fault_at n expr.NoMemory = NoMemory
