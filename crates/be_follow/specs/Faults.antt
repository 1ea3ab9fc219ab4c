-- The kinds of faults as texts.
use Rattle.std.specs.Prelude.{codes}
use Rattle.be_base.specs.Text.{Text}
use Rattle.be_follow.specs.declared.faults.FeedKind.{FeedKind}
use Rattle.be_follow.specs.declared.faults.FeedKind.TheVariants.{Form, Gap, Fork, Unfit}

abbrev pub kind_name : FeedKind → Text
kind_name Form = codes "Form"
kind_name Gap = codes "Gap"
kind_name Fork = codes "Fork"
kind_name Unfit = codes "Unfit"
