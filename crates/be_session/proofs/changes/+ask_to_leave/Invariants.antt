-- Each time it may ask once less.
use Rattle.be_session.proofs.changes.+ask_to_leave.Given as goal

abbrev pub decreases-ask_to_leave : goal.decreases-ask_to_leave
decreases-ask_to_leave g l = l.times
