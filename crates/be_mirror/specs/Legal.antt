-- Which replies a mirror may give, line by line, over one list of changes: those of a session that makes no change. What it tells
-- only grows.
use Rattle.std.specs.Prelude.{◌≡◌, ℕ, List}
use Rattle.be_model.specs.Schemas.{Attributes}
use Rattle.be_change.specs.History.{Entry}
use Rattle.be_change.specs.Requests.{Request, quit, Reply, bye}
use Rattle.be_change.specs.Walk as session
use Rattle.be_change.specs.Walk.{Walk, having_seen, having_ended, IsReadAt}

-- the session that stands in the walk: no request that a mirror answers asks for a session's rows or changes
abbrev pub nobody : ℕ
nobody = 0

-- the reply may answer the request at w, and leads to w'. A QUIT is told a length as a read is, and ends the session
abbrev pub MirrorAnswers : Attributes → List Entry → Request → Reply → Walk → Walk → Type 0
MirrorAnswers s h quit (bye n) w w' = IsReadAt h w n × (w' ≡ having_ended (having_seen n w))
MirrorAnswers s h quit reply w w' = ⊥
MirrorAnswers s h r reply w w' = session.Answers s nobody h r reply w w'
