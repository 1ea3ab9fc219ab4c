-- What was written and handed on.
use Rattle.std.proofs.Common.{◌≡◌, ◌<◌, ℕ, List, inl, inr, Result, Ok, Err, refl, sym, ap, ◌∙◌, subst}
use Rattle.be_io.specs.Counts.{HasRisen}
use Rattle.be_io.specs.Sink.{SinkState, Wrote, Flushed}
use Rattle.be_io.specs.Told.{HoldsMore}
use Rattle.be_io.specs.declared.faults.SinkFault.{SinkFault}
use Rattle.be_io.specs.declared.faults.SinkFault.TheVariants.{Failed, NoMemory}
use Rattle.be_server.specs.Output.{WroteOut}

-- a text that was written whole, and then handed on or not
pub handed_out : (before now after : SinkState) (text : List ℕ) (result : Result (Unit {0}) SinkFault) → Wrote before now text (Ok tt) → Flushed now after result → WroteOut before after text result
handed_out before now after text (Ok u) w f = subst (λ (s : SinkState). WroteOut before s text (Ok u)) (sym f) (w.0, w.1, w.2, refl)
handed_out before now after text (Err Failed) w f = (
  inr (subst (λ h. HoldsMore before.held h text) (sym (ap (λ (s : SinkState). s.held) f.0)) w.0, f.2.0),
  subst (λ n. HasRisen n after.faults) w.1 f.1,
  ap (λ (s : SinkState). s.refusals) f.0 ∙ w.2,
)
handed_out before now after text (Err NoMemory) w f = (
  inr (subst (λ h. HoldsMore before.held h text) (sym (ap (λ (s : SinkState). s.held) f.0)) w.0, f.2.0),
  subst (λ n. HasRisen n after.refusals) w.2 f.1,
  ap (λ (s : SinkState). s.faults) f.0 ∙ w.1,
)

-- a text that wasn't written whole
pub stopped_out : (before now : SinkState) (text : List ℕ) (fault : SinkFault) → Wrote before now text (Err fault) → WroteOut before now text (Err fault)
stopped_out before now text Failed w = (inl w.0, w.1, w.2)
stopped_out before now text NoMemory w = (inl w.0, w.1, w.2)
