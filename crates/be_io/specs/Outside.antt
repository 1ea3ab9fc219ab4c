-- What the objects of the outside tell, in one word each. Of a bound `S: Source` a clause says `source_state S.Source input.old`.
use Rattle.be_io.specs.Source.{SourceState}
use Rattle.be_io.specs.Sink.{SinkState}
use Rattle.be_io.specs.declared.source.Source.{Ghosts as Source}
use Rattle.be_io.specs.declared.sink.Sink.{Ghosts as Sink}

abbrev pub source_state : {S : Type 0} → Source S → S → SourceState
source_state of source =
    record {
      left = of.left source;
      faults = of.read_faults source;
      taken = of.taken source;
      whole = (of.kept_by_read source).whole;
    }

abbrev pub sink_state : {K : Type 0} → Sink K → K → SinkState
sink_state of sink =
    record {
      held = of.held sink;
      faults = of.write_faults sink;
      refusals = of.refusals sink;
      kept_back = of.kept_back sink;
    }

-- a link is a source and a sink. A run's input and output are two objects, whose states be_server joins
pub record LinkState : Type 0 where
  pub source : SourceState
  pub sink : SinkState

-- what one object that is both tells
abbrev pub link_state : {L : Type 0} → Source L → Sink L → L → LinkState
link_state gives takes link = record { source = source_state gives link; sink = sink_state takes link }
