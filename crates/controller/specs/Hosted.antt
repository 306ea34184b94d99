-- The system as a controller holds it. Assumes nothing.
use Rattle.std.specs.Prelude.{take}
use Rattle.model.specs.System.{System}

-- a controller has entries for six machines, which is as many as a well-formed system has; of any other it holds the first six
abbrev pub hosted : System → System
hosted S = record { events = S.events; states = take 6 S.states; rules = S.rules; patterns = S.patterns }
