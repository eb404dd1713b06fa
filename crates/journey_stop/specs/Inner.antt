-- For the contracts of inner functions.
-- Assumes nothing.
use Rattle.journey_stops.specs.declared.Reading.{Reading}
use Rattle.journey_stops.specs.declared.Stop.{Stop}
use Rattle.journey_stops.specs.Number.{step_number}
use Rattle.journey_run.specs.declared.JourneyEnd.{JourneyEnd}

-- a run's end, as it is told
abbrev pub stop_at : Reading → JourneyEnd → Stop
stop_at reading end = record { station = end.station; number = step_number end.answer; reading = reading }
