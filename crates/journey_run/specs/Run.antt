-- How a journey's end is told to callers: the station and its answer, and apart from them the bytes left.
-- Assumes nothing.
use Rattle.std.specs.Prelude.{ℕ, List, Option, Some, None}
use Rattle.journey.specs.Journey.{Ended, nowhere, ended_at}
use Rattle.journey_run.specs.declared.JourneyEnd.{JourneyEnd}

abbrev pub end_of : Ended → Option JourneyEnd
end_of nowhere = None
end_of (ended_at k answer left) = Some (record { station = k; answer = answer })

-- the bytes that it leaves, of those that it began with
abbrev pub left_of : List ℕ → Ended → List ℕ
left_of path nowhere = path
left_of path (ended_at k answer left) = left
