-- For the contracts of inner functions. Each hop of a path has a station: the lengths fit, and the stations are as many as 23 counts.
-- Assumes nothing.
use Rattle.std.specs.Prelude.{ℕ, ◌≡◌, true, List, length}
use Rattle.edition.specs.declared.Edition.{Edition}
use Rattle.records.specs.Layout.{Layout}
use Rattle.itinerary.specs.Itinerary.{stations}
use Rattle.journey_questions.specs.Lengths.{lengths_pass}
use Rattle.journey_questions.specs.Questions.{station_count}

pub record Matched (edition : Edition) (layout : Layout) (itinerary path : List ℕ) : Type 0 where
  pub fit : lengths_pass edition path ≡ true
  pub counted : length (stations layout itinerary) ≡ station_count edition path
