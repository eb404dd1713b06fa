-- For the contracts of inner functions: the record of the station that a segment's first hop goes to, and those of the three.
-- Assumes nothing.
use Rattle.std.specs.Prelude.{ℕ, ◌-◌, List, [], ◌∷◌, get_or}
use Rattle.edition.specs.declared.Edition.{Edition}
use Rattle.records.specs.Layout.{Layout}
use Rattle.records.specs.Records.{station_records}
use Rattle.segment_check.specs.Segment.{start_of}
use Rattle.journey_questions.specs.Lengths.{shared}

abbrev pub first_record : Edition → Layout → List ℕ → List ℕ → ℕ → ℕ
first_record edition layout itinerary path s = get_or (station_records layout itinerary) (start_of path s - shared edition path s) 0

abbrev pub first_records : Edition → Layout → List ℕ → List ℕ → List ℕ
first_records edition layout itinerary path =
    first_record edition layout itinerary path 0 ∷ first_record edition layout itinerary path 1
    ∷ first_record edition layout itinerary path 2 ∷ []
