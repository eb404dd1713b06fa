-- 01, 'Questions in order', 'Journey': what the journey check asks before its conditions, and the numbers.
-- Assumes nothing.
use Rattle.std.specs.Prelude.{ℕ, ◌+◌, ◌-◌, Bool, not, ◌&&◌, cond, List, [], ◌∷◌, ◌++◌, eqb, leb}
use Rattle.questions.specs.Questions.{Questions, within}
use Rattle.standard_path.specs.Meta.{curr_inf, curr_hf}
use Rattle.fields.specs.Fields.{cons_ingress_alert, cons_egress_alert}
use Rattle.standard_path.specs.Header.{infos, hops, hop_field, header_number, header_questions}
use Rattle.edition.specs.declared.Edition.{Edition}
use Rattle.edition.specs.Edition.{peering_path}
use Rattle.records.specs.Layout.{Layout}
use Rattle.itinerary.specs.Itinerary.{itinerary_fits}
use Rattle.segment_check.specs.Segment.{each_below}
use Rattle.journey_questions.specs.declared.answer.JourneyError.{JourneyError}
use Rattle.journey_questions.specs.declared.answer.JourneyError.TheVariants.{HeaderFailed, UnfitItinerary, NotAtStart, AlertSet}

abbrev pub journey_number : JourneyError → ℕ
journey_number (HeaderFailed error) = header_number error
journey_number UnfitItinerary = 23
journey_number NotAtStart = 24
journey_number AlertSet = 25

-- 'station count = hops − infos + 1'. Each info field stands for a length that is not 0, so that the subtraction is exact.
-- F-6: 'a peering path has as many stations as hops'
abbrev pub station_count : Edition → List ℕ → ℕ
station_count edition path = cond (peering_path edition path) (hops path) (hops path - infos path + 1)

-- 'No alert bit in a hop?'
unfoldable pub quiet : List ℕ → Bool
quiet path = each_below (hops path) (λ j. not (cons_ingress_alert (hop_field path j)) && not (cons_egress_alert (hop_field path j)))

-- 2, 3, 4, then 23, 24, 25
abbrev pub questions : Edition → Layout → List ℕ → ℕ → ℕ → List ℕ → Questions JourneyError
questions edition layout itinerary earliest latest path =
    within HeaderFailed (header_questions path)
    ++ ((itinerary_fits layout itinerary (station_count edition path) && leb earliest latest, UnfitItinerary)
    ∷ (eqb (curr_hf path) 0 && eqb (curr_inf path) 0, NotAtStart)
    ∷ (quiet path, AlertSet)
    ∷ [])
