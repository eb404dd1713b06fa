-- For the contracts of inner functions.
-- Assumes nothing.
use Rattle.std.specs.Prelude.{ℕ, ◌+◌, Bool, not, ◌||◌, List, [], ◌∷◌, ◌++◌, eqb, ltb}
use Rattle.standard_path.specs.Meta.{curr_hf}
use Rattle.answers.specs.Questions.{Questions}
use Rattle.answers.specs.declared.AdvanceError.TheVariants.{HopOutOfBounds, InfoOutOfBounds, InvalidSegmentIndex, SegmentEnd, MisplacedPeering}
use Rattle.answers.specs.declared.StandardRoutingError.TheVariants.{AdvanceFailed}
use Rattle.edition.specs.declared.Edition.{Edition}
use Rattle.place.specs.Place.{place_questions, changes, is_final, ends}
use Rattle.place.specs.declared.Place.{Place}

-- where the path stands at ingress
abbrev pub stands : Edition → List ℕ → Place
stands edition path = record { change = changes edition path; last = is_final path }

-- questions 7 and 8 of a segment's index, of CurrINF and of how many info fields there are
abbrev pub info_questions : ℕ → ℕ → ℕ → Questions
info_questions expected actual infos =
    (eqb expected actual, AdvanceFailed (InvalidSegmentIndex expected actual))
    ∷ (ltb actual infos, AdvanceFailed (InfoOutOfBounds actual))
    ∷ []

-- `egress_place`, with what the edition makes of the path lent: whether 28's rule holds, and whether the hop is the first peering hop.
-- With these it is `egress_place`: `placed_by` in proofs/Places.antt
abbrev pub onward_by : List ℕ → Bool → Bool → Questions
onward_by path fits crossing =
    (fits, AdvanceFailed MisplacedPeering)
    ∷ (not (is_final path), AdvanceFailed (HopOutOfBounds (curr_hf path + 1)))
    ∷ (crossing || not (ends path), AdvanceFailed SegmentEnd)
    ∷ []

abbrev pub egress_place_by : List ℕ → Bool → Bool → Questions
egress_place_by path fits crossing = place_questions path ++ onward_by path fits crossing
