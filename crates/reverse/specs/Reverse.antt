-- 01, 'view.rs', `try_reverse`: its answer, the questions in order, and the bytes that it leaves.
-- Assumes nothing.
use Rattle.std.specs.Prelude.{ℕ, ◌-◌, not, List, [], ◌∷◌, ◌++◌, eqb, ltb, Result, Ok, Err}
use Rattle.questions.specs.Questions.{Questions, asks, within}
use Rattle.standard_path.specs.Meta.{curr_inf, curr_hf, seg0_len, set_curr_inf, set_curr_hf}
use Rattle.standard_path.specs.Header.{infos, hops, header_number, header_questions}
use Rattle.segments.specs.Segments.{segment_count}
use Rattle.reverse_parts.specs.Parts.{swap_lengths, reverse_parts}
use Rattle.reverse.specs.declared.PathReverseError.{PathReverseError}
use Rattle.reverse.specs.declared.PathReverseError.TheVariants.{HeaderFailed, NoSegments, HopOutOfBounds, InfoOutOfBounds}

-- 01's number of an error
abbrev pub reverse_number : PathReverseError → ℕ
reverse_number (HeaderFailed error) = header_number error
reverse_number NoSegments = 20
reverse_number HopOutOfBounds = 21
reverse_number InfoOutOfBounds = 22

-- the whole path turned around: the current fields are the same ones, counted from the other end
unfoldable pub reversed : List ℕ → List ℕ
reversed path =
    set_curr_inf (set_curr_hf
    (reverse_parts (infos path) (hops path) (swap_lengths path))
    (hops path - 1 - curr_hf path))
    (segment_count path - 1 - curr_inf path)

-- 01, 'Questions in order': 20, 21 and 22
abbrev pub index_questions : List ℕ → Questions PathReverseError
index_questions path =
    (not (eqb (seg0_len path) 0), NoSegments)
    ∷ (ltb (curr_hf path) (hops path), HopOutOfBounds)
    ∷ (ltb (curr_inf path) (segment_count path), InfoOutOfBounds)
    ∷ []

-- 2, 3 and 4, then these
abbrev pub reverse_questions : List ℕ → Questions PathReverseError
reverse_questions path = within HeaderFailed (header_questions path) ++ index_questions path

unfoldable pub reverse_answer : List ℕ → Result Unit PathReverseError
reverse_answer path = asks Err (reverse_questions path) (Ok tt)

-- 01, 'Bytes left': 21 and 22 leave the lengths swapped
unfoldable pub bytes_left : Result Unit PathReverseError → List ℕ → List ℕ
bytes_left (Ok done) path = reversed path
bytes_left (Err (HeaderFailed error)) path = path
bytes_left (Err NoSegments) path = path
bytes_left (Err HopOutOfBounds) path = swap_lengths path
bytes_left (Err InfoOutOfBounds) path = swap_lengths path

unfoldable pub reverse_bytes : List ℕ → List ℕ
reverse_bytes path = bytes_left (reverse_answer path) path
