-- 01, 'view.rs', `expiration`: when a path ends. The Rust: `expiration` of view.rs.
-- Assumes nothing.
use Rattle.std.specs.Prelude.{ℕ, min, cond, List, [], ◌∷◌, map, eqb, Result, Ok, Err}
use Rattle.questions.specs.Questions.{asks}
use Rattle.octets.specs.Bytes.{tabulate}
use Rattle.fields.specs.Fields.{timestamp, exp_time, expiry}
use Rattle.standard_path.specs.Header.{info_field, hop_field, header_number, header_questions}
use Rattle.segments.specs.Segments.{segments, segment_count}
use Rattle.segments.specs.declared.Segment.{Segment}
use Rattle.standard_path.specs.declared.view.HeaderError.{HeaderError}

-- the least of a list of times, of which none is above the cap; the cap for none
abbrev pub least : List ℕ → ℕ
least [] = 4294967295
least (time ∷ times) = min time (least times)

unfoldable pub hop_expiry : List ℕ → ℕ → ℕ → ℕ
hop_expiry path info hop = expiry (timestamp (info_field path info)) (exp_time (hop_field path hop))

unfoldable pub segment_expiry : List ℕ → Segment → ℕ
segment_expiry path segment = least (tabulate segment.hop_count segment.first_hop (hop_expiry path segment.info_idx))

-- the least expiry over the segments, 0 if there are none
unfoldable pub path_expiry : List ℕ → ℕ
path_expiry path = cond (eqb (segment_count path) 0) 0 (least (map (segment_expiry path) (segments path)))

-- questions 2, 3 and 4 first
unfoldable pub expiration : List ℕ → Result ℕ HeaderError
expiration path = asks Err (header_questions path) (Ok (path_expiry path))

-- 01's number of a refusal; 0 for a time
abbrev pub expiration_number : Result ℕ HeaderError → ℕ
expiration_number (Ok time) = 0
expiration_number (Err error) = header_number error
