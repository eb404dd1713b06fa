-- Answers as numbers: 01's for refusals, and numbers from 100 on for what is done with a packet.
-- Assumes nothing.
use Rattle.std.specs.Prelude.{ℕ, List, [], ◌∷◌, length, get_or, Option, Some, None, Result, Ok, Err}
use Rattle.questions.specs.Questions.{asks}
use Rattle.standard_path.specs.Header.{header_number, header_questions, segment_index}
use Rattle.standard_path.specs.declared.view.SegmentIndex.{SegmentIndex}
use Rattle.standard_path.specs.declared.view.HeaderError.{HeaderError}
use Rattle.expiration.specs.Expiration.{expiration_number}
use Rattle.reverse.specs.Reverse.{reverse_number}
use Rattle.reverse.specs.declared.PathReverseError.{PathReverseError}
use Rattle.answers.specs.Answer.{refusal_number, refusal_values, action_number, action_values, four_values, flag, StepAnswer, IngressAnswer}
use Rattle.scmp.specs.Scmp.{to_scmp_error, scmp_values}
use Rattle.answers.specs.declared.StandardRoutingError.{StandardRoutingError}
use Rattle.answers.specs.declared.AsRoutingAction.{AsRoutingAction}
use Rattle.answers.specs.declared.IngressNextAction.TheVariants as ingress
use Rattle.scmp.specs.declared.ScmpError.{ScmpError}
use Rattle.journey_questions.specs.Questions.{journey_number}
use Rattle.journey_questions.specs.declared.answer.JourneyError.{JourneyError}
use Rattle.journey_questions.specs.declared.answer.Verdict.{Verdict}
use Rattle.journey_questions.specs.declared.answer.Verdict.TheVariants as verdict
use Rattle.reply.specs.declared.Reply.{Reply}

-- with the SCMP error's type, code, and pointer or interface; 0 for each where there is none
abbrev pub reply : ℕ → List ℕ → Option ScmpError → Reply
reply number values error =
    record {
      number = number;
      count = length values;
      values = four_values values;
      kind = get_or (scmp_values error) 0 0;
      code = get_or (scmp_values error) 1 0;
      pointer = get_or (scmp_values error) 2 0;
    }

unfoldable pub refusal_reply : StandardRoutingError → Reply
refusal_reply why = reply (refusal_number why) (refusal_values why) (to_scmp_error why)

-- ---- what is done with a packet

abbrev pub action_reply : AsRoutingAction → Reply
action_reply action = reply (action_number action) (action_values action) None

unfoldable pub step_reply : StepAnswer → Reply
step_reply (Ok action) = action_reply action
step_reply (Err why) = refusal_reply why

unfoldable pub ingress_reply : IngressAnswer → Reply
ingress_reply (Ok (ingress.ContinueEgress interface)) = reply 100 (interface ∷ []) None
ingress_reply (Ok (ingress.Complete action)) = action_reply action
ingress_reply (Err why) = refusal_reply why

-- ---- the other calls

unfoldable pub reversal_reply : Result Unit PathReverseError → Reply
reversal_reply (Ok done) = reply 110 [] None
reversal_reply (Err error) = reply (reverse_number error) [] None

unfoldable pub expiration_reply : Result ℕ HeaderError → Reply
expiration_reply (Ok time) = reply 111 (time ∷ []) None
expiration_reply (Err error) = reply (expiration_number (Err error)) [] None

-- of the hop with this index: its segment, and whether it is the first there, and the last
unfoldable pub index_reply : ℕ → Option SegmentIndex → Reply
index_reply hop (Some segment) = reply 112 (segment.index ∷ flag segment.start ∷ flag segment.end ∷ []) None
index_reply hop None = reply 5 (hop ∷ []) None

-- the same, 2, 3 and 4 first
unfoldable pub segment_reply : List ℕ → ℕ → Reply
segment_reply path hop =
    asks (λ error. reply (header_number error) [] None) (header_questions path) (index_reply hop (segment_index path hop))

unfoldable pub journey_reply : Result Verdict JourneyError → Reply
journey_reply (Ok verdict.Passed) = reply 120 [] None
journey_reply (Ok verdict.NotPassed) = reply 121 [] None
journey_reply (Err error) = reply (journey_number error) [] None
