-- 01, 'Questions in order', its last lines: the SCMP error of each refusal, by type, code and pointer or interface.
-- Assumes nothing.
use Rattle.std.specs.Prelude.{ℕ, Bool, not, cond, List, [], ◌∷◌, Option, Some, None}
use Rattle.answers.specs.declared.StandardRoutingError.{StandardRoutingError}
use Rattle.answers.specs.declared.StandardRoutingError.TheVariants.{UnsoundTable, HeaderFailed, AdvanceFailed, InvalidIngressInterface, InvalidEgressInterface, FutureTimestamp, SegmentExpired, UnknownIngressInterface, UnknownEgressInterface, InvalidMacError, InvalidSegmentChange, EgressInterfaceDown, InvalidScmpAlert}
use Rattle.scmp.specs.declared.ScmpParameterProblemCode.{ScmpParameterProblemCode}
use Rattle.scmp.specs.declared.ScmpParameterProblemCode.TheVariants as problem
use Rattle.scmp.specs.declared.ScmpError.{ScmpError}
use Rattle.scmp.specs.declared.ScmpError.TheVariants.{ParameterProblem, ExternalInterfaceDown}

abbrev pub code_number : ScmpParameterProblemCode → ℕ
code_number problem.ErroneousHeaderField = 0
code_number problem.InvalidPath = 48
code_number problem.UnknownHopFieldConsIngressInterface = 49
code_number problem.UnknownHopFieldConsEgressInterface = 50
code_number problem.InvalidHopFieldMac = 51
code_number problem.PathExpired = 52
code_number problem.InvalidSegmentChange = 53

-- type, code, and the pointer or the interface
abbrev pub scmp_values : Option ScmpError → List ℕ
scmp_values None = []
scmp_values (Some (ParameterProblem code pointer)) = 4 ∷ code_number code ∷ pointer ∷ []
scmp_values (Some (ExternalInterfaceDown interface)) = 5 ∷ 0 ∷ interface ∷ []

-- 49 for a ConsIngress, 50 for a ConsEgress
abbrev pub interface_code : Bool → ScmpParameterProblemCode
interface_code is_cons_ingress = cond is_cons_ingress problem.UnknownHopFieldConsIngressInterface problem.UnknownHopFieldConsEgressInterface

-- a parameter problem of the path's header, with pointer 0
abbrev parameter_problem : ScmpParameterProblemCode → Option ScmpError
parameter_problem code = Some (ParameterProblem code 0)

-- with C set the travel ingress is the ConsIngress, and the travel egress the ConsEgress
unfoldable pub to_scmp_error : StandardRoutingError → Option ScmpError
to_scmp_error UnsoundTable = None
to_scmp_error (HeaderFailed error) = None
to_scmp_error (AdvanceFailed why) = None
to_scmp_error (InvalidIngressInterface hop expected found c) = parameter_problem (interface_code c)
to_scmp_error (FutureTimestamp hop) = parameter_problem problem.InvalidPath
to_scmp_error (SegmentExpired hop) = parameter_problem problem.PathExpired
to_scmp_error (InvalidMacError hop expected actual) = parameter_problem problem.InvalidHopFieldMac
to_scmp_error (InvalidScmpAlert hop c) = parameter_problem problem.ErroneousHeaderField
to_scmp_error (UnknownIngressInterface hop interface c) = parameter_problem (interface_code c)
to_scmp_error (UnknownEgressInterface hop interface c) = parameter_problem (interface_code (not c))
to_scmp_error (InvalidSegmentChange hop) = parameter_problem problem.InvalidSegmentChange
to_scmp_error (EgressInterfaceDown hop interface) = Some (ExternalInterfaceDown interface)
to_scmp_error (InvalidEgressInterface hop expected found c) = parameter_problem (interface_code (not c))
