-- An AS's interface table, by 01, 'What takes another shape', first point: interface numbers beside state bytes.
-- Assumes nothing.
use Rattle.std.specs.Prelude.{ℕ, ◌%◌, Bool, true, false, cond, not, ◌&&◌, ◌||◌, List, [], ◌∷◌, eqb, leb, ltb, length, Option, Some, None}
use Rattle.interface_table.specs.declared.AsRoutingLinkType.{AsRoutingLinkType}
use Rattle.interface_table.specs.declared.AsRoutingLinkType.TheVariants.{LinkToCore, LinkToParent, LinkToChild, LinkToPeer}

-- ---- 01, 'Before everything', question 1: is the table sound?

-- 'strictly ascending'
unfoldable pub ids_ascending : List ℕ → Bool
ids_ascending [] = true
ids_ascending (id ∷ []) = true
ids_ascending (id ∷ next ∷ ids) = ltb id next && ids_ascending (next ∷ ids)

-- '8 and above is unsound'
unfoldable pub states_sound : List ℕ → Bool
states_sound [] = true
states_sound (state ∷ states) = ltb state 8 && states_sound states

-- 'of the same length, at most 256 entries'
unfoldable pub table_sound : List ℕ → List ℕ → Bool
table_sound ids states = eqb (length ids) (length states) && leb (length ids) 256 && ids_ascending ids && states_sound states

-- ---- 01, 'The shape of each place': 'the unique entry or none'

-- The state of the first entry with the number: in a sound table the only one (proofs/Unique.antt). It ends where either list does.
unfoldable pub state_of : List ℕ → List ℕ → ℕ → Option ℕ
state_of [] states wanted = None
state_of (id ∷ ids) [] wanted = None
state_of (id ∷ ids) (state ∷ states) wanted = cond (eqb id wanted) (Some state) (state_of ids states wanted)

-- ---- 01, 'What takes another shape': 'the link (0 core, 1 parent, 2 child, 3 peer) plus 4 if up'

abbrev pub core : ℕ
core = 0

abbrev pub parent : ℕ
parent = 1

abbrev pub child : ℕ
child = 2

abbrev pub peer : ℕ
peer = 3

abbrev pub link_number : AsRoutingLinkType → ℕ
link_number LinkToCore = core
link_number LinkToParent = parent
link_number LinkToChild = child
link_number LinkToPeer = peer

unfoldable pub link_type : ℕ → ℕ
link_type state = state % 4

unfoldable pub is_up : ℕ → Bool
is_up state = not (ltb state 4)

-- ---- 01, 'At a segment change', question 16: the link come in by, and the link to go out by

abbrev pub allowed_pairs : List (ℕ × ℕ)
allowed_pairs = (core, child) ∷ (child, core) ∷ (child, child) ∷ (child, peer) ∷ (peer, child) ∷ []

unfoldable pub is_among : List (ℕ × ℕ) → ℕ → ℕ → Bool
is_among [] in_link out_link = false
is_among (pair ∷ pairs) in_link out_link = eqb in_link pair.0 && eqb out_link pair.1 || is_among pairs in_link out_link

unfoldable pub pair_allowed : ℕ → ℕ → Bool
pair_allowed in_link out_link = is_among allowed_pairs in_link out_link
