-- 01, 'Passed exactly if', its first point: the three lengths; and how they share stations.
-- Assumes nothing.
use Rattle.std.specs.Prelude.{ℕ, Bool, not, ◌&&◌, ◌||◌, cond, List, eqb, leb}
use Rattle.standard_path.specs.Meta.{seg0_len, seg1_len, seg2_len}
use Rattle.edition.specs.declared.Edition.{Edition}
use Rattle.edition.specs.Edition.{peering_path}

-- 'each used length is at least 2'
abbrev pub long_enough : ℕ → Bool
long_enough count = eqb count 0 || leb 2 count

-- 'the first length is not 0, no nonzero length follows a zero one'
unfoldable pub lengths_fit : ℕ → ℕ → ℕ → Bool
lengths_fit seg0 seg1 seg2 =
    not (eqb seg0 0) && (not (eqb seg1 0) || eqb seg2 0) && long_enough seg0 && long_enough seg1 && long_enough seg2

-- F-6: 'A one-hop segment is accepted on such a path .. and in its journey'; its two lengths are not 0, and no third follows
abbrev pub lengths_pass : Edition → List ℕ → Bool
lengths_pass edition path = peering_path edition path || lengths_fit (seg0_len path) (seg1_len path) (seg2_len path)

-- how many stations before segment s take two hops. F-6: 'counts each peering hop as an AS of its own'
abbrev pub shared : Edition → List ℕ → ℕ → ℕ
shared edition path s = cond (peering_path edition path) 0 s
