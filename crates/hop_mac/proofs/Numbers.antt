-- The bytes of a number as the library writes them.
-- Assumes nothing.
use mathlib.Core.Path.{◌≡◌}
use mathlib.Core.List.{[], ◌∷◌}
use Prim.Native.Nat.{ℕ, ◌/◌, ◌%◌, ◌<◌}
use native.Mathlib.Omega.{arith}
use Rattle.std.specs.Int.{w16, w32, to_be_bytes}
use Rattle.octets.specs.Bytes.{be16, be32}

pub be16_bytes : (x : ℕ) → x < 65536 → to_be_bytes w16 x ≡ be16 x
be16_bytes x h = let high : x / 256 % 256 ≡ x / 256 = omega arith in λ i. high i ∷ x % 256 ∷ []

pub be32_bytes : (x : ℕ) → x < 4294967296 → to_be_bytes w32 x ≡ be32 x
be32_bytes x h =
    let high : x / 16777216 % 256 ≡ x / 16777216 = omega arith in λ i. high i ∷ x / 65536 % 256 ∷ x / 256 % 256 ∷ x % 256 ∷ []
