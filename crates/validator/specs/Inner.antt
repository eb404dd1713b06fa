-- For the contracts of inner functions: the hop MAC, from a table, round keys and K1 that are lent. With the key's own it is the key's:
-- proofs/Schedule.antt.
-- Assumes nothing.
use Rattle.std.specs.Prelude.{ℕ, List, take}
use Rattle.aes.specs.ByTable.{cipher_by}
use Rattle.cmac.specs.Cmac.{mac_with}
use Rattle.hop_mac.specs.Mac.{mac_input}
use Rattle.validator.specs.Check.{MacFunction}

abbrev pub schedule_mac : List ℕ → List (List ℕ) → List ℕ → MacFunction
schedule_mac table round_keys k1 = λ beta start units into out. take 6 (mac_with (cipher_by table round_keys) k1 (mac_input beta start units into out))
