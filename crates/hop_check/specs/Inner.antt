-- For the contracts of inner functions: the MACs of a key, from a round table that is lent. With AES's own they are the key's:
-- proofs/Lent.antt.
-- Assumes nothing.
use Rattle.std.specs.Prelude.{ℕ, List}
use Rattle.aes_keys.specs.KeyExpansion.{round_keys}
use Rattle.aes.specs.ByTable.{cipher_by}
use Rattle.cmac.specs.Cmac.{subkey1}
use Rattle.validator.specs.Check.{MacFunction}
use Rattle.validator.specs.Inner.{schedule_mac}

abbrev pub key_mac_by : List ℕ → List ℕ → MacFunction
key_mac_by table key = schedule_mac table (round_keys key) (subkey1 (cipher_by table (round_keys key)))
