use Prim.Native.Nat.{◌-◌}
use mathlib.Core.Path.{◌≡◌}
use mathlib.Core.List.{[]}
use Rattle.aes_words.specs.Words.{words_bytes}
use Rattle.aes_keys.proofs.KeyWords.{key_words}
use Rattle.octets.proofs.Lists.{Filled}
use Rattle.aes_keys.specs.KeyExpansion.{round_keys}
use Rattle.aes_keys.proofs.SBox.expand.Given as goal

abbrev pub invariant-loop-i : goal.invariant-loop-i
invariant-loop-i l = (words_bytes l.last ≡ key_words l.fn.key (l.i - 1)) × Filled [] (round_keys l.fn.key) l.round_keys l.i
