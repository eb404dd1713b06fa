use mathlib.Core.Path.{◌≡◌}
use Rattle.aes.specs.ByTable.{cipher_by}
use Rattle.cmac.specs.Cmac.{chained}
use Rattle.cmac.proofs.KeySchedule.chain.Given as goal

abbrev pub invariant-loop-block : goal.invariant-loop-block
invariant-loop-block l = l.state ≡ chained (cipher_by l.fn.self.table.now l.fn.self.round_keys.now) l.message l.block-index
