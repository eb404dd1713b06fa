use mathlib.Core.Path.{ap}
use Rattle.aes.specs.ByTable.{round_table, spreads}
use Rattle.aes_sbox.specs.Field.{mul}
use Rattle.aes_sbox.proofs.Table.{table, table_rule}
use Rattle.aes.proofs.round_table.Goals as goal

pub returns : goal.returns
unfolding round_table table mul
returns c = ap spreads table_rule
