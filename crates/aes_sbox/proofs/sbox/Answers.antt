use Rattle.aes_sbox.proofs.Table.{table, table_rule}
use Rattle.aes_sbox.proofs.sbox.Goals as goal

pub returns : goal.returns
unfolding table
returns c = table_rule
