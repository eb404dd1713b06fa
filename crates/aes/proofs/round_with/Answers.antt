use mathlib.Core.Path.{ap, ap₂, ◌∙◌}
use Rattle.aes_words.specs.Block.{xor_block, joined}
use Rattle.aes_words.specs.Words.{word_bytes, words_bytes}
use Rattle.aes_words.proofs.WordBytes.{state_of_lem, xor_key_words}
use Rattle.aes.proofs.round_with.Goals as goal

pub returns : goal.returns
unfolding words_bytes word_bytes
returns g c =
    let w0 = c.element_fits.fits in
    let w1 = c.element_fits2.fits in
    let w2 = c.element_fits3.fits in
    let w3 = c.element_fits4.fits in
    let by = c.requires.1.1 in
    c.xor_words.ensures
    ∙ ap₂ xor_block (state_of_lem _ _ _ _ (by _ _ _ _ _ w0 w1 w2 w3 c.column.ensures) (by _ _ _ _ _ w1 w2 w3 w0 c.column-2.ensures) (by _ _ _ _ _ w2 w3 w0 w1 c.column-3.ensures) (by _ _ _ _ _ w3 w0 w1 w2 c.column-4.ensures)) (ap joined c.words.ensures)
    ∙ xor_key_words _ _
