-- The ones of the two words' exclusive or are the columns that are apart.
use Rattle.std.proofs.Common.{ℕ, ap₂, ◌∙◌}
use Rattle.std.specs.Int.Bits.{bit_xor}
use Rattle.std.specs.Int.Count.{ones}
use Rattle.difference.proofs.EightBytes.{word_columns}
use Rattle.difference.proofs.words.of_word.Goals as goal

pub returns : goal.returns
returns c =
    let a = c.args in
    ap₂ (λ (x y : ℕ). ones (bit_xor x y)) c.word.ensures c.word-2.ensures
    ∙ word_columns a.a.now a.b.now (λ k. (c.type_inv.a k).fits) (λ k. (c.type_inv.b k).fits) a.at
