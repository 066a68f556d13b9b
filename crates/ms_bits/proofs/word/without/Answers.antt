use Rattle.std.proofs.Common.{w64}
use Rattle.std.proofs.lemmas.Nat.Bits.{bit_at_clear_same, bit_at_clear_other}
use Rattle.ms_bits.proofs.Words.{bit_false, bit_same}
use Rattle.ms_bits.proofs.word.without.Goals as goal

pub returns-clause-gone : goal.returns-clause-gone
returns-clause-gone c = bit_false _ c.args.k (bit_at_clear_same w64 c.args.word c.args.k c.requires)

pub returns-clause-others : goal.returns-clause-others
returns-clause-others c = λ j below other. bit_same _ c.args.word j (bit_at_clear_other w64 c.args.word c.args.k c.requires j below other)
