use Rattle.std.proofs.Common.{w64}
use Rattle.std.proofs.lemmas.Nat.Bits.{bit_at_set_same, bit_at_set_other}
use Rattle.ms_bits.proofs.Words.{bit_true, bit_same}
use Rattle.ms_bits.proofs.word.with.Goals as goal

pub returns-clause-there : goal.returns-clause-there
returns-clause-there c = bit_true _ c.args.k (bit_at_set_same w64 c.args.word c.args.k c.requires)

pub returns-clause-others : goal.returns-clause-others
returns-clause-others c = λ j other. bit_same _ c.args.word j (bit_at_set_other w64 c.args.word c.args.k c.requires j other)
