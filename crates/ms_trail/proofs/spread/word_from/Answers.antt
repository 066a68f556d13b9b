use Rattle.ms_domains.specs.Domains.{domain_set}
use Rattle.ms_trail.proofs.Filling.{word_known, word_rest}
use Rattle.ms_trail.proofs.spread.word_from.Goals as goal

pub loop-k-preserved : goal.loop-k-preserved
loop-k-preserved c = record {
  known = word_known (domain_set c.args.lists.now c.args.row.now c.args.domain).has _ c.loop-k.bits c.with_if-bits.result c.loop-k.k c.has_above.result c.loop-k.invariant.known c.has_above.ensures c.with_if-bits.ensures.at c.with_if-bits.ensures.others;
  rest = word_rest c.loop-k.bits c.with_if-bits.result c.loop-k.k c.loop-k.invariant.rest c.with_if-bits.ensures.others;
}
