-- The least intervals of every operation, of any numbers.
use Rattle.ms_num.specs.Laws.{IntervalsAreLeast}
use Rattle.ms_num.proofs.SharedSpans.{add_least, mul_least}
use Rattle.ms_num.proofs.SharedImages.{sub_least, min_least, max_least, neg_least, abs_least}
use Rattle.ms_num.proofs.SharedQuotients.{div_least}
use Rattle.ms_num.proofs.SharedRemainders.{mod_has}

pub intervals_are_least : IntervalsAreLeast
intervals_are_least = record {
  negations = neg_least;
  magnitudes = abs_least;
  sums = add_least;
  differences = sub_least;
  products = mul_least;
  minima = min_least;
  maxima = max_least;
  quotients = div_least;
  remainders = mod_has;
}
