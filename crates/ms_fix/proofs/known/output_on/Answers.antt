use Rattle.std.proofs.Common.{[], subst}
use Rattle.ms_draws.specs.List.{first_word, later_words}
use Rattle.ms_placing.specs.Placing.{placed_from}
use Rattle.ms_walk.specs.Around.{outside_of}
use Rattle.ms_fix.specs.Answers.{Grounds}
use Rattle.ms_fix.specs.Known.{around_known}
use Rattle.ms_fix.proofs.known.output_on.Goals as goal

pub returns : goal.returns
returns c =
    let out = outside_of (around_known c.args.known.now.instance.now c.args.known.now.values.items) first_word later_words in (
      c.ground_code.new.words,
      subst (λ ws. Grounds (placed_from out [] c.args.e.now ws) c.ground_code.result c.ground_code.new.words) c.in_ok-words.ensures
          (subst (λ xs. Grounds (placed_from out xs c.args.e.now c.in_ok-words.words) c.ground_code.result c.ground_code.new.words) c.new-2.ensures c.ground_code.ensures),
    )
