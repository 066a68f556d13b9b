use Rattle.std.proofs.Common.{set}
use Rattle.ms_trail.specs.Trailed.{slot_at}
use Rattle.ms_trail.proofs.Written.{word_proper, word_written}
use Rattle.ms_trail.proofs.Filled.{free_proper}
use Rattle.ms_trail.proofs.trail.Trail.fill_word.Goals as goal

pub row_word-word-requires-clause-proper : goal.row_word-word-requires-clause-proper
row_word-word-requires-clause-proper c = rw (c.lists.ensures, c.row.ensures.value) c.requires.read.proper

pub set_word-requires-clause-proper : goal.set_word-requires-clause-proper
set_word-requires-clause-proper c =
    let t = c.args.self.now in
    let row = (slot_at t c.args.v).1 in
    let ws = set row c.args.i c.row_word-word.result in
    word_proper t c.args.v c.args.domain row ws c.requires.read (free_proper t c.args.v c.args.domain row ws c.requires.read c.requires.free)

pub returns-clause-ok : goal.returns-clause-ok
returns-clause-ok c =
    let t = c.args.self.now in
    let row = (slot_at t c.args.v).1 in
    let ws = set row c.args.i c.row_word-word.result in
    record {
      word = c.row_word-word.result;
      written = word_written t c.set_word.new.self c.args.v c.args.domain row ws c.requires.read c.in_ok-set_word.ensures.ok;
      filled = rw (c.lists.ensures, c.row.ensures.value) at c.row_word-word.ensures;
    }
