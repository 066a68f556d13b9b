use Rattle.std.proofs.Common.{◌∙◌, ◌*◌, ap, arith, rules, SFits, w64}
use Rattle.std.specs.Prelude.{pos, ◌+ℤ◌, ◌≤ℤ◌, ◌<ℤ◌}
use Rattle.std.proofs.lemmas.Int.{to_z-of_z, ints}
use Rattle.ms_trail.specs.Trailed.{sets_of}
use Rattle.ms_trail.proofs.Filled.{fills_read, fills_sets, fills_more, fills_all, word_inside}
use Rattle.ms_trail.proofs.trail.Trail.fill.Goals as goal

pub fill_word-requires-clause-read : goal.fill_word-requires-clause-read
fill_word-requires-clause-read c = fills_read c.args.self.now c.loop-i.self c.args.v c.args.domain c.loop-i.i c.requires.there c.requires.read c.requires.free c.loop-i.invariant

pub fill_word-requires-clause-inside : goal.fill_word-requires-clause-inside
fill_word-requires-clause-inside c =
    let lo : SFits w64 c.args.domain.lo = search rules in
    let hi : SFits w64 c.args.domain.hi = search rules in
    let needed : (c.args.domain.lo +ℤ pos (64 * c.loop-i.i)) ≤ℤ c.args.domain.hi = rw (to_z-of_z w64 c.args.domain.lo lo, to_z-of_z w64 c.args.domain.hi hi) at c.words_needed-i-end.ensures.needed c.loop-i.i c.loop-i-test.true in
    word_inside c.args.self.now c.loop-i.self c.args.v c.args.domain c.loop-i.i c.requires.there c.requires.reach needed c.loop-i.invariant

pub returns-in_err-fill_word-clause-same : goal.returns-in_err-fill_word-clause-same
returns-in_err-fill_word-clause-same c = ap sets_of c.in_err-fill_word.ensures.err ∙ fills_sets c.args.self.now c.loop-i.self c.args.v c.args.domain c.loop-i.i c.requires.read c.requires.free c.loop-i.invariant

pub loop-i-preserved : goal.loop-i-preserved
loop-i-preserved c =
    let lo : SFits w64 c.args.domain.lo = search rules in
    let hi : SFits w64 c.args.domain.hi = search rules in
    let needed : (c.args.domain.lo +ℤ pos (64 * c.loop-i.i)) ≤ℤ c.args.domain.hi = rw (to_z-of_z w64 c.args.domain.lo lo, to_z-of_z w64 c.args.domain.hi hi) at c.words_needed-i-end.ensures.needed c.loop-i.i c.loop-i-test.true in
    let inside = word_inside c.args.self.now c.loop-i.self c.args.v c.args.domain c.loop-i.i c.requires.there c.requires.reach needed c.loop-i.invariant in
    fills_more c.args.self.now c.loop-i.self c.fill_word.new.self c.args.v c.args.domain c.loop-i.i c.requires.there c.requires.read c.requires.free inside c.loop-i.invariant c.in_ok-fill_word.ensures.ok

pub returns-clause-same : goal.returns-clause-same
returns-clause-same c = fills_sets c.args.self.now c.loop-i.self c.args.v c.args.domain c.loop-i.i c.requires.read c.requires.free c.loop-i.invariant

pub returns-clause-read : goal.returns-clause-read
returns-clause-read c = fills_read c.args.self.now c.loop-i.self c.args.v c.args.domain c.loop-i.i c.requires.there c.requires.read c.requires.free c.loop-i.invariant

pub returns-clause-filled : goal.returns-clause-filled
returns-clause-filled c =
    let lo : SFits w64 c.args.domain.lo = search rules in
    let hi : SFits w64 c.args.domain.hi = search rules in
    let reach = rw (to_z-of_z w64 c.args.domain.lo lo, to_z-of_z w64 c.args.domain.hi hi) at c.words_needed-i-end.ensures.reach in
    let all : c.args.domain.hi <ℤ (c.args.domain.lo +ℤ pos (64 * c.loop-i.i)) = omega (arith, ints, reach, c.loop-i-test.false) in
    fills_all c.args.self.now c.loop-i.self c.args.v c.args.domain c.loop-i.i c.requires.there c.requires.read c.requires.free c.requires.reach all c.loop-i.invariant
