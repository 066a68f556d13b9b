use Rattle.std.proofs.Common.{refl, sym, ◌∙◌}
use Rattle.ms_syntax.specs.Tree.{tree_view}
use Rattle.ms_top.proofs.Refusing.{not_small, not_read}
use Rattle.ms_top.proofs.accept.small_model.Goals as goal

pub returns-then-is_small-clause-plain : goal.returns-then-is_small-clause-plain
returns-then-is_small-clause-plain c = (c.in-Ok.ensures, sym c.is_small.ensures ∙ c.if-is_small.true)

pub returns-else-is_small-clause-not_plain : goal.returns-else-is_small-clause-not_plain
returns-else-is_small-clause-not_plain c = (refl, c.requires.typed, λ m p. not_small (tree_view c.args.tree.now) c.in-Ok.model m c.in-Ok.ensures (sym c.is_small.ensures ∙ c.if-is_small.false) p)

pub returns-in-NotPlain-clause-not_plain : goal.returns-in-NotPlain-clause-not_plain
returns-in-NotPlain-clause-not_plain c = (refl, c.requires.typed, λ m p. not_read (tree_view c.args.tree.now) m (rw c.in-NotPlain.is at c.in-Err.ensures) p)
