use Rattle.std.proofs.Common.{false}
use Rattle.ms_prim.specs.declared.pieces.Lit.{Lit}
use Rattle.ms_prim.specs.Constraints.{lit_tree}
use Rattle.ms_prim.proofs.SharedPushed.{next_pushed, lit_names}
use Rattle.ms_prim.proofs.naming.push_lits.Goals as goal

pub loop-lit-preserved : goal.loop-lit-preserved
loop-lit-preserved c = next_pushed lit_tree (λ (l : Lit). l.var) lit_names c.args.lits.now c.loop-lit.lit-index (record { var = 0; positive = false }) c.loop-lit-test.true c.loop-lit.list.items c.push.new.self.items _ c.in_ok-push.ensures.items c.loop-lit.invariant
