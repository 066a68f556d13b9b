use Rattle.std.specs.Prelude.{pos}
use Rattle.ms_prim.specs.declared.pieces.Term.{Term}
use Rattle.ms_prim.specs.Constraints.{term_tree}
use Rattle.ms_prim.proofs.SharedPushed.{next_pushed, term_names}
use Rattle.ms_prim.proofs.naming.push_terms.Goals as goal

pub loop-term-preserved : goal.loop-term-preserved
loop-term-preserved c = next_pushed term_tree (λ (t : Term). t.var) term_names c.args.terms.now c.loop-term.term-index (record { factor = pos 0; var = 0 }) c.loop-term-test.true c.loop-term.list.items c.push.new.self.items _ c.in_ok-push.ensures.items c.loop-term.invariant
