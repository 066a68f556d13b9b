use Rattle.std.proofs.Common.{subst}
use Rattle.ms_rows.specs.Forms.{Tells}
use Rattle.ms_syntax.specs.Tree.{ex_view}
use Rattle.ms_typing.specs.declared.types.ExprType.{ExprType}
use Rattle.ms_typing.specs.Least.{Typing}
use Rattle.ms_names.specs.Scopes.{names_of}
use Rattle.ms_names.specs.Worlds.{world_view}
use Rattle.ms_nodes.specs.declared.parts.Elaborated.{Elaborated}
use Rattle.ms_elaborator.specs.Answers.{TellsOf}
use Rattle.ms_elaborator.specs.Made.{made_of}
use Rattle.ms_elaborator.specs.Walk.{walk}
use Rattle.ms_elaborator.proofs.Elaborating.{elaborated}
use Rattle.ms_elaborator.proofs.Made.{made}
use Rattle.ms_elaborator.proofs.Told.{tells_tree, tells_type}
use Rattle.ms_elaborator.proofs.Walked.{walked}
use Rattle.ms_elaborator.proofs.typed.elaborate.Goals as goal

pub returns : goal.returns
returns c =
    let world = world_view c.args.world.now in
    let s = c.args.around in
    let names = names_of c.args.scope.now in
    let e = ex_view c.args.e.now in
    let told = subst (λ (r : Typing Elaborated). Tells r c.check.result) (elaborated world s e names) c.check.ensures in
    record {
      typing = subst (λ (r : Typing ExprType). TellsOf (λ (m : Elaborated). m.kind) r c.check.result) (walked world s e names)
          (tells_type (walk world s names e) (made_of world s names e) c.check.result told);
      code = tells_tree (walk world s names e) (made_of world s names e) _ c.check.result (made world s e names) told;
    }
