use Rattle.std.proofs.Common.{List, subst, ◌∙◌, Vec, Global}
use Rattle.ms_syntax.specs.Tree.{kind_view}
use Rattle.ms_typing.specs.declared.types.ExprType.{ExprType}
use Rattle.ms_typing.specs.Least.{Typing}
use Rattle.ms_names.specs.Scopes.{names_of}
use Rattle.ms_names.specs.Worlds.{world_view}
use Rattle.ms_elaborator.specs.Answers.{TellsAll}
use Rattle.ms_elaborator.proofs.Elaborating.{kind_elaborated}
use Rattle.ms_elaborator.proofs.Walked.{kind_walked}
use Rattle.ms_elaborator.proofs.typed.kind_types.Goals as goal

pub returns : goal.returns
returns c =
    let world = world_view c.args.world.now in
    let names = names_of c.args.scope.now in
    let kind = kind_view c.args.kind.now in
    subst (λ (r : Typing (List ExprType)). TellsAll (λ (v : Vec ExprType Global). v.items) r c.check_kind.result)
    (kind_elaborated world c.args.around kind names ∙ kind_walked world c.args.around kind names) c.check_kind.ensures
