use Rattle.std.proofs.Common.{◌≡◌, ◌∷◌, ◌++◌, [], sym, ap, ◌∙◌}
use Rattle.std.specs.Prelude.{is_some}
use Rattle.std.proofs.lemmas.Result.{IfOk-weaker}
use Rattle.ms_syntax.specs.Tree.{names_view}
use Rattle.ms_declarations.specs.Numbering.{number_of}
use Rattle.ms_declarations.proofs.Numbers.{once}
use Rattle.ms_declarations.proofs.names.NameList.add_once.Goals as goal

pub returns-in-None : goal.returns-in-None
returns-in-None c = IfOk-weaker c.add.result _ _
    (λ x e w. ap (λ ns. is_some (number_of ns w)) e ∙ once (names_view c.args.self.now) (c.args.place, c.args.name.now) (sym c.in-None.ensures) w)
    c.add.ensures
