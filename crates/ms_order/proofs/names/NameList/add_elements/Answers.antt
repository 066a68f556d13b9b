use Rattle.std.proofs.Common.{◌++◌, map, sym, ap, ◌∙◌}
use Rattle.std.specs.Prelude.{option_map}
use Rattle.std.proofs.lemmas.Result.{IfOk-weaker}
use Rattle.ms_syntax.specs.Tree.{names_view}
use Rattle.ms_typing.specs.Items.{enum_names}
use Rattle.ms_free_names.specs.Uses.{names_alone}
use Rattle.ms_order.proofs.Words.{listed_words}
use Rattle.ms_order.proofs.names.NameList.add_elements.Goals as goal

pub returns-in-Some : goal.returns-in-Some
returns-in-Some c =
    IfOk-weaker c.add_all.result _ _ (λ x e.
    e ∙ ap (λ bs. c.args.self.now ++ names_alone (names_view bs)) c.deref.ensures.value
    ∙ ap (λ ws. c.args.self.now ++ ws) (sym (listed_words (names_view c.in-Some.elements.items)))
    ∙ ap (λ o. c.args.self.now ++ map (λ g. g.0) (enum_names (option_map (λ v. names_view v.items) o))) (sym c.in-Some.is)) c.add_all.ensures
