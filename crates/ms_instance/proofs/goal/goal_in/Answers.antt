use Rattle.std.proofs.Common.{ap, ◌∙◌}
use Rattle.ms_types.specs.Texts.{model_of, library_of, names_among}
use Rattle.ms_instance.proofs.Solved.{goal_of_accepted, some_copied}
use Rattle.ms_instance.specs.Reading.{first_goal}
use Rattle.ms_instance.proofs.goal.goal_in.Goals as goal

pub unwrap-requires : goal.unwrap-requires
unwrap-requires c =
    let t = c.args.typed.now in
    some_copied c.first_goal.result _ (c.first_goal.ensures ∙ ap first_goal c.items.ensures) (goal_of_accepted (names_among t) (model_of t).0 (library_of t).0 c.tree-model.ensures.accepted)
