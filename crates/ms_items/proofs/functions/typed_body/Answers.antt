use Rattle.ms_syntax.specs.Tree.{ex_view, params_view}
use Rattle.ms_typing.specs.Items.{with_params}
use Rattle.ms_names.specs.Scopes.{names_of}
use Rattle.ms_names.specs.Worlds.{world_view}
use Rattle.ms_items.proofs.Bodies.{body_lacks_memory}
use Rattle.ms_items.proofs.functions.typed_body.Goals as goal

pub want_of_memory-requires : goal.want_of_memory-requires
want_of_memory-requires c =
    body_lacks_memory c.typed_where_known.ensures.known (world_view c.args.world.now) (with_params (params_view c.args.list.now) (names_of c.args.outer.now)) (ex_view c.args.body.now)
    c.in-Err.fault c.requires c.in-Err.ensures.typing
