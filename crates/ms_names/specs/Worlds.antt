-- The names that the items of both texts declare.
use Rattle.ms_typing.specs.Meaning as m
use Rattle.ms_names.specs.Globals.{globals_view}
use Rattle.ms_names.specs.declared.world.World.{World}

abbrev pub world_view : World → m.World
world_view w = record { model = globals_view w.model; library = globals_view w.library }
