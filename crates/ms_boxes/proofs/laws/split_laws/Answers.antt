use Rattle.ms_boxes.proofs.SharedParts.{splits_give_parts, parts_stand_in_order}
use Rattle.ms_boxes.proofs.laws.split_laws.Goals as goal

pub returns-clause-parts : goal.returns-clause-parts
returns-clause-parts g c = splits_give_parts _

pub returns-clause-order : goal.returns-clause-order
returns-clause-order g c = parts_stand_in_order _
