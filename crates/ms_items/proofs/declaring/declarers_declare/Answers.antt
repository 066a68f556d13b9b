use Rattle.ms_items.proofs.Declarers.{all_have_declarers, declarers_declare}
use Rattle.ms_items.proofs.declaring.declarers_declare.Goals as goal

pub returns : goal.returns
returns c = record { all = all_have_declarers; there = declarers_declare }
