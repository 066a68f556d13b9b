use Rattle.ms_top.proofs.Outcome.{Laws, not_both}
use Rattle.ms_top.proofs.Outcome as outcome
use Rattle.ms_top.proofs.laws.one_outcome.Goals as goal

laws : (c : goal.After-one_verdict) → Laws
laws c = record {
  one_list = c.one_reading.ensures.one_list;
  none_beside = c.one_reading.ensures.none_beside;
  one_fault = c.one_reading.ensures.one_fault;
  one_answer = c.one_answer.ensures.models;
  one_model = c.one_model.ensures;
  one_type_fault = c.one_verdict.ensures.one_fault;
  not_ill_typed = c.one_verdict.ensures.not_both;
}

pub returns-clause-one_fault : goal.returns-clause-one_fault
returns-clause-one_fault c = outcome.one_fault (laws c)

pub returns-clause-not_both : goal.returns-clause-not_both
returns-clause-not_both c = not_both (laws c)

pub returns-clause-one_model : goal.returns-clause-one_model
returns-clause-one_model c = outcome.one_model (laws c)
