use Rattle.ms_session.proofs.Stacks.{Begins, begins_sound, begins_opening, begins_valid}
use Rattle.ms_session.proofs.plain_scopes.PlainScopes.open.Goals as goal

begins : (c : goal.After-new-2) → Begins c.args.sets.now c.in_ok-declared.declared c.args.constraints.now c.in_ok-constraints.constraints.items c.total_size-live.result c.in_ok-current.current c.new-2.result.items
begins c = record {
  same = c.in_ok-declared.ensures.value;
  proper = c.in_ok-declared.ensures.proper;
  fit = c.requires.fit;
  copied = c.in_ok-constraints.ensures;
  live_is = c.total_size-live.ensures;
  opened = c.in_ok-current.ensures;
  alone = c.new-2.ensures.items;
}

pub invariant_of-result : goal.invariant_of-result
invariant_of-result c = begins_sound c.args.sets.now c.in_ok-declared.declared c.args.constraints.now c.in_ok-constraints.constraints.items c.total_size-live.result c.in_ok-current.current c.new-2.result.items (begins c)

pub returns-clause-opening : goal.returns-clause-opening
returns-clause-opening c = begins_opening c.args.sets.now c.in_ok-declared.declared c.args.branching c.args.constraints.now c.in_ok-constraints.constraints.items c.total_size-live.result c.in_ok-current.current c.new-2.result.items (begins c)

pub returns-clause-valid : goal.returns-clause-valid
returns-clause-valid c = begins_valid c.args.sets.now c.in_ok-declared.declared c.args.branching c.args.constraints.now c.in_ok-constraints.constraints.items c.total_size-live.result c.in_ok-current.current c.new-2.result.items (begins c)
