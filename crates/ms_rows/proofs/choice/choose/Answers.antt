use Rattle.ms_rows.proofs.choice.choose.Goals as goal

pub returns-else-all_known : goal.returns-else-all_known
returns-else-all_known c = rw (← c.if-some_search.ensures, ← c.in_ok-branch.ensures, ← c.if-all_known.ensures) c.choose_variable.ensures
