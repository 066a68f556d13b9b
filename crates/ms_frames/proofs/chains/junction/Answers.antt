use Rattle.std.proofs.Common.{sym, ◌∙◌}
use Rattle.ms_frames.proofs.Moved.{shows, junction_goes, junction_ends}
use Rattle.ms_frames.proofs.chains.junction.Goals as goal

pub returns-then-is_shallow : goal.returns-then-is_shallow
returns-then-is_shallow c out here ws = shows out _ _ _ _ _ _ _ (junction_goes out _ here _ _ _ _ _ _ c.args.links _ _ _ _ c.in_ok-push.ensures.ok c.in_ok-tick.ensures c.nesting.ensures (sym c.if-is_shallow.true ∙ c.is_shallow.ensures)) (c.connected.ensures out here _ ws)

pub returns : goal.returns
returns c out here ws = junction_ends out _ here _ _ _ _ _ _ c.args.links _ _ _ _ c.in_ok-push.ensures.ok c.in_ok-tick.ensures c.nesting.ensures (sym c.if-is_shallow.false ∙ c.is_shallow.ensures)
