use Rattle.std.proofs.Common.{◌≡◌, take}
use Rattle.ms_exchange.proofs.incoming.texts_in.Given as goal

abbrev pub invariant-loop-text : goal.invariant-loop-text
invariant-loop-text l = l.shared ≡ take l.text-index l.texts
