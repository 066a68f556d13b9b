use Rattle.std.proofs.Common.{◌≡◌, take}
use Rattle.ms_trail.specs.Trailed.{sets_of, AreMade}
use Rattle.ms_trail.proofs.trail.Trail.domains_of.Given as goal

abbrev pub invariant-loop-set : goal.invariant-loop-set
invariant-loop-set l = record {
  same : sets_of l.self ≡ sets_of l.initial.self;
  made : AreMade l.self (take l.set-index l.sets) l.domains.items l.lengths.items;
}
