-- Faults of placings, as callers see them.
use Rattle.ms_placing.specs.declared.fault.PlaceFault.{PlaceFault}
use Rattle.ms_placing.specs.declared.fault.PlaceFault.TheVariants as f
use Rattle.ms_fix.specs.declared.fault.GroundFault.{GroundFault}
use Rattle.ms_fix.specs.declared.fault.GroundFault.TheVariants as g

abbrev pub fault_of : PlaceFault → GroundFault
fault_of (f.Wide p) = g.Wide p
fault_of (f.Big count p) = g.Big count p
fault_of f.Memory = g.Memory
