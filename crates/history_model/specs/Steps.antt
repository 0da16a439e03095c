-- The kinds of steps: PCI Local Bus Specification 2.2, section 3.3.3 (from memory; termination by the target).
use Rattle.std.specs.Prelude.{Bool, true, false}
use Rattle.history_model.specs.declared.event.Step.{Step}
use Rattle.history_model.specs.declared.event.Step.TheVariants.{Land, Part, Read, Accept, Latch, Take, Stall, MasterAbort, TargetAbort}

-- a target uses a stall token
abbrev pub is_stall : Step → Bool
is_stall Land = false
is_stall (Part phases) = false
is_stall (Read value) = false
is_stall Accept = false
is_stall Latch = false
is_stall (Take outcome) = false
is_stall Stall = true
is_stall MasterAbort = false
is_stall TargetAbort = false
