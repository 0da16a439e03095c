-- The steps of delayed requests: PCI Local Bus Specification 2.2, section 3.3.3.3 (from memory; delayed transactions).
use Rattle.history_model.specs.declared.event.Step.{Step}
use Rattle.history_model.specs.declared.event.Step.TheVariants.{Land, Part, Read, Accept, Latch, Take, Stall, MasterAbort, TargetAbort}

-- the steps by which an operation ends where its way ends
abbrev pub IsEnd : Step → Type 0
IsEnd Land = Unit {0}
IsEnd (Part phases) = ⊥
IsEnd (Read value) = Unit {0}
IsEnd Accept = ⊥
IsEnd Latch = ⊥
IsEnd (Take outcome) = ⊥
IsEnd Stall = ⊥
IsEnd MasterAbort = Unit {0}
IsEnd TargetAbort = Unit {0}
