-- The test by which a sort knows events of equal stamps.
use Rattle.std.proofs.Common.{Bool, arith}
use Rattle.std.specs.List.Sorted.{ties}
use Rattle.std.specs.Ordering.{is_lt, nat_cmp}
use Rattle.std.proofs.lemmas.Bool.Decides.{nat_tests}
use Rattle.history_model.specs.declared.event.Stamped.{Stamped}
use Rattle.engine_phases.proofs.merging.OrderLemmas.{TestsSame}

abbrev pub same_stamp : Stamped → Stamped → Bool
same_stamp = ties (λ (x y : Stamped). is_lt (nat_cmp x.stamp y.stamp))

pub same_tests : TestsSame same_stamp
same_tests = record { yes = λ a b is. grind (arith, nat_tests); no = λ a b is. grind (arith, nat_tests) }
