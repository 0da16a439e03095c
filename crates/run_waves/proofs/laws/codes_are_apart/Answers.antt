use Rattle.std.proofs.Common.{arith}
use Rattle.run_waves.proofs.CodeLemmas.{codes_differ}
use Rattle.run_waves.proofs.CountLemmas.{few_signals}
use Rattle.run_waves.proofs.laws.codes_are_apart.Goals as goal

pub returns : goal.returns
returns c = λ board j k valid first second same.
    let few = few_signals board valid in
    codes_differ j k (omega arith) (omega arith) same
