use Rattle.std.proofs.Common.{◌≡◌, ◌/◌, true, false, nat_lt, arith}
use Rattle.std.proofs.lemmas.Bool.Decides.{nat_tests}
use Rattle.std.proofs.lemmas.Grind.{common_steps}
use Rattle.run_waves.proofs.code.CodeDisplay.fmt.Goals as goal

pub returns-then-number-lt94-clause-writes : goal.returns-then-number-lt94-clause-writes
returns-then-number-lt94-clause-writes g c =
    let k = c.args.self.now.0 in
    let one : nat_lt k 94 ≡ true = grind (arith, nat_tests, c.if-number-lt94.true) in
    rw one (grind (arith, common_steps))

pub returns-then-number-lt94-2-clause-writes : goal.returns-then-number-lt94-2-clause-writes
returns-then-number-lt94-2-clause-writes g c =
    let k = c.args.self.now.0 in
    let more : nat_lt k 94 ≡ false = grind (arith, nat_tests, c.if-number-lt94.false) in
    let two : nat_lt (k / 94) 94 ≡ true = grind (arith, nat_tests, c.if-number-lt94-2.true) in
    rw (more, two) (grind (arith, common_steps))

pub returns-clause-writes : goal.returns-clause-writes
returns-clause-writes g c =
    let k = c.args.self.now.0 in
    let more : nat_lt k 94 ≡ false = grind (arith, nat_tests, c.if-number-lt94.false) in
    let most : nat_lt (k / 94) 94 ≡ false = grind (arith, nat_tests, c.if-number-lt94-2.false) in
    rw (more, most) (grind (arith, common_steps))
