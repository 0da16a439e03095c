use Rattle.std.proofs.Common.{length, ap, arith}
use Rattle.observe_log.specs.Lines.{Read}
use Rattle.observe_log.proofs.WordLemmas.{heading_shrinks}
use Rattle.observe_log.proofs.EndLemmas.{on_ok}
use Rattle.observe_log.proofs.reading.Reading.read.Goals as goal

pub read_data-requires : goal.read_data-requires
read_data-requires c =
    let less = heading_shrinks c.args.initiators.now c.args.words.now c.read_heading.new.words c.in_ok-heading.heading c.in_ok-heading.ensures.read in
    omega (arith, less, c.requires.few)

-- as many as the words that are left behind the heading, at most
pub returns-clause-few : goal.returns-clause-few
returns-clause-few c =
    let less = heading_shrinks c.args.initiators.now c.args.words.now c.read_heading.new.words c.in_ok-heading.heading c.in_ok-heading.ensures.read in
    let before = ap (λ (read : Read). length read.phases) c.self.view_is in
    on_ok _ c.add.result (omega (arith, less, before, c.in_ok-count.ensures.few))
