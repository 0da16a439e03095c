use Rattle.std.proofs.Common.{◌<◌, List, Bool, subst, sym, length, arith}
use Rattle.judge_next.specs.Quiet.{AllBelow}
use Rattle.judge_next.proofs.QuietLemmas.{marked_below}
use Rattle.judge_next.proofs.quiet.Quiet.mark.Goals as goal

pub returns-clause-flags : goal.returns-clause-flags
returns-clause-flags c =
    let flags : List Bool = c.args.self.now.buses.items in
    let bus = c.args.bus in
    let inside : bus < length flags = omega (arith, c.ranges.bus.fits, c.requires.all) in
    let from = c.from_behind-from in
    record {
      all = c.note.ensures.all;
      few = from.ensures.few c.requires.few;
      below = subst (λ (after : List Bool). AllBelow after from.result) (sym c.note.ensures.known)
          (marked_below flags c.args.self.now.from bus from.result c.args.is_quiet inside c.requires.below from.ensures.below);
    }
