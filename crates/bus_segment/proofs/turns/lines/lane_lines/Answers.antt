use Rattle.std.proofs.Common.{◌+◌, ◌<◌, sym, subst, arith, w32}
use Rattle.std.proofs.lemmas.Nat.Bits.{bit_at_set_same, bit_at_set_other}
use Rattle.bus_segment.specs.turns.Works.{AsksUpTo}
use Rattle.bus_segment.proofs.turns.AskLemmas.{asks_none, asks_more, asks_skip}
use Rattle.bus_segment.proofs.turns.lines.lane_lines.Goals as goal
use Rattle.bus_segment.proofs.turns.lines.lane_lines.Goals.{then-lane_presents, else-lane_presents}

pub loop-place-init : goal.loop-place-init
loop-place-init c = asks_none c.args.bus.now 0

pub loop-place-preserved : goal.loop-place-preserved
loop-place-preserved c =
    let place = c.loop-place.place in
    let within : place < 32 = omega (arith, c.ports-place-end.ensures, c.loop-place-test.true, c.requires.ports) in
    elim c.if-lane_presents.branch [
      | then-lane_presents w ↦
          subst (λ lines. AsksUpTo c.args.bus.now 0 (place + 1) lines) (sym w.lines-is)
          (asks_more c.args.bus.now 0 place (place + 1) c.loop-place.lines _ (omega arith) (omega arith) (bit_at_set_same w32 c.loop-place.lines place within) (λ n apart. bit_at_set_other w32 c.loop-place.lines place within n apart) c.loop-place.invariant)
      | else-lane_presents w ↦
          subst (λ lines. AsksUpTo c.args.bus.now 0 (place + 1) lines) (sym w.lines-is)
          (asks_skip c.args.bus.now 0 place (place + 1) c.loop-place.lines (omega arith) (c.lane_presents.ensures w.if-lane_presents.false) c.loop-place.invariant)
    ]
