use Rattle.std.proofs.Common.{◌+◌, ◌<◌, sym, subst, arith, w32}
use Rattle.std.proofs.lemmas.Nat.Bits.{bit_at_set_same, bit_at_set_other}
use Rattle.board_model.specs.Limits.{most_ports}
use Rattle.bus_segment.specs.turns.Works.{AsksUpTo}
use Rattle.bus_segment.proofs.turns.AskLemmas.{asks_none, asks_more, asks_skip}
use Rattle.bus_segment.proofs.turns.lines.master_lines.Goals as goal
use Rattle.bus_segment.proofs.turns.lines.master_lines.Goals.{then-master_presents, else-master_presents}

pub loop-place-init : goal.loop-place-init
loop-place-init c = asks_none c.args.bus.now most_ports

pub loop-place-preserved : goal.loop-place-preserved
loop-place-preserved c =
    let place = c.loop-place.place in
    let within : most_ports + place < 32 = omega (arith, c.masters-place-end.ensures, c.loop-place-test.true, c.requires.masters) in
    elim c.if-master_presents.branch [
      | then-master_presents w ↦
          subst (λ lines. AsksUpTo c.args.bus.now most_ports (most_ports + (place + 1)) lines) (sym w.lines-is)
          (asks_more c.args.bus.now most_ports (most_ports + place) (most_ports + (place + 1)) c.loop-place.lines _ (omega arith) (omega arith) (bit_at_set_same w32 c.loop-place.lines (most_ports + place) within) (λ n apart. bit_at_set_other w32 c.loop-place.lines (most_ports + place) within n apart) c.loop-place.invariant)
      | else-master_presents w ↦
          subst (λ lines. AsksUpTo c.args.bus.now most_ports (most_ports + (place + 1)) lines) (sym w.lines-is)
          (asks_skip c.args.bus.now most_ports (most_ports + place) (most_ports + (place + 1)) c.loop-place.lines (omega arith) (c.master_presents.ensures w.if-master_presents.false) c.loop-place.invariant)
    ]
