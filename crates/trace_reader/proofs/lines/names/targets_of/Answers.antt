use Rattle.std.proofs.Common.{◌<◌, List, ℕ, length, ap, arith}
use Rattle.std.specs.Str.{bytes_eq}
use Rattle.board_model.specs.WellFormed.{is_target_named}
use Rattle.trace_reader.proofs.lines.NameLemmas.{places_more}
use Rattle.trace_reader.proofs.lines.names.targets_of.Goals as goal

pub loop-place-preserved : goal.loop-place-preserved
loop-place-preserved c =
    let inside : c.loop-place.place < length c.as_slice-targets.result.now = omega arith in
    λ word. places_more (is_target_named word) c.as_slice-targets.result.now c.loop-place.place c.index-targets-place.result _ _ _ inside c.index-targets-place.is (c.loop-place.invariant word) (ap (λ (name : List ℕ). bytes_eq name word) c.bytes.ensures.value) (c.in_ok-note.ensures word)
