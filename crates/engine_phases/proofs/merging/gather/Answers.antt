use Rattle.std.proofs.Common.{◌≡◌, ℕ, ◌+◌, List, [], ◌∷◌, ◌++◌, take, get_or, sym, ap, ◌∙◌, add-one}
use Rattle.std.proofs.Math.Seq.{take-suc}
use Rattle.history_model.specs.declared.event.Stamped.{Stamped}
use Rattle.engine_phases.specs.merging.Merged.{all_events}
use Rattle.engine_phases.proofs.merging.TurnedLemmas.{all_events-push}
use Rattle.engine_phases.proofs.merging.gather.Goals as goal

pub loop-part-preserved : goal.loop-part-preserved
loop-part-preserved c =
    let parts : List (List Stamped) = c.args.parts.now in
    let place : ℕ = c.loop-part.part-index in
    let part : List Stamped = get_or parts place c.part-item.result in
    let more : take (place + 1) parts ≡ take place parts ++ part ∷ [] = ap (λ n. take n parts) (add-one place) ∙ take-suc parts place c.part-item.result c.loop-part-test.true in
    let all : all_events (take (place + 1) parts) ≡ all_events (take place parts) ++ part = ap all_events more ∙ all_events-push (take place parts) part in
    let item : c.as_slice.result.now ≡ part = c.as_slice.ensures ∙ c.part-item.is in
    c.in_ok-extend_from_slice.ensures.items ∙ (ap (λ l. l ++ c.as_slice.result.now) c.loop-part.invariant ∙ (ap (λ l. all_events (take place parts) ++ l) item ∙ sym all))
