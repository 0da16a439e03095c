use Rattle.std.proofs.Common.{◌≡◌, ◌<◌, ◌≤◌, ℕ, List, Some, slice_get}
use Rattle.history_model.specs.declared.event.Event.{Event}
use Rattle.judge_next.specs.Course.{IsCourse}
use Rattle.judge_adverse.specs.declared.ring.Initiator.{Initiator}
use Rattle.judge_adverse.specs.Turns.{IsSameRing, KnowsIdle, Rests}
use Rattle.judge_adverse.proofs.turns.act_between.Given as goal

-- the initiators so far rest, and what is known of them is so
abbrev pub invariant-loop-place : goal.invariant-loop-place
invariant-loop-place l = record {
  ring : IsSameRing l.initial.ring l.ring;
  knows : (h : List Event) → IsCourse l.tree h l.course → KnowsIdle l.tree h l.initial.ring → KnowsIdle l.tree h l.ring;
  rest : (h : List Event) → IsCourse l.tree h l.course → KnowsIdle l.tree h l.initial.ring → (k : ℕ) (initiator : Initiator) → l.from ≤ k → k < l.place
      → slice_get l.initial.ring.initiators.items k ≡ Some initiator → Rests l.tree h l.held initiator;
}
