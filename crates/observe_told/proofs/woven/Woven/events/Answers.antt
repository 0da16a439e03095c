use Rattle.std.proofs.Common.{arith, ◌≡◌, ◌≤◌, ◌<◌, ◌+◌, ◌++◌, ◌∷◌, [], drop, length, ℕ, List, refl, sym, ap, subst, ◌∙◌}
use Rattle.std.proofs.lemmas.Bool.{ltb-true}
use Rattle.history_model.specs.declared.event.Event.{Event}
use Rattle.observe_told.specs.declared.woven.Strand.{Strand}
use Rattle.observe_told.specs.Woven.{weave}
use Rattle.observe_told.proofs.WovenLemmas.{more_arrivals, more_acts, no_more, no_act}
use Rattle.observe_told.proofs.woven.Woven.events.Goals as goal
use Rattle.observe_told.proofs.woven.Woven.events.Goals.{in-Arrive, in-Act+in-Some, else-loop-strand-test, then-loop-strand-test+in-Act+in-None}

pub loop-strand-init : goal.loop-strand-init
loop-strand-init c = rw (c.in_ok-events.ensures.items) refl

-- an arrival, or the next act
pub loop-strand-preserved : goal.loop-strand-preserved
loop-strand-preserved c =
    let rest : List Strand = c.deref-strand-items.result.now in
    let acts : List Event = c.args.self.now.acts.items in
    let front : List Event = c.loop-strand.events.items in
    let all : List Event = weave rest acts in
    let longer : List Event = c.push.new.self.items in
    let i : ℕ = c.loop-strand.strand-index in
    elim c.match-strand.branch [
      | in-Arrive w ↦
          let pushed = c.in_ok-push.ensures.items ∙ ap (λ (e : Event). front ++ e ∷ []) w.event-is in
          let more = more_arrivals front (drop c.loop-strand.acts acts) longer all rest i _ w.in-Arrive.lane w.in-Arrive.mark c.loop-strand-test.true w.in-Arrive.is pushed c.loop-strand.invariant in
          subst (λ (a : ℕ). longer ++ weave (drop (i + 1) rest) (drop a acts) ≡ all) (sym w.acts-is) more
      | in-Act+in-Some w ↦
          let pushed = c.in_ok-push.ensures.items ∙ ap (λ (e : Event). front ++ e ∷ []) w.event-is in
          let there : c.loop-strand.acts < length w.deref.result.now = ltb-true c.loop-strand.acts (length w.deref.result.now) (sym w.in-Some.ensures.lookup.0) in
          let more = more_acts front acts w.deref.result.now longer all rest i c.loop-strand.acts _ w.in-Some.act.now _ c.loop-strand-test.true w.in-Act.is w.deref.ensures.value there w.in-Some.ensures.lookup.1 pushed c.loop-strand.invariant in
          subst (λ (a : ℕ). longer ++ weave (drop (i + 1) rest) (drop a acts) ≡ all) (sym w.acts-is) more
    ]

-- none comes next
pub returns : goal.returns
returns c =
    let rest : List Strand = c.deref-strand-items.result.now in
    let acts : List Event = c.args.self.now.acts.items in
    let front : List Event = c.loop-strand.events.items in
    let all : List Event = weave rest acts in
    let i : ℕ = c.loop-strand.strand-index in
    let whole : front ≡ all = elim c.loop-strand-test.branch [
      | else-loop-strand-test w ↦ no_more front (drop c.loop-strand.acts acts) all rest i (omega (arith, w.loop-strand-test.false)) c.loop-strand.invariant
      | then-loop-strand-test+in-Act+in-None w ↦
          let past : length w.deref.result.now ≤ c.loop-strand.acts = w.in-None.ensures.lookup.3 in
          no_act front acts all rest i c.loop-strand.acts _ w.loop-strand-test.true w.in-Act.is (subst (λ (l : List Event). length l ≤ c.loop-strand.acts) w.deref.ensures.value past) c.loop-strand.invariant
    ] in
    c.from_vec.ensures ∙ (whole ∙ ap (λ (l : List Strand). weave l acts) c.deref-strand-items.ensures.value)
