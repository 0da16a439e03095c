use Rattle.std.proofs.Common.{◌≡◌, ℕ, suc, ◌+◌, ◌<◌, ◌≤◌, List, length, drop, get_or, sym, ap, ◌∙◌, arith}
use Rattle.std.proofs.lemmas.List.{drop_all}
use Rattle.std.proofs.Math.Seq.{drop-cons}
use Rattle.history_model.specs.declared.item.Move.{Move}
use Rattle.draw_items.specs.declared.journey.Journey.{Journey}
use Rattle.draw_journeys.specs.Steps.{move_on, moves_on}
use Rattle.draw_journeys.proofs.travel.Travel.follow.Goals as goal

-- one more move
more : (n : ℕ) (moves : List Move) (i : ℕ) (d : Move) (old new : List Journey) → i < length moves → new ≡ move_on n (get_or moves i d) old → moves_on n (drop (i + 1) moves) new ≡ moves_on n (drop i moves) old
more n moves i d old new within is =
    let e : i + 1 ≡ suc i = omega arith in
    ap (λ (k : ℕ). moves_on n (drop k moves) new) e
    ∙ ap (λ (js : List Journey). moves_on n (drop (suc i) moves) js) is
    ∙ sym (ap (λ (ms : List Move). moves_on n ms old) (drop-cons moves i d within))

-- all moves
all : (n : ℕ) (moves : List Move) (i : ℕ) (old : List Journey) → length moves ≤ i → old ≡ moves_on n (drop i moves) old
all n moves i old past = sym (ap (λ (ms : List Move). moves_on n ms old) (drop_all i moves past))

pub loop-one-preserved : goal.loop-one-preserved
loop-one-preserved c =
    record {
      now = more c.args.n c.args.moves.now c.loop-one.one-index _ c.loop-one.self.journeys.items c.go.new.self.journeys.items c.loop-one-test.true c.in_ok-go.ensures.now ∙ c.loop-one.invariant.now;
      listed = c.in_ok-go.ensures.listed;
    }

pub returns-clause-now : goal.returns-clause-now
returns-clause-now c =
    all c.args.n c.args.moves.now c.loop-one.one-index c.loop-one.self.journeys.items c.loop-one-test.false ∙ c.loop-one.invariant.now
