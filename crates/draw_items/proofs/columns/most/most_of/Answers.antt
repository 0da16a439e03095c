use Rattle.std.proofs.Common.{ℕ, ◌+◌, ◌<◌, false, List, take, get_or, sym, subst, arith}
use Rattle.std.proofs.lemmas.List.{take_more}
use Rattle.history_model.specs.declared.item.Carried.TheVariants.{Post}
use Rattle.draw_items.specs.declared.journey.Journey.{Journey}
use Rattle.draw_items.specs.columns.Kept.{with_item, IsMost}
use Rattle.draw_items.proofs.columns.MostLemmas.{most_none, most_more}
use Rattle.draw_items.proofs.columns.most.most_of.Goals as goal

pub loop-item-init : goal.loop-item-init
loop-item-init c = most_none _ c.in_ok-most.ensures

-- one item more
pub loop-item-preserved : goal.loop-item-preserved
loop-item-preserved c =
    let items = c.args.items.now in
    let i = c.loop-item.item-index in
    let d : Journey = record { carried = Post (record { master = 0; index = 0; attempt = 0 }); op = record { master = 0; index = 0; attempt = 0 }; lane = record { bus = 0; up = false }; sent = 0; came = 0; left = 0; marked = false; track = 0 } in
    let item : Journey = get_or items i d in
    let on : item.lane.bus < 256 = omega arith in
    let so : IsMost (take (i + 1) items) (with_item item c.loop-item.most) =
    subst (λ (l : List Journey). IsMost l (with_item item c.loop-item.most)) (sym (take_more items i d c.loop-item-test.true)) (most_more (take i items) item c.loop-item.most on c.loop-item.invariant) in
    subst (λ (l : List ℕ). IsMost (take (i + 1) items) l) (sym c.see.ensures) so
