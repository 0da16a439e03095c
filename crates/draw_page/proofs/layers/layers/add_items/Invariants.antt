use Rattle.std.proofs.Common.{◌≡◌, ◌++◌, List, drop}
use Rattle.std.specs.List.{flat_map}
use Rattle.draw_items.specs.declared.journey.Journey.{Journey}
use Rattle.draw_shapes.specs.Shapes.{Caption, captions_in, item_captions}
use Rattle.draw_page.proofs.layers.layers.add_items.Given as goal

-- the captions so far, and those to come
abbrev pub invariant-loop-item : goal.invariant-loop-item
invariant-loop-item l =
    let captions : Journey → List Caption = item_captions l.canvas.board.now l.canvas.frame.now.end l.canvas.frame.now.first l.canvas.frame.now.last in
    captions_in l.elements.items ++ flat_map captions (drop l.item-index l.items) ≡ captions_in l.initial.elements.items ++ flat_map captions l.items
