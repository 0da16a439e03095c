use Rattle.std.proofs.Common.{◌≡◌, ◌++◌, ℕ, drop, map}
use Rattle.draw_items.specs.declared.columns.line.ColumnLine.TheVariants.{Right}
use Rattle.draw_items.specs.columns.Order.{child_face}
use Rattle.draw_items.proofs.columns.order.add_right_faces.Given as goal

-- the faces so far, and those to come
abbrev pub invariant-loop-child : goal.invariant-loop-child
invariant-loop-child l =
    l.lines.items ++ map (λ (child : ℕ). Right (child_face child)) (drop l.child-index l.right) ≡ l.initial.lines.items ++ map (λ (child : ℕ). Right (child_face child)) l.right
