-- Before the first element there is no caption.
use Rattle.std.proofs.Common.{◌≡◌, List, [], ◌++◌, ap, ◌∙◌}
use Rattle.draw_shapes.specs.Shapes.{Placed, Caption, captions_in}

-- from no elements on: none before, the same behind them, and then these
pub no_captions : (first second third : List Placed) (more : List Caption) → first ≡ [] → captions_in second ≡ captions_in first → captions_in third ≡ captions_in second ++ more → captions_in third ≡ more
unfolding captions_in
no_captions first second third more none same is = is ∙ ap (λ (l : List Caption). l ++ more) (same ∙ ap captions_in none)
