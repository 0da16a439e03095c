-- Captions, element by element.
use Rattle.std.proofs.Common.{◌≡◌, List, [], ◌∷◌, ◌++◌, sym, ap, ◌∙◌, append-nil}
use Rattle.std.proofs.lemmas.Grind.{flat_map-append}
use Rattle.draw_shapes.specs.Shapes.{Placed, Caption, caption_in, captions_in}

-- one element more
pub captions_more : (elements : List Placed) (element : Placed) (after : List Placed) → after ≡ elements ++ element ∷ [] → captions_in after ≡ captions_in elements ++ caption_in element
unfolding captions_in
captions_more elements element after is =
    ap captions_in is ∙ flat_map-append caption_in elements (element ∷ []) ∙ ap (λ (l : List Caption). captions_in elements ++ l) (append-nil (caption_in element))

-- nothing more
pub nothing_more : (before after : List Caption) → after ≡ before ++ [] → after ≡ before
nothing_more before after is = is ∙ append-nil before

-- the same the other way round
pub no_captions : (before after : List Caption) → after ≡ before → after ≡ before ++ []
no_captions before after is = is ∙ sym (append-nil before)
