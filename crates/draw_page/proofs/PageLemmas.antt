-- A page of strips, in each of which the elements are drawn that pass it, has in each strip the items that have a row there.
use Rattle.std.proofs.Common.{◌≡◌, ℕ, zero, suc, ◌+◌, ◌*◌, ◌<◌, ◌≤◌, Bool, true, false, cond, ◌&&◌, nat_le, min, List, [], ◌∷◌, ◌++◌, length, map, get_or, slice_get, Some, codes, refl, sym, ap, subst, ◌∙◌, append_assoc, arith}
use Rattle.std.specs.List.{flat_map, filter}
use Rattle.std.proofs.lemmas.Bool.Decides.{nat_tests}
use Rattle.std.proofs.lemmas.Option.{none-some, same_Some}
use Rattle.board_model.specs.declared.board.Board.{Board}
use Rattle.draw_items.specs.declared.journey.Journey.{Journey}
use Rattle.draw_elements.specs.Titles.{title_text, last_row_of}
use Rattle.draw_shapes.specs.declared.frame.Frame.{Frame}
use Rattle.draw_shapes.specs.Shapes.{Shape, Placed, Caption, shape_text, is_titled, titled, caption_of, captions_in, is_among, has_title, item_captions}
use Rattle.draw_shapes.specs.Shapes.Shape.{Plain, Titled}
use Rattle.draw_page.specs.strips.Strips.{is_in_strip, strips_count, passing, row_text}
use Rattle.draw_page.specs.strips.Kept.{PrintsStrips}
use Rattle.draw_page.specs.Pages.{IsPage, strip_text, has_row}

-- the same page by other words for its rows
pub same_page : (board : Board) (items : List Journey) (end first last end' first' last' : ℕ) (text : List ℕ) → end ≡ end' → first ≡ first' → last ≡ last' → IsPage board items end first last text
    → IsPage board items end' first' last' text
same_page board items end first last end' first' last' text is_end is_first is_last page =
    subst (λ (e : ℕ). IsPage board items e first' last' text) is_end
    (subst (λ (f : ℕ). IsPage board items end f last' text) is_first
    (subst (λ (l : ℕ). IsPage board items end first l text) is_last page))

abbrev titles_of : List Shape → List (List ℕ)
titles_of shapes = map titled (filter is_titled shapes)

abbrev title_in : Caption → List ℕ
title_in caption = caption.title

and_false : (b : Bool) → (b && false) ≡ false
and_false true = refl
and_false false = refl

and_left : (a b : Bool) → (a && b) ≡ true → a ≡ true
and_left true b e = refl
and_left false b e = e

and_right : (a b : Bool) → (a && b) ≡ true → b ≡ true
and_right true b e = e
and_right false true e = refl
and_right false false e = e

and_both : (a b : Bool) → a ≡ true → b ≡ true → (a && b) ≡ true
and_both a b a_is b_is = ap (λ (v : Bool). v && b) a_is ∙ b_is

le_more : (a b c : ℕ) → nat_le a b ≡ true → b ≤ c → nat_le a c ≡ true
le_more a b c e h = grind (arith, nat_tests)

le_less : (a b c : ℕ) → nat_le a b ≡ true → c ≤ a → nat_le c b ≡ true
le_less a b c e h = grind (arith, nat_tests)

-- what has a row of a strip has one of those that are drawn
seen_in : (first last k from to : ℕ) → is_in_strip first last k from to ≡ true → is_among first last from to ≡ true
seen_in first last k from to e =
    let high : ℕ = min (first + 32 * k + 31) last in
    let low : ℕ = first + 32 * k in
    and_both (nat_le from last) (nat_le first to) (le_more from high last (and_left (nat_le from high) (nat_le low to) e) (omega arith))
    (le_less low to first (and_right (nat_le from high) (nat_le low to) e) (omega arith))

module _ (frame : Frame) (k : ℕ) where
  abbrev is_there : Caption → Bool
  is_there caption = is_in_strip frame.first frame.last k caption.from caption.to

  -- the shapes of the elements that pass the strip
  abbrev shapes_in : List Placed → List Shape
  shapes_in [] = []
  shapes_in (element ∷ elements) = cond (is_in_strip frame.first frame.last k element.from element.to) (element.shape ∷ shapes_in elements) (shapes_in elements)

  text_one : (there : Bool) (shape : Shape) (rest : List Shape) → flat_map shape_text (cond there (shape ∷ rest) rest) ≡ cond there (shape_text shape) [] ++ flat_map shape_text rest
  text_one true shape rest = refl
  text_one false shape rest = refl

  text_in : (elements : List Placed) → flat_map shape_text (shapes_in elements) ≡ flat_map (passing frame k) elements
  unfolding passing
  text_in [] = refl
  text_in (element ∷ elements) =
      let there : Bool = is_in_strip frame.first frame.last k element.from element.to in
      text_one there element.shape (shapes_in elements) ∙ ap (λ (l : List ℕ). cond there (shape_text element.shape) [] ++ l) (text_in elements)

  titles_one : (there : Bool) (from to : ℕ) (shape : Shape) (rest : List Shape) (captions : List Caption) → is_in_strip frame.first frame.last k from to ≡ there → titles_of rest ≡ map title_in (filter is_there captions)
      → titles_of (cond there (shape ∷ rest) rest) ≡ map title_in (filter is_there (caption_of from to shape ++ captions))
  titles_one true from to (Plain text) rest captions is so = so
  titles_one false from to (Plain text) rest captions is so = so
  titles_one true from to (Titled before title behind) rest captions is so =
      let kept : List Caption = filter is_there captions in
      let one : Caption = record { from = from; to = to; title = title } in
      ap (λ (l : List (List ℕ)). title ∷ l) so ∙ ap (λ (b : Bool). map title_in (cond b (one ∷ kept) kept)) (sym is)
  titles_one false from to (Titled before title behind) rest captions is so =
      let kept : List Caption = filter is_there captions in
      let one : Caption = record { from = from; to = to; title = title } in
      so ∙ ap (λ (b : Bool). map title_in (cond b (one ∷ kept) kept)) (sym is)

  -- their titles are the captions with a row in the strip
  titles_in : (elements : List Placed) → titles_of (shapes_in elements) ≡ map title_in (filter is_there (captions_in elements))
  unfolding captions_in
  titles_in [] = refl
  titles_in (element ∷ elements) =
      titles_one (is_in_strip frame.first frame.last k element.from element.to) element.from element.to element.shape (shapes_in elements) (captions_in elements) refl (titles_in elements)

  module _ (board : Board) where
    items_one : (there seen has : Bool) (one : Caption) (captions : List Caption) (item : Journey) (items : List Journey) → is_there one ≡ there → (there ≡ true → seen ≡ true) → one.title ≡ title_text board item
        → map title_in (filter is_there captions) ≡ map (title_text board) items
        → map title_in (filter is_there (cond (seen && has) (one ∷ []) [] ++ captions)) ≡ map (title_text board) (cond (there && has) (item ∷ items) items)
    items_one true true true one captions item items is within same so =
        let kept : List Caption = filter is_there captions in
        ap (λ (b : Bool). map title_in (cond b (one ∷ kept) kept)) is
        ∙ ap (λ (t : List ℕ). t ∷ map title_in kept) same
        ∙ ap (λ (l : List (List ℕ)). title_text board item ∷ l) so
    items_one true true false one captions item items is within same so = so
    items_one true false has one captions item items is within same so = absurd (let e : false ≡ true = within refl in let f : false ≡ true → ⊥ = λ e. cc in f e)
    items_one false true true one captions item items is within same so =
        let kept : List Caption = filter is_there captions in
        ap (λ (b : Bool). map title_in (cond b (one ∷ kept) kept)) is ∙ so
    items_one false true false one captions item items is within same so = so
    items_one false false has one captions item items is within same so = so

    -- and these are the titles of the items with a row in it
    items_in : (end : ℕ) (items : List Journey)
        → map title_in (filter is_there (flat_map (item_captions board end frame.first frame.last) items)) ≡ map (title_text board) (filter (has_row end frame.first frame.last k) items)
    unfolding item_captions
    items_in end [] = refl
    items_in end (item ∷ items) =
        let to : ℕ = last_row_of end item in
        let one : Caption = record { from = item.sent; to = to; title = title_text board item } in
        items_one (is_in_strip frame.first frame.last k item.sent to) (is_among frame.first frame.last item.sent to) (has_title item.carried) one (flat_map (item_captions board end frame.first frame.last) items) item
        (filter (has_row end frame.first frame.last k) items) refl (seen_in frame.first frame.last k item.sent to) refl (items_in end items)

module _ (frame : Frame) (elements : List Placed) where
  -- the strips from number n on: what each begins with, and behind it what passes it
  abbrev strips_from : ℕ → List (List ℕ) → List (List Shape)
  strips_from n [] = []
  strips_from n (sheet ∷ sheets) = (Plain sheet ∷ shapes_in frame n elements) ∷ strips_from (n + 1) sheets

  length-strips_from : (n : ℕ) (sheets : List (List ℕ)) → length (strips_from n sheets) ≡ length sheets
  length-strips_from n [] = refl
  length-strips_from n (sheet ∷ sheets) = ap suc (length-strips_from (n + 1) sheets)

  -- their texts
  texts_from : (n : ℕ) (sheets texts : List (List ℕ)) → length texts ≡ length sheets → ((k : ℕ) → k < length sheets → get_or texts k [] ≡ get_or sheets k [] ++ flat_map (passing frame (n + k)) elements)
      → flat_map row_text texts ≡ flat_map strip_text (strips_from n sheets)
  texts_from n [] [] counted each = refl
  texts_from n [] (text ∷ texts) counted each = absurd (omega (arith, counted))
  texts_from n (sheet ∷ sheets) [] counted each = absurd (omega (arith, counted))
  texts_from n (sheet ∷ sheets) (text ∷ texts) counted each =
      let here : n + 0 ≡ n = omega arith in
      let is : text ≡ sheet ++ flat_map shape_text (shapes_in frame n elements) =
      each 0 (omega arith) ∙ ap (λ (m : ℕ). sheet ++ flat_map (passing frame m) elements) here ∙ ap (λ (l : List ℕ). sheet ++ l) (sym (text_in frame n elements)) in
      let rest : flat_map row_text texts ≡ flat_map strip_text (strips_from (n + 1) sheets) =
      texts_from (n + 1) sheets texts (omega (arith, counted))
      (λ k within.
      let there : n + suc k ≡ n + 1 + k = omega arith in
      each (suc k) (omega (arith, within)) ∙ ap (λ (m : ℕ). get_or sheets k [] ++ flat_map (passing frame m) elements) there) in
      ap (λ (t : List ℕ). row_text t ++ flat_map row_text texts) is
      ∙ ap (λ (l : List ℕ). row_text (sheet ++ flat_map shape_text (shapes_in frame n elements)) ++ l) rest

  -- the titles of one of them
  titles_from : (n : ℕ) (sheets : List (List ℕ)) (k : ℕ) (strip : List Shape) → slice_get (strips_from n sheets) k ≡ Some strip → titles_of strip ≡ titles_of (shapes_in frame (n + k) elements)
  titles_from n [] k strip is = absurd (none-some strip is)
  titles_from n (sheet ∷ sheets) zero strip is =
      let here : n + 0 ≡ n = omega arith in
      ap titles_of (sym (same_Some (Plain sheet ∷ shapes_in frame n elements) strip is)) ∙ ap (λ (m : ℕ). titles_of (shapes_in frame m elements)) (sym here)
  titles_from n (sheet ∷ sheets) (suc k) strip is =
      let there : n + 1 + k ≡ n + suc k = omega arith in
      titles_from (n + 1) sheets k strip is ∙ ap (λ (m : ℕ). titles_of (shapes_in frame m elements)) there

-- a page by its strips: some text before them, and the end of the table behind them
pub is_page : (board : Board) (frame : Frame) (elements : List Placed) (items : List Journey) (top middle text : List ℕ) → captions_in elements ≡ flat_map (item_captions board frame.end frame.first frame.last) items
    → PrintsStrips frame elements top middle → text ≡ middle ++ codes "</table>\n" → IsPage board items frame.end frame.first frame.last text
unfolding strips_count
is_page board frame elements items top middle text captions prints is =
    let strips : List (List Shape) = strips_from frame elements 0 prints.sheets in
    let rows : flat_map row_text prints.texts ≡ flat_map strip_text strips =
    texts_from frame elements 0 prints.sheets prints.texts prints.drawn.all
    (λ k within.
    let there : k ≡ 0 + k = omega arith in
    prints.drawn.each k within ∙ ap (λ (m : ℕ). get_or prints.sheets k [] ++ flat_map (passing frame m) elements) there) in
    record {
      top = top;
      strips = strips;
      count = length-strips_from frame elements 0 prints.sheets ∙ prints.count;
      written = is
          ∙ ap (λ (l : List ℕ). l ++ codes "</table>\n") (prints.written ∙ ap (λ (l : List ℕ). top ++ l) rows)
          ∙ append_assoc top (flat_map strip_text strips) (codes "</table>\n");
      items = λ k strip got.
          let there : 0 + k ≡ k = omega arith in
          titles_from frame elements 0 prints.sheets k strip got
          ∙ ap (λ (m : ℕ). titles_of (shapes_in frame m elements)) there
          ∙ titles_in frame k elements
          ∙ ap (λ (l : List Caption). map title_in (filter (is_there frame k) l)) captions
          ∙ items_in frame k board frame.end items;
    }
