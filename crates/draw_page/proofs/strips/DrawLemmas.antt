-- Element by element.
use Rattle.std.proofs.Common.{◌≡◌, ◌⊎◌, ℕ, ◌+◌, ◌-◌, ◌/◌, ◌<◌, ◌≤◌, Bool, true, false, cond, min, max, List, [], ◌∷◌, ◌++◌, length, take, get_or, refl, sym, ap, subst, ◌∙◌, append_assoc, append-nil, arith}
use Rattle.std.proofs.lemmas.List.{take_more, take_all}
use Rattle.std.specs.List.{flat_map}
use Rattle.draw_shapes.specs.declared.frame.Frame.{Frame}
use Rattle.draw_shapes.specs.Shapes.{Placed, shape_text}
use Rattle.draw_page.specs.strips.Strips.{is_in_strip, passing}
use Rattle.draw_page.specs.strips.Kept.{text_at, DrawsAll, Draws, AddsTo, is_between}
use Rattle.draw_page.proofs.strips.TestLemmas.{between_same, passed, not_passed}

-- all strips that there are
pub adds_all : (begin end s count : ℕ) (text : List ℕ) (old new : List (List ℕ)) → count ≡ length old → min end count ≤ s → begin ≤ s → s ≤ max begin (min end count) → AddsTo begin s text old new → AddsTo begin end text old new
adds_all begin end s count text old new counted past from far adds = record {
  all = adds.all;
  each = λ k within. adds.each k within ∙ ap (λ (b : Bool). cond b (text_at old k ++ text) (text_at old k)) (between_same begin end s count k (omega arith) past from far);
}

push_if : (b : Bool) (l text : List ℕ) → cond b (l ++ text) l ≡ l ++ cond b text []
push_if true l text = refl
push_if false l text = sym (append-nil l)

-- an element that is seen
pub draws_seen : (frame : Frame) (element : Placed) (begin end : ℕ) (old new : List (List ℕ)) → element.from ≤ frame.last → frame.first ≤ element.to → begin ≡ (element.from - frame.first) / 32
    → end ≡ (element.to - frame.first) / 32 + 1 → AddsTo begin end (shape_text element.shape) old new → Draws frame element old new
unfolding passing
draws_seen frame element begin end old new above below begin_is end_is adds = record {
  all = adds.all;
  each = λ k within.
      let text : List ℕ = shape_text element.shape in
      let there : is_between begin end k ≡ is_in_strip frame.first frame.last k element.from element.to =
      ap (λ (b : ℕ). is_between b end k) begin_is ∙ ap (λ (e : ℕ). is_between ((element.from - frame.first) / 32) e k) end_is ∙ passed frame.first frame.last element.from element.to k above below in
      adds.each k within ∙ push_if (is_between begin end k) (text_at old k) text ∙ ap (λ (b : Bool). text_at old k ++ cond b text []) there;
}

-- one that is not
pub draws_none : (frame : Frame) (element : Placed) (old : List (List ℕ)) → (frame.last < element.from) ⊎ (element.to < frame.first) → Draws frame element old old
unfolding passing
draws_none frame element old unseen = record {
  all = refl;
  each = λ k within.
      sym (append-nil (text_at old k))
      ∙ ap (λ (b : Bool). text_at old k ++ cond b (shape_text element.shape) []) (sym (not_passed frame.first frame.last element.from element.to k unseen));
}

-- no element
pub drawn_none : (frame : Frame) (old : List (List ℕ)) → DrawsAll frame [] old old
drawn_none frame old = record { all = refl; each = λ k within. sym (append-nil (text_at old k)) }

flat_push : (f : Placed → List ℕ) (elements : List Placed) (element : Placed) → flat_map f (elements ++ element ∷ []) ≡ flat_map f elements ++ f element
flat_push f [] element = append-nil (f element)
flat_push f (first ∷ elements) element = ap (λ (l : List ℕ). f first ++ l) (flat_push f elements element) ∙ sym (append_assoc (f first) (flat_map f elements) (f element))

-- one element more
pub drawn_more : (frame : Frame) (elements : List Placed) (i : ℕ) (element : Placed) (initial old new : List (List ℕ)) → i < length elements → element ≡ get_or elements i element → DrawsAll frame (take i elements) initial old
    → Draws frame element old new → DrawsAll frame (take (i + 1) elements) initial new
drawn_more frame elements i element initial old new within is drawn draws =
    let next : take (i + 1) elements ≡ take i elements ++ element ∷ [] = take_more elements i element within ∙ ap (λ (e : Placed). take i elements ++ e ∷ []) (sym is) in
    record {
      all = draws.all ∙ drawn.all;
      each = λ k there.
          let same = drawn.all in
          let now : List ℕ = flat_map (passing frame k) (take i elements) in
          draws.each k (omega (arith, same, there))
          ∙ ap (λ (t : List ℕ). t ++ passing frame k element) (drawn.each k there)
          ∙ append_assoc (text_at initial k) now (passing frame k element)
          ∙ ap (λ (l : List ℕ). text_at initial k ++ l) (sym (flat_push (passing frame k) (take i elements) element))
          ∙ ap (λ (l : List Placed). text_at initial k ++ flat_map (passing frame k) l) (sym next);
    }

pub drawn_all : (frame : Frame) (elements : List Placed) (i : ℕ) (initial texts : List (List ℕ)) → length elements ≤ i → DrawsAll frame (take i elements) initial texts → DrawsAll frame elements initial texts
drawn_all frame elements i initial texts past drawn = subst (λ (l : List Placed). DrawsAll frame l initial texts) (take_all i elements past) drawn
