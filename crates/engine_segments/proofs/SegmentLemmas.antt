-- The segments of a board, one after the other.
use Rattle.std.proofs.Common.{◌≡◌, ℕ, zero, suc, ◌+◌, ◌<◌, List, [], ◌∷◌, ◌++◌, length, map, get_or, take, Some, ◌⊎◌, inl, inr, refl, sym, ap, subst, ◌∙◌, arith, append_assoc, append-nil, length-append, slice_get}
use Rattle.std.specs.List.{AllByRecursion}
use Rattle.std.proofs.lemmas.List.{length-map, map-append, take_more, take_all}
use Rattle.std.proofs.lemmas.Option.{slice_get-get_or}
use Rattle.board_model.specs.declared.board.Board.{Board}
use Rattle.bus_core.proofs.ListLemmas.{get_map}
use Rattle.bus_segment.specs.Stands.{WorkerView}
use Rattle.engine_segments.specs.First.{buses_of, lanes_to, AreEndsOf, IsAtFirst, AreAtFirst}
use Rattle.board_model.specs.Fits.{BridgeFits}
use Rattle.engine_segments.proofs.NumberLemmas.{buses_rise, bus_place}
use Rattle.engine_segments.proofs.LaneLemmas.{bus_fits}

at_seam : {X : Type 0} (xs ys : List X) (y : X) → slice_get (xs ++ y ∷ ys) (length xs) ≡ Some y
at_seam [] ys y = refl
at_seam (x ∷ xs) ys y = at_seam xs ys y

-- an element of a longer list was there, or is the last
pushed : {X : Type 0} (xs : List X) (y : X) (k : ℕ) (x : X) → slice_get (xs ++ y ∷ []) k ≡ Some x → (slice_get xs k ≡ Some x) ⊎ (y ≡ x)
pushed [] y zero x there = inr (cc)
pushed [] y (suc k) x there = cc
pushed (z ∷ xs) y zero x there = inl there
pushed (z ∷ xs) y (suc k) x there = pushed xs y k x there

pub nothing_left : {X : Type 0} (xs : List X) → length xs ≡ 0 → xs ≡ []
nothing_left [] none = refl
nothing_left (x ∷ xs) none = absurd (omega arith)

pub any_default : (xs : List ℕ) (i d e : ℕ) → i < length xs → get_or xs i d ≡ get_or xs i e
any_default xs i d e within =
    let one = slice_get-get_or xs i d within in
    let two = slice_get-get_or xs i e within in
    let both = sym one ∙ two in
    cc

abbrev pub number_of : {End : Type 0} → WorkerView End → ℕ
number_of s = s.segment.bus.bus

-- those made so far: of the first buses, with the first ends; `rest` are the ends that are left
pub record AreSoFar {End : Type 0} (board : Board) (all rest : List (List End)) (made : List (WorkerView End)) : Type 0 where
  pub numbers : map (number_of {End = End}) made ≡ take (length made) (buses_of board)
  pub ends : map (λ (s : WorkerView End). s.ends) made ++ rest ≡ all
  pub each : (k : ℕ) (s : WorkerView End) → slice_get made k ≡ Some s → IsAtFirst board s

module _ {End : Type 0} (board : Board) (all : List (List End)) (fit : AreEndsOf board all) where
  abbrev EndsOf : WorkerView End → List End
  EndsOf s = s.ends

  as_many : length all ≡ length (buses_of board)
  as_many =
      sym (length-map all (length {A = End}))
      ∙ (ap length fit ∙ length-map (buses_of board) (λ bus. length (lanes_to board bus)))

  pub none_made : AreSoFar board all all []
  none_made = record { numbers = refl; ends = refl; each = λ k s there. cc }

  module _ (rest : List (List End)) (end : List End) (made : List (WorkerView End)) (so_far : AreSoFar board all (end ∷ rest) made) where
    split_length : length all ≡ length made + suc (length rest)
    split_length =
        let one = ap length so_far.ends in
        let two = length-append (map EndsOf made) (end ∷ rest) in
        let three = length-map made EndsOf in
        omega (arith, one, two, three)

    -- there is a bus more
    pub one_left : length made < length (buses_of board)
    one_left = omega (arith, as_many, split_length)

    -- and as many ends for it as it has ports
    pub ends_fit : length end ≡ length (lanes_to board (get_or (buses_of board) (length made) 0))
    ends_fit =
        let place = length made in
        let bus = get_or (buses_of board) place 0 in
        let lanes : ℕ → ℕ = λ b. length (lanes_to board b) in
        let here : slice_get all place ≡ Some end =
        ap (λ (l : List (List End)). slice_get l place) (sym so_far.ends)
        ∙ (ap (slice_get (map EndsOf made ++ end ∷ rest)) (sym (length-map made EndsOf)) ∙ at_seam (map EndsOf made) rest end) in
        let one : slice_get (map (length {A = End}) all) place ≡ Some (length end) = get_map (length {A = End}) all place end here in
        let there : slice_get (buses_of board) place ≡ Some bus = slice_get-get_or (buses_of board) place 0 one_left in
        let two : slice_get (map lanes (buses_of board)) place ≡ Some (lanes bus) = get_map lanes (buses_of board) place bus there in
        let both : Some (length end) ≡ Some (lanes bus) = sym one ∙ (ap (λ (l : List ℕ). slice_get l place) fit ∙ two) in
        cc

    pub one_more : (s : WorkerView End) → number_of s ≡ get_or (buses_of board) (length made) 0 → s.ends ≡ end → IsAtFirst board s → AreSoFar board all rest (made ++ s ∷ [])
    one_more s number ends first =
        let place = length made in
        let longer : length (made ++ s ∷ []) ≡ place + 1 = omega (arith, length-append made (s ∷ [])) in
        let push : List ℕ → ℕ → List ℕ = λ l n. l ++ n ∷ [] in
        record {
          numbers =
              map-append number_of made (s ∷ [])
              ∙ (ap (λ (l : List ℕ). push l (number_of s)) so_far.numbers
              ∙ (ap (push (take place (buses_of board))) number
              ∙ (sym (take_more (buses_of board) place 0 one_left) ∙ ap (λ (n : ℕ). take n (buses_of board)) (sym longer))));
          ends =
              ap (λ (l : List (List End)). l ++ rest) (map-append EndsOf made (s ∷ []))
              ∙ (append_assoc (map EndsOf made) (s.ends ∷ []) rest
              ∙ (ap (λ (e : List End). map EndsOf made ++ e ∷ rest) ends ∙ so_far.ends));
          each = λ k t there. elim (pushed made s k t there) as (λ _. IsAtFirst board t) [
            | inl before ↦ so_far.each k t before
            | inr same ↦ subst (IsAtFirst board) same first
          ];
        }

  pub all_made : (made : List (WorkerView End)) → AllByRecursion BridgeFits board.bridges → AreSoFar board all [] made → AreAtFirst board all made
  all_made made bridges so_far =
      let one = ap length so_far.ends in
      let ends = append-nil (map EndsOf made) in
      let many : length made ≡ length (buses_of board) = let two = ap length ends in let three = length-map made EndsOf in omega (arith, as_many, one, two, three) in
      record {
        buses = so_far.numbers ∙ take_all (length made) (buses_of board) (omega (arith, many));
        rise = buses_rise board;
        each_bus = λ bus is. bus_place board bus (bus_fits board bus bridges is) is;
        ends_are = sym ends ∙ so_far.ends;
        each = so_far.each;
      }
