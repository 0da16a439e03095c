-- The journeys under way: what is looked for is among them, and so are the tracks that are taken.
use Rattle.std.proofs.Common.{◌≡◌, ℕ, ◌+◌, Bool, true, false, not, ◌&&◌, ◌||◌, cond, eqb, nat_lt, List, [], ◌∷◌, ◌++◌, length, map, Option, Some, refl, sym, ap, subst, ◌∙◌, append_assoc, slice_get, arith}
use Rattle.std.specs.List.{filter, find, flat_map, position_from}
use Rattle.std.proofs.Math.ListN.{set}
use Rattle.std.proofs.lemmas.List.{length_push}
use Rattle.board_model.specs.declared.bridge.Lane.{Lane as BridgeLane}
use Rattle.history_model.specs.declared.item.Carried.{Carried}
use Rattle.history_model.specs.World.{same_lane}
use Rattle.draw_items.specs.declared.journey.Journey.{Journey}
use Rattle.draw_items.specs.Journeys.{can_stand, flies, stands, is_there}
use Rattle.draw_journeys.specs.Steps.{tracks_on}
use Rattle.draw_journeys.specs.Kept.{is_under_way, places_from, IsListed, passes, IsThere, track_on}
use Rattle.draw_journeys.proofs.PlaceLemmas.{at_end, find_places, places_push, places_same, places_gone}
use Rattle.draw_journeys.proofs.SeenLemmas.{first_true, second_true}

or_true : (a : Bool) → (a || true) ≡ true
or_true true = refl
or_true false = refl

pub flies_under : (lane : BridgeLane) (j : Journey) → flies lane j ≡ true → is_under_way j ≡ true
flies_under lane j is =
    ap (λ (b : Bool). b || (not j.marked && (can_stand j.carried && eqb j.left 0))) (second_true (same_lane j.lane lane) (eqb j.came 0) is)

stands_under : (lane : BridgeLane) (j : Journey) → stands lane j ≡ true → is_under_way j ≡ true
stands_under lane j is =
    let rest : Bool = not j.marked && (can_stand j.carried && eqb j.left 0) in
    ap (λ (b : Bool). eqb j.came 0 || b) (second_true (nat_lt 0 j.came) rest (second_true (same_lane j.lane lane) (nat_lt 0 j.came && rest) is)) ∙ or_true (eqb j.came 0)

pub there_under : (lane : BridgeLane) (test : Carried → Bool) (j : Journey) → is_there lane test j ≡ true → is_under_way j ≡ true
there_under lane test j is = stands_under lane j (first_true (stands lane j) (test j.carried) is)

there_from : (test : Journey → Bool) → ((j : Journey) → test j ≡ true → is_under_way j ≡ true) → (pre js : List Journey) → IsThere (pre ++ js) (position_from test (length pre) js)
there_from test narrow pre [] = tt
there_from test narrow pre (j ∷ js) =
    let P : Bool → Type 0 = λ b. test j ≡ b → IsThere (pre ++ j ∷ js) (cond b (Some (length pre)) (position_from test (length pre + 1) js)) in
    let Q : List Journey → ℕ → Type 0 = λ l n. IsThere l (position_from test n js) in
    (elim (test j) as P [
      | true ↦ λ is. ap (λ (o : Option Journey). passes is_under_way o) (at_end pre j js) ∙ narrow j is
      | false ↦ λ _.
          subst (λ (l : List Journey). Q l (length pre + 1)) (append_assoc pre (j ∷ []) js)
          (subst (λ (n : ℕ). Q ((pre ++ j ∷ []) ++ js) n) (length_push pre j) (there_from test narrow (pre ++ j ∷ []) js))
    ]) refl

-- what is found among those under way is the first that passes, and is under way
pub record Found (test : Journey → Bool) (js : List Journey) (place : Option ℕ) : Type 0 where
  pub first : place ≡ position_from test 0 js
  pub there : IsThere js place

pub found_first : (test : Journey → Bool) → ((j : Journey) → test j ≡ true → is_under_way j ≡ true) → (js : List Journey) (places : List ℕ) (place : Option ℕ) → IsListed js places
    → place ≡ find (λ (k : ℕ). passes test (slice_get js k)) places → Found test js place
found_first test narrow js places place listed is =
    let first : place ≡ position_from test 0 js = is ∙ ap (λ (l : List ℕ). find (λ (k : ℕ). passes test (slice_get js k)) l) listed ∙ find_places is_under_way test narrow js in
    record { first = first; there = subst (IsThere js) (sym first) (there_from test narrow [] js) }

-- the same of the slices that are looked through
pub found_in : (test : Journey → Bool) → ((j : Journey) → test j ≡ true → is_under_way j ≡ true) → (js seen : List Journey) (places given : List ℕ) (place : Option ℕ) → IsListed js places
    → seen ≡ js → given ≡ places → place ≡ find (λ (k : ℕ). passes test (slice_get seen k)) given → Found test js place
found_in test narrow js seen places given place listed same alike is =
    found_first test narrow js places place listed
    (is ∙ ap (λ (l : List Journey). find (λ (k : ℕ). passes test (slice_get l k)) given) same ∙ ap (λ (l : List ℕ). find (λ (k : ℕ). passes test (slice_get js k)) l) alike)

-- What is listed after a change.

pub listed_more : (js new : List Journey) (places more : List ℕ) (place : ℕ) (j : Journey) → IsListed js places → more ≡ places ++ place ∷ [] → place ≡ length js → new ≡ js ++ j ∷ [] → is_under_way j ≡ true → IsListed new more
listed_more js new places more place j listed more_is place_is new_is under =
    let at : place ≡ 0 + length js = omega (arith, place_is) in
    more_is ∙ ap (λ (l : List ℕ). l ++ place ∷ []) listed ∙ ap (λ (k : ℕ). places_from 0 is_under_way js ++ k ∷ []) at
    ∙ sym (places_push 0 is_under_way js j under) ∙ sym (ap (λ (l : List Journey). places_from 0 is_under_way l) new_is)

pub listed_same : (js new : List Journey) (places : List ℕ) (place : ℕ) (j : Journey) → IsListed js places → passes is_under_way (slice_get js place) ≡ true → new ≡ set js place j → is_under_way j ≡ true → IsListed new places
listed_same js new places place j listed was new_is under =
    listed ∙ sym (places_same 0 is_under_way js place j was under) ∙ sym (ap (λ (l : List Journey). places_from 0 is_under_way l) new_is)

pub listed_less : (js new : List Journey) (places less : List ℕ) (place : ℕ) (j : Journey) → IsListed js places → passes is_under_way (slice_get js place) ≡ true → new ≡ set js place j → is_under_way j ≡ false
    → less ≡ filter (λ (o : ℕ). not (eqb o place)) places → IsListed new less
listed_less js new places less place j listed was new_is over less_is =
    let at : place ≡ 0 + place = omega arith in
    less_is ∙ ap (λ (l : List ℕ). filter (λ (o : ℕ). not (eqb o place)) l) listed ∙ ap (λ (k : ℕ). filter (λ (o : ℕ). not (eqb o k)) (places_from 0 is_under_way js)) at
    ∙ sym (places_gone 0 is_under_way js place j was over) ∙ sym (ap (λ (l : List Journey). places_from 0 is_under_way l) new_is)

-- The tracks.

tracks_from : (lane : BridgeLane) (pre js : List Journey) → flat_map (λ (k : ℕ). track_on lane (slice_get (pre ++ js) k)) (places_from (length pre) is_under_way js) ≡ map (λ (j : Journey). j.track) (filter (stands lane) js)
tracks_from lane pre [] = refl
tracks_from lane pre (j ∷ js) =
    let whole : List Journey = pre ++ j ∷ js in
    let on : ℕ → List ℕ = λ k. track_on lane (slice_get whole k) in
    let next : ℕ = length pre + 1 in
    let moved : (pre ++ j ∷ []) ++ js ≡ whole = append_assoc pre (j ∷ []) js in
    let rest : List ℕ = map (λ (i : Journey). i.track) (filter (stands lane) js) in
    let later : flat_map on (places_from next is_under_way js) ≡ rest =
    ap (λ (n : ℕ). flat_map on (places_from n is_under_way js)) (sym (length_push pre j))
    ∙ ap (λ (l : List Journey). flat_map (λ (k : ℕ). track_on lane (slice_get l k)) (places_from (length (pre ++ j ∷ [])) is_under_way js)) (sym moved)
    ∙ tracks_from lane (pre ++ j ∷ []) js in
    let P : Bool → Type 0 = λ b. is_under_way j ≡ b → flat_map on (cond b (length pre ∷ places_from next is_under_way js) (places_from next is_under_way js)) ≡ map (λ (i : Journey). i.track) (filter (stands lane) (j ∷ js)) in
    (elim (is_under_way j) as P [
      | true ↦ λ _.
          let Q : Bool → Type 0 = λ b. cond b (j.track ∷ []) [] ++ flat_map on (places_from next is_under_way js) ≡ map (λ (i : Journey). i.track) (cond b (j ∷ filter (stands lane) js) (filter (stands lane) js)) in
          ap (λ (o : Option Journey). track_on lane o ++ flat_map on (places_from next is_under_way js)) (at_end pre j js)
          ∙ (elim (stands lane j) as Q [ true ↦ ap (λ (l : List ℕ). j.track ∷ l) later | false ↦ later ])
      | false ↦ λ out.
          let R : Bool → Type 0 = λ b. stands lane j ≡ b → flat_map on (places_from next is_under_way js) ≡ map (λ (i : Journey). i.track) (cond b (j ∷ filter (stands lane) js) (filter (stands lane) js)) in
          (elim (stands lane j) as R [ true ↦ λ is. let wrong : is_under_way j ≡ true = stands_under lane j is in cc | false ↦ λ _. later ]) refl
    ]) refl

pub tracks_places : (lane : BridgeLane) (js : List Journey) (places : List ℕ) → IsListed js places → flat_map (λ (k : ℕ). track_on lane (slice_get js k)) places ≡ tracks_on lane js
tracks_places lane js places listed = ap (λ (l : List ℕ). flat_map (λ (k : ℕ). track_on lane (slice_get js k)) l) listed ∙ tracks_from lane [] js
