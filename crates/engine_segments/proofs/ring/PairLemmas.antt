-- Ends of lanes, two by two.
use Rattle.std.proofs.Common.{◌≡◌, ◌≢◌, ℕ, zero, suc, ◌+◌, ◌<◌, ◌≤◌, ◌==◌, ◌&&◌, not, nat_lt, Bool, true, false, cond, List, [], ◌∷◌, ◌++◌, length, map, get_or, set, replicate, Option, Some, None, refl, sym, ap, subst, ◌∙◌, arith, append_assoc, append-nil, slice_get}
use Rattle.std.specs.List.{AllByRecursion, filter, position, range_with_len}
use Rattle.std.specs.Option.{IsSome}
use Rattle.std.proofs.lemmas.Bool.{and_parts, eqb-true, eqb-false, eq-eqb, ne_eqb, ltb-true, ltb-false, lt-ltb, le-ltb}
use Rattle.std.proofs.lemmas.List.{length-map, map-append}
use Rattle.list_facts.proofs.AnyLemmas.{any_some}
use Rattle.list_facts.proofs.EachLemmas.{Each-append, Each-weaker, Each-find, Each-slice_get}
use Rattle.list_facts.proofs.FindLemmas.{find_passes}
use Rattle.board_model.specs.declared.bridge.Bridge.{Bridge}
use Rattle.board_model.specs.declared.bridge.Lane.{Lane as BridgeLane}
use Rattle.board_model.specs.declared.board.Board.{Board}
use Rattle.board_model.specs.Valid.{has_bridge_to, is_bus, IsValid}
use Rattle.board_model.specs.Ways.{primary_in, primary_of, lane_back}
use Rattle.board_model.proofs.form_laws.Laws.{IsTree-valid}
use Rattle.history_model.specs.Answers.{bridge_to}
use Rattle.lane_items.specs.declared.item.Item.{Item}
use Rattle.law_local.proofs.phases.Laws.{end_is_bus}
use Rattle.bus_core.specs.Bus.{HasPlace}
use Rattle.bus_core.proofs.ListLemmas.{get_map, found_at, none_at}
use Rattle.engine_segments.specs.First.{buses_of, is_below, children_of, down_to, up_from, lanes_to, AreEndsOf}
use Rattle.engine_segments.proofs.NumberLemmas.{one_place, passing_more, passing_skipped, bus_place, buses_rise}
use Rattle.engine_segments.specs.ring.Pairs.{IsEndAt, IsNew, AreNewPairs, one_more}
use Rattle.engine_segments.specs.ring.Making.{own_below, lanes_below, AreSoFar}

-- nothing on any lane, and on any bus
abbrev nothing_on : {X : Type 0} → BridgeLane → Option X
nothing_on lane = None

abbrev pub no_list : {X : Type 0} → ℕ → List X
no_list bus = []

-- Places.

pub place_found : (buses : List ℕ) (bus : ℕ) (found : Option ℕ) → HasPlace buses bus → found ≡ position (λ (other : ℕ). other == bus) buses → IsSome found
place_found buses bus None has is = let wrong : false ≡ true = sym (none_at (λ (other : ℕ). other == bus) buses (sym is) has.0 bus has.1) ∙ eq-eqb bus bus refl in cc
place_found buses bus (Some k) has is = refl

pub place_is : (buses : List ℕ) (bus k : ℕ) (found : Option ℕ) → found ≡ position (λ (other : ℕ). other == bus) buses → found ≡ Some k → slice_get buses k ≡ Some bus
place_is buses bus k found is some =
    let at = found_at (λ (other : ℕ). other == bus) buses k (sym is ∙ some) in
    at.1.0 ∙ ap (λ (b : ℕ). Some b) (eqb-true at.0 bus at.1.1)

-- One more end.

pub more_set : {End : Type 0} (ends : List (List End)) (place : ℕ) (end : End) (d : List End) → place < length ends → set ends place (get_or ends place d ++ end ∷ []) ≡ one_more place end ends
more_set [] place end d within = absurd (omega (arith, within))
more_set (at ∷ ends) zero end d within = refl
more_set {End} (at ∷ ends) (suc place) end d within =
    let F : List (List End) → List (List End) = λ l. at ∷ l in
    ap F (more_set ends place end d (omega (arith, within)))

abbrev somes : {End : Type 0} → List (List End) → List (List (Option End))
somes {End} ends = map (λ (at : List End). map (λ (end : End). Some end) at) ends

more_somes : {End : Type 0} (place : ℕ) (end : End) (ends : List (List End)) → somes (one_more place end ends) ≡ one_more place (Some end) (somes ends)
more_somes place end [] = refl
more_somes {End} zero end (at ∷ ends) =
    let F : List (Option End) → List (List (Option End)) = λ l. l ∷ somes ends in
    ap F (map-append (λ (e : End). Some e) at (end ∷ []))
more_somes {End} (suc place) end (at ∷ ends) =
    let F : List (List (Option End)) → List (List (Option End)) = λ l. map (λ (e : End). Some e) at ∷ l in
    ap F (more_somes place end ends)

-- one more at the end of the list that is at the place
pub add_is : {V End : Type 0} (items : V → List End) (lists : List V) (place : ℕ) (at after : V) (end : End) → place < length lists → at ≡ get_or lists place at → items after ≡ items at ++ end ∷ []
    → map items (set lists place after) ≡ one_more place end (map items lists)
add_is items [] place at after end within there longer = absurd (omega (arith, within))
add_is {V} {End} items (first ∷ lists) zero at after end within there longer =
    let F : List End → List (List End) = λ l. l ∷ map items lists in
    ap F (longer ∙ ap (λ (v : V). items v ++ end ∷ []) there)
add_is {V} {End} items (first ∷ lists) (suc place) at after end within there longer =
    let F : List (List End) → List (List End) = λ l. items first ∷ l in
    ap F (add_is items lists place at after end (omega (arith, within)) there longer)

-- one more empty list
replicate_last : {X : Type 0} (n : ℕ) → replicate n [] ++ [] ∷ [] ≡ replicate (n + 1) (no_list {X = X} 0)
replicate_last zero = refl
replicate_last {X} (suc n) =
    let F : List (List X) → List (List X) = λ l. [] ∷ l in
    let next : suc (n + 1) ≡ suc n + 1 = omega arith in
    ap F (replicate_last n) ∙ ap (λ (k : ℕ). replicate k []) next

pub lists_more : {V X : Type 0} (items : V → List X) (before after : List V) (v : V) (n : ℕ) → map items before ≡ replicate n [] → items v ≡ [] → after ≡ before ++ v ∷ [] → map items after ≡ replicate (n + 1) []
lists_more {V} {X} items before after v n are none longer =
    let J : List (List X) → List X → List (List X) = λ l x. l ++ x ∷ [] in
    ap (map items) longer ∙ (map-append items before (v ∷ []) ∙ (ap (λ (l : List (List X)). J l (items v)) are ∙ (ap (J (replicate n [])) none ∙ replicate_last n)))

-- as many lists as before
pub more_many : {End : Type 0} (place : ℕ) (end : End) (lists : List (List End)) → length (one_more place end lists) ≡ length lists
more_many place end [] = refl
more_many zero end (at ∷ lists) = refl
more_many (suc place) end (at ∷ lists) = ap suc (more_many place end lists)

-- as many empty lists as there are buses
pub no_lists_at : {X : Type 0} (many : ℕ) (buses : List ℕ) → many ≡ length buses → replicate many [] ≡ map (no_list {X = X}) buses
no_lists_at zero [] same = refl
no_lists_at (suc many) [] same = absurd (omega (arith, same))
no_lists_at zero (bus ∷ buses) same = absurd (omega (arith, same))
no_lists_at {X} (suc many) (bus ∷ buses) same =
    let F : List (List X) → List (List X) = λ l. [] ∷ l in
    ap F (no_lists_at many buses (omega (arith, same)))

-- a list with the end, on one bus alone
abbrev with_end : {X : Type 0} → (ℕ → List X) → ℕ → X → ℕ → List X
with_end lists bus x other = lists other ++ cond (other == bus) (x ∷ []) []

map_same : {X : Type 0} (f g : ℕ → X) (xs : List ℕ) → ((k x : ℕ) → slice_get xs k ≡ Some x → f x ≡ g x) → map f xs ≡ map g xs
map_same f g [] same = refl
map_same {X} f g (x ∷ xs) same =
    let F : X → List X → List X = λ y l. y ∷ l in
    ap (λ (y : X). F y (map f xs)) (same 0 x refl) ∙ ap (F (g x)) (map_same f g xs (λ k y there. same (suc k) y there))

not_with : {X : Type 0} (lists : ℕ → List X) (bus : ℕ) (x : X) (other : ℕ) → other ≢ bus → lists other ≡ with_end lists bus x other
not_with {X} lists bus x other apart =
    let is : (other == bus) ≡ false = ne_eqb other bus apart in
    sym (append-nil (lists other)) ∙ ap (λ (b : Bool). lists other ++ cond b (x ∷ []) []) (sym is)

-- on the buses, each of which has one place
more_at : {X : Type 0} (lists : ℕ → List X) (buses : List ℕ) (place bus : ℕ) (x : X) → slice_get buses place ≡ Some bus → ((k other : ℕ) → slice_get buses k ≡ Some other → k ≢ place → other ≢ bus)
    → one_more place x (map lists buses) ≡ map (with_end lists bus x) buses
more_at lists [] place bus x there apart = cc
more_at {X} lists (y ∷ buses) zero bus x there apart =
    let same : y ≡ bus = cc in
    let is : (y == bus) ≡ true = eq-eqb y bus same in
    let F : List X → List (List X) → List (List X) = λ l rest. l ∷ rest in
    ap (λ (b : Bool). F (lists y ++ cond b (x ∷ []) []) (map lists buses)) (sym is)
    ∙ ap (F (with_end lists bus x y)) (map_same lists (with_end lists bus x) buses (λ k other at. not_with lists bus x other (apart (suc k) other at (λ e. absurd (omega (arith, e))))))
more_at {X} lists (y ∷ buses) (suc place) bus x there apart =
    let F : List X → List (List X) → List (List X) = λ l rest. l ∷ rest in
    let first : lists y ≡ with_end lists bus x y = not_with lists bus x y (apart 0 y refl (λ e. absurd (omega (arith, e)))) in
    ap (λ (l : List X). F l (one_more place x (map lists buses))) first
    ∙ ap (F (with_end lists bus x y)) (more_at lists buses place bus x there (λ k other at other_place. apart (suc k) other at (λ e. other_place (omega (arith, e)))))

-- The lanes of bridges to buses below a number.

numbers_below : (p : ℕ → Bool) (n : ℕ) → AllByRecursion (λ (c : ℕ). c < n) (filter p (range_with_len 0 n))
numbers_below p zero = tt
numbers_below p (suc n) =
    let next : n + 1 ≡ suc n = omega arith in
    let weaker = Each-weaker (λ (c : ℕ). c < n) (λ (c : ℕ). c < suc n) (λ c less. omega (arith, less)) (filter p (range_with_len 0 n)) (numbers_below p n) in
    let A : List ℕ → Type 0 = AllByRecursion (λ (c : ℕ). c < suc n) in
    let P : Bool → Type 0 = λ b. p n ≡ b → A (filter p (range_with_len 0 (suc n))) in
    (elim (p n) as P [
      | true ↦ λ passes.
          subst A (sym (passing_more p n passes) ∙ ap (λ (k : ℕ). filter p (range_with_len 0 k)) next)
          (Each-append (λ (c : ℕ). c < suc n) (filter p (range_with_len 0 n)) (n ∷ []) weaker (omega arith, tt))
      | false ↦ λ fails. subst A (sym (passing_skipped p n fails) ∙ ap (λ (k : ℕ). filter p (range_with_len 0 k)) next) weaker
    ]) refl

-- each bus of a board is below 256
buses_fit : (board : Board) (k bus : ℕ) → slice_get (buses_of board) k ≡ Some bus → bus < 256
unfolding buses_of
buses_fit board k bus there = Each-slice_get (λ (c : ℕ). c < 256) (filter (is_bus board) (range_with_len 0 256)) k bus (numbers_below (is_bus board) 256) there

-- a bus that has a bridge, and its primary bus
pub record Bridged (board : Board) (bus : ℕ) : Type 0 where
  pub bridge : Bridge
  pub is : bridge_to board bus ≡ Some bridge
  pub falls : primary_of board bus < bus

pub bridged : (board : Board) (bus : ℕ) → IsValid board → has_bridge_to board bus ≡ true → Bridged board bus
bridged board bus valid has =
    let found = any_some (λ (b : Bridge). b.bus == bus) board.bridges has in
    let number : found.0.bus ≡ bus = eqb-true found.0.bus bus (find_passes (λ (b : Bridge). b.bus == bus) board.bridges found.0 found.1) in
    let below : found.0.parent < found.0.bus = Each-find (λ (b : Bridge). b.parent < b.bus) (λ (b : Bridge). b.bus == bus) board.bridges found.0 (IsTree-valid board valid).falls found.1 in
    let primary : primary_of board bus ≡ found.0.parent = ap primary_in found.1 in
    record { bridge = found.0; is = found.1; falls = omega (arith, number, below, primary) }

-- both are buses of the board
pub here_place : (board : Board) (bus : ℕ) → IsValid board → bus < 256 → has_bridge_to board bus ≡ true → HasPlace (buses_of board) bus
here_place board bus valid fits has = let own = bridged board bus valid has in bus_place board bus fits (end_is_bus board valid.buses (down_to bus) own.bridge own.is)

pub above_place : (board : Board) (bus : ℕ) → IsValid board → bus < 256 → has_bridge_to board bus ≡ true → HasPlace (buses_of board) (primary_of board bus)
above_place board bus valid fits has =
    let own = bridged board bus valid has in
    let falls = own.falls in
    bus_place board (primary_of board bus) (omega (arith, falls, fits)) (end_is_bus board valid.buses (up_from bus) own.bridge own.is)

-- the own lane of a bus, where the number is another one
own_same : (board : Board) (n bus : ℕ) → bus ≢ n → own_below board (n + 1) bus ≡ own_below board n bus
own_same board n bus apart =
    let P : Bool → Type 0 = λ b. nat_lt bus n ≡ b → nat_lt bus (n + 1) ≡ b in
    let same : nat_lt bus (n + 1) ≡ nat_lt bus n =
    (elim (nat_lt bus n) as P [
      | true ↦ λ is. let less = ltb-true bus n is in lt-ltb bus (n + 1) (omega (arith, less))
      | false ↦ λ is. let more = ltb-false bus n is in le-ltb bus (n + 1) (above more)
    ]) refl in
    ap (λ (b : Bool). cond (has_bridge_to board bus && b) (down_to bus ∷ []) []) same
  where
    above : n ≤ bus → n + 1 ≤ bus
    above upto =
        let P : Bool → Type 0 = λ b. (bus == n) ≡ b → n + 1 ≤ bus in
        (elim (bus == n) as P [
          | true ↦ λ is. absurd (apart (eqb-true bus n is))
          | false ↦ λ is. let other = eqb-false bus n is in omega (arith, upto, other)
        ]) refl

own_none : (board : Board) (n : ℕ) → own_below board n n ≡ []
own_none board n =
    let is : nat_lt n n ≡ false = le-ltb n n (omega arith) in
    ap (λ (b : Bool). cond (has_bridge_to board n && b) (down_to n ∷ []) []) is ∙ never (has_bridge_to board n)
  where
    never : (b : Bool) → cond (b && false) (down_to n ∷ []) [] ≡ []
    never true = refl
    never false = refl

own_there : (board : Board) (n : ℕ) → has_bridge_to board n ≡ true → own_below board (n + 1) n ≡ down_to n ∷ []
own_there board n has =
    let is : nat_lt n (n + 1) ≡ true = lt-ltb n (n + 1) (omega arith) in
    ap (λ (b : Bool). cond (b && nat_lt n (n + 1)) (down_to n ∷ []) []) has ∙ ap (λ (b : Bool). cond (true && b) (down_to n ∷ []) []) is

-- a bus that has none has no own lane
own_lacks : (board : Board) (n m : ℕ) → has_bridge_to board n ≡ false → own_below board m n ≡ []
own_lacks board n m lacks = ap (λ (b : Bool). cond (b && nat_lt n m) (down_to n ∷ []) []) lacks

-- no bus below a number hangs below that bus
none_hang : (board : Board) (n : ℕ) → IsValid board → (m : ℕ) → m ≤ n → filter (is_below board n) (range_with_len 0 m) ≡ []
none_hang board n valid zero upto = refl
none_hang board n valid (suc m) upto =
    let next : m + 1 ≡ suc m = omega arith in
    let fails : is_below board n m ≡ false = not_below in
    ap (λ (k : ℕ). filter (is_below board n) (range_with_len 0 k)) (sym next) ∙ (passing_skipped (is_below board n) m fails ∙ none_hang board n valid m (omega (arith, upto)))
  where
    not_below : is_below board n m ≡ false
    not_below =
        let P : Bool → Type 0 = λ b. is_below board n m ≡ b → b ≡ false in
        (elim (is_below board n m) as P [
          | true ↦ λ is.
              let parts = and_parts (has_bridge_to board m) (primary_of board m == n) is in
              let primary = eqb-true (primary_of board m) n parts.1 in
              let falls = (bridged board m valid parts.0).falls in
              absurd (omega (arith, primary, falls, upto))
          | false ↦ λ _. refl
        ]) refl

-- what a bus without a bridge changes, which is nothing
lanes_skipped : (board : Board) (n bus : ℕ) → has_bridge_to board n ≡ false → lanes_below board (n + 1) bus ≡ lanes_below board n bus
lanes_skipped board n bus lacks =
    let fails : is_below board bus n ≡ false = ap (λ (b : Bool). b && (primary_of board n == bus)) lacks in
    let J : List BridgeLane → List ℕ → List BridgeLane = λ own xs. own ++ map up_from xs in
    let own : own_below board (n + 1) bus ≡ own_below board n bus = by_number in
    ap (λ (o : List BridgeLane). J o (filter (is_below board bus) (range_with_len 0 (n + 1)))) own ∙ ap (J (own_below board n bus)) (passing_skipped (is_below board bus) n fails)
  where
    by_number : own_below board (n + 1) bus ≡ own_below board n bus
    by_number =
        let P : Bool → Type 0 = λ b. (bus == n) ≡ b → own_below board (n + 1) bus ≡ own_below board n bus in
        (elim (bus == n) as P [
          | true ↦ λ is.
              let same = eqb-true bus n is in
              let none : has_bridge_to board bus ≡ false = ap (has_bridge_to board) same ∙ lacks in
              own_lacks board bus (n + 1) none ∙ sym (own_lacks board bus n none)
          | false ↦ λ is. own_same board n bus (eqb-false bus n is)
        ]) refl

-- at last these are all
lanes_all : (board : Board) (bus : ℕ) → bus < 256 → lanes_below board 256 bus ≡ lanes_to board bus
unfolding children_of
lanes_all board bus fits =
    let is : nat_lt bus 256 ≡ true = lt-ltb bus 256 fits in
    let J : List BridgeLane → List BridgeLane = λ own. own ++ map up_from (filter (is_below board bus) (range_with_len 0 256)) in
    ap J (ap (λ (b : Bool). cond (has_bridge_to board bus && b) (down_to bus ∷ []) []) is ∙ ap (λ (b : Bool). cond b (down_to bus ∷ []) []) (both (has_bridge_to board bus)))
  where
    both : (b : Bool) → (b && true) ≡ b
    both true = refl
    both false = refl

-- Lists.

map_each : {X Y : Type 0} (f g : X → Y) (xs : List X) → AllByRecursion (λ (x : X). f x ≡ g x) xs → map f xs ≡ map g xs
map_each f g [] same = refl
map_each {X} {Y} f g (x ∷ xs) same =
    let F : Y → List Y → List Y = λ y l. y ∷ l in
    ap (λ (y : Y). F y (map f xs)) same.0 ∙ ap (F (g x)) (map_each f g xs same.1)

each_mapped : {X Y : Type 0} (P : Y → Type 0) (f : X → Y) (xs : List X) → AllByRecursion (λ (x : X). P (f x)) xs → AllByRecursion P (map f xs)
each_mapped P f [] each = tt
each_mapped P f (x ∷ xs) each = (each.0, each_mapped P f xs each.1)

-- the lanes of bridges to buses below a number are so
all_below : (board : Board) (n bus : ℕ) → AllByRecursion (λ (lane : BridgeLane). lane.bus < n) (lanes_below board n bus)
all_below board n bus =
    let Below : BridgeLane → Type 0 = λ lane. lane.bus < n in
    let P : Bool → Type 0 = λ b. (has_bridge_to board bus && nat_lt bus n) ≡ b → AllByRecursion Below (cond b (down_to bus ∷ []) []) in
    let own : AllByRecursion Below (own_below board n bus) =
    (elim (has_bridge_to board bus && nat_lt bus n) as P [
      | true ↦ λ is. (ltb-true bus n (and_parts (has_bridge_to board bus) (nat_lt bus n) is).1, tt)
      | false ↦ λ _. tt
    ]) refl in
    Each-append Below (own_below board n bus) (map up_from (filter (is_below board bus) (range_with_len 0 n))) own
    (each_mapped Below up_from (filter (is_below board bus) (range_with_len 0 n)) (numbers_below (is_below board bus) n))

-- as many ends as lanes
lengths : {End : Type 0} (board : Board) (given : BridgeLane → Option End) (buses : List ℕ) (ends : List (List End)) → somes ends ≡ map (λ (bus : ℕ). map given (lanes_to board bus)) buses
    → map length ends ≡ map (λ (bus : ℕ). length (lanes_to board bus)) buses
lengths board given [] [] same = refl
lengths board given [] (at ∷ ends) same = cc
lengths board given (bus ∷ buses) [] same = cc
lengths {End} board given (bus ∷ buses) (at ∷ ends) same =
    let head : map (λ (end : End). Some end) at ≡ map given (lanes_to board bus) = cc in
    let tail : somes ends ≡ map (λ (b : ℕ). map given (lanes_to board b)) buses = cc in
    let one = ap length head in
    let some = length-map at (λ (end : End). Some end) in
    let lanes = length-map (lanes_to board bus) given in
    let first : length at ≡ length (lanes_to board bus) = omega (arith, one, some, lanes) in
    let F : ℕ → List ℕ → List ℕ = λ n l. n ∷ l in
    ap (λ (n : ℕ). F n (map length ends)) first ∙ ap (F (length (lanes_to board bus))) (lengths board given buses ends tail)

no_lists : {X : Type 0} (board : Board) (buses : List ℕ) → map (no_list {X = Option X}) buses ≡ map (λ (bus : ℕ). map (nothing_on {X = X}) (lanes_below board 0 bus)) buses
no_lists board [] = refl
no_lists {X} board (bus ∷ buses) =
    let is : nat_lt bus 0 ≡ false = le-ltb bus 0 (omega arith) in
    let nothing : List BridgeLane → List (Option X) = map nothing_on in
    let F : List (Option X) → List (List (Option X)) → List (List (Option X)) = λ l rest. l ∷ rest in
    let own : own_below board 0 bus ≡ [] = ap (λ (b : Bool). cond (has_bridge_to board bus && b) (down_to bus ∷ []) []) is ∙ never (has_bridge_to board bus) in
    ap (λ (o : List BridgeLane). F (nothing (o ++ [])) (map no_list buses)) (sym own) ∙ ap (F (nothing (lanes_below board 0 bus))) (no_lists board buses)
  where
    never : (b : Bool) → cond (b && false) (down_to bus ∷ []) [] ≡ []
    never true = refl
    never false = refl

somes_none : {End : Type 0} (buses : List ℕ) → somes (map (no_list {X = End}) buses) ≡ map (no_list {X = Option End}) buses
somes_none [] = refl
somes_none {End} (bus ∷ buses) = let F : List (List (Option End)) → List (List (Option End)) = λ l. [] ∷ l in ap F (somes_none buses)

module _ {End : Type 0} (had sent got : End → List Item) (kept : End → ℕ) (paired : End → End → Type 0) (board : Board) where
  abbrev New : End → Type 0
  New = IsNew had sent got kept

  abbrev SoFar : ℕ → List (List End) → Type 0
  SoFar = AreSoFar had sent got kept paired board

  abbrev Lists : (BridgeLane → Option End) → ℕ → ℕ → List (Option End)
  Lists given n bus = map given (lanes_below board n bus)

  pub none_so_far : (ends : List (List End)) → ends ≡ map no_list (buses_of board) → SoFar 0 ends
  none_so_far ends none = record {
    given = λ lane. None;
    are = ap somes none ∙ (somes_none (buses_of board) ∙ no_lists board (buses_of board));
    new = λ lane end is. cc;
    pairs = λ lane end other is there. cc;
  }

  pub many_so_far : (n : ℕ) (ends : List (List End)) → SoFar n ends → length ends ≡ length (buses_of board)
  many_so_far n ends so_far =
      sym (length-map ends (λ (at : List End). map (λ (end : End). Some end) at)) ∙ (ap length so_far.are ∙ length-map (buses_of board) (Lists so_far.given n))

  -- a number without a bridge
  pub skipped : (n : ℕ) (ends : List (List End)) → SoFar n ends → has_bridge_to board n ≡ false → SoFar (n + 1) ends
  skipped n ends so_far lacks = record {
    given = so_far.given;
    are = so_far.are ∙ map_same (Lists so_far.given n) (Lists so_far.given (n + 1)) (buses_of board) (λ k bus there. ap (map so_far.given) (sym (lanes_skipped board n bus lacks)));
    new = so_far.new;
    pairs = so_far.pairs;
  }

  module _ (valid : IsValid board) (n : ℕ) (ends : List (List End)) (so_far : SoFar n ends) (has : has_bridge_to board n ≡ true) (upper lower : End) (above here : ℕ)
      (above_is : slice_get (buses_of board) above ≡ Some (primary_of board n)) (here_is : slice_get (buses_of board) here ≡ Some n) where
    -- the two ends, and those before
    given_now : BridgeLane → Option End
    given_now lane = cond (lane.bus == n) (cond lane.up (Some upper) (Some lower)) (so_far.given lane)

    given_before : (lane : BridgeLane) → lane.bus < n → given_now lane ≡ so_far.given lane
    unfolding given_now
    given_before lane less =
        let other : (lane.bus == n) ≡ false = ne_eqb lane.bus n (λ same. absurd (omega (arith, less, same))) in
        ap (λ (b : Bool). cond b (cond lane.up (Some upper) (Some lower)) (so_far.given lane)) other

    given_here : (lane : BridgeLane) → lane.bus ≡ n → given_now lane ≡ cond lane.up (Some upper) (Some lower)
    unfolding given_now
    given_here lane same =
        let is : (lane.bus == n) ≡ true = eq-eqb lane.bus n same in
        ap (λ (b : Bool). cond b (cond lane.up (Some upper) (Some lower)) (so_far.given lane)) is

    lists_before : (bus : ℕ) → map given_now (lanes_below board n bus) ≡ Lists so_far.given n bus
    lists_before bus =
        map_each given_now so_far.given (lanes_below board n bus)
        (Each-weaker (λ (lane : BridgeLane). lane.bus < n) (λ (lane : BridgeLane). given_now lane ≡ so_far.given lane) given_before (lanes_below board n bus) (all_below board n bus))

    falls : primary_of board n < n
    falls = (bridged board n valid has).falls

    abbrev Then : ℕ → List (Option End)
    Then = with_end (Lists so_far.given n) (primary_of board n) (Some upper)

    apart : (place bus : ℕ) → slice_get (buses_of board) place ≡ Some bus → (k other : ℕ) → slice_get (buses_of board) k ≡ Some other → k ≢ place → other ≢ bus
    apart place bus there k other at other_place same = other_place (one_place (buses_of board) (buses_rise board) k place bus (at ∙ ap (λ (b : ℕ). Some b) same) there)

    -- on each bus
    on_bus : (bus : ℕ) → with_end Then n (Some lower) bus ≡ map given_now (lanes_below board (n + 1) bus)
    on_bus bus =
        let P : Bool → Type 0 = λ b. (bus == n) ≡ b → Then bus ++ cond b (Some lower ∷ []) [] ≡ map given_now (lanes_below board (n + 1) bus) in
        (elim (bus == n) as P [
          | true ↦ λ is. on_own (eqb-true bus n is)
          | false ↦ λ is. append-nil (Then bus) ∙ on_other (eqb-false bus n is)
        ]) refl
      where
        on_own : bus ≡ n → Then bus ++ Some lower ∷ [] ≡ map given_now (lanes_below board (n + 1) bus)
        on_own same =
            let G : ℕ → Type 0 = λ b. Then b ++ Some lower ∷ [] ≡ map given_now (lanes_below board (n + 1) b) in
            subst G (sym same) at_number
          where
            hang : filter (is_below board n) (range_with_len 0 n) ≡ []
            hang = none_hang board n valid n (omega arith)

            not_below : is_below board n n ≡ false
            not_below =
                let other : (primary_of board n == n) ≡ false = ne_eqb (primary_of board n) n (λ e. let f = falls in absurd (omega (arith, e, f))) in
                ap (λ (b : Bool). has_bridge_to board n && b) other ∙ ap (λ (b : Bool). b && false) has

            nothing : Lists so_far.given n n ≡ []
            nothing =
                let J : List BridgeLane → List ℕ → List (Option End) = λ own xs. map so_far.given (own ++ map up_from xs) in
                ap (λ (own : List BridgeLane). J own (filter (is_below board n) (range_with_len 0 n))) (own_none board n) ∙ ap (J []) hang

            at_number : Then n ++ Some lower ∷ [] ≡ map given_now (lanes_below board (n + 1) n)
            at_number =
                let other : n ≢ primary_of board n = λ e. let f = falls in absurd (omega (arith, e, f)) in
                let then : Then n ≡ [] = sym (not_with (Lists so_far.given n) (primary_of board n) (Some upper) n other) ∙ nothing in
                let J : List BridgeLane → List ℕ → List (Option End) = λ own xs. map given_now (own ++ map up_from xs) in
                let now : map given_now (lanes_below board (n + 1) n) ≡ Some lower ∷ [] =
                ap (λ (own : List BridgeLane). J own (filter (is_below board n) (range_with_len 0 (n + 1)))) (own_there board n has)
                ∙ (ap (J (down_to n ∷ [])) (passing_skipped (is_below board n) n not_below ∙ hang) ∙ ap (λ (o : Option End). o ∷ []) (given_here (down_to n) refl)) in
                ap (λ (l : List (Option End)). l ++ Some lower ∷ []) then ∙ sym now

        on_other : bus ≢ n → Then bus ≡ map given_now (lanes_below board (n + 1) bus)
        on_other other =
            let P : Bool → Type 0 = λ b. (bus == primary_of board n) ≡ b → Lists so_far.given n bus ++ cond b (Some upper ∷ []) [] ≡ map given_now (lanes_below board (n + 1) bus) in
            (elim (bus == primary_of board n) as P [
              | true ↦ λ is.
                  let below : is_below board bus n ≡ true = ap (λ (b : Bool). b && (primary_of board n == bus)) has ∙ eq-eqb (primary_of board n) bus (sym (eqb-true bus (primary_of board n) is)) in
                  let xs : List ℕ = filter (is_below board bus) (range_with_len 0 n) in
                  let own : List BridgeLane = own_below board n bus in
                  let longer : lanes_below board (n + 1) bus ≡ lanes_below board n bus ++ up_from n ∷ [] =
                  ap (λ (o : List BridgeLane). o ++ map up_from (filter (is_below board bus) (range_with_len 0 (n + 1)))) (own_same board n bus other)
                  ∙ (ap (λ (l : List BridgeLane). own ++ l) (ap (map up_from) (passing_more (is_below board bus) n below) ∙ map-append up_from xs (n ∷ []))
                  ∙ sym (append_assoc own (map up_from xs) (up_from n ∷ []))) in
                  let J : List (Option End) → Option End → List (Option End) = λ l o. l ++ o ∷ [] in
                  sym (ap (map given_now) longer
                  ∙ (map-append given_now (lanes_below board n bus) (up_from n ∷ [])
                  ∙ (ap (λ (l : List (Option End)). J l (given_now (up_from n))) (lists_before bus) ∙ ap (J (Lists so_far.given n bus)) (given_here (up_from n) refl))))
              | false ↦ λ is.
                  let apart_from = eqb-false bus (primary_of board n) is in
                  let fails : is_below board bus n ≡ false =
                  ap (λ (b : Bool). has_bridge_to board n && b) (ne_eqb (primary_of board n) bus (λ e. apart_from (sym e))) ∙ ap (λ (b : Bool). b && false) has in
                  let J : List BridgeLane → List ℕ → List BridgeLane = λ own xs. own ++ map up_from xs in
                  let same : lanes_below board (n + 1) bus ≡ lanes_below board n bus =
                  ap (λ (own : List BridgeLane). J own (filter (is_below board bus) (range_with_len 0 (n + 1)))) (own_same board n bus other)
                  ∙ ap (J (own_below board n bus)) (passing_skipped (is_below board bus) n fails) in
                  append-nil (Lists so_far.given n bus) ∙ sym (ap (map given_now) same ∙ lists_before bus)
            ]) refl

    new_here : New upper → New lower → (lane : BridgeLane) (end : End) → given_now lane ≡ Some end → New end
    unfolding given_now
    new_here one two lane end is =
        let P : Bool → Type 0 = λ b. cond b (cond lane.up (Some upper) (Some lower)) (so_far.given lane) ≡ Some end → New end in
        (elim (lane.bus == n) as P [
          | true ↦ by_way lane.up
          | false ↦ λ there. so_far.new lane end there
        ]) is
      where
        by_way : (up : Bool) → cond up (Some upper) (Some lower) ≡ Some end → New end
        by_way true there = let same : upper ≡ end = cc in subst New same one
        by_way false there = let same : lower ≡ end = cc in subst New same two

    pairs_here : paired upper lower → paired lower upper → (lane : BridgeLane) (end other : End) → given_now lane ≡ Some end → given_now (lane_back lane) ≡ Some other → paired end other
    unfolding given_now
    pairs_here down up lane end other is there =
        let P : Bool → Type 0 = λ b.
        cond b (cond lane.up (Some upper) (Some lower)) (so_far.given lane) ≡ Some end → cond b (cond (not lane.up) (Some upper) (Some lower)) (so_far.given (lane_back lane)) ≡ Some other → paired end other in
        (elim (lane.bus == n) as P [
          | true ↦ by_way lane.up
          | false ↦ λ one two. so_far.pairs lane end other one two
        ]) is there
      where
        by_way : (way : Bool) → cond way (Some upper) (Some lower) ≡ Some end → cond (not way) (Some upper) (Some lower) ≡ Some other → paired end other
        by_way true one two =
            let first : upper ≡ end = cc in
            let second : lower ≡ other = cc in
            subst (λ (e : End). paired e other) first (subst (λ (e : End). paired upper e) second down)
        by_way false one two =
            let first : lower ≡ end = cc in
            let second : upper ≡ other = cc in
            subst (λ (e : End). paired e other) first (subst (λ (e : End). paired lower e) second up)

    pub pair_more : New upper → New lower → paired upper lower → paired lower upper → (after : List (List End)) → after ≡ one_more here lower (one_more above upper ends) → SoFar (n + 1) after
    pair_more one two down up after more = record {
      given = given_now;
      are =
          ap somes more
          ∙ (more_somes here lower (one_more above upper ends)
          ∙ (ap (one_more here (Some lower)) (more_somes above upper ends
          ∙ (ap (one_more above (Some upper)) so_far.are ∙ more_at (Lists so_far.given n) (buses_of board) above (primary_of board n) (Some upper) above_is (apart above (primary_of board n) above_is)))
          ∙ (more_at Then (buses_of board) here n (Some lower) here_is (apart here n here_is)
          ∙ map_same (with_end Then n (Some lower)) (λ (bus : ℕ). map given_now (lanes_below board (n + 1) bus)) (buses_of board) (λ k bus there. on_bus bus))));
      new = new_here one two;
      pairs = pairs_here down up;
    }

  -- all are made
  module _ (ends : List (List End)) (all : SoFar 256 ends) where
    are_all : somes ends ≡ map (λ (bus : ℕ). map all.given (lanes_to board bus)) (buses_of board)
    are_all =
        all.are
        ∙ map_same (Lists all.given 256) (λ (bus : ℕ). map all.given (lanes_to board bus)) (buses_of board) (λ k bus there. ap (map all.given) (lanes_all board bus (buses_fit board k bus there)))

    pub all_fit : AreEndsOf board ends
    all_fit = lengths board all.given (buses_of board) ends are_all

    given_is : (lane : BridgeLane) (end : End) → IsEndAt board ends lane end → all.given lane ≡ Some end
    given_is lane end at =
        let W : List End → List (Option End) = λ l. map (λ (e : End). Some e) l in
        let L : ℕ → List (Option End) = λ bus. map all.given (lanes_to board bus) in
        let ours : slice_get (somes ends) at.place ≡ Some (W at.at) = get_map W ends at.place at.at at.at_is in
        let theirs : slice_get (map L (buses_of board)) at.place ≡ Some (L at.bus) = get_map L (buses_of board) at.place at.bus at.bus_is in
        let both : Some (W at.at) ≡ Some (L at.bus) = sym ours ∙ (ap (λ (l : List (List (Option End))). slice_get l at.place) are_all ∙ theirs) in
        let lists : W at.at ≡ L at.bus = cc in
        let one : slice_get (W at.at) at.port ≡ Some (Some end) = get_map (λ (e : End). Some e) at.at at.port end at.end_is in
        let other : slice_get (L at.bus) at.port ≡ Some (all.given lane) = get_map all.given (lanes_to board at.bus) at.port lane at.lane_is in
        let met : Some (all.given lane) ≡ Some (Some end) = sym other ∙ (ap (λ (l : List (Option End)). slice_get l at.port) (sym lists) ∙ one) in
        cc

    pub all_pairs : AreNewPairs had sent got kept paired board ends
    all_pairs = record {
      new = λ lane end at. all.new lane end (given_is lane end at);
      pairs = λ lane end other at back. all.pairs lane end other (given_is lane end at) (given_is (lane_back lane) other back);
    }
