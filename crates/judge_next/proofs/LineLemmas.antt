-- The first over the lines of a bus is the first by line.
use Rattle.std.proofs.Common.{◌≡◌, ℕ, Bool, true, false, zero, suc, List, [], ◌∷◌, ◌++◌, ◌&&◌, Option, Some, None, refl, sym, ap, subst, ◌∙◌, if◌then◌else◌, slice_get}
use Rattle.std.specs.Option.{option_or}
use Rattle.pci_command.specs.declared.op_id.OpId.{OpId}
use Rattle.board_model.specs.declared.bridge.Lane.{Lane as BridgeLane}
use Rattle.board_model.specs.declared.board.Board.{Board}
use Rattle.history_model.specs.declared.event.By.TheVariants.{Master}
use Rattle.history_model.specs.declared.event.Event.{Event}
use Rattle.history_model.specs.Program.{turn_of}
use Rattle.history_model.specs.Answers.{is_on, is_turn, answer}
use Rattle.law_bound.proofs.changes.Laws.{turn_master}
use Rattle.history_model.specs.Next.{first_in, first_below, first_bus, down_to, up_from, ends_on, given_on, first_lane, act_given, act_of_turn}
use Rattle.judge_next.specs.Lines.{listed, ups_below, lanes_ending, masters_below}

or_assoc : {Y : Type 0} (a b c : Option Y) → option_or (option_or a b) c ≡ option_or a (option_or b c)
or_assoc None b c = refl
or_assoc (Some y) b c = refl

or_none : {Y : Type 0} (a : Option Y) → option_or a None ≡ a
or_none None = refl
or_none (Some y) = refl

-- the first over two lists
pub first_in-append : {X Y : Type 0} (gives : X → Option Y) (xs ys : List X) → first_in gives (xs ++ ys) ≡ option_or (first_in gives xs) (first_in gives ys)
first_in-append gives [] ys = refl
first_in-append gives (x ∷ xs) ys = ap (option_or (gives x)) (first_in-append gives xs ys) ∙ sym (or_assoc (gives x) (first_in gives xs) (first_in gives ys))

-- the first of two things that give alike
pub first_in_same : {X Y : Type 0} (f g : X → Option Y) → ((x : X) → f x ≡ g x) → (xs : List X) → first_in f xs ≡ first_in g xs
first_in_same f g same [] = refl
first_in_same f g same (x ∷ xs) = ap (λ a. option_or a (first_in f xs)) (same x) ∙ ap (option_or (g x)) (first_in_same f g same xs)

pub first_below_same : {Y : Type 0} (f g : ℕ → Option Y) → ((k : ℕ) → f k ≡ g k) → (n : ℕ) → first_below n f ≡ first_below n g
first_below_same f g same zero = refl
first_below_same f g same (suc n) = ap (λ a. option_or a (f n)) (first_below_same f g same n) ∙ ap (option_or (first_below n g)) (same n)

pub first_bus_same : {Y : Type 0} (f g : ℕ → Option Y) → ((k : ℕ) → f k ≡ g k) → first_bus f ≡ first_bus g
unfolding first_bus
first_bus_same f g same = first_below_same f g same 256

first_listed : {Y : Type 0} (board : Board) (bus : ℕ) (gives : BridgeLane → Option Y) (lane : BridgeLane) → first_in gives (listed board bus lane) ≡ given_on board bus gives lane
first_listed board bus gives lane =
    let P : Bool → Type 0 = λ b. first_in gives (if b then lane ∷ [] else []) ≡ (if b then gives lane else None) in
    elim (ends_on board bus lane) as P [ true ↦ or_none (gives lane) | false ↦ refl ]

first_ups : {Y : Type 0} (n : ℕ) (board : Board) (bus : ℕ) (gives : BridgeLane → Option Y) →
    first_in gives (ups_below n board bus) ≡ first_below n (λ child. given_on board bus gives (up_from child))
first_ups zero board bus gives = refl
first_ups (suc n) board bus gives =
    first_in-append gives (ups_below n board bus) (listed board bus (up_from n))
    ∙ (ap (λ a. option_or a (first_in gives (listed board bus (up_from n)))) (first_ups n board bus gives)
    ∙ ap (option_or (first_below n (λ child. given_on board bus gives (up_from child)))) (first_listed board bus gives (up_from n)))

-- of the lanes
pub first_ending : {Y : Type 0} (board : Board) (bus : ℕ) (gives : BridgeLane → Option Y) → first_in gives (lanes_ending 256 board bus) ≡ first_lane board bus gives
unfolding first_bus
first_ending board bus gives =
    first_in-append gives (listed board bus (down_to bus)) (ups_below 256 board bus)
    ∙ (ap (λ a. option_or a (first_in gives (ups_below 256 board bus))) (first_listed board bus gives (down_to bus))
    ∙ ap (option_or (given_on board bus gives (down_to bus))) (first_ups 256 board bus gives))

-- a master of another bus does nothing on this one
pub not_here : (board : Board) (h : List Event) (on m : ℕ) → is_on on (slice_get board.masters m) ≡ false → act_of_turn board h on (turn_of board h m) ≡ None
not_here board h on m other =
    let P : Option OpId → Type 0 = λ turn. turn_of board h m ≡ turn → act_of_turn board h on turn ≡ None in
    (elim (turn_of board h m) as P [
      | None ↦ λ _. refl
      | Some o ↦ λ is.
          let same : o.master ≡ m = turn_master board h m o is in
          let away : is_on on (slice_get board.masters o.master) ≡ false = ap (λ (n : ℕ). is_on on (slice_get board.masters n)) same ∙ other in
          let Q : Bool → Type 0 = λ b. (if b && is_turn o (turn_of board h o.master) then act_given on Master o (answer board h on Master o) else None) ≡ None in
          subst Q (sym away) refl
    ]) refl

-- of the masters
pub first_masters : (board : Board) (h : List Event) (on n : ℕ) →
    first_in (λ (m : ℕ). act_of_turn board h on (turn_of board h m)) (masters_below n board on) ≡ first_below n (λ m. act_of_turn board h on (turn_of board h m))
first_masters board h on zero = refl
first_masters board h on (suc n) =
    let gives : ℕ → Option Event = λ m. act_of_turn board h on (turn_of board h m) in
    let P : Bool → Type 0 = λ b. is_on on (slice_get board.masters n) ≡ b → first_in gives (if b then n ∷ [] else []) ≡ gives n in
    let last : first_in gives (if is_on on (slice_get board.masters n) then n ∷ [] else []) ≡ gives n =
    (elim (is_on on (slice_get board.masters n)) as P [ true ↦ λ _. or_none (gives n) | false ↦ λ other. sym (not_here board h on n other) ]) refl in
    first_in-append gives (masters_below n board on) (if is_on on (slice_get board.masters n) then n ∷ [] else [])
    ∙ (ap (λ (a : Option Event). option_or a (first_in gives (if is_on on (slice_get board.masters n) then n ∷ [] else []))) (first_masters board h on n)
    ∙ ap (option_or (first_below n gives)) last)
