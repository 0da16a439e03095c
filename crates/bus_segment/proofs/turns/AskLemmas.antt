-- Which request lines ask: they are gathered one after another.
use Rattle.std.proofs.Common.{◌≡◌, ◌≢◌, ℕ, ◌+◌, ◌<◌, ◌≤◌, max, bit_or, Bool, true, false, not, ◌==◌, ◌&&◌, List, [], ◌∷◌, length, Option, Some, None, refl, sym, ap, subst, ◌∙◌, arith, inl, inr, slice_get}
use Rattle.std.specs.Int.{bit_at}
use Rattle.std.specs.List.{list_any}
use Rattle.std.specs.Option.{is_some}
use Rattle.std.proofs.lemmas.Bool.{eqb-true, eqb-false, cases_lt}
use Rattle.std.proofs.lemmas.Option.{slice_get_within}
use Rattle.std.proofs.lemmas.List.{length-map}
use Rattle.std.proofs.lemmas.Nat.Bits.{bit_at-zero, bit_at_or}
use Rattle.board_model.specs.Limits.{most_ports}
use Rattle.history_model.specs.declared.event.By.{By}
use Rattle.history_model.specs.declared.event.By.TheVariants.{Master, Lane as ByLane}
use Rattle.history_model.specs.Program.{turn_of}
use Rattle.history_model.specs.Answers.{is_on, is_turn}
use Rattle.bus_face.specs.declared.offer.Offer.{Offer}
use Rattle.bus_face.specs.Offers.{is_offer_of}
use Rattle.bus_agents.specs.Turns.{MasterView}
use Rattle.bus_core.specs.Bus.{BusView, shape_of}
use Rattle.bus_core.specs.Places.{WantsAt}
use Rattle.bus_core.specs.Serves.{BusOffers}
use Rattle.bus_core.proofs.Laws.{get_map}
use Rattle.bus_segment.specs.turns.Works.{HasLine, IsServed, IsSilent, NeverWants, AsksUpTo, AreAsked}

no_turn : (a b : Bool) → b ≡ false → (a && b) ≡ false
no_turn true b is = is
no_turn false b is = refl

pub none_listed : {X : Type 0} (xs : List X) (empty : Bool) → empty ≡ (length xs == 0) → not empty ≡ false → xs ≡ []
none_listed [] empty is some = refl
none_listed (x ∷ xs) true is some = absurd (omega (arith, eqb-true (length (x ∷ xs)) 0 (sym is)))
none_listed (x ∷ xs) false is some = cc

pub is_none : {X : Type 0} (found : Option X) → is_some found ≡ false → found ≡ None
is_none None is = refl
is_none (Some x) is = cc

-- a lane that offers nothing presents nothing
pub lane_silent : (s : BusView) (place : ℕ) (offers : List Offer) → place < most_ports → BusOffers place s offers → offers ≡ [] → IsSilent s place
lane_silent s place offers low all none =
    record {
      silent = λ by o is.
          let P : By → Type 0 = λ b. HasLine (shape_of s) place b o → NeverWants s b o in
          (elim by as P [
            | Master ↦ λ at. absurd (omega (arith, at.1, low))
            | ByLane lane ↦ λ at. record { never = λ board tags world p stands. all.wanted board tags world p lane o at stands ∙ ap (list_any (is_offer_of o)) none }
          ]) is;
    }

-- a master whose program ended presents nothing
pub master_silent : (s : BusView) (place : ℕ) → length s.ports ≤ most_ports → WantsAt place s.masters None → IsSilent s (most_ports + place)
master_silent s place few none =
    record {
      silent = λ by o is.
          let P : By → Type 0 = λ b. HasLine (shape_of s) (most_ports + place) b o → NeverWants s b o in
          (elim by as P [
            | Master ↦ λ at.
                record {
                  never = λ board tags world p stands.
                      let same : at.0 ≡ place = omega (arith, at.1) in
                      let here : slice_get (shape_of s).masters place ≡ Some o.master = subst (λ n. slice_get (shape_of s).masters n ≡ Some o.master) same at.2 in
                      let number = get_map (λ (m : MasterView). m.master) s.masters place none.master none.there in
                      let both = sym number ∙ here in
                      let master : none.master.master ≡ o.master = cc in
                      let turn : turn_of board p o.master ≡ None = ap (turn_of board p) (sym master) ∙ (sym (stands.masters place none.master none.there).turn ∙ none.turn_is) in
                      no_turn (is_on s.bus (slice_get board.masters o.master)) (is_turn o (turn_of board p o.master)) (ap (is_turn o) turn);
                }
            | ByLane lane ↦ λ at. absurd (let within = slice_get_within (shape_of s).lanes (most_ports + place) lane at in let many : length (shape_of s).lanes ≡ length s.ports = simp length-map in omega arith)
          ]) is;
    }

-- One more line.
pub asks_none : (s : BusView) (from : ℕ) → AsksUpTo s from from 0
asks_none s from =
    record {
      within = λ line asks. absurd (omega (arith, asks, bit_at-zero line));
      silent = λ line over under bit. absurd (omega (arith, over, under));
    }

pub asks_more : (s : BusView) (from to next : ℕ) (lines more : ℕ) → from ≤ to → next ≡ to + 1 → bit_at more to ≡ 1 → ((n : ℕ) → n ≢ to → bit_at more n ≡ bit_at lines n) → AsksUpTo s from to lines → AsksUpTo s from next more
asks_more s from to next lines more over step set same asks =
    record {
      within = λ line is.
          let P : Bool → Type 0 = λ b. (line == to) ≡ b → (from ≤ line) × (line < next) in
          (elim (line == to) as P [
            | true ↦ λ here. let number : line ≡ to = eqb-true line to here in (omega (arith, over, number), omega (arith, step, number))
            | false ↦ λ apart. let was = asks.within line (sym (same line (eqb-false line to apart)) ∙ is) in (was.0, omega (arith, was.1, step))
          ]) refl;
      silent = λ line low high bit.
          let P : Bool → Type 0 = λ b. (line == to) ≡ b → IsSilent s line in
          (elim (line == to) as P [
            | true ↦ λ here. let number : line ≡ to = eqb-true line to here in absurd (omega (arith, ap (bit_at more) number, set, bit))
            | false ↦ λ apart. let other : line ≢ to = eqb-false line to apart in asks.silent line low (omega (arith, high, step, other)) (sym (same line other) ∙ bit)
          ]) refl;
    }

-- One that presents nothing.
pub asks_skip : (s : BusView) (from to next : ℕ) (lines : ℕ) → next ≡ to + 1 → IsSilent s to → AsksUpTo s from to lines → AsksUpTo s from next lines
asks_skip s from to next lines step silent asks =
    record {
      within = λ line is. let was = asks.within line is in (was.0, omega (arith, was.1, step));
      silent = λ line low high bit.
          let P : Bool → Type 0 = λ b. (line == to) ≡ b → IsSilent s line in
          (elim (line == to) as P [
            | true ↦ λ here. subst (IsSilent s) (sym (eqb-true line to here)) silent
            | false ↦ λ apart. let other : line ≢ to = eqb-false line to apart in asks.silent line low (omega (arith, high, step, other)) bit
          ]) refl;
    }

-- nobody has a line beyond
no_lane : (s : BusView) (line : ℕ) → length s.ports ≤ line → line < most_ports → IsSilent s line
no_lane s line beyond low =
    record {
      silent = λ by o is.
          let P : By → Type 0 = λ b. HasLine (shape_of s) line b o → NeverWants s b o in
          (elim by as P [
            | Master ↦ λ at. absurd (omega (arith, at.1, low))
            | ByLane lane ↦ λ at. absurd (let within = slice_get_within (shape_of s).lanes line lane at in let many : length (shape_of s).lanes ≡ length s.ports = simp length-map in omega arith)
          ]) is;
    }

no_master : (s : BusView) (line : ℕ) → length s.ports ≤ most_ports → most_ports + length s.masters ≤ line → IsSilent s line
no_master s line few beyond =
    record {
      silent = λ by o is.
          let P : By → Type 0 = λ b. HasLine (shape_of s) line b o → NeverWants s b o in
          (elim by as P [
            | Master ↦ λ at. absurd (let within = slice_get_within (shape_of s).masters at.0 o.master at.2 in let many : length (shape_of s).masters ≡ length s.masters = simp length-map in omega (arith, within, many, beyond, at.1))
            | ByLane lane ↦ λ at. absurd (let within = slice_get_within (shape_of s).lanes line lane at in let many : length (shape_of s).lanes ≡ length s.ports = simp length-map in omega arith)
          ]) is;
    }

-- both together
pub asked_both : (s : BusView) (lanes masters : ℕ) → length s.ports ≤ most_ports → AsksUpTo s 0 (length s.ports) lanes
    → AsksUpTo s most_ports (most_ports + length s.masters) masters → AreAsked s (bit_or lanes masters)
asked_both s lanes masters few one two =
    let ports : length (shape_of s).lanes ≡ length s.ports = simp length-map in
    let agents : length (shape_of s).masters ≡ length s.masters = simp length-map in
    record {
      served = λ line is.
          let both : max (bit_at lanes line) (bit_at masters line) ≡ 1 = sym (bit_at_or lanes masters line) ∙ is in
          let P : Bool → Type 0 = λ b. (bit_at lanes line == 1) ≡ b → IsServed (shape_of s) line in
          (elim (bit_at lanes line == 1) as P [
            | true ↦ λ yes. let at = one.within line (eqb-true (bit_at lanes line) 1 yes) in inl (omega (arith, at.1, ports))
            | false ↦ λ no.
                let other : bit_at lanes line ≢ 1 = eqb-false (bit_at lanes line) 1 no in
                let at = two.within line (omega (arith, both, other)) in
                inr (at.0, omega (arith, at.1, agents))
          ]) refl;
      silent = λ line low bit.
          let both : max (bit_at lanes line) (bit_at masters line) ≡ 0 = sym (bit_at_or lanes masters line) ∙ bit in
          let first : bit_at lanes line ≡ 0 = omega (arith, both) in
          let second : bit_at masters line ≡ 0 = omega (arith, both) in
          elim (cases_lt line most_ports) as (λ _. IsSilent s line) [
            | inl is_lane ↦ elim (cases_lt line (length s.ports)) as (λ _. IsSilent s line) [
              | inl there ↦ one.silent line (omega arith) there first
              | inr beyond ↦ no_lane s line beyond is_lane
            ]
            | inr is_master ↦ elim (cases_lt line (most_ports + length s.masters)) as (λ _. IsSilent s line) [
              | inl there ↦ two.silent line is_master there second
              | inr beyond ↦ no_master s line few beyond
            ]
          ];
    }
