-- Ranges and windows that hold one address meet, and a window that covers them holds it.
use Rattle.std.proofs.Common.{◌≡◌, ℕ, ◌+◌, ◌-◌, ◌≤◌, ◌<◌, Bool, true, eqb, leb, ltb, ◌&&◌, ◌||◌, List, [], ◌∷◌, Option, Some, None, refl, sym, subst, ⊎_elim, arith}
use Rattle.std.specs.List.{list_any}
use Rattle.std.proofs.lemmas.Bool.{and_parts, and_from, or_cases, or_left, or_right}
use Rattle.std.proofs.lemmas.Bool.Decides.{nat_tests}
use Rattle.pci_command.specs.declared.command.Space.{Space}
use Rattle.pci_command.specs.declared.command.Space.TheVariants.{Mem, Io, Cfg}
use Rattle.pci_command.specs.Same.{same_space}
use Rattle.board_model.specs.declared.agents.Range.{Range}
use Rattle.board_model.specs.declared.agents.Target.{Target}
use Rattle.board_model.specs.declared.bridge.Window.{Window}
use Rattle.board_model.specs.declared.bridge.Bridge.{Bridge}
use Rattle.board_model.specs.Claims.{range_holds, window_holds, bridge_holds, decodes_down}
use Rattle.board_model.specs.Valid.{spans_meet, window_meets, windows_meet, window_covers, bridge_covers, bridges_meet, last_of, meets_in, ranges_meet, targets_meet, child_meets}
use Rattle.board_model.specs.form_laws.Claimants.{decodes}

same_space-true : (a b : Space) → same_space a b ≡ true → a ≡ b
same_space-true Mem Mem same = refl
same_space-true Mem Io same = cc
same_space-true Mem Cfg same = cc
same_space-true Io Mem same = cc
same_space-true Io Io same = refl
same_space-true Io Cfg same = cc
same_space-true Cfg Mem same = cc
same_space-true Cfg Io same = cc
same_space-true Cfg Cfg same = refl

same_space-self : (a : Space) → same_space a a ≡ true
same_space-self Mem = refl
same_space-self Io = refl
same_space-self Cfg = refl

-- the address lies between the two ends
pub record Inside (address base limit : ℕ) : Type 0 where
  pub from : base ≤ address
  pub to : address ≤ limit

-- what a range that holds an address is
pub record Holds (space : Space) (address : ℕ) (range : Range) : Type 0 where
  pub in_space : range.space ≡ space
  pub inside : Inside address range.base (last_of range)

span_of : (address base size : ℕ) (s : Bool) → (s && leb base address && ltb address (base + size)) ≡ true → (s ≡ true) × Inside address base (base + (size - 1))
span_of address base size s holds =
    let first = and_parts (s && leb base address) (ltb address (base + size)) holds in
    let second = and_parts s (leb base address) first.0 in
    let below : address < base + size = grind (arith, nat_tests) in
    let above : base ≤ address = grind (arith, nat_tests) in
    (second.0, record { from = above; to = omega arith })

pub Holds-range : (space : Space) (address : ℕ) (range : Range) → range_holds space address range ≡ true → Holds space address range
Holds-range space address range holds =
    let parts = span_of address range.base range.size (same_space range.space space) holds in
    record { in_space = same_space-true range.space space parts.0; inside = parts.1 }

-- two spans that hold an address meet
spans-meet : (address base limit other_base other_limit : ℕ) → Inside address base limit → Inside address other_base other_limit → spans_meet base limit other_base other_limit ≡ true
spans-meet address base limit other_base other_limit a b =
    let p : base ≤ other_limit = omega (arith, a.from, b.to) in
    let q : other_base ≤ limit = omega (arith, b.from, a.to) in
    grind (arith, nat_tests)

pub ranges-meet : (space : Space) (address : ℕ) (a b : Range) → range_holds space address a ≡ true → range_holds space address b ≡ true → ranges_meet a b ≡ true
ranges-meet space address a b holds_a holds_b =
    let p : Holds space address a = Holds-range space address a holds_a in
    let q : Holds space address b = Holds-range space address b holds_b in
    let same : same_space a.space b.space ≡ true = rw (p.in_space, q.in_space) (same_space-self space) in
    let meet : spans_meet a.base (last_of a) b.base (last_of b) ≡ true = spans-meet address a.base (last_of a) b.base (last_of b) p.inside q.inside in
    rw same meet

-- what a window that holds an address is
pub inside_window : (address : ℕ) (window : Window) → window_holds address (Some window) ≡ true → Inside address window.base window.limit
inside_window address window holds =
    let parts = and_parts (leb window.base address) (leb address window.limit) holds in
    let from : window.base ≤ address = grind (arith, nat_tests) in
    let to : address ≤ window.limit = grind (arith, nat_tests) in
    record { from = from; to = to }

window-meets : (address base limit : ℕ) (window : Option Window) → Inside address base limit → window_holds address window ≡ true → window_meets window base limit ≡ true
window-meets address base limit None inside holds = cc
window-meets address base limit (Some window) inside holds = spans-meet address window.base window.limit base limit (inside_window address window holds) inside

windows-meet : (address : ℕ) (a b : Option Window) → window_holds address a ≡ true → window_holds address b ≡ true → windows_meet a b ≡ true
windows-meet address None b holds_a holds_b = cc
windows-meet address (Some a) b holds_a holds_b = window-meets address a.base a.limit b (inside_window address a holds_a) holds_b

-- a window that covers the span holds the address
window-covers : (address base limit : ℕ) (window : Option Window) → Inside address base limit → window_covers base limit window ≡ true → window_holds address window ≡ true
window-covers address base limit None inside covers = cc
window-covers address base limit (Some window) inside covers =
    let parts = and_parts (leb window.base base) (leb limit window.limit) covers in
    let from : window.base ≤ address = grind (arith, nat_tests, inside) in
    let to : address ≤ window.limit = grind (arith, nat_tests, inside) in
    grind (arith, nat_tests)

either_covers : (address base limit : ℕ) (a b : Option Window) → Inside address base limit → (window_covers base limit a || window_covers base limit b) ≡ true → (window_holds address a || window_holds address b) ≡ true
either_covers address base limit a b inside covers =
    ⊎_elim {C = (window_holds address a || window_holds address b) ≡ true}
    (λ first. or_left (window_holds address a) (window_holds address b) (window-covers address base limit a inside first))
    (λ second. or_right (window_holds address a) (window_holds address b) (window-covers address base limit b inside second))
    (or_cases (window_covers base limit a) (window_covers base limit b) covers)

pub bridge-covers : (space : Space) (address base limit : ℕ) (bridge : Bridge) → Inside address base limit → bridge_covers space base limit bridge ≡ true → bridge_holds space address bridge ≡ true
bridge-covers Mem address base limit bridge inside covers = either_covers address base limit bridge.mem bridge.pref inside covers
bridge-covers Io address base limit bridge inside covers = window-covers address base limit bridge.io inside covers
bridge-covers Cfg address base limit bridge inside covers = cc

either_meets : (address base limit : ℕ) (a b : Option Window) → Inside address base limit → (window_holds address a || window_holds address b) ≡ true → (window_meets a base limit || window_meets b base limit) ≡ true
either_meets address base limit a b inside holds =
    ⊎_elim {C = (window_meets a base limit || window_meets b base limit) ≡ true}
    (λ first. or_left (window_meets a base limit) (window_meets b base limit) (window-meets address base limit a inside first))
    (λ second. or_right (window_meets a base limit) (window_meets b base limit) (window-meets address base limit b inside second))
    (or_cases (window_holds address a) (window_holds address b) holds)

meets_space : (space : Space) (address : ℕ) (range : Range) (bridge : Bridge) → Inside address range.base (last_of range) → bridge_holds space address bridge ≡ true → meets_in space range bridge ≡ true
meets_space Mem address range bridge inside holds = either_meets address range.base (last_of range) bridge.mem bridge.pref inside holds
meets_space Io address range bridge inside holds = window-meets address range.base (last_of range) bridge.io inside holds
meets_space Cfg address range bridge inside holds = cc

pub range-meets : (space : Space) (address : ℕ) (range : Range) (bridge : Bridge) → range_holds space address range ≡ true → bridge_holds space address bridge ≡ true → meets_in range.space range bridge ≡ true
range-meets space address range bridge holds_range holds =
    let p : Holds space address range = Holds-range space address range holds_range in
    subst (λ s. meets_in s range bridge ≡ true) (sym p.in_space) (meets_space space address range bridge p.inside holds)

-- two bridges, each with a window that holds the address
one_of_four : (a b c d : Option Window) (address : ℕ) → (window_holds address a || window_holds address b) ≡ true → (window_holds address c || window_holds address d) ≡ true
    → (windows_meet a c || windows_meet a d || windows_meet b c || windows_meet b d) ≡ true
one_of_four a b c d address first second =
    let Goal : Type 0 = (windows_meet a c || windows_meet a d || windows_meet b c || windows_meet b d) ≡ true in
    ⊎_elim {C = Goal}
    (λ in_a. ⊎_elim {C = Goal}
    (λ in_c. let meet : windows_meet a c ≡ true = windows-meet address a c in_a in_c in rw meet refl)
    (λ in_d. let meet : windows_meet a d ≡ true = windows-meet address a d in_a in_d in or_left _ _ (or_left _ _ (or_right _ _ meet)))
    (or_cases (window_holds address c) (window_holds address d) second))
    (λ in_b. ⊎_elim {C = Goal}
    (λ in_c. let meet : windows_meet b c ≡ true = windows-meet address b c in_b in_c in or_left _ _ (or_right _ _ meet))
    (λ in_d. let meet : windows_meet b d ≡ true = windows-meet address b d in_b in_d in or_right _ _ meet)
    (or_cases (window_holds address c) (window_holds address d) second))
    (or_cases (window_holds address a) (window_holds address b) first)

windows_of_both : (space : Space) (address : ℕ) (a b : Bridge) → bridge_holds space address a ≡ true → bridge_holds space address b ≡ true
    → (windows_meet a.mem b.mem || windows_meet a.mem b.pref || windows_meet a.pref b.mem || windows_meet a.pref b.pref || windows_meet a.io b.io) ≡ true
windows_of_both Mem address a b holds_a holds_b = or_left _ _ (one_of_four a.mem a.pref b.mem b.pref address holds_a holds_b)
windows_of_both Io address a b holds_a holds_b = or_right _ _ (windows-meet address a.io b.io holds_a holds_b)
windows_of_both Cfg address a b holds_a holds_b = cc

pub bridges-meet : (bus : ℕ) (space : Space) (address : ℕ) (a b : Bridge) → decodes_down bus space address a ≡ true → decodes_down bus space address b ≡ true → bridges_meet a b ≡ true
bridges-meet bus space address a b down_a down_b =
    let first = and_parts (eqb a.parent bus) (bridge_holds space address a) down_a in
    let second = and_parts (eqb b.parent bus) (bridge_holds space address b) down_b in
    let same : eqb a.parent b.parent ≡ true = grind (arith, nat_tests) in
    and_from _ _ same (windows_of_both space address a b first.1 second.1)

-- what some element passes
any_weaker : {X : Type 0} (p q : X → Bool) → ((x : X) → p x ≡ true → q x ≡ true) → (xs : List X) → list_any p xs ≡ true → list_any q xs ≡ true
any_weaker p q weaker [] any = cc
any_weaker p q weaker (x ∷ xs) any =
    ⊎_elim {C = (q x || list_any q xs) ≡ true}
    (λ here. or_left (q x) (list_any q xs) (weaker x here))
    (λ later. or_right (q x) (list_any q xs) (any_weaker p q weaker xs later))
    (or_cases (p x) (list_any p xs) any)

pub targets-meet : (bus : ℕ) (space : Space) (address : ℕ) (a b : Target) → decodes bus space address a ≡ true → decodes bus space address b ≡ true → targets_meet a b ≡ true
targets-meet bus space address a b of_a of_b =
    let holds : Range → Bool = range_holds space address in
    let first = and_parts (eqb a.bus bus) (list_any holds a.ranges) of_a in
    let second = and_parts (eqb b.bus bus) (list_any holds b.ranges) of_b in
    let same : eqb a.bus b.bus ≡ true = grind (arith, nat_tests) in
    let meets : Range → Bool = λ range. list_any (ranges_meet range) b.ranges in
    let each : (range : Range) → holds range ≡ true → meets range ≡ true =
    λ range holds_range. any_weaker holds (ranges_meet range) (λ other holds_other. ranges-meet space address range other holds_range holds_other) b.ranges second.1 in
    and_from _ _ same (any_weaker holds meets each a.ranges first.1)

-- a target and a bridge below its bus
pub child-meets : (bus : ℕ) (space : Space) (address : ℕ) (target : Target) (bridge : Bridge) → decodes bus space address target ≡ true → decodes_down bus space address bridge ≡ true → child_meets target bridge ≡ true
child-meets bus space address target bridge of_target down =
    let holds : Range → Bool = range_holds space address in
    let first = and_parts (eqb target.bus bus) (list_any holds target.ranges) of_target in
    let second = and_parts (eqb bridge.parent bus) (bridge_holds space address bridge) down in
    let same : eqb bridge.parent target.bus ≡ true = grind (arith, nat_tests) in
    let meets : Range → Bool = λ range. meets_in range.space range bridge in
    and_from _ _ same (any_weaker holds meets (λ range holds_range. range-meets space address range bridge holds_range second.1) target.ranges first.1)
