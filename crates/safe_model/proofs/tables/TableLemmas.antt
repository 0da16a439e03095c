-- By a greater table more is known: so the greater of two consistent tables is consistent.
use Rattle.std.proofs.Common.{◌≡◌, ℕ, zero, suc, ◌+◌, ◌<◌, ◌≤◌, Bool, true, false, eqb, cond, nat_lt, refl, arith, ◌⊎◌, inl, inr, ⊎_elim}
use Rattle.std.proofs.lemmas.Bool.Decides.{nat_tests}
use Rattle.pci_command.specs.declared.op_id.OpId.{OpId}
use Rattle.board_model.specs.declared.op.Want.{Want}
use Rattle.board_model.specs.declared.board.Board.{Board}
use Rattle.board_model.specs.Requests.{op_of}
use Rattle.board_model.specs.Ways.{Dword}
use Rattle.history_model.specs.Words.{opens_as}
use Rattle.safe_model.specs.Raisers.{is_met_by, Firm, Raises}
use Rattle.safe_model.specs.Clocks.{Table, is_poll, at_place, known_by, greater, raised, clock_of, clock_with, IsBefore, LandsNoMore, lands_once, stands_before, had_ended, WritesBefore, LeftOut, OpensOut, IsKnown, IsConsistent}
use Rattle.safe_model.specs.Clocks.{greater_of}

-- a table says of each poll at most what the other says
abbrev pub AtMost : Board → Table → Table → Type 0
AtMost board s t = (master index : ℕ) → is_poll (op_of board (at_place master index)) ≡ true → (other : ℕ) → s master index other ≤ t master index other

pub greater_first : (a b : ℕ) → a ≤ greater a b
greater_first a b =
    let P : Bool → Type 0 = λ t. nat_lt a b ≡ t → a ≤ cond t b a in
    (elim (nat_lt a b) as P [ true ↦ λ less. let more : a < b = grind (arith, nat_tests) in omega (arith, more) | false ↦ λ _. omega arith ]) refl

pub greater_second : (a b : ℕ) → b ≤ greater a b
greater_second a b =
    let P : Bool → Type 0 = λ t. nat_lt a b ≡ t → b ≤ cond t b a in
    (elim (nat_lt a b) as P [ true ↦ λ _. omega arith | false ↦ λ none. let most : b ≤ a = grind (arith, nat_tests) in most ]) refl

pub greater_least : (a b c : ℕ) → a ≤ c → b ≤ c → greater a b ≤ c
greater_least a b c first second =
    let P : Bool → Type 0 = λ t. cond t b a ≤ c in
    elim (nat_lt a b) as P [ true ↦ second | false ↦ first ]

raised_more : (s t : ℕ → ℕ) (master count other : ℕ) → s other ≤ t other → raised s master count other ≤ raised t master count other
raised_more s t master count other more =
    let P : Bool → Type 0 = λ b. cond b (greater (s other) count) (s other) ≤ cond b (greater (t other) count) (t other) in
    let first = greater_first (t other) count in
    elim (eqb other master) as P [
      | true ↦ greater_least (s other) count (greater (t other) count) (omega (arith, more, first)) (greater_second (t other) count)
      | false ↦ more
    ]

module _ (board : Board) (s t : Table) (more : AtMost board s t) where
  pub known_more : (master index other : ℕ) → known_by board s master index other ≤ known_by board t master index other
  known_more master zero other = omega arith
  known_more master (suc index) other =
      let P : Bool → Type 0 = λ b. is_poll (op_of board (at_place master index)) ≡ b → cond b (s master index) (known_by board s master index) other ≤ cond b (t master index) (known_by board t master index) other in
      (elim (is_poll (op_of board (at_place master index))) as P [ true ↦ λ is. more master index is other | false ↦ λ _. known_more master index other ]) refl

  pub clock_more : (o : OpId) (other : ℕ) → clock_of board s o other ≤ clock_of board t o other
  clock_more o other = raised_more (known_by board s o.master o.index) (known_by board t o.master o.index) o.master o.index other (known_more o.master o.index other)

  pub with_more : (o : OpId) (other : ℕ) → clock_with board s o other ≤ clock_with board t o other
  with_more o other = raised_more (known_by board s o.master o.index) (known_by board t o.master o.index) o.master (o.index + 1) other (known_more o.master o.index other)

  pub before_more : (p q : OpId) → IsBefore board s p q → IsBefore board t p q
  before_more p q is = let most = clock_more q p.master in omega (arith, is, most)

  no_more_more : (a b : OpId) → LandsNoMore board s a b → LandsNoMore board t a b
  no_more_more a b (lands_once posted is) = lands_once posted (before_more a b is)
  no_more_more a b (stands_before masters below) = stands_before masters below
  no_more_more a b (had_ended is) = had_ended (before_more (at_place a.master (a.index + 1)) b is)

  writes_more : (p : OpId) (word : Dword) (x : OpId) → WritesBefore board s p word x → WritesBefore board t p word x
  writes_more p word x is = record { writes = is.writes; brings = is.brings; before = before_more x p is.before }

  pub left_more : (p : OpId) (word : Dword) (f : OpId) → LeftOut board s p word f → LeftOut board t p word f
  left_more p word f is = record { x = is.x; earlier = writes_more p word is.x is.earlier; other = is.other; no_more = no_more_more f is.x is.no_more }

  pub opens_more : (p : OpId) (want : Want) (word : Dword) → OpensOut board s p want word → OpensOut board t p want word
  opens_more p want word is =
      ⊎_elim {C = OpensOut board t p want word}
      (λ (none : is_met_by want (opens_as board word) ≡ false). inl none)
      (λ (some : (x : OpId) × WritesBefore board s p word x). inr (some.0, writes_more p word some.0 some.1)) is

  -- so what is known by the one is known by the other
  pub is_known_more : (p : OpId) (want : Want) (other : ℕ) → t p.master p.index other ≤ s p.master p.index other → IsKnown board s p want other → IsKnown board t p want other
  is_known_more p want other same is =
      ⊎_elim {C = IsKnown board t p want other}
      (λ (own : s p.master p.index other ≤ clock_of board s p other). let most = clock_more p other in inl (omega (arith, same, own, most)))
      (λ (firm : (word : Dword) × Firm board p want word × OpensOut board s p want word × ((f : OpId) → Raises board want word f → LeftOut board s p word f ⊎ (s p.master p.index other ≤ clock_with board s f other))).
      inr (
        firm.0,
        firm.1,
        opens_more p want firm.0 firm.2,
        λ f raises.
            ⊎_elim {C = LeftOut board t p firm.0 f ⊎ (t p.master p.index other ≤ clock_with board t f other)}
            (λ (left : LeftOut board s p firm.0 f). inl (left_more p firm.0 f left))
            (λ (known : s p.master p.index other ≤ clock_with board s f other). let most = with_more f other in inr (omega (arith, same, known, most)))
            (firm.3 f raises),
      ))
      is

pub greater_consistent : (board : Board) (a b : Table) → IsConsistent board a → IsConsistent board b → IsConsistent board (greater_of a b)
greater_consistent board a b of_a of_b p want awaits other =
    let here : ℕ = a p.master p.index other in
    let there : ℕ = b p.master p.index other in
    let P : Bool → Type 0 = λ t. nat_lt here there ≡ t → cond t there here ≡ greater here there → IsKnown board (greater_of a b) p want other in
    (elim (nat_lt here there) as P [
      | true ↦ λ _ is. is_known_more board b (greater_of a b) (λ m i _ o. greater_second (a m i o) (b m i o)) p want other (omega (arith, is)) (of_b p want awaits other)
      | false ↦ λ _ is. is_known_more board a (greater_of a b) (λ m i _ o. greater_first (a m i o) (b m i o)) p want other (omega (arith, is)) (of_a p want awaits other)
    ]) refl refl
