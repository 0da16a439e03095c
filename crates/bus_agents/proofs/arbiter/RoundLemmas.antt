-- A round of grants, step by step round the circle.
use Rattle.std.proofs.Common.{◌≡◌, ℕ, zero, suc, ◌+◌, ◌-◌, ◌%◌, ◌^◌, ◌<◌, ◌≤◌, ◌≢◌, ◌==◌, Bool, false, List, [], ◌∷◌, All, length, count_by, cond, count_ones, refl, ap, subst, eq-eqb, arith, inl, inr}
use Rattle.std.proofs.lemmas.Bool.{cases_lt}
use Rattle.std.proofs.lemmas.Bool.Decides.{eqb_tells}
use Rattle.std.proofs.lemmas.List.Elements.{All-cons}
use Rattle.std.proofs.lemmas.List.Sums.{sum_by-cons}
use Rattle.std.proofs.lemmas.Nat.Bits.{bit_at-lt, bit_at_above}
use Rattle.std.specs.Int.{bit_at}
use Rattle.board_model.specs.Limits.{request_lines}
use Rattle.bus_agents.specs.arbiter.Grant.{Asks, IsGranted, Grants, EachOnce, steps_to, line_behind}
use Rattle.bus_agents.proofs.arbiter.CountLemmas.{asking_round, asking_round-suc, asking_round-zero, asking_round-all}

-- the steps that are left to a line which has not been passed
steps_to-ahead : (start passed line : ℕ) → start < request_lines → passed ≤ request_lines → line < request_lines → passed ≤ steps_to start line
    → steps_to ((start + passed) % request_lines) line ≡ steps_to start line - passed
steps_to-ahead start passed line s p l reached = omega arith

-- and to one that has
steps_to-behind : (start passed line : ℕ) → start < request_lines → passed ≤ request_lines → line < request_lines → steps_to start line < passed
    → steps_to ((start + passed) % request_lines) line ≡ steps_to start line + request_lines - passed
steps_to-behind start passed line s p l before = omega arith

steps_to-back : (start steps : ℕ) → start < request_lines → steps < request_lines → steps_to start ((start + steps) % request_lines) ≡ steps
steps_to-back start steps s h = omega arith

back-steps_to : (start line : ℕ) → start < request_lines → line < request_lines → (start + steps_to start line) % request_lines ≡ line
back-steps_to start line s l = omega arith

-- where no line asks on the way, the count stays
asking_round-idle : (lines start passed more : ℕ) → ((steps : ℕ) → passed ≤ steps → steps < passed + more → Asks lines ((start + steps) % request_lines) → ⊥)
    → asking_round lines start (passed + more) ≡ asking_round lines start passed
asking_round-idle lines start passed zero idle = ap (asking_round lines start) (omega arith)
asking_round-idle lines start passed (suc more) idle =
    let before : asking_round lines start (passed + more) ≡ asking_round lines start passed = asking_round-idle lines start passed more (λ steps low high. idle steps low (omega arith)) in
    let last : bit_at lines ((start + (passed + more)) % request_lines) ≢ 1 = idle (passed + more) (omega arith) (omega arith) in
    let whole : asking_round lines start (passed + suc more) ≡ asking_round lines start (suc (passed + more)) = ap (asking_round lines start) (omega arith) in
    omega (arith, asking_round-suc lines start (passed + more), bit_at-lt lines ((start + (passed + more)) % request_lines))

-- the count never falls
asking_round-more : (lines start passed more : ℕ) → asking_round lines start passed ≤ asking_round lines start (passed + more)
asking_round-more lines start passed zero =
    let same : asking_round lines start (passed + 0) ≡ asking_round lines start passed = ap (asking_round lines start) (omega arith) in
    omega arith
asking_round-more lines start passed (suc more) =
    let whole : asking_round lines start (passed + suc more) ≡ asking_round lines start (suc (passed + more)) = ap (asking_round lines start) (omega arith) in
    omega (arith, asking_round-more lines start passed more, asking_round-suc lines start (passed + more))

-- a line that asks is counted once it is passed
asking_round-at : (lines start line : ℕ) → start < request_lines → line < request_lines → Asks lines line
    → asking_round lines start (suc (steps_to start line)) ≡ suc (asking_round lines start (steps_to start line))
asking_round-at lines start line s l asks =
    let there : bit_at lines ((start + steps_to start line) % request_lines) ≡ bit_at lines line = ap (bit_at lines) (back-steps_to start line s l) in
    omega (arith, asking_round-suc lines start (steps_to start line))

-- what one grant does, where some line that asks has not been passed
record Step (lines start passed line : ℕ) : Type 0 where
  reached : passed ≤ steps_to start line
  counted : asking_round lines start (suc (steps_to start line)) ≡ suc (asking_round lines start passed)
  moved : line_behind line ≡ (start + suc (steps_to start line)) % request_lines

step : (lines start passed line : ℕ) → start < request_lines → passed ≤ request_lines → IsGranted ((start + passed) % request_lines) lines line
    → asking_round lines start passed < asking_round lines start 32 → Step lines start passed line
step lines start passed line s p granted some =
    let reached : passed ≤ steps_to start line =
    elim (cases_lt (steps_to start line) passed) [
      | inl before ↦
          let idle : asking_round lines start (passed + (request_lines - passed)) ≡ asking_round lines start passed =
          asking_round-idle lines start passed (request_lines - passed) (λ steps low high asks.
          let nearer = granted.first ((start + steps) % request_lines) (omega arith) asks in
          omega (arith, nearer)) in
          let whole : asking_round lines start (passed + (request_lines - passed)) ≡ asking_round lines start 32 = ap (asking_round lines start) (omega arith) in
          omega arith
      | inr reached ↦ reached
    ] in
    let idle : asking_round lines start (passed + (steps_to start line - passed)) ≡ asking_round lines start passed =
    asking_round-idle lines start passed (steps_to start line - passed) (λ steps low high asks.
    let nearer = granted.first ((start + steps) % request_lines) (omega arith) asks in
    omega (arith, nearer)) in
    let there : asking_round lines start (passed + (steps_to start line - passed)) ≡ asking_round lines start (steps_to start line) = ap (asking_round lines start) (omega arith) in
    record {
      reached = reached;
      counted = omega (arith, asking_round-at lines start line s granted.is_line granted.asks);
      moved = let l = granted.is_line in omega arith;
    }

-- how many times a line is granted
unfoldable times : ℕ → List ℕ → ℕ
times line granted = count_by (λ other. other == line) granted

times-none : (line : ℕ) → times line [] ≡ 0
unfolding times
times-none line = refl

times-cons : (line other : ℕ) (later : List ℕ) → times line (other ∷ later) ≡ cond (other == line) 1 0 + times line later
unfolding times
times-cons line other later = sum_by-cons (λ x. cond (x == line) 1 0) other later

times-same : (line other : ℕ) (later : List ℕ) → other ≡ line → times line (other ∷ later) ≡ suc (times line later)
times-same line other later same =
    let one : cond {A = ℕ} (other == line) 1 0 ≡ 1 = ap (λ (b : Bool). cond {A = ℕ} b 1 0) (eq-eqb other line same) in
    omega (arith, times-cons line other later)

times-other : (line other : ℕ) (later : List ℕ) → (other == line) ≡ false → times line (other ∷ later) ≡ times line later
times-other line other later differs =
    let none : cond {A = ℕ} (other == line) 1 0 ≡ 0 = ap (λ (b : Bool). cond {A = ℕ} b 1 0) differs in
    omega (arith, times-cons line other later)

-- a line that has not been passed is granted once, and one that has is not granted
record Round (lines start passed line : ℕ) (granted : List ℕ) : Type 0 where
  ahead : passed ≤ steps_to start line → times line granted ≡ 1
  behind : steps_to start line < passed → times line granted ≡ 0

round : (lines start line : ℕ) → start < request_lines → line < request_lines → Asks lines line → (granted : List ℕ) (passed : ℕ) → passed ≤ request_lines
    → Grants ((start + passed) % request_lines) lines granted → length granted + asking_round lines start passed ≡ asking_round lines start 32 → Round lines start passed line granted
round lines start line s l asks [] passed p run whole =
    record {
      ahead = λ reached.
          let more : asking_round lines start passed ≤ asking_round lines start (passed + (steps_to start line - passed)) = asking_round-more lines start passed (steps_to start line - passed) in
          let here : asking_round lines start (passed + (steps_to start line - passed)) ≡ asking_round lines start (steps_to start line) = ap (asking_round lines start) (omega arith) in
          let rest : asking_round lines start (suc (steps_to start line)) ≤ asking_round lines start (suc (steps_to start line) + (request_lines - suc (steps_to start line))) = asking_round-more lines start (suc (steps_to start line)) (request_lines - suc (steps_to start line)) in
          let last : asking_round lines start (suc (steps_to start line) + (request_lines - suc (steps_to start line))) ≡ asking_round lines start 32 = ap (asking_round lines start) (omega arith) in
          absurd (omega (arith, asking_round-at lines start line s l asks));
      behind = λ before. times-none line;
    }
round lines start line s l asks (first ∷ later) passed p run whole =
    let made : Step lines start passed first = step lines start passed first s p run.0 (omega arith) in
    let next : ℕ = suc (steps_to start first) in
    let after : Grants ((start + suc (steps_to start first)) % request_lines) lines later = subst (λ (from : ℕ). Grants from lines later) made.moved run.1 in
    let rest : Round lines start (suc (steps_to start first)) line later = round lines start line s l asks later (suc (steps_to start first)) (omega arith) after (omega (arith, made.counted)) in
    record {
      ahead = λ reached.
          elim (eqb_tells first line) [
            | inl same ↦
                let passed_now : steps_to start line < suc (steps_to start first) = omega (arith, same.1) in
                omega (arith, times-same line first later same.1, rest.behind passed_now)
            | inr other ↦
                let nearer = run.0.first line l asks in
                let f : first < request_lines = run.0.is_line in
                let further : suc (steps_to start first) ≤ steps_to start line = omega (arith, nearer, other.1, made.reached) in
                omega (arith, times-other line first later other.0, rest.ahead further)
          ];
      behind = λ before.
          elim (eqb_tells first line) [
            | inl same ↦ absurd (omega (arith, same.1, made.reached))
            | inr other ↦ omega (arith, times-other line first later other.0, made.reached, rest.behind (omega (arith, made.reached)))
          ];
    }

grants-ask : (lines from : ℕ) (granted : List ℕ) → Grants from lines granted → All (Asks lines) granted
grants-ask lines from [] run = λ k d h. absurd (omega arith)
grants-ask lines from (line ∷ later) run = All-cons (Asks lines) line later run.0.asks (grants-ask lines (line_behind line) later run.1)

pub each_once : (lines start : ℕ) → lines < 2 ^ 32 → start < request_lines → (granted : List ℕ) → Grants start lines granted → length granted ≡ count_ones lines → EachOnce lines granted
unfolding times
each_once lines start fits s granted run whole =
    let begun : Grants ((start + 0) % request_lines) lines granted = (let here : start ≡ (start + 0) % request_lines = omega arith in subst (λ (from : ℕ). Grants from lines granted) here run) in
    let counted : length granted + asking_round lines start 0 ≡ asking_round lines start 32 =
    omega (arith, whole, asking_round-zero lines start, asking_round-all lines start fits (omega arith)) in
    record {
      once = λ line asks.
          elim (cases_lt line 32) [
            | inl l ↦ (round lines start line s l asks granted 0 (omega arith) begun counted).ahead (omega arith)
            | inr beyond ↦ absurd (omega (arith, asks, bit_at_above lines 32 line fits beyond))
          ];
      others = grants-ask lines start granted run;
    }
