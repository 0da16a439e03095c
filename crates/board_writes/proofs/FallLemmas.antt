-- Where the numbers of one row fall, all else stays.
use Rattle.std.proofs.Common.{◌≡◌, ◌≢◌, ℕ, ◌+◌, ◌<◌, ◌≤◌, Bool, true, false, ◌&&◌, cond, eqb, eqb-true, nat_lt, List, [], length, get_or, refl, sym, ap, subst, ◌∙◌, arith, ⊎_elim, ◌⊎◌, inl, inr}
use Rattle.std.proofs.Math.ListN.{set, get_or-eq_default}
use Rattle.std.proofs.lemmas.Bool.Decides.{nat_tests}
use Rattle.std.proofs.lemmas.List.{get_or-set_same, get_or-set_other, set-get_or}
use Rattle.std.proofs.lemmas.List.Sums.{sum_by-set}
use Rattle.pci_command.specs.declared.op_id.OpId.{OpId}
use Rattle.board_writes.specs.Rows.{number, ProgramRows, no_rows, rows_of, last_in, lesser}
use Rattle.board_writes.specs.Falls.{sum_of, sum_in, sum_all, row_in, Falls, FallsIn, LowersTo}

-- A row, number by number.

-- the first so many numbers fell
pub record FallsTo (most old now : List ℕ) (fell : Bool) (count : ℕ) : Type 0 where
  pub within : count ≤ length most
  pub done : (i : ℕ) → i < count → number now i ≡ lesser (number old i) (number most i)
  pub left : (i : ℕ) → count ≤ i → number now i ≡ number old i
  pub some : fell ≡ true → sum_of now < sum_of old
  pub none : fell ≡ false → now ≡ old

pub falls_start : (most old : List ℕ) → FallsTo most old old false 0
falls_start most old =
    record {
      within = omega arith;
      done = λ i below. absurd (omega (arith, below));
      left = λ i _. refl;
      some = λ e. cc;
      none = λ _. refl;
    }

pub falls_all : (most old now : List ℕ) (fell : Bool) (count : ℕ) → length most ≤ count → FallsTo most old now fell count → Falls most old now fell
falls_all most old now fell count past falls =
    let within = falls.within in
    let same : count ≡ length most = omega (arith, past, within) in
    record {
      each = λ i below. falls.done i (omega (arith, below, same));
      rest = λ i beyond. falls.left i (omega (arith, beyond, same));
      some = falls.some;
      none = falls.none;
    }

lesser_less : (a b : ℕ) → b < a → lesser a b ≡ b
lesser_less a b less = let is : nat_lt b a ≡ true = grind (arith, nat_tests) in ap (λ t. cond t b a) is

lesser_kept : (a b : ℕ) → a ≤ b → lesser a b ≡ a
lesser_kept a b kept = let is : nat_lt b a ≡ false = grind (arith, nat_tests) in ap (λ t. cond t b a) is

pub lesser_most : (a b : ℕ) → lesser a b ≤ a
lesser_most a b =
    let P : Bool → Type 0 = λ t. nat_lt b a ≡ t → cond t b a ≤ a in
    (elim (nat_lt b a) as P [
      | true ↦ λ is. let less : b < a = grind (arith, nat_tests) in omega (arith, less)
      | false ↦ λ _. omega arith
    ]) refl

pub below_lesser : (x a b : ℕ) → x ≤ a → x ≤ b → x ≤ lesser a b
below_lesser x a b first second =
    let P : Bool → Type 0 = λ t. x ≤ cond t b a in
    elim (nat_lt b a) as P [ true ↦ second | false ↦ first ]

module _ (most old now : List ℕ) (fell : Bool) (count n : ℕ) (falls : FallsTo most old now fell count) (there : count < length most) (is : n ≡ number most count) where
  next_place : (i : ℕ) → i < count + 1 → (i < count) ⊎ (i ≡ count)
  next_place i below =
      let P : Bool → Type 0 = λ t. nat_lt i count ≡ t → (i < count) ⊎ (i ≡ count) in
      (elim (nat_lt i count) as P [
        | true ↦ λ lt. inl (grind (arith, nat_tests))
        | false ↦ λ ge. let past : count ≤ i = grind (arith, nat_tests) in inr (omega (arith, below, past))
      ]) refl

  -- the next one falls
  pub falls_next : count < length now → n < number now count → FallsTo most old (set now count n) true (count + 1)
  falls_next inside less =
      let was : number now count ≡ number old count = falls.left count (omega arith) in
      let placed : number (set now count n) count ≡ n = get_or-set_same now count n 0 inside in
      let total : sum_of (set now count n) + number now count ≡ sum_of now + n = sum_by-set (λ m. m) now count n 0 inside in
      let before : sum_of now ≤ sum_of old = (
      let P : Bool → Type 0 = λ t. fell ≡ t → sum_of now ≤ sum_of old in
      (elim fell as P [
        | true ↦ λ e. let lost = falls.some e in omega (arith, lost)
        | false ↦ λ e. let same : sum_of now ≡ sum_of old = ap sum_of (falls.none e) in omega (arith, same)
      ]) refl) in
      record {
        within = omega (arith, there);
        done = λ i below. ⊎_elim {C = number (set now count n) i ≡ lesser (number old i) (number most i)}
            (λ (earlier : i < count). get_or-set_other now count i n 0 (omega (arith, earlier)) ∙ falls.done i earlier)
            (λ (at : i ≡ count).
            let here : number (set now count n) count ≡ lesser (number old count) (number most count) =
            placed ∙ is ∙ sym (lesser_less (number old count) (number most count) (omega (arith, less, was, is))) in
            subst (λ k. number (set now count n) k ≡ lesser (number old k) (number most k)) (sym at) here)
            (next_place i below);
        left = λ i beyond. get_or-set_other now count i n 0 (omega (arith, beyond)) ∙ falls.left i (omega (arith, beyond));
        some = λ _. omega (arith, total, less, before);
        none = λ e. cc;
      }

  -- or it is low enough, or there is none
  falls_stays : number now count ≤ n → FallsTo most old now fell (count + 1)
  falls_stays low =
      let was : number now count ≡ number old count = falls.left count (omega arith) in
      record {
        within = omega (arith, there);
        done = λ i below. ⊎_elim {C = number now i ≡ lesser (number old i) (number most i)}
            (λ (earlier : i < count). falls.done i earlier)
            (λ (at : i ≡ count).
            let here : number now count ≡ lesser (number old count) (number most count) = was ∙ sym (lesser_kept (number old count) (number most count) (omega (arith, low, was, is))) in
            subst (λ k. number now k ≡ lesser (number old k) (number most k)) (sym at) here)
            (next_place i below);
        left = λ i beyond. falls.left i (omega (arith, beyond));
        some = falls.some;
        none = falls.none;
      }

  pub falls_low : nat_lt n (number now count) ≡ false → FallsTo most old now fell (count + 1)
  falls_low test = falls_stays (grind (arith, nat_tests))

  pub falls_past : length now ≤ count → FallsTo most old now fell (count + 1)
  falls_past beyond =
      let none : number now count ≡ 0 = get_or-eq_default now 0 beyond in
      falls_stays (omega (arith, none))

-- A program, and all programs.

pub set_there : {X : Type 0} (xs : List X) (i j : ℕ) (x d : X) → eqb j i ≡ false → get_or (set xs i x) j d ≡ get_or xs j d
set_there xs i j x d differ = let other : j ≢ i = grind (arith, nat_tests) in get_or-set_other xs i j x d other

-- nothing falls where there is no row
falls_nowhere : (most : List ℕ) → Falls most [] [] false
falls_nowhere most =
    record {
      each = λ i _. sym (lesser_kept 0 (number most i) (omega arith));
      rest = λ i _. refl;
      some = λ e. cc;
      none = λ _. refl;
    }

pub program_falls : (most : List ℕ) (program : ProgramRows) (index : ℕ) (row : List ℕ) (fell : Bool) → index < length program.rows → Falls most (row_in program index) row fell → FallsIn index most program (record program { rows = set program.rows index row }) fell
program_falls most program index row fell inside falls =
    let new : ProgramRows = record program { rows = set program.rows index row } in
    let placed : row_in new index ≡ row = get_or-set_same program.rows index row [] inside in
    let total : sum_in new + sum_of (row_in program index) ≡ sum_in program + sum_of row = sum_by-set sum_of program.rows index row [] inside in
    record {
      here = subst (λ r. Falls most (row_in program index) r fell) (sym placed) falls;
      elsewhere = λ place differ. set_there program.rows index place row [] differ;
      lasts = λ place. refl;
      some = λ e. let lost = falls.some e in omega (arith, total, lost);
      none = λ e. ap (λ rs. record program { rows = rs }) (ap (λ r. set program.rows index r) (falls.none e) ∙ set-get_or program.rows index []);
    }

pub program_stays : (most : List ℕ) (program : ProgramRows) (index : ℕ) → length program.rows ≤ index → FallsIn index most program program false
program_stays most program index beyond =
    let nothing : row_in program index ≡ [] = get_or-eq_default program.rows [] beyond in
    record {
      here = subst (λ r. Falls most r r false) (sym nothing) (falls_nowhere most);
      elsewhere = λ place _. refl;
      lasts = λ place. refl;
      some = λ e. cc;
      none = λ _. refl;
    }

pub programs_fall : (o : OpId) (most : List ℕ) (old : List ProgramRows) (program : ProgramRows) (fell : Bool) → o.master < length old → FallsIn o.index most (rows_of old o.master) program fell → LowersTo o most old (set old o.master program) fell
programs_fall o most old program fell inside falls =
    let new : List ProgramRows = set old o.master program in
    let placed : rows_of new o.master ≡ program = get_or-set_same old o.master program no_rows inside in
    let total : sum_all new + sum_in (rows_of old o.master) ≡ sum_all old + sum_in program = sum_by-set sum_in old o.master program no_rows inside in
    record {
      here = subst (λ (p : ProgramRows). Falls most (row_in (rows_of old o.master) o.index) (row_in p o.index) fell) (sym placed) falls.here;
      elsewhere = λ master index differ.
          let P : Bool → Type 0 = λ b. eqb master o.master ≡ b → (b && eqb index o.index) ≡ false → row_in (rows_of new master) index ≡ row_in (rows_of old master) index in
          (elim (eqb master o.master) as P [
            | true ↦ λ same apart.
                let one : o.master ≡ master = sym (eqb-true master o.master same) in
                let inside_it : row_in (rows_of new o.master) index ≡ row_in (rows_of old o.master) index = ap (λ (p : ProgramRows). row_in p index) placed ∙ falls.elsewhere index apart in
                subst (λ m. row_in (rows_of new m) index ≡ row_in (rows_of old m) index) one inside_it
            | false ↦ λ far _. ap (λ (p : ProgramRows). row_in p index) (set_there old o.master master program no_rows far)
          ]) refl differ;
      lasts = λ master index.
          let P : Bool → Type 0 = λ b. eqb master o.master ≡ b → last_in (rows_of new master) index ≡ last_in (rows_of old master) index in
          (elim (eqb master o.master) as P [
            | true ↦ λ same.
                let one : o.master ≡ master = sym (eqb-true master o.master same) in
                subst (λ m. last_in (rows_of new m) index ≡ last_in (rows_of old m) index) one (ap (λ (p : ProgramRows). last_in p index) placed ∙ falls.lasts index)
            | false ↦ λ far. ap (λ (p : ProgramRows). last_in p index) (set_there old o.master master program no_rows far)
          ]) refl;
      some = λ e. let lost = falls.some e in omega (arith, total, lost);
      none = λ e. ap (λ (p : ProgramRows). set old o.master p) (falls.none e) ∙ set-get_or old o.master no_rows;
    }

pub programs_stay : (o : OpId) (most : List ℕ) (old : List ProgramRows) → length old ≤ o.master → LowersTo o most old old false
programs_stay o most old beyond =
    let nothing : rows_of old o.master ≡ no_rows = get_or-eq_default old no_rows beyond in
    record {
      here = subst (λ (p : ProgramRows). Falls most (row_in p o.index) (row_in p o.index) false) (sym nothing) (program_stays most no_rows o.index (omega arith)).here;
      elsewhere = λ master index _. refl;
      lasts = λ master index. refl;
      some = λ e. cc;
      none = λ _. refl;
    }

-- What each function wants.

pub ruleset of_row = (falls_start, falls_next, falls_low, falls_past, falls_all)

pub ruleset of_program = (program_falls, program_stays)

pub ruleset of_programs = (programs_fall, programs_stay)
