-- Where one number falls, all others stay.
use Rattle.std.proofs.Common.{◌≡◌, ◌≢◌, ℕ, ◌<◌, ◌≤◌, Bool, true, false, ◌&&◌, cond, eqb, eqb-true, nat_lt, List, [], length, get_or, refl, sym, ap, subst, ◌∙◌, arith}
use Rattle.std.proofs.Math.ListN.{set, get_or-eq_default}
use Rattle.std.proofs.lemmas.Bool.Decides.{nat_tests}
use Rattle.std.proofs.lemmas.List.{get_or-set_same, get_or-set_other, set-get_or, set_past}
use Rattle.pci_command.specs.declared.op_id.OpId.{OpId}
use Rattle.board_writes.specs.Rows.{number, ProgramRows, no_rows, rows_of, table_of, last_in, lesser, lowered, lowered_in, LowersAt}

-- a row
pub row_past : (numbers : List ℕ) (master most : ℕ) → length numbers ≤ master → numbers ≡ lowered numbers master most
row_past numbers master most beyond = sym (set_past numbers master (lesser (number numbers master) most) beyond)

pub row_kept : (numbers : List ℕ) (master most : ℕ) → nat_lt most (number numbers master) ≡ false → numbers ≡ lowered numbers master most
row_kept numbers master most none =
    sym (ap (λ b. set numbers master (cond b most (number numbers master))) none ∙ set-get_or numbers master 0)

pub row_lower : (numbers : List ℕ) (master most : ℕ) → nat_lt most (number numbers master) ≡ true → set numbers master most ≡ lowered numbers master most
row_lower numbers master most less = sym (ap (λ b. set numbers master (cond b most (number numbers master))) less)

-- a program
pub program_past : (program : ProgramRows) (index other most : ℕ) → length program.rows ≤ index → program ≡ lowered_in program index other most
program_past program index other most beyond =
    ap (λ rs. record program { rows = rs }) (sym (set_past program.rows index (lowered (get_or program.rows index []) other most) beyond))

-- all programs
set_here : {X : Type 0} (xs : List X) (i : ℕ) (x d : X) → (length xs ≤ i → d ≡ x) → get_or (set xs i x) i d ≡ x
set_here xs i x d outside =
    let P : Bool → Type 0 = λ b. nat_lt i (length xs) ≡ b → get_or (set xs i x) i d ≡ x in
    (elim (nat_lt i (length xs)) as P [
      | true ↦ λ lt. get_or-set_same xs i x d (grind (arith, nat_tests))
      | false ↦ λ ge.
          let beyond : length xs ≤ i = grind (arith, nat_tests) in
          ap (λ ys. get_or ys i d) (set_past xs i x beyond) ∙ get_or-eq_default xs d beyond ∙ outside beyond
    ]) refl

set_there : {X : Type 0} (xs : List X) (i j : ℕ) (x d : X) → eqb j i ≡ false → get_or (set xs i x) j d ≡ get_or xs j d
set_there xs i j x d differ = let other : j ≢ i = grind (arith, nat_tests) in get_or-set_other xs i j x d other

lesser_none : (most : ℕ) → 0 ≡ lesser 0 most
lesser_none most =
    let none : nat_lt most 0 ≡ false = grind (arith, nat_tests) in
    sym (ap (λ b. cond b most 0) none)

module _ (o : OpId) (other most : ℕ) (old : List ProgramRows) where
  abbrev was : ProgramRows
  was = rows_of old o.master

  abbrev row : List ℕ
  row = get_or was.rows o.index []

  abbrev next : ProgramRows
  next = lowered_in was o.index other most

  number_is : number (lowered row other most) other ≡ lesser (number row other) most
  number_is = set_here row other (lesser (number row other) most) 0 (λ beyond. lesser_none most ∙ ap (λ n. lesser n most) (sym (get_or-eq_default row 0 beyond)))

  row_is : get_or next.rows o.index [] ≡ lowered row other most
  row_is = set_here was.rows o.index (lowered row other most) [] (λ beyond. ap (λ r. lowered r other most) (sym (get_or-eq_default was.rows [] beyond)))

  program_is : rows_of (set old o.master next) o.master ≡ next
  program_is = set_here old o.master next no_rows (λ beyond. ap (λ p. lowered_in p o.index other most) (sym (get_or-eq_default old no_rows beyond)))

  pub lowers : LowersAt o other most old (set old o.master next)
  lowers =
      record {
        here = ap (λ p. number (get_or p.rows o.index []) other) program_is ∙ ap (λ r. number r other) row_is ∙ number_is;
        elsewhere = λ master index author differ.
            let P : Bool → Type 0 = λ b. eqb master o.master ≡ b → (b && eqb index o.index && eqb author other) ≡ false → table_of (set old o.master next) master index author ≡ table_of old master index author in
            let Q : Bool → Type 0 = λ b. eqb index o.index ≡ b → (b && eqb author other) ≡ false → number (get_or next.rows index []) author ≡ number (get_or was.rows index []) author in
            (elim (eqb master o.master) as P [
              | true ↦ λ same rest.
                  let one : o.master ≡ master = sym (eqb-true master o.master same) in
                  let inside : number (get_or next.rows index []) author ≡ number (get_or was.rows index []) author = (elim (eqb index o.index) as Q [
                    | true ↦ λ at apart.
                        let place : o.index ≡ index = sym (eqb-true index o.index at) in
                        let there : number (get_or next.rows o.index []) author ≡ number row author = ap (λ r. number r author) row_is ∙ set_there row other author (lesser (number row other) most) 0 apart in
                        subst (λ i. number (get_or next.rows i []) author ≡ number (get_or was.rows i []) author) place there
                    | false ↦ λ far _. ap (λ r. number r author) (set_there was.rows o.index index (lowered row other most) [] far)
                  ]) refl rest in
                  let T : ℕ → Type 0 = λ m. table_of (set old o.master next) m index author ≡ table_of old m index author in
                  subst T one (ap (λ p. number (get_or p.rows index []) author) program_is ∙ inside)
              | false ↦ λ far _. ap (λ p. number (get_or p.rows index []) author) (set_there old o.master master next no_rows far)
            ]) refl differ;
        lasts = λ master index.
            let P : Bool → Type 0 = λ b. eqb master o.master ≡ b → last_in (rows_of (set old o.master next) master) index ≡ last_in (rows_of old master) index in
            (elim (eqb master o.master) as P [
              | true ↦ λ same.
                  let one : o.master ≡ master = sym (eqb-true master o.master same) in
                  subst (λ m. last_in (rows_of (set old o.master next) m) index ≡ last_in (rows_of old m) index) one (ap (λ p. last_in p index) program_is)
              | false ↦ λ far. ap (λ p. last_in p index) (set_there old o.master master next no_rows far)
            ]) refl;
      }

pub lowers_inside : (o : OpId) (other most : ℕ) (old new : List ProgramRows) (program : ProgramRows) → o.master < length old → new ≡ set old o.master program → program ≡ lowered_in (get_or old o.master no_rows) o.index other most → LowersAt o other most old new
lowers_inside o other most old new program within is program_is =
    subst (LowersAt o other most old) (sym (is ∙ ap (λ p. set old o.master p) program_is)) (lowers o other most old)

pub lowers_outside : (o : OpId) (other most : ℕ) (old : List ProgramRows) → length old ≤ o.master → LowersAt o other most old old
lowers_outside o other most old beyond =
    subst (LowersAt o other most old) (set_past old o.master (lowered_in (rows_of old o.master) o.index other most) beyond) (lowers o other most old)

-- What each function wants.

pub ruleset of_programs = (lowers_inside, lowers_outside)

pub ruleset of_row = (row_kept, row_past, row_lower)
