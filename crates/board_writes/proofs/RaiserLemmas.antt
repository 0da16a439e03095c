-- What writes know together, and a later one of a master.
use Rattle.std.proofs.Common.{◌≡◌, ℕ, ◌+◌, ◌<◌, ◌≤◌, Bool, true, false, ◌==◌, nat_lt, cond, eqb, eqb-true, List, [], ◌∷◌, ◌++◌, refl, sym, subst, arith}
use Rattle.std.proofs.lemmas.Bool.{and_parts, ltb-true}
use Rattle.std.proofs.lemmas.Bool.Decides.{nat_tests}
use Rattle.safe_model.specs.Clocks.{greater}
use Rattle.board_writes.specs.declared.writers.write.WordWrite.{WordWrite}
use Rattle.board_writes.specs.Rows.{ProgramRows, known_in, RisesIn}
use Rattle.board_writes.specs.Looks.{clock_past, known_to, is_behind}

pub known_append : (rows : List ProgramRows) (xs ys : List WordWrite) (most other : ℕ) → known_to rows (xs ++ ys) most other ≡ known_to rows ys (known_to rows xs most other) other
known_append rows [] ys most other = refl
known_append rows (x ∷ xs) ys most other = known_append rows xs ys (cond (nat_lt (clock_past rows x.op other) most) (clock_past rows x.op other) most) other

-- a later write of the same master knows no less
behind_core : (here : Bool) (early late known more : ℕ) → early < late → known ≤ more → cond here (greater known (early + 1)) known ≤ cond here (greater more (late + 1)) more
behind_core true early late known more before rises = grind (arith, nat_tests)
behind_core false early late known more before rises = rises

pub behind_same : (g f : WordWrite) → is_behind g f ≡ true → g.op.master ≡ f.op.master
behind_same g f is = eqb-true g.op.master f.op.master (and_parts (eqb g.op.master f.op.master) (nat_lt g.op.index f.op.index) is).0

pub behind_less : (g f : WordWrite) → is_behind g f ≡ true → g.op.index < f.op.index
behind_less g f is = ltb-true g.op.index f.op.index (and_parts (eqb g.op.master f.op.master) (nat_lt g.op.index f.op.index) is).1

pub behind_knows : (rows : List ProgramRows) (g f : WordWrite) (other : ℕ) → RisesIn rows → is_behind g f ≡ true → clock_past rows g.op other ≤ clock_past rows f.op other
behind_knows rows g f other rises is =
    let same = behind_same g f is in
    let less = behind_less g f is in
    let known : known_in rows f.op.master g.op.index other ≤ known_in rows f.op.master f.op.index other = rises f.op.master g.op.index f.op.index other (omega (arith, less)) in
    let P : ℕ → Type 0 = λ m. cond (other == m) (greater (known_in rows m g.op.index other) (g.op.index + 1)) (known_in rows m g.op.index other) ≤ clock_past rows f.op other in
    subst P (sym same) (behind_core (other == f.op.master) g.op.index f.op.index (known_in rows f.op.master g.op.index other) (known_in rows f.op.master f.op.index other) less known)

pub no_less : (clock late least : ℕ) → least ≤ clock → clock ≤ late → cond (nat_lt late least) late least ≡ least
no_less clock late least low high = grind (arith, nat_tests)

pub least_low : (clock most : ℕ) → cond (nat_lt clock most) clock most ≤ clock
least_low clock most = grind (arith, nat_tests)

least_falls : (clock most : ℕ) → cond (nat_lt clock most) clock most ≤ most
least_falls clock most = grind (arith, nat_tests)

-- and never more than so much
pub known_falls : (rows : List ProgramRows) (raisers : List WordWrite) (most other : ℕ) → known_to rows raisers most other ≤ most
known_falls rows [] most other = omega arith
known_falls rows (f ∷ raisers) most other =
    let one = least_falls (clock_past rows f.op other) most in
    let rest = known_falls rows raisers (cond (nat_lt (clock_past rows f.op other) most) (clock_past rows f.op other) most) other in
    omega (arith, one, rest)
