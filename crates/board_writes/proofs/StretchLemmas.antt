-- Writes of a word as stretches: how they come together, and what the parts of a stretch are.
use Rattle.std.proofs.Common.{◌≡◌, ℕ, zero, suc, ◌+◌, ◌-◌, ◌<◌, ◌≤◌, Bool, true, false, ◌&&◌, ◌||◌, ◌==◌, nat_lt, nat_le, cond, List, [], ◌∷◌, ◌++◌, append_assoc, append-nil, length, take, drop, get_or, set, slice_get, slice_set, Option, Some, None, refl, sym, ap, subst, ◌∙◌, arith}
use Rattle.std.specs.List.{filter, list_any, AllByRecursion}
use Rattle.std.specs.List.Sorted.{IsPartitionedBy, IsPartitionPoint}
use Rattle.std.proofs.Math.Seq.{drop-cons}
use Rattle.std.proofs.lemmas.List.{drop_all}
use Rattle.std.proofs.lemmas.Bool.{ltb-true}
use Rattle.std.proofs.lemmas.Bool.Decides.{nat_tests}
use Rattle.list_facts.proofs.EachLemmas.{Each-weaker, Each-both, Each-push}
use Rattle.pci_command.specs.declared.op_id.OpId.{OpId}
use Rattle.board_writes.specs.declared.writers.write.WordWrite.{WordWrite}
use Rattle.board_writes.specs.Rows.{ProgramRows}
use Rattle.board_writes.specs.Stretches.{joined, Stretch, AreStretches, AreStretchesOf, early_values, shared_bits, AreSummed, end_of, goes_on, pushed_at, pushed, PartsAt, PartsBefore, is_from, first_before, from_first, first_in}
use Rattle.board_writes.specs.Looks.{clock_in, before_in, any_before, is_behind}
use Rattle.board_writes.proofs.RaiserLemmas.{behind_same, behind_less}

-- Lists.

each_at : (P : WordWrite → Type 0) (ws : List WordWrite) (j : ℕ) (d : WordWrite) → AllByRecursion P ws → j < length ws → P (get_or ws j d)
each_at P [] j d each within = absurd (omega (arith, within))
each_at P (w ∷ ws) zero d each within = each.0
each_at P (w ∷ ws) (suc j) d each within = each_at P ws j d each.1 (omega (arith, within))

pub each_take : (P : WordWrite → Type 0) (n : ℕ) (ws : List WordWrite) → AllByRecursion P ws → AllByRecursion P (take n ws)
each_take P zero ws each = tt
each_take P (suc n) [] each = tt
each_take P (suc n) (w ∷ ws) each = (each.0, each_take P n ws each.1)

each_drop : (P : WordWrite → Type 0) (n : ℕ) (ws : List WordWrite) → AllByRecursion P ws → AllByRecursion P (drop n ws)
each_drop P zero ws each = each
each_drop P (suc n) [] each = tt
each_drop P (suc n) (w ∷ ws) each = each_drop P n ws each.1

each_end : {X : Type 0} (P : X → Type 0) (front : List X) (last : X) → AllByRecursion P (front ++ last ∷ []) → P last
each_end P [] last each = each.0
each_end P (x ∷ front) last each = each_end P front last each.1

each_front : {X : Type 0} (P : X → Type 0) (front : List X) (last : X) → AllByRecursion P (front ++ last ∷ []) → AllByRecursion P front
each_front P [] last each = tt
each_front P (x ∷ front) last each = (each.0, each_front P front last each.1)

pub any_append : (test : WordWrite → Bool) (xs ys : List WordWrite) → list_any test (xs ++ ys) ≡ (list_any test xs || list_any test ys)
any_append test [] ys = refl
any_append test (x ∷ xs) ys =
    let P : Bool → Type 0 = λ b. (b || list_any test (xs ++ ys)) ≡ ((b || list_any test xs) || list_any test ys) in
    elim (test x) as P [ true ↦ refl | false ↦ any_append test xs ys ]

-- The last of a list.

pub end_cons : {X : Type 0} (x y : X) (ys : List X) → end_of (x ∷ (y ∷ ys)) ≡ end_of (y ∷ ys)
end_cons x y ys =
    let here : length (x ∷ (y ∷ ys)) - 1 ≡ suc (length ys) = omega arith in
    let there : length (y ∷ ys) - 1 ≡ length ys = omega arith in
    ap (slice_get (x ∷ (y ∷ ys))) here ∙ sym (ap (slice_get (y ∷ ys)) there)

set_cons : {X : Type 0} (x y z : X) (ys : List X) → set (x ∷ (y ∷ ys)) (length (x ∷ (y ∷ ys)) - 1) z ≡ x ∷ set (y ∷ ys) (length (y ∷ ys) - 1) z
set_cons x y z ys =
    let here : length (x ∷ (y ∷ ys)) - 1 ≡ suc (length ys) = omega arith in
    let there : length (y ∷ ys) - 1 ≡ length ys = omega arith in
    ap (λ n. set (x ∷ (y ∷ ys)) n z) here ∙ sym (ap (λ n. x ∷ set (y ∷ ys) n z) there)

-- a list and its last, which may be replaced
pub record EndsWith {X : Type 0} (xs : List X) (last : X) : Type 0 where
  pub front : List X
  pub is : xs ≡ front ++ last ∷ []
  pub replaced : (x : X) → set xs (length xs - 1) x ≡ front ++ x ∷ []

ends_from : {X : Type 0} (x : X) (xs : List X) (last : X) → end_of (x ∷ xs) ≡ Some last → EndsWith (x ∷ xs) last
ends_from x [] last is = let one : x ≡ last = cc in record { front = []; is = ap (λ y. y ∷ []) one; replaced = λ y. refl }
ends_from x (y ∷ ys) last is =
    let rest : EndsWith (y ∷ ys) last = ends_from y ys last (sym (end_cons x y ys) ∙ is) in
    record { front = x ∷ rest.front; is = ap (λ zs. x ∷ zs) rest.is; replaced = λ z. set_cons x y z ys ∙ ap (λ zs. x ∷ zs) (rest.replaced z) }

pub ends_at : {X : Type 0} (xs : List X) (last : X) → end_of xs ≡ Some last → EndsWith xs last
ends_at [] last is = cc
ends_at (x ∷ xs) last is = ends_from x xs last is

pub ends_not : {X : Type 0} (xs : List X) → end_of xs ≡ None → xs ≡ []
ends_not [] is = refl
ends_not (x ∷ []) is = cc
ends_not (x ∷ (y ∷ ys)) is =
    let none : y ∷ ys ≡ [] = ends_not (y ∷ ys) (sym (end_cons x y ys) ∙ is) in
    cc

-- Stretches.

behind_so : (m n i j : ℕ) → m ≡ n → i < j → (m == n && nat_lt i j) ≡ true
behind_so m n i j same less = grind (arith, nat_tests)

behind_through : (a b c : WordWrite) → is_behind a b ≡ true → is_behind b c ≡ true → is_behind a c ≡ true
behind_through a b c first second =
    let one = behind_less a b first in
    let two = behind_less b c second in
    behind_so a.op.master c.op.master a.op.index c.op.index (behind_same a b first ∙ behind_same b c second) (omega (arith, one, two))

each_left : (P : WordWrite → Type 0) (xs ys : List WordWrite) → AllByRecursion P (xs ++ ys) → AllByRecursion P xs
each_left P [] ys each = tt
each_left P (x ∷ xs) ys each = (each.0, each_left P xs ys each.1)

pub stretch_front : (xs ys : List WordWrite) → Stretch (xs ++ ys) → Stretch xs
stretch_front [] ys is = tt
stretch_front (x ∷ xs) ys is = (each_left (λ v. is_behind x v ≡ true) xs ys is.0, stretch_front xs ys is.1)

pub stretch_back : (xs ys : List WordWrite) → Stretch (xs ++ ys) → Stretch ys
stretch_back [] ys is = is
stretch_back (x ∷ xs) ys is = stretch_back xs ys is.1

pub each_filter : (P : WordWrite → Type 0) (test : WordWrite → Bool) (ws : List WordWrite) → AllByRecursion P ws → AllByRecursion P (filter test ws)
each_filter P test [] each = tt
each_filter P test (w ∷ ws) each =
    let Q : Bool → Type 0 = λ b. AllByRecursion P (cond b (w ∷ filter test ws) (filter test ws)) in
    elim (test w) as Q [ true ↦ (each.0, each_filter P test ws each.1) | false ↦ each_filter P test ws each.1 ]

-- some of a stretch are one
pub stretch_filter : (test : WordWrite → Bool) (ws : List WordWrite) → Stretch ws → Stretch (filter test ws)
stretch_filter test [] is = tt
stretch_filter test (w ∷ ws) is =
    let Q : Bool → Type 0 = λ b. Stretch (cond b (w ∷ filter test ws) (filter test ws)) in
    let later : Stretch (filter test ws) = stretch_filter test ws is.1 in
    elim (test w) as Q [ true ↦ (each_filter (λ v. is_behind w v ≡ true) test ws is.0, later) | false ↦ later ]

-- of a stretch that has a last one the others stand before it
pub before_end : (front : List WordWrite) (last : WordWrite) → Stretch (front ++ last ∷ []) → AllByRecursion (λ (w : WordWrite). is_behind w last ≡ true) front
before_end [] last is = tt
before_end (w ∷ front) last is = (each_end (λ v. is_behind w v ≡ true) front last is.0, before_end front last is.1)

-- one more behind the last
stretch_on : (front : List WordWrite) (last w : WordWrite) → Stretch (front ++ last ∷ []) → is_behind last w ≡ true → Stretch ((front ++ last ∷ []) ++ w ∷ [])
stretch_on [] last w is behind = ((behind, tt), (tt, tt))
stretch_on (x ∷ front) last w is behind =
    let N : WordWrite → Type 0 = λ v. is_behind x v ≡ true in
    (Each-push N (front ++ last ∷ []) w is.0 (behind_through x last w (each_end N front last is.0) behind), stretch_on front last w is.1 behind)

run_on : (w : WordWrite) (run : List WordWrite) (found : Option WordWrite) → end_of run ≡ found → goes_on w found ≡ true → Stretch run → Stretch (run ++ w ∷ [])
run_on w run None is goes stretch = cc
run_on w run (Some last) is goes stretch =
    let ends : EndsWith run last = ends_at run last is in
    subst (λ ws. Stretch (ws ++ w ∷ [])) (sym ends.is) (stretch_on ends.front last w (subst Stretch ends.is stretch) goes)

pub joined_append : (xs ys : List (List WordWrite)) → joined (xs ++ ys) ≡ joined xs ++ joined ys
joined_append [] ys = refl
joined_append (x ∷ xs) ys = ap (λ ws. x ++ ws) (joined_append xs ys) ∙ sym (append_assoc x (joined xs) (joined ys))

joined_one : (runs : List (List WordWrite)) (run : List WordWrite) → joined (runs ++ run ∷ []) ≡ joined runs ++ run
joined_one runs run = joined_append runs (run ∷ []) ∙ ap (λ ws. joined runs ++ ws) (append-nil run)

-- these are the stretches with one write more
pub record Pushes (w : WordWrite) (old new : List (List WordWrite)) : Type 0 where
  pub all : joined new ≡ joined old ++ w ∷ []
  pub each : AreStretches new

begun : (w : WordWrite) (runs : List (List WordWrite)) → AreStretches runs → Pushes w runs (runs ++ (w ∷ []) ∷ [])
begun w runs each = record { all = joined_one runs (w ∷ []); each = Each-push Stretch runs (w ∷ []) each (tt, tt) }

went_on : (w : WordWrite) (runs : List (List WordWrite)) (run : List WordWrite) → end_of runs ≡ Some run → goes_on w (end_of run) ≡ true → AreStretches runs → Pushes w runs (slice_set runs (length runs - 1) (run ++ w ∷ []))
went_on w runs run is goes each =
    let ends : EndsWith runs run = ends_at runs run is in
    let front : List (List WordWrite) = ends.front in
    let longer : List WordWrite = run ++ w ∷ [] in
    let new_is : slice_set runs (length runs - 1) longer ≡ front ++ longer ∷ [] = ends.replaced longer in
    let so_far : AreStretches (front ++ run ∷ []) = subst AreStretches ends.is each in
    let old_is : joined runs ≡ joined front ++ run = ap joined ends.is ∙ joined_one front run in
    record {
      all = ap joined new_is ∙ joined_one front longer ∙ sym (append_assoc (joined front) run (w ∷ [])) ∙ ap (λ ws. ws ++ w ∷ []) (sym old_is);
      each = subst AreStretches (sym new_is) (Each-push Stretch front longer (each_front Stretch front run so_far) (run_on w run (end_of run) refl goes (each_end Stretch front run so_far)));
    }

pushed_at_so : (w : WordWrite) (runs : List (List WordWrite)) (found : Option (List WordWrite)) → end_of runs ≡ found → AreStretches runs → Pushes w runs (pushed_at w runs found)
pushed_at_so w runs None is each = begun w runs each
pushed_at_so w runs (Some run) is each =
    let P : Bool → Type 0 = λ b. goes_on w (end_of run) ≡ b → Pushes w runs (cond b (slice_set runs (length runs - 1) (run ++ w ∷ [])) (runs ++ (w ∷ []) ∷ [])) in
    (elim (goes_on w (end_of run)) as P [ true ↦ λ goes. went_on w runs run is goes each | false ↦ λ _. begun w runs each ]) refl

pub pushed_so : (w : WordWrite) (runs : List (List WordWrite)) → AreStretches runs → Pushes w runs (pushed w runs)
pushed_so w runs each = pushed_at_so w runs (end_of runs) refl each

-- Some writes as stretches.

module _ (writes : List WordWrite) where
  -- with the writes that are left they are all
  pub record Made (rest : List WordWrite) (runs : List (List WordWrite)) : Type 0 where
    pub all : joined runs ++ rest ≡ writes
    pub each : AreStretches runs

  pub none_made : (runs : List (List WordWrite)) → runs ≡ [] → Made writes runs
  none_made runs none = subst (Made writes) (sym none) (record { all = refl; each = tt })

  pub made_on : (i : ℕ) (d w : WordWrite) (old new : List (List WordWrite)) → i < length writes → w ≡ get_or writes i d → new ≡ pushed w old → Made (drop i writes) old → Made (drop (i + 1) writes) new
  made_on i d w old new within is new_is so_far =
      let more : i + 1 ≡ suc i = omega arith in
      let rest : List WordWrite = drop (i + 1) writes in
      let parts : drop i writes ≡ w ∷ rest = drop-cons writes i d within ∙ ap (λ v. v ∷ drop (suc i) writes) (sym is) ∙ sym (ap (λ n. w ∷ drop n writes) more) in
      let here : Made (w ∷ rest) old = subst (λ ws. Made ws old) parts so_far in
      let pushes : Pushes w old (pushed w old) = pushed_so w old here.each in
      subst (Made rest) (sym new_is) (record { all = ap (λ ws. ws ++ rest) pushes.all ∙ append_assoc (joined old) (w ∷ []) rest ∙ here.all; each = pushes.each })

  pub made_over : (i : ℕ) (runs : List (List WordWrite)) → length writes ≤ i → Made (drop i writes) runs → AreStretchesOf writes runs
  made_over i runs past so_far =
      let none : drop i writes ≡ [] = drop_all i writes past in
      let over : Made [] runs = subst (λ ws. Made ws runs) none so_far in
      record { all = sym (append-nil (joined runs)) ∙ over.all; each = over.each }

  pub made_summed : (runs : List (List WordWrite)) (early : List ℕ) (bits : ℕ) → AreStretchesOf writes runs → early ≡ early_values writes → bits ≡ shared_bits writes → AreSummed runs early bits
  made_summed runs early bits are early_is bits_is = record { each = are.each; early_are = early_is ∙ sym (ap early_values are.all); bits_are = bits_is ∙ sym (ap shared_bits are.all) }

-- Parts of a stretch.

lt_true : (a b : ℕ) → a < b → nat_lt a b ≡ true
lt_true a b less = grind (arith, nat_tests)

lt_false : (a b : ℕ) → b ≤ a → nat_lt a b ≡ false
lt_false a b more = grind (arith, nat_tests)

from_false : (a b : ℕ) → nat_lt a b ≡ false → b ≤ a
from_false a b is = grind (arith, nat_tests)

from_not : (a b : ℕ) → nat_le b a ≡ true → b ≤ a
from_not a b is = grind (arith, nat_tests)

from_so : (a b : ℕ) → nat_le b a ≡ false → a < b
from_so a b is = grind (arith, nat_tests)

-- what a binary search asks
pub is_parted : (bound : ℕ) (ws : List WordWrite) → Stretch ws → IsPartitionedBy (λ (w : WordWrite). nat_lt w.op.index bound) ws
is_parted bound [] stretch i j d order within passed = absurd (omega (arith, within))
is_parted bound (w ∷ ws) stretch zero zero d order within passed = passed
is_parted bound (w ∷ ws) stretch zero (suc j) d order within passed =
    let v : WordWrite = get_or ws j d in
    let up = behind_less w v (each_at (λ x. is_behind w x ≡ true) ws j d stretch.0 (omega (arith, within))) in
    let there = ltb-true v.op.index bound passed in
    lt_true w.op.index bound (omega (arith, up, there))
is_parted bound (w ∷ ws) stretch (suc i) zero d order within passed = absurd (omega (arith, order))
is_parted bound (w ∷ ws) stretch (suc i) (suc j) d order within passed = is_parted bound ws stretch.1 i j d (omega (arith, order)) (omega (arith, within)) passed

-- and what it finds
pub point_parts : (bound : ℕ) (ws : List WordWrite) (count : ℕ) → count ≤ length ws → IsPartitionPoint (λ (w : WordWrite). nat_lt w.op.index bound ≡ true) (λ (w : WordWrite). nat_lt w.op.index bound ≡ false) ws count → PartsAt bound ws count
point_parts bound [] zero within point = record { low = tt; high = tt }
point_parts bound [] (suc count) within point = absurd (omega (arith, within))
point_parts bound (w ∷ ws) zero within point =
    let later = point_parts bound ws zero (omega arith) (λ k d low high. absurd (omega (arith, high)), λ k d low high. point.1 (suc k) d (omega arith) (omega (arith, high))) in
    record { low = tt; high = (from_false w.op.index bound (point.1 0 w (omega arith) (omega arith)), later.high) }
point_parts bound (w ∷ ws) (suc count) within point =
    let later = point_parts bound ws count (omega (arith, within)) (λ k d low high. point.0 (suc k) d (omega arith) (omega (arith, high)), λ k d low high. point.1 (suc k) d (omega (arith, low)) (omega (arith, high))) in
    record { low = (ltb-true w.op.index bound (point.0 0 w (omega arith) (omega arith)), later.low); high = later.high }

-- where the first is not below, none is
pub none_below : (bound : ℕ) (run : List WordWrite) → Stretch run → is_from (slice_get run 0) bound ≡ true → PartsAt bound run 0
none_below bound [] stretch from = record { low = tt; high = tt }
none_below bound (w ∷ ws) stretch from =
    let least : bound ≤ w.op.index = from_not w.op.index bound from in
    record {
      low = tt;
      high =
          (least, Each-weaker (λ v. is_behind w v ≡ true) (λ v. bound ≤ v.op.index) (λ v behind. let up = behind_less w v behind in omega (arith, least, up)) ws stretch.0);
    }

all_taken : (ws : List WordWrite) → take (length ws) ws ≡ ws
all_taken [] = refl
all_taken (w ∷ ws) = ap (λ vs. w ∷ vs) (all_taken ws)

all_dropped : (ws : List WordWrite) → drop (length ws) ws ≡ []
all_dropped [] = refl
all_dropped (w ∷ ws) = all_dropped ws

below_end : (bound : ℕ) (run : List WordWrite) (last : WordWrite) → end_of run ≡ Some last → Stretch run → last.op.index < bound → AllByRecursion (λ (w : WordWrite). w.op.index < bound) run
below_end bound run last is stretch below =
    let L : WordWrite → Type 0 = λ w. w.op.index < bound in
    let ends : EndsWith run last = ends_at run last is in
    let firsts : AllByRecursion L ends.front = Each-weaker (λ w. is_behind w last ≡ true) L (λ w behind. let up = behind_less w last behind in omega (arith, below, up)) ends.front (before_end ends.front last (subst Stretch ends.is stretch)) in
    subst (AllByRecursion L) (sym ends.is) (Each-push L ends.front last firsts below)

all_below_at : (bound : ℕ) (run : List WordWrite) (found : Option WordWrite) → end_of run ≡ found → Stretch run → is_from found bound ≡ false → AllByRecursion (λ (w : WordWrite). w.op.index < bound) run
all_below_at bound run None is stretch below = cc
all_below_at bound run (Some last) is stretch below = below_end bound run last is stretch (from_so last.op.index bound below)

-- where the last is below, all are
pub all_below : (bound count : ℕ) (run : List WordWrite) → Stretch run → is_from (end_of run) bound ≡ false → count ≡ length run → PartsAt bound run count
all_below bound count run stretch below all =
    let L : WordWrite → Type 0 = λ w. w.op.index < bound in
    let H : WordWrite → Type 0 = λ w. bound ≤ w.op.index in
    let each : AllByRecursion L run = all_below_at bound run (end_of run) refl stretch below in
    subst (PartsAt bound run) (sym all) (record { low = subst (AllByRecursion L) (sym (all_taken run)) each; high = subst (AllByRecursion H) (sym (all_dropped run)) tt })

-- those below what the poll knows of their master come before it
parts_before : (rows : List ProgramRows) (p : OpId) (w : WordWrite) (ws : List WordWrite) (count : ℕ) → Stretch (w ∷ ws) → PartsAt (clock_in rows p w.op.master) (w ∷ ws) count → PartsBefore rows p (w ∷ ws) count
parts_before rows p w ws count stretch parts =
    let bound : ℕ = clock_in rows p w.op.master in
    let M : WordWrite → Type 0 = λ v. v.op.master ≡ w.op.master in
    let masters : AllByRecursion M (w ∷ ws) = (refl, Each-weaker (λ v. is_behind w v ≡ true) M (λ v is. sym (behind_same w v is)) ws stretch.0) in
    let L : WordWrite → Type 0 = λ v. v.op.index < bound in
    let H : WordWrite → Type 0 = λ v. bound ≤ v.op.index in
    record {
      low =
          Each-weaker (λ v. M v × L v) (λ v. before_in rows v.op p ≡ true) (λ v two. subst (λ m. nat_lt v.op.index (clock_in rows p m) ≡ true) (sym two.0) (lt_true v.op.index bound two.1)) (take count (w ∷ ws))
          (Each-both M L (take count (w ∷ ws)) (each_take M count (w ∷ ws) masters) parts.low);
      high =
          Each-weaker (λ v. M v × H v) (λ v. before_in rows v.op p ≡ false) (λ v two. subst (λ m. nat_lt v.op.index (clock_in rows p m) ≡ false) (sym two.0) (lt_false v.op.index bound two.1)) (drop count (w ∷ ws))
          (Each-both M H (drop count (w ∷ ws)) (each_drop M count (w ∷ ws) masters) parts.high);
    }

-- the same of a stretch that has a first write
pub run_parts : (rows : List ProgramRows) (p : OpId) (run : List WordWrite) (d : WordWrite) (count : ℕ) → 1 ≤ length run → Stretch run → PartsAt (clock_in rows p (get_or run 0 d).op.master) run count → PartsBefore rows p run count
run_parts rows p [] d count some stretch parts = absurd (omega (arith, some))
run_parts rows p (w ∷ ws) d count some stretch parts = parts_before rows p w ws count stretch parts

-- and of none
pub no_parts : (rows : List ProgramRows) (p : OpId) (run : List WordWrite) → length run < 1 → PartsBefore rows p run 0
no_parts rows p [] none = record { low = tt; high = tt }
no_parts rows p (w ∷ ws) none = absurd (omega (arith, none))

-- Whether one comes before a poll.

none_any : (test : WordWrite → Bool) (ws : List WordWrite) → AllByRecursion (λ (w : WordWrite). test w ≡ false) ws → list_any test ws ≡ false
none_any test [] each = refl
none_any test (w ∷ ws) each = ap (λ b. b || list_any test ws) each.0 ∙ none_any test ws each.1

later_not : (rows : List ProgramRows) (p : OpId) (w v : WordWrite) → before_in rows w.op p ≡ false → is_behind w v ≡ true → before_in rows v.op p ≡ false
later_not rows p w v after behind =
    let up = behind_less w v behind in
    let past = from_false w.op.index (clock_in rows p w.op.master) after in
    subst (λ m. nat_lt v.op.index (clock_in rows p m) ≡ false) (behind_same w v behind) (lt_false v.op.index (clock_in rows p w.op.master) (omega (arith, up, past)))

-- then the first of its stretch does
first_is : (rows : List ProgramRows) (p : OpId) (run : List WordWrite) → Stretch run → first_before rows p run ≡ any_before rows p run
first_is rows p [] stretch = refl
first_is rows p (w ∷ ws) stretch =
    let B : WordWrite → Bool = λ x. before_in rows x.op p in
    let P : Bool → Type 0 = λ b. B w ≡ b → b ≡ (b || list_any B ws) in
    (elim (B w) as P [
      | true ↦ λ _. refl
      | false ↦ λ after. sym (none_any B ws (Each-weaker (λ v. is_behind w v ≡ true) (λ v. B v ≡ false) (λ v behind. later_not rows p w v after behind) ws stretch.0))
    ]) refl

-- where it does not, none does
pub none_before : (rows : List ProgramRows) (p : OpId) (run : List WordWrite) → Stretch run → first_before rows p run ≡ false → AllByRecursion (λ (w : WordWrite). before_in rows w.op p ≡ false) run
none_before rows p [] stretch after = tt
none_before rows p (w ∷ ws) stretch after = (after, Each-weaker (λ v. is_behind w v ≡ true) (λ v. before_in rows v.op p ≡ false) (λ v behind. later_not rows p w v after behind) ws stretch.0)

pub firsts_are : (rows : List ProgramRows) (p : OpId) (runs : List (List WordWrite)) → AreStretches runs → list_any (first_before rows p) runs ≡ any_before rows p (joined runs)
firsts_are rows p [] each = refl
firsts_are rows p (run ∷ runs) each =
    let B : WordWrite → Bool = λ x. before_in rows x.op p in
    ap (λ b. b || list_any (first_before rows p) runs) (first_is rows p run each.0)
    ∙ ap (λ b. any_before rows p run || b) (firsts_are rows p runs each.1)
    ∙ sym (any_append B run (joined runs))

-- From the first on that passes a test.

pub filter_from : (test : WordWrite → Bool) (ws : List WordWrite) → filter test (from_first test ws) ≡ filter test ws
filter_from test [] = refl
filter_from test (w ∷ ws) =
    let P : Bool → Type 0 = λ b. test w ≡ b → filter test (cond b (w ∷ ws) (from_first test ws)) ≡ cond b (w ∷ filter test ws) (filter test ws) in
    (elim (test w) as P [ true ↦ λ pass. ap (λ b. cond b (w ∷ filter test ws) (filter test ws)) pass | false ↦ λ _. filter_from test ws ]) refl

pub stretch_from : (test : WordWrite → Bool) (ws : List WordWrite) → Stretch ws → Stretch (from_first test ws)
stretch_from test [] stretch = tt
stretch_from test (w ∷ ws) stretch =
    let P : Bool → Type 0 = λ b. Stretch (cond b (w ∷ ws) (from_first test ws)) in
    elim (test w) as P [ true ↦ stretch | false ↦ stretch_from test ws stretch.1 ]

pub first_from : (test : WordWrite → Bool) (ws : List WordWrite) → first_in (from_first test ws) ≡ first_in (filter test ws)
first_from test [] = refl
first_from test (w ∷ ws) =
    let P : Bool → Type 0 = λ b. first_in (cond b (w ∷ ws) (from_first test ws)) ≡ first_in (cond b (w ∷ filter test ws) (filter test ws)) in
    elim (test w) as P [ true ↦ refl | false ↦ first_from test ws ]

-- The stretches one by one.

pub runs_cons : (runs : List (List WordWrite)) (i : ℕ) (item run : List WordWrite) → i < length runs → item ≡ get_or runs i item → run ≡ item → joined (drop i runs) ≡ run ++ joined (drop (i + 1) runs)
runs_cons runs i item run within is same =
    let more : suc i ≡ i + 1 = omega arith in
    ap joined (drop-cons runs i item within) ∙ ap (λ ws. ws ++ joined (drop (suc i) runs)) (sym is ∙ sym same) ∙ ap (λ n. run ++ joined (drop n runs)) more

pub runs_none : (runs : List (List WordWrite)) (i : ℕ) → length runs ≤ i → joined (drop i runs) ≡ []
runs_none runs i past = ap joined (drop_all i runs past)

each_run : (runs : List (List WordWrite)) (j : ℕ) (d : List WordWrite) → AreStretches runs → j < length runs → Stretch (get_or runs j d)
each_run [] j d each within = absurd (omega (arith, within))
each_run (r ∷ rs) zero d each within = each.0
each_run (r ∷ rs) (suc j) d each within = each_run rs j d each.1 (omega (arith, within))

pub stretch_at : (runs : List (List WordWrite)) (i : ℕ) (item run : List WordWrite) → i < length runs → item ≡ get_or runs i item → run ≡ item → AreStretches runs → Stretch run
stretch_at runs i item run within is same each = subst Stretch (sym (same ∙ is)) (each_run runs i item each within)

-- one of a stretch is one of all
some_right : (a : Bool) → (a || true) ≡ true
some_right true = refl
some_right false = refl

pub any_at : (test : WordWrite → Bool) (runs : List (List WordWrite)) (i : ℕ) (item run : List WordWrite) → i < length runs → item ≡ get_or runs i item → run ≡ item → list_any test run ≡ true → list_any test (joined runs) ≡ true
any_at test [] i item run within is same some = absurd (omega (arith, within))
any_at test (r ∷ rs) zero item run within is same some =
    any_append test r (joined rs) ∙ ap (λ b. b || list_any test (joined rs)) (ap (list_any test) (sym (same ∙ is)) ∙ some)
any_at test (r ∷ rs) (suc i) item run within is same some =
    any_append test r (joined rs) ∙ ap (λ b. list_any test r || b) (any_at test rs i item run (omega (arith, within)) is same some) ∙ some_right (list_any test r)

module _ (test : WordWrite → Bool) (runs : List (List WordWrite)) where
  -- none of the stretches so far has one
  pub none_so_far : (i : ℕ) (item run : List WordWrite) → i < length runs → item ≡ get_or runs i item → run ≡ item → list_any test run ≡ false → list_any test (joined (drop i runs)) ≡ list_any test (joined runs) → list_any test (joined (drop (i + 1) runs)) ≡ list_any test (joined runs)
  none_so_far i item run within is same none so_far =
      let rest : List WordWrite = joined (drop (i + 1) runs) in
      sym (ap (list_any test) (runs_cons runs i item run within is same) ∙ any_append test run rest ∙ ap (λ b. b || list_any test rest) none) ∙ so_far

  pub some_here : (i : ℕ) (item run : List WordWrite) → i < length runs → item ≡ get_or runs i item → run ≡ item → list_any test run ≡ true → list_any test (joined (drop i runs)) ≡ list_any test (joined runs) → true ≡ list_any test (joined runs)
  some_here i item run within is same some so_far =
      let rest : List WordWrite = joined (drop (i + 1) runs) in
      sym (ap (list_any test) (runs_cons runs i item run within is same) ∙ any_append test run rest ∙ ap (λ b. b || list_any test rest) some) ∙ so_far

  pub none_in_all : (i : ℕ) → length runs ≤ i → list_any test (joined (drop i runs)) ≡ list_any test (joined runs) → false ≡ list_any test (joined runs)
  none_in_all i past so_far = sym (ap (list_any test) (runs_none runs i past)) ∙ so_far
