-- The raisers of a poll that are not left out: of those of a stretch that come before the poll at most the last, and all others.
use Rattle.std.proofs.Common.{◌≡◌, ℕ, suc, ◌+◌, ◌-◌, ◌<◌, ◌≤◌, Bool, true, false, not, ◌&&◌, ◌||◌, ◌==◌, nat_lt, cond, eqb-true, eq-eqb, List, [], ◌∷◌, ◌++◌, append_assoc, append-nil, length, take, drop, get_or, reverse, Option, Some, None, IfSome, refl, sym, ap, subst, ◌∙◌, arith}
use Rattle.std.specs.List.{filter, find, list_any, AllByRecursion}
use Rattle.std.proofs.lemmas.List.{take-append-drop, reverse-append}
use Rattle.std.proofs.lemmas.Bool.{and_parts, ltb-true, false≢true}
use Rattle.std.proofs.lemmas.Bool.Decides.{nat_tests}
use Rattle.list_facts.proofs.EachLemmas.{Each-weaker, Each-both}
use Rattle.pci_command.specs.declared.op_id.OpId.{OpId}
use Rattle.pci_command.specs.Same.{same_op}
use Rattle.history_model.proofs.facts.RequestLemmas.{same_op_true}
use Rattle.safe_model.specs.Clocks.{greater}
use Rattle.board_writes.specs.declared.polls.awaited.Awaited.{Awaited}
use Rattle.board_writes.specs.declared.writers.write.WordWrite.{WordWrite}
use Rattle.board_writes.specs.Rows.{ProgramRows, known_in}
use Rattle.board_writes.specs.Stretches.{joined, Stretch, end_of, AreBefore, PartsAt, PartsBefore, IsParted, ends_with, AreAmong, stay, list_of, first_in, first_before, from_first, PutsRun, is_reached_at}
use Rattle.board_writes.specs.Looks.{clock_in, clock_past, before_in, no_more_in, leaves_out, left_out_in, is_reached_in, known_to, most_in, KnowAlike, TellAlike, TellsNothing, is_behind, IsOrdered}
use Rattle.board_writes.specs.Polls.{raises_it, staying}
use Rattle.board_writes.proofs.RaiserLemmas.{known_append, known_falls, behind_same, behind_less, behind_knows, no_less, least_low}
use Rattle.board_writes.proofs.StretchLemmas.{any_append, EndsWith, end_cons, ends_at, ends_not, each_take, each_filter, stretch_filter, stretch_front, stretch_back, before_end, joined_append, runs_cons, runs_none, any_at, none_before, filter_from, stretch_from, first_from}

-- Tests and lists.

lt_true : (a b : ℕ) → a < b → nat_lt a b ≡ true
lt_true a b less = grind (arith, nat_tests)

same_and_less : (m n i j : ℕ) → m ≡ n → i < j → (m == n && nat_lt i j) ≡ true
same_and_less m n i j same less = grind (arith, nat_tests)

not_so : (b : Bool) → (b ≡ true → true ≡ false) → b ≡ false
not_so true never = never refl
not_so false never = refl

or_cases : (a b : Bool) (C : Type 0) → (a || b) ≡ true → (a ≡ true → C) → (b ≡ true → C) → C
or_cases true b C is first second = first refl
or_cases false b C is first second = second is

or_right : (a b : Bool) → b ≡ true → (a || b) ≡ true
or_right true b is = refl
or_right false b is = is

or_false : (b : Bool) → (b || false) ≡ b
or_false true = refl
or_false false = refl

pub or_swap : (a b : Bool) → (a || b) ≡ (b || a)
or_swap true b = sym (or_right b true refl)
or_swap false b = sym (or_false b)

any_none : (test : WordWrite → Bool) → ((x : WordWrite) → test x ≡ false) → (ws : List WordWrite) → list_any test ws ≡ false
any_none test never [] = refl
any_none test never (w ∷ ws) = ap (λ b. b || list_any test ws) (never w) ∙ any_none test never ws

any_each : (f g : WordWrite → Bool) (ws : List WordWrite) → AllByRecursion (λ (w : WordWrite). f w ≡ g w) ws → list_any f ws ≡ list_any g ws
any_each f g [] each = refl
any_each f g (w ∷ ws) each = ap (λ b. b || list_any f ws) each.0 ∙ ap (λ b. g w || b) (any_each f g ws each.1)

any_last : (test : WordWrite → Bool) (front : List WordWrite) (last : WordWrite) → test last ≡ true → list_any test (front ++ last ∷ []) ≡ true
any_last test front last is = any_append test front (last ∷ []) ∙ or_right (list_any test front) (test last || false) (ap (λ b. b || false) is)

pub any_filter : (kept test : WordWrite → Bool) (ws : List WordWrite) → list_any test (filter kept ws) ≡ list_any (λ f. kept f && test f) ws
any_filter kept test [] = refl
any_filter kept test (w ∷ ws) =
    let rest : List WordWrite = filter kept ws in
    let P : Bool → Type 0 = λ b. list_any test (cond b (w ∷ rest) rest) ≡ ((b && test w) || list_any (λ f. kept f && test f) ws) in
    elim (kept w) as P [ true ↦ ap (λ t. test w || t) (any_filter kept test ws) | false ↦ any_filter kept test ws ]

any_kept : (kept test : WordWrite → Bool) (ws : List WordWrite) → list_any test (filter kept ws) ≡ true → list_any test ws ≡ true
any_kept kept test [] some = some
any_kept kept test (w ∷ ws) some =
    let rest : List WordWrite = filter kept ws in
    let P : Bool → Type 0 = λ b. list_any test (cond b (w ∷ rest) rest) ≡ true → (test w || list_any test ws) ≡ true in
    (elim (kept w) as P [
      | true ↦ λ one. or_cases (test w) (list_any test rest) ((test w || list_any test ws) ≡ true) one (λ here. ap (λ b. b || list_any test ws) here) (λ later. or_right (test w) (list_any test ws) (any_kept kept test ws later))
      | false ↦ λ later. or_right (test w) (list_any test ws) (any_kept kept test ws later)
    ]) some

and_not : (a b : Bool) → b ≡ false → (a && b) ≡ false
and_not true b is = is
and_not false b is = refl

filter_append : (test : WordWrite → Bool) (xs ys : List WordWrite) → filter test (xs ++ ys) ≡ filter test xs ++ filter test ys
filter_append test [] ys = refl
filter_append test (x ∷ xs) ys =
    let P : Bool → Type 0 = λ b. cond b (x ∷ filter test (xs ++ ys)) (filter test (xs ++ ys)) ≡ cond b (x ∷ filter test xs) (filter test xs) ++ filter test ys in
    let later = filter_append test xs ys in
    elim (test x) as P [ true ↦ ap (λ ws. x ∷ ws) later | false ↦ later ]

filter_all : (test : WordWrite → Bool) (ws : List WordWrite) → AllByRecursion (λ (w : WordWrite). test w ≡ true) ws → filter test ws ≡ ws
filter_all test [] each = refl
filter_all test (w ∷ ws) each = ap (λ b. cond b (w ∷ filter test ws) (filter test ws)) each.0 ∙ ap (λ rest. w ∷ rest) (filter_all test ws each.1)

filter_none : (test : WordWrite → Bool) (ws : List WordWrite) → AllByRecursion (λ (w : WordWrite). test w ≡ false) ws → filter test ws ≡ []
filter_none test [] each = refl
filter_none test (w ∷ ws) each = ap (λ b. cond b (w ∷ filter test ws) (filter test ws)) each.0 ∙ filter_none test ws each.1

each_last : (P : WordWrite → Type 0) (front : List WordWrite) (last : WordWrite) → AllByRecursion P (front ++ last ∷ []) → P last
each_last P [] last each = each.0
each_last P (w ∷ front) last each = each_last P front last each.1

turned : (b : Bool) (ws : List WordWrite) → cond (not b) ws [] ≡ cond b [] ws
turned true ws = refl
turned false ws = refl

-- The first and the last of those of a list that pass a test.

abbrev pub or_then : Option WordWrite → Option WordWrite → Option WordWrite
or_then (Some w) found = Some w
or_then None found = found

found_append : (test : WordWrite → Bool) (xs ys : List WordWrite) → find test (xs ++ ys) ≡ or_then (find test xs) (find test ys)
found_append test [] ys = refl
found_append test (x ∷ xs) ys =
    let P : Bool → Type 0 = λ b. cond b (Some x) (find test (xs ++ ys)) ≡ or_then (cond b (Some x) (find test xs)) (find test ys) in
    elim (test x) as P [ true ↦ refl | false ↦ found_append test xs ys ]

pub end_behind : (w : WordWrite) (ws : List WordWrite) → end_of (w ∷ ws) ≡ or_then (end_of ws) (Some w)
end_behind w [] = refl
end_behind w (v ∷ ws) =
    let P : Option WordWrite → Type 0 = λ found. end_of (v ∷ ws) ≡ found → found ≡ or_then found (Some w) in
    end_cons w v ws
    ∙ (elim (end_of (v ∷ ws)) as P [
      | Some last ↦ λ _. refl
      | None ↦ λ none. let never : v ∷ ws ≡ [] = ends_not (v ∷ ws) none in cc
    ]) refl

pub last_found : (test : WordWrite → Bool) (ws : List WordWrite) → find test (reverse ws) ≡ end_of (filter test ws)
last_found test [] = refl
last_found test (w ∷ ws) =
    let rest : List WordWrite = filter test ws in
    let none : Option WordWrite = None in
    let P : Bool → Type 0 = λ b. or_then (end_of rest) (cond b (Some w) none) ≡ end_of (cond b (w ∷ rest) rest) in
    let nothing : (found : Option WordWrite) → or_then found None ≡ found = λ found. elim found as (λ f. or_then f None ≡ f) [ Some v ↦ refl | None ↦ refl ] in
    ap (find test) (reverse-append (w ∷ []) ws)
    ∙ found_append test (reverse ws) (w ∷ [])
    ∙ ap (λ found. or_then found (find test (w ∷ []))) (last_found test ws)
    ∙ (elim (test w) as P [ true ↦ sym (end_behind w rest) | false ↦ nothing (end_of rest) ])

pub first_found : (test : WordWrite → Bool) (ws : List WordWrite) → list_of (find test ws) ≡ first_in (filter test ws)
first_found test [] = refl
first_found test (w ∷ ws) =
    let P : Bool → Type 0 = λ b. list_of (cond b (Some w) (find test ws)) ≡ first_in (cond b (w ∷ filter test ws) (filter test ws)) in
    elim (test w) as P [ true ↦ refl | false ↦ first_found test ws ]

-- What lands no more.

module _ (rows : List ProgramRows) (f : WordWrite) (b : OpId) where
  abbrev is_once : Bool
  is_once = f.posted && before_in rows f.op b

  abbrev is_stood : Bool
  is_stood = f.op.master == b.master && nat_lt f.op.index b.index

  abbrev is_ended : Bool
  is_ended = nat_lt (f.op.index + 1) (clock_in rows b f.op.master)

  no_more_cases : (C : Type 0) → no_more_in rows f b ≡ true → (f.posted ≡ true → f.op.index < clock_in rows b f.op.master → C) → (f.op.master ≡ b.master → f.op.index < b.index → C) → (f.op.index + 1 < clock_in rows b f.op.master → C) → C
  no_more_cases C is first second third =
      or_cases is_once (is_stood || is_ended) C is
      (λ posted. let parts = and_parts f.posted (before_in rows f.op b) posted in first parts.0 (ltb-true f.op.index (clock_in rows b f.op.master) parts.1))
      (λ later.
      or_cases is_stood is_ended C later
      (λ here. let parts = and_parts (f.op.master == b.master) (nat_lt f.op.index b.index) here in second (eqb-true f.op.master b.master parts.0) (ltb-true f.op.index b.index parts.1))
      (λ done. third (ltb-true (f.op.index + 1) (clock_in rows b f.op.master) done)))

  no_more_once : f.posted ≡ true → f.op.index < clock_in rows b f.op.master → no_more_in rows f b ≡ true
  no_more_once posted less =
      ap (λ t. (t && before_in rows f.op b) || (is_stood || is_ended)) posted ∙ ap (λ t. t || (is_stood || is_ended)) (lt_true f.op.index (clock_in rows b f.op.master) less)

  no_more_stands : f.op.master ≡ b.master → f.op.index < b.index → no_more_in rows f b ≡ true
  no_more_stands same less = or_right is_once (is_stood || is_ended) (ap (λ t. t || is_ended) (same_and_less f.op.master b.master f.op.index b.index same less))

  no_more_ended : f.op.index + 1 < clock_in rows b f.op.master → no_more_in rows f b ≡ true
  no_more_ended less = or_right is_once (is_stood || is_ended) (or_right is_stood is_ended (lt_true (f.op.index + 1) (clock_in rows b f.op.master) less))

same_apart : (x y : WordWrite) → is_behind x y ≡ true → same_op y.op x.op ≡ false
same_apart x y is = let less = behind_less x y is in grind (arith, nat_tests)

-- Numbers.

greater_second : (a b : ℕ) → b ≤ greater a b
greater_second a b = grind (arith, nat_tests)

greater_low : (a b : ℕ) → b ≤ a → greater a b ≡ a
greater_low a b low = grind (arith, nat_tests)

past_core : (known index most : ℕ) → greater known index ≤ most → index < most → greater known (index + 1) ≤ most
past_core known index most low less = grind (arith, nat_tests)

-- of the last two of three one is another than the raiser, and ends it where the first does
third_core : (a b c rest : Bool) → (a ≡ true → (b || c) ≡ true) → (b || (c || rest)) ≡ (a || (b || (c || rest)))
third_core true true c rest two = refl
third_core true false c rest two = ap (λ t. t || rest) (two refl)
third_core false b c rest two = refl

own_clock : (rows : List ProgramRows) (o : OpId) → o.index ≤ clock_in rows o o.master
own_clock rows o =
    let known : ℕ = known_in rows o.master o.index o.master in
    let P : Bool → Type 0 = λ b. o.index ≤ cond b (greater known o.index) known in
    let here : P true = greater_second known o.index in
    subst P (sym (eq-eqb o.master o.master refl)) here

-- With those of the stretches that are left these raisers know what all do.
pub record Told (rows : List ProgramRows) (p : OpId) (awaited : Awaited) (writes : List WordWrite) (raising rest : List (List WordWrite)) (found : List WordWrite) : Type 0 where
  pub alike : KnowAlike rows (found ++ staying rows p awaited writes (joined rest)) (staying rows p awaited writes (joined raising))

-- Parts of a stretch.

pub parted : (rows : List ProgramRows) (p : OpId) (run before beyond : List WordWrite) (count : ℕ) → PartsBefore rows p run count → before ≡ take count run → beyond ≡ drop count run → IsParted rows p run before beyond
parted rows p run before beyond count parts before_is beyond_is = record {
  all = ap (λ ws. ws ++ beyond) before_is ∙ ap (λ ws. take count run ++ ws) beyond_is ∙ take-append-drop count run;
  low = subst (AreBefore rows p) (sym before_is) parts.low;
  high = subst (AllByRecursion (λ (w : WordWrite). before_in rows w.op p ≡ false)) (sym beyond_is) parts.high;
}

-- and of those of it that pass a test
pub parted_filter : (rows : List ProgramRows) (p : OpId) (test : WordWrite → Bool) (run before beyond : List WordWrite) → IsParted rows p run before beyond → IsParted rows p (filter test run) (filter test before) (filter test beyond)
parted_filter rows p test run before beyond parts = record {
  all = sym (filter_append test before beyond) ∙ ap (filter test) parts.all;
  low = each_filter (λ w. before_in rows w.op p ≡ true) test before parts.low;
  high = each_filter (λ w. before_in rows w.op p ≡ false) test beyond parts.high;
}

pub among_filter : (writes these : List WordWrite) (kept : WordWrite → Bool) → AreAmong writes these → AreAmong writes (filter kept these)
among_filter writes these kept among test some = among test (any_kept kept test these some)

-- By a table that rises along programs, and in which who comes after an operation comes after all that it does.

module _ (rows : List ProgramRows) (ordered : IsOrdered rows) where
  -- a later write of a master comes after an earlier one, and counts no less
  behind_clock : (x y : WordWrite) → is_behind x y ≡ true → (other : ℕ) → clock_in rows x.op other ≤ clock_in rows y.op other
  behind_clock x y is other =
      let less = behind_less x y is in
      let own = own_clock rows y.op in
      let counts : x.op.index < clock_in rows y.op x.op.master = subst (λ m. x.op.index < clock_in rows y.op m) (sym (behind_same x y is)) (omega (arith, less, own)) in
      ordered.closed x.op y.op (lt_true x.op.index (clock_in rows y.op x.op.master) counts) other

  -- so what lands no more once the earlier one does, does not once the later one does
  no_more_on : (f x y : WordWrite) → is_behind x y ≡ true → no_more_in rows f x.op ≡ true → no_more_in rows f y.op ≡ true
  no_more_on f x y is no_more =
      let rise = behind_clock x y is f.op.master in
      let less = behind_less x y is in
      no_more_cases rows f x.op (no_more_in rows f y.op ≡ true) no_more
      (λ posted below. no_more_once rows f y.op posted (omega (arith, below, rise)))
      (λ same below. no_more_stands rows f y.op (same ∙ behind_same x y is) (omega (arith, below, less)))
      (λ below. no_more_ended rows f y.op (omega (arith, below, rise)))

  ends_so : (f x : WordWrite) → same_op x.op f.op ≡ false → no_more_in rows f x.op ≡ true → ends_with rows f x ≡ true
  ends_so f x other no_more = ap (λ t. not t && no_more_in rows f x.op) other ∙ no_more

  ends_two : (f a b c : WordWrite) → is_behind a b ≡ true → is_behind b c ≡ true → ends_with rows f a ≡ true → (ends_with rows f b || ends_with rows f c) ≡ true
  ends_two f a b c first second ends =
      let no_more : no_more_in rows f a.op ≡ true = (and_parts (not (same_op a.op f.op)) (no_more_in rows f a.op) ends).1 in
      let by_b : no_more_in rows f b.op ≡ true = no_more_on f a b first no_more in
      let P : Bool → Type 0 = λ t. same_op b.op f.op ≡ t → (ends_with rows f b || ends_with rows f c) ≡ true in
      (elim (same_op b.op f.op) as P [
        | true ↦ λ one.
            let other : same_op c.op f.op ≡ false = subst (λ o. same_op c.op o ≡ false) (same_op_true b.op f.op one) (same_apart b c second) in
            or_right (ends_with rows f b) (ends_with rows f c) (ends_so f c other (no_more_on f b c second by_b))
        | false ↦ λ other. ap (λ t. t || ends_with rows f c) (ends_so f b other by_b)
      ]) refl

  -- by the last two of a stretch a raiser is ended where it is by one of all
  last_two : (f : WordWrite) (ws : List WordWrite) → Stretch ws → list_any (ends_with rows f) (drop (length ws - 2) ws) ≡ list_any (ends_with rows f) ws
  last_two f [] stretch = refl
  last_two f (a ∷ []) stretch = refl
  last_two f (a ∷ b ∷ []) stretch = refl
  last_two f (a ∷ b ∷ c ∷ ws) stretch =
      let less : length (a ∷ b ∷ c ∷ ws) - 2 ≡ suc (length (b ∷ c ∷ ws) - 2) = omega arith in
      ap (λ n. list_any (ends_with rows f) (drop n (a ∷ b ∷ c ∷ ws))) less
      ∙ last_two f (b ∷ c ∷ ws) stretch.1
      ∙ third_core (ends_with rows f a) (ends_with rows f b) (ends_with rows f c) (list_any (ends_with rows f) ws) (ends_two f a b c stretch.0.0 stretch.1.0.0)

  module _ (p : OpId) where
    -- Who is left out.

    pub run_leaves_out : (f : WordWrite) (run before beyond two : List WordWrite) (less : ℕ) (answer : Bool) → Stretch run → IsParted rows p run before beyond → less ≡ length before - 2 → two ≡ drop less before → answer ≡ list_any (ends_with rows f) two → answer ≡ left_out_in rows p run f
    run_leaves_out f run before beyond two less answer stretch parts less_is two_is answer_is =
        let L : WordWrite → Bool = leaves_out rows p f in
        let E : WordWrite → Bool = ends_with rows f in
        let two_so : two ≡ drop (length before - 2) before = two_is ∙ ap (λ n. drop n before) less_is in
        let firsts : list_any L before ≡ list_any E before = any_each L E before (Each-weaker (λ x. before_in rows x.op p ≡ true) (λ x. L x ≡ E x) (λ x is. ap (λ t. t && E x) is) before parts.low) in
        let none : list_any L beyond ≡ false = any_each L (λ x. false) beyond (Each-weaker (λ x. before_in rows x.op p ≡ false) (λ x. L x ≡ false) (λ x is. ap (λ t. t && E x) is) beyond parts.high) ∙ any_none (λ x. false) (λ x. refl) beyond in
        answer_is ∙ ap (list_any E) two_so ∙ last_two f before (stretch_front before beyond (subst Stretch (sym parts.all) stretch))
        ∙ sym (ap (list_any L) (sym parts.all) ∙ any_append L before beyond ∙ ap (λ b. list_any L before || b) none ∙ or_false (list_any L before) ∙ firsts)

    -- one of the stretches that leaves it out is enough
    pub guess_leaves_out : (f : WordWrite) (runs : List (List WordWrite)) (i : ℕ) (item run : List WordWrite) (answer : Bool) → i < length runs → item ≡ get_or runs i item → run ≡ item → answer ≡ left_out_in rows p run f → answer ≡ true → true ≡ left_out_in rows p (joined runs) f
    guess_leaves_out f runs i item run answer within is same answer_is met = sym (any_at (leaves_out rows p f) runs i item run within is same (sym answer_is ∙ met))

    -- what leaves a raiser out comes after it, so that it comes before the poll too
    left_before : (f x : WordWrite) → leaves_out rows p f x ≡ true → before_in rows f.op p ≡ true
    left_before f x is =
        let two = and_parts (before_in rows x.op p) (ends_with rows f x) is in
        let no_more : no_more_in rows f x.op ≡ true = (and_parts (not (same_op x.op f.op)) (no_more_in rows f x.op) two.1).1 in
        let rise = ordered.closed x.op p two.0 f.op.master in
        let own = ltb-true x.op.index (clock_in rows p x.op.master) two.0 in
        no_more_cases rows f x.op (before_in rows f.op p ≡ true) no_more
        (λ posted below. lt_true f.op.index (clock_in rows p f.op.master) (omega (arith, below, rise)))
        (λ same below. lt_true f.op.index (clock_in rows p f.op.master) (subst (λ m. f.op.index < clock_in rows p m) (sym same) (omega (arith, below, own))))
        (λ below. lt_true f.op.index (clock_in rows p f.op.master) (omega (arith, below, rise)))

    after_stays : (writes : List WordWrite) (f : WordWrite) → before_in rows f.op p ≡ false → left_out_in rows p writes f ≡ false
    after_stays writes f after = any_none (leaves_out rows p f) (λ x. not_so (leaves_out rows p f x) (λ is. sym (left_before f x is) ∙ after)) writes

    -- so all that do not come before it stay
    beyond_stay : (writes beyond : List WordWrite) → AllByRecursion (λ (w : WordWrite). before_in rows w.op p ≡ false) beyond → stay rows p writes beyond ≡ beyond
    beyond_stay writes beyond each =
        let test : WordWrite → Bool = λ f. not (left_out_in rows p writes f) in
        filter_all test beyond (Each-weaker (λ w. before_in rows w.op p ≡ false) (λ w. test w ≡ true) (λ w after. ap not (after_stays writes w after)) beyond each)

    -- of a stretch that comes before it the last leaves out the others
    last_leaves : (f last : WordWrite) → is_behind f last ≡ true → before_in rows last.op p ≡ true → leaves_out rows p f last ≡ true
    last_leaves f last behind before =
        ap (λ t. t && ends_with rows f last) before ∙ ends_so f last (same_apart f last behind) (no_more_stands rows f last.op (behind_same f last behind) (behind_less f last behind))

    pub last_stays : (writes before : List WordWrite) (last : WordWrite) (left : Bool) (found : Option WordWrite) → end_of before ≡ Some last → left ≡ left_out_in rows p writes last → list_of found ≡ cond left [] (last ∷ []) → Stretch before → AreBefore rows p before → AreAmong writes before
        → stay rows p writes before ≡ list_of found
    last_stays writes before last left found is left_is found_is stretch each among =
        let ends : EndsWith before last = ends_at before last is in
        let front : List WordWrite = ends.front in
        let test : WordWrite → Bool = λ f. not (left_out_in rows p writes f) in
        let so_far : AreBefore rows p (front ++ last ∷ []) = subst (AreBefore rows p) ends.is each in
        let last_before : before_in rows last.op p ≡ true = each_last (λ w. before_in rows w.op p ≡ true) front last so_far in
        let out : (f : WordWrite) → is_behind f last ≡ true → test f ≡ false = λ f behind.
        let here : list_any (leaves_out rows p f) (front ++ last ∷ []) ≡ true = any_last (leaves_out rows p f) front last (last_leaves f last behind last_before) in
        ap not (among (leaves_out rows p f) (ap (list_any (leaves_out rows p f)) ends.is ∙ here)) in
        let none : filter test front ≡ [] = filter_none test front (Each-weaker (λ w. is_behind w last ≡ true) (λ w. test w ≡ false) out front (before_end front last (subst Stretch ends.is stretch))) in
        let one : (b : Bool) → cond (not b) (last ∷ []) [] ≡ cond b [] (last ∷ []) = λ b. turned b (last ∷ []) in
        ap (filter test) ends.is ∙ filter_append test front (last ∷ []) ∙ ap (λ ws. ws ++ filter test (last ∷ [])) none
        ∙ one (left_out_in rows p writes last) ∙ sym (found_is ∙ ap (λ b. cond b [] (last ∷ [])) left_is)

    pub none_stays : (writes before : List WordWrite) → end_of before ≡ None → stay rows p writes before ≡ []
    none_stays writes before is = ap (filter (λ f. not (left_out_in rows p writes f))) (ends_not before is)

    -- of those that pass a test
    pub last_raiser_stays : (awaited : Awaited) (writes before : List WordWrite) (last : WordWrite) (left : Bool) (found : Option WordWrite) → Some last ≡ find (raises_it awaited) (reverse before) → left ≡ left_out_in rows p writes last → list_of found ≡ cond left [] (last ∷ []) → Stretch before → AreBefore rows p before → AreAmong writes before
        → stay rows p writes (filter (raises_it awaited) before) ≡ list_of found
    last_raiser_stays awaited writes before last left found is left_is found_is stretch each among =
        let kept : WordWrite → Bool = raises_it awaited in
        last_stays writes (filter kept before) last left found (sym (is ∙ last_found kept before)) left_is found_is (stretch_filter kept before stretch) (each_filter (λ w. before_in rows w.op p ≡ true) kept before each) (among_filter writes before kept among)

    pub no_raiser_stays : (awaited : Awaited) (writes before : List WordWrite) → None ≡ find (raises_it awaited) (reverse before) → stay rows p writes (filter (raises_it awaited) before) ≡ []
    no_raiser_stays awaited writes before is = none_stays writes (filter (raises_it awaited) before) (sym (is ∙ last_found (raises_it awaited) before))

    -- What a poll is told.

    past_low : (f : WordWrite) → before_in rows f.op p ≡ true → (other : ℕ) → clock_past rows f.op other ≤ clock_in rows p other
    past_low f before other =
        let known : ℕ = known_in rows f.op.master f.op.index other in
        let most : ℕ = clock_in rows p other in
        let P : Bool → Type 0 = λ b. (other == f.op.master) ≡ b → cond b (greater known f.op.index) known ≤ most → cond b (greater known (f.op.index + 1)) known ≤ most in
        (elim (other == f.op.master) as P [
          | true ↦ λ same low.
              let own : f.op.index < most = subst (λ m. f.op.index < clock_in rows p m) (sym (eqb-true other f.op.master same)) (ltb-true f.op.index (clock_in rows p f.op.master) before) in
              past_core known f.op.index most low own
          | false ↦ λ _ low. low
        ]) refl (ordered.closed f.op p before other)

    -- a raiser that comes before it tells it of nothing, whatever the others know
    told_nothing : (f : WordWrite) (ws : List WordWrite) → before_in rows f.op p ≡ true → TellsNothing rows p (f ∷ ws)
    told_nothing f ws before most other =
        let clock : ℕ = clock_past rows f.op other in
        let low = past_low f before other in
        let least = least_low clock most in
        let falls = known_falls rows ws (cond (nat_lt clock most) clock most) other in
        omega (arith, low, least, falls)

    nothing_behind : (xs ys : List WordWrite) → TellsNothing rows p ys → TellsNothing rows p (xs ++ ys)
    nothing_behind xs ys low most other =
        let is = known_append rows xs ys most other in
        let there = low (known_to rows xs most other) other in
        omega (arith, is, there)

    nothing_ahead : (xs ys : List WordWrite) → TellsNothing rows p xs → TellsNothing rows p (xs ++ ys)
    nothing_ahead xs ys low most other =
        let is = known_append rows xs ys most other in
        let here = low most other in
        let falls = known_falls rows ys (known_to rows xs most other) other in
        omega (arith, is, here, falls)

    nothing_alike : (these those : List WordWrite) → TellsNothing rows p these → TellsNothing rows p those → TellAlike rows p these those
    nothing_alike these those first second most other =
        greater_low (clock_in rows p other) (known_to rows these most other) (first most other) ∙ sym (greater_low (clock_in rows p other) (known_to rows those most other) (second most other))

    -- of those behind it the first knows what all do
    first_over : (w : WordWrite) (ws : List WordWrite) (n other : ℕ) → AllByRecursion (λ (v : WordWrite). is_behind w v ≡ true) ws → n ≤ clock_past rows w.op other → known_to rows ws n other ≡ n
    first_over w [] n other each low = refl
    first_over w (v ∷ ws) n other each low =
        ap (λ m. known_to rows ws m other) (no_less (clock_past rows w.op other) (clock_past rows v.op other) n low (behind_knows rows w v other ordered.rises each.0))
        ∙ first_over w ws n other each.1 low

    first_knows : (ws rest : List WordWrite) → Stretch ws → KnowAlike rows (first_in ws ++ rest) (ws ++ rest)
    first_knows [] rest stretch most other = refl
    first_knows (w ∷ ws) rest stretch most other =
        let n : ℕ = cond (nat_lt (clock_past rows w.op other) most) (clock_past rows w.op other) most in
        sym (known_append rows ws rest n other ∙ ap (λ m. known_to rows rest m other) (first_over w ws n other stretch.0 (least_low (clock_past rows w.op other) most)))

    -- A stretch of raisers.

    module _ (writes run before beyond : List WordWrite) (stretch : Stretch run) (parts : IsParted rows p run before beyond) where
      stay_parts : stay rows p writes run ≡ stay rows p writes before ++ beyond
      stay_parts =
          let test : WordWrite → Bool = λ f. not (left_out_in rows p writes f) in
          ap (filter test) (sym parts.all) ∙ filter_append test before beyond
          ∙ ap (λ ws. filter test before ++ ws) (beyond_stay writes beyond parts.high)

      pub before_stretch : Stretch before
      before_stretch = stretch_front before beyond (subst Stretch (sym parts.all) stretch)

      pub beyond_stretch : Stretch beyond
      beyond_stretch = stretch_back before beyond (subst Stretch (sym parts.all) stretch)

      pub before_among : AreAmong writes run → AreAmong writes before
      before_among among test some =
          among test (ap (list_any test) (sym parts.all) ∙ any_append test before beyond ∙ ap (λ b. b || list_any test beyond) some)

      -- one that comes before it stays
      pub run_ended : (last : WordWrite) (old new : List WordWrite) → stay rows p writes before ≡ list_of (Some last) → new ≡ old ++ last ∷ [] → PutsRun rows p writes run old new true
      run_ended last old new stays new_is =
          let test : WordWrite → Bool = λ f. not (left_out_in rows p writes f) in
          let B : WordWrite → Type 0 = λ w. before_in rows w.op p ≡ true in
          let one : AllByRecursion B (last ∷ []) = subst (AllByRecursion B) stays (each_filter B test before parts.low) in
          let all : stay rows p writes run ≡ last ∷ beyond = stay_parts ∙ ap (λ ws. ws ++ beyond) stays in
          record {
            alike = λ never. absurd (false≢true (sym never));
            nothing = λ _. (subst (TellsNothing rows p) (sym new_is) (nothing_behind old (last ∷ []) (told_nothing last [] one.0)), subst (TellsNothing rows p) (sym all) (told_nothing last beyond one.0));
          }

      -- or none does
      pub run_goes_on : (old new : List WordWrite) → stay rows p writes before ≡ list_of None → new ≡ old ++ first_in beyond → PutsRun rows p writes run old new false
      run_goes_on old new stays new_is =
          let all : stay rows p writes run ≡ beyond = stay_parts ∙ ap (λ ws. ws ++ beyond) stays in
          let behind : Stretch beyond = beyond_stretch in
          record {
            alike = λ _ rest most other.
                let K : List WordWrite → ℕ = λ ws. known_to rows ws most other in
                let n : ℕ = known_to rows old most other in
                ap K (ap (λ ws. ws ++ rest) new_is ∙ append_assoc old (first_in beyond) rest)
                ∙ known_append rows old (first_in beyond ++ rest) most other
                ∙ first_knows beyond rest behind n other
                ∙ sym (known_append rows old (beyond ++ rest) most other)
                ∙ ap (λ ws. K (old ++ (ws ++ rest))) (sym all);
            nothing = λ never. absurd (false≢true never);
          }

      -- Whether some run may come to one of it.

      pub run_reached : (answer behind : Bool) → answer ≡ (behind || list_any (is_reached_at rows) (stay rows p writes before)) → behind ≡ list_any (is_reached_at rows) beyond → answer ≡ list_any (is_reached_in rows p writes) run
      run_reached answer behind answer_is behind_is =
          let test : WordWrite → Bool = λ f. not (left_out_in rows p writes f) in
          let R : WordWrite → Bool = is_reached_at rows in
          answer_is ∙ ap (λ b. b || list_any R (stay rows p writes before)) behind_is
          ∙ or_swap (list_any R beyond) (list_any R (stay rows p writes before))
          ∙ sym (any_append R (stay rows p writes before) beyond)
          ∙ ap (list_any R) (sym stay_parts)
          ∙ any_filter test R run

    pub one_reached : (writes before : List WordWrite) (last : WordWrite) (answer : Bool) → stay rows p writes before ≡ list_of (Some last) → answer ≡ is_reached_at rows last → answer ≡ list_any (is_reached_at rows) (stay rows p writes before)
    one_reached writes before last answer stays is = is ∙ sym (or_false (is_reached_at rows last)) ∙ ap (list_any (is_reached_at rows)) (sym stays)

    -- Of all writes of a stretch those that are raisers.

    module _ (awaited : Awaited) (writes run before beyond : List WordWrite) (stretch : Stretch run) (parts : IsParted rows p run before beyond) where
      abbrev kept : WordWrite → Bool
      kept = raises_it awaited

      -- the last that comes before it stays
      pub raisers_ended : (last : WordWrite) (old new : List WordWrite) → stay rows p writes (filter kept before) ≡ list_of (Some last) → new ≡ old ++ last ∷ [] → PutsRun rows p writes (filter kept run) old new true
      raisers_ended = run_ended writes (filter kept run) (filter kept before) (filter kept beyond) (stretch_filter kept run stretch) (parted_filter rows p kept run before beyond parts)

      pub raisers_in : (found : Option WordWrite) → stay rows p writes (filter kept before) ≡ list_of found → IfSome found (λ last. PutsRun rows p writes (filter kept run) [] (last ∷ []) true)
      raisers_in None stays = tt
      raisers_in (Some last) stays = raisers_ended last [] (last ∷ []) stays refl

      pub raisers_go_on : (old new : List WordWrite) → stay rows p writes (filter kept before) ≡ list_of None → new ≡ old ++ first_in (filter kept beyond) → PutsRun rows p writes (filter kept run) old new false
      raisers_go_on = run_goes_on writes (filter kept run) (filter kept before) (filter kept beyond) (stretch_filter kept run stretch) (parted_filter rows p kept run before beyond parts)

      pub raisers_reached : (answer behind : Bool) → answer ≡ (behind || list_any (is_reached_at rows) (stay rows p writes (filter kept before))) → behind ≡ list_any (is_reached_at rows) (filter kept beyond) → answer ≡ list_any (λ f. kept f && is_reached_in rows p writes f) run
      raisers_reached answer behind answer_is behind_is =
          run_reached writes (filter kept run) (filter kept before) (filter kept beyond) (stretch_filter kept run stretch) (parted_filter rows p kept run before beyond parts) answer behind answer_is behind_is
          ∙ any_filter kept (is_reached_in rows p writes) run

    -- none of them comes before it
    pub raisers_beyond : (awaited : Awaited) (writes run raising old new : List WordWrite) → Stretch run → raising ≡ from_first (raises_it awaited) run → first_before rows p raising ≡ false → new ≡ old ++ first_in raising → PutsRun rows p writes (filter (raises_it awaited) run) old new false
    raisers_beyond awaited writes run raising old new stretch raising_is after new_is =
        let kept : WordWrite → Bool = raises_it awaited in
        let N : WordWrite → Type 0 = λ w. before_in rows w.op p ≡ false in
        let none : AllByRecursion N (from_first kept run) = none_before rows p (from_first kept run) (stretch_from kept run stretch) (sym (ap (first_before rows p) raising_is) ∙ after) in
        let high : AllByRecursion N (filter kept run) = subst (AllByRecursion N) (filter_from kept run) (each_filter N kept (from_first kept run) none) in
        run_goes_on writes (filter kept run) [] (filter kept run) (stretch_filter kept run stretch) (record { all = refl; low = tt; high = high }) old new refl
        (new_is ∙ ap (λ ws. old ++ first_in ws) raising_is ∙ ap (λ ws. old ++ ws) (first_from kept run))

    -- All stretches of writes among which raisers are.

    module _ (awaited : Awaited) (writes : List WordWrite) (raising : List (List WordWrite)) where
      abbrev those : List WordWrite → List WordWrite
      those these = staying rows p awaited writes these

      those_append : (xs ys : List WordWrite) → those (xs ++ ys) ≡ those xs ++ those ys
      those_append xs ys =
          let test : WordWrite → Bool = λ f. not (left_out_in rows p writes f) in
          let kept : WordWrite → Bool = raises_it awaited in
          ap (filter test) (filter_append kept xs ys) ∙ filter_append test (filter kept xs) (filter kept ys)

      pub none_told : (found : List WordWrite) → found ≡ [] → Told rows p awaited writes raising raising found
      none_told found none = record { alike = λ most other. ap (λ ws. known_to rows (ws ++ those (joined raising)) most other) none }

      those_cons : (i : ℕ) (item run : List WordWrite) → i < length raising → item ≡ get_or raising i item → run ≡ item → those (joined (drop i raising)) ≡ those run ++ those (joined (drop (i + 1) raising))
      those_cons i item run within is same = ap those (runs_cons raising i item run within is same) ∙ those_append run (joined (drop (i + 1) raising))

      pub told_on : (i : ℕ) (item run old new : List WordWrite) (ended : Bool) → i < length raising → item ≡ get_or raising i item → run ≡ item → PutsRun rows p writes (filter (raises_it awaited) run) old new ended → ended ≡ false → Told rows p awaited writes raising (drop i raising) old
          → Told rows p awaited writes raising (drop (i + 1) raising) new
      told_on i item run old new ended within is same puts is_not so_far = record {
        alike = λ most other.
            puts.alike is_not (those (joined (drop (i + 1) raising))) most other
            ∙ sym (ap (λ ws. known_to rows (old ++ ws) most other) (those_cons i item run within is same))
            ∙ so_far.alike most other;
      }

      pub told_ended : (i : ℕ) (item run old new : List WordWrite) (ended : Bool) → i < length raising → item ≡ get_or raising i item → run ≡ item → PutsRun rows p writes (filter (raises_it awaited) run) old new ended → ended ≡ true → TellAlike rows p new (those (joined raising))
      told_ended i item run old new ended within is same puts answer =
          let front : List (List WordWrite) = take i raising in
          let rest : List WordWrite = joined (drop (i + 1) raising) in
          let nothing = puts.nothing answer in
          let here : List WordWrite = those run ++ those rest in
          let whole : those (joined raising) ≡ those (joined front) ++ here =
          ap (λ rs. those (joined rs)) (sym (take-append-drop i raising)) ∙ ap those (joined_append front (drop i raising)) ∙ those_append (joined front) (joined (drop i raising))
          ∙ ap (λ ws. those (joined front) ++ ws) (those_cons i item run within is same) in
          let low : TellsNothing rows p (those (joined front) ++ here) = nothing_behind (those (joined front)) here (nothing_ahead (those run) (those rest) nothing.1) in
          λ most other.
          nothing_alike new (those (joined front) ++ here) nothing.0 low most other
          ∙ ap (λ ws. most_in rows p ws most other) (sym whole)

      -- those so far tell it nothing, and so do all
      pub told_enough : (i : ℕ) (found : List WordWrite) → TellsNothing rows p found → Told rows p awaited writes raising (drop i raising) found → TellAlike rows p found (those (joined raising))
      told_enough i found nothing so_far =
          let rest : List WordWrite = those (joined (drop i raising)) in
          let low : TellsNothing rows p (those (joined raising)) = λ most other.
          let here = nothing_ahead found rest nothing most other in
          let same = so_far.alike most other in
          omega (arith, here, same) in
          nothing_alike found (those (joined raising)) nothing low

      pub told_all : (i : ℕ) (found : List WordWrite) → length raising ≤ i → Told rows p awaited writes raising (drop i raising) found → TellAlike rows p found (those (joined raising))
      told_all i found past so_far most other =
          let none : those (joined (drop i raising)) ≡ [] = ap those (runs_none raising i past) in
          ap (greater (clock_in rows p other)) (sym (ap (λ ws. known_to rows ws most other) (ap (λ ws. found ++ ws) none ∙ append-nil found)) ∙ so_far.alike most other)

  -- No run comes to those of a stretch whose index is below what is known of their program before the first of them.

  abbrev counts_more : WordWrite → WordWrite → Type 0
  counts_more first v = (clock_in rows first.op first.op.master ≤ clock_in rows v.op first.op.master) × (v.op.master ≡ first.op.master)

  unreached : (first v : WordWrite) → counts_more first v → v.op.index < clock_in rows first.op first.op.master → is_reached_at rows v ≡ false
  unreached first v more less =
      let rise = more.0 in
      let here : v.op.index < clock_in rows v.op v.op.master = subst (λ m. v.op.index < clock_in rows v.op m) (sym more.1) (omega (arith, rise, less)) in
      ap not (lt_true v.op.index (clock_in rows v.op v.op.master) here)

  none_kept : (awaited : Awaited) (ws : List WordWrite) → AllByRecursion (λ (w : WordWrite). is_reached_at rows w ≡ false) ws → list_any (λ f. raises_it awaited f && is_reached_at rows f) ws ≡ false
  none_kept awaited ws each =
      let T : WordWrite → Bool = λ f. raises_it awaited f && is_reached_at rows f in
      any_each T (λ f. false) ws (Each-weaker (λ w. is_reached_at rows w ≡ false) (λ w. T w ≡ false) (λ w is. and_not (raises_it awaited w) (is_reached_at rows w) is) ws each)
      ∙ any_none (λ f. false) (λ f. refl) ws

  reached_core : (awaited : Awaited) (w : WordWrite) (ws : List WordWrite) (count : ℕ) → Stretch (w ∷ ws) → PartsAt (clock_in rows w.op w.op.master) (w ∷ ws) count → list_any (λ f. raises_it awaited f && is_reached_at rows f) (drop count (w ∷ ws)) ≡ list_any (is_reached_at rows) (filter (raises_it awaited) (w ∷ ws))
  reached_core awaited w ws count stretch parts =
      let T : WordWrite → Bool = λ f. raises_it awaited f && is_reached_at rows f in
      let front : List WordWrite = take count (w ∷ ws) in
      let behind : List WordWrite = drop count (w ∷ ws) in
      let L : WordWrite → Type 0 = λ v. v.op.index < clock_in rows w.op w.op.master in
      let more : AllByRecursion (counts_more w) (w ∷ ws) = ((omega arith, refl), Each-weaker (λ v. is_behind w v ≡ true) (counts_more w) (λ v is. (behind_clock w v is w.op.master, sym (behind_same w v is))) ws stretch.0) in
      let none : AllByRecursion (λ (v : WordWrite). is_reached_at rows v ≡ false) front =
      Each-weaker (λ v. counts_more w v × L v) (λ v. is_reached_at rows v ≡ false) (λ v two. unreached w v two.0 two.1) front (Each-both (counts_more w) L front (each_take (counts_more w) count (w ∷ ws) more) parts.low) in
      sym (any_filter (raises_it awaited) (is_reached_at rows) (w ∷ ws)
      ∙ ap (list_any T) (sym (take-append-drop count (w ∷ ws))) ∙ any_append T front behind ∙ ap (λ b. b || list_any T behind) (none_kept awaited front none))

  pub some_reached : (awaited : Awaited) (writes rest : List WordWrite) (d : WordWrite) (known count : ℕ) (answer : Bool) → 1 ≤ length writes → known ≡ clock_in rows (get_or writes 0 d).op (get_or writes 0 d).op.master → Stretch writes → PartsAt known writes count → rest ≡ drop count writes
      → answer ≡ list_any (λ f. raises_it awaited f && is_reached_at rows f) rest → answer ≡ list_any (is_reached_at rows) (filter (raises_it awaited) writes)
  some_reached awaited [] rest d known count answer some known_is stretch parts rest_is is = absurd (omega (arith, some))
  some_reached awaited (w ∷ ws) rest d known count answer some known_is stretch parts rest_is is =
      is ∙ ap (list_any (λ f. raises_it awaited f && is_reached_at rows f)) rest_is ∙ reached_core awaited w ws count stretch (subst (λ n. PartsAt n (w ∷ ws) count) known_is parts)

  pub none_reached : (awaited : Awaited) (writes : List WordWrite) → length writes < 1 → false ≡ list_any (is_reached_at rows) (filter (raises_it awaited) writes)
  none_reached awaited [] none = refl
  none_reached awaited (w ∷ ws) none = absurd (omega (arith, none))

-- each of a stretch is one of all
pub among_at : (writes : List WordWrite) (runs : List (List WordWrite)) (i : ℕ) (item run : List WordWrite) → i < length runs → item ≡ get_or runs i item → run ≡ item → AreAmong writes (joined runs) → AreAmong writes run
among_at writes runs i item run within is same among test some = among test (any_at test runs i item run within is same some)
