-- Which tables are consistent, by tests: each poll has at most what they say may be known behind it.
use Rattle.std.proofs.Common.{◌≡◌, ℕ, ◌<◌, ◌≤◌, Bool, true, false, not, ◌&&◌, ◌||◌, cond, nat_lt, List, [], ◌∷◌, map, Option, Some, None, refl, sym, ap, subst, ◌∙◌, arith, slice_get, ◌⊎◌, inl, inr, ⊎_elim}
use Rattle.std.specs.List.{filter, list_any}
use Rattle.std.proofs.lemmas.Bool.{and_parts}
use Rattle.std.proofs.lemmas.Bool.Decides.{nat_tests}
use Rattle.pci_command.specs.declared.op_id.OpId.{OpId}
use Rattle.pci_command.specs.Same.{same_op}
use Rattle.board_model.specs.declared.op.Want.{Want}
use Rattle.board_model.specs.declared.op.Op.{Op}
use Rattle.board_model.specs.declared.op.Op.TheVariants.{Read, Write, CfgRead, CfgWrite, Poll}
use Rattle.board_model.specs.declared.board.Board.{Board}
use Rattle.board_model.specs.Requests.{op_of}
use Rattle.board_model.specs.Ways.{Dword}
use Rattle.history_model.specs.Knowledge.{words_named}
use Rattle.history_model.proofs.facts.RequestLemmas.{same_op_true, same_op_self}
use Rattle.board_model.proofs.Laws.{op_there}
use Rattle.safe_model.specs.Raisers.{Raises}
use Rattle.safe_model.specs.Clocks.{Table, is_poll, at_place, greater, clock_of, clock_with, LeftOut, RaiserKnows, RaisersKnow, IsKnown, Awaits, IsConsistent}
use Rattle.safe_model.specs.largest.Tests.{writes_of, Wish, wish_in, wish_of, raises, is_firm, opens_out, is_left_out, raisers, least, program_of, known_by_all, told_to, most_known}
use Rattle.safe_model.specs.largest.Largest.{IsWithin, IsLargest}
use Rattle.safe_model.proofs.tables.TableLemmas.{AtMost, greater_first, greater_second, greater_least, clock_more, with_more, left_more, opens_more}
use Rattle.safe_model.proofs.largest.TestLemmas.{either_way, not_both, not_false, any_both, some_write, left_is, is_left, opens_is, is_opens, raises_brings, firm_is, is_firm_so}

-- The least of numbers.

below_step : (x most n : ℕ) → x ≤ most → x ≤ n → x ≤ cond (nat_lt n most) n most
below_step x most n of_most of_n =
    let P : Bool → Type 0 = λ b. x ≤ cond b n most in
    elim (nat_lt n most) as P [ true ↦ of_n | false ↦ of_most ]

step_below : (most n : ℕ) → (cond (nat_lt n most) n most ≤ most) × (cond (nat_lt n most) n most ≤ n)
step_below most n =
    let P : Bool → Type 0 = λ b. nat_lt n most ≡ b → (cond b n most ≤ most) × (cond b n most ≤ n) in
    (elim (nat_lt n most) as P [
      | true ↦ λ less. let below : n < most = grind (arith, nat_tests) in (omega (arith, below), omega arith)
      | false ↦ λ none. let more : most ≤ n = grind (arith, nat_tests) in (omega arith, more)
    ]) refl

least_most : (most : ℕ) (ns : List ℕ) → least most ns ≤ most
least_most most [] = omega arith
least_most most (n ∷ ns) =
    let here = step_below most n in
    let later = least_most (cond (nat_lt n most) n most) ns in
    let first : cond (nat_lt n most) n most ≤ most = here.0 in
    omega (arith, first, later)

module _ (f : OpId → ℕ) where
  -- it is at most that of each that is listed
  least_of : (most : ℕ) (xs : List OpId) (w : OpId) → list_any (same_op w) xs ≡ true → least most (map f xs) ≤ f w
  least_of most [] w among = cc
  least_of most (x ∷ xs) w among =
      let next : ℕ = cond (nat_lt (f x) most) (f x) most in
      let P : Bool → Type 0 = λ b. same_op w x ≡ b → (b || list_any (same_op w) xs) ≡ true → least next (map f xs) ≤ f w in
      (elim (same_op w x) as P [
        | true ↦ λ same _.
            let here : next ≤ f x = (step_below most (f x)).1 in
            let later : least next (map f xs) ≤ next = least_most next (map f xs) in
            let there : least next (map f xs) ≤ f x = omega (arith, here, later) in
            subst (λ o. least next (map f xs) ≤ f o) (sym (same_op_true w x same)) there
        | false ↦ λ _ later. least_of next xs w later
      ]) refl among

  -- and at least what is at most each that is kept
  least_from : (x most : ℕ) (kept : OpId → Bool) (xs : List OpId) → x ≤ most → ((w : OpId) → kept w ≡ true → x ≤ f w) → x ≤ least most (map f (filter kept xs))
  least_from x most kept [] of_most each = of_most
  least_from x most kept (o ∷ xs) of_most each =
      let K : Bool → Type 0 = λ b. kept o ≡ b → x ≤ least most (map f (cond b (o ∷ filter kept xs) (filter kept xs))) in
      (elim (kept o) as K [
        | true ↦ λ keeps. least_from x (cond (nat_lt (f o) most) (f o) most) kept xs (below_step x most (f o) of_most (each o keeps)) each
        | false ↦ λ _. least_from x most kept xs of_most each
      ]) refl

-- What a poll waits for.

wish_is : (board : Board) (p : OpId) (want : Want) (word : Dword) → Awaits board p want → words_named board p ≡ word ∷ [] → wish_of board p ≡ Some (record { word = word; want = want })
wish_is board p want word awaits has_word =
    ap (λ ws. wish_in ws (op_of board p)) has_word ∙ ap (wish_in (word ∷ [])) awaits.3

-- a poll that has a word
pub record HasWish (board : Board) (p : OpId) (wish : Wish) : Type 0 where
  pub has_word : words_named board p ≡ wish.word ∷ []
  pub awaits : Awaits board p wish.want

pub has_wish : (board : Board) (p : OpId) (wish : Wish) → wish_of board p ≡ Some wish → HasWish board p wish
has_wish board p wish is = by_words (words_named board p) refl is
  where
    by_op : (word : Dword) (op : Option Op) → words_named board p ≡ word ∷ [] → op_of board p ≡ op → wish_in (word ∷ []) op ≡ Some wish → HasWish board p wish
    by_op word None has_word is_op e = cc
    by_op word (Some (Read command address)) has_word is_op e = cc
    by_op word (Some (Write command address phases)) has_word is_op e = cc
    by_op word (Some (CfgRead bus device register)) has_word is_op e = cc
    by_op word (Some (CfgWrite bus device register phase)) has_word is_op e = cc
    by_op word (Some (Poll space address want tries)) has_word is_op e =
        let built : Wish = record { word = word; want = want } in
        let made : HasWish board p built = record { has_word = has_word; awaits = (space, address, tries, is_op) } in
        let same : built ≡ wish = cc in
        subst (HasWish board p) same made

    by_words : (words : List Dword) → words_named board p ≡ words → wish_in words (op_of board p) ≡ Some wish → HasWish board p wish
    by_words [] has_word e = cc
    by_words (word ∷ []) has_word e = by_op word (op_of board p) has_word refl e
    by_words (word ∷ second ∷ rest) has_word e = cc

-- The tests of a poll, and the relations.

module _ (board : Board) (table : Table) (p : OpId) (wish : Wish) where
  -- a raiser that stays is listed, and what is listed is one
  kept_raises : (f : OpId) → (raises board wish f && not (is_left_out board table p wish.word f)) ≡ true → Raises board wish.want wish.word f × (is_left_out board table p wish.word f ≡ false)
  kept_raises f is =
      let two = and_parts (raises board wish f) (not (is_left_out board table p wish.word f)) is in
      (two.0, not_false (is_left_out board table p wish.word f) two.1)

  pub known_below : (f : OpId) (other : ℕ) → Raises board wish.want wish.word f → is_left_out board table p wish.word f ≡ false → known_by_all board table (raisers board table p wish) other ≤ clock_with board table f other
  known_below f other raises_it stays =
      let raises_so : raises board wish f ≡ true = raises_it in
      let both : (raises board wish f && not (is_left_out board table p wish.word f)) ≡ true = rw (raises_so, stays) refl in
      let same : same_op f f ≡ true = same_op_self f in
      let twice : ((raises board wish f && not (is_left_out board table p wish.word f)) && same_op f f) ≡ true = rw (both, same) refl in
      let among : list_any (same_op f) (raisers board table p wish) ≡ true =
      any_both (λ g. raises board wish g && not (is_left_out board table p wish.word g)) (same_op f) (writes_of board wish.word)
      ∙ some_write board wish.word (λ g. (raises board wish g && not (is_left_out board table p wish.word g)) && same_op f g) f (raises_brings board wish f raises_it) twice in
      least_of (λ g. clock_with board table g other) (program_of board other) (raisers board table p wish) f among

  pub below_known : (x other : ℕ) → x ≤ program_of board other → ((f : OpId) → Raises board wish.want wish.word f → is_left_out board table p wish.word f ≡ false → x ≤ clock_with board table f other) → x ≤ known_by_all board table (raisers board table p wish) other
  below_known x other most each =
      least_from (λ g. clock_with board table g other) x (program_of board other) (λ f. raises board wish f && not (is_left_out board table p wish.word f)) (writes_of board wish.word) most
      (λ f keeps. let it = kept_raises f keeps in each f it.0 it.1)

  -- what is told, where the tests of the poll pass
  pub told_where : (other : ℕ) → is_firm board wish ≡ true → opens_out board table p wish ≡ true → told_to board table p (Some wish) other ≡ known_by_all board table (raisers board table p wish) other
  told_where other firm opens = rw (firm, opens) refl

  -- and nothing where not
  pub told_none : (other : ℕ) → (is_firm board wish && opens_out board table p wish) ≡ false → told_to board table p (Some wish) other ≡ 0
  told_none other none = rw none refl

-- so what is known by the raisers is told
raisers_told : (board : Board) (table : Table) (p : OpId) (want : Want) (other : ℕ) → IsWithin board table → Awaits board p want → RaisersKnow board table p want other → table p.master p.index other ≤ told_to board table p (wish_of board p) other
raisers_told board table p want other within awaits known =
    let wish : Wish = record { word = known.0; want = want } in
    let firm : is_firm board wish ≡ true = is_firm_so board wish p known.1 in
    let opens : opens_out board table p wish ≡ true = is_opens board table p wish known.2 in
    let x : ℕ = table p.master p.index other in
    let below : x ≤ known_by_all board table (raisers board table p wish) other = below_known board table p wish x other (within p.master p.index other) (λ f raises_it stays.
    ⊎_elim {C = x ≤ clock_with board table f other}
    (λ (left : LeftOut board table p known.0 f). not_both (is_left_out board table p known.0 f) (is_left board table p known.0 f left) stays (x ≤ clock_with board table f other))
    (λ (knows : x ≤ clock_with board table f other). knows)
    (known.3 f raises_it)) in
    let T : ℕ → Type 0 = λ n. x ≤ n in
    let here : T (told_to board table p (Some wish) other) = subst T (sym (told_where board table p wish other firm opens)) below in
    subst (λ found. T (told_to board table p found other)) (sym (wish_is board p want known.0 awaits known.1.has_word)) here

told_raisers : (board : Board) (table : Table) (p : OpId) (want : Want) (other : ℕ) → Awaits board p want → table p.master p.index other ≤ told_to board table p (wish_of board p) other → IsKnown board table p want other
told_raisers board table p want other awaits told = by_wish (wish_of board p) refl told
  where
    same_awaits : (found : Want) → Awaits board p found → (X : Want → Type 0) → X found → X want
    same_awaits found it X is =
        let e : ◌≡◌ {A = Option Op} (Some (Poll it.0 it.1 found it.2)) (Some (Poll awaits.0 awaits.1 want awaits.2)) = sym it.3 ∙ awaits.3 in
        let same : found ≡ want = cc in
        subst X same is

    of_wish : (wish : Wish) → HasWish board p wish → table p.master p.index other ≤ told_to board table p (Some wish) other → IsKnown board table p want other
    of_wish wish has told_it =
        let P : Bool → Type 0 = λ b. (is_firm board wish && opens_out board table p wish) ≡ b → table p.master p.index other ≤ cond b (known_by_all board table (raisers board table p wish) other) 0 → IsKnown board table p want other in
        (elim (is_firm board wish && opens_out board table p wish) as P [
          | true ↦ λ both below.
              let two = and_parts (is_firm board wish) (opens_out board table p wish) both in
              let firm = firm_is board wish p has.has_word two.0 in
              let opens = opens_is board table p wish two.1 in
              let known : (f : OpId) → Raises board wish.want wish.word f → RaiserKnows board table p wish.word other f = λ f raises_it.
              ⊎_elim {C = RaiserKnows board table p wish.word other f}
              (λ (left : is_left_out board table p wish.word f ≡ true). inl (left_is board table p wish.word f left))
              (λ (stays : is_left_out board table p wish.word f ≡ false). let most = known_below board table p wish f other raises_it stays in inr (omega (arith, below, most)))
              (either_way (is_left_out board table p wish.word f)) in
              inr (same_awaits wish.want has.awaits (λ w. RaisersKnow board table p w other) (wish.word, firm, opens, known))
          | false ↦ λ _ none. inl (omega (arith, none))
        ]) refl told_it

    by_wish : (found : Option Wish) → wish_of board p ≡ found → table p.master p.index other ≤ told_to board table p found other → IsKnown board table p want other
    by_wish None is told_it = inl (omega (arith, told_it))
    by_wish (Some wish) is told_it = of_wish wish (has_wish board p wish is) told_it

-- A poll awaits something.

awaits_poll : (board : Board) (p : OpId) (want : Want) → Awaits board p want → is_poll (op_of board p) ≡ true
awaits_poll board p want awaits = ap is_poll awaits.3

pub poll_awaits : (board : Board) (p : OpId) → is_poll (op_of board p) ≡ true → (want : Want) × Awaits board p want
poll_awaits board p is = by_op (op_of board p) refl is
  where
    by_op : (op : Option Op) → op_of board p ≡ op → is_poll op ≡ true → (want : Want) × Awaits board p want
    by_op None is_op e = cc
    by_op (Some (Read command address)) is_op e = cc
    by_op (Some (Write command address phases)) is_op e = cc
    by_op (Some (CfgRead bus device register)) is_op e = cc
    by_op (Some (CfgWrite bus device register phase)) is_op e = cc
    by_op (Some (Poll space address want tries)) is_op e = (want, (space, address, tries, is_op))

-- A poll is one by each of its tries.

pub first_try : (board : Board) (p : OpId) → is_poll (op_of board p) ≡ true → is_poll (op_of board (at_place p.master p.index)) ≡ true
first_try board p is =
    let awaits = poll_awaits board p is in
    let there = op_there board p (Poll awaits.1.0 awaits.1.1 awaits.0 awaits.1.2) awaits.1.3 in
    let tried = there.tried in
    let some : nat_lt 0 awaits.1.2 ≡ true = grind (arith, nat_tests) in
    let is_master : slice_get board.masters p.master ≡ Some there.master = there.is_master in
    let is_op : slice_get there.master.ops p.index ≡ Some (Poll awaits.1.0 awaits.1.1 awaits.0 awaits.1.2) = there.is_op in
    rw (is_master, is_op, some) refl

split_greater : (x a b : ℕ) → x ≤ greater a b → (x ≤ a) ⊎ (x ≤ b)
split_greater x a b is =
    let P : Bool → Type 0 = λ t. x ≤ cond t b a → (x ≤ a) ⊎ (x ≤ b) in
    (elim (nat_lt a b) as P [ true ↦ λ second. inr second | false ↦ λ first. inl first ]) is

-- each poll has at most what the tests say
abbrev pub PassesTests : Board → Table → Type 0
PassesTests board table = (p : OpId) → is_poll (op_of board p) ≡ true → (other : ℕ) → table p.master p.index other ≤ most_known board table p other

pub consistent_passes : (board : Board) (table : Table) → IsWithin board table → IsConsistent board table → PassesTests board table
consistent_passes board table within consistent p is other =
    let awaits = poll_awaits board p is in
    let clock : ℕ = clock_of board table p other in
    let told : ℕ = told_to board table p (wish_of board p) other in
    ⊎_elim {C = table p.master p.index other ≤ greater clock told}
    (λ (own : table p.master p.index other ≤ clock). let most = greater_first clock told in omega (arith, own, most))
    (λ (known : RaisersKnow board table p awaits.0 other).
    let below = raisers_told board table p awaits.0 other within awaits.1 known in
    let most = greater_second clock told in
    omega (arith, below, most))
    (consistent p awaits.0 awaits.1 other)

pub passes_consistent : (board : Board) (table : Table) → PassesTests board table → IsConsistent board table
passes_consistent board table passes p want awaits other =
    let clock : ℕ = clock_of board table p other in
    let told : ℕ = told_to board table p (wish_of board p) other in
    ⊎_elim {C = IsKnown board table p want other}
    (λ (own : table p.master p.index other ≤ clock). inl own)
    (λ (below : table p.master p.index other ≤ told). told_raisers board table p want other awaits below)
    (split_greater (table p.master p.index other) clock told (passes p (awaits_poll board p want awaits) other))

-- By a greater table more may be known.

told_grows : (board : Board) (s t : Table) → AtMost board s t → (p : OpId) (found : Option Wish) (other : ℕ) → told_to board s p found other ≤ told_to board t p found other
told_grows board s t more p None other = omega arith
told_grows board s t more p (Some wish) other =
    let P : Bool → Type 0 = λ b. (is_firm board wish && opens_out board s p wish) ≡ b → cond b (known_by_all board s (raisers board s p wish) other) 0 ≤ told_to board t p (Some wish) other in
    (elim (is_firm board wish && opens_out board s p wish) as P [
      | true ↦ λ both.
          let two = and_parts (is_firm board wish) (opens_out board s p wish) both in
          let opens : opens_out board t p wish ≡ true = is_opens board t p wish (opens_more board s t more p wish.want wish.word (opens_is board s p wish two.1)) in
          let known : ℕ = known_by_all board s (raisers board s p wish) other in
          let below : known ≤ known_by_all board t (raisers board t p wish) other = below_known board t p wish known other (least_most (program_of board other) (map (λ f. clock_with board s f other) (raisers board s p wish))) (λ f raises_it stays.
          let stays_s : is_left_out board s p wish.word f ≡ false = ⊎_elim {C = is_left_out board s p wish.word f ≡ false}
          (λ (left : is_left_out board s p wish.word f ≡ true). not_both (is_left_out board t p wish.word f) (is_left board t p wish.word f (left_more board s t more p wish.word f (left_is board s p wish.word f left))) stays (is_left_out board s p wish.word f ≡ false))
          (λ (none : is_left_out board s p wish.word f ≡ false). none)
          (either_way (is_left_out board s p wish.word f)) in
          let here = known_below board s p wish f other raises_it stays_s in
          let most = with_more board s t more f other in
          omega (arith, here, most)) in
          subst (λ n. known ≤ n) (sym (told_where board t p wish other two.0 opens)) below
      | false ↦ λ _. omega arith
    ]) refl

pub most_known_grows : (board : Board) (s t : Table) → AtMost board s t → (p : OpId) (other : ℕ) → most_known board s p other ≤ most_known board t p other
most_known_grows board s t more p other =
    let clock : ℕ = clock_of board t p other in
    let told : ℕ = told_to board t p (wish_of board p) other in
    let first = clock_more board s t more p other in
    let second = told_grows board s t more p (wish_of board p) other in
    let one = greater_first clock told in
    let two = greater_second clock told in
    greater_least (clock_of board s p other) (told_to board s p (wish_of board p) other) (greater clock told) (omega (arith, first, one)) (omega (arith, second, two))

-- From the top.

-- where a table is above all that are consistent, so is what the tests say that may be known at most
pub stays_above : (board : Board) (s t : Table) → IsConsistent board s → IsWithin board s → AtMost board s t → (p : OpId) → is_poll (op_of board p) ≡ true → (other : ℕ) → s p.master p.index other ≤ most_known board t p other
stays_above board s t consistent within more p is other =
    let here = consistent_passes board s within consistent p is other in
    let there = most_known_grows board s t more p other in
    omega (arith, here, there)

-- so one that is above all, and passes the tests, is the largest
pub passes_largest : (board : Board) (table : Table) → IsWithin board table → PassesTests board table → ((t : Table) → IsConsistent board t → IsWithin board t → AtMost board t table) → IsLargest board table
passes_largest board table within passes above =
    record {
      consistent = passes_consistent board table passes;
      within = within;
      largest = λ t consistent of_t p is other. above t consistent of_t p.master p.index (first_try board p is) other;
    }
