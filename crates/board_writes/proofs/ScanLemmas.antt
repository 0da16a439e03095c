-- Values that are looked through for one that meets what is waited for, and the writes that bring them.
use Rattle.std.proofs.Common.{◌≡◌, ℕ, suc, ◌+◌, ◌-◌, ◌<◌, ◌≤◌, Bool, true, false, ◌||◌, not, eqb, eq-eqb, cond, List, [], ◌∷◌, ◌++◌, length, take, drop, map, get_or, reverse, Option, Some, None, refl, sym, ap, ◌∙◌, arith}
use Rattle.std.specs.List.{filter, find, list_any, prefix_len}
use Rattle.std.proofs.Math.Seq.{drop-cons, take-suc}
use Rattle.std.proofs.lemmas.Bool.{false≢true}
use Rattle.std.proofs.lemmas.Bool.Decides.{nat_tests}
use Rattle.std.proofs.lemmas.List.{take-append-drop, drop_all, drop-map, take-map, length-take-le, length-drop}
use Rattle.std.proofs.lemmas.List.Folds.{prefix_len-append, list_any-append}
use Rattle.std.proofs.lemmas.List.Sums.{prefix_len-le-length}
use Rattle.safe_model.specs.Raisers.{is_met_by}
use Rattle.board_writes.specs.declared.polls.awaited.Awaited.{Awaited}
use Rattle.board_writes.specs.declared.writers.write.WordWrite.{WordWrite}
use Rattle.board_writes.specs.Polls.{raises_it}
use Rattle.board_writes.specs.Stretches.{value_in, from_first, count_to_last, end_of}
use Rattle.board_writes.proofs.StretchLemmas.{ends_not}
use Rattle.board_writes.proofs.StayLemmas.{last_found, or_then, end_behind}

differ : (a b : ℕ) → a < b → eqb a b ≡ false
differ a b less = grind (arith, nat_tests)

-- Numbers before the first that passes a test.

module _ (test : ℕ → Bool) where
  abbrev fails : ℕ → Bool
  fails n = not (test n)

  abbrev pub before_first : List ℕ → ℕ
  before_first ns = prefix_len fails ns

  pub none_first : (ns : List ℕ) → list_any test ns ≡ false → length ns ≡ before_first ns
  none_first [] none = refl
  none_first (n ∷ ns) none =
      let P : Bool → Type 0 = λ b. (b || list_any test ns) ≡ false → length (n ∷ ns) ≡ cond (not b) (1 + before_first ns) 0 in
      (elim (test n) as P [ true ↦ λ never. absurd (false≢true (sym never)) | false ↦ λ later. let rest = none_first ns later in omega (arith, rest) ]) none

  before_cons : (ns : List ℕ) (i : ℕ) (d : ℕ) → i < length ns → before_first (drop i ns) ≡ cond (not (test (get_or ns i d))) (1 + before_first (drop (i + 1) ns)) 0
  before_cons ns i d within =
      let more : suc i ≡ i + 1 = omega arith in
      let n : ℕ = get_or ns i d in
      ap before_first (drop-cons ns i d within) ∙ ap (λ k. cond (not (test n)) (1 + before_first (drop k ns)) 0) more

  -- one more that fails
  pub first_on : (ns : List ℕ) (i d : ℕ) → i < length ns → test (get_or ns i d) ≡ false → i + before_first (drop i ns) ≡ before_first ns → (i + 1) + before_first (drop (i + 1) ns) ≡ before_first ns
  first_on ns i d within fail so_far =
      let here : before_first (drop i ns) ≡ 1 + before_first (drop (i + 1) ns) = before_cons ns i d within ∙ ap (λ b. cond (not b) (1 + before_first (drop (i + 1) ns)) 0) fail in
      omega (arith, here, so_far)

  -- or one that passes
  pub first_here : (ns : List ℕ) (i d : ℕ) → i < length ns → test (get_or ns i d) ≡ true → i + before_first (drop i ns) ≡ before_first ns → i ≡ before_first ns
  first_here ns i d within pass so_far =
      let here : before_first (drop i ns) ≡ 0 = before_cons ns i d within ∙ ap (λ b. cond (not b) (1 + before_first (drop (i + 1) ns)) 0) pass in
      omega (arith, here, so_far)

  pub first_past : (ns : List ℕ) (i : ℕ) → length ns ≤ i → i + before_first (drop i ns) ≡ before_first ns → i ≡ before_first ns
  first_past ns i past so_far =
      let here : before_first (drop i ns) ≡ 0 = ap before_first (drop_all i ns past) in
      omega (arith, here, so_far)

  both_parts : (ns xs ys : List ℕ) (i : ℕ) → xs ≡ take i ns → ys ≡ drop i ns → xs ++ ys ≡ ns
  both_parts ns xs ys i front back = ap (λ zs. zs ++ ys) front ∙ ap (λ zs. take i ns ++ zs) back ∙ take-append-drop i ns

  before_in_two : (ns xs ys : List ℕ) (i : ℕ) → xs ≡ take i ns → ys ≡ drop i ns → before_first ns ≡ cond (eqb (before_first xs) (length xs)) (length xs + before_first ys) (before_first xs)
  before_in_two ns xs ys i front back = ap before_first (sym (both_parts ns xs ys i front back)) ∙ prefix_len-append fails xs ys

  -- of all these the first is among the first so many
  pub found_close : (all ns xs ys : List ℕ) (i count : ℕ) → xs ≡ take i ns → ys ≡ drop i ns → i ≤ length ns → count ≡ before_first xs → count < i → length xs ≡ i → length ns ≤ length all → (length all - length ns) + before_first ns ≡ before_first all
      → (length all - length ns) + count ≡ before_first all
  found_close all ns xs ys i count front back within count_is less few low so_far =
      let other : eqb (before_first xs) (length xs) ≡ false = sym (ap (λ k. eqb k (length xs)) count_is) ∙ ap (eqb count) few ∙ differ count i less in
      let here : before_first ns ≡ count = before_in_two ns xs ys i front back ∙ ap (λ b. cond b (length xs + before_first ys) (before_first xs)) other ∙ sym count_is in
      sym (ap (λ k. (length all - length ns) + k) here) ∙ so_far

  -- or among the others
  pub found_later : (all ns xs ys : List ℕ) (i count : ℕ) → xs ≡ take i ns → ys ≡ drop i ns → i ≤ length ns → count ≡ before_first xs → i ≤ count → length xs ≡ i → length ns ≤ length all → (length all - length ns) + before_first ns ≡ before_first all
      → (length all - length ys) + before_first ys ≡ before_first all
  found_later all ns xs ys i count front back within count_is more few low so_far =
      let most : before_first xs ≤ length xs = prefix_len-le-length fails xs in
      let same : before_first xs ≡ length xs = omega (arith, count_is, more, few, most) in
      let here : before_first ns ≡ length xs + before_first ys = before_in_two ns xs ys i front back ∙ ap (λ b. cond b (length xs + before_first ys) (before_first xs)) (eq-eqb (before_first xs) (length xs) same) in
      let rest : length ys ≡ length ns - i = ap length back ∙ length-drop i ns in
      omega (arith, here, rest, few, low, within, so_far)

-- How many there are up to and with the last that passes.

or_right : (a : Bool) → (a || true) ≡ true
or_right true = refl
or_right false = refl

module _ (test : ℕ → Bool) where
  abbrev to_last : List ℕ → ℕ
  to_last ns = count_to_last test ns

  pub none_last : (ns : List ℕ) → list_any test ns ≡ false → 0 ≡ to_last ns
  none_last [] none = refl
  none_last (n ∷ ns) none = sym (ap (λ b. cond b (1 + to_last ns) 0) none)

  some_last : (ns : List ℕ) → list_any test ns ≡ true → 0 < to_last ns
  some_last [] some = cc
  some_last (n ∷ ns) some = let here : to_last (n ∷ ns) ≡ 1 + to_last ns = ap (λ b. cond b (1 + to_last ns) 0) some in omega (arith, here)

  last_behind : (xs ys : List ℕ) → list_any test ys ≡ true → to_last (xs ++ ys) ≡ length xs + to_last ys
  last_behind [] ys some = omega arith
  last_behind (x ∷ xs) ys some =
      let later = last_behind xs ys some in
      let any : (test x || list_any test (xs ++ ys)) ≡ true = ap (λ b. test x || b) (list_any-append test xs ys ∙ ap (λ b. list_any test xs || b) some ∙ or_right (list_any test xs)) ∙ or_right (test x) in
      let here : to_last (x ∷ (xs ++ ys)) ≡ 1 + to_last (xs ++ ys) = ap (λ b. cond b (1 + to_last (xs ++ ys)) 0) any in
      omega (arith, here, later)

  or_none : (a : Bool) → (a || false) ≡ a
  or_none true = refl
  or_none false = refl

  last_ahead : (xs ys : List ℕ) → list_any test ys ≡ false → to_last (xs ++ ys) ≡ to_last xs
  last_ahead [] ys none = sym (none_last ys none)
  last_ahead (x ∷ xs) ys none =
      let any : list_any test (xs ++ ys) ≡ list_any test xs = list_any-append test xs ys ∙ ap (λ b. list_any test xs || b) none ∙ or_none (list_any test xs) in
      ap (λ b. cond (test x || b) (1 + to_last (xs ++ ys)) 0) any ∙ ap (λ k. cond (test x || list_any test xs) (1 + k) 0) (last_ahead xs ys none)

  any_if : (ns : List ℕ) (b : Bool) → list_any test ns ≡ b → (0 < to_last ns → b ≡ true)
  any_if ns true is some = refl
  any_if ns false is some = let none = none_last ns is in absurd (omega (arith, none, some))

  -- of all these the last is among the last so many
  pub last_close : (all ns xs ys : List ℕ) (i count : ℕ) → xs ≡ take i ns → ys ≡ drop i ns → count ≡ to_last ys → 0 < count → to_last all ≡ to_last ns → length xs + count ≡ to_last all
  last_close all ns xs ys i count front back count_is some so_far =
      let any : list_any test ys ≡ true = any_if ys (list_any test ys) refl (omega (arith, count_is, some)) in
      let parts : to_last ns ≡ length xs + to_last ys = ap to_last (sym (both_parts test ns xs ys i front back)) ∙ last_behind xs ys any in
      omega (arith, parts, count_is, so_far)

  -- or among the others
  pub last_earlier : (all ns xs ys : List ℕ) (i count : ℕ) → xs ≡ take i ns → ys ≡ drop i ns → count ≡ to_last ys → count ≤ 0 → to_last all ≡ to_last ns → to_last all ≡ to_last xs
  last_earlier all ns xs ys i count front back count_is none so_far =
      let P : Bool → Type 0 = λ b. list_any test ys ≡ b → b ≡ false in
      let never : list_any test ys ≡ false = (elim (list_any test ys) as P [ true ↦ λ some. let more = some_last ys some in absurd (omega (arith, more, count_is, none)) | false ↦ λ _. refl ]) refl in
      so_far ∙ ap to_last (sym (both_parts test ns xs ys i front back)) ∙ last_ahead xs ys never

  -- one by one, from the last on
  one_less : (ns : List ℕ) (i k d : ℕ) → suc k ≡ i → i ≤ length ns → take i ns ≡ take k ns ++ get_or ns k d ∷ []
  one_less ns i k d is within = ap (λ n. take n ns) (sym is) ∙ take-suc ns k d (omega (arith, is, within))

  pub last_on : (ns : List ℕ) (i k d : ℕ) → 0 < i → k ≡ i - 1 → i ≤ length ns → test (get_or ns k d) ≡ false → to_last ns ≡ to_last (take i ns) → to_last ns ≡ to_last (take k ns)
  last_on ns i k d some k_is within fail so_far =
      so_far ∙ ap to_last (one_less ns i k d (omega (arith, some, k_is)) within) ∙ last_ahead (take k ns) (get_or ns k d ∷ []) (ap (λ b. b || false) fail)

  pub last_here : (ns : List ℕ) (i k d : ℕ) → 0 < i → k ≡ i - 1 → i ≤ length ns → test (get_or ns k d) ≡ true → to_last ns ≡ to_last (take i ns) → i ≡ to_last ns
  last_here ns i k d some k_is within pass so_far =
      let one : list_any test (get_or ns k d ∷ []) ≡ true = ap (λ b. b || false) pass in
      let here : to_last (take i ns) ≡ length (take k ns) + to_last (get_or ns k d ∷ []) =
      ap to_last (one_less ns i k d (omega (arith, some, k_is)) within) ∙ last_behind (take k ns) (get_or ns k d ∷ []) one in
      let long : length (take k ns) ≡ k = length-take-le k ns (omega (arith, some, k_is, within)) in
      let single : to_last (get_or ns k d ∷ []) ≡ 1 = ap (λ b. cond b 1 0) one in
      omega (arith, here, long, single, k_is, some, so_far)

  pub last_never : (ns : List ℕ) (i : ℕ) → i ≤ 0 → to_last ns ≡ to_last (take i ns) → i ≡ to_last ns
  last_never ns i none so_far =
      let zero_is : i ≡ 0 = omega (arith, none) in
      zero_is ∙ sym (so_far ∙ ap (λ n. to_last (take n ns)) zero_is)

-- The writes that bring them.

module _ (awaited : Awaited) where
  abbrev met : ℕ → Bool
  met = is_met_by awaited.want

  from_is : (ws : List WordWrite) → drop (before_first met (map value_in ws)) ws ≡ from_first (raises_it awaited) ws
  from_is [] = refl
  from_is (w ∷ ws) =
      let k : ℕ = before_first met (map value_in ws) in
      let more : 1 + k ≡ suc k = omega arith in
      let P : Bool → Type 0 = λ b. drop (cond (not b) (1 + k) 0) (w ∷ ws) ≡ cond b (w ∷ ws) (from_first (raises_it awaited) ws) in
      elim (raises_it awaited w) as P [ true ↦ refl | false ↦ ap (λ n. drop n (w ∷ ws)) more ∙ from_is ws ]

  -- those from the first on
  pub from_found : (all writes rest : List WordWrite) (all_values values : List ℕ) (i count : ℕ) → all_values ≡ map value_in all → writes ≡ drop i all → values ≡ drop i all_values → count ≡ before_first met values → rest ≡ drop count writes → rest ≡ from_first (raises_it awaited) (drop i all)
  from_found all writes rest all_values values i count all_are writes_are values_are count_is rest_is =
      let these : values ≡ map value_in writes = values_are ∙ ap (drop i) all_are ∙ drop-map value_in i all ∙ ap (map value_in) (sym writes_are) in
      rest_is ∙ ap (λ n. drop n writes) (count_is ∙ ap (before_first met) these) ∙ from_is writes ∙ ap (from_first (raises_it awaited)) writes_are

  abbrev raises : WordWrite → Bool
  raises = raises_it awaited

  abbrev some_met : List WordWrite → Bool
  some_met ws = list_any met (map value_in ws)

  none_raise : (ws : List WordWrite) → some_met ws ≡ false → filter raises ws ≡ []
  none_raise [] none = refl
  none_raise (w ∷ ws) none =
      let P : Bool → Type 0 = λ b. (b || some_met ws) ≡ false → cond b (w ∷ filter raises ws) (filter raises ws) ≡ [] in
      (elim (raises w) as P [ true ↦ λ never. absurd (false≢true (sym never)) | false ↦ λ later. none_raise ws later ]) none

  none_met : (ws : List WordWrite) → filter raises ws ≡ [] → some_met ws ≡ false
  none_met [] none = refl
  none_met (w ∷ ws) none =
      let P : Bool → Type 0 = λ b. cond b (w ∷ filter raises ws) (filter raises ws) ≡ [] → (b || some_met ws) ≡ false in
      (elim (raises w) as P [ true ↦ λ never. cc | false ↦ λ later. none_met ws later ]) none

  -- the last of them
  last_is : (ws : List WordWrite) → end_of (take (count_to_last met (map value_in ws)) ws) ≡ end_of (filter raises ws)
  last_is [] = refl
  last_is (w ∷ ws) =
      let k : ℕ = count_to_last met (map value_in ws) in
      let rest : List WordWrite = filter raises ws in
      let E : Option WordWrite = end_of rest in
      let P : Bool → Bool → Type 0 = λ a b. end_of (take (cond (a || b) (1 + k) 0) (w ∷ ws)) ≡ end_of (cond a (w ∷ rest) rest) in
      let one : 1 + k ≡ suc k = omega arith in
      let some : end_of (take (1 + k) (w ∷ ws)) ≡ or_then E (Some w) =
      ap (λ n. end_of (take n (w ∷ ws))) one ∙ end_behind w (take k ws) ∙ ap (λ e. or_then e (Some w)) (last_is ws) in
      let S : Option WordWrite → Type 0 = λ e. end_of rest ≡ e → some_met ws ≡ true → or_then e (Some w) ≡ e in
      let there : some_met ws ≡ true → or_then E (Some w) ≡ E = (elim E as S [ Some v ↦ λ _ _. refl | None ↦ λ none any. absurd (false≢true (sym (none_met ws (ends_not rest none)) ∙ any)) ]) refl in
      let Q : Bool → Type 0 = λ b. some_met ws ≡ b → P (raises w) b in
      (elim (some_met ws) as Q [
        | true ↦ λ any. let R : Bool → Type 0 = λ a. P a true in elim (raises w) as R [ true ↦ some ∙ sym (end_behind w rest) | false ↦ some ∙ there any ]
        | false ↦ λ none.
            let nothing : rest ≡ [] = none_raise ws none in
            let R : Bool → Type 0 = λ a. P a false in
            elim (raises w) as R [
              | true ↦ some ∙ sym (end_behind w rest)
              | false ↦ sym (ap end_of nothing)
            ]
      ]) refl

  pub last_taken : (all writes rest : List WordWrite) (all_values values : List ℕ) (i count : ℕ) → all_values ≡ map value_in all → writes ≡ take i all → values ≡ take i all_values → count ≡ count_to_last met values → rest ≡ take count writes → end_of rest ≡ find (raises_it awaited) (reverse (take i all))
  last_taken all writes rest all_values values i count all_are writes_are values_are count_is rest_is =
      let these : values ≡ map value_in writes = values_are ∙ ap (take i) all_are ∙ take-map value_in i all ∙ ap (map value_in) (sym writes_are) in
      ap end_of (rest_is ∙ ap (λ n. take n writes) (count_is ∙ ap (count_to_last met) these)) ∙ last_is writes ∙ sym (last_found (raises_it awaited) writes)
      ∙ ap (λ ws. find (raises_it awaited) (reverse ws)) writes_are
