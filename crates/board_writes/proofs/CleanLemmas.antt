-- Whether the writes of a dword are clean, by the bits that all of them write and the values of those of which the dword is not the last.
use Rattle.std.proofs.Common.{◌≡◌, ℕ, suc, ◌+◌, ◌<◌, ◌≤◌, Bool, true, false, ◌&&◌, ◌||◌, ◌==◌, not, cond, eqb-true, eq-eqb, bit_and, ◌^◌, List, [], ◌∷◌, length, map, drop, get_or, refl, sym, ap, ◌∙◌, arith}
use Rattle.std.specs.List.{filter, list_all, list_any}
use Rattle.std.specs.Int.Bits.{or_zero_l}
use Rattle.std.proofs.Math.Seq.{drop-cons}
use Rattle.std.proofs.lemmas.List.{drop_all}
use Rattle.std.proofs.lemmas.Nat.{and_comm, and_assoc, and_or_self, and_mask}
use Rattle.board_model.specs.device.Registers.{enabled_bits}
use Rattle.safe_model.specs.Raisers.{is_met_by, is_whole}
use Rattle.board_writes.specs.declared.polls.awaited.Awaited.{Awaited}
use Rattle.board_writes.specs.declared.writers.write.WordWrite.{WordWrite}
use Rattle.board_writes.specs.Polls.{raises_it, is_clean_write}
use Rattle.board_writes.specs.Stretches.{value_in, early_values, shared_from, shared_bits}

and_true : (b : Bool) → (b && true) ≡ b
and_true true = refl
and_true false = refl

and_false : (b : Bool) → (b && false) ≡ false
and_false true = refl
and_false false = refl

and_assoc_b : (a b c : Bool) → (a && (b && c)) ≡ ((a && b) && c)
and_assoc_b true b c = refl
and_assoc_b false b c = refl

-- The bits that each of some writes writes.

and_same : (m : ℕ) → bit_and m m ≡ m
and_same m = ap (λ n. bit_and n m) (sym (or_zero_l m)) ∙ and_or_self m 0

and_twice : (b n : ℕ) → bit_and b (bit_and b n) ≡ bit_and b n
and_twice b n = sym (and_assoc n b b) ∙ ap (λ a. bit_and a n) (and_same b)

not_both : (a b : Bool) → (a ≡ true → b ≡ true → false ≡ true) → false ≡ (a && b)
not_both true true never = never refl refl
not_both true false never = refl
not_both false b never = refl

covers_core : (b e m : ℕ) → (bit_and (bit_and b e) m == m) ≡ ((bit_and b m == m) && (bit_and e m == m))
covers_core b e m =
    let x : ℕ = bit_and b m in
    let y : ℕ = bit_and e m in
    let z : ℕ = bit_and (bit_and b e) m in
    let by_b : z ≡ bit_and b y = and_assoc m b e in
    let by_e : z ≡ bit_and e x = ap (λ n. bit_and n m) (and_comm b e) ∙ and_assoc m e b in
    let P : Bool → Type 0 = λ t. (z == m) ≡ t → t ≡ ((x == m) && (y == m)) in
    (elim (z == m) as P [
      | true ↦ λ is.
          let met : z ≡ m = eqb-true z m is in
          let one : x ≡ m = ap (bit_and b) (sym met ∙ by_b) ∙ and_twice b y ∙ sym by_b ∙ met in
          let two : y ≡ m = ap (bit_and e) (sym met ∙ by_e) ∙ and_twice e x ∙ sym by_e ∙ met in
          sym (ap (λ t. t && (y == m)) (eq-eqb x m one) ∙ eq-eqb y m two)
      | false ↦ λ is.
          not_both (x == m) (y == m) (λ first second. sym is ∙ eq-eqb z m (by_b ∙ ap (bit_and b) (eqb-true y m second) ∙ eqb-true x m first))
    ]) refl

shared_parts : (mask bits : ℕ) (ws : List WordWrite) → (bit_and (shared_from bits ws) mask == mask) ≡ ((bit_and bits mask == mask) && list_all (λ (w : WordWrite). is_whole mask w.phase) ws)
shared_parts mask bits [] = sym (and_true (bit_and bits mask == mask))
shared_parts mask bits (w ∷ ws) =
    let here : ℕ = bit_and (enabled_bits w.phase.enables) 0xffff_ffff in
    let later : Bool = list_all (λ (v : WordWrite). is_whole mask v.phase) ws in
    shared_parts mask (bit_and bits here) ws
    ∙ ap (λ b. b && later) (covers_core bits here mask)
    ∙ sym (and_assoc_b (bit_and bits mask == mask) (bit_and here mask == mask) later)

pub covered : (bits mask : ℕ) (answer : Bool) (ws : List WordWrite) → mask < 2 ^ 32 → answer ≡ (bit_and bits mask == mask) → bits ≡ shared_bits ws → answer ≡ list_all (λ (w : WordWrite). is_whole mask w.phase) ws
covered bits mask answer ws low answer_is bits_are =
    let all : bit_and 0xffff_ffff mask ≡ mask = and_comm 0xffff_ffff mask ∙ and_mask mask 32 ∙ omega (arith, low) in
    answer_is ∙ ap (λ b. bit_and b mask == mask) bits_are ∙ shared_parts mask 0xffff_ffff ws
    ∙ ap (λ b. b && list_all (λ (w : WordWrite). is_whole mask w.phase) ws) (eq-eqb (bit_and 0xffff_ffff mask) mask all)

pub shared_next : (writes : List WordWrite) (i : ℕ) (d w : WordWrite) (bits here next : ℕ) → i < length writes → w ≡ get_or writes i d → here ≡ bit_and (enabled_bits w.phase.enables) 0xffff_ffff → next ≡ bit_and bits here → shared_from bits (drop i writes) ≡ shared_bits writes → shared_from next (drop (i + 1) writes) ≡ shared_bits writes
shared_next writes i d w bits here next within is here_is next_is so_far =
    let more : i + 1 ≡ suc i = omega arith in
    let rest : List WordWrite = drop (i + 1) writes in
    let parts : drop i writes ≡ w ∷ rest = drop-cons writes i d within ∙ ap (λ v. v ∷ drop (suc i) writes) (sym is) ∙ sym (ap (λ n. w ∷ drop n writes) more) in
    ap (λ n. shared_from n rest) (next_is ∙ ap (bit_and bits) here_is) ∙ sym (ap (shared_from bits) parts) ∙ so_far

pub shared_all : (writes : List WordWrite) (i bits : ℕ) → length writes ≤ i → shared_from bits (drop i writes) ≡ shared_bits writes → bits ≡ shared_bits writes
shared_all writes i bits past so_far = sym (ap (shared_from bits) (drop_all i writes past)) ∙ so_far

-- Each write of the dword.

two_core : (whole met last wholes none : Bool) → ((whole && (not met || last)) && (wholes && none)) ≡ ((whole && wholes) && ((not met || last) && none))
two_core true true true wholes none = refl
two_core true true false wholes none = sym (and_false wholes)
two_core true false last wholes none = refl
two_core false met last wholes none = refl

-- where the dword is not the last it brings nothing that is waited for
early_core : (met last rest : Bool) → ((not met || last) && not rest) ≡ not (cond (not last) (met || rest) rest)
early_core true true rest = refl
early_core true false rest = refl
early_core false true rest = refl
early_core false false rest = refl

early_one : (awaited : Awaited) (w : WordWrite) (ws : List WordWrite) → list_any (is_met_by awaited.want) (early_values (w ∷ ws)) ≡ cond (not w.last) (raises_it awaited w || list_any (is_met_by awaited.want) (early_values ws)) (list_any (is_met_by awaited.want) (early_values ws))
early_one awaited w ws =
    let M : ℕ → Bool = is_met_by awaited.want in
    let rest : List WordWrite = filter (λ v. not v.last) ws in
    let P : Bool → Type 0 = λ b. list_any M (map value_in (cond b (w ∷ rest) rest)) ≡ cond b (raises_it awaited w || list_any M (map value_in rest)) (list_any M (map value_in rest)) in
    elim (not w.last) as P [ true ↦ refl | false ↦ refl ]

clean_in_two : (awaited : Awaited) (ws : List WordWrite) → list_all (is_clean_write awaited) ws ≡ (list_all (λ (w : WordWrite). is_whole awaited.want.mask w.phase) ws && not (list_any (is_met_by awaited.want) (early_values ws)))
clean_in_two awaited [] = refl
clean_in_two awaited (w ∷ ws) =
    let wholes : Bool = list_all (λ (v : WordWrite). is_whole awaited.want.mask v.phase) ws in
    let rest : Bool = list_any (is_met_by awaited.want) (early_values ws) in
    ap (λ b. is_clean_write awaited w && b) (clean_in_two awaited ws)
    ∙ two_core (is_whole awaited.want.mask w.phase) (raises_it awaited w) w.last wholes (not rest)
    ∙ ap (λ b. (is_whole awaited.want.mask w.phase && wholes) && b) (early_core (raises_it awaited w) w.last rest ∙ ap not (sym (early_one awaited w ws)))

pub clean_if : (awaited : Awaited) (writes those : List WordWrite) (early : List ℕ) (whole some : Bool) → those ≡ writes → whole ≡ list_all (λ (w : WordWrite). is_whole awaited.want.mask w.phase) those → early ≡ early_values those → some ≡ list_any (is_met_by awaited.want) early
    → whole ≡ true → not some ≡ list_all (is_clean_write awaited) writes
clean_if awaited writes those early whole some are whole_is early_is some_is all =
    ap (λ b. b && not some) (sym all ∙ whole_is)
    ∙ ap (λ b. list_all (λ (w : WordWrite). is_whole awaited.want.mask w.phase) those && not b) (some_is ∙ ap (list_any (is_met_by awaited.want)) early_is)
    ∙ sym (clean_in_two awaited those) ∙ ap (list_all (is_clean_write awaited)) are

-- or not each writes all that the mask looks at
pub clean_unless : (awaited : Awaited) (writes those : List WordWrite) (whole : Bool) → those ≡ writes → whole ≡ list_all (λ (w : WordWrite). is_whole awaited.want.mask w.phase) those → whole ≡ false → whole ≡ list_all (is_clean_write awaited) writes
clean_unless awaited writes those whole are whole_is not_all =
    not_all ∙ ap (λ b. b && not (list_any (is_met_by awaited.want) (early_values those))) (sym not_all ∙ whole_is)
    ∙ sym (clean_in_two awaited those) ∙ ap (list_all (is_clean_write awaited)) are
