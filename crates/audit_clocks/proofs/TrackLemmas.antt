-- Tracks, one landing more.
use Rattle.std.proofs.Common.{◌≡◌, ◌≢◌, ◌<◌, ◌≤◌, ℕ, zero, suc, ◌+◌, ◌-◌, Bool, true, false, eqb, eqb-true, nat_lt, List, [], ◌∷◌, ◌++◌, length, get_or, slice_get, Option, None, Some, refl, sym, ap, subst, ◌∙◌, arith, length-append}
use Rattle.std.proofs.lemmas.Bool.Decides.{nat_tests}
use Rattle.std.proofs.Math.ListN.{set, get_or-append}
use Rattle.std.proofs.lemmas.List.{get_or-set_same, get_or-set_other, length-set}
use Rattle.std.proofs.lemmas.Option.{slice_get-get_or}
use Rattle.pci_command.specs.declared.op_id.OpId.{OpId}
use Rattle.audit_clocks.specs.Tracks.{in_order, in_order_at, place, Rises, track_at, IsOn, Tracked, op_on, goes_on}

pub nothing_tracked : (tracks : List (List ℕ)) → tracks ≡ [] → Tracked [] tracks
nothing_tracked tracks is =
    record { each = λ number inside. absurd (omega (arith, inside, ap (λ (xs : List (List ℕ)). length xs) is)); all = λ at inside. absurd (omega (arith, inside)) }

in_order_both : (p q r : OpId) → in_order p q ≡ true → in_order q r ≡ true → in_order p r ≡ true
in_order_both p q r first second = grind (arith, nat_tests)

in_order_self : (p : OpId) → in_order p p ≡ true
in_order_self p = grind (arith, nat_tests)

order_both : (p q r : Option OpId) → in_order_at p q ≡ true → in_order_at q r ≡ true → in_order_at p r ≡ true
order_both None q r first second = cc
order_both (Some p) None r first second = cc
order_both (Some p) (Some q) None first second = cc
order_both (Some p) (Some q) (Some r) first second = in_order_both p q r first second

-- an element of a list that goes on
get_front : (ops more : List OpId) (i : ℕ) → i < length ops → slice_get (ops ++ more) i ≡ slice_get ops i
get_front [] more i within = absurd (omega (arith, within))
get_front (o ∷ ops) more zero within = refl
get_front (o ∷ ops) more (suc i) within = get_front ops more i (omega (arith, within))

get_behind : (ops : List OpId) (o : OpId) → slice_get (ops ++ o ∷ []) (length ops) ≡ Some o
get_behind [] o = refl
get_behind (p ∷ ops) o = get_behind ops o

pub rises_longer : (ops more : List OpId) (track : List ℕ) → Rises ops track → Rises (ops ++ more) track
rises_longer ops more track rises =
    record {
      inside = λ a within. let in_ops = rises.inside a within in rw (length-append ops more) (omega (arith, in_ops));
      later = rises.later;
      order = λ a b first within.
          rw (get_front ops more (place track a) (rises.inside a (omega (arith, first, within))), get_front ops more (place track b) (rises.inside b within)) (rises.order a b first within);
    }

-- a track and one more place
module _ (ops : List OpId) (o : OpId) (track : List ℕ) (rises : Rises ops track) (behind : goes_on ops track o ≡ true) where
  abbrev next : List OpId
  next = ops ++ o ∷ []

  abbrev longer : List ℕ
  longer = track ++ length ops ∷ []

  longer_is : length longer ≡ length track + 1
  longer_is = length-append track (length ops ∷ [])

  old_place : (a : ℕ) → a < length track → place longer a ≡ place track a
  old_place a within = get_or-append track (length ops ∷ []) 0 a within

  new_place : place longer (length track) ≡ length ops
  new_place = at_end track
    where
      at_end : (xs : List ℕ) → get_or (xs ++ length ops ∷ []) (length xs) 0 ≡ length ops
      at_end [] = refl
      at_end (x ∷ xs) = at_end xs

  -- the last of the track is there
  last_place : 0 < length track
  last_place = some track behind
    where
      some : (xs : List ℕ) → goes_on ops xs o ≡ true → 0 < length xs
      some [] is = cc
      some (x ∷ xs) is = omega arith

  last_is : slice_get track (length track - 1) ≡ Some (place track (length track - 1))
  last_is = slice_get-get_or track (length track - 1) 0 (omega (arith, last_place))

  last_order : in_order_at (slice_get ops (place track (length track - 1))) (Some o) ≡ true
  last_order = sym (ap (λ found. in_order_at (op_on ops found) (Some o)) last_is) ∙ behind

  new_order : (a : ℕ) → a < length track → in_order_at (slice_get next (place longer a)) (slice_get next (place longer (length track))) ≡ true
  new_order a within =
      let before : in_order_at (slice_get ops (place track a)) (slice_get ops (place track (length track - 1))) ≡ true = rises.order a (length track - 1) (omega (arith, within)) (omega (arith, within)) in
      rw (old_place a within, new_place, get_front ops (o ∷ []) (place track a) (rises.inside a within), get_behind ops o)
      (order_both (slice_get ops (place track a)) (slice_get ops (place track (length track - 1))) (Some o) before last_order)

  pub rises_along : Rises next longer
  rises_along =
      record {
        inside = λ a within.
            let count : length next ≡ length ops + 1 = length-append ops (o ∷ []) in
            let P : Bool → Type 0 = λ b. nat_lt a (length track) ≡ b → place longer a < length next in
            (elim (nat_lt a (length track)) as P [
              | true ↦ λ is. let old : a < length track = grind (arith, nat_tests) in let was = rises.inside a old in omega (arith, was, old_place a old, count)
              | false ↦ λ is.
                  let past : length track ≤ a = grind (arith, nat_tests) in
                  let last : a ≡ length track = omega (arith, past, within, longer_is) in
                  subst (λ n. place longer n < length next) (sym last) (omega (arith, new_place, count))
            ]) refl;
        later = λ a b before within.
            let first : a < length track = omega (arith, before, within, longer_is) in
            let P : Bool → Type 0 = λ c. nat_lt b (length track) ≡ c → place longer a < place longer b in
            (elim (nat_lt b (length track)) as P [
              | true ↦ λ is. let old : b < length track = grind (arith, nat_tests) in let was = rises.later a b before old in omega (arith, was, old_place a first, old_place b old)
              | false ↦ λ is.
                  let past : length track ≤ b = grind (arith, nat_tests) in
                  let last : b ≡ length track = omega (arith, past, within, longer_is) in
                  let was = rises.inside a first in
                  subst (λ n. place longer a < place longer n) (sym last) (omega (arith, was, old_place a first, new_place))
            ]) refl;
        order = λ a b before within.
            let P : Bool → Type 0 = λ c. nat_lt b (length track) ≡ c → in_order_at (slice_get next (place longer a)) (slice_get next (place longer b)) ≡ true in
            (elim (nat_lt b (length track)) as P [
              | true ↦ λ is.
                  let old : b < length track = grind (arith, nat_tests) in
                  let first : a < length track = omega (arith, before, old) in
                  rw (old_place a first, old_place b old, get_front ops (o ∷ []) (place track a) (rises.inside a first), get_front ops (o ∷ []) (place track b) (rises.inside b old)) (rises.order a b before old)
              | false ↦ λ is.
                  let past : length track ≤ b = grind (arith, nat_tests) in
                  let last : b ≡ length track = omega (arith, past, within, longer_is) in
                  let Q : Bool → Type 0 = λ c. nat_lt a (length track) ≡ c → in_order_at (slice_get next (place longer a)) (slice_get next (place longer (length track))) ≡ true in
                  subst (λ n. in_order_at (slice_get next (place longer a)) (slice_get next (place longer n)) ≡ true) (sym last)
                  ((elim (nat_lt a (length track)) as Q [
                    | true ↦ λ is_old. let first : a < length track = grind (arith, nat_tests) in new_order a first
                    | false ↦ λ is_new.
                        let at_last : a ≡ length track = (let beyond : length track ≤ a = grind (arith, nat_tests) in omega (arith, beyond, before, last)) in
                        subst (λ n. in_order_at (slice_get next (place longer n)) (slice_get next (place longer (length track))) ≡ true) (sym at_last)
                        (rw (new_place, get_behind ops o) (in_order_self o))
                  ]) refl)
            ]) refl;
      }

-- a track of its own
rises_alone : (ops : List OpId) (o : OpId) → Rises (ops ++ o ∷ []) (length ops ∷ [])
rises_alone ops o =
    let count : length (ops ++ o ∷ []) ≡ length ops + 1 = length-append ops (o ∷ []) in
    record {
      inside = λ a within. let first : a ≡ 0 = omega (arith, within) in subst (λ n. place (length ops ∷ []) n < length (ops ++ o ∷ [])) (sym first) (omega (arith, count));
      later = λ a b before within. absurd (omega (arith, before, within));
      order = λ a b before within.
          let second : b ≡ 0 = omega (arith, within) in
          let first : a ≡ 0 = omega (arith, before, second) in
          rw (first, second, get_behind ops o) (in_order_self o);
    }

-- a landing that goes on with a track
pub tracked_along : (ops : List OpId) (o : OpId) (tracks next : List (List ℕ)) (number : ℕ) → Tracked ops tracks → number < length tracks → goes_on ops (track_at tracks number) o ≡ true
    → next ≡ set tracks number (track_at tracks number ++ length ops ∷ []) → Tracked (ops ++ o ∷ []) next
tracked_along ops o tracks next number tracked within behind is =
    let track : List ℕ = track_at tracks number in
    let changed : List (List ℕ) = set tracks number (track ++ length ops ∷ []) in
    let count : length changed ≡ length tracks = length-set tracks number (track ++ length ops ∷ []) in
    let same : track_at changed number ≡ track ++ length ops ∷ [] = get_or-set_same tracks number (track ++ length ops ∷ []) [] within in
    let longer : length (track ++ length ops ∷ []) ≡ length track + 1 = length-append track (length ops ∷ []) in
    let rises : Rises ops track = tracked.each number within in
    subst (Tracked (ops ++ o ∷ [])) (sym is) (record {
      each = λ n inside.
          let P : Bool → Type 0 = λ b. eqb n number ≡ b → Rises (ops ++ o ∷ []) (track_at changed n) in
          (elim (eqb n number) as P [
            | true ↦ λ eq.
                let e : n ≡ number = eqb-true n number eq in
                subst (λ k. Rises (ops ++ o ∷ []) (track_at changed k)) (sym e) (subst (Rises (ops ++ o ∷ [])) (sym same) (rises_along ops o track rises behind))
            | false ↦ λ differ.
                let other : n ≢ number = grind (arith, nat_tests) in
                subst (Rises (ops ++ o ∷ [])) (sym (get_or-set_other tracks number n (track ++ length ops ∷ []) [] other)) (rises_longer ops (o ∷ []) (track_at tracks n) (tracked.each n (omega (arith, inside, count))))
          ]) refl;
      all = λ at inside.
          let total : length (ops ++ o ∷ []) ≡ length ops + 1 = length-append ops (o ∷ []) in
          let P : Bool → Type 0 = λ b. nat_lt at (length ops) ≡ b → IsOn changed at in
          (elim (nat_lt at (length ops)) as P [
            | true ↦ λ lt.
                let old : at < length ops = grind (arith, nat_tests) in
                let was : IsOn tracks at = tracked.all at old in
                let Q : Bool → Type 0 = λ b. eqb was.number number ≡ b → IsOn changed at in
                (elim (eqb was.number number) as Q [
                  | true ↦ λ eq.
                      let e : was.number ≡ number = eqb-true was.number number eq in
                      let in_track : was.index < length track = subst (λ k. was.index < length (track_at tracks k)) e was.within in
                      record {
                        number = number;
                        is_track = omega (arith, within, count);
                        index = was.index;
                        within = subst (λ xs. was.index < length xs) (sym same) (omega (arith, in_track, longer));
                        is = ap (λ xs. place xs was.index) same ∙ get_or-append track (length ops ∷ []) 0 was.index in_track ∙ ap (λ k. place (track_at tracks k) was.index) (sym e) ∙ was.is;
                      }
                  | false ↦ λ differ.
                      let other : was.number ≢ number = grind (arith, nat_tests) in
                      let kept : track_at changed was.number ≡ track_at tracks was.number = get_or-set_other tracks number was.number (track ++ length ops ∷ []) [] other in
                      let is_one = was.is_track in
                      record {
                        number = was.number;
                        is_track = omega (arith, is_one, count);
                        index = was.index;
                        within = subst (λ xs. was.index < length xs) (sym kept) was.within;
                        is = ap (λ xs. place xs was.index) kept ∙ was.is;
                      }
                ]) refl
            | false ↦ λ ge.
                let past : length ops ≤ at = grind (arith, nat_tests) in
                let last : at ≡ length ops = omega (arith, past, inside, total) in
                record {
                  number = number;
                  is_track = omega (arith, within, count);
                  index = length track;
                  within = subst (λ xs. length track < length xs) (sym same) (omega (arith, longer));
                  is = ap (λ xs. place xs (length track)) same ∙ new_place ops o track rises behind ∙ sym last;
                }
          ]) refl;
    })

-- a landing that begins a track
pub tracked_apart : (ops : List OpId) (o : OpId) (tracks next : List (List ℕ)) (track : List ℕ) → Tracked ops tracks → track ≡ length ops ∷ [] → next ≡ tracks ++ track ∷ [] → Tracked (ops ++ o ∷ []) next
tracked_apart ops o tracks next track tracked alone is =
    let changed : List (List ℕ) = tracks ++ (length ops ∷ []) ∷ [] in
    let changed_is : next ≡ changed = is ∙ ap (λ xs. tracks ++ xs ∷ []) alone in
    let count : length changed ≡ length tracks + 1 = length-append tracks ((length ops ∷ []) ∷ []) in
    let total : length (ops ++ o ∷ []) ≡ length ops + 1 = length-append ops (o ∷ []) in
    let last_is : track_at changed (length tracks) ≡ length ops ∷ [] = at_end tracks (length ops ∷ []) in
    subst (Tracked (ops ++ o ∷ [])) (sym changed_is) (record {
      each = λ n inside.
          let P : Bool → Type 0 = λ b. nat_lt n (length tracks) ≡ b → Rises (ops ++ o ∷ []) (track_at changed n) in
          (elim (nat_lt n (length tracks)) as P [
            | true ↦ λ lt.
                let old : n < length tracks = grind (arith, nat_tests) in
                subst (Rises (ops ++ o ∷ [])) (sym (get_or-append tracks ((length ops ∷ []) ∷ []) [] n old)) (rises_longer ops (o ∷ []) (track_at tracks n) (tracked.each n old))
            | false ↦ λ ge.
                let past : length tracks ≤ n = grind (arith, nat_tests) in
                let last : n ≡ length tracks = omega (arith, past, inside, count) in
                subst (λ k. Rises (ops ++ o ∷ []) (track_at changed k)) (sym last) (subst (Rises (ops ++ o ∷ [])) (sym last_is) (rises_alone ops o))
          ]) refl;
      all = λ at inside.
          let P : Bool → Type 0 = λ b. nat_lt at (length ops) ≡ b → IsOn changed at in
          (elim (nat_lt at (length ops)) as P [
            | true ↦ λ lt.
                let old : at < length ops = grind (arith, nat_tests) in
                let was : IsOn tracks at = tracked.all at old in
                let is_one = was.is_track in
                let kept : track_at changed was.number ≡ track_at tracks was.number = get_or-append tracks ((length ops ∷ []) ∷ []) [] was.number is_one in
                record {
                  number = was.number;
                  is_track = omega (arith, is_one, count);
                  index = was.index;
                  within = subst (λ xs. was.index < length xs) (sym kept) was.within;
                  is = ap (λ xs. place xs was.index) kept ∙ was.is;
                }
            | false ↦ λ ge.
                let past : length ops ≤ at = grind (arith, nat_tests) in
                let last : at ≡ length ops = omega (arith, past, inside, total) in
                record {
                  number = length tracks;
                  is_track = omega (arith, count);
                  index = 0;
                  within = subst (λ xs. 0 < length xs) (sym last_is) (omega arith);
                  is = ap (λ xs. place xs 0) last_is ∙ sym last;
                }
          ]) refl;
    })
  where
    at_end : (xs : List (List ℕ)) (x : List ℕ) → get_or (xs ++ x ∷ []) (length xs) [] ≡ x
    at_end [] x = refl
    at_end (y ∷ xs) x = at_end xs x
