-- The last and the first of what landed in a dword, track by track.
use Rattle.std.proofs.Common.{◌≡◌, ◌<◌, ◌≤◌, ℕ, zero, suc, ◌+◌, ◌-◌, min, max, Bool, true, false, not, ◌&&◌, ◌⊎◌, inl, inr, cond, nat_lt, take, drop, length, get_or, slice_get, List, [], ◌∷◌, Option, Some, None, refl, sym, ap, subst, ◌∙◌, arith}
use Rattle.std.specs.List.{AllWithin}
use Rattle.std.specs.List.Sorted.{IsPartitionedBy}
use Rattle.std.proofs.lemmas.List.{length-take, length-drop, get_or-drop}
use Rattle.std.proofs.lemmas.Option.{slice_get_past}
use Rattle.std.proofs.lemmas.Bool.Decides.{nat_tests}
use Rattle.pci_command.specs.declared.op_id.OpId.{OpId}
use Rattle.audit_clocks.specs.Tracks.{place, Rises, track_at, IsOn, Tracked, op_on}
use Rattle.audit_text.specs.declared.readings.Reading.{Reading}
use Rattle.audit_text.specs.Notes.{Notes}
use Rattle.audit_text.specs.Found.{knows_by, landed_before, landed_whole, shows_it, last_known, first_shown}
use Rattle.audit_text.specs.Search.{is_known, tells_of, is_whole, shows_at, KnowsEarlier, TellsLater, TellsAlways, Searchable, writes_at, AreRising, FallsAlong, LastOn, FirstOn, later, earlier}

-- The first operations of a list.

get_taken : (xs : List OpId) (n i : ℕ) → i < n → slice_get (take n xs) i ≡ slice_get xs i
get_taken xs zero i within = absurd (omega (arith, within))
get_taken [] (suc n) i within = refl
get_taken (x ∷ xs) (suc n) zero within = refl
get_taken (x ∷ xs) (suc n) (suc i) within = get_taken xs n i (omega (arith, within))

get_beyond : (xs : List OpId) (n i : ℕ) → n ≤ i → slice_get (take n xs) i ≡ None
get_beyond xs n i beyond = slice_get_past (take n xs) i (rw (length-take n xs) (omega (arith, beyond)))

-- The last that is known.

module _ (notes : Notes) (r : OpId) where
  all_unknown : (ws : List OpId) (found : Option OpId) → ((i : ℕ) → i < length ws → is_known notes r (slice_get ws i) ≡ false) → last_known notes r found ws ≡ found
  all_unknown [] found none = refl
  all_unknown (w ∷ ws) found none =
      let first : knows_by notes w r ≡ false = none 0 (omega arith) in
      ap (λ b. last_known notes r (cond b (Some w) found) ws) first ∙ all_unknown ws found (λ i within. none (suc i) (omega (arith, within)))

  last_is : (ws : List OpId) (found : Option OpId) (i : ℕ) (w : OpId) → slice_get ws i ≡ Some w → knows_by notes w r ≡ true
      → ((j : ℕ) → i < j → j < length ws → is_known notes r (slice_get ws j) ≡ false) → last_known notes r found ws ≡ Some w
  last_is [] found i w is known none = cc
  last_is (v ∷ ws) found zero w is known none =
      let one : v ≡ w = cc in
      let known_v : knows_by notes v r ≡ true = subst (λ p. knows_by notes p r ≡ true) (sym one) known in
      ap (λ b. last_known notes r (cond b (Some v) found) ws) known_v ∙ all_unknown ws (Some v) (λ i within. none (suc i) (omega arith) (omega (arith, within))) ∙ is
  last_is (v ∷ ws) found (suc i) w is known none =
      last_is ws (cond (knows_by notes v r) (Some v) found) i w is known (λ j behind within. none (suc j) (omega (arith, behind)) (omega (arith, within)))

  -- the write of what is known
  pub known_write : (found : Option OpId) → is_known notes r found ≡ true → (w : OpId) × ((found ≡ Some w) × (knows_by notes w r ≡ true))
  known_write None is = cc
  known_write (Some w) is = (w, (refl, is))

-- The first that shows.

module _ (notes : Notes) (reading : Reading) (w : OpId) where
  none_shows : (vs : List OpId) → ((i : ℕ) → i < length vs → shows_at notes reading w (slice_get vs i) ≡ false) → first_shown notes reading w vs ≡ None
  none_shows [] none = refl
  none_shows (v ∷ vs) none =
      let first : shows_it notes reading w v ≡ false = none 0 (omega arith) in
      ap (λ b. cond b (Some v) (first_shown notes reading w vs)) first ∙ none_shows vs (λ i within. none (suc i) (omega (arith, within)))

  first_is : (vs : List OpId) (i : ℕ) (v : OpId) → slice_get vs i ≡ Some v → shows_it notes reading w v ≡ true
      → ((j : ℕ) → j < i → shows_at notes reading w (slice_get vs j) ≡ false) → first_shown notes reading w vs ≡ Some v
  first_is [] i v is shows none = cc
  first_is (u ∷ vs) zero v is shows none =
      let one : u ≡ v = cc in
      let shows_u : shows_it notes reading w u ≡ true = subst (λ p. shows_it notes reading w p ≡ true) (sym one) shows in
      ap (λ b. cond b (Some u) (first_shown notes reading w vs)) shows_u ∙ is
  first_is (u ∷ vs) (suc i) v is shows none =
      let first : shows_it notes reading w u ≡ false = none 0 (omega arith) in
      ap (λ b. cond b (Some u) (first_shown notes reading w vs)) first ∙ first_is vs i v is shows (λ j before. none (suc j) (omega (arith, before)))

  shown_write : (found : Option OpId) → shows_at notes reading w found ≡ true → (v : OpId) × ((found ≡ Some v) × (shows_it notes reading w v ≡ true))
  shown_write None is = cc
  shown_write (Some v) is = (v, (refl, is))

-- Track by track.

-- the greatest place that passes, of so many tracks
pub record IsLastOf (test : ℕ → Bool) (tracks : List (List ℕ)) (n at : ℕ) : Type 0 where
  pub passes : test at ≡ true
  pub last : (number : ℕ) → number < n → (a : ℕ) → a < length (track_at tracks number) → test (place (track_at tracks number) a) ≡ true → place (track_at tracks number) a ≤ at

pub record NoneOf (test : ℕ → Bool) (tracks : List (List ℕ)) (n : ℕ) : Type 0 where
  pub none : (number : ℕ) → number < n → (a : ℕ) → a < length (track_at tracks number) → test (place (track_at tracks number) a) ≡ false

abbrev pub LastOf : (ℕ → Bool) → List (List ℕ) → ℕ → Option ℕ → Type 0
LastOf test tracks n None = NoneOf test tracks n
LastOf test tracks n (Some at) = IsLastOf test tracks n at

pub record IsFirstOf (test : ℕ → Bool) (tracks : List (List ℕ)) (n at : ℕ) : Type 0 where
  pub passes : test at ≡ true
  pub first : (number : ℕ) → number < n → (a : ℕ) → a < length (track_at tracks number) → test (place (track_at tracks number) a) ≡ true → at ≤ place (track_at tracks number) a

abbrev pub FirstOf : (ℕ → Bool) → List (List ℕ) → ℕ → Option ℕ → Type 0
FirstOf test tracks n None = NoneOf test tracks n
FirstOf test tracks n (Some at) = IsFirstOf test tracks n at

-- a track before one, or that one
each_more : (Q : ℕ → Type 0) (n number : ℕ) → number < n + 1 → (number < n → Q number) → Q n → Q number
each_more Q n number below old new =
    let P : Bool → Type 0 = λ b. nat_lt number n ≡ b → Q number in
    (elim (nat_lt number n) as P [
      | true ↦ λ is. let lower : number < n = grind (arith, nat_tests) in old lower
      | false ↦ λ is.
          let past : n ≤ number = grind (arith, nat_tests) in
          let same : number ≡ n = omega (arith, past, below) in
          subst Q (sym same) new
    ]) refl

none_true : (b : Bool) → b ≡ false → b ≡ true → {X : Type 0} → X
none_true b failed passed {X} = let e : true ≡ false = sym passed ∙ failed in cc

module _ (test : ℕ → Bool) (tracks : List (List ℕ)) where
  abbrev T : ℕ → List ℕ
  T number = track_at tracks number

  pub nothing_of : NoneOf test tracks 0
  nothing_of = record { none = λ number below. absurd (omega (arith, below)) }

  pub last_of_more : (n : ℕ) (last next : Option ℕ) → LastOf test tracks n last → LastOn test (T n) next → LastOf test tracks (n + 1) (later last next)
  last_of_more n None None old new =
      record { none = λ number below. each_more (λ k. (a : ℕ) → a < length (T k) → test (place (T k) a) ≡ false) n number below (λ lower. old.none number lower) new }
  last_of_more n None (Some b) old new =
      record {
        passes = new.passes;
        last = λ number below. each_more (λ k. (a : ℕ) → a < length (T k) → test (place (T k) a) ≡ true → place (T k) a ≤ b) n number below
            (λ lower a within passed. none_true (test (place (T number) a)) (old.none number lower a within) passed) new.last;
      }
  last_of_more n (Some c) None old new =
      record {
        passes = old.passes;
        last = λ number below. each_more (λ k. (a : ℕ) → a < length (T k) → test (place (T k) a) ≡ true → place (T k) a ≤ c) n number below
            (λ lower. old.last number lower) (λ a within passed. none_true (test (place (T n) a)) (new a within) passed);
      }
  last_of_more n (Some c) (Some b) old new =
      record {
        passes = greater c b old.passes new.passes;
        last = λ number below. each_more (λ k. (a : ℕ) → a < length (T k) → test (place (T k) a) ≡ true → place (T k) a ≤ max c b) n number below
            (λ lower a within passed. let at_most = old.last number lower a within passed in omega (arith, at_most)) (λ a within passed. let at_most = new.last a within passed in omega (arith, at_most));
      }
    where
      greater : (c b : ℕ) → test c ≡ true → test b ≡ true → test (max c b) ≡ true
      greater c b one other =
          let P : Bool → Type 0 = λ t. nat_lt c b ≡ t → test (max c b) ≡ true in
          (elim (nat_lt c b) as P [
            | true ↦ λ is. let e : max c b ≡ b = grind (arith, nat_tests) in subst (λ n. test n ≡ true) (sym e) other
            | false ↦ λ is. let e : max c b ≡ c = grind (arith, nat_tests) in subst (λ n. test n ≡ true) (sym e) one
          ]) refl

  pub first_of_more : (n : ℕ) (first next : Option ℕ) → FirstOf test tracks n first → FirstOn test (T n) next → FirstOf test tracks (n + 1) (earlier first next)
  first_of_more n None None old new =
      record { none = λ number below. each_more (λ k. (a : ℕ) → a < length (T k) → test (place (T k) a) ≡ false) n number below (λ lower. old.none number lower) new }
  first_of_more n None (Some b) old new =
      record {
        passes = new.passes;
        first = λ number below. each_more (λ k. (a : ℕ) → a < length (T k) → test (place (T k) a) ≡ true → b ≤ place (T k) a) n number below
            (λ lower a within passed. none_true (test (place (T number) a)) (old.none number lower a within) passed) new.first;
      }
  first_of_more n (Some c) None old new =
      record {
        passes = old.passes;
        first = λ number below. each_more (λ k. (a : ℕ) → a < length (T k) → test (place (T k) a) ≡ true → c ≤ place (T k) a) n number below
            (λ lower. old.first number lower) (λ a within passed. none_true (test (place (T n) a)) (new a within) passed);
      }
  first_of_more n (Some c) (Some b) old new =
      record {
        passes = less c b old.passes new.passes;
        first = λ number below. each_more (λ k. (a : ℕ) → a < length (T k) → test (place (T k) a) ≡ true → min c b ≤ place (T k) a) n number below
            (λ lower a within passed. let at_least = old.first number lower a within passed in omega (arith, at_least)) (λ a within passed. let at_least = new.first a within passed in omega (arith, at_least));
      }
    where
      less : (c b : ℕ) → test c ≡ true → test b ≡ true → test (min c b) ≡ true
      less c b one other =
          let P : Bool → Type 0 = λ t. nat_lt c b ≡ t → test (min c b) ≡ true in
          (elim (nat_lt c b) as P [
            | true ↦ λ is. let e : min c b ≡ c = grind (arith, nat_tests) in subst (λ n. test n ≡ true) (sym e) one
            | false ↦ λ is. let e : min c b ≡ b = grind (arith, nat_tests) in subst (λ n. test n ≡ true) (sym e) other
          ]) refl

  -- where each place is on a track, none passes, or those behind the last and before the first fail
  pub none_passes : (ops : List OpId) (n : ℕ) → length tracks ≤ n → Tracked ops tracks → NoneOf test tracks n → (at : ℕ) → at < length ops → test at ≡ false
  none_passes ops n all tracked none at within =
      let on : IsOn tracks at = tracked.all at within in
      let on_one = on.is_track in
      subst (λ k. test k ≡ false) on.is (none.none on.number (omega (arith, on_one, all)) on.index on.within)

  pub behind_last : (ops : List OpId) (n last : ℕ) → length tracks ≤ n → Tracked ops tracks → IsLastOf test tracks n last → (at : ℕ) → last < at → at < length ops → test at ≡ false
  behind_last ops n last all tracked is at behind within =
      let on : IsOn tracks at = tracked.all at within in
      let on_one = on.is_track in
      let P : Bool → Type 0 = λ b. test at ≡ b → b ≡ false in
      (elim (test at) as P [
        | true ↦ λ passed.
            let at_most : place (T on.number) on.index ≤ last = is.last on.number (omega (arith, on_one, all)) on.index on.within (subst (λ n. test n ≡ true) (sym on.is) passed) in
            absurd (omega (arith, at_most, on.is, behind))
        | false ↦ λ _. refl
      ]) refl

  pub before_first : (ops : List OpId) (n first : ℕ) → length tracks ≤ n → Tracked ops tracks → IsFirstOf test tracks n first → (at : ℕ) → at < first → at < length ops → test at ≡ false
  before_first ops n first all tracked is at before within =
      let on : IsOn tracks at = tracked.all at within in
      let on_one = on.is_track in
      let P : Bool → Type 0 = λ b. test at ≡ b → b ≡ false in
      (elim (test at) as P [
        | true ↦ λ passed.
            let at_least : first ≤ place (T on.number) on.index = is.first on.number (omega (arith, on_one, all)) on.index on.within (subst (λ n. test n ≡ true) (sym on.is) passed) in
            absurd (omega (arith, at_least, on.is, before))
        | false ↦ λ _. refl
      ]) refl

-- what is found on all tracks
pub last_found_on : (notes : Notes) (r : OpId) (ops writes : List OpId) (count : ℕ) (tracks : List (List ℕ)) (n : ℕ) (last : Option ℕ) → length tracks ≤ n → Tracked ops tracks → writes ≡ take count ops
    → LastOf (λ at. is_known notes r (slice_get writes at)) tracks n last → op_on writes last ≡ last_known notes r None writes
last_found_on notes r ops writes count tracks n None all tracked is none =
    let short : length writes ≤ length ops = rw (is, length-take count ops) (omega arith) in
    sym (all_unknown notes r writes None (λ i within. none_passes (λ at. is_known notes r (slice_get writes at)) tracks ops n all tracked none i (omega (arith, within, short))))
last_found_on notes r ops writes count tracks n (Some at) all tracked is last =
    let short : length writes ≤ length ops = rw (is, length-take count ops) (omega arith) in
    let found = known_write notes r (slice_get writes at) last.passes in
    found.1.0
    ∙ sym (last_is notes r writes None at found.0 found.1.0 found.1.1
    (λ j behind within. behind_last (λ k. is_known notes r (slice_get writes k)) tracks ops n at all tracked last j behind (omega (arith, within, short))))

pub first_found_on : (notes : Notes) (reading : Reading) (w : OpId) (ops writes : List OpId) (count : ℕ) (tracks : List (List ℕ)) (n : ℕ) (first : Option ℕ) → length tracks ≤ n → Tracked ops tracks → writes ≡ take count ops
    → FirstOf (λ at. shows_at notes reading w (slice_get writes at)) tracks n first → op_on writes first ≡ first_shown notes reading w writes
first_found_on notes reading w ops writes count tracks n None all tracked is none =
    let short : length writes ≤ length ops = rw (is, length-take count ops) (omega arith) in
    sym (none_shows notes reading w writes (λ i within. none_passes (λ at. shows_at notes reading w (slice_get writes at)) tracks ops n all tracked none i (omega (arith, within, short))))
first_found_on notes reading w ops writes count tracks n (Some at) all tracked is first =
    let short : length writes ≤ length ops = rw (is, length-take count ops) (omega arith) in
    let found = shown_write notes reading w (slice_get writes at) first.passes in
    let inside : at < length writes = Rattle.std.proofs.lemmas.Option.slice_get_within writes at found.0 found.1.0 in
    found.1.0
    ∙ sym (first_is notes reading w writes at found.0 found.1.0 found.1.1
    (λ j before. before_first (λ k. shows_at notes reading w (slice_get writes k)) tracks ops n at all tracked first j before (omega (arith, before, inside, short))))

-- Along one track.

pub rising : (ops : List OpId) (track : List ℕ) → Rises ops track → AreRising track
rising ops track rises = rises.later

not_after : (ops : List OpId) (track : List ℕ) → Rises ops track → (a b : ℕ) → a ≤ b → b < length track → place track a ≤ place track b
not_after ops track rises a b order within =
    let P : Bool → Type 0 = λ c. nat_lt a b ≡ c → place track a ≤ place track b in
    (elim (nat_lt a b) as P [
      | true ↦ λ is. let before : a < b = grind (arith, nat_tests) in let lower = rises.later a b before within in omega (arith, lower)
      | false ↦ λ is.
          let past : b ≤ a = grind (arith, nat_tests) in
          let same : a ≡ b = omega (arith, past, order) in
          subst (λ n. place track a ≤ place track n) same (omega arith)
    ]) refl

-- what a read knows is known of the earlier ones
pub falls_known : (notes : Notes) (r : OpId) (ops writes : List OpId) (count : ℕ) (track : List ℕ) → Rises ops track → writes ≡ take count ops → KnowsEarlier notes r ops → FallsAlong (λ at. is_known notes r (slice_get writes at)) track
falls_known notes r ops writes count track rises is earlier_known = λ a b order within passed.
    let pa : ℕ = place track a in
    let pb : ℕ = place track b in
    let lower : pa ≤ pb = not_after ops track rises a b order within in
    let taken : is_known notes r (slice_get (take count ops) pb) ≡ true = subst (λ xs. is_known notes r (slice_get xs pb) ≡ true) is passed in
    let P : Bool → Type 0 = λ c. nat_lt pb count ≡ c → is_known notes r (slice_get writes pa) ≡ true in
    (elim (nat_lt pb count) as P [
      | true ↦ λ lt.
          let below : pb < count = grind (arith, nat_tests) in
          let old : is_known notes r (slice_get ops pb) ≡ true = subst (λ found. is_known notes r found ≡ true) (get_taken ops count pb below) taken in
          let known : is_known notes r (slice_get ops pa) ≡ true = earlier_known pa pb (rises.order a b order within) old in
          ap (λ xs. is_known notes r (slice_get xs pa)) is ∙ ap (λ found. is_known notes r found) (get_taken ops count pa (omega (arith, lower, below))) ∙ known
      | false ↦ λ ge.
          let beyond : count ≤ pb = grind (arith, nat_tests) in
          let none : is_known notes r (slice_get (take count ops) pb) ≡ false = ap (λ found. is_known notes r found) (get_beyond ops count pb beyond) in
          none_true (is_known notes r (slice_get (take count ops) pb)) none taken
    ]) refl

not_true : (b : Bool) → not b ≡ true → b ≡ false
not_true true is = cc
not_true false is = refl

-- what tells of a write is told by the later ones
pub falls_told : (notes : Notes) (w : OpId) (ops writes : List OpId) (count : ℕ) (track : List ℕ) → Rises ops track → writes ≡ take count ops → TellsLater notes w ops → FallsAlong (λ at. not (tells_of notes w (slice_get writes at))) track
falls_told notes w ops writes count track rises is later_tells = λ a b order within passed.
    let pa : ℕ = place track a in
    let pb : ℕ = place track b in
    let lower : pa ≤ pb = not_after ops track rises a b order within in
    let taken : tells_of notes w (slice_get (take count ops) pb) ≡ false = not_true (tells_of notes w (slice_get (take count ops) pb)) (subst (λ xs. not (tells_of notes w (slice_get xs pb)) ≡ true) is passed) in
    let P : Bool → Type 0 = λ c. nat_lt pb count ≡ c → not (tells_of notes w (slice_get writes pa)) ≡ true in
    (elim (nat_lt pb count) as P [
      | true ↦ λ lt.
          let below : pb < count = grind (arith, nat_tests) in
          let old : tells_of notes w (slice_get ops pb) ≡ false = subst (λ found. tells_of notes w found ≡ false) (get_taken ops count pb below) taken in
          let Q : Bool → Type 0 = λ c. tells_of notes w (slice_get ops pa) ≡ c → not c ≡ true in
          let first : not (tells_of notes w (slice_get ops pa)) ≡ true = (elim (tells_of notes w (slice_get ops pa)) as Q [
            | true ↦ λ tells. none_true (tells_of notes w (slice_get ops pb)) old (later_tells pa pb (rises.order a b order within) tells)
            | false ↦ λ _. refl
          ]) refl in
          ap (λ xs. not (tells_of notes w (slice_get xs pa))) is ∙ ap (λ found. not (tells_of notes w found)) (get_taken ops count pa (omega (arith, lower, below))) ∙ first
      | false ↦ λ ge.
          let beyond : count ≤ pb = grind (arith, nat_tests) in
          let none : tells_of notes w (slice_get (take count ops) pb) ≡ true = ap (λ found. tells_of notes w found) (get_beyond ops count pb beyond) in
          none_true (tells_of notes w (slice_get (take count ops) pb)) taken none
    ]) refl

-- where a search along a track ends
pub point_none : (test : ℕ → Bool) (places : List ℕ) (count : ℕ) → count ≡ 0 → AllWithin (λ at. test at ≡ false) places count (length places) → LastOn test places None
point_none test places count is fails = λ a within. fails a 0 (omega (arith, is)) within

pub point_last : (test : ℕ → Bool) (places : List ℕ) (count at : ℕ) → AreRising places → 0 < count → count ≤ length places → at ≡ place places (count - 1)
    → AllWithin (λ n. test n ≡ true) places 0 count → AllWithin (λ n. test n ≡ false) places count (length places) → LastOn test places (Some at)
point_last test places count at rises some within is passes fails =
    record {
      passes = subst (λ n. test n ≡ true) (sym is) (passes (count - 1) 0 (omega arith) (omega (arith, some)));
      last = λ a inside passed.
          let P : Bool → Type 0 = λ c. nat_lt a (count - 1) ≡ c → place places a ≤ at in
          (elim (nat_lt a (count - 1)) as P [
            | true ↦ λ lt.
                let before : a < count - 1 = grind (arith, nat_tests) in
                let lower = rises a (count - 1) before (omega (arith, some, within)) in
                omega (arith, lower, is)
            | false ↦ λ ge.
                let past : count - 1 ≤ a = grind (arith, nat_tests) in
                let Q : Bool → Type 0 = λ c. nat_lt a count ≡ c → place places a ≤ at in
                (elim (nat_lt a count) as Q [
                  | true ↦ λ lt.
                      let below : a < count = grind (arith, nat_tests) in
                      let same : a ≡ count - 1 = omega (arith, past, below, some) in
                      let here : place places a ≡ at = ap (λ n. place places n) same ∙ sym is in
                      omega (arith, here)
                  | false ↦ λ beyond.
                      let behind : count ≤ a = grind (arith, nat_tests) in
                      none_true (test (place places a)) (fails a 0 behind inside) passed
                ]) refl
          ]) refl;
    }

-- an operation that tells of the write shows it where it landed whole
shows_whole : (notes : Notes) (reading : Reading) (w : OpId) (found : Option OpId) → tells_of notes w found ≡ true → shows_at notes reading w found ≡ is_whole notes reading found
shows_whole notes reading w None tells = refl
shows_whole notes reading w (Some v) tells = ap (λ b. landed_whole notes reading v && b) tells ∙ Rattle.std.proofs.Math.Bool.and-true (landed_whole notes reading v)

shows_not : (notes : Notes) (reading : Reading) (w : OpId) (found : Option OpId) → tells_of notes w found ≡ false → shows_at notes reading w found ≡ false
shows_not notes reading w None tells = refl
shows_not notes reading w (Some v) tells = ap (λ b. landed_whole notes reading v && b) tells ∙ Rattle.std.proofs.Math.Bool.and-false (landed_whole notes reading v)

not_false : (b : Bool) → not b ≡ false → b ≡ true
not_false true is = refl
not_false false is = cc

pub point_first : (notes : Notes) (reading : Reading) (w : OpId) (writes : List OpId) (places rest : List ℕ) (start : ℕ) (result : Option ℕ) → start ≤ length places → rest ≡ drop start places
    → AllWithin (λ n. not (tells_of notes w (slice_get writes n)) ≡ true) places 0 start → AllWithin (λ n. not (tells_of notes w (slice_get writes n)) ≡ false) places start (length places)
    → FirstOn (λ at. is_whole notes reading (slice_get writes at)) rest result → FirstOn (λ at. shows_at notes reading w (slice_get writes at)) places result
point_first notes reading w writes places rest start result within is before behind = go result
  where
    shows : ℕ → Bool
    shows at = shows_at notes reading w (slice_get writes at)

    count : length rest ≡ length places - start
    count = ap (λ (xs : List ℕ). length xs) is ∙ length-drop start places

    rest_place : (a : ℕ) → place rest a ≡ place places (start + a)
    rest_place a = ap (λ xs. place xs a) is ∙ get_or-drop start places a 0

    early : (a : ℕ) → a < start → shows_at notes reading w (slice_get writes (place places a)) ≡ false
    early a lower = shows_not notes reading w (slice_get writes (place places a)) (not_true (tells_of notes w (slice_get writes (place places a))) (before a 0 (omega arith) lower))

    late : (a : ℕ) → start ≤ a → a < length places → shows_at notes reading w (slice_get writes (place places a)) ≡ is_whole notes reading (slice_get writes (place places a))
    late a past inside = shows_whole notes reading w (slice_get writes (place places a)) (not_false (tells_of notes w (slice_get writes (place places a))) (behind a 0 past inside))

    moved : (a : ℕ) → start ≤ a → place rest (a - start) ≡ place places a
    moved a past = let e : start + (a - start) ≡ a = omega (arith, past) in rest_place (a - start) ∙ ap (λ n. place places n) e

    go : (result : Option ℕ) → FirstOn (λ at. is_whole notes reading (slice_get writes at)) rest result → FirstOn (λ at. shows_at notes reading w (slice_get writes at)) places result
    go None none = λ a inside.
        let P : Bool → Type 0 = λ c. nat_lt a start ≡ c → shows_at notes reading w (slice_get writes (place places a)) ≡ false in
        (elim (nat_lt a start) as P [
          | true ↦ λ lt. let lower : a < start = grind (arith, nat_tests) in early a lower
          | false ↦ λ ge.
              let past : start ≤ a = grind (arith, nat_tests) in
              late a past inside ∙ subst (λ n. is_whole notes reading (slice_get writes n) ≡ false) (moved a past) (none (a - start) (omega (arith, past, inside, count)))
        ]) refl
    go (Some at) first =
        let in_rest = first.within in
        let here : place places (start + first.index) ≡ at = sym (rest_place first.index) ∙ first.is in
        let inside : start + first.index < length places = omega (arith, in_rest, count, within) in
        record {
          index = start + first.index;
          within = inside;
          is = here;
          passes = subst (λ n. shows_at notes reading w (slice_get writes n) ≡ true) here
              (late (start + first.index) (omega arith) inside ∙ subst (λ n. is_whole notes reading (slice_get writes n) ≡ true) (sym here) first.passes);
          first = λ a inside_a passed.
              let P : Bool → Type 0 = λ c. nat_lt a start ≡ c → at ≤ place places a in
              (elim (nat_lt a start) as P [
                | true ↦ λ lt. let lower : a < start = grind (arith, nat_tests) in none_true (shows_at notes reading w (slice_get writes (place places a))) (early a lower) passed
                | false ↦ λ ge.
                    let past : start ≤ a = grind (arith, nat_tests) in
                    let whole : is_whole notes reading (slice_get writes (place places a)) ≡ true = sym (late a past inside_a) ∙ passed in
                    subst (λ n. at ≤ n) (moved a past) (first.first (a - start) (omega (arith, past, inside_a, count)) (subst (λ n. is_whole notes reading (slice_get writes n) ≡ true) (sym (moved a past)) whole))
              ]) refl;
        }

-- Places that do not pass so far.

pub record FailsSo (test : ℕ → Bool) (places : List ℕ) (n : ℕ) : Type 0 where
  pub fails : (a : ℕ) → a < n → test (place places a) ≡ false

pub fails_none : (test : ℕ → Bool) (places : List ℕ) → FailsSo test places 0
fails_none test places = record { fails = λ a below. absurd (omega (arith, below)) }

pub fails_more : (test : ℕ → Bool) (places : List ℕ) (n : ℕ) → FailsSo test places n → test (place places n) ≡ false → FailsSo test places (n + 1)
fails_more test places n so here = record { fails = λ a below. each_more (λ k. test (place places k) ≡ false) n a below (λ lower. so.fails a lower) here }

-- the first that passes, and none where no operation is there any more
pub first_passes : (test : ℕ → Bool) (places : List ℕ) (n at : ℕ) → AreRising places → n < length places → FailsSo test places n → at ≡ place places n → test at ≡ true → FirstOn test places (Some at)
first_passes test places n at rises inside so is passed =
    record {
      index = n;
      within = inside;
      is = sym is;
      passes = passed;
      first = λ a within passes.
          let P : Bool → Type 0 = λ c. nat_lt a n ≡ c → at ≤ place places a in
          (elim (nat_lt a n) as P [
            | true ↦ λ lt. let lower : a < n = grind (arith, nat_tests) in none_true (test (place places a)) (so.fails a lower) passes
            | false ↦ λ ge.
                let Q : Bool → Type 0 = λ c. nat_lt n a ≡ c → at ≤ place places a in
                (elim (nat_lt n a) as Q [
                  | true ↦ λ lt. let before : n < a = grind (arith, nat_tests) in let lower = rises n a before within in omega (arith, lower, is)
                  | false ↦ λ le. let same : a ≡ n = grind (arith, nat_tests) in let here : place places a ≡ at = ap (λ k. place places k) same ∙ sym is in omega (arith, here)
                ]) refl
          ]) refl;
    }

pub none_whole : (notes : Notes) (reading : Reading) (writes : List OpId) (places : List ℕ) (n at : ℕ) → AreRising places → n < length places → FailsSo (λ k. is_whole notes reading (slice_get writes k)) places n
    → at ≡ place places n → length writes ≤ at → FirstOn (λ k. is_whole notes reading (slice_get writes k)) places None
none_whole notes reading writes places n at rises inside so is beyond = λ a within.
    let P : Bool → Type 0 = λ c. nat_lt a n ≡ c → is_whole notes reading (slice_get writes (place places a)) ≡ false in
    (elim (nat_lt a n) as P [
      | true ↦ λ lt. let lower : a < n = grind (arith, nat_tests) in so.fails a lower
      | false ↦ λ ge.
          let past : length writes ≤ place places a = (
          let Q : Bool → Type 0 = λ c. nat_lt n a ≡ c → length writes ≤ place places a in
          (elim (nat_lt n a) as Q [
            | true ↦ λ lt. let before : n < a = grind (arith, nat_tests) in let lower = rises n a before within in omega (arith, lower, is, beyond)
            | false ↦ λ le. let same : a ≡ n = grind (arith, nat_tests) in let here : place places a ≡ at = ap (λ k. place places k) same ∙ sym is in omega (arith, here, beyond)
          ]) refl
          ) in
          ap (λ found. is_whole notes reading found) (slice_get_past writes (place places a) past)
    ]) refl

pub all_fail : (test : ℕ → Bool) (places : List ℕ) (n : ℕ) → length places ≤ n → FailsSo test places n → FirstOn test places None
all_fail test places n all so = λ a within. so.fails a (omega (arith, within, all))

-- What is found landed.
pub last_landed : (notes : Notes) (r : OpId) (ws : List OpId) (found : Option OpId) (w : OpId) → last_known notes r found ws ≡ Some w → ((i : ℕ) × (slice_get ws i ≡ Some w)) ⊎ (found ≡ Some w)
last_landed notes r [] found w is = inr is
last_landed notes r (v ∷ ws) found w is =
    let old = last_landed notes r ws (cond (knows_by notes v r) (Some v) found) w is in
    let X : Type 0 = ((i : ℕ) × (slice_get (v ∷ ws) i ≡ Some w)) ⊎ (found ≡ Some w) in
    elim old [
      | inl there ↦ inl (suc there.0, there.1)
      | inr here ↦
          (let P : Bool → Type 0 = λ b. cond b (Some v) found ≡ Some w → X in
          (elim (knows_by notes v r) as P [ true ↦ λ e. inl (zero, e) | false ↦ λ e. inr e ]) here)
    ]

-- a track that a loop goes over
pub item_track : (tracks : List (List ℕ)) (n : ℕ) (item places : List ℕ) → n < length tracks → item ≡ get_or tracks n item → places ≡ item → places ≡ track_at tracks n
item_track tracks n item places within is same = same ∙ is ∙ Rattle.std.proofs.lemmas.List.get_or_default tracks n item [] within

-- what a search along a track asks
pub parted_by : (test : ℕ → Bool) (places : List ℕ) → FallsAlong test places → IsPartitionedBy test places
parted_by test places falls = λ i j d order within passed.
    subst (λ n. test n ≡ true) (Rattle.std.proofs.lemmas.List.get_or_default places i 0 d (omega (arith, order, within)))
    (falls i j order within (subst (λ n. test n ≡ true) (Rattle.std.proofs.lemmas.List.get_or_default places j d 0 within) passed))

-- the last that is known tells of itself always
pub last_tells : (notes : Notes) (reading : Reading) (r w : OpId) → Searchable notes → last_known notes r None (landed_before notes reading) ≡ Some w → TellsAlways notes w
last_tells notes reading r w can is =
    let all : List OpId = writes_at notes reading in
    let found = last_landed notes r (take reading.landed all) None w is in
    elim found [
      | inl there ↦
          (let inside : there.0 < length (take reading.landed all) = Rattle.std.proofs.lemmas.Option.slice_get_within (take reading.landed all) there.0 w there.1 in
          let short : length (take reading.landed all) ≤ reading.landed = rw (length-take reading.landed all) (omega arith) in
          can.told (Rattle.audit_text.specs.Notes.word_of reading.target reading.space reading.address) there.0 w (sym (get_taken all reading.landed there.0 (omega (arith, inside, short))) ∙ there.1))
      | inr here ↦ cc
    ]
