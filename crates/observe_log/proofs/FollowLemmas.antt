-- The passes over acts and lines, one step more.
use Rattle.std.proofs.Common.{◌≡◌, ℕ, zero, suc, ◌+◌, ◌<◌, ◌≤◌, Bool, true, false, cond, eqb, List, [], ◌∷◌, length, drop, get_or, max, Some, inl, inr, refl, sym, ap, subst, ◌∙◌, arith}
use Rattle.std.specs.List.{slice_get}
use Rattle.std.proofs.Math.ListN.{set}
use Rattle.std.proofs.lemmas.Bool.{cases_eq}
use Rattle.std.proofs.lemmas.Bool.Decides.{nat_tests}
use Rattle.std.proofs.lemmas.Option.{slice_get_within, slice_get-get_or, get_or_from_slice_get}
use Rattle.std.proofs.lemmas.Grind.{get_or-set_at}
use Rattle.std.proofs.lemmas.List.{get_or-set_other, drop_all, length-set}
use Rattle.board_model.specs.declared.board.Board.{Board}
use Rattle.history_model.specs.declared.event.Event.{Event}
use Rattle.law_early.specs.Early.{acts_of}
use Rattle.observe_told.specs.declared.seen.Seen.{Seen}
use Rattle.observe_told.specs.declared.seen.Log.{Log}
use Rattle.observe_log.specs.declared.shown.Shown.{Shown}
use Rattle.observe_log.specs.Acts.{IsOf, Follows, is_over}
use Rattle.observe_log.specs.Told.{acts_of_line}
use Rattle.observe_told.specs.Addresses.{phases_of_line}
use Rattle.observe_log.specs.Rows.{row_of}
use Rattle.observe_log.specs.Checks.{is_act, AllFollow, AllOver, AllInOrder}
use Rattle.observe_log.specs.Loops.{Reaches, FollowSo, OverSo, StandSo}
use Rattle.observe_log.proofs.EventLemmas.{acts_skip, acts_keep, drop_one}

-- one element changed: it is the new one there, and the others are as they were
pub get_set_same : {X : Type 0} (xs : List X) (i : ℕ) (y : X) → i < length xs → slice_get (set xs i y) i ≡ Some y
get_set_same [] i y inside = absurd (omega arith)
get_set_same (x ∷ xs) zero y inside = refl
get_set_same (x ∷ xs) (suc i) y inside = get_set_same xs i y (omega arith)

pub get_set_other : {X : Type 0} (xs : List X) (i j : ℕ) (y : X) → (j ≡ i → ⊥) → slice_get (set xs i y) j ≡ slice_get xs j
get_set_other [] i j y other = refl
get_set_other (x ∷ xs) zero zero y other = absurd (other refl)
get_set_other (x ∷ xs) zero (suc j) y other = refl
get_set_other (x ∷ xs) (suc i) zero y other = refl
get_set_other (x ∷ xs) (suc i) (suc j) y other = get_set_other xs i j y (λ e. other (ap suc e))

-- an act more of the line at its place
pub reaches_more : (log : Log) (board : Board) (acts : List Event) (lines : List ℕ) (before now : List Shown) (act : Event) (later : List Event) (n : ℕ) (later_lines : List ℕ) (seen : Seen) (shown next : Shown)
    → slice_get log.lines n ≡ Some seen → slice_get now n ≡ Some shown → IsOf log board seen shown act next
    → Reaches log board acts lines before now (act ∷ later) (n ∷ later_lines)
    → Reaches log board acts lines before (set now n next) later later_lines
reaches_more log board acts lines before now act later n later_lines seen shown next there was of old = record {
  follow = λ m line first between last at first_is between_is follows.
      elim (cases_eq n m) [
        | inl same ↦
            let is : eqb n m ≡ true = grind (arith, nat_tests) in
            let here : slice_get log.lines m ≡ Some seen = ap (slice_get log.lines) (sym same) ∙ there in
            let one : seen ≡ line = cc in
            let now_is : slice_get now m ≡ Some shown = ap (slice_get now) (sym same) ∙ was in
            let put : slice_get (set now n next) m ≡ Some next = ap (slice_get (set now n next)) (sym same) ∙ get_set_same now n next (slice_get_within now n shown was) in
            let shows : between ≡ next = cc in
            let this : IsOf log board line shown act next = subst (λ (s : Seen). IsOf log board s shown act next) one of in
            let rest : Follows log board line next (acts_of_line m later later_lines) last = subst (λ (s : Shown). Follows log board line s (acts_of_line m later later_lines) last) shows follows in
            let all : Follows log board line shown (cond (eqb n m) (act ∷ acts_of_line m later later_lines) (acts_of_line m later later_lines)) last = rw is (next, this, rest) in
            old.follow m line first shown last at first_is now_is all
        | inr other ↦
            let is : eqb n m ≡ false = grind (arith, nat_tests) in
            let kept : slice_get now m ≡ Some between = sym (get_set_other now n m next (λ e. other (sym e))) ∙ between_is in
            let all : Follows log board line between (cond (eqb n m) (act ∷ acts_of_line m later later_lines) (acts_of_line m later later_lines)) last = rw is follows in
            old.follow m line first between last at first_is kept all
      ];
}

-- one line more, in the order of its bus and of the times
pub stand_more : (seen : List Seen) (lines : List ℕ) (count : ℕ) (last : List ℕ) (latest_start n : ℕ) (line : Seen)
    → slice_get lines count ≡ Some n → slice_get seen n ≡ Some line → line.bus < length last → get_or last line.bus 0 ≤ n → latest_start ≤ line.end
    → StandSo seen lines count last latest_start
    → StandSo seen lines (count + 1) (set last line.bus n) (max line.start latest_start)
stand_more seen lines count last latest_start n line place_is line_is bus_is behind in_time old = record {
  buses = length-set last line.bus n ∙ old.buses;
  order = λ j k m p earlier later before within j_is k_is m_is p_is.
      elim (cases_eq k count) [
        | inl same ↦
            let place : slice_get lines count ≡ Some p = ap (slice_get lines) (sym same) ∙ k_is in
            let here : n ≡ p = cc in
            let there : slice_get seen n ≡ Some later = ap (slice_get seen) here ∙ p_is in
            let one : line ≡ later = cc in
            let on_last = old.places j m earlier (omega arith) j_is m_is in
            let began = old.starts j m earlier (omega arith) j_is m_is in
            let ended : line.end ≡ later.end = ap (λ (s : Seen). s.end) one in
            let bus : line.bus ≡ later.bus = ap (λ (s : Seen). s.bus) one in
            record {
              on_bus = λ on.
                  let last_is : get_or last earlier.bus 0 ≡ get_or last line.bus 0 = ap (λ (b : ℕ). get_or last b 0) (on ∙ sym bus) in
                  omega (arith, on_last, last_is, behind, here);
              in_time = omega (arith, began, in_time, ended);
            }
        | inr other ↦ old.order j k m p earlier later before (omega arith) j_is k_is m_is p_is
      ];
  places = λ j m earlier within j_is m_is.
      elim (cases_eq j count) [
        | inl same ↦
            let place : slice_get lines count ≡ Some m = ap (slice_get lines) (sym same) ∙ j_is in
            let here : n ≡ m = cc in
            let there : slice_get seen n ≡ Some earlier = ap (slice_get seen) here ∙ m_is in
            let one : line ≡ earlier = cc in
            let bus : earlier.bus ≡ line.bus = ap (λ (s : Seen). s.bus) (sym one) in
            let put : get_or (set last line.bus n) earlier.bus 0 ≡ n = get_or-set_at last line.bus earlier.bus n 0 bus bus_is in
            omega (arith, put, here)
        | inr other ↦
            let on_last = old.places j m earlier (omega arith) j_is m_is in
            elim (cases_eq earlier.bus line.bus) [
              | inl bus ↦
                  let put : get_or (set last line.bus n) earlier.bus 0 ≡ n = get_or-set_at last line.bus earlier.bus n 0 bus bus_is in
                  let last_is : get_or last earlier.bus 0 ≡ get_or last line.bus 0 = ap (λ (b : ℕ). get_or last b 0) bus in
                  omega (arith, put, on_last, last_is, behind)
              | inr apart ↦
                  let put = get_or-set_other last line.bus earlier.bus n 0 apart in
                  omega (arith, put, on_last)
            ]
      ];
  starts = λ j m earlier within j_is m_is.
      elim (cases_eq j count) [
        | inl same ↦
            let place : slice_get lines count ≡ Some m = ap (slice_get lines) (sym same) ∙ j_is in
            let here : n ≡ m = cc in
            let there : slice_get seen n ≡ Some earlier = ap (slice_get seen) here ∙ m_is in
            let one : line ≡ earlier = cc in
            let began : line.start ≡ earlier.start = ap (λ (s : Seen). s.start) one in
            omega (arith, began)
        | inr other ↦ let old_start = old.starts j m earlier (omega arith) j_is m_is in omega arith
      ];
}

-- before the first act
pub reaches_begun : (log : Log) (board : Board) (acts : List Event) (lines : List ℕ) (before : List Shown) → Reaches log board acts lines before before acts lines
reaches_begun log board acts lines before = record {
  follow = λ n seen first between last there first_is between_is follows.
      let same : between ≡ first = cc in
      subst (λ (s : Shown). Follows log board seen s (acts_of_line n acts lines) last) same follows;
}

-- before the first event
pub follow_none : (log : Log) (board : Board) (events : List Event) (lines : List ℕ) (before : List Shown) → FollowSo log board events lines before before 0 0
follow_none log board events lines before = record {
  among = omega arith;
  of_lines = λ j n within at. absurd (omega arith);
  each = refl;
  reaches = reaches_begun log board (acts_of events) lines before;
}

-- an arrival more
pub follow_skip : (log : Log) (board : Board) (events : List Event) (lines : List ℕ) (before now : List Shown) (i acts : ℕ) (d : Event)
    → i < length events → is_act (get_or events i d) ≡ false
    → FollowSo log board events lines before now i acts
    → FollowSo log board events lines before now (i + 1) acts
follow_skip log board events lines before now i acts d within arrives old =
    let later : acts_of (drop i events) ≡ acts_of (drop (i + 1) events) = ap acts_of (drop_one events i d within) ∙ acts_skip (get_or events i d) (drop (i + 1) events) arrives in
    record {
      among = ap (λ (l : List Event). acts + length l) (sym later) ∙ old.among;
      of_lines = old.of_lines;
      each = old.each;
      reaches = subst (λ (l : List Event). Reaches log board (acts_of events) lines before now l (drop acts lines)) later old.reaches;
    }

-- an act more, of the line that stands beside it
pub follow_next : (log : Log) (board : Board) (events : List Event) (lines : List ℕ) (before now : List Shown) (i acts n : ℕ) (d : Event) (seen : Seen) (s next : Shown)
    → length before ≡ length log.lines → i < length events → is_act (get_or events i d) ≡ true → slice_get lines acts ≡ Some n
    → slice_get log.lines n ≡ Some seen → IsOf log board seen (get_or now n s) (get_or events i d) next
    → FollowSo log board events lines before now i acts
    → FollowSo log board events lines before (set now n next) (i + 1) (acts + 1)
follow_next log board events lines before now i acts n d seen s next long within is place there of old =
    let act : Event = get_or events i d in
    let in_lines : acts < length lines = slice_get_within lines acts n place in
    let in_log : n < length log.lines = slice_get_within log.lines n seen there in
    let in_now : n < length now = omega (arith, in_log, long, old.each) in
    let was : slice_get now n ≡ Some (get_or now n s) = slice_get-get_or now n s in_now in
    let later : acts_of (drop i events) ≡ act ∷ acts_of (drop (i + 1) events) = ap acts_of (drop_one events i d within) ∙ acts_keep act (drop (i + 1) events) is in
    let n_is : get_or lines acts 0 ≡ n = get_or_from_slice_get lines acts n 0 place in
    let lines_are : drop acts lines ≡ n ∷ drop (acts + 1) lines = drop_one lines acts 0 in_lines ∙ ap (λ (m : ℕ). m ∷ drop (acts + 1) lines) n_is in
    let here : Reaches log board (acts_of events) lines before now (act ∷ acts_of (drop (i + 1) events)) (n ∷ drop (acts + 1) lines) =
    subst (λ (l : List ℕ). Reaches log board (acts_of events) lines before now (act ∷ acts_of (drop (i + 1) events)) l) lines_are
    (subst (λ (l : List Event). Reaches log board (acts_of events) lines before now l (drop acts lines)) later old.reaches) in
    let longer : length (acts_of (drop i events)) ≡ suc (length (acts_of (drop (i + 1) events))) = ap (λ (l : List Event). length l) later in
    record {
      among = omega (arith, longer, old.among);
      of_lines = λ j m inside at.
          elim (cases_eq j acts) [
            | inl same ↦
                let here_is : slice_get lines acts ≡ Some m = ap (slice_get lines) (sym same) ∙ at in
                let one : n ≡ m = cc in
                omega (arith, one, in_log)
            | inr other ↦ old.of_lines j m (omega (arith, inside, other)) at
          ];
      each = length-set now n next ∙ old.each;
      reaches = reaches_more log board (acts_of events) lines before now act (acts_of (drop (i + 1) events)) n (drop (acts + 1) lines) seen (get_or now n s) next there was of here;
    }

-- behind the last event, where there are no more lines
pub follow_all : (log : Log) (board : Board) (events : List Event) (lines : List ℕ) (before now : List Shown) (i acts : ℕ)
    → length events ≤ i → acts ≡ length lines → FollowSo log board events lines before now i acts → AllFollow log board (acts_of events) lines before now
follow_all log board events lines before now i acts most all old =
    let none : acts_of (drop i events) ≡ [] = ap acts_of (drop_all i events most) in
    let counted : length (acts_of (drop i events)) ≡ 0 = ap (λ (l : List Event). length l) none in
    record {
      beside = omega (arith, counted, all, old.among);
      each = old.each;
      of_lines = λ j n at. let within = slice_get_within lines j n at in old.of_lines j n (omega (arith, within, all)) at;
      follow = λ n seen first last there first_is last_is.
          let done : Follows log board seen last (acts_of_line n (acts_of (drop i events)) (drop acts lines)) last = rw none refl in
          old.reaches.follow n seen first last last there first_is last_is done;
    }

-- the lines, one more
pub over_none : (log : Log) (shown : List Shown) → OverSo log shown 0
over_none log shown = record { over = λ n seen last within there last_is. absurd (omega arith) }

pub over_next : (log : Log) (shown : List Shown) (k : ℕ) (seen : Seen) (s : Shown) → k < length log.lines → length shown ≡ length log.lines
    → slice_get log.lines k ≡ Some seen → is_over (row_of log seen) seen (phases_of_line log seen) (get_or shown k s) ≡ true
    → OverSo log shown k → OverSo log shown (k + 1)
over_next log shown k seen s within long there is old = record {
  over = λ n line last inside line_is last_is.
      elim (cases_eq n k) [
        | inl same ↦
            let line_k : slice_get log.lines k ≡ Some line = ap (slice_get log.lines) (sym same) ∙ line_is in
            let last_k : slice_get shown k ≡ Some last = ap (slice_get shown) (sym same) ∙ last_is in
            let was : slice_get shown k ≡ Some (get_or shown k s) = slice_get-get_or shown k s (omega (arith, within, long)) in
            let one : seen ≡ line = cc in
            let two : get_or shown k s ≡ last = cc in
            let P : Seen → Type 0 = λ l. is_over (row_of log l) l (phases_of_line log l) last ≡ true in
            let Q : Shown → Type 0 = λ l. is_over (row_of log seen) seen (phases_of_line log seen) l ≡ true in
            subst P one (subst Q two is)
        | inr other ↦ old.over n line last (omega (arith, inside, other)) line_is last_is
      ];
}

-- the same, where the lines go by another name
pub over_at : (log : Log) (shown : List Shown) (items : List Seen) (k : ℕ) (d : Seen) (s : Shown) (told : Bool) → items ≡ log.lines → k < length items
    → length shown ≡ length log.lines
    → told ≡ is_over (row_of log (get_or items k d)) (get_or items k d) (phases_of_line log (get_or items k d)) (get_or shown k s) → told ≡ true
    → OverSo log shown k → OverSo log shown (k + 1)
over_at log shown items k d s told same inside long told_is holds old =
    let within : k < length log.lines = subst (λ (l : List Seen). k < length l) same inside in
    let is = subst (λ (l : List Seen). is_over (row_of log (get_or l k d)) (get_or l k d) (phases_of_line log (get_or l k d)) (get_or shown k s) ≡ true) same (sym told_is ∙ holds) in
    over_next log shown k (get_or log.lines k d) s within long (slice_get-get_or log.lines k d within) is old

pub over_all : (log : Log) (shown : List Shown) (k : ℕ) → length log.lines ≤ k → OverSo log shown k → AllOver log shown
over_all log shown k most old = record {
  over = λ n seen last there last_is. let within = slice_get_within log.lines n seen there in old.over n seen last (omega (arith, within, most)) there last_is;
}

-- before the first line
pub stand_none : (seen : List Seen) (lines : List ℕ) (last : List ℕ) → length last ≡ 256 → StandSo seen lines 0 last 0
stand_none seen lines last buses = record {
  buses = buses;
  order = λ j k m n earlier later before within j_is k_is m_is n_is. absurd (omega arith);
  places = λ j m earlier within j_is m_is. absurd (omega arith);
  starts = λ j m earlier within j_is m_is. absurd (omega arith);
}

-- behind the last line
pub stand_all : (seen : List Seen) (lines : List ℕ) (count : ℕ) (last : List ℕ) (latest_start : ℕ) → length lines ≤ count → StandSo seen lines count last latest_start → AllInOrder seen lines
stand_all seen lines count last latest_start most old = record {
  order = λ j k m n earlier later before j_is k_is m_is n_is.
      let inside : k < length lines = slice_get_within lines k n k_is in
      old.order j k m n earlier later before (omega arith) j_is k_is m_is n_is;
}

-- what the search may use, loop by loop
pub ruleset follow_steps = (follow_none, follow_all)

pub ruleset over_steps = (over_none, over_all)

pub ruleset stand_steps = (stand_none, stand_all)
