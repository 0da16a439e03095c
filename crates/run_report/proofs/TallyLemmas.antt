-- The counts of a report, with one event more.
use Rattle.std.proofs.Common.{◌≡◌, ◌≢◌, ℕ, ◌+◌, ◌<◌, ◌^◌, Bool, true, false, cond, ◌==◌, ◌&&◌, take, get_or, set, replicate, length, reverse, List, [], ◌∷◌, refl, sym, ap, subst, ◌∙◌, arith, eqb-true, get_or-set_same, get_or-set_other}
use Rattle.std.proofs.lemmas.Bool.{eqb-false}
use Rattle.std.proofs.lemmas.List.{take_more, reverse-append, get_or-replicate, length-set, length-replicate, length-reverse, length-take-le}
use Rattle.std.proofs.lemmas.List.Sums.{count_by-le-length, sum_by-cons}
use Rattle.board_model.specs.declared.board.Board.{Board}
use Rattle.history_model.specs.declared.event.Event.{Event}
use Rattle.history_model.specs.Local.{bus_of}
use Rattle.history_model.specs.Runs.{history_of}
use Rattle.run_report.specs.declared.tallies.CountedKind.{CountedKind}
use Rattle.run_report.specs.declared.tallies.CountedKind.TheVariants.{Land, Read, Accept, Latch, Take, Stall, MasterAbort, TargetAbort, Arrive}
use Rattle.run_report.specs.declared.tallies.Tally.{Tally}
use Rattle.run_report.specs.Counts.{kind_of, column, is_counted, count_of}
use Rattle.run_report.specs.Tallies.{count_in, counted, no_tally, tally_at, Fits, IsTallied}

none_in : (kind : CountedKind) → count_in no_tally kind ≡ 0
none_in Land = refl
none_in Read = refl
none_in Accept = refl
none_in Latch = refl
none_in Take = refl
none_in Stall = refl
none_in MasterAbort = refl
none_in TargetAbort = refl
none_in Arrive = refl

-- before the first event
pub tallied_none : (board : Board) (tallies : List Tally) → tallies ≡ replicate 256 no_tally → IsTallied board [] tallies
tallied_none board tallies is = record {
  all = ap length is ∙ length-replicate 256 no_tally;
  counts = λ bus kind below.
      ap (λ (l : List Tally). count_in (tally_at l bus) kind) is
      ∙ ap (λ (t : Tally). count_in t kind) (get_or-replicate 256 bus no_tally no_tally below)
      ∙ none_in kind;
}

-- one event of a kind more counts for that kind alone
counted_in : (t : Tally) (k kind : CountedKind) → count_in (counted k t) kind ≡ cond (column k == column kind) 1 0 + count_in t kind
counted_in t Land Land = omega arith
counted_in t Land kind = omega arith
counted_in t Read Read = omega arith
counted_in t Read kind = omega arith
counted_in t Accept Accept = omega arith
counted_in t Accept kind = omega arith
counted_in t Latch Latch = omega arith
counted_in t Latch kind = omega arith
counted_in t Take Take = omega arith
counted_in t Take kind = omega arith
counted_in t Stall Stall = omega arith
counted_in t Stall kind = omega arith
counted_in t MasterAbort MasterAbort = omega arith
counted_in t MasterAbort kind = omega arith
counted_in t TargetAbort TargetAbort = omega arith
counted_in t TargetAbort kind = omega arith
counted_in t Arrive Arrive = omega arith
counted_in t Arrive kind = omega arith

-- one event more, noted at its bus
step : (board : Board) (h : List Event) (e : Event) (tallies : List Tally) → bus_of board e < 256 → IsTallied board h tallies
    → IsTallied board (e ∷ h) (set tallies (bus_of board e) (counted (kind_of e) (tally_at tallies (bus_of board e))))
step board h e tallies small so = record {
  all = length-set tallies (bus_of board e) (counted (kind_of e) (tally_at tallies (bus_of board e))) ∙ so.all;
  counts = λ bus kind below.
      let at : ℕ = bus_of board e in
      let new : Tally = counted (kind_of e) (tally_at tallies at) in
      let P : Bool → Type 0 = λ b. (at == bus) ≡ b → count_in (get_or (set tallies at new) bus no_tally) kind ≡ cond (b && (column (kind_of e) == column kind)) 1 0 + count_of board h bus kind in
      let within : at < length tallies = omega (arith, so.all, small) in
      let found = (elim (at == bus) as P [
        | true ↦ λ hit.
            let on : at ≡ bus = eqb-true at bus hit in
            let here : get_or (set tallies at new) bus no_tally ≡ new = subst (λ n. get_or (set tallies at new) n no_tally ≡ new) on (get_or-set_same tallies at new no_tally within) in
            let noted : count_in (tally_at tallies at) kind ≡ count_of board h bus kind = subst (λ n. count_in (tally_at tallies at) kind ≡ count_of board h n kind) on (so.counts at kind small) in
            omega (arith, ap (λ (t : Tally). count_in t kind) here, counted_in (tally_at tallies at) (kind_of e) kind, noted)
        | false ↦ λ miss.
            let other : bus ≢ at = λ is. eqb-false at bus miss (sym is) in
            let there : get_or (set tallies at new) bus no_tally ≡ tally_at tallies bus = get_or-set_other tallies at bus new no_tally other in
            omega (arith, ap (λ (t : Tally). count_in t kind) there, so.counts bus kind below)
      ]) refl in
      found ∙ sym (sum_by-cons (λ (x : Event). cond (is_counted board bus kind x) 1 0) e h);
}

-- one event more of a trace
pub tallied_more : (board : Board) (events : List Event) (i : ℕ) (d : Event) (tallies : List Tally) (at : ℕ) (kind : CountedKind) (new : Tally) → i < length events → at < 256
    → at ≡ bus_of board (get_or events i d) → kind ≡ kind_of (get_or events i d) → new ≡ counted kind (tally_at tallies at)
    → IsTallied board (history_of (take i events)) tallies → IsTallied board (history_of (take (i + 1) events)) (set tallies at new)
tallied_more board events i d tallies at kind new within small at_is kind_is new_is so =
    let e : Event = get_or events i d in
    let h : List Event = history_of (take i events) in
    let turned : history_of (take (i + 1) events) ≡ e ∷ h =
    ap (λ (xs : List Event). reverse xs) (take_more events i d within) ∙ reverse-append (take i events) (e ∷ []) in
    let there : IsTallied board (e ∷ h) (set tallies (bus_of board e) (counted (kind_of e) (tally_at tallies (bus_of board e)))) =
    step board h e tallies (subst (λ n. n < 256) at_is small) so in
    let placed : IsTallied board (e ∷ h) (set tallies at (counted (kind_of e) (tally_at tallies at))) =
    subst (λ n. IsTallied board (e ∷ h) (set tallies n (counted (kind_of e) (tally_at tallies n)))) (sym at_is) there in
    let noted : new ≡ counted (kind_of e) (tally_at tallies at) = new_is ∙ ap (λ (k : CountedKind). counted k (tally_at tallies at)) kind_is in
    subst (λ g. IsTallied board g (set tallies at new)) (sym turned) (subst (λ t. IsTallied board (e ∷ h) (set tallies at t)) (sym noted) placed)

-- no count is above the number of events, so that there is room for one more
pub tally_fits : (board : Board) (events : List Event) (i : ℕ) (tallies : List Tally) (bus : ℕ) → IsTallied board (history_of (take i events)) tallies → bus < 256 → i < length events → length events < 2 ^ 64 → Fits (tally_at tallies bus)
tally_fits board events i tallies bus so below within few =
    let h : List Event = history_of (take i events) in
    let long : length h ≡ i = length-reverse (take i events) ∙ length-take-le i events (omega (arith, within)) in
    let fits : (kind : CountedKind) → count_in (tally_at tallies bus) kind + 1 < 2 ^ 64 = λ kind. omega (arith, so.counts bus kind below, count_by-le-length (is_counted board bus kind) h, long, within, few) in
    record {
      land = fits Land;
      read = fits Read;
      accept = fits Accept;
      latch = fits Latch;
      take = fits Take;
      stall = fits Stall;
      nobody = fits MasterAbort;
      tabort = fits TargetAbort;
      arrive = fits Arrive;
    }
