-- To begin with everything is known behind each poll.
use Rattle.std.proofs.Common.{◌≡◌, ℕ, zero, suc, ◌+◌, ◌-◌, ◌<◌, ◌≤◌, Bool, true, false, cond, nat_lt, List, [], ◌∷◌, ◌++◌, length, get_or, slice_get, map, take, Option, Some, None, refl, sym, ap, subst, ◌∙◌, arith}
use Rattle.std.specs.Option.{option_map_or}
use Rattle.std.proofs.Math.ListN.{get_or-append, get_or-eq_default}
use Rattle.std.proofs.Math.Seq.{get_or-append_seam, take_all}
use Rattle.std.proofs.lemmas.Bool.Decides.{nat_tests}
use Rattle.std.proofs.lemmas.Option.{slice_get_past, slice_get-get_or}
use Rattle.std.proofs.lemmas.List.{length-append, map-append, take_more}
use Rattle.board_model.specs.declared.op.Op.{Op}
use Rattle.board_model.specs.declared.agents.Master.{Master}
use Rattle.board_model.specs.declared.board.Board.{Board}
use Rattle.board_model.specs.Requests.{op_of, tries_of}
use Rattle.safe_model.specs.Clocks.{is_poll, at_place}
use Rattle.board_writes.specs.Rows.{number, ProgramRows, no_rows, rows_of, last_of, everything, ops_at, is_tried, is_tried_at, row_behind, last_among, Started, Starts, KnowsAll}

-- Lists that are filled up one by one.

-- so many are there, each with what holds at its place
pub record FilledTo {X : Type 0} (Holds : ℕ → X → Type 0) (xs : List X) (count : ℕ) : Type 0 where
  pub are : length xs ≡ count
  pub each : (i : ℕ) (d : X) → i < count → Holds i (get_or xs i d)

pub filled_none : {X : Type 0} (Holds : ℕ → X → Type 0) → FilledTo Holds [] 0
filled_none Holds = record { are = refl; each = λ i d below. absurd (omega (arith, below)) }

pub filled_next : {X : Type 0} (Holds : ℕ → X → Type 0) (xs : List X) (count : ℕ) (x : X) → FilledTo Holds xs count → Holds count x → FilledTo Holds (xs ++ x ∷ []) (count + 1)
filled_next {X} Holds xs count x filled holds =
    let are = filled.are in
    record {
      are = let more = length-append xs (x ∷ []) in omega (arith, are, more);
      each = λ i d below.
          let P : Bool → Type 0 = λ b. nat_lt i count ≡ b → Holds i (get_or (xs ++ x ∷ []) i d) in
          (elim (nat_lt i count) as P [
            | true ↦ λ lt.
                let inside : i < count = grind (arith, nat_tests) in
                subst (Holds i) (sym (get_or-append xs (x ∷ []) d i (omega (arith, inside, are)))) (filled.each i d inside)
            | false ↦ λ ge.
                let past : count ≤ i = grind (arith, nat_tests) in
                let last : length xs ≡ i = omega (arith, past, below, are) in
                let here : get_or (xs ++ x ∷ []) i d ≡ x = subst (λ n. get_or (xs ++ x ∷ []) n d ≡ x) last (get_or-append_seam xs x [] d) in
                let at : count ≡ i = omega (arith, past, below) in
                subst (Holds i) (sym here) (subst (λ n. Holds n x) at holds)
          ]) refl;
    }

-- One program.

-- what is kept of its first so many operations
pub record StartedTo (all : List ℕ) (ops : List Op) (rows : List (List ℕ)) (lasts : List ℕ) (end place : ℕ) : Type 0 where
  pub rows_are : FilledTo (λ i row. row ≡ row_behind all (is_tried_at (slice_get ops i))) rows place
  pub lasts_are : FilledTo (λ i last. last ≡ last_among ops i) lasts place
  pub end_is : end ≡ last_among ops place

pub started_none : (all : List ℕ) (ops : List Op) → StartedTo all ops [] [] 0 0
started_none all ops =
    record {
      rows_are = filled_none (λ i row. row ≡ row_behind all (is_tried_at (slice_get ops i)));
      lasts_are = filled_none (λ i last. last ≡ last_among ops i);
      end_is = refl;
    }

pub started_next : (all : List ℕ) (ops : List Op) (rows : List (List ℕ)) (lasts : List ℕ) (end place : ℕ) (op : Op) (row : List ℕ) → place < length ops → op ≡ get_or ops place op → StartedTo all ops rows lasts end place → row ≡ row_behind all (is_tried op)
    → StartedTo all ops (rows ++ row ∷ []) (lasts ++ end ∷ []) (cond (is_tried op) (place + 1) end) (place + 1)
started_next all ops rows lasts end place op row within is started row_is =
    let there : slice_get ops place ≡ Some op = slice_get-get_or ops place op within ∙ ap (λ (o : Op). Some o) (sym is) in
    let more : suc place ≡ place + 1 = omega arith in
    let tried : is_tried op ≡ is_tried_at (slice_get ops place) = sym (ap is_tried_at there) in
    record {
      rows_are = filled_next (λ i r. r ≡ row_behind all (is_tried_at (slice_get ops i))) rows place row started.rows_are (row_is ∙ ap (row_behind all) tried);
      lasts_are = filled_next (λ i last. last ≡ last_among ops i) lasts place end started.lasts_are started.end_is;
      end_is = subst (λ n. cond (is_tried op) n end ≡ last_among ops n) more (ap (λ b. cond b (suc place) end) tried ∙ ap (λ n. cond (is_tried_at (slice_get ops place)) (suc place) n) started.end_is);
    }

-- by a poll, and by another operation
pub started_poll : (all : List ℕ) (ops : List Op) (rows : List (List ℕ)) (lasts : List ℕ) (end place : ℕ) (op : Op) (row : List ℕ) (b : Bool) → place < length ops → op ≡ get_or ops place op → StartedTo all ops rows lasts end place → b ≡ is_tried op → b ≡ true → row ≡ row_behind all b
    → StartedTo all ops (rows ++ row ∷ []) (lasts ++ end ∷ []) (place + 1) (place + 1)
started_poll all ops rows lasts end place op row b within is started tests poll row_is =
    let tried : is_tried op ≡ true = sym tests ∙ poll in
    subst (λ t. StartedTo all ops (rows ++ row ∷ []) (lasts ++ end ∷ []) (cond t (place + 1) end) (place + 1)) tried (started_next all ops rows lasts end place op row within is started (row_is ∙ ap (row_behind all) tests))

pub started_other : (all : List ℕ) (ops : List Op) (rows : List (List ℕ)) (lasts : List ℕ) (end place : ℕ) (op : Op) (row : List ℕ) (b : Bool) → place < length ops → op ≡ get_or ops place op → StartedTo all ops rows lasts end place → b ≡ is_tried op → b ≡ false → row ≡ row_behind all b
    → StartedTo all ops (rows ++ row ∷ []) (lasts ++ end ∷ []) end (place + 1)
started_other all ops rows lasts end place op row b within is started tests none row_is =
    let tried : is_tried op ≡ false = sym tests ∙ none in
    subst (λ t. StartedTo all ops (rows ++ row ∷ []) (lasts ++ end ∷ []) (cond t (place + 1) end) (place + 1)) tried (started_next all ops rows lasts end place op row within is started (row_is ∙ ap (row_behind all) tests))

pub started_same : (all : List ℕ) (ops : List Op) (rows new_rows : List (List ℕ)) (lasts new_lasts : List ℕ) (end new_end place : ℕ) → StartedTo all ops rows lasts end place → new_rows ≡ rows → new_lasts ≡ lasts → new_end ≡ end → StartedTo all ops new_rows new_lasts new_end place
started_same all ops rows new_rows lasts new_lasts end new_end place started same_rows same_lasts same_end =
    let first : StartedTo all ops new_rows lasts end place = subst (λ xs. StartedTo all ops xs lasts end place) (sym same_rows) started in
    let second : StartedTo all ops new_rows new_lasts end place = subst (λ xs. StartedTo all ops new_rows xs end place) (sym same_lasts) first in
    subst (λ n. StartedTo all ops new_rows new_lasts n place) (sym same_end) second

among_past : (ops : List Op) (k : ℕ) → last_among ops (length ops + k) ≡ last_among ops (length ops)
among_past ops zero = ap (last_among ops) (omega arith)
among_past ops (suc k) =
    let more : length ops + suc k ≡ suc (length ops + k) = omega arith in
    let none : is_tried_at (slice_get ops (length ops + k)) ≡ false = ap is_tried_at (slice_get_past ops (length ops + k) (omega arith)) in
    ap (last_among ops) more ∙ ap (λ b. cond b (suc (length ops + k)) (last_among ops (length ops + k))) none ∙ among_past ops k

pub started_all : (all : List ℕ) (ops : List Op) (rows : List (List ℕ)) (lasts : List ℕ) (end place : ℕ) → length ops ≤ place → StartedTo all ops rows lasts end place → Started all ops (record { rows = rows; lasts = lasts; end = end })
started_all all ops rows lasts end place past started =
    let same : length ops + (place - length ops) ≡ place = omega (arith, past) in
    let rows_end = started.rows_are.are in
    let lasts_end = started.lasts_are.are in
    record {
      row_is = λ i.
          let P : Bool → Type 0 = λ b. nat_lt i place ≡ b → get_or rows i [] ≡ row_behind all (is_tried_at (slice_get ops i)) in
          (elim (nat_lt i place) as P [
            | true ↦ λ lt. started.rows_are.each i [] (grind (arith, nat_tests))
            | false ↦ λ ge.
                let beyond : place ≤ i = grind (arith, nat_tests) in
                get_or-eq_default rows [] (omega (arith, beyond, rows_end)) ∙ sym (ap (λ found. row_behind all (is_tried_at found)) (slice_get_past ops i (omega (arith, beyond, past))))
          ]) refl;
      last_is = λ i.
          let P : Bool → Type 0 = λ b. nat_lt i place ≡ b → get_or lasts i end ≡ last_among ops i in
          (elim (nat_lt i place) as P [
            | true ↦ λ lt. started.lasts_are.each i end (grind (arith, nat_tests))
            | false ↦ λ ge.
                let beyond : place ≤ i = grind (arith, nat_tests) in
                let far : length ops + (i - length ops) ≡ i = omega (arith, beyond, past) in
                get_or-eq_default lasts end (omega (arith, beyond, lasts_end)) ∙ started.end_is ∙ ap (last_among ops) (sym same) ∙ among_past ops (place - length ops) ∙ sym (among_past ops (i - length ops)) ∙ ap (last_among ops) far
          ]) refl;
    }

-- All programs.

abbrev pub started_at : Board → ℕ → ProgramRows → Type 0
started_at board master program = Started (everything board) (ops_at board master) program

pub starts_none : (board : Board) → FilledTo (started_at board) [] 0
starts_none board = filled_none (started_at board)

pub starts_next : (board : Board) (programs : List ProgramRows) (number : ℕ) (master : Master) (program : ProgramRows) → number < length board.masters → master ≡ get_or board.masters number master → FilledTo (started_at board) programs number → Started (everything board) master.ops program
    → FilledTo (started_at board) (programs ++ program ∷ []) (number + 1)
starts_next board programs number master program within is filled started =
    let there : slice_get board.masters number ≡ Some master = slice_get-get_or board.masters number master within ∙ ap (λ (m : Master). Some m) (sym is) in
    let ops : ops_at board number ≡ master.ops = ap (λ (found : Option Master). option_map_or (λ (m : Master). m.ops) found []) there in
    filled_next (started_at board) programs number program filled (subst (λ os. Started (everything board) os program) (sym ops) started)

none_tried : (index : ℕ) → last_among [] index ≡ 0
none_tried zero = refl
none_tried (suc index) = none_tried index

pub starts_all : (board : Board) (programs : List ProgramRows) (number : ℕ) → length board.masters ≤ number → FilledTo (started_at board) programs number → Starts board programs
starts_all board programs number past filled =
    record {
      each = λ master.
          let P : Bool → Type 0 = λ b. nat_lt master number ≡ b → started_at board master (rows_of programs master) in
          (elim (nat_lt master number) as P [
            | true ↦ λ lt. filled.each master no_rows (grind (arith, nat_tests))
            | false ↦ λ ge.
                let beyond : number ≤ master = grind (arith, nat_tests) in
                let are = filled.are in
                let none : rows_of programs master ≡ no_rows = get_or-eq_default programs no_rows (omega (arith, beyond, are)) in
                let no_ops : ops_at board master ≡ [] = ap (λ (found : Option Master). option_map_or (λ (m : Master). m.ops) found []) (slice_get_past board.masters master (omega (arith, beyond, past))) in
                let empty : Started (everything board) [] no_rows = record { row_is = λ index. refl; last_is = λ index. sym (none_tried index) } in
                subst (started_at board master) (sym none) (subst (λ os. Started (everything board) os no_rows) (sym no_ops) empty)
          ]) refl;
    }

-- What that is.

pub tried_is : (board : Board) (master index : ℕ) → is_poll (op_of board (at_place master index)) ≡ is_tried_at (slice_get (ops_at board master) index)
tried_is board master index = by_master (slice_get board.masters master) refl
  where
    by_tries : (op : Op) (b : Bool) → is_poll (cond b (Some op) None) ≡ cond b (is_poll (Some op)) false
    by_tries op true = refl
    by_tries op false = refl

    by_op : (agent : Master) (found : Option Op) → slice_get board.masters master ≡ Some agent → slice_get agent.ops index ≡ found → is_poll (op_of board (at_place master index)) ≡ is_tried_at found
    by_op agent None is_master is_op = rw (is_master, is_op) refl
    by_op agent (Some op) is_master is_op = rw (is_master, is_op) (by_tries op (nat_lt 0 (tries_of op)))

    by_master : (found : Option Master) → slice_get board.masters master ≡ found → is_poll (op_of board (at_place master index)) ≡ is_tried_at (slice_get (ops_at board master) index)
    by_master None is_master = rw is_master refl
    by_master (Some agent) is_master =
        let ops : ops_at board master ≡ agent.ops = ap (λ (found : Option Master). option_map_or (λ (m : Master). m.ops) found []) is_master in
        by_op agent (slice_get agent.ops index) is_master refl ∙ sym (ap (λ os. is_tried_at (slice_get os index)) ops)

last_same : (board : Board) (master index : ℕ) → last_among (ops_at board master) index ≡ last_of board master index
last_same board master zero = refl
last_same board master (suc index) =
    ap (λ b. cond b (suc index) (last_among (ops_at board master) index)) (sym (tried_is board master index))
    ∙ ap (λ n. cond (is_poll (op_of board (at_place master index))) (suc index) n) (last_same board master index)

-- so behind each poll everything is known
pub starts_know_all : (board : Board) (programs : List ProgramRows) → Starts board programs → KnowsAll board programs
starts_know_all board programs starts =
    record {
      polls = record { last_is = λ master index. (starts.each master).last_is index ∙ last_same board master index };
      all = λ master index other.
          let P : Bool → Type 0 = λ b. number (row_behind (everything board) b) other ≡ cond b (number (everything board) other) 0 in
          ap (λ row. number row other) ((starts.each master).row_is index ∙ ap (row_behind (everything board)) (sym (tried_is board master index)))
          ∙ (elim (is_poll (op_of board (at_place master index))) as P [ true ↦ refl | false ↦ refl ]);
    }

-- How many operations the programs have.

abbrev pub count_in : Master → ℕ
count_in master = length master.ops

pub counts_next : (masters : List Master) (i n : ℕ) (m : Master) (counts : List ℕ) → i < length masters → m ≡ get_or masters i m → n ≡ length m.ops → counts ≡ map count_in (take i masters) → counts ++ n ∷ [] ≡ map count_in (take (i + 1) masters)
counts_next masters i n m counts within is number_is are =
    let last : n ≡ count_in (get_or masters i m) = number_is ∙ ap count_in is in
    ap (λ xs. xs ++ n ∷ []) are ∙ ap (λ k. map count_in (take i masters) ++ k ∷ []) last
    ∙ sym (map-append count_in (take i masters) (get_or masters i m ∷ []))
    ∙ sym (ap (map count_in) (take_more masters i m within))

pub counts_all : (masters : List Master) (i : ℕ) (counts : List ℕ) → length masters ≤ i → counts ≡ map count_in (take i masters) → counts ≡ map count_in masters
counts_all masters i counts past are = are ∙ ap (map count_in) (take_all i masters past)

-- What each function wants.

pub ruleset of_programs = (starts_none, starts_next, starts_all)

pub ruleset of_program = (started_none, started_all)

pub ruleset of_counts = (counts_next, counts_all)
