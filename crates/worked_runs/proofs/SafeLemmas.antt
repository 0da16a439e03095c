-- Boards of a producer that writes data and then a flag, and of a consumer that polls the flag and then reads the data:
-- what their table knows is known, and the read of the data is safe.
use Rattle.std.proofs.Common.{◌≡◌, ◌≢◌, ℕ, zero, suc, ◌≤◌, Bool, true, false, ◌&&◌, not, eqb, cond, nat_lt, List, [], ◌∷◌, Option, Some, None, is_some, refl, sym, ap, subst, ◌∙◌, arith, inl, inr, ◌⊎◌, slice_get, codes}
use Rattle.std.specs.List.{list_any, list_all}
use Rattle.std.specs.Option.{option_and_then}
use Rattle.std.proofs.lemmas.Bool.Decides.{nat_tests}
use Rattle.pci_command.specs.declared.command.Command.TheVariants.{MemRead, MemWrite}
use Rattle.pci_command.specs.declared.command.Space.TheVariants.{Mem}
use Rattle.pci_command.specs.declared.phases.Phase.{Phase}
use Rattle.pci_command.specs.declared.op_id.OpId.{OpId}
use Rattle.board_model.specs.Wants.{exactly}
use Rattle.board_model.specs.declared.op.Want.{Want}
use Rattle.board_model.specs.declared.agents.Master.{Master as MasterAgent}
use Rattle.board_model.specs.declared.op.Op.{Op}
use Rattle.board_model.specs.declared.op.Op.TheVariants.{Read as ReadOp, Write as WriteOp, Poll as PollOp}
use Rattle.board_model.specs.declared.board.Board.{Board}
use Rattle.board_model.specs.Requests.{tries_of, op_of, reads_in, reads}
use Rattle.board_model.specs.Ways.{Dword}
use Rattle.board_model.specs.Valid.{IsValid}
use Rattle.history_model.specs.Words.{Landing, opens_as, merged}
use Rattle.history_model.specs.Knowledge.{is_landing_of, is_write, words_on, words_named}
use Rattle.safe_model.specs.Raisers.{phases_for, phases_in, phases_to, is_met_by, is_whole, brings_met, is_plain, Raises, IsLastWord, Firm}
use Rattle.safe_model.specs.Clocks.{is_poll, clock_of, clock_with, RaiserKnows, IsKnown, Awaits, IsConsistent, IsBefore}
use Rattle.safe_model.specs.Safe.{IsSafe}
use Rattle.worked_runs.specs.Flags.{flag_board}
use Rattle.worked_runs.specs.Premises.{flagged_board}
use Rattle.worked_runs.specs.Safe.{flag_table}

-- an operation by master, index and try
abbrev pub op : ℕ → ℕ → ℕ → OpId
op master index attempt = record { master = master; index = index; attempt = attempt }

not_again : (attempt : ℕ) → nat_lt (suc attempt) 1 ≡ false
not_again attempt = grind (arith, nat_tests)

-- an operation, of these masters
abbrev op_in : List MasterAgent → OpId → Option Op
op_in masters o =
    option_and_then (λ it. cond (nat_lt o.attempt (tries_of it)) (Some it) None)
    (option_and_then (λ (master : MasterAgent). slice_get master.ops o.index) (slice_get masters o.master))

-- what such a board has: the masters, whatever their operations, the addresses, data phases and words of data and flag
pub record Shape : Type 0 where
  pub prod : MasterAgent
  pub cons : MasterAgent
  pub data_at : ℕ
  pub flag_at : ℕ
  pub datum : Phase
  pub raising : Phase
  pub data_word : Dword
  pub flag_word : Dword

module _ (board : Board) (s : Shape) where
  abbrev pub data_write : Op
  data_write = WriteOp MemWrite s.data_at (s.datum ∷ [])

  abbrev pub flag_write : Op
  flag_write = WriteOp MemWrite s.flag_at (s.raising ∷ [])

  abbrev pub flag_poll : Op
  flag_poll = PollOp Mem s.flag_at (exactly 0x1) 9

  abbrev pub data_read : Op
  data_read = ReadOp MemRead s.data_at

  abbrev pub masters : List MasterAgent
  masters = record s.prod { ops = data_write ∷ flag_write ∷ [] } ∷ record s.cons { ops = flag_poll ∷ data_read ∷ [] } ∷ []

  abbrev pub data_landing : Landing
  data_landing = record { op = op 0 0 0; phase = s.datum }

  -- what is computed of the flag
  pub record FlagFacts : Type 0 where
    pub programs : board.masters ≡ masters
    pub has_word : words_on board (Some flag_poll) (slice_get board.masters 1) ≡ s.flag_word ∷ []
    pub plain : is_plain s.flag_word.space ≡ true
    pub of_data : phases_to board s.flag_word (op 0 0 0) ≡ []
    pub of_flag : phases_to board s.flag_word (op 0 1 0) ≡ s.raising ∷ []
    pub of_read : phases_to board s.flag_word (op 1 1 0) ≡ []
    pub whole : is_whole 0xffffffff s.raising ≡ true
    pub last : words_named board (op 0 1 0) ≡ s.flag_word ∷ []
    pub opens : is_met_by (exactly 1) (opens_as board s.flag_word) ≡ false
    pub knows : 2 ≤ clock_with board flag_table (op 0 1 0) 0

  -- and of the data
  pub record DataFacts (value : ℕ) : Type 0 where
    pub programs : board.masters ≡ masters
    pub has_word : words_named board (op 1 1 0) ≡ s.data_word ∷ []
    pub reads_once : is_poll (op_of board (op 1 1 0)) ≡ false
    pub reads_it : reads board (op 1 1 0) ≡ true
    pub writes : is_write board (op 0 0 0) ≡ true
    pub of_data : phases_to board s.data_word (op 0 0 0) ≡ s.datum ∷ []
    pub of_flag : phases_to board s.data_word (op 0 1 0) ≡ []
    pub of_read : phases_to board s.data_word (op 1 1 0) ≡ []
    pub before : IsBefore board flag_table (op 0 0 0) (op 1 1 0)
    pub is_value : value ≡ merged s.data_word (opens_as board s.data_word) (data_landing ∷ [])

  module _ (programs : board.masters ≡ masters) where
    op_is : (o : OpId) (found : Option Op) → op_in masters o ≡ found → op_of board o ≡ found
    op_is o found is = ap (λ them. op_in them o) programs ∙ is

    -- what holds of the four operations, the poll in each of its tries, and of what is no operation, holds of all
    each_op : (P : OpId → Type 0) → P (op 0 0 0) → P (op 0 1 0) → ((attempt : ℕ) → op_of board (op 1 0 attempt) ≡ Some flag_poll → P (op 1 0 attempt)) → P (op 1 1 0) → ((o : OpId) → op_of board o ≡ None → P o) → (o : OpId) → P o
    each_op P of_data of_flag of_poll of_read of_none o = by_numbers o.master o.index o.attempt
      where
        nothing : (o : OpId) → op_in masters o ≡ None → P o
        nothing o none = of_none o (op_is o None none)

        by_numbers : (master index attempt : ℕ) → P (op master index attempt)
        by_numbers zero zero zero = of_data
        by_numbers zero zero (suc attempt) = nothing (op 0 0 (suc attempt)) (ap (λ there. cond there (Some data_write) None) (not_again attempt))
        by_numbers zero (suc zero) zero = of_flag
        by_numbers zero (suc zero) (suc attempt) = nothing (op 0 1 (suc attempt)) (ap (λ there. cond there (Some flag_write) None) (not_again attempt))
        by_numbers zero (suc (suc index)) attempt = nothing (op 0 (suc (suc index)) attempt) refl
        by_numbers (suc zero) zero attempt =
            let Q : Bool → Type 0 = λ there. nat_lt attempt 9 ≡ there → P (op 1 0 attempt) in
            (elim (nat_lt attempt 9) as Q [
              | true ↦ λ is. of_poll attempt (op_is (op 1 0 attempt) (Some flag_poll) (ap (λ there. cond there (Some flag_poll) None) is))
              | false ↦ λ is. nothing (op 1 0 attempt) (ap (λ there. cond there (Some flag_poll) None) is)
            ]) refl
        by_numbers (suc zero) (suc zero) zero = of_read
        by_numbers (suc zero) (suc zero) (suc attempt) = nothing (op 1 1 (suc attempt)) (ap (λ there. cond there (Some data_read) None) (not_again attempt))
        by_numbers (suc zero) (suc (suc index)) attempt = nothing (op 1 (suc (suc index)) attempt) refl
        by_numbers (suc (suc master)) index attempt = nothing (op (suc (suc master)) index attempt) refl

  -- what does not write brings nothing
  no_phases : (word : Dword) (o : OpId) (found : Option Op) → op_of board o ≡ found → (is_some found && not (reads_in found)) ≡ false → phases_to board word o ≡ []
  no_phases word o found is none =
      let F : Bool → Type 0 = λ b. cond b (phases_for word (words_named board o) (phases_in (op_of board o))) [] ≡ [] in
      let here : F false = refl in
      let writes : is_write board o ≡ false = ap (λ it. is_some it && not (reads_in it)) is ∙ none in
      subst F (sym writes) here

  abbrev RaisesIt : OpId → Type 0
  RaisesIt f = Raises board (exactly 1) s.flag_word f

  not_raised : (X : Type 0) (f : OpId) → phases_to board s.flag_word f ≡ [] → RaisesIt f → X
  not_raised X f none raises =
      let e : false ≡ true = sym (ap (list_any (brings_met (exactly 1))) none) ∙ raises in
      cc

  module _ (facts : FlagFacts) where
    poll_brings : (attempt : ℕ) → op_of board (op 1 0 attempt) ≡ Some flag_poll → phases_to board s.flag_word (op 1 0 attempt) ≡ []
    poll_brings attempt is = no_phases s.flag_word (op 1 0 attempt) (Some flag_poll) is refl

    none_brings : (o : OpId) → op_of board o ≡ None → phases_to board s.flag_word o ≡ []
    none_brings o none = no_phases s.flag_word o None none refl

    abbrev BringsWhole : OpId → Type 0
    BringsWhole f = list_all (is_whole 0xffffffff) (phases_to board s.flag_word f) ≡ true

    brings_whole : (f : OpId) (phases : List Phase) → phases_to board s.flag_word f ≡ phases → list_all (is_whole 0xffffffff) phases ≡ true → BringsWhole f
    brings_whole f phases is whole = ap (list_all (is_whole 0xffffffff)) is ∙ whole

    one_whole : list_all (is_whole 0xffffffff) (s.raising ∷ []) ≡ true
    one_whole = let whole = facts.whole in rw whole refl

    firm : (attempt : ℕ) → op_of board (op 1 0 attempt) ≡ Some flag_poll → Firm board (op 1 0 attempt) (exactly 1) s.flag_word
    firm attempt is =
        let Last : OpId → Type 0 = λ f. RaisesIt f → IsLastWord board s.flag_word f in
        record {
          has_word = ap (λ found. words_on board found (slice_get board.masters 1)) is ∙ facts.has_word;
          plain = facts.plain;
          whole = each_op facts.programs BringsWhole (brings_whole (op 0 0 0) [] facts.of_data refl) (brings_whole (op 0 1 0) (s.raising ∷ []) facts.of_flag one_whole)
              (λ a there. brings_whole (op 1 0 a) [] (poll_brings a there) refl) (brings_whole (op 1 1 0) [] facts.of_read refl) (λ o none. brings_whole o [] (none_brings o none) refl);
          last = each_op facts.programs Last (λ raises. not_raised (IsLastWord board s.flag_word (op 0 0 0)) (op 0 0 0) facts.of_data raises) (λ _. ([], facts.last))
              (λ a there raises. not_raised (IsLastWord board s.flag_word (op 1 0 a)) (op 1 0 a) (poll_brings a there) raises)
              (λ raises. not_raised (IsLastWord board s.flag_word (op 1 1 0)) (op 1 1 0) facts.of_read raises)
              (λ o none raises. not_raised (IsLastWord board s.flag_word o) o (none_brings o none) raises);
        }

    raisers : (attempt : ℕ) (f : OpId) → RaisesIt f → RaiserKnows board flag_table (op 1 0 attempt) s.flag_word 0 f
    raisers attempt =
        let Knows : OpId → Type 0 = RaiserKnows board flag_table (op 1 0 attempt) s.flag_word 0 in
        each_op facts.programs (λ f. RaisesIt f → Knows f) (λ raises. not_raised (Knows (op 0 0 0)) (op 0 0 0) facts.of_data raises) (λ _. inr facts.knows)
        (λ a there raises. not_raised (Knows (op 1 0 a)) (op 1 0 a) (poll_brings a there) raises) (λ raises. not_raised (Knows (op 1 1 0)) (op 1 1 0) facts.of_read raises)
        (λ o none raises. not_raised (Knows o) o (none_brings o none) raises)

    known : (attempt : ℕ) → op_of board (op 1 0 attempt) ≡ Some flag_poll → (other : ℕ) → IsKnown board flag_table (op 1 0 attempt) (exactly 1) other
    known attempt is zero = inr (s.flag_word, firm attempt is, inl facts.opens, raisers attempt)
    known attempt is (suc other) =
        let none : eqb (suc other) 0 ≡ false = grind (arith, nat_tests) in
        let F : Bool → Type 0 = λ b. cond b 2 0 ≤ clock_of board flag_table (op 1 0 attempt) (suc other) in
        let here : F false = omega arith in
        inl (subst F (sym none) here)

    abbrev AllKnown : OpId → Type 0
    AllKnown p = (want : Want) → Awaits board p want → (other : ℕ) → IsKnown board flag_table p want other

    -- what is no poll awaits nothing
    no_await : (p : OpId) (found : Option Op) → op_of board p ≡ found → is_poll found ≡ false → AllKnown p
    no_await p found is none want awaits other =
        let e : true ≡ false = sym (ap is_poll awaits.3) ∙ ap is_poll is ∙ none in
        cc

    -- so the table is consistent
    pub consistent : IsConsistent board flag_table
    consistent =
        each_op facts.programs AllKnown (no_await (op 0 0 0) (Some data_write) (op_is facts.programs (op 0 0 0) (Some data_write) refl) refl)
        (no_await (op 0 1 0) (Some flag_write) (op_is facts.programs (op 0 1 0) (Some flag_write) refl) refl)
        (λ attempt is want awaits other.
        let e : Some flag_poll ≡ Some (PollOp awaits.0 awaits.1 want awaits.2) = sym is ∙ awaits.3 in
        let same : exactly 1 ≡ want = cc in
        let F : Want → Type 0 = λ w. IsKnown board flag_table (op 1 0 attempt) w other in
        subst F same (known attempt is other))
        (no_await (op 1 1 0) (Some data_read) (op_is facts.programs (op 1 1 0) (Some data_read) refl) refl) (λ o none. no_await o None none refl)

  -- and the read is safe
  pub safe : (value : ℕ) → DataFacts value → IsSafe board flag_table (op 1 1 0) value
  safe value facts =
      let members : List Landing = data_landing ∷ [] in
      let IsInOrder : OpId → Type 0 = λ w. is_write board w ≡ true → phases_to board s.data_word w ≢ [] → (list_any (is_landing_of w) members ≡ true) ⊎ IsBefore board flag_table (op 1 1 0) w in
      record {
        word = s.data_word;
        has_word = facts.has_word;
        reads_once = facts.reads_once;
        reads_it = facts.reads_it;
        members = members;
        are_members = (record { writes = facts.writes; brings = facts.of_data; before = facts.before }, tt);
        settled = (tt, tt);
        others = each_op facts.programs IsInOrder (λ _ _. inl refl) (λ _ some. absurd (some facts.of_flag))
            (λ attempt is _ some. absurd (some (no_phases s.data_word (op 1 0 attempt) (Some flag_poll) is refl)))
            (λ _ some. absurd (some facts.of_read)) (λ o none _ some. absurd (some (no_phases s.data_word o None none refl)));
        is_value = facts.is_value;
      }

-- The boards.

abbrev flag_shape : Shape
flag_shape =
    record {
      prod = record { name = codes "prod"; bus = 1; ops = [] };
      cons = record { name = codes "cons"; bus = 2; ops = [] };
      data_at = 0x10000000;
      flag_at = 0x80000000;
      datum = record { value = 0x7; enables = 15 };
      raising = record { value = 0x1; enables = 15 };
      data_word = record { target = 0; space = Mem; address = 0x10000000 };
      flag_word = record { target = 1; space = Mem; address = 0x80000000 };
    }

abbrev flagged_shape : Shape
flagged_shape =
    record {
      prod = record { name = codes "prod"; bus = 0; ops = [] };
      cons = record { name = codes "cons"; bus = 0; ops = [] };
      data_at = 0x10000000;
      flag_at = 0x10000040;
      datum = record { value = 0x5; enables = 15 };
      raising = record { value = 0x1; enables = 15 };
      data_word = record { target = 0; space = Mem; address = 0x10000000 };
      flag_word = record { target = 0; space = Mem; address = 0x10000040 };
    }

pub flag_consistent : IsConsistent flag_board flag_table
flag_consistent = consistent flag_board flag_shape (record { programs = refl; has_word = refl; plain = refl; of_data = refl; of_flag = refl; of_read = refl; whole = refl; last = refl; opens = refl; knows = omega arith })

pub flag_safe : IsSafe flag_board flag_table (op 1 1 0) 7
flag_safe =
    safe flag_board flag_shape 7
    (record { programs = refl; has_word = refl; reads_once = refl; reads_it = refl; writes = refl; of_data = refl; of_flag = refl; of_read = refl; before = omega arith; is_value = refl })

-- where the flag does not open set
pub flagged_consistent : IsConsistent (flagged_board 2) flag_table
flagged_consistent =
    consistent (flagged_board 2) flagged_shape
    (record { programs = refl; has_word = refl; plain = refl; of_data = refl; of_flag = refl; of_read = refl; whole = refl; last = refl; opens = refl; knows = omega arith })

-- however it opens
pub flagged_safe : (opening : ℕ) → IsSafe (flagged_board opening) flag_table (op 1 1 0) 5
flagged_safe opening =
    safe (flagged_board opening) flagged_shape 5
    (record { programs = refl; has_word = refl; reads_once = refl; reads_it = refl; writes = refl; of_data = refl; of_flag = refl; of_read = refl; before = omega arith; is_value = refl })

pub flag_valid : IsValid flag_board
flag_valid =
    record {
      well_formed = refl;
      buses = refl;
      tree = refl;
      windows = refl;
      reach = refl;
      ranges_beside_windows = refl;
      ranges = refl;
      devices = refl;
      headers = refl;
      bound = refl;
    }
