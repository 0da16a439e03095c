-- The search among what is listed of a board's operations finds the first that is pending.
use Rattle.std.proofs.Common.{◌≡◌, ℕ, ◌+◌, ◌^◌, ◌<◌, Bool, true, false, not, ◌&&◌, cond, nat_lt, List, [], ◌∷◌, Option, Some, None, refl, sym, ap, ◌∙◌, arith}
use Rattle.std.specs.List.{find, list_any}
use Rattle.std.specs.Option.{option_or}
use Rattle.std.proofs.lemmas.Bool.Decides.{nat_tests}
use Rattle.std.proofs.lemmas.List.Folds.{find-append}
use Rattle.pci_command.specs.declared.op_id.OpId.{OpId}
use Rattle.board_model.specs.declared.op.Op.{Op}
use Rattle.board_model.specs.declared.agents.Master.{Master}
use Rattle.board_model.specs.declared.board.Board.{Board}
use Rattle.board_model.specs.Ways.{Dword}
use Rattle.history_model.specs.Knowledge.{is_write, words_named}
use Rattle.audit_clocks.specs.Tables.{value_of, dword}
use Rattle.board_model.specs.declared.word.Word.{Word}
use Rattle.safe_model.specs.Raisers.{same_dword}
use Rattle.safe_model.specs.Ops.{ops_from, ops_by}
use Rattle.untagged_check.specs.declared.index.entry.Entry.{Entry}
use Rattle.untagged_check.specs.index.Entries.{Listing, first_in}
use Rattle.untagged_check.specs.index.Pending.{is_before, names, reaches_in, is_pending}
use Rattle.untagged_check.specs.index.Kept.{Indexes, Lists, listings_of, events_in, write_of, dwords_written, written, listed}
use Rattle.untagged_check.proofs.index.PushLemmas.{UpToIndex, UpTo, one_if, or_assoc, or_nothing, wrote}
use Rattle.untagged_check.proofs.index.WalkLemmas.{listed-append}

-- Further operations.

index_later : (index : ℕ) (es : List Entry) → UpToIndex index es → UpToIndex (index + 1) es
index_later index [] up = tt
index_later index (e ∷ es) up = let here = up.0 in (omega arith, index_later index es up.1)

op_later : (master index : ℕ) (listings : List Listing) → UpTo master index listings → UpTo master (index + 1) listings
op_later master index [] up = tt
op_later master index (x ∷ xs) up = (record { masters = up.0.masters; entries = λ same. index_later index x.entries (up.0.entries same) }, op_later master index xs up.1)

master_later : (master index : ℕ) (listings : List Listing) → UpTo master index listings → UpTo (master + 1) 0 listings
master_later master index [] up = tt
master_later master index (x ∷ xs) up = let here = up.0.masters in (record { masters = omega arith; entries = λ same. absurd (omega arith) }, master_later master index xs up.1)

-- What is pending of one operation.

named_is : (w : Bool) (test : Dword → Bool) (ds : List Dword) → list_any test (cond w ds []) ≡ (w && list_any test ds)
named_is true test ds = refl
named_is false test ds = refl

landed_is : (events : ℕ) (found : Option ℕ) → events < 2 ^ 64 → nat_lt (events_in found) events ≡ is_before events found
landed_is events None few = grind (arith, nat_tests)
landed_is events (Some place) few = refl

and_assoc : (a b c : Bool) → (a && (b && c)) ≡ ((a && b) && c)
and_assoc true b c = refl
and_assoc false b c = refl

module _ (board : Board) (landed : List (OpId × ℕ)) (word : Word) (events : ℕ) (numbers : List ℕ) (few : events < 2 ^ 64) where
  abbrev test : OpId → Bool
  test = is_pending board landed word events numbers

  pending_is : (o : OpId) → (list_any (same_dword (dword word)) (dwords_written board o) && (not (nat_lt (events_in (value_of o landed)) events) && reaches_in numbers o)) ≡ test o
  pending_is o =
      ap (λ b. b && (not (nat_lt (events_in (value_of o landed)) events) && reaches_in numbers o)) (named_is (is_write board o) (same_dword (dword word)) (words_named board o))
      ∙ (ap (λ b. (is_write board o && names board word o) && (not b && reaches_in numbers o)) (landed_is events (value_of o landed) few)
      ∙ and_assoc (is_write board o && names board word o) (not (is_before events (value_of o landed))) (reaches_in numbers o))

  step : (master index : ℕ) (listings : List Listing) → UpTo master index listings → (let o : OpId = record { master = master; index = index; attempt = 0 } in
      UpTo master index (written word (write_of landed o) (dwords_written board o) listings)
      × (first_in events numbers (written word (write_of landed o) (dwords_written board o) listings) ≡ option_or (first_in events numbers listings) (one_if (test o) o)))
  step master index listings up =
      let o : OpId = record { master = master; index = index; attempt = 0 } in
      let done = wrote master index (events_in (value_of o landed)) word (dwords_written board o) listings up in
      (done.up, done.first events numbers ∙ ap (λ b. option_or (first_in events numbers listings) (one_if b o)) (pending_is o))

  -- the first of all, and one in front of them
  cons_is : (found : Option OpId) (o : OpId) (os : List OpId) → option_or (option_or found (one_if (test o) o)) (find test os) ≡ option_or found (find test (o ∷ os))
  cons_is found o os = or_assoc found (one_if (test o) o) (find test os) ∙ ap (option_or found) (here (test o))
    where
      here : (b : Bool) → option_or (one_if b o) (find test os) ≡ cond b (Some o) (find test os)
      here true = refl
      here false = refl

  program : (master index : ℕ) (ops : List Op) (listings : List Listing) → UpTo master index listings
      → UpTo (master + 1) 0 (listed board landed word (ops_from master index ops) listings)
      × (first_in events numbers (listed board landed word (ops_from master index ops) listings) ≡ option_or (first_in events numbers listings) (find test (ops_from master index ops)))
  program master index [] listings up = (master_later master index listings up, sym (or_nothing (first_in events numbers listings)))
  program master index (op ∷ ops) listings up =
      let o : OpId = record { master = master; index = index; attempt = 0 } in
      let here = step master index listings up in
      let later = program master (index + 1) ops (written word (write_of landed o) (dwords_written board o) listings) (op_later master index (written word (write_of landed o) (dwords_written board o) listings) here.0) in (
        later.0,
        later.1 ∙ (ap (λ found. option_or found (find test (ops_from master (index + 1) ops))) here.1 ∙ cons_is (first_in events numbers listings) o (ops_from master (index + 1) ops)),
      )

  programs : (master : ℕ) (masters : List Master) (listings : List Listing) → UpTo master 0 listings
      → first_in events numbers (listed board landed word (ops_by master masters) listings) ≡ option_or (first_in events numbers listings) (find test (ops_by master masters))
  programs master [] listings up = sym (or_nothing (first_in events numbers listings))
  programs master (m ∷ masters) listings up =
      let ops : List OpId = ops_from master 0 m.ops in
      let rest : List OpId = ops_by (master + 1) masters in
      let here = program master 0 m.ops listings up in
      ap (first_in events numbers) (listed-append board landed word ops rest listings)
      ∙ (programs (master + 1) masters (listed board landed word ops listings) here.0
      ∙ (ap (λ found. option_or found (find test rest)) here.1
      ∙ (or_assoc (first_in events numbers listings) (find test ops) (find test rest)
      ∙ ap (option_or (first_in events numbers listings)) (sym (find-append test ops rest)))))

-- an index of all operations
pub indexes : (board : Board) (landed : List (OpId × ℕ)) (old new : List (Word × List Listing)) → old ≡ [] → Lists board landed (ops_by 0 board.masters) old new → Indexes board landed new
indexes board landed old new none lists =
    record {
      finds = λ word events numbers few.
          ap (first_in events numbers) (lists.each word ∙ ap (λ es. listed board landed word (ops_by 0 board.masters) (listings_of word es)) none)
          ∙ programs board landed word events numbers few 0 board.masters [] tt;
    }
