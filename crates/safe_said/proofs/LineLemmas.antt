-- What is said of operation after operation.
use Rattle.std.proofs.Common.{◌≡◌, ℕ, suc, ◌+◌, ◌<◌, List, [], ◌∷◌, ◌++◌, append_assoc, append-nil, length, drop, get_or, map, refl, sym, ap, subst, ◌∙◌, arith}
use Rattle.std.proofs.Math.Seq.{drop-cons}
use Rattle.pci_command.specs.declared.op_id.OpId.{OpId}
use Rattle.board_model.specs.declared.op.Op.{Op}
use Rattle.board_model.specs.declared.agents.Master.{Master}
use Rattle.board_model.specs.declared.board.Board.{Board}
use Rattle.board_model.specs.declared.word.Word.{Word}
use Rattle.safe_model.specs.Ops.{ops_from, ops_by}
use Rattle.safe_model.specs.Clocks.{Table}
use Rattle.safe_model.specs.said.Said.{said_of}
use Rattle.safe_said.specs.declared.verdict.OpSaid.{OpSaid}
use Rattle.safe_said.specs.AllSaid.{Line, line, lines_of, said_among}
use Rattle.safe_said.specs.Members.{WordMembers, KeepsMembers, Says}

said_append : (board : Board) (table : Table) (xs ys : List OpId) → said_among board table (xs ++ ys) ≡ said_among board table xs ++ said_among board table ys
said_append board table [] ys = refl
said_append board table (o ∷ xs) ys =
    ap (λ ls. lines_of o (said_of board table o) ++ ls) (said_append board table xs ys) ∙ sym (append_assoc (lines_of o (said_of board table o)) (said_among board table xs) (said_among board table ys))

module _ (board : Board) (table : Table) where
  -- with the lines of the rest, those of all are listed behind those before
  pub record SaidTo (all rest : List OpId) (entries : List (Word × WordMembers)) (old now : List OpSaid) : Type 0 where
    pub lines : map line now ++ said_among board table rest ≡ map line old ++ said_among board table all
    pub members : KeepsMembers board table entries

  pub none_said : (all : List OpId) (entries : List (Word × WordMembers)) (old : List OpSaid) → KeepsMembers board table entries → SaidTo all all entries old old
  none_said all entries old kept = record { lines = refl; members = kept }

  some_said : (all more rest : List OpId) (before entries : List (Word × WordMembers)) (old now next : List OpSaid) → SaidTo all (more ++ rest) before old now → Says board table more entries now next → SaidTo all rest entries old next
  some_said all more rest before entries old now next so_far says =
      record {
        lines =
            ap (λ ls. ls ++ said_among board table rest) says.lines
            ∙ append_assoc (map line now) (said_among board table more) (said_among board table rest)
            ∙ ap (λ ls. map line now ++ ls) (sym (said_append board table more rest))
            ∙ so_far.lines;
        members = says.members;
      }

  pub all_said_to : (all rest : List OpId) (entries : List (Word × WordMembers)) (old now : List OpSaid) → rest ≡ [] → SaidTo all rest entries old now → Says board table all entries old now
  all_said_to all rest entries old now none so_far =
      record {
        lines = sym (append-nil (map line now)) ∙ ap (λ os. map line now ++ said_among board table os) (sym none) ∙ so_far.lines;
        members = so_far.members;
      }

  pub op_said : (all : List OpId) (master : ℕ) (ops : List Op) (i : ℕ) (op : Op) (before entries : List (Word × WordMembers)) (old now next : List OpSaid) → i < length ops
      → SaidTo all (ops_from master i (drop i ops)) before old now → Says board table (record { master = master; index = i; attempt = 0 } ∷ []) entries now next
      → SaidTo all (ops_from master (i + 1) (drop (i + 1) ops)) entries old next
  op_said all master ops i op before entries old now next within so_far says =
      let o : OpId = record { master = master; index = i; attempt = 0 } in
      let more : suc i ≡ i + 1 = omega arith in
      let here : ops_from master i (drop i ops) ≡ o ∷ ops_from master (i + 1) (drop (i + 1) ops) =
      ap (ops_from master i) (drop-cons ops i op within) ∙ ap (λ n. o ∷ ops_from master (i + 1) (drop n ops)) more in
      some_said all (o ∷ []) (ops_from master (i + 1) (drop (i + 1) ops)) before entries old now next (subst (λ os. SaidTo all os before old now) here so_far) says

  pub master_said : (all : List OpId) (masters : List Master) (i : ℕ) (m : Master) (before entries : List (Word × WordMembers)) (old now next : List OpSaid) → i < length masters
      → SaidTo all (ops_by i (drop i masters)) before old now → Says board table (ops_from i 0 (get_or masters i m).ops) entries now next
      → SaidTo all (ops_by (i + 1) (drop (i + 1) masters)) entries old next
  master_said all masters i m before entries old now next within so_far says =
      let ops : List OpId = ops_from i 0 (get_or masters i m).ops in
      let more : suc i ≡ i + 1 = omega arith in
      let here : ops_by i (drop i masters) ≡ ops ++ ops_by (i + 1) (drop (i + 1) masters) =
      ap (ops_by i) (drop-cons masters i m within) ∙ ap (λ n. ops ++ ops_by (i + 1) (drop n masters)) more in
      some_said all ops (ops_by (i + 1) (drop (i + 1) masters)) before entries old now next (subst (λ os. SaidTo all os before old now) here so_far) says

  -- one operation
  pub one_said : (o : OpId) (entries : List (Word × WordMembers)) (old new : List OpSaid) (lines : List Line) → KeepsMembers board table entries → map line new ≡ map line old ++ lines → lines ≡ lines_of o (said_of board table o)
      → Says board table (o ∷ []) entries old new
  one_said o entries old new lines kept is lines_are =
      record {
        lines = is ∙ ap (λ ls. map line old ++ ls) (lines_are ∙ sym (append-nil (lines_of o (said_of board table o))));
        members = kept;
      }
