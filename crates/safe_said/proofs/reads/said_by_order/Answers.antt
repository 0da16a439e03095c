use Rattle.std.proofs.Common.{◌≡◌, List, IfOk, map, ap, subst, ◌∙◌}
use Rattle.pci_command.specs.declared.op_id.OpId.{OpId}
use Rattle.board_model.specs.declared.board.Board.{Board}
use Rattle.safe_model.specs.Clocks.{Table}
use Rattle.safe_model.specs.largest.Tests.{is_before}
use Rattle.audit_clocks.specs.Tables.{dword}
use Rattle.board_writes.specs.declared.writers.write.WordWrite.{WordWrite}
use Rattle.board_writes.specs.Rows.{table_of}
use Rattle.board_writes.specs.Writes.{op_in, IsWordWrite}
use Rattle.safe_said.specs.AllSaid.{verdict}
use Rattle.safe_said.specs.Members.{said_open}
use Rattle.safe_said.proofs.MemberLemmas.{ops_filter, each_filter}
use Rattle.safe_said.proofs.reads.said_by_order.Goals as goal

pub said_of_before-requires-clause-writes : goal.said_of_before-requires-clause-writes
said_of_before-requires-clause-writes c =
    let board : Board = c.args.looks.now.tree.now in
    let table : Table = table_of c.args.looks.now.table.now in
    rw (c.as_slice.ensures.value, c.in_ok-before.ensures) (each_filter (IsWordWrite board (dword c.args.word)) (λ (write : WordWrite). is_before board table write.op c.args.read) c.args.members.now c.requires.members)

pub returns : goal.returns
returns c =
    let board : Board = c.args.looks.now.tree.now in
    let table : Table = table_of c.args.looks.now.table.now in
    let same = ap (λ (ws : List WordWrite). map op_in ws) (c.as_slice.ensures.value ∙ c.in_ok-before.ensures) ∙ ops_filter (λ w. is_before board table w c.args.read) c.args.members.now in
    subst (λ (os : List OpId). IfOk c.said_of_before.result (λ said. verdict said ≡ said_open board table (dword c.args.word) os)) same c.said_of_before.ensures
