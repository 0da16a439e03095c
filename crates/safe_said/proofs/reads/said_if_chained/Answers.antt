use Rattle.std.proofs.Common.{◌≡◌, List, None, map, sym, ap, ◌∙◌}
use Rattle.std.specs.List.{find}
use Rattle.board_model.specs.declared.board.Board.{Board}
use Rattle.safe_model.specs.Clocks.{Table}
use Rattle.safe_model.specs.said.Said.{is_beside}
use Rattle.audit_clocks.specs.Tables.{dword}
use Rattle.board_writes.specs.declared.writers.write.WordWrite.{WordWrite}
use Rattle.board_writes.specs.Rows.{table_of}
use Rattle.board_writes.specs.Writes.{op_in}
use Rattle.safe_said.proofs.ChainLemmas.{chain_read, order_none}
use Rattle.safe_said.proofs.reads.said_if_chained.Goals as goal

pub beside_in-requires-clause-run : goal.beside_in-requires-clause-run
beside_in-requires-clause-run c = rw c.list.ensures (sym c.requires.members.chained ∙ sym c.is_chained.ensures ∙ c.if-not-is_chained.false)

pub said_in_chain-requires-clause-chained : goal.said_in_chain-requires-clause-chained
said_in_chain-requires-clause-chained c = sym c.requires.members.chained ∙ sym c.is_chained.ensures ∙ c.if-not-is_chained.false

pub returns-in-None : goal.returns-in-None
returns-in-None c =
    let board : Board = c.args.looks.now.tree.now in
    let table : Table = table_of c.args.looks.now.table.now in
    let test = is_beside board table c.args.read in
    let among : None ≡ find test (map op_in c.args.reached.now.list) = sym c.in-None.is ∙ c.beside_in.ensures ∙ ap (λ (ws : List WordWrite). find test (map op_in ws)) c.list.ensures in
    let none : None ≡ find test (map op_in c.args.reached.now.writes) = order_none board table test (map op_in c.args.reached.now.writes) (among ∙ ap (find test) c.requires.members.list.ops) in
    c.said_in_chain.ensures ∙ chain_read board table c.requires.seen.largest (dword c.args.word) c.args.read c.args.reached.now c.requires.members (sym c.is_chained.ensures ∙ c.if-not-is_chained.false) none
