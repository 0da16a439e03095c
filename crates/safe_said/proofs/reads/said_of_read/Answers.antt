use Rattle.std.proofs.Common.{◌≡◌, List, None, IfOk, map, sym, ap, subst, ◌∙◌}
use Rattle.std.specs.List.{filter, find}
use Rattle.pci_command.specs.declared.op_id.OpId.{OpId}
use Rattle.board_model.specs.declared.board.Board.{Board}
use Rattle.safe_model.specs.Clocks.{Table}
use Rattle.safe_model.specs.largest.Tests.{is_before}
use Rattle.safe_model.specs.said.Said.{Said as Verdict, is_beside, first_beside, said_beside}
use Rattle.audit_clocks.specs.Tables.{dword}
use Rattle.board_writes.specs.declared.writers.write.WordWrite.{WordWrite}
use Rattle.board_writes.specs.Rows.{table_of}
use Rattle.board_writes.specs.Writes.{op_in}
use Rattle.board_writes.specs.Stretches.{joined}
use Rattle.safe_said.specs.AllSaid.{verdict}
use Rattle.safe_said.specs.Members.{said_open}
use Rattle.safe_said.proofs.MemberLemmas.{read_is}
use Rattle.safe_said.proofs.reads.said_of_read.Goals as goal

pub returns-then-are_all_before : goal.returns-then-are_all_before
returns-then-are_all_before c =
    let board : Board = c.args.looks.now.tree.now in
    let table : Table = table_of c.args.looks.now.table.now in
    let earlier : List OpId → List OpId = λ os. filter (λ w. is_before board table w c.args.read) os in
    let joins = ap (λ (rs : List (List WordWrite)). joined rs) c.runs.ensures ∙ c.requires.members.runs.all in
    let again = ap (λ (rs : List (List WordWrite)). joined rs) c.runs-in_default-first_beside.ensures ∙ c.requires.members.runs.all in
    let same = ap (λ (ws : List WordWrite). find (is_beside board table c.args.read) (map op_in ws)) joins in
    let none : None ≡ find (is_beside board table c.args.read) (map op_in c.args.reached.now.writes) = cc (c.in_default-first_beside.ensures, same) in
    let all : earlier (map op_in c.args.reached.now.writes) ≡ map op_in c.args.reached.now.writes =
    subst (λ (ws : List WordWrite). earlier (map op_in ws) ≡ map op_in ws) again (c.are_all_before.ensures c.if-are_all_before.true) in
    let is : said_open board table (dword c.args.word) (map op_in c.args.reached.now.writes) ≡ said_beside board table (dword c.args.word) c.args.read (first_beside board table (dword c.args.word) c.args.read) =
    sym (ap (said_open board table (dword c.args.word)) all) ∙ read_is board table (dword c.args.word) c.args.read c.args.reached.now.writes None c.requires.members.writes none in
    subst (λ (v : Verdict). IfOk c.said_behind_all.result (λ said. verdict said ≡ v)) is c.said_behind_all.ensures

pub returns-else-are_all_before : goal.returns-else-are_all_before
returns-else-are_all_before c =
    let board : Board = c.args.looks.now.tree.now in
    let table : Table = table_of c.args.looks.now.table.now in
    let joins = ap (λ (rs : List (List WordWrite)). joined rs) c.runs-in_default-first_beside.ensures ∙ c.requires.members.runs.all in
    let same = ap (λ (ws : List WordWrite). find (is_beside board table c.args.read) (map op_in ws)) joins in
    let none : None ≡ find (is_beside board table c.args.read) (map op_in c.args.reached.now.writes) = cc (c.in_default-first_beside.ensures, same) in
    let is : said_open board table (dword c.args.word) (filter (λ w. is_before board table w c.args.read) (map op_in c.args.reached.now.writes)) ≡ said_beside board table (dword c.args.word) c.args.read (first_beside board table (dword c.args.word) c.args.read) =
    read_is board table (dword c.args.word) c.args.read c.args.reached.now.writes None c.requires.members.writes none in
    let told = subst (λ (ws : List WordWrite). IfOk c.said_by_order.result (λ said. verdict said ≡ said_open board table (dword c.args.word) (filter (λ w. is_before board table w c.args.read) (map op_in ws)))) c.writes.ensures c.said_by_order.ensures in
    subst (λ (v : Verdict). IfOk c.said_by_order.result (λ said. verdict said ≡ v)) is told
