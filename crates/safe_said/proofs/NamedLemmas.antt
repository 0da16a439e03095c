-- Of the words that operations name there is the first: a read has one, and a write has one or none.
use Rattle.std.proofs.Common.{◌≡◌, ◌≤◌, Bool, true, false, cond, List, [], ◌∷◌, length, Option, Some, None, refl, sym, ap, subst, ◌∙◌, arith, slice_get}
use Rattle.std.specs.List.{list_any}
use Rattle.std.specs.Option.{option_or}
use Rattle.pci_command.specs.declared.phases.Phase.{Phase}
use Rattle.pci_command.specs.declared.op_id.OpId.{OpId}
use Rattle.board_model.specs.declared.op.Op.{Op}
use Rattle.board_model.specs.declared.op.Op.TheVariants.{Read, Write, CfgRead, CfgWrite, Poll}
use Rattle.board_model.specs.declared.board.Board.{Board}
use Rattle.board_model.specs.declared.word.Word.{Word}
use Rattle.board_model.specs.Requests.{op_of, phases_of}
use Rattle.board_model.specs.Valid.{IsValid}
use Rattle.board_model.proofs.Laws.{op_phases, op_formed}
use Rattle.history_model.specs.Knowledge.{words_named}
use Rattle.safe_model.specs.Raisers.{phases_in}
use Rattle.safe_model.specs.Clocks.{Table, is_poll}
use Rattle.safe_model.specs.largest.Tests.{is_reached, Wish, wish_in, wish_of, is_told, raisers}
use Rattle.safe_model.specs.said.Said.{vain, loose, said_nowhere, owner_of, said_of_write, said_of_poll}
use Rattle.audit_clocks.specs.Tables.{dword}
use Rattle.board_writes.specs.Writes.{words_from}

-- an operation that is there names as many words as it has data phases, from the first one on
pub named_there : (board : Board) (o : OpId) (op : Op) (first : Option Word) → op_of board o ≡ Some op → words_named board o ≡ words_from first (phases_in (op_of board o)) → words_named board o ≡ words_from first (phases_of op)
named_there board o op first is words = words ∙ ap (λ found. words_from first (phases_in found)) is

-- nothing is said of a write that has a word
pub written_there : (board : Board) (w : OpId) (op : Op) (word : Word) → IsValid board → op_of board w ≡ Some op → words_named board w ≡ words_from (Some word) (phases_in (op_of board w))
    → None ≡ said_of_write board w op (words_named board w)
written_there board w op word valid is words =
    let some : 1 ≤ length (phases_of op) = (op_phases op (op_formed board w op valid.well_formed is)).from in
    let P : List Phase → Type 0 = λ phases. 1 ≤ length phases → None ≡ said_of_write board w op (words_from (Some word) phases) in
    subst (λ ws. None ≡ said_of_write board w op ws) (sym (named_there board w op (Some word) is words))
    ((elim (phases_of op) as P [ [] ↦ λ none. absurd (omega (arith, none)) | phase ∷ phases ↦ λ _. refl ]) some)

-- Of polls that are told of nothing.

-- one without a word reads nowhere, or is loose
pub untold_none : (board : Board) (table : Table) (p : OpId) (op : Op) → words_named board p ≡ words_from None (phases_in (op_of board p))
    → said_of_poll board table p op (wish_of board p) ≡ option_or (said_nowhere (owner_of board p op (slice_get board.masters p.master))) (Some loose)
untold_none board table p op words = ap (λ ws. said_of_poll board table p op (wish_in ws (op_of board p))) words

untold_wish : (board : Board) (table : Table) (p : OpId) (op : Op) (wish : Wish) → is_told board table p (Some wish) ≡ false → said_of_poll board table p op (Some wish) ≡ Some loose
untold_wish board table p op wish untold =
    let some : Bool = list_any (is_reached board table) (raisers board table p wish) in
    ap (λ b. cond b (cond some None (Some vain)) (Some loose)) untold

-- one that has a word is loose
pub untold_some : (board : Board) (table : Table) (p : OpId) (op : Op) (word : Word) → op_of board p ≡ Some op → is_poll (Some op) ≡ true
    → words_named board p ≡ words_from (Some word) (phases_in (op_of board p))
    → is_told board table p (wish_of board p) ≡ false → said_of_poll board table p op (wish_of board p) ≡ Some loose
untold_some board table p (Read command address) word is poll words untold = cc
untold_some board table p (Write command address phases) word is poll words untold = cc
untold_some board table p (CfgRead bus device register) word is poll words untold = cc
untold_some board table p (CfgWrite bus device register phase) word is poll words untold = cc
untold_some board table p (Poll space address want tries) word is poll words untold =
    let op : Op = Poll space address want tries in
    let wish : Wish = record { word = dword word; want = want } in
    let named : words_named board p ≡ dword word ∷ [] = named_there board p op (Some word) is words in
    let there : wish_of board p ≡ Some wish = ap (λ ws. wish_in ws (op_of board p)) named ∙ ap (wish_in (dword word ∷ [])) is in
    ap (said_of_poll board table p op) there ∙ untold_wish board table p op wish (subst (λ found. is_told board table p found ≡ false) there untold)
