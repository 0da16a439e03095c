use Rattle.std.proofs.Common.{subst, ◌≡◌, ℕ, Bool, false, Result, Ok}
use Rattle.board_model.specs.declared.bridge.Bridge.{Bridge}
use Rattle.board_model.specs.declared.board.Board.{Board}
use Rattle.board_headers.specs.declared.windows.Windows.{Windows}
use Rattle.board_headers.specs.declared.fault.HeaderFault.{HeaderFault}
use Rattle.text_faults.specs.declared.board_line.LineFault.{LineFault}
use Rattle.text_faults.specs.declared.or_no_memory.OrNoMemory.{OrNoMemory}
use Rattle.board_parser.specs.declared.draft.draft.Draft.{Draft}
use Rattle.board_parser.specs.draft.Steps.{Changes}
use Rattle.board_parser.specs.draft.Bridges.{put_bridge, is_too_wide, bridge_of, put_header}
use Rattle.board_parser.proofs.draft.bridges.put_header.Goals as goal

-- where a header is read, it is the bridge that is put
header_put : {U : Type 0} (wide : Bool) (board : Board) (device posted delayed : ℕ) (reading : Result Windows HeaderFault) (windows : Windows) (bridge : Bridge) (answer : Result U (OrNoMemory LineFault)) (changed : Draft) → reading ≡ Ok windows → is_too_wide wide windows.pref ≡ false → bridge ≡ bridge_of windows device posted delayed → Changes answer changed (put_bridge wide board bridge) → Changes answer changed (put_header wide board device posted delayed reading)
header_put wide board device posted delayed reading windows bridge answer changed is narrow same put =
    let P : Bridge → Type 0 = λ b. Changes answer changed (put_bridge wide board b) in
    let told : Changes answer changed (put_bridge wide board (bridge_of windows device posted delayed)) = subst P same put in
    rw (is, narrow) told

pub returns-else-is_too_wide : goal.returns-else-is_too_wide
returns-else-is_too_wide c = header_put c.args.draft.now.wide c.args.draft.now.board c.args.device c.args.posted c.args.delayed c.args.reading c.in-Ok.windows c.bridge_of-bridge.result c.put_bridge.result c.put_bridge.new.draft c.in-Ok.is (cc) c.bridge_of-bridge.ensures c.put_bridge.ensures
