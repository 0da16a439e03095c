use Rattle.std.proofs.Common.{refl}
use Rattle.board_tree.proofs.DecodableLemmas.{IsDecodable-valid}
use Rattle.judge_state.proofs.FirstLemmas.{stands_first}
use Rattle.judge_state.proofs.kept.Kept.before_all.Goals as goal

pub new-requires-5 : goal.new-requires-5
new-requires-5 c = record { decodable = IsDecodable-valid c.args.board.now c.requires.valid; sites = c.requires.sites }

pub returns : goal.returns
returns c = stands_first c.args.rule c.args.board.now _ refl c.requires.valid c.in_ok-new.ensures c.in_ok-new-2.ensures c.in_ok-new-3.ensures c.in_ok-new-4.ensures c.in_ok-new-5.ensures
