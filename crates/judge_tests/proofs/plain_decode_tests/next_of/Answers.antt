use Rattle.judge_tests.proofs.plain_decode_tests.next_of.Goals as goal

pub returns-clause-ends : goal.returns-clause-ends
returns-clause-ends c = λ op on. c.ways_end.ensures.ends _ op on (c.ways_end.ensures.of_valid _ c.board-board.ensures.valid)
