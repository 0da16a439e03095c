use Rattle.std.proofs.Common.{refl}
use Rattle.board_statements.specs.Statements.{behind_word, statement_form, statement_of, first_line_of}
use Rattle.board_statements.specs.Keywords.{line_form}
use Rattle.board_statements.specs.Words.{hex_of, decimal_of, fixed_of, name_of, long_of, data_word_of}
use Rattle.board_statements.specs.Targets.{target_form, claim_form, range_form, space_of_word}
use Rattle.board_statements.specs.Masters.{master_form, burst_words, burst_write_form}
use Rattle.dma_agents.specs.DeviceLines.{flag_form, device_form, handler_form, put_form, get_form, look_form, send_form, wait_form, word_form, form_behind, device_line}
use Rattle.dma_agents.proofs.laws.worked_devices.Goals as goal

pub returns-clause-made : goal.returns-clause-made
unfolding behind_word statement_form statement_of first_line_of line_form hex_of decimal_of fixed_of name_of long_of data_word_of target_form claim_form range_form space_of_word master_form burst_words burst_write_form flag_form device_form handler_form put_form get_form look_form send_form wait_form word_form form_behind device_line
returns-clause-made c = refl

pub returns-clause-twice : goal.returns-clause-twice
unfolding behind_word statement_form statement_of first_line_of line_form hex_of decimal_of fixed_of name_of long_of data_word_of target_form claim_form range_form space_of_word master_form burst_words burst_write_form flag_form device_form handler_form put_form get_form look_form send_form wait_form word_form form_behind device_line
returns-clause-twice c = refl
