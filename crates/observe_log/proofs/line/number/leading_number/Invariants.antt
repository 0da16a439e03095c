use Rattle.std.proofs.Common.{◌≡◌, ◌≤◌, true, take}
use Rattle.std.specs.List.{list_all}
use Rattle.std.specs.Char.{is_digit}
use Rattle.std.specs.Str.Parse.{digits_value}
use Rattle.observe_log.proofs.line.number.leading_number.Given as goal

-- the bytes so far are digits, of which this is the value
abbrev pub invariant-loop-byte : goal.invariant-loop-byte
invariant-loop-byte l = record {
  counted : l.count ≡ l.byte-index;
  few : l.count ≤ l.most;
  digits : list_all (λ byte. is_digit byte l.radix) (take l.byte-index l.text) ≡ true;
  value : l.value ≡ digits_value l.radix (take l.byte-index l.text);
}
