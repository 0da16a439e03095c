-- The finding of the relay is so, by the definitions alone.
use Rattle.std.proofs.Common.{ℕ, List, [], drop, refl, arith, inr}
use Rattle.pci_command.specs.declared.command.Space.TheVariants.{Mem}
use Rattle.pci_command.specs.declared.op_id.OpId.{OpId}
use Rattle.history_model.specs.declared.event.Event.{Event}
use Rattle.history_model.specs.Knowledge.{Told, one, more}
use Rattle.history_model.specs.Runs.{history_of}
use Rattle.law_fresh.proofs.Laws.{each_contains}
use Rattle.law_audit.specs.Sound.{Knew, IsFound, AreSound}
use Rattle.worked_runs.specs.Audited.{relay_chain, relay_findings}
use Rattle.worked_runs.specs.Relay.{relay_board, relay_events, first_write, last_read}

abbrev history : List Event
history = history_of relay_events

abbrev op : ℕ → ℕ → ℕ → OpId
op master index attempt = record { master = master; index = index; attempt = attempt }

-- the third master was told of the first write as it saw its flag
told : Told relay_board history first_write (op 2 0 2)
told = (
  refl,
  more first_write (op 0 1 0) (op 2 0 2) refl
      (more (op 0 1 0) (op 1 0 1) (op 2 0 2) refl
      (more (op 1 0 1) (op 1 1 0) (op 2 0 2) refl
      (one (op 1 1 0) (op 2 0 2) refl))),
)

knew : Knew relay_board history first_write last_read
knew = record { writes = refl; by = op 2 0 2; before = refl; known = inr told }

relay_so : IsFound relay_board history (record { read = last_read; word = record { target = 0; space = Mem; address = 0x10000000 }; value = 5; write = first_write; chain = relay_chain })
relay_so =
    record {
      reading = record { word = record { target = 0; space = Mem; address = 0x10000000 }; value = 5; before = drop 1 history };
      is_got = refl;
      is_word = refl;
      is_value = refl;
      knew = knew;
      is_chain = (refl, (refl, (refl, (refl, (refl, (refl, refl))))));
      ahead = [];
      landing = record { op = first_write; phase = record { value = 5; enables = 15 } };
      behind = [];
      is_of = refl;
      is_landed = refl;
      is_last = λ x among _. omega (arith, among.1);
    }

pub relay_sound : AreSound relay_board history
relay_sound found among = each_contains (IsFound relay_board history) relay_findings found (relay_so, tt) among.0 among.1 among.2
